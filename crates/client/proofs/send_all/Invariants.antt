-- The invariant: the messages to the servers 1 to j stand in the buffer, one behind another, whatever function the calls agree with.
use Rattle.std.proofs.Common.{◌≡◌, ◌*◌}
use Rattle.ids.specs.declared.ServerId.{ServerId}
use Rattle.wire.specs.Format.{message_bytes}
use Rattle.wire.specs.declared.Message.{Message}
use Rattle.client_responses.proofs.SendLaws.{Sending}
use Rattle.client.proofs.send_all.Given as goal

abbrev pub invariant-loop-j : goal.invariant-loop-j
invariant-loop-j g l = record {
  behind : l.at ≡ message_bytes * l.j;
  sent : (f : ServerId → Message) → ((j : ServerId) (m : Message) → goal.F-post g l.message j m → m ≡ f j) → Sending f l.fn.out l.out l.at l.j;
}
