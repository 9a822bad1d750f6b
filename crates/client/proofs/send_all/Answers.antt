-- The closure's message fits, as all that were sent before it did, and is the one that each such function gives.
use Rattle.std.proofs.Common.{arith, ◌≡◌}
use Rattle.wire.specs.Format.{message_bytes, size_of}
use Rattle.client_responses.proofs.SendLaws.{sending-none, sending-more}
use Rattle.client.proofs.send_all.Goals as goal

pub loop-j-init : goal.loop-j-init
loop-j-init g c = record { behind = omega arith; sent = λ f a. sending-none f _ }

pub put-at-requires : goal.put-at-requires
put-at-requires g c = let p : size_of c.message.result ≡ message_bytes = c.requires.plain _ _ c.message.ensures in omega arith

pub loop-j-preserved : goal.loop-j-preserved
loop-j-preserved g c =
    let p : size_of c.message.result ≡ message_bytes = c.requires.plain _ _ c.message.ensures in
    record {
      behind = omega arith;
      sent = λ f a. sending-more f _ _ _ _ (c.loop-j.invariant.sent f a) _ _ _ (a _ _ c.message.ensures) c.put-at.ensures;
    }
