-- The invariant: the replies to the first i places stand in the buffer.
use Rattle.client_responses.proofs.RoundLaws.{Replying}
use Rattle.client_responses.proofs.send_round.Given as goal

abbrev pub invariant-loop-i : goal.invariant-loop-i
invariant-loop-i l = Replying l.r l.row l.n l.fn.out l.out l.at l.i
