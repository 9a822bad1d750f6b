-- The invariant: `found` places before place i pass, and the count of the rest is still to be added.
use Rattle.client_responses.specs.Figure1.{filled}
use Rattle.client_responses.proofs.CountLaws.{Counting}
use Rattle.client_responses.proofs.filled_count.Given as goal

abbrev pub invariant-loop-i : goal.invariant-loop-i
invariant-loop-i l = Counting filled l.row l.n l.found l.i
