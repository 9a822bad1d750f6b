-- The invariant: `found` places before place i pass, and the count of the rest is still to be added.
use Rattle.ids.specs.Requests.{is_request}
use Rattle.client_responses.proofs.CountLaws.{Counting}
use Rattle.client_responses.proofs.own_count.Given as goal

abbrev pub invariant-loop-i : goal.invariant-loop-i
invariant-loop-i l = Counting (is_request l.r) l.row l.n l.found l.i
