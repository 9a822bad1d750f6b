-- The messages before message i stand in the slots, and the bytes from `from` on begin with the others.
use Rattle.sim_transit.proofs.PostLaws.{Posting}
use Rattle.sim_transit.proofs.post.Given as goal

abbrev pub invariant-loop-i : goal.invariant-loop-i
invariant-loop-i l = Posting l.len l.sent l.count l.bytes l.initial.t l.t l.number l.from l.i
