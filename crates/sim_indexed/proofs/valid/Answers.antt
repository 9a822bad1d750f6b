-- The slots are tested, and then the index is made afresh and compared.
use native.Mathlib.Omega.{arith}
use Rattle.sim_indexed.proofs.ListingLaws.{making_none, making_all, wrong_size, wrong-slots, index_decides}
use Rattle.sim_indexed.proofs.valid.Goals as goal

pub returns-then-t-ne-INDEXED_WORDS : goal.returns-then-t-ne-INDEXED_WORDS
returns-then-t-ne-INDEXED_WORDS c = search wrong_size

pub returns-then-not-valid : goal.returns-then-not-valid
returns-then-not-valid c = search wrong-slots

pub loop-i-init : goal.loop-i-init
loop-i-init c = making_none _ _ _ _ _ c.requires _ c.valid.ensures c.if-not-valid.false

pub returns : goal.returns
returns c =
    index_decides _ _ _ _ _ c.if-t-ne-INDEXED_WORDS.false _ c.valid.ensures c.if-not-valid.false
    _ (making_all _ _ _ _ _ _ _ c.loop-i.invariant (omega arith)) _ c.same.ensures
