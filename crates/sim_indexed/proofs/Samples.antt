-- The index that was worked out by hand is the one that the definitions give, by computation.
use mathlib.Core.Path.{◌≡◌, refl}
use Rattle.system.specs.Index.{index_of}
use Rattle.system.proofs.Tokens.{All, empty, more}
use Rattle.sim_index.specs.Index.{of_place, sorted, counts, padded, index_words}
use Rattle.sim_indexed.specs.Indexed.{afresh}
use Rattle.sim_indexed.specs.Samples.{Row, rows, taken, restarted, taken_words}

pub record Holds (x : Row) : Type 0 where
  pub before : index_of x.receiver taken ≡ x.before
  pub after : index_of x.receiver restarted ≡ x.after

pub rows_hold : All Holds rows
unfolding index_of
rows_hold =
    more (record { before = refl; after = refl }) (more (record { before = refl; after = refl }) (more (record { before = refl; after = refl })
    (more (record { before = refl; after = refl }) (more (record { before = refl; after = refl }) (more (record { before = refl; after = refl }) empty)))))

pub words_hold : afresh taken ≡ taken_words
unfolding index_words counts sorted of_place padded
words_hold = refl
