-- What valid words say, for the layer above; and words that are all 0, in which no message is in transit.
use Prim.Native.Nat.{ℕ}
use mathlib.Core.Path.{◌≡◌, refl, sym, ap, ◌∙◌}
use mathlib.Core.Bool.{true}
use mathlib.Core.List.{List, []}
use lib.Dec.{eqb}
use lib.ListN.{length, replicate, take-append-drop}
use Rattle.ids.specs.Lists.{every}
use Rattle.ids.proofs.ListLaws.{every-parts, every-same}
use Rattle.sim_transit.specs.Slots.{transit_size}
use Rattle.sim_transit.proofs.Kept as transit
use Rattle.sim_transit.proofs.Determined.{zeros-same}
use Rattle.sim_index.specs.Index.{index_size}
use Rattle.sim_index.proofs.Means.{index-none}
use Rattle.sim_indexed.specs.Indexed.{indexed_size, table, index, in_transit, afresh}
use Rattle.sim_indexed.specs.Calls.{Valid}
use Rattle.sim_indexed.proofs.IndexedLaws.{from_parts, table-long, index-long}

-- no message is in transit
pub none-there : (t : List ℕ) → in_transit 0 t ≡ []
none-there t = transit.slots-none (table t)

pub valid-none : (n clients sent : ℕ) (t : List ℕ) → length t ≡ indexed_size → every (eqb 0) t ≡ true → Valid n clients sent 0 t
valid-none n clients sent t l z =
    let both : (every (eqb 0) (table t) ≡ true) × (every (eqb 0) (index t) ≡ true) = every-parts (eqb 0) (table t) (index t) (rw (take-append-drop transit_size t) z) in
    let zeros : index t ≡ replicate index_size 0 =
    zeros-same (index t) (replicate index_size 0) (index-long t l) both.1 (every-same (eqb 0) index_size 0 refl) in
    from_parts n clients sent 0 t (record {
      size = l;
      fit = transit.valid-none n clients sent (table t) (table-long t l) both.0;
      listed = zeros ∙ sym (ap afresh (none-there t) ∙ index-none);
    })
