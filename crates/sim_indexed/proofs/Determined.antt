-- The messages in transit determine their words, those of the slots and those of the index.
use Prim.Native.Nat.{ℕ}
use mathlib.Core.Path.{◌≡◌, sym, ap, ◌∙◌}
use mathlib.Core.List.{List, ◌++◌}
use lib.ListN.{take-append-drop}
use Rattle.sim_transit.specs.Slots.{transit_size}
use Rattle.sim_transit.proofs.Determined as transit
use Rattle.sim_indexed.specs.Indexed.{table, index, in_transit, afresh}
use Rattle.sim_indexed.specs.Calls.{Valid}
use Rattle.sim_indexed.proofs.IndexedLaws.{parts}

-- the same messages are as many
pub same_count : (len len' : ℕ) (s t : List ℕ) → in_transit len s ≡ in_transit len' t → len ≡ len'
same_count len len' s t e = transit.same_count len len' (table s) (table t) e

pub same-words : (n clients sent n' clients' sent' len : ℕ) (s t : List ℕ) → Valid n clients sent len s → Valid n' clients' sent' len t
    → in_transit len s ≡ in_transit len t → s ≡ t
same-words n clients sent n' clients' sent' len s t ok ok' e =
    let P = parts n clients sent len s ok in
    let Q = parts n' clients' sent' len t ok' in
    let a : table s ≡ table t = transit.same-words n clients sent n' clients' sent' len (table s) (table t) P.fit Q.fit e in
    let b : index s ≡ index t = P.listed ∙ (ap afresh e ∙ sym Q.listed) in
    sym (take-append-drop transit_size s) ∙ ((λ i. a i ++ b i) ∙ take-append-drop transit_size t)
