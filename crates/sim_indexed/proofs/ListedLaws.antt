-- The words of the index have for each receiver its list: the numbers of the messages in transit to it, and beside them whether each is delivered.
use Prim.Native.Nat.{ℕ, ◌<◌, ◌≤◌}
use native.Mathlib.Omega.{arith}
use mathlib.Core.Path.{◌≡◌, refl, ap, ◌∙◌}
use mathlib.Core.Bool.{Bool, true, false}
use mathlib.Core.List.{List, [], ◌∷◌, map}
use lib.Dec.{eqb}
use lib.ListN.{length, length-map}
use Rattle.std.specs.Prelude.{if◌then◌else◌}
use Rattle.system.specs.Limits.{system_messages}
use Rattle.system.specs.Transit.{InTransit}
use Rattle.system.specs.Index.{Entry, entry_of, index_of}
use Rattle.system.specs.declared.Receiver.{Receiver}
use Rattle.sim_transit.specs.Slots.{slots}
use Rattle.sim_transit.proofs.Kept.{valid-kept, length-slots}
use Rattle.sim_index.specs.Index.{receivers, of_place}
use Rattle.sim_index.specs.Calls.{numbers_in, marks_in}
use Rattle.sim_index.specs.declared.Card.{Card}
use Rattle.sim_index.proofs.Means.{numbers-listed, marks_listed}
use Rattle.sim_indexed.specs.Indexed.{table, index, in_transit, place_of, card_of, entries_at}
use Rattle.sim_indexed.specs.Calls.{Few, Valid}
use Rattle.sim_indexed.proofs.IndexedLaws.{parts, its-few}
use Rattle.sim_indexed.proofs.ReceiverLaws.{Placed, entries_to}

-- an entry's words
abbrev pub number_of : Entry → ℕ
number_of e = e.number

abbrev pub mark_of : Entry → ℕ
mark_of e = if e.delivered then 1 else 0

-- the cards at a place are its entries, by either word
module _ (f : Card → ℕ) (g : Entry → ℕ) (same : (x : InTransit) → f (card_of x) ≡ g (entry_of x)) where
  cards_entries : (p : ℕ) (l : List InTransit) → map f (of_place p (map card_of l)) ≡ map g (entries_at p l)
  unfolding of_place entries_at
  cards_entries p [] = refl
  cards_entries p (x ∷ l) = go (eqb (card_of x).place p) (cards_entries p l)
    where
      go : (b : Bool) → map f (of_place p (map card_of l)) ≡ map g (entries_at p l)
          → map f (if b then card_of x ∷ of_place p (map card_of l) else of_place p (map card_of l)) ≡ map g (if b then entry_of x ∷ entries_at p l else entries_at p l)
      go true e = λ i. same x i ∷ e i
      go false e = e

module _ (n clients sent len : ℕ) (t : List ℕ) (F : Few n clients) (ok : Valid n clients sent len t) (r : Receiver) (own : Placed r)
    (there : place_of r < receivers) where
  abbrev messages : List InTransit
  messages = slots len (table t)

  few : length (map card_of messages) ≤ system_messages
  few = omega (arith, length-map messages card_of, length-slots len (table t), its-few n clients sent len t F ok)

  entries : entries_at (place_of r) messages ≡ index_of r (in_transit len t)
  entries = entries_to n clients F r own (valid-kept n clients sent len (table t) (parts n clients sent len t ok).fit)

  pub its-numbers : numbers_in (place_of r) (index t) ≡ map number_of (index_of r (in_transit len t))
  its-numbers =
      ap (numbers_in (place_of r)) (parts n clients sent len t ok).listed ∙
      (numbers-listed (place_of r) (map card_of messages) there ∙
      (cards_entries (λ (c : Card). c.number) number_of (λ x. refl) (place_of r) messages ∙ ap (map number_of) entries))

  pub its_marks : marks_in (place_of r) (index t) ≡ map mark_of (index_of r (in_transit len t))
  its_marks =
      ap (marks_in (place_of r)) (parts n clients sent len t ok).listed ∙
      (marks_listed (place_of r) (map card_of messages) there few ∙
      (cards_entries (λ (c : Card). c.mark) mark_of (λ x. refl) (place_of r) messages ∙ ap (map mark_of) entries))
