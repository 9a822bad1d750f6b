-- A receiver's entries: the i-th goes behind the first i of them, and where nothing is listed these are all. The boxes of the first i receivers
-- of a kind, one box more.
use mathlib.Core.Path.{◌≡◌, refl, ap, ◌∙◌}
use Prim.Native.Nat.{ℕ, zero, suc, ◌+◌, ◌≤◌}
use native.Mathlib.Omega.{arith}
use native.Mathlib.Numerals.{add-one}
use mathlib.Core.Bool.{Bool, true, false}
use mathlib.Core.List.{List, [], ◌∷◌, ◌++◌}
use lib.ListN.{length, take}
use lib.Seq.{take_all}
use Rattle.std.specs.Prelude.{if◌then◌else◌, Some, None}
use Rattle.system.specs.Index.{is_to, Entry, entry_of, index_of}
use Rattle.system.specs.Places.{System}
use Rattle.system.specs.Transit.{InTransit}
use Rattle.system.specs.declared.MessageNumber.{MessageNumber}
use Rattle.system.specs.declared.Receiver.{Receiver}
use Rattle.sim_transit.proofs.Kept.{length-slots}
use Rattle.sim_indexed.specs.Indexed.{table, listed_at}
use Rattle.sim_layout.specs.Layout.{length_of, transit_words, view}
use Rattle.text_sheet.specs.Sheet.{Sheet, puts}
use Rattle.text_sheet.proofs.SheetLaws.{then as behind}
use Rattle.text_knowledge.specs.Boxes.{entry_text, entries_text, box_text, boxes_of}

-- no receiver has more entries than messages are in transit
index-few : (r : Receiver) (l : List InTransit) → length (index_of r l) ≤ length l
unfolding index_of
index-few r [] = omega arith
index-few r (x ∷ l) = go (is_to r x.message) (index-few r l)
  where
    go : (b : Bool) → length (index_of r l) ≤ length l → length (if b then entry_of x ∷ index_of r l else index_of r l) ≤ suc (length l)
    go true h = omega (arith, h)
    go false h = omega (arith, h)

pub entries_few : (w : List ℕ) (r : Receiver) → length (index_of r (view w).transit) ≤ length_of w
unfolding view
entries_few w r = omega (arith, index-few r (view w).transit, length-slots (length_of w) (table (transit_words w)))

pub none_past : (l : List Entry) (i : ℕ) → None ≡ listed_at l i → length l ≤ i
unfolding listed_at
none_past [] i e = omega arith
none_past (x ∷ l) zero e = let z : ◌≡◌ {A = ℕ} 0 1 = cc in omega arith
none_past (x ∷ l) (suc i) e = omega (arith, none_past l i e)

module _ (n : MessageNumber) (d : Bool) where
  listed_next : (l : List Entry) (i : ℕ) → Some (n, d) ≡ listed_at l i
      → entries_text (take (suc i) l) ≡ entries_text (take i l) ++ entry_text (record { number = n.0; delivered = d })
  unfolding listed_at entries_text
  listed_next [] i e = let z : ◌≡◌ {A = ℕ} 0 1 = cc in absurd (omega arith)
  listed_next (x ∷ l) zero e =
      let both : ◌≡◌ {A = MessageNumber × Bool} (n, d) (record { 0 = x.number }, x.delivered) = cc in
      rw (ap (λ (y : MessageNumber × Bool). y.0.0) both, ap (λ (y : MessageNumber × Bool). y.1) both)
  listed_next (x ∷ l) (suc i) e = rw (listed_next l i e)

module _ (l : List Entry) (s₀ : Sheet) where
  pub entries_none : s₀ ≡ puts (entries_text (take 0 l)) s₀
  unfolding entries_text puts
  entries_none = refl

  pub entries_more : (i : ℕ) (n : MessageNumber) (d : Bool) {s₁ s₂ : Sheet} → Some (n, d) ≡ listed_at l i → s₁ ≡ puts (entries_text (take i l)) s₀
      → s₂ ≡ puts (entry_text (record { number = n.0; delivered = d })) s₁ → s₂ ≡ puts (entries_text (take (i + 1) l)) s₀
  entries_more i n d e p q = rw (add-one i, listed_next n d l i e) (behind s₀ _ _ p q)

  pub entries_all : (i : ℕ) {s : Sheet} → length l ≤ i → s ≡ puts (entries_text (take i l)) s₀ → s ≡ puts (entries_text l) s₀
  entries_all i h p = p ∙ ap (λ (m : List Entry). puts (entries_text m) s₀) (take_all i l h)

-- the boxes of the first i receivers
module _ (kind : ℕ → Receiver) (u : System) where
  pub boxes_none : (s : Sheet) → s ≡ puts (boxes_of kind u 0) s
  unfolding boxes_of puts
  boxes_none s = refl

  pub boxes_more : (i : ℕ) (s₀ : Sheet) {s₁ s₂ : Sheet} → s₁ ≡ puts (boxes_of kind u i) s₀ → s₂ ≡ puts (box_text u (kind (i + 1))) s₁
      → s₂ ≡ puts (boxes_of kind u (i + 1)) s₀
  unfolding boxes_of
  boxes_more i s₀ p q = rw (add-one i) (behind s₀ _ _ p (rw (add-one i) at q))
