-- The mail of the first i slots and the line of slot i are the mail of one slot more; the used slots are the messages in transit.
use mathlib.Core.Path.{◌≡◌, refl}
use Prim.Native.Nat.{ℕ, suc, ◌+◌, ◌*◌}
use native.Mathlib.Numerals.{add-one}
use mathlib.Core.List.{List, [], ◌∷◌, ◌++◌, map-append, append_assoc, append-nil}
use lib.ListN.{take, drop}
use Rattle.system.specs.Transit.{InTransit}
use Rattle.sim_transit.specs.Slots.{rows, slots, slot_of, slot_at}
use Rattle.sim_transit.proofs.RowsLaws.{rows_next}
use Rattle.sim_indexed.specs.Indexed.{in_transit}
use Rattle.sim_layout.specs.Layout.{length_of, transit_words, view}
use Rattle.text_sheet.specs.Sheet.{Sheet, puts}
use Rattle.text_sheet.proofs.SheetLaws.{then as behind}
use Rattle.text_knowledge.specs.Mail.{in_transit_text, mail_text}

pub its-transit : (w : List ℕ) → in_transit (length_of w) (transit_words w) ≡ (view w).transit
unfolding view
its-transit w = refl

-- the mail, one message more
mail_append : (a b : List InTransit) → mail_text (a ++ b) ≡ mail_text a ++ mail_text b
unfolding mail_text
mail_append [] b = refl
mail_append (x ∷ a) b = rw (mail_append a b, append_assoc (in_transit_text x) (mail_text a) (mail_text b))

mail_one : (x : InTransit) → mail_text (x ∷ []) ≡ in_transit_text x
unfolding mail_text
mail_one x = append-nil (in_transit_text x)

module _ (t : List ℕ) where
  slots_next : (i : ℕ) → slots (suc i) t ≡ slots i t ++ (slot_at t i ∷ [])
  unfolding slots
  slots_next i = rw (rows_next i t) (map-append slot_of (rows i t) (take 7 (drop (7 * i) t) ∷ []))

  pub mail_none : (s : Sheet) → s ≡ puts (mail_text (slots 0 t)) s
  unfolding slots rows mail_text puts
  mail_none s = refl

  pub mail_more : (i : ℕ) (s₀ : Sheet) {s₁ s₂ : Sheet} → s₁ ≡ puts (mail_text (slots i t)) s₀ → s₂ ≡ puts (in_transit_text (slot_at t i)) s₁
      → s₂ ≡ puts (mail_text (slots (i + 1) t)) s₀
  mail_more i s₀ p q =
      rw (add-one i, slots_next i, mail_append (slots i t) (slot_at t i ∷ []), mail_one (slot_at t i)) (behind s₀ _ _ p q)
