-- Words and messages: when five words cross, and which message they are.
use Rattle.std.specs.Prelude.{Some, None, Option}
use Prim.Native.Nat.{ℕ, ◌<◌, ◌≤◌}
use mathlib.Core.Path.{◌≡◌, refl, sym, ap, ◌∙◌}
use mathlib.Core.Bool.{Bool, true, false, ◌&&◌}
use mathlib.Core.List.{List}
use lib.Dec.{eqb, leb}
use lib.ListN.{length, get_or}
use borrow.Author.Tests.{le-leb, lt-leb, ne_eqb, leb-true}
use Rattle.ids.specs.Limits.{max_short}
use Rattle.ids.proofs.Choice.{both, of_choice}
use Rattle.wire.specs.Format.{valid_fields, message_of}
use Rattle.wire.specs.declared.Fields.{Fields}
use Rattle.wire.specs.declared.Message.{Message}
use Rattle.words.specs.Messages.{fits, fields_from, crossing, crossed_says, five_says, message_in, message_or, no_message}

module _ (kind client server owner : ℕ) where
  pub fit_kind : max_short < kind → false ≡ fits kind client server owner
  unfolding fits
  fit_kind h = rw (lt-leb _ _ h)

  pub fit_client : kind ≤ max_short → max_short < client → false ≡ fits kind client server owner
  unfolding fits
  fit_client a h = rw (le-leb _ _ a, lt-leb _ _ h)

  pub fit_server : kind ≤ max_short → client ≤ max_short → max_short < server → false ≡ fits kind client server owner
  unfolding fits
  fit_server a b h = rw (le-leb _ _ a, le-leb _ _ b, lt-leb _ _ h)

  pub fit_owner : kind ≤ max_short → client ≤ max_short → server ≤ max_short → leb owner max_short ≡ fits kind client server owner
  unfolding fits
  fit_owner a b c = rw (le-leb _ _ a, le-leb _ _ b, le-leb _ _ c)

module _ (ws : List ℕ) where
  pub cross_length : (length ws ≡ 5 → ⊥) → None ≡ crossing ws
  unfolding crossing
  cross_length n = rw (ne_eqb (length ws) 5 n)

  module _ (l : length ws ≡ 5) (x : Bool) (f : x ≡ fits (get_or ws 0 0) (get_or ws 1 0) (get_or ws 2 0) (get_or ws 4 0)) where
    pub cross_large : x ≡ false → None ≡ crossing ws
    unfolding crossing
    cross_large n = let u : x ≡ false = n in rw (l, ← f, u)

    module _ (n : x ≡ true) where
      pub cross_small : (get_or ws 0 0 ≤ max_short) × (get_or ws 1 0 ≤ max_short) × (get_or ws 2 0 ≤ max_short) × (get_or ws 4 0 ≤ max_short)
      unfolding fits
      cross_small =
          let t : x ≡ true = n in
          let (
            k,
            r₁,
          ) = both (leb (get_or ws 0 0) max_short) (leb (get_or ws 1 0) max_short && (leb (get_or ws 2 0) max_short && leb (get_or ws 4 0) max_short)) (sym f ∙
          t) in
          let (a, r₂) = both (leb (get_or ws 1 0) max_short) (leb (get_or ws 2 0) max_short && leb (get_or ws 4 0) max_short) r₁ in
          let (b, c) = both (leb (get_or ws 2 0) max_short) (leb (get_or ws 4 0) max_short) r₂ in
          (leb-true _ _ k, leb-true _ _ a, leb-true _ _ b, leb-true _ _ c)

      pub cross_numbers : (g : Fields) → g ≡ fields_from ws → Some g ≡ crossing ws
      unfolding crossing
      cross_numbers g e = let t : x ≡ true = n in rw (e, l, ← f, t)

-- the message, from what crossed
module _ (ws : List ℕ) (g : Option Fields) (e : g ≡ crossing ws) (m : Message) where
  pub in_large : g ≡ None → m ≡ no_message → m ≡ message_or (message_in ws)
  in_large a p = let q : crossing ws ≡ None = cc in rw (q, p)

  module _ (f : Fields) (a : g ≡ Some f) (b : Bool) (v : b ≡ valid_fields f) where
    pub in_invalid : b ≡ false → m ≡ no_message → m ≡ message_or (message_in ws)
    in_invalid n p = let q : crossing ws ≡ Some f = cc in let u : valid_fields f ≡ false = sym v ∙ n in rw (q, u, p)

    pub in_valid : b ≡ true → m ≡ message_of f → m ≡ message_or (message_in ws)
    in_valid n p = let q : crossing ws ≡ Some f = cc in let u : valid_fields f ≡ true = sym v ∙ n in rw (q, u, p)

-- the same in document 01's numbers
five_row : (ws : List ℕ) → crossed_says (crossing ws) ≡ five_says ws
unfolding crossing five_says
five_row ws =
    of_choice crossed_says (eqb (length ws) 5 && fits (get_or ws 0 0) (get_or ws 1 0) (get_or ws 2 0) (get_or ws 4 0)) (Some (fields_from ws)) None refl refl

pub cross_said : (ws : List ℕ) (r : Option Fields) → r ≡ crossing ws → (r ≡ crossing ws) × (crossed_says r ≡ five_says ws)
cross_said ws r e = (e, ap crossed_says e ∙ five_row ws)
