-- A message is taken by its number: it is not there, or it is found, pending, in a slot.
use Rattle.ids.specs.declared.Refusal.{Refusal}
use Rattle.std.specs.Prelude.{Err, Result, None}
use mathlib.Core.Path.{◌≡◌, sym, subst, ◌∙◌}
use Prim.Native.Nat.{ℕ, ◌≤◌, ◌<◌}
use native.Mathlib.Omega.{arith}
use mathlib.Core.Bool.{true, false}
use mathlib.Core.List.{List}
use mathlib.Core.Logic.{⊎_elim}
use lib.Dec.{ltb}
use borrow.Author.Tests.{ltb-true, ltb-false}
use Rattle.ids.specs.declared.Refusal.TheVariants.{NoSuchParty}
use Rattle.ids.proofs.Choice.{decided}
use Rattle.wire.specs.declared.Message.{Message}
use Rattle.client_responses.specs.Figure1.{enough}
use Rattle.system.specs.declared.MessageNumber.{MessageNumber}
use Rattle.system.specs.declared.Event.TheVariants.{Take}
use Rattle.system.specs.Transit.{pending}
use Rattle.sim_indexed.specs.Indexed.{table, slot_in}
use Rattle.sim_transit.specs.Calls.{first_slot, is_pending}
use Rattle.sim_transit.proofs.Means.{FindsPending}
use Rattle.sim_transit.proofs.FindLaws.{finds_pending}
use Rattle.sim_layout.specs.Layout.{setting_of, length_of, transit_words, view, valid}
use Rattle.sim_changes.specs.Happens.{happens, Leaves, moved_of}
use Rattle.sim_changes.specs.Changes.{Pends, number_at}
use Rattle.sim_changes.proofs.Answers.{takes-nothing}
use Rattle.sim_changes.proofs.Leaving.{leaves_refused}

below : (a b : ℕ) → a ≤ b → (a ≡ b → ⊥) → a < b
below a b h n =
    ⊎_elim (λ (t : ltb a b ≡ true). ltb-true a b t) (λ (t : ltb a b ≡ false). absurd (n (omega (arith, ltb-false a b t)))) (decided (ltb a b))

-- the message with a number is found
module _ (w : List ℕ) (number : MessageNumber) (ok : valid w ≡ true) (i : ℕ) (at : i ≡ first_slot (is_pending number.0) (view w).transit) where
  F : FindsPending number.0 (length_of w) (table (transit_words w)) i
  unfolding view
  F = finds_pending number.0 (length_of w) (table (transit_words w)) i at

  none_found : i ≡ length_of w → pending number.0 (view w).transit ≡ None
  unfolding view
  none_found e = F.missing e

  pub take-nothing : i ≡ length_of w → Leaves w (Take number) w × (Err NoSuchParty ≡ moved_of (happens w (Take number)))
  take-nothing e = leaves_refused w (Take number) NoSuchParty ok (takes-nothing (setting_of w).n (enough (setting_of w).m) (view w) number (none_found e))

  module _ (used : i ≡ length_of w → ⊥) where
    pub take-used : i < length_of w
    take-used = below i (length_of w) F.within used

    its-number : number_at w i ≡ number
    its-number = let e = F.numbered take-used in λ x. record { 0 = e x }

    pub take_pends : (m : Message) → m ≡ (slot_in (transit_words w) i).message → (m' : Message) → m ≡ m' → Pends w i m'
    unfolding view
    take_pends m h m' e =
        let p = F.found take-used in
        let q = F.numbered take-used in
        record { slot = record { valid = ok; used = take-used }; holds = sym h ∙ e; waits = rw (q, ← e, h) p }

    pub take_leaves : (w' : List ℕ) (r : Result ℕ Refusal) → Leaves w (Take (number_at w i)) w' × (r ≡ moved_of (happens w (Take (number_at w i))))
        → Leaves w (Take number) w' × (r ≡ moved_of (happens w (Take number)))
    take_leaves w' r L = subst (λ (x : MessageNumber). Leaves w (Take x) w' × (r ≡ moved_of (happens w (Take x)))) its-number L
