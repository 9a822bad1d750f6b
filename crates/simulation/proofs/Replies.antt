-- The last steps: an event's variant, its answer with the living holders, and the answer for words that may be no simulation.
use Rattle.sim_changes.specs.declared.Effect.{Effect}
use Rattle.std.specs.Prelude.{Result, Ok, Err}
use mathlib.Core.Path.{◌≡◌, refl, sym, ap, ◌∙◌}
use Prim.Native.Nat.{ℕ}
use native.Mathlib.Omega.{arith}
use mathlib.Core.Bool.{Bool, true, false}
use mathlib.Core.List.{List}
use lib.ListN.{length}
use Rattle.ids.specs.declared.Refusal.{Refusal}
use Rattle.ids.specs.declared.Refusal.TheVariants.{InvalidRecord}
use Rattle.ids.proofs.Choice.{clash, holds, fails, of_choice}
use Rattle.wire.specs.Step.{refused, stepped}
use Rattle.system.specs.declared.Event.{Event}
use Rattle.system.specs.Places.{System, holders}
use Rattle.system.specs.Events.{EventOutcome}
use Rattle.system.specs.Runs.{after}
use Rattle.sim_layout.specs.Layout.{view, valid}
use Rattle.sim_changes.specs.Happens.{happens, Leaves, moved_of, reply_of, EventLeaves, event_reply, reply_says, result_says, event_says}

-- the event is this variant
pub as_event : {w w' : List ℕ} {r : Result ℕ Refusal} {e e' : Event} → e ≡ e' → Leaves w e' w' × (r ≡ moved_of (happens w e')) → Leaves w e w' × (r ≡ moved_of (happens w e))
as_event p h = rw p h

-- a refusal, and an answer with the holders v has
refused-reply : (u : System) (o : EventOutcome) (x : Refusal) → Err x ≡ moved_of o → Err x ≡ reply_of u o
unfolding reply_of
refused-reply u (refused y) x h = let z : x ≡ y = cc in ap (λ (a : Refusal). Err a) z
refused-reply u (stepped s) x h = let z : ◌≡◌ {A = ℕ} 0 1 = cc in absurd (omega arith)

accepted-reply : (u : System) (o : EventOutcome) (v : System) (c : ℕ) → v ≡ after u o → Ok c ≡ moved_of o → Ok (record { sent = c; holders = holders v }) ≡ reply_of u o
unfolding reply_of
accepted-reply u (refused y) v c g h = let z : ◌≡◌ {A = ℕ} 0 1 = cc in absurd (omega arith)
accepted-reply u (stepped s) v c g h =
    let z : c ≡ length s.sent = cc in
    ap (λ (a : ℕ). Ok (record { sent = a; holders = holders v })) z ∙ ap (λ (a : System). Ok (record { sent = length s.sent; holders = holders a })) g

module _ (w : List ℕ) (e : Event) (w' : List ℕ) (r : Result ℕ Refusal) (h : Leaves w e w' × (r ≡ moved_of (happens w e))) where
  pub happened-refused : (x : Refusal) → r ≡ Err x → Leaves w e w' × (Err x ≡ reply_of (view w) (happens w e))
  happened-refused x g = (h.0, refused-reply (view w) (happens w e) x (sym g ∙ h.1))

  pub happened : (c i : ℕ) → r ≡ Ok c → i ≡ holders (view w') → Leaves w e w' × (Ok (record { sent = c; holders = i }) ≡ reply_of (view w) (happens w e))
  happened c i g f = (h.0, ap (λ (a : ℕ). Ok (record { sent = c; holders = a })) f ∙ accepted-reply (view w) (happens w e) (view w') c h.0.system (sym g ∙ h.1))

module _ (w : List ℕ) (e : Event) (b : Bool) (t : b ≡ valid w) where
  pub event_invalid : b ≡ false → EventLeaves w e w × (Err InvalidRecord ≡ event_reply w e)
  unfolding event_reply
  event_invalid f =
      let no = fails b (valid w) t f in
      (record { valid_leaves = λ y. clash (valid w) y no; invalid_kept = λ y. refl }, rw no)

  pub event-valid : b ≡ true → (w' : List ℕ) (r : Result Effect Refusal) → Leaves w e w' × (r ≡ reply_of (view w) (happens w e)) → EventLeaves w e w' × (r ≡ event_reply w e)
  unfolding event_reply
  event-valid f w' r h =
      let yes = holds b (valid w) t f in
      (record { valid_leaves = λ y. h.0; invalid_kept = λ y. clash (valid w) yes y }, rw yes h.1)

-- the same in document 01's numbers
pub result_row : (u : System) (o : EventOutcome) → reply_says (reply_of u o) ≡ result_says u o
unfolding reply_of
result_row u (refused x) = refl
result_row u (stepped s) = refl

event-row : (w : List ℕ) (e : Event) → reply_says (event_reply w e) ≡ event_says w e
unfolding event_reply event_says
event-row w e = of_choice reply_says (valid w) (reply_of (view w) (happens w e)) (Err InvalidRecord) (result_row (view w) (happens w e)) refl

pub event-said : (w : List ℕ) (e : Event) (w' : List ℕ) (r : Result Effect Refusal) → EventLeaves w e w' × (r ≡ event_reply w e)
    → (EventLeaves w e w' × (r ≡ event_reply w e)) × (reply_says r ≡ event_says w e)
event-said w e w' r h = (h, ap reply_says h.1 ∙ event-row w e)
