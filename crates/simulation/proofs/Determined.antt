-- The contracts say every word: what `event` may leave of given words is one list of words, and so is what `new` may leave. For the system and the
-- setting are given, the words left are valid, and these determine them (`sim_layout/proofs` `Determined`).
use Prim.Native.Nat.{ℕ}
use mathlib.Core.Path.{◌≡◌, sym, ◌∙◌}
use mathlib.Core.Bool.{true, false}
use mathlib.Core.List.{List}
use mathlib.Core.Logic.{⊎_elim}
use lib.ListN.{length}
use Rattle.ids.proofs.Choice.{decided}
use Rattle.system.specs.declared.Event.{Event}
use Rattle.system.specs.declared.Setting.{Setting}
use Rattle.sim_layout.specs.Layout.{valid}
use Rattle.sim_layout.proofs.Determined.{same-words}
use Rattle.sim_changes.specs.Happens.{Leaves, EventLeaves}
use Rattle.sim_changes.specs.Opening.{Starts}
use Rattle.simulation.specs.Opens.{opens, NewLeaves}

leaves_one : (w : List ℕ) (e : Event) (w₁ w₂ : List ℕ) → Leaves w e w₁ → Leaves w e w₂ → w₁ ≡ w₂
leaves_one w e w₁ w₂ a b = same-words w₁ w₂ a.again b.again (a.setting ∙ sym b.setting) (a.system ∙ sym b.system)

pub event_determined : (w : List ℕ) (e : Event) (w₁ w₂ : List ℕ) → EventLeaves w e w₁ → EventLeaves w e w₂ → w₁ ≡ w₂
event_determined w e w₁ w₂ a b =
    ⊎_elim
    (λ (v : valid w ≡ true). leaves_one w e w₁ w₂ (a.valid_leaves v) (b.valid_leaves v))
    (λ (v : valid w ≡ false). a.invalid_kept v ∙ sym (b.invalid_kept v))
    (decided (valid w))

starts-one : (s : Setting) (w₁ w₂ : List ℕ) → Starts s w₁ → Starts s w₂ → w₁ ≡ w₂
starts-one s w₁ w₂ a b = same-words w₁ w₂ a.again b.again (a.setting ∙ sym b.setting) (a.system ∙ sym b.system)

pub new_determined : (s : Setting) (w w₁ w₂ : List ℕ) → NewLeaves s w w₁ → NewLeaves s w w₂ → w₁ ≡ w₂
new_determined s w w₁ w₂ a b =
    ⊎_elim
    (λ (o : opens (length w) s ≡ true). starts-one s w₁ w₂ (a.starts o) (b.starts o))
    (λ (o : opens (length w) s ≡ false). a.kept o ∙ sym (b.kept o))
    (decided (opens (length w) s))
