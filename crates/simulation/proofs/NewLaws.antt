-- A new simulation is refused or made, test by test.
use Rattle.ids.specs.declared.Refusal.{Refusal}
use Rattle.std.specs.Prelude.{Ok, Err, Result}
use mathlib.Core.Path.{◌≡◌, refl, ap, ◌∙◌}
use Prim.Native.Nat.{ℕ}
use mathlib.Core.Bool.{Bool, true, false}
use mathlib.Core.List.{List}
use lib.ListN.{length}
use borrow.Author.Tests.{eq-eqb, ne_eqb}
use Rattle.ids.specs.Limits.{within}
use Rattle.ids.proofs.Choice.{clash, holds, fails}
use Rattle.quorum.specs.Check.{in_range_up_to}
use Rattle.sim_changes.specs.Opening.{Starts}
use Rattle.simulation.specs.Opens.{opens, new_reply, open_says, NewLeaves}
use Rattle.sim_changes.specs.Happens.{moved_says}
use Rattle.ids.specs.declared.Refusal.TheVariants.{ParameterOutOfRange}
use Rattle.system.specs.declared.Setting.{Setting}
use Rattle.sim_layout.specs.Layout.{simulation_size}
use Rattle.system.specs.Limits.{system_clients, system_servers}

module _ (s : Setting) (w : List ℕ) where
  refuses : opens (length w) s ≡ false → NewLeaves s w w × (Err ParameterOutOfRange ≡ new_reply (opens (length w) s))
  unfolding new_reply
  refuses h = (record { starts = λ y. clash (opens (length w) s) y h; kept = λ y. refl }, rw h)

  wrong_size : (length w ≡ simulation_size → ⊥) → opens (length w) s ≡ false
  unfolding opens
  wrong_size ne = rw (ne_eqb (length w) simulation_size ne)

  pub new_size : (length w ≡ simulation_size → ⊥) → NewLeaves s w w × (Err ParameterOutOfRange ≡ new_reply (opens (length w) s))
  new_size ne = refuses (wrong_size ne)

  module _ (l : length w ≡ simulation_size) (a : Bool) (p : a ≡ in_range_up_to system_servers s.n s.m s.f) where
    wrong-range : a ≡ false → opens (length w) s ≡ false
    unfolding opens
    wrong-range t = rw (eq-eqb (length w) simulation_size l, fails a (in_range_up_to system_servers s.n s.m s.f) p t)

    pub new_range : a ≡ false → NewLeaves s w w × (Err ParameterOutOfRange ≡ new_reply (opens (length w) s))
    new_range t = refuses (wrong-range t)

    module _ (t : a ≡ true) (b : Bool) (q : b ≡ within s.clients system_clients) where
      wrong-clients : b ≡ false → opens (length w) s ≡ false
      unfolding opens
      wrong-clients u = rw (
        eq-eqb (length w) simulation_size l,
        holds a (in_range_up_to system_servers s.n s.m s.f) p t,
        fails b (within s.clients system_clients) q u,
      )

      pub new_clients : b ≡ false → NewLeaves s w w × (Err ParameterOutOfRange ≡ new_reply (opens (length w) s))
      new_clients u = refuses (wrong-clients u)

      pub new_asks : b ≡ true
          → (length w ≡ simulation_size) × (in_range_up_to system_servers s.n s.m s.f ≡ true) × (within s.clients system_clients ≡ true)
      new_asks u = (l, holds a (in_range_up_to system_servers s.n s.m s.f) p t, holds b (within s.clients system_clients) q u)

      all_right : b ≡ true → opens (length w) s ≡ true
      unfolding opens
      all_right u = rw (
        eq-eqb (length w) simulation_size l,
        holds a (in_range_up_to system_servers s.n s.m s.f) p t,
        holds b (within s.clients system_clients) q u,
      )

      pub new_starts : b ≡ true → (w' : List ℕ) → Starts s w' → NewLeaves s w w' × (Ok 0 ≡ new_reply (opens (length w) s))
      unfolding new_reply
      new_starts u w' S = (record { starts = λ y. S; kept = λ y. clash (opens (length w) s) (all_right u) y }, rw (all_right u))

-- the same in document 01's numbers
open_row : (b : Bool) → moved_says (new_reply b) ≡ open_says b
unfolding new_reply open_says
open_row true = refl
open_row false = refl

pub new_said : (s : Setting) (w w' : List ℕ) (r : Result ℕ Refusal) → NewLeaves s w w' × (r ≡ new_reply (opens (length w) s))
    → (NewLeaves s w w' × (r ≡ new_reply (opens (length w) s))) × (moved_says r ≡ open_says (opens (length w) s))
new_said s w w' r h = (h, ap moved_says h.1 ∙ open_row (opens (length w) s))
