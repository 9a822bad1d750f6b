-- A saved record taken over: what the call returns and leaves, in each way out.
use Prim.Native.Nat.{ℕ, ◌<◌, ◌≤◌}
use mathlib.Core.Path.{◌≡◌, refl}
use mathlib.Core.Bool.{Bool, true, false}
use mathlib.Core.List.{List}
use lib.ListN.{length}
use lib.Seq.{sets}
use borrow.Author.Tests.{lt-ltb, le-ltb}
use Rattle.ids.specs.Refusals.{code}
use Rattle.ids.specs.declared.Refusal.TheVariants.{InvalidRecord, RoomShort}
use Rattle.ids.proofs.Choice.{holds, fails}
use Rattle.capi.specs.Steps.{code_of, record_into, upgrade}

-- the record's words `ws`, `size` of them, where the saved ones are sound, into the words `s`
module _ (sound : Bool) (size : ℕ) (ws s : List ℕ) (x : Bool) (p : x ≡ sound) (r : ℕ) where
  abbrev Gives : ℕ → List ℕ → Type 0
  Gives r s' = (r ≡ code_of (upgrade sound size (length s) ws)) × (s' ≡ record_into s (upgrade sound size (length s) ws))

  pub upgrade_broken : x ≡ false → r ≡ code InvalidRecord → Gives r s
  unfolding upgrade
  upgrade_broken t c = rw (fails x sound p t) (c, refl)

  module _ (t : x ≡ true) where
    pub upgrade-short : length s < size → r ≡ code RoomShort → Gives r s
    unfolding upgrade
    upgrade-short h c = rw (holds x sound p t, lt-ltb (length s) size h) (c, refl)

    pub upgrade-done : (s' : List ℕ) → size ≤ length s → s' ≡ sets s 0 ws → Gives 0 s'
    unfolding upgrade
    upgrade-done s' h e = rw (holds x sound p t, le-ltb (length s) size h) (refl, e)
