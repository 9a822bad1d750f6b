-- The tests with which an event begins: a party that is not there, or has fallen, or is down, refuses it; else it is there.
use Rattle.std.specs.Prelude.{Ok, Err, Result, ⊤, if◌then◌else◌}
use mathlib.Core.Path.{◌≡◌, refl, sym, ◌∙◌}
use native.Mathlib.Omega.{arith}
use Prim.Native.Nat.{ℕ}
use mathlib.Core.Bool.{Bool, true, false}
use mathlib.Core.List.{List}
use Rattle.ids.specs.Limits.{within}
use Rattle.ids.specs.declared.ClientId.{ClientId}
use Rattle.ids.specs.declared.ServerId.{ServerId}
use Rattle.ids.specs.declared.Refusal.{Refusal}
use Rattle.ids.specs.declared.Refusal.TheVariants.{NoSuchParty, PartyDown}
use Rattle.ids.proofs.Choice.{holds, fails}
use Rattle.wire.specs.Step.{refused}
use Rattle.client_responses.specs.Figure1.{enough}
use Rattle.system.specs.declared.Event.{Event}
use Rattle.system.specs.declared.Event.TheVariants.{Fall, Up}
use Rattle.system.specs.Numbered.{has}
use Rattle.system.specs.Places.{client_at, server_at}
use Rattle.system.specs.Events.{event}
use Rattle.sim_blocks.specs.Blocks.{client_place, server_place}
use Rattle.sim_layout.specs.Layout.{setting_of, view, valid}
use Rattle.sim_layout.specs.Parts.{client_block_of, server_block_of}
use Rattle.sim_changes.specs.Happens.{happens, Leaves, moved_of}
use Rattle.sim_changes.specs.Changes.{HasClient, HasServer}
use Rattle.sim_changes.proofs.Answers.{fallen_falls, ups_twice}
use Rattle.sim_changes.proofs.Leaving.{leaves_refused}
use Rattle.sim_changes.proofs.Parties as parties
use Rattle.sim_changes.proofs.ClientEvents.{client_there_in}
use Rattle.sim_changes.proofs.ServerEvents.{server_there_in}

-- client k's test, and an event v that is refused if it fails
module _ (w : List ℕ) (k : ClientId) {r : Result ⊤ Refusal} (ok : valid w ≡ true) (e : r ≡ (if within k.0 (setting_of w).clients then Ok tt else Err NoSuchParty)) where
  pub client_missing : (v : Event)
      → (has (view w).clients k.0 ≡ false → event (setting_of w).n (enough (setting_of w).m) (view w) v ≡ refused NoSuchParty)
      → {x : Refusal} → r ≡ Err x → Leaves w v w × (Err x ≡ moved_of (happens w v))
  client_missing v f {x} t = go _ refl e
    where
      go : (a : Bool) → a ≡ within k.0 (setting_of w).clients → r ≡ (if a then Ok tt else Err NoSuchParty)
          → Leaves w v w × (Err x ≡ moved_of (happens w v))
      go true q p = let z : ◌≡◌ {A = ℕ} 0 1 = cc in absurd (omega arith)
      go false q p =
          let z : x ≡ NoSuchParty = cc in
          rw z (leaves_refused w v NoSuchParty ok (f (parties.client_missing w ok k.0 false q refl)))

  pub client-here : {x : ⊤} → r ≡ Ok x → HasClient w k
  client-here {x} t = go _ refl e
    where
      go : (a : Bool) → a ≡ within k.0 (setting_of w).clients → r ≡ (if a then Ok tt else Err NoSuchParty) → HasClient w k
      go true q p = parties.client-found w ok k.0 true q refl
      go false q p = let z : ◌≡◌ {A = ℕ} 0 1 = cc in absurd (omega arith)

-- client k is there
module _ (w : List ℕ) (k : ClientId) (H : HasClient w k) {b : Bool} (f : b ≡ (client_place (client_block_of w k)).living) where
  living-here : b ≡ (client_at (view w) k).living
  living-here = sym (parties.living-is w k.0 H b f)

  pub client-lives : b ≡ true → (client_at (view w) k).living ≡ true
  client-lives u = holds b _ living-here u

  pub fall_twice : b ≡ false → Leaves w (Fall k) w × (Err PartyDown ≡ moved_of (happens w (Fall k)))
  fall_twice u =
      leaves_refused w (Fall k) PartyDown H.valid
      (fallen_falls (setting_of w).n (enough (setting_of w).m) (view w) k (client_there_in w k H) (fails b _ living-here u))

-- server j's test, and an event v that is refused if it fails
module _ (w : List ℕ) (j : ServerId) {r : Result ⊤ Refusal} (ok : valid w ≡ true) (e : r ≡ (if within j.0 (setting_of w).n then Ok tt else Err NoSuchParty)) where
  pub server_missing : (v : Event)
      → (has (view w).servers j.0 ≡ false → event (setting_of w).n (enough (setting_of w).m) (view w) v ≡ refused NoSuchParty)
      → {x : Refusal} → r ≡ Err x → Leaves w v w × (Err x ≡ moved_of (happens w v))
  server_missing v f {x} t = go _ refl e
    where
      go : (a : Bool) → a ≡ within j.0 (setting_of w).n → r ≡ (if a then Ok tt else Err NoSuchParty)
          → Leaves w v w × (Err x ≡ moved_of (happens w v))
      go true q p = let z : ◌≡◌ {A = ℕ} 0 1 = cc in absurd (omega arith)
      go false q p =
          let z : x ≡ NoSuchParty = cc in
          rw z (leaves_refused w v NoSuchParty ok (f (parties.server_missing w ok j.0 false q refl)))

  pub server-here : {x : ⊤} → r ≡ Ok x → HasServer w j
  server-here {x} t = go _ refl e
    where
      go : (a : Bool) → a ≡ within j.0 (setting_of w).n → r ≡ (if a then Ok tt else Err NoSuchParty) → HasServer w j
      go true q p = parties.server-found w ok j.0 true q refl
      go false q p = let z : ◌≡◌ {A = ℕ} 0 1 = cc in absurd (omega arith)

-- server j is there
module _ (w : List ℕ) (j : ServerId) (H : HasServer w j) {b : Bool} (f : b ≡ (server_place (server_block_of w j)).up) where
  pub up-here : b ≡ (server_at (view w) j).up
  up-here = sym (parties.up_is w j.0 H b f)

  pub server-runs : b ≡ true → (server_at (view w) j).up ≡ true
  server-runs u = holds b _ up-here u

  pub server-down : (v : Event)
      → (has (view w).servers j.0 ≡ true → (server_at (view w) j).up ≡ false
      → event (setting_of w).n (enough (setting_of w).m) (view w) v ≡ refused PartyDown)
      → b ≡ false → Leaves w v w × (Err PartyDown ≡ moved_of (happens w v))
  server-down v g u = leaves_refused w v PartyDown H.valid (g (server_there_in w j H) (fails b _ up-here u))

  pub up_twice : b ≡ true → Leaves w (Up j) w × (Err PartyDown ≡ moved_of (happens w (Up j)))
  up_twice u =
      leaves_refused w (Up j) PartyDown H.valid
      (ups_twice (setting_of w).n (enough (setting_of w).m) (view w) j (server_there_in w j H) (sym up-here ∙ u))
