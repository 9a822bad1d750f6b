-- The events that send nothing: what their stores leave is the system's event.
use Rattle.std.specs.Prelude.{Ok, Err}
use mathlib.Core.Path.{◌≡◌, refl, sym, ap, ◌∙◌}
use mathlib.Core.Logic.{⊎_elim}
use Prim.Native.Nat.{ℕ, zero-le, ◌+◌, ◌*◌, ◌-◌, ◌≤◌, ◌<◌}
use native.Mathlib.Omega.{arith}
use mathlib.Core.Bool.{Bool, true, false}
use mathlib.Core.List.{List, [], map}
use lib.Dec.{ltb}
use lib.ListN.{set}
use borrow.Author.Tests.{ltb-true, ltb-false}
use lib.Seq.{sets}
use Rattle.ids.proofs.Choice.{decided}
use Rattle.ids.specs.declared.Refusal.TheVariants.{NoSuchParty}
use Rattle.ids.specs.declared.ClientId.{ClientId}
use Rattle.ids.specs.declared.ServerId.{ServerId}
use Rattle.words.specs.Records.{server_from, server_words}
use Rattle.wire.specs.Step.{stepped}
use Rattle.client_responses.specs.Figure1.{enough}
use Rattle.server_votes.specs.Figure1.{idle}
use Rattle.system.specs.declared.Event.TheVariants.{Fall, Down, Up, Drop}
use Rattle.system.specs.declared.MessageNumber.{MessageNumber}
use Rattle.system.specs.Numbered.{client_no, server_no}
use Rattle.system.specs.Transit.{replaced, gone, again}
use Rattle.system.specs.Places.{System, ClientPlace, ServerPlace, client_at, server_at, downed}
use Rattle.system.specs.Events.{fallen, came_up, dropped, went_down}
use Rattle.system.specs.Runs.{after}
use Rattle.sim_blocks.specs.Blocks.{client_place, server_place, cleared, server_record, emptied, valid_server_block, client_block, server_block, holds_server_record}
use Rattle.sim_blocks.proofs.Facts.{server-facts}
use Rattle.sim_blocks.proofs.ClientLaws.{ClientIs}
use Rattle.sim_blocks.proofs.ServerLaws.{ServerIs, rise_block, sink_block}
use Rattle.sim_blocks.proofs.EpochLaws.{fall_block}
use Rattle.sim_indexed.specs.Indexed.{table, slot_in}
use Rattle.sim_transit.specs.Calls.{first_slot, is_numbered}
use Rattle.sim_transit.proofs.Means.{FindsPresent}
use Rattle.sim_transit.proofs.FindLaws.{finds_present}
use Rattle.sim_layout.specs.Layout.{setting_of, length_of, transit_words, view, valid, clients_from, servers_from}
use Rattle.sim_layout.specs.Parts.{client_block_of, server_block_of, ServerIn}
use Rattle.sim_layout.proofs.PlaceLaws.{client-place, server-place}
use Rattle.sim_changes.specs.Happens.{happens, Leaves, moved_of}
use Rattle.sim_changes.specs.Changes.{Becomes, HasClient, HasServer, with_transit, with_clients}
use Rattle.sim_changes.specs.Inner.{with_client, with_server}
use Rattle.sim_changes.proofs.Answers.{falls, ups, drops, drops-nothing, downs}
use Rattle.sim_changes.proofs.Becoming.{sound, client_valid, server_valid, client-becomes, server-becomes}
use Rattle.sim_changes.proofs.Leaving.{leaves_refused, leaves_silent, leaves_quiet}
use Rattle.sim_changes.proofs.Parties.{server_in_lem}
use Rattle.sim_changes.proofs.ClientEvents.{client_there_in}
use Rattle.sim_changes.proofs.ServerEvents.{server_there_in}
use Rattle.sim_acts.proofs.Guards.{client-lives, up-here, server-runs}

module _ (w : List ℕ) (k : ℕ) (H : HasClient w (client_no k)) where
  abbrev block : List ℕ
  block = client_block_of w (client_no k)

  abbrev fallen-place : ClientPlace
  fallen-place = record { living = false; state = (client_at (view w) (client_no k)).state; downs = [] }

  -- the block of a client that falls
  falling : Becomes w (sets w (clients_from + client_block * (k - 1)) (cleared (set block 0 0))) (with_client (view w) (client_no k) fallen-place)
  falling =
      let B : ClientIs (setting_of w).n (setting_of w).m (setting_of w).clients k (cleared (set block 0 0)) fallen-place =
      rw (client-place w k H.first H.last)
      (fall_block (setting_of w).n (setting_of w).m (setting_of w).clients k block (client_valid w (sound w H.valid) k H.first H.last)) in
      client-becomes w H.valid k (cleared (set block 0 0)) _ H.first H.last B zero-le

module _ (w : List ℕ) (k : ClientId) (H : HasClient w k) {b : Bool} (f : b ≡ (client_place (client_block_of w k)).living) (u : b ≡ true) where
  pub fall_leaves : {w' : List ℕ} → w' ≡ sets w (clients_from + client_block * (k.0 - 1)) (cleared (set (client_block_of w k) 0 0))
      → Leaves w (Fall k) w' × (Ok 0 ≡ moved_of (happens w (Fall k)))
  fall_leaves g =
      rw g
      (leaves_quiet w (Fall k) (fallen (view w) k) refl
      (falls (setting_of w).n (enough (setting_of w).m) (view w) k (client_there_in w k H) (client-lives w k H f u)) refl _
      (falling w k.0 H))

module _ (w : List ℕ) (j : ℕ) (H : HasServer w (server_no j)) where
  abbrev place : List ℕ
  place = server_block_of w (server_no j)

  abbrev risen : ServerPlace
  risen = record { up = true; state = (server_at (view w) (server_no j)).state }

  abbrev ok_block : valid_server_block (setting_of w).n (setting_of w).clients (server_no j) (server_block_of w (server_no j)) ≡ true
  ok_block = server_valid w (sound w H.valid) j H.first H.last

  rising : Becomes w (sets w (servers_from + server_block * (j - 1)) (set place 0 1)) (with_server (view w) (server_no j) risen)
  rising =
      let B : ServerIs (setting_of w).n (setting_of w).clients j (set place 0 1) risen =
      rw (server-place w j H.first H.last) (rise_block (setting_of w).n (setting_of w).clients j place ok_block) in
      server-becomes w H.valid j (set place 0 1) _ H.first H.last B

  sinking : Becomes w (sets w (servers_from + server_block * (j - 1)) (set (sets place 1 (server_words (emptied (server_from (server_record place))))) 0 0))
      (with_server (view w) (server_no j) (record { up = false; state = idle }))
  sinking = server-becomes w H.valid j _ _ H.first H.last (sink_block (setting_of w).n (setting_of w).clients j place ok_block)

module _ (w : List ℕ) (j : ServerId) (H : HasServer w j) where
  module _ {b : Bool} (f : b ≡ (server_place (server_block_of w j)).up) (u : b ≡ false) where
    pub up_leaves : {w' : List ℕ} → w' ≡ sets w (servers_from + server_block * (j.0 - 1)) (set (server_block_of w j) 0 1)
        → Leaves w (Up j) w' × (Ok 0 ≡ moved_of (happens w (Up j)))
    up_leaves g =
        rw g
        (leaves_quiet w (Up j) (came_up (view w) j) refl
        (ups (setting_of w).n (enough (setting_of w).m) (view w) j (server_there_in w j H) (sym (up-here w j H f) ∙ u)) refl _
        (rising w j.0 H))

  -- down, store by store
  pub sinkable : ServerIn w j × (holds_server_record (server_record (server_block_of w j)) ≡ true)
  sinkable =
      (server_in_lem w j.0 H, (server-facts (setting_of w).n (setting_of w).clients j.0 (server_block_of w j) (ok_block w j.0 H)).held)

  module _ {w₁ : List ℕ}
      (s : w₁ ≡ sets w (servers_from + server_block * (j.0 - 1))
      (set (sets (server_block_of w j) 1 (server_words (emptied (server_from (server_record (server_block_of w j)))))) 0 0)) where
    sunk : Becomes w w₁ (with_server (view w) j (record { up = false; state = idle }))
    sunk = rw s (sinking w j.0 H)

    pub sunk-server : HasServer w₁ j
    sunk-server = record { valid = sunk.again; first = H.first; last = rw sunk.setting H.last }

    module _ {w₂ : List ℕ} (R : Becomes w₁ w₂ (with_transit (view w₁) (map (again j) (view w₁).transit))) where
      pub still-server : HasServer w₂ j
      still-server =
          record { valid = R.again; first = H.first; last = rw (R.setting, sunk.setting) H.last }

      module _ {w₃ : List ℕ} (N : Becomes w₂ w₃ (with_clients (view w₂) (map (downed j) (view w₂).clients))) where
        down-system : view w₃ ≡ after (view w) (stepped (went_down (view w) j))
        unfolding after
        down-system =
            N.system
            ∙ ap (λ (u : System). with_clients u (map (downed j) u.clients))
            (R.system ∙ ap (λ (u : System). with_transit u (map (again j) u.transit)) sunk.system)

        pub down_leaves : {b : Bool} → b ≡ (server_place (server_block_of w j)).up → b ≡ true
            → Leaves w (Down j) w₃ × (Ok 0 ≡ moved_of (happens w (Down j)))
        down_leaves f u =
            leaves_silent w (Down j) (went_down (view w) j) refl
            (downs (setting_of w).n (enough (setting_of w).m) (view w) j (server_there_in w j H) (server-runs w j H f u))
            w₃ (record { system = down-system; setting = N.setting ∙ (R.setting ∙ sunk.setting); again = N.again })

below : (r n : ℕ) → r ≤ n → (r ≡ n → ⊥) → r < n
below r n h ne =
    ⊎_elim (λ (t : ltb r n ≡ true). ltb-true r n t) (λ (t : ltb r n ≡ false). absurd (ne (omega (arith, ltb-false r n t)))) (decided (ltb r n))

-- drop: r is what `find_present` gave, and s how many messages are in transit
module _ (w : List ℕ) (i : MessageNumber) {r s : ℕ} (ok : valid w ≡ true) (at : r ≡ first_slot (is_numbered i.0) (view w).transit) (g : s ≡ length_of w) where
  F : FindsPresent i.0 (length_of w) (table (transit_words w)) r
  unfolding view
  F = finds_present i.0 (length_of w) (table (transit_words w)) r at

  pub drop_missing : r ≡ s → Leaves w (Drop i) w × (Err NoSuchParty ≡ moved_of (happens w (Drop i)))
  unfolding view
  drop_missing e =
      leaves_refused w (Drop i) NoSuchParty ok
      (drops-nothing (setting_of w).n (enough (setting_of w).m) (view w) i
      (F.missing (e ∙ g)))

  module _ (ne : r ≡ s → ⊥) where
    pub used : r < length_of w
    used = below r (length_of w) F.within (λ e. ne (e ∙ sym g))

    numbered_is : (slot_in (transit_words w) r).number ≡ i.0
    numbered_is = F.numbered used

    pub drop_leaves : {w' : List ℕ} → Becomes w w' (with_transit (view w) (replaced (slot_in (transit_words w) r).number gone (view w).transit))
        → Leaves w (Drop i) w' × (Ok 0 ≡ moved_of (happens w (Drop i)))
    unfolding view
    drop_leaves {w'} B =
        leaves_quiet w (Drop i) (dropped (view w) i.0) refl
        (drops (setting_of w).n (enough (setting_of w).m) (view w) i
        (F.found used))
        refl w' (rw numbered_is at B)
