-- The record that a step gives back is stored in its party's block: the simulation differs in that party's state alone.
use Rattle.std.specs.Prelude.{Option}
use mathlib.Core.Path.{◌≡◌, refl}
use Prim.Native.Nat.{ℕ, suc, ◌+◌, ◌*◌, ◌-◌, ◌≤◌}
use native.Mathlib.Omega.{arith}
use mathlib.Core.Bool.{true, false}
use mathlib.Core.List.{List, [], ◌∷◌}
use mathlib.Core.Logic.{⊎_elim}
use lib.Dec.{eqb, leb}
use lib.ListN.{length}
use lib.Seq.{sets}
use Rattle.ids.specs.Lists.{every}
use Rattle.ids.specs.Limits.{valid_owner, valid_request}
use Rattle.ids.specs.declared.ClientId.{ClientId}
use Rattle.ids.specs.declared.ServerId.{ServerId}
use Rattle.ids.specs.declared.Timestamp.{Timestamp}
use Rattle.ids.specs.declared.Request.{Request}
use Rattle.ids.proofs.Choice.{decided}
use Rattle.server_votes.specs.declared.Tag.{Tag}
use Rattle.server_votes.specs.Figure1 as votes
use Rattle.server.specs.declared.Server.{Server}
use Rattle.client_responses.specs.Figure1 as client
use Rattle.client.specs.Record.{store_in}
use Rattle.client_responses.specs.Figure1.{is_remainder, may_try}
use Rattle.client.specs.declared.Client.{Client}
use Rattle.words.specs.Records.{server_words, client_words, server_head_from}
use Rattle.system.specs.Places.{client_at, server_at, worst}
use Rattle.system.proofs.PlaceLaws.{worst-at}
use Rattle.sim_blocks.specs.Blocks.{client_place, server_place, flags, flagged, zero_word, named, valid_client_block, valid_server_block, server_record, server_block, holds_server_record}
use Rattle.sim_blocks.specs.Blocks.{client_block}
use Rattle.sim_blocks.proofs.ClientLaws.{ClientIs}
use Rattle.sim_blocks.proofs.ServerLaws.{ServerIs, server_of, server-written}
use Rattle.sim_blocks.proofs.ClientSteps.{written, placed, tries-block, exits-block, responds-block, checked-block}
use Rattle.sim_blocks.proofs.ServerSteps.{receive-block, suspect-block, check-block}
use Rattle.sim_blocks.proofs.Facts.{server-facts}
use Rattle.sim_layout.specs.Layout.{setting_of, most_of, view, servers_from, clients_from}
use Rattle.sim_layout.specs.Parts.{client_block_of, server_block_of}
use Rattle.sim_layout.proofs.PlaceLaws.{client-place, server-place}
use Rattle.sim_layout.proofs.ValidLaws.{facts}
use Rattle.sim_changes.specs.Changes.{Becomes, HasClient, HasServer}
use Rattle.sim_changes.specs.Inner.{with_client, with_server}
use Rattle.sim_changes.proofs.Becoming.{sound, few_clients, client_valid, server_valid, client-becomes, server-becomes}
use Rattle.system.specs.Limits.{system_clients, system_servers}
use Rattle.system.specs.Numbered.{client_no, server_no}
use Rattle.server.specs.declared.Head.{Head}

-- server j's record
module _ (w : List ℕ) (j : ℕ) (H : HasServer w (server_no j)) where
  abbrev block : List ℕ
  block = server_block_of w (server_no j)

  abbrev me : ServerId
  me = record { 0 = j }

  pub server-block : valid_server_block (setting_of w).n (setting_of w).clients (server_no j) (server_block_of w (server_no j)) ≡ true
  server-block = server_valid w (sound w H.valid) j H.first H.last

  pub server-is : server_at (view w) (server_no j) ≡ server_place (server_block_of w (server_no j))
  server-is = server-place w j H.first H.last

  few : (setting_of w).clients ≤ system_clients
  few = few_clients w (sound w H.valid)

  module _ (s : Server) (w' : List ℕ) (f : w' ≡ sets w (servers_from + server_block * (j - 1)) (sets (server_block_of w (server_no j)) 1 (server_words s))) where
    stores : (q : votes.State)
        → ServerIs (setting_of w).n (setting_of w).clients j (server-written (setting_of w).n j block q) (record { up = (server_place block).up; state = q })
        → s ≡ server_of (setting_of w).n j q → Becomes w w' (with_server (view w) (server_no j) (record { up = (server_at (view w) (server_no j)).up; state = q }))
    stores q B e =
        rw (f, e, server-is) (server-becomes w H.valid j (server-written (setting_of w).n j block q) (record { up = (server_place block).up; state = q })
        H.first H.last B)

    pub check-stored : s ≡ server_of (setting_of w).n j (votes.check (record { 0 = j }) (server_at (view w) (server_no j)).state).state
        → Becomes w w' (with_server (view w) (server_no j)
        (record { up = (server_at (view w) (server_no j)).up; state = (votes.check (record { 0 = j }) (server_at (view w) (server_no j)).state).state }))
    check-stored e =
        stores (votes.check me (server_at (view w) (server_no j)).state).state
        (rw server-is (check-block (setting_of w).n (setting_of w).clients j block server-block few)) e

    pub suspect-stored : s ≡ server_of (setting_of w).n j (votes.suspect (record { 0 = j }) (server_at (view w) (server_no j)).state).state
        → Becomes w w' (with_server (view w) (server_no j)
        (record { up = (server_at (view w) (server_no j)).up; state = (votes.suspect (record { 0 = j }) (server_at (view w) (server_no j)).state).state }))
    suspect-stored e =
        stores (votes.suspect me (server_at (view w) (server_no j)).state).state
        (rw server-is (suspect-block (setting_of w).n (setting_of w).clients j block server-block few)) e

    pub receive-stored : (tag : Tag) (r : Request) → leb r.client.0 (setting_of w).clients ≡ true → valid_request r ≡ true
        → s ≡ server_of (setting_of w).n j (votes.receive (record { 0 = j }) tag r (server_at (view w) (server_no j)).state).state
        → Becomes w w' (with_server (view w) (server_no j)
        (record { up = (server_at (view w) (server_no j)).up; state = (votes.receive (record { 0 = j }) tag r (server_at (view w) (server_no j)).state).state }))
    receive-stored tag r c v e =
        stores (votes.receive me tag r (server_at (view w) (server_no j)).state).state
        (rw server-is (receive-block (setting_of w).n (setting_of w).clients j block server-block tag r c v few)) e

-- what stands in it
module _ (w : List ℕ) (j : ServerId) (H : HasServer w j) where
  pub record_held : holds_server_record (server_record (server_block_of w j)) ≡ true
  record_held = (server-facts (setting_of w).n (setting_of w).clients j.0 (server_block_of w j) (server-block w j.0 H)).held

  pub owner-is : (h : Head) → h ≡ server_head_from (server_record (server_block_of w j)) → h.votes.owner ≡ (server_at (view w) j).state.owner
  unfolding server_place
  owner-is h k = rw (k, server-is w j.0 H)

-- no server counts: no flag is set
unflagged : (j : ℕ) (l : List ℕ) → flagged j l ≡ [] → every zero_word l ≡ true
unfolding flagged
unflagged j [] h = refl
unflagged j (x ∷ l) h =
    ⊎_elim
    (λ (t : eqb x 0 ≡ true). let g = rw t at h in rw t (unflagged (suc j) l g))
    (λ (t : eqb x 0 ≡ false). let g = rw t at h in let z : ◌≡◌ {A = ℕ} 0 1 = cc in absurd (omega arith))
    (decided (eqb x 0))

place_clear : (b : List ℕ) → (client_place b).downs ≡ [] → every zero_word (flags b) ≡ true
unfolding client_place
place_clear b h = unflagged 1 (flags b) h

-- client k's record
module _ (w : List ℕ) (k : ℕ) (H : HasClient w (client_no k)) where
  abbrev part : List ℕ
  part = client_block_of w (client_no k)

  abbrev self : ClientId
  self = record { 0 = k }

  pub client-block : valid_client_block (setting_of w).n (setting_of w).m (setting_of w).clients (client_no k) (client_block_of w (client_no k)) ≡ true
  client-block = client_valid w (sound w H.valid) k H.first H.last

  pub client-is : client_at (view w) (client_no k) ≡ client_place (client_block_of w (client_no k))
  client-is = client-place w k H.first H.last

  downs_noted : length (client_place part).downs ≤ most_of w
  downs_noted =
      let d : length (client_place part).downs ≤ worst (view w).clients = rw client-is at (worst-at (view w).clients k) in
      omega (arith, d, (facts w H.valid).noted)

  module _ (c : Client) (w' : List ℕ) (f : w' ≡ sets w (clients_from + client_block * (k - 1)) (sets (client_block_of w (client_no k)) 1 (client_words c))) where
    client_stores : (s : client.State)
        → ClientIs (setting_of w).n (setting_of w).m (setting_of w).clients k (written (setting_of w).n (setting_of w).m k part s) (placed part s)
        → c ≡ store_in system_servers (setting_of w).n (setting_of w).m (record { 0 = k }) s
        → Becomes w w' (with_client (view w) (client_no k)
        (record { living = (client_at (view w) (client_no k)).living; state = s; downs = (client_at (view w) (client_no k)).downs }))
    client_stores s B e =
        rw (f, e, client-is) (client-becomes w H.valid k (written (setting_of w).n (setting_of w).m k part s) (placed part s) H.first
        H.last B downs_noted)

    pub tries-stored : is_remainder (client_at (view w) (client_no k)).state.section ≡ true → may_try (client_at (view w) (client_no k)).state ≡ true
        → c ≡ store_in system_servers (setting_of w).n (setting_of w).m (record { 0 = k })
        (client.tries (setting_of w).n (record { 0 = k }) (client_at (view w) (client_no k)).state).state
        → Becomes w w' (with_client (view w) (client_no k)
        (record {
          living = (client_at (view w) (client_no k)).living;
          state = (client.tries (setting_of w).n (record { 0 = k }) (client_at (view w) (client_no k)).state).state;
          downs =
              (client_at (view w) (client_no k)).downs;
        }))
    tries-stored h g e =
        client_stores (client.tries (setting_of w).n self (client_at (view w) (client_no k)).state).state
        (rw client-is (tries-block (setting_of w).n (setting_of w).m (setting_of w).clients k part client-block (rw client-is at h) (rw client-is at g))) e

    pub exits-stored : (client_at (view w) (client_no k)).downs ≡ []
        → c ≡ store_in system_servers (setting_of w).n (setting_of w).m (record { 0 = k })
        (client.exits (setting_of w).n (record { 0 = k }) (client_at (view w) (client_no k)).state).state
        → Becomes w w' (with_client (view w) (client_no k)
        (record {
          living = (client_at (view w) (client_no k)).living;
          state = (client.exits (setting_of w).n (record { 0 = k }) (client_at (view w) (client_no k)).state).state;
          downs =
              (client_at (view w) (client_no k)).downs;
        }))
    exits-stored h e =
        client_stores (client.exits (setting_of w).n self (client_at (view w) (client_no k)).state).state
        (rw client-is (exits-block (setting_of w).n (setting_of w).m (setting_of w).clients k part client-block (place_clear part (rw client-is at h)))) e

    pub responds-stored : (j : ServerId) (o : Option Request) → valid_owner o ≡ true → named (setting_of w).clients o ≡ true
        → c ≡ store_in system_servers (setting_of w).n (setting_of w).m (record { 0 = k })
        (client.responds (client.enough (setting_of w).m) (setting_of w).n (record { 0 = k }) j o (client_at (view w) (client_no k)).state).state
        → Becomes w w' (with_client (view w) (client_no k)
        (record {
          living = (client_at (view w) (client_no k)).living;
          state = (client.responds (client.enough (setting_of w).m) (setting_of w).n (record { 0 = k }) j o (client_at (view w) (client_no k)).state).state;
          downs = (client_at (view w) (client_no k)).downs;
        }))
    responds-stored j o v d e =
        client_stores (client.responds (client.enough (setting_of w).m) (setting_of w).n self j o (client_at (view w) (client_no k)).state).state
        (rw client-is (responds-block (setting_of w).n (setting_of w).m (setting_of w).clients k part client-block j o v d)) e

    pub checked-stored : (j : ServerId) (t : Timestamp)
        → c ≡ store_in system_servers (setting_of w).n (setting_of w).m (record { 0 = k }) (client.checked (record { 0 = k }) j t (client_at (view w) (client_no k)).state).state
        → Becomes w w' (with_client (view w) (client_no k)
        (record {
          living = (client_at (view w) (client_no k)).living;
          state = (client.checked (record { 0 = k }) j t (client_at (view w) (client_no k)).state).state;
          downs = (client_at (view w) (client_no k)).downs;
        }))
    checked-stored j t e =
        client_stores (client.checked self j t (client_at (view w) (client_no k)).state).state
        (rw client-is (checked-block (setting_of w).n (setting_of w).m (setting_of w).clients k part client-block j t)) e
