-- The tests on parties, read off the words: whether a client or a server is there, lives, is up.
use mathlib.Core.Path.{◌≡◌, sym, ◌∙◌}
use Prim.Native.Nat.{ℕ, ◌≤◌}
use native.Mathlib.Omega.{arith}
use mathlib.Core.Bool.{Bool, true, false}
use mathlib.Core.List.{List}
use lib.ListN.{length, get_or}
use Rattle.ids.specs.Limits.{within}
use Rattle.ids.proofs.Choice.{holds, fails}
use Rattle.ids.proofs.LimitsLaws.{within-range}
use Rattle.system.specs.Numbered.{has, client_no, server_no}
use Rattle.system.specs.Places.{client_at, server_at}
use Rattle.sim_blocks.specs.Blocks.{client_place, server_place}
use Rattle.sim_layout.specs.Layout.{setting_of, view, valid, simulation_size}
use Rattle.sim_layout.specs.Parts.{client_block_of, server_block_of, ClientIn, ServerIn}
use Rattle.sim_layout.proofs.PlaceLaws.{client-place, server-place, client-there, server-there}
use Rattle.sim_changes.specs.Changes.{HasClient, HasServer}
use Rattle.sim_changes.proofs.Becoming.{sound, few_servers, few_clients}
use Rattle.system.specs.Limits.{system_clients, system_servers}

pub words_long : (w : List ℕ) → valid w ≡ true → length w ≡ simulation_size
words_long w ok = (sound w ok).long

pub clients_fit : (w : List ℕ) → valid w ≡ true → get_or w 3 0 ≤ system_clients
unfolding setting_of
clients_fit w ok = few_clients w (sound w ok)

pub servers_fit : (w : List ℕ) → valid w ≡ true → get_or w 0 0 ≤ system_servers
unfolding setting_of
servers_fit w ok = few_servers w (sound w ok)

-- client k
module _ (w : List ℕ) (ok : valid w ≡ true) (k : ℕ) (r : Bool) (e : r ≡ within k (setting_of w).clients) where
  has-client : r ≡ has (view w).clients k
  has-client = e ∙ sym (client-there w k)

  pub client_missing : r ≡ false → has (view w).clients k ≡ false
  client_missing t = fails r (has (view w).clients k) has-client t

  pub client_there_is : r ≡ true → has (view w).clients k ≡ true
  client_there_is t = holds r (has (view w).clients k) has-client t

  pub client-found : r ≡ true → HasClient w (client_no k)
  client-found t =
      let b = within-range k (setting_of w).clients (holds r (within k (setting_of w).clients) e t) in
      record { valid = ok; first = b.0; last = b.1 }

-- server j
module _ (w : List ℕ) (ok : valid w ≡ true) (j : ℕ) (r : Bool) (e : r ≡ within j (setting_of w).n) where
  has-server : r ≡ has (view w).servers j
  has-server = e ∙ sym (server-there w j)

  pub server_missing : r ≡ false → has (view w).servers j ≡ false
  server_missing t = fails r (has (view w).servers j) has-server t

  pub server_there_is : r ≡ true → has (view w).servers j ≡ true
  server_there_is t = holds r (has (view w).servers j) has-server t

  pub server-found : r ≡ true → HasServer w (server_no j)
  server-found t =
      let b = within-range j (setting_of w).n (holds r (within j (setting_of w).n) e t) in
      record { valid = ok; first = b.0; last = b.1 }

-- the blocks of parties that are there
module _ (w : List ℕ) (k : ℕ) (H : HasClient w (client_no k)) where
  pub client_in_lem : ClientIn w (client_no k)
  client_in_lem = record { long = (sound w H.valid).long; first = H.first; last = omega (arith, H.last, few_clients w (sound w H.valid)) }

  pub living-is : (r : Bool) → r ≡ (client_place (client_block_of w (client_no k))).living → (client_at (view w) (client_no k)).living ≡ r
  living-is r e = rw (client-place w k H.first H.last) (sym e)

module _ (w : List ℕ) (j : ℕ) (H : HasServer w (server_no j)) where
  pub server_in_lem : ServerIn w (server_no j)
  server_in_lem = record { long = (sound w H.valid).long; first = H.first; last = omega (arith, H.last, few_servers w (sound w H.valid)) }

  pub up_is : (r : Bool) → r ≡ (server_place (server_block_of w (server_no j))).up → (server_at (view w) (server_no j)).up ≡ r
  up_is r e = rw (server-place w j H.first H.last) (sym e)
