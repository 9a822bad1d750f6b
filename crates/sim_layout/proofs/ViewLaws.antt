-- A store in one part of the words changes that part of the system and no other.
use mathlib.Core.Path.{◌≡◌, sym, ap, ◌∙◌}
use Prim.Native.Nat.{ℕ, ◌+◌, ◌*◌, ◌≤◌, ◌<◌}
use native.Mathlib.Omega.{arith}
use mathlib.Core.List.{List}
use lib.ListN.{length, get_or, set, take, drop}
use lib.Seq.{sets, get_or-take}
use Rattle.sim_blocks.specs.Regions.{region}
use Rattle.sim_blocks.proofs.RegionLaws.{region-inside, region-before, region-behind, take_sets_after}
use Rattle.sim_blocks.proofs.RegionBlocks.{block-stored}
use Rattle.sim_blocks.specs.Blocks.{client_place, server_place, client_block, server_block}
use Rattle.sim_layout.specs.Layout.{setting_of, client_words, server_words, transit_words, view, clients_size, servers_from, servers_size, transit_from, clients_from}
use Rattle.sim_indexed.specs.Indexed.{indexed_size}
use Rattle.system.specs.Limits.{system_clients, system_servers}

-- the head's words, after a store behind the head
pub head-kept : (w : List ℕ) (a : ℕ) (vs : List ℕ) (i : ℕ) → i < a → get_or (sets w a vs) i 0 ≡ get_or w i 0
head-kept w a vs i h = sym (get_or-take a (sets w a vs) i 0 h) ∙ (ap (λ (l : List ℕ). get_or l i 0) (take_sets_after a w a vs (omega arith)) ∙ get_or-take a w i 0 h)

module _ (w : List ℕ) (a : ℕ) (vs : List ℕ) where
  pub setting_kept : clients_from ≤ a → setting_of (sets w a vs) ≡ setting_of w
  unfolding setting_of
  setting_kept h =
      let e : (i : ℕ) → i < a → get_or (sets w a vs) i 0 ≡ get_or w i 0 = head-kept w a vs in
      let n = e 0 (omega arith) in
      let m = e 1 (omega arith) in
      let f = e 2 (omega arith) in
      let k = e 3 (omega arith) in
      λ i. record { n = n i; m = m i; f = f i; clients = k i }

-- the parts of the words
abbrev Parts : List ℕ → List ℕ → Type 0
Parts w w' = (client_words w' ≡ client_words w) × (server_words w' ≡ server_words w) × (transit_words w' ≡ transit_words w)

-- a store in the client blocks
module _ (w : List ℕ) (a : ℕ) (vs : List ℕ) (h : a + length vs ≤ clients_size) where
  pub in_clients : client_words (sets w (clients_from + a) vs) ≡ sets (client_words w) a vs
  unfolding client_words
  in_clients = region-inside clients_from clients_size w a vs h

  pub clients-servers : server_words (sets w (clients_from + a) vs) ≡ server_words w
  unfolding server_words
  clients-servers = region-before servers_from servers_size w (clients_from + a) vs (omega arith)

  pub clients-transit : transit_words (sets w (clients_from + a) vs) ≡ transit_words w
  unfolding transit_words
  clients-transit = region-before transit_from indexed_size w (clients_from + a) vs (omega arith)

-- a store in the server blocks
module _ (w : List ℕ) (a : ℕ) (vs : List ℕ) (h : a + length vs ≤ servers_size) where
  pub servers-clients : client_words (sets w (servers_from + a) vs) ≡ client_words w
  unfolding client_words
  servers-clients = region-behind clients_from clients_size w a vs

  pub in_servers : server_words (sets w (servers_from + a) vs) ≡ sets (server_words w) a vs
  unfolding server_words
  in_servers = region-inside servers_from servers_size w a vs h

  pub servers-transit : transit_words (sets w (servers_from + a) vs) ≡ transit_words w
  unfolding transit_words
  servers-transit = region-before transit_from indexed_size w (servers_from + a) vs (omega arith)

-- a store in the messages in transit
module _ (w : List ℕ) (a : ℕ) (vs : List ℕ) (h : a + length vs ≤ indexed_size) where
  pub transit-clients : client_words (sets w (transit_from + a) vs) ≡ client_words w
  unfolding client_words
  transit-clients = let z : transit_from + a ≡ clients_from + clients_size + (servers_size + a) = omega arith in ap
      (λ (i : ℕ). region clients_from clients_size (sets w i vs)) z ∙ region-behind clients_from clients_size w (servers_size + a) vs

  pub transit-servers : server_words (sets w (transit_from + a) vs) ≡ server_words w
  unfolding server_words
  transit-servers = region-behind servers_from servers_size w a vs

  pub in_transit_lem : transit_words (sets w (transit_from + a) vs) ≡ sets (transit_words w) a vs
  unfolding transit_words
  in_transit_lem = region-inside transit_from indexed_size w a vs h

-- client block i, counted from 0
pub client-stored : (w : List ℕ) (i a : ℕ) (vs : List ℕ) → i < (setting_of w).clients → (setting_of w).clients ≤ system_clients → a + length vs ≤ client_block →
    view (sets w (clients_from + (i * client_block + a)) vs) ≡
    record {
      clients = set (view w).clients i (client_place (sets (take client_block (drop (i * client_block) (client_words w))) a vs));
      servers = (view w).servers;
      transit = (view w).transit;
      sent = (view w).sent;
      most = (view w).most;
    }
unfolding view
client-stored w i a vs lt few h =
    let within : i * client_block + a + length vs ≤ clients_size = omega arith in
    let s = setting_kept w (clients_from + (i * client_block + a)) vs (omega arith) in
    let head : (j : ℕ) → j < clients_from → get_or (sets w (clients_from + (i * client_block + a)) vs) j 0 ≡ get_or w j 0 = λ j q. head-kept w
    (clients_from + (i * client_block + a)) vs j (omega arith) in
    rw (
      s,
      in_clients w (i * client_block + a) vs within,
      clients-servers w (i * client_block + a) vs within,
      clients-transit w (i * client_block + a) vs within,
      head 4 (omega arith),
      head 5 (omega arith),
      head 6 (omega arith),
      block-stored client_block client_place (setting_of w).clients i (client_words w) a vs lt h,
    )

-- server block i, counted from 0
pub server-stored : (w : List ℕ) (i a : ℕ) (vs : List ℕ) → i < (setting_of w).n → (setting_of w).n ≤ system_servers → a + length vs ≤ server_block →
    view (sets w (servers_from + (i * server_block + a)) vs) ≡
    record {
      clients = (view w).clients;
      servers = set (view w).servers i (server_place (sets (take server_block (drop (i * server_block) (server_words w))) a vs));
      transit = (view w).transit;
      sent = (view w).sent;
      most = (view w).most;
    }
unfolding view
server-stored w i a vs lt few h =
    let within : i * server_block + a + length vs ≤ servers_size = omega arith in
    let s = setting_kept w (servers_from + (i * server_block + a)) vs (omega arith) in
    let head : (j : ℕ) → j < clients_from → get_or (sets w (servers_from + (i * server_block + a)) vs) j 0 ≡ get_or w j 0 = λ j q. head-kept w
    (servers_from + (i * server_block + a)) vs j (omega arith) in
    rw (
      s,
      servers-clients w (i * server_block + a) vs within,
      in_servers w (i * server_block + a) vs within,
      servers-transit w (i * server_block + a) vs within,
      head 4 (omega arith),
      head 5 (omega arith),
      head 6 (omega arith),
      block-stored server_block server_place (setting_of w).n i (server_words w) a vs lt h,
    )
