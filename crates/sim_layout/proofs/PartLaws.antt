-- The words of a simulation as four parts: the code's stores change one part each, and what the words are depends on the parts alone.
use mathlib.Core.Path.{◌≡◌, refl, sym, ap, ◌∙◌}
use Prim.Native.Nat.{ℕ, ◌+◌, ◌≤◌, ◌<◌}
use native.Mathlib.Omega.{arith}
use mathlib.Core.List.{List}
use lib.ListN.{length, get_or, set, take, length-set}
use lib.Seq.{sets, length-sets, get_or-take, take-set-lt, drop-set-lt}
use Rattle.sim_blocks.specs.Regions.{blocks}
use Rattle.sim_blocks.proofs.RegionLaws.{take_sets_after}
use Rattle.system.specs.Places.{System}
use Rattle.sim_blocks.specs.Blocks.{client_block, server_block, client_place, server_place}
use Rattle.sim_indexed.specs.Indexed.{in_transit, indexed_size}
use Rattle.system.specs.declared.Setting.{Setting}
use Rattle.sim_layout.specs.Layout.{simulation_size, setting_of, client_words, server_words, transit_words, view, clients_size, servers_size, servers_from, transit_from, clients_from}
use Rattle.sim_layout.proofs.ViewLaws.{in_clients, clients-servers, clients-transit, servers-clients, in_servers, servers-transit, transit-clients, transit-servers, in_transit_lem}

-- w is these parts
pub record Is (w h c s t : List ℕ) : Type 0 where
  pub long : length w ≡ simulation_size
  pub head : take clients_from w ≡ h
  pub clients : client_words w ≡ c
  pub servers : server_words w ≡ s
  pub transit : transit_words w ≡ t

pub itself-is : (w : List ℕ) → length w ≡ simulation_size → Is w (take clients_from w) (client_words w) (server_words w) (transit_words w)
itself-is w h = record { long = h; head = refl; clients = refl; servers = refl; transit = refl }

module _ {w h c s t : List ℕ} (p : Is w h c s t) where
  pub is_client-store : (a : ℕ) (vs : List ℕ) → a + length vs ≤ clients_size → Is (sets w (clients_from + a) vs) h (sets c a vs) s t
  is_client-store a vs le =
      record {
        long = length-sets w (clients_from + a) vs ∙ p.long;
        head = take_sets_after clients_from w (clients_from + a) vs (omega arith) ∙ p.head;
        clients = in_clients w a vs le ∙ ap (λ (l : List ℕ). sets l a vs) p.clients;
        servers = clients-servers w a vs le ∙ p.servers;
        transit = clients-transit w a vs le ∙ p.transit;
      }

  pub is_server_store : (a : ℕ) (vs : List ℕ) → a + length vs ≤ servers_size → Is (sets w (servers_from + a) vs) h c (sets s a vs) t
  is_server_store a vs le =
      record {
        long = length-sets w (servers_from + a) vs ∙ p.long;
        head = take_sets_after clients_from w (servers_from + a) vs (omega arith) ∙ p.head;
        clients = servers-clients w a vs le ∙ p.clients;
        servers = in_servers w a vs le ∙ ap (λ (l : List ℕ). sets l a vs) p.servers;
        transit = servers-transit w a vs le ∙ p.transit;
      }

  pub is_transit_store : (a : ℕ) (vs : List ℕ) → a + length vs ≤ indexed_size → Is (sets w (transit_from + a) vs) h c s (sets t a vs)
  is_transit_store a vs le =
      record {
        long = length-sets w (transit_from + a) vs ∙ p.long;
        head = take_sets_after clients_from w (transit_from + a) vs (omega arith) ∙ p.head;
        clients = transit-clients w a vs le ∙ p.clients;
        servers = transit-servers w a vs le ∙ p.servers;
        transit = in_transit_lem w a vs le ∙ ap (λ (l : List ℕ). sets l a vs) p.transit;
      }

  pub is_head_store : (i v : ℕ) → i < clients_from → Is (set w i v) (set h i v) c s t
  unfolding client_words server_words transit_words
  is_head_store i v lt =
      record {
        long = length-set w i v ∙ p.long;
        head = take-set-lt clients_from w i v lt ∙ ap (λ (l : List ℕ). set l i v) p.head;
        clients = ap (take clients_size) (drop-set-lt clients_from w i v (omega arith)) ∙ p.clients;
        servers = ap (take servers_size) (drop-set-lt servers_from w i v (omega arith)) ∙ p.servers;
        transit = ap (take indexed_size) (drop-set-lt transit_from w i v (omega arith)) ∙ p.transit;
      }

-- the setting and the system of the parts
unfoldable pub setting_in : List ℕ → Setting
setting_in h = record { n = get_or h 0 0; m = get_or h 1 0; f = get_or h 2 0; clients = get_or h 3 0 }

unfoldable pub system_in : List ℕ → List ℕ → List ℕ → List ℕ → System
system_in h c s t =
    record {
      clients = blocks client_block client_place (get_or h 3 0) c;
      servers = blocks server_block server_place (get_or h 0 0) s;
      transit = in_transit (get_or h 4 0) t;
      sent = get_or h 5 0;
      most = get_or h 6 0;
    }

module _ {w h c s t : List ℕ} (p : Is w h c s t) where
  pub head-word : (i : ℕ) → i < clients_from → get_or w i 0 ≡ get_or h i 0
  head-word i lt = sym (get_or-take clients_from w i 0 lt) ∙ ap (λ (l : List ℕ). get_or l i 0) p.head

  pub setting-is : setting_of w ≡ setting_in h
  unfolding setting_of setting_in
  setting-is =
      let a = head-word 0 (omega arith) in
      let b = head-word 1 (omega arith) in
      let d = head-word 2 (omega arith) in
      let e = head-word 3 (omega arith) in
      λ i. record { n = a i; m = b i; f = d i; clients = e i }

  pub view-is : view w ≡ system_in h c s t
  unfolding view system_in setting_of
  view-is = rw (
    head-word 0 (omega arith),
    head-word 3 (omega arith),
    head-word 4 (omega arith),
    head-word 5 (omega arith),
    head-word 6 (omega arith),
    p.clients,
    p.servers,
    p.transit,
  )
