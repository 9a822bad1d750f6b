-- The tests of a simulation's words, one after another, are the definition's.
use mathlib.Core.Path.{◌≡◌, refl, sym, ap, ◌∙◌}
use Prim.Native.Nat.{ℕ, zero, suc, ◌+◌, ◌*◌, ◌-◌, ◌≤◌, ◌<◌, max}
use native.Mathlib.Omega.{arith}
use mathlib.Core.Bool.{Bool, true, false}
use mathlib.Core.List.{List}
use lib.Dec.{leb}
use lib.ListN.{length, get_or, take, drop}
use borrow.Author.Tests.{le-leb, lt-leb, leb-true}
use Rattle.ids.specs.Limits.{within}
use Rattle.quorum.specs.Check.{in_range_up_to}
use Rattle.quorum.proofs.CheckLaws.{range}
use Rattle.sim_indexed.specs.Indexed.{valid_indexed, indexed_size}
use lib.Seq.{drop-drop}
use Rattle.ids.proofs.Choice.{both, clash, holds, fails}
use Rattle.sim_blocks.specs.Regions.{blocks}
use Rattle.system.specs.Limits.{system_clients, system_servers}
use Rattle.system.specs.Places.{ClientPlace, worst}
use Rattle.sim_blocks.specs.Blocks.{client_block, server_block, client_place, valid_client_block, valid_server_block}
use Rattle.sim_layout.specs.Layout.{simulation_size, setting_of, client_words, server_words, transit_words, length_of, sent_of, most_of, view, valid_from, itself, blank, valid, servers_from, transit_from, clients_from}
use Rattle.sim_layout.specs.Inner.{blocks_valid, parts_valid}
use Rattle.sim_layout.proofs.ValidLaws.{Facts, facts, from-facts}
use Rattle.sim_layout.proofs.LendLaws.{clients-rest, servers-rest}
use Rattle.system.specs.Numbered.{client_no, server_no}

-- the most servers down, block by block
pub worst-more : (s : ℕ) (f : List ℕ → ClientPlace) (i : ℕ) (l : List ℕ) →
    worst (blocks s f (suc i) l) ≡ max (worst (blocks s f i l)) (length (f (take s (drop (i * s) l))).downs)
unfolding worst blocks
worst-more s f zero l = let z : 0 * s ≡ 0 = omega arith in rw z (omega arith)
worst-more s f (suc i) l =
    let y : s + i * s ≡ suc i * s = omega arith in
    let at : drop (i * s) (drop s l) ≡ drop (suc i * s) l = drop-drop (i * s) s l ∙ ap (λ (x : ℕ). drop x l) y in
    rw (← at) (omega (arith, worst-more s f i (drop s l)))

module _ (f : List ℕ → ClientPlace) (l : List ℕ) where
  pub worst-start : 0 ≡ worst (blocks client_block f 0 l)
  unfolding worst blocks
  worst-start = refl

  pub worst-step : (i most x r : ℕ) → most ≡ worst (blocks client_block f i l)
      → x ≡ length (f (take client_block (drop ((i + 1 - 1) * client_block) l))).downs → r ≡ max most x
      → r ≡ worst (blocks client_block f (i + 1) l)
  worst-step i most x r e g h =
      let z : i + 1 - 1 ≡ i = omega arith in
      let y : i + 1 ≡ suc i = omega arith in
      let x' : x ≡ length (f (take client_block (drop (i * client_block) l))).downs = g ∙
      ap (λ (k : ℕ). length (f (take client_block (drop (k * client_block) l))).downs) z in
      h ∙ (omega (arith, e, x', worst-more client_block f i l) ∙ ap (λ (k : ℕ). worst (blocks client_block f k l)) (sym y))

-- blocks_valid
module _ (n m clients : ℕ) (w : List ℕ) (r : (length w ≡ simulation_size) × (n ≤ system_servers) × (clients ≤ system_clients)) (a : Bool)
    (p : a ≡ valid_from (λ (i : ℕ). valid_client_block n m clients (client_no i)) 1 (blocks client_block itself clients (client_words w))) where
  abbrev C : Bool
  C = valid_from (λ (i : ℕ). valid_client_block n m clients (client_no i)) 1 (blocks client_block itself clients (client_words w))

  abbrev D : Bool
  D = blank (drop (clients * client_block) (client_words w))

  abbrev E : Bool
  E = valid_from (λ (i : ℕ). valid_server_block n clients (server_no i)) 1 (blocks server_block itself n (server_words w))

  abbrev F : Bool
  F = blank (drop (n * server_block) (server_words w))

  pub clients_bad : a ≡ false → false ≡ blocks_valid n m clients w
  unfolding blocks_valid
  clients_bad t = rw (fails a C p t)

  module _ (t : a ≡ true) (b : Bool)
      (q : b ≡ blank (take (servers_from - (clients_from + client_block * clients)) (drop (clients_from + client_block * clients) w))) where
    behind : b ≡ D
    behind = q ∙ ap blank (clients-rest w clients r.2)

    pub behind-clients : b ≡ false → false ≡ blocks_valid n m clients w
    unfolding blocks_valid
    behind-clients u = rw (holds a C p t, fails b D behind u)

    module _ (u : b ≡ true) (d : Bool) (s : d ≡ E) where
      pub servers_bad : d ≡ false → false ≡ blocks_valid n m clients w
      unfolding blocks_valid
      servers_bad v = rw (holds a C p t, holds b D behind u, fails d E s v)

      pub behind-servers : (e : Bool) → d ≡ true
          → e ≡ blank (take (transit_from - (servers_from + server_block * n)) (drop (servers_from + server_block * n) w))
          → e ≡ blocks_valid n m clients w
      unfolding blocks_valid
      behind-servers e v g = rw (holds a C p t, holds b D behind u, holds d E s v) (g ∙ ap blank (servers-rest w n r.1))

-- parts_valid
module _ (n m clients : ℕ) (w : List ℕ) (a : Bool) (p : a ≡ blocks_valid n m clients w) where
  abbrev T : Bool
  T = valid_indexed n clients (sent_of w) (length_of w) (transit_words w)

  pub blocks_bad : a ≡ false → false ≡ parts_valid n m clients w
  unfolding parts_valid
  blocks_bad t = rw (fails a (blocks_valid n m clients w) p t)

  module _ (t : a ≡ true) (b : Bool) (q : b ≡ T) where
    pub transit_bad : b ≡ false → false ≡ parts_valid n m clients w
    unfolding parts_valid
    transit_bad u = rw (holds a (blocks_valid n m clients w) p t, fails b T q u)

    module _ (u : b ≡ true) where
      pub most_high : n < most_of w → false ≡ parts_valid n m clients w
      unfolding parts_valid
      most_high h = rw (holds a (blocks_valid n m clients w) p t, holds b T q u, lt-leb (most_of w) n h)

      pub most_noted : (r : ℕ) → most_of w ≤ n → r ≡ worst (blocks client_block client_place clients (client_words w)) → leb r (most_of w) ≡ parts_valid n m clients w
      unfolding parts_valid
      most_noted r h e = rw (holds a (blocks_valid n m clients w) p t, holds b T q u, le-leb (most_of w) n h) (ap (λ (x : ℕ). leb x (most_of w)) e)

-- valid
same_truth : (a b : Bool) → (a ≡ true → b ≡ true) → (b ≡ true → a ≡ true) → a ≡ b
same_truth true b f g = sym (f refl)
same_truth false true f g = g refl
same_truth false false f g = refl

module _ (w : List ℕ) where
  abbrev in_parts : Bool
  in_parts = parts_valid (setting_of w).n (setting_of w).m (setting_of w).clients w

  parts_of : Facts w → in_parts ≡ true
  unfolding parts_valid blocks_valid view
  parts_of f =
      rw (
        f.clients,
        f.no_clients_lem,
        f.servers,
        f.no_servers,
        f.transit,
        le-leb (most_of w) (setting_of w).n f.few,
        le-leb (worst (blocks client_block client_place (setting_of w).clients (client_words w))) (most_of w) f.noted,
      )

  facts_of : length w ≡ simulation_size → in_range_up_to system_servers (setting_of w).n (setting_of w).m (setting_of w).f ≡ true
      → within (setting_of w).clients system_clients ≡ true → in_parts ≡ true → Facts w
  unfolding parts_valid blocks_valid view
  facts_of l r k h =
      let d = both _ (leb (worst (blocks client_block client_place (setting_of w).clients (client_words w))) (most_of w)) h in
      let c = both _ (leb (most_of w) (setting_of w).n) d.0 in
      let b = both _ (valid_indexed (setting_of w).n (setting_of w).clients (sent_of w) (length_of w) (transit_words w)) c.0 in
      let e = both _ (blank (drop ((setting_of w).n * server_block) (server_words w))) b.0 in
      let f = both _ (valid_from (λ (i : ℕ). valid_server_block (setting_of w).n (setting_of w).clients (server_no i)) 1
      (blocks server_block itself (setting_of w).n (server_words w))) e.0 in
      let g = both (valid_from (λ (i : ℕ). valid_client_block (setting_of w).n (setting_of w).m (setting_of w).clients (client_no i)) 1
      (blocks client_block itself (setting_of w).clients (client_words w))) (blank
      (drop ((setting_of w).clients * client_block) (client_words w))) f.0 in
      record {
        long = l;
        range = r;
        some = k;
        clients = g.0;
        no_clients_lem = g.1;
        servers = f.1;
        no_servers = e.1;
        transit = b.1;
        few = leb-true (most_of w) (setting_of w).n c.1;
        noted = leb-true (worst (blocks client_block client_place (setting_of w).clients (client_words w))) (most_of w) d.1;
      }

  -- a test that fails makes the whole false
  by_fact : (b : Bool) → (Facts w → b ≡ true) → b ≡ false → false ≡ valid w
  by_fact b f e = same_truth false (valid w) (λ z. clash false z refl) (λ z. clash b (f (facts w z)) e)

  pub size-wrong : (length w ≡ simulation_size → ⊥) → false ≡ valid w
  size-wrong n = same_truth false (valid w) (λ z. clash false z refl) (λ z. absurd (n (facts w z).long))

  module _ (l : length w ≡ simulation_size) (a : Bool) (p : a ≡ in_range_up_to system_servers (get_or w 0 0) (get_or w 1 0) (get_or w 2 0)) where
    its-range : in_range_up_to system_servers (setting_of w).n (setting_of w).m (setting_of w).f ≡ in_range_up_to system_servers (get_or w 0 0) (get_or w 1 0) (get_or w 2 0)
    unfolding setting_of
    its-range = refl

    pub range-wrong : a ≡ false → false ≡ valid w
    range-wrong t = by_fact (in_range_up_to system_servers (setting_of w).n (setting_of w).m (setting_of w).f) (λ f. f.range) (its-range ∙
        fails a (in_range_up_to system_servers (get_or w 0 0) (get_or w 1 0) (get_or w 2 0)) p t)

    module _ (t : a ≡ true) (b : Bool) (q : b ≡ within (get_or w 3 0) system_clients) where
      its-clients : within (setting_of w).clients system_clients ≡ within (get_or w 3 0) system_clients
      unfolding setting_of
      its-clients = refl

      pub clients-wrong : b ≡ false → false ≡ valid w
      clients-wrong u = by_fact (within (setting_of w).clients system_clients) (λ f. f.some) (its-clients ∙ fails b (within (get_or w 3 0) system_clients) q u)

      pub bounds : b ≡ true → (length w ≡ simulation_size) × (get_or w 0 0 ≤ system_servers) × (get_or w 3 0 ≤ system_clients)
      bounds u =
          let r = range system_servers (get_or w 0 0) (get_or w 1 0) (get_or w 2 0) (holds a (in_range_up_to system_servers (get_or w 0 0) (get_or w 1 0) (get_or w 2 0)) p t) in
          let k = both (leb 1 (get_or w 3 0)) (leb (get_or w 3 0) system_clients) (holds b (within (get_or w 3 0) system_clients) q u) in
          (l, r.servers, leb-true (get_or w 3 0) system_clients k.1)

      its-parts : in_parts ≡ parts_valid (get_or w 0 0) (get_or w 1 0) (get_or w 3 0) w
      unfolding setting_of
      its-parts = refl

      pub parts-decide : (r : Bool) → b ≡ true → r ≡ parts_valid (get_or w 0 0) (get_or w 1 0) (get_or w 3 0) w → r ≡ valid w
      parts-decide r u e =
          e ∙ (sym its-parts ∙ same_truth in_parts (valid w)
          (λ h. from-facts w (facts_of l (its-range ∙ holds a (in_range_up_to system_servers (get_or w 0 0) (get_or w 1 0) (get_or w 2 0)) p t)
          (its-clients ∙ holds b (within (get_or w 3 0) system_clients) q u) h))
          (λ h. parts_of (facts w h)))

-- transit_valid
pub transit-part : (n clients : ℕ) (w : List ℕ)
    → valid_indexed n clients (sent_of w) (length_of w) (transit_words w) ≡ valid_indexed n clients (get_or w 5 0) (get_or w 4 0) (take indexed_size (drop transit_from w))
unfolding transit_words
transit-part n clients w = refl
