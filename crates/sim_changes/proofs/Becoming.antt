-- A store in one part of a simulation: the words are a simulation again, and its system differs in that part alone.
-- Between the stores of one event the most servers down may not be noted yet: such words are sound, and valid once it is noted.
use mathlib.Core.Path.{◌≡◌, sym, ap, subst, ◌∙◌}
use mathlib.Core.Logic.{⊎_elim}
use Prim.Native.Nat.{ℕ, zero, suc, ◌+◌, ◌*◌, ◌-◌, ◌≤◌, ◌<◌, max}
use native.Mathlib.Omega.{arith}
use mathlib.Core.Bool.{Bool, true, false}
use mathlib.Core.List.{List, [], ◌∷◌}
use lib.Dec.{eqb}
use lib.ListN.{length, get_or, take, drop, set, length-set}
use lib.Seq.{sets, length-sets, set-get_or, get_or-set_same, get_or-set_other}
use Rattle.ids.specs.Limits.{within}
use Rattle.ids.specs.Lists.{every}
use Rattle.ids.proofs.Choice.{decided}
use Rattle.ids.proofs.LimitsLaws.{within-range}
use Rattle.quorum.specs.Check.{in_range_up_to}
use Rattle.quorum.proofs.CheckLaws.{range}
use Rattle.sim_blocks.specs.Regions.{blocks}
use Rattle.sim_blocks.proofs.RegionLaws.{drop_sets_before}
use Rattle.system.specs.Limits.{system_clients, system_servers}
use Rattle.system.specs.Numbered.{put, client_no, server_no}
use Rattle.system.specs.Places.{System, ClientPlace, ServerPlace, worst}
use Rattle.sim_blocks.specs.Blocks.{client_block, server_block, client_place, server_place, flags, flagged, zero_word, valid_client_block, valid_server_block}
use Rattle.sim_blocks.proofs.BlockParts.{covered}
use Rattle.sim_blocks.proofs.Facts.{client-facts, server-facts}
use Rattle.sim_blocks.proofs.FlagLaws.{none-flagged}
use Rattle.sim_blocks.proofs.ClientLaws.{ClientIs}
use Rattle.sim_blocks.proofs.ServerLaws.{ServerIs}
use Rattle.sim_indexed.specs.Indexed.{in_transit, valid_indexed, indexed_size}
use Rattle.sim_indexed.proofs.IndexedLaws.{parts}
use Rattle.sim_layout.specs.Layout.{simulation_size, setting_of, client_words, server_words, transit_words, length_of, sent_of, most_of, view, valid_from, itself, blank}
use Rattle.sim_layout.specs.Layout.{valid, clients_size, servers_from, servers_size, transit_from, clients_from}
use Rattle.sim_layout.specs.Parts.{client_block_of, server_block_of}
use Rattle.sim_layout.proofs.ViewLaws.{head-kept, setting_kept, in_clients, clients-servers, clients-transit, servers-clients, in_servers, servers-transit}
use Rattle.sim_layout.proofs.ViewLaws.{client-stored, server-stored}
use Rattle.sim_layout.proofs.ValidLaws.{facts, from-facts, each-valid, still-valid}
use Rattle.sim_layout.proofs.LendLaws.{client_block-long, server_block-long}
use Rattle.sim_layout.proofs.PlaceLaws.{put-set}
use Rattle.sim_layout.proofs.PartLaws.{Is, itself-is, is_transit_store, is_head_store}
use Rattle.sim_layout.proofs.TestLaws.{worst-more}
use Rattle.sim_changes.specs.Changes.{Becomes, with_transit, with_clients}
use Rattle.sim_changes.specs.Inner.{with_client, with_server}

-- all that `valid` says but that the most is noted
pub record Sound (w : List ℕ) : Type 0 where
  pub long : length w ≡ simulation_size
  pub range : in_range_up_to system_servers (setting_of w).n (setting_of w).m (setting_of w).f ≡ true
  pub some : within (setting_of w).clients system_clients ≡ true
  pub clients : valid_from (λ (i : ℕ). valid_client_block (setting_of w).n (setting_of w).m (setting_of w).clients (client_no i)) 1
      (blocks client_block itself (setting_of w).clients (client_words w)) ≡ true
  pub no_clients_lem : blank (drop ((setting_of w).clients * client_block) (client_words w)) ≡ true
  pub servers : valid_from (λ (i : ℕ). valid_server_block (setting_of w).n (setting_of w).clients (server_no i)) 1
      (blocks server_block itself (setting_of w).n (server_words w)) ≡ true
  pub no_servers : blank (drop ((setting_of w).n * server_block) (server_words w)) ≡ true
  pub transit : valid_indexed (setting_of w).n (setting_of w).clients (sent_of w) (length_of w) (transit_words w) ≡ true
  pub few : most_of w ≤ (setting_of w).n

pub sound : (w : List ℕ) → valid w ≡ true → Sound w
sound w h =
    let F = facts w h in
    record {
      long = F.long;
      range = F.range;
      some = F.some;
      clients = F.clients;
      no_clients_lem = F.no_clients_lem;
      servers = F.servers;
      no_servers = F.no_servers;
      transit = F.transit;
      few = F.few;
    }

pub noted_valid : (w : List ℕ) → Sound w → worst (view w).clients ≤ most_of w → valid w ≡ true
noted_valid w F h =
    from-facts w (record {
      long = F.long;
      range = F.range;
      some = F.some;
      clients = F.clients;
      no_clients_lem = F.no_clients_lem;
      servers = F.servers;
      no_servers = F.no_servers;
      transit = F.transit;
      few = F.few;
      noted = h;
    })

-- w' is sound, of w's setting, and its system is u
pub record Near (w w' : List ℕ) (u : System) : Type 0 where
  pub system : view w' ≡ u
  pub setting : setting_of w' ≡ setting_of w
  pub again : Sound w'

-- what a sound simulation says of its parts
module _ (w : List ℕ) (F : Sound w) where
  pub few_servers : (setting_of w).n ≤ system_servers
  few_servers = (range system_servers (setting_of w).n (setting_of w).m (setting_of w).f F.range).servers

  pub few_clients : (setting_of w).clients ≤ system_clients
  few_clients = (within-range (setting_of w).clients system_clients F.some).1

  pub client_valid : (k : ℕ) → 1 ≤ k → k ≤ (setting_of w).clients
      → valid_client_block (setting_of w).n (setting_of w).m (setting_of w).clients (client_no k) (client_block_of w (client_no k)) ≡ true
  client_valid k p q =
      let z : 1 + (k - 1) ≡ k = omega arith in
      subst (λ (x : ℕ). valid_client_block (setting_of w).n (setting_of w).m (setting_of w).clients (client_no x) (client_block_of w (client_no k)) ≡ true) z
      (each-valid (λ (i : ℕ). valid_client_block (setting_of w).n (setting_of w).m (setting_of w).clients (client_no i)) client_block (setting_of w).clients 1
      (client_words w) F.clients (k - 1) (omega arith))

  pub server_valid : (j : ℕ) → 1 ≤ j → j ≤ (setting_of w).n
      → valid_server_block (setting_of w).n (setting_of w).clients (server_no j) (server_block_of w (server_no j)) ≡ true
  server_valid j p q =
      let z : 1 + (j - 1) ≡ j = omega arith in
      subst (λ (x : ℕ). valid_server_block (setting_of w).n (setting_of w).clients (server_no x) (server_block_of w (server_no j)) ≡ true) z
      (each-valid (λ (i : ℕ). valid_server_block (setting_of w).n (setting_of w).clients (server_no i)) server_block (setting_of w).n 1 (server_words w) F.servers
      (j - 1) (omega arith))

-- the most servers down, where one client changes
pub worst-set : (l : List ClientPlace) (i : ℕ) (p : ClientPlace) (most : ℕ) → worst l ≤ most → length p.downs ≤ most → worst (set l i p) ≤ most
unfolding worst
worst-set [] i p most h g = h
worst-set (c ∷ l) zero p most h g = omega arith
worst-set (c ∷ l) (suc i) p most h g = omega (arith, worst-set l i p most (omega arith) g)

pub worst-put : (l : List ClientPlace) (k : ℕ) (p : ClientPlace) (most : ℕ) → worst l ≤ most → length p.downs ≤ most → worst (put l k p) ≤ most
worst-put l zero p most h g = h
worst-put l (suc i) p most h g = worst-set l i p most h g

-- client k's block is stored
module _ (w : List ℕ) (F : Sound w) (k : ℕ) (b : List ℕ) (p : ClientPlace) (first : 1 ≤ k) (last : k ≤ (setting_of w).clients)
    (B : ClientIs (setting_of w).n (setting_of w).m (setting_of w).clients k b p) where
  abbrev client-at : ℕ
  client-at = (k - 1) * client_block + 0

  client-long : length b ≡ client_block
  client-long = (client-facts (setting_of w).n (setting_of w).m (setting_of w).clients k b B.valid).size

  client-whole : sets (take client_block (drop ((k - 1) * client_block) (client_words w))) 0 b ≡ b
  client-whole = covered (client_block_of w (client_no k)) b (client-long ∙ sym (client_block-long w k F.long first (omega (arith, few_clients w F))))

  client-system : view (sets w (clients_from + client-at) b) ≡ with_client (view w) (client_no k) p
  client-system =
      client-stored w (k - 1) 0 b (omega arith) (few_clients w F) (omega (arith, client-long)) ∙
      ap (λ (l : List ClientPlace). record { clients = l; servers = (view w).servers; transit = (view w).transit; sent = (view w).sent; most = (view w).most })
      (ap (λ (x : List ℕ). set (view w).clients (k - 1) (client_place x)) client-whole ∙
      (ap (λ (x : ClientPlace). set (view w).clients (k - 1) x) B.place ∙ put-set (view w).clients k p (omega arith)))

  client_sound : Sound (sets w (clients_from + client-at) b)
  client_sound =
      let s = setting_kept w (clients_from + client-at) b (omega arith) in
      let fits : client-at + length b ≤ clients_size = omega (arith, client-long, few_clients w F) in
      let head : (i : ℕ) → i < clients_from → get_or (sets w (clients_from + client-at) b) i 0 ≡ get_or w i 0 =
      λ i q. head-kept w (clients_from + client-at) b i (omega arith) in
      let z : k ≡ 1 + (k - 1) = omega arith in
      let f : ℕ → List ℕ → Bool = λ i. valid_client_block (setting_of w).n (setting_of w).m (setting_of w).clients (client_no i) in
      let new : f (1 + (k - 1)) (sets (take client_block (drop ((k - 1) * client_block) (client_words w))) 0 b) ≡ true =
      subst (λ (x : ℕ). f x (sets (take client_block (drop ((k - 1) * client_block) (client_words w))) 0 b) ≡ true) z (ap (f k) client-whole ∙ B.valid) in
      record {
        long = length-sets w (clients_from + client-at) b ∙ F.long;
        range = rw s F.range;
        some = rw s F.some;
        clients = rw (s, in_clients w client-at b fits)
            (still-valid f client_block (setting_of w).clients 1 (k - 1) (client_words w) 0 b (omega arith) (omega (arith, client-long)) F.clients new);
        no_clients_lem = rw (
          s,
          in_clients w client-at b fits,
          drop_sets_before ((setting_of w).clients * client_block) (client_words w) client-at b
              (omega (arith, client-long)),
        ) F.no_clients_lem;
        servers = rw (s, clients-servers w client-at b fits) F.servers;
        no_servers = rw (s, clients-servers w client-at b fits) F.no_servers;
        transit = rw (s, clients-transit w client-at b fits, head 4 (omega arith), head 5 (omega arith)) F.transit;
        few = rw (s, head 6 (omega arith)) F.few;
      }

  pub client_near : Near w (sets w (clients_from + client_block * (k - 1)) b) (with_client (view w) (client_no k) p)
  client_near =
      let z : clients_from + client-at ≡ clients_from + client_block * (k - 1) = omega arith in
      subst (λ (x : ℕ). Near w (sets w x b) (with_client (view w) (client_no k) p)) z
      (record { system = client-system; setting = setting_kept w (clients_from + client-at) b (omega arith); again = client_sound })

  pub client-most : get_or (sets w (clients_from + client_block * (k - 1)) b) 6 0 ≡ get_or w 6 0
  client-most = head-kept w (clients_from + client_block * (k - 1)) b 6 (omega arith)

-- server j's block is stored
module _ (w : List ℕ) (F : Sound w) (j : ℕ) (b : List ℕ) (q : ServerPlace) (first : 1 ≤ j) (last : j ≤ (setting_of w).n)
    (B : ServerIs (setting_of w).n (setting_of w).clients j b q) where
  abbrev server-at : ℕ
  server-at = (j - 1) * server_block + 0

  server-long : length b ≡ server_block
  server-long = (server-facts (setting_of w).n (setting_of w).clients j b B.valid).size

  server-whole : sets (take server_block (drop ((j - 1) * server_block) (server_words w))) 0 b ≡ b
  server-whole = covered (server_block_of w (server_no j)) b (server-long ∙ sym (server_block-long w j F.long first (omega (arith, few_servers w F))))

  server-system : view (sets w (servers_from + server-at) b) ≡ with_server (view w) (server_no j) q
  server-system =
      server-stored w (j - 1) 0 b (omega arith) (few_servers w F) (omega (arith, server-long)) ∙
      ap (λ (l : List ServerPlace). record { clients = (view w).clients; servers = l; transit = (view w).transit; sent = (view w).sent; most = (view w).most })
      (ap (λ (x : List ℕ). set (view w).servers (j - 1) (server_place x)) server-whole ∙
      (ap (λ (x : ServerPlace). set (view w).servers (j - 1) x) B.place ∙ put-set (view w).servers j q (omega arith)))

  server_sound : Sound (sets w (servers_from + server-at) b)
  server_sound =
      let s = setting_kept w (servers_from + server-at) b (omega arith) in
      let fits : server-at + length b ≤ servers_size = omega (arith, server-long, few_servers w F) in
      let head : (i : ℕ) → i < clients_from → get_or (sets w (servers_from + server-at) b) i 0 ≡ get_or w i 0 =
      λ i q. head-kept w (servers_from + server-at) b i (omega arith) in
      let z : j ≡ 1 + (j - 1) = omega arith in
      let f : ℕ → List ℕ → Bool = λ i. valid_server_block (setting_of w).n (setting_of w).clients (server_no i) in
      let new : f (1 + (j - 1)) (sets (take server_block (drop ((j - 1) * server_block) (server_words w))) 0 b) ≡ true =
      subst (λ (x : ℕ). f x (sets (take server_block (drop ((j - 1) * server_block) (server_words w))) 0 b) ≡ true) z (ap (f j) server-whole ∙ B.valid) in
      record {
        long = length-sets w (servers_from + server-at) b ∙ F.long;
        range = rw s F.range;
        some = rw s F.some;
        clients = rw (s, servers-clients w server-at b fits) F.clients;
        no_clients_lem = rw (s, servers-clients w server-at b fits) F.no_clients_lem;
        servers = rw (s, in_servers w server-at b fits)
            (still-valid f server_block (setting_of w).n 1 (j - 1) (server_words w) 0 b (omega arith) (omega (arith, server-long)) F.servers new);
        no_servers = rw (
          s,
          in_servers w server-at b fits,
          drop_sets_before ((setting_of w).n * server_block) (server_words w) server-at b
              (omega (arith, server-long)),
        ) F.no_servers;
        transit = rw (s, servers-transit w server-at b fits, head 4 (omega arith), head 5 (omega arith)) F.transit;
        few = rw (s, head 6 (omega arith)) F.few;
      }

  pub server_near : Near w (sets w (servers_from + server_block * (j - 1)) b) (with_server (view w) (server_no j) q)
  server_near =
      let z : servers_from + server-at ≡ servers_from + server_block * (j - 1) = omega arith in
      subst (λ (x : ℕ). Near w (sets w x b) (with_server (view w) (server_no j) q)) z
      (record { system = server-system; setting = setting_kept w (servers_from + server-at) b (omega arith); again = server_sound })

-- the messages in transit, their number and the number of messages sent are stored
module _ (w : List ℕ) (F : Sound w) (t : List ℕ) (len sent : ℕ) (ok' : valid_indexed (setting_of w).n (setting_of w).clients sent len t ≡ true) where
  abbrev posted : List ℕ
  posted = set (set (sets w transit_from t) 4 len) 5 sent

  slots-long : length t ≡ indexed_size
  slots-long = (parts (setting_of w).n (setting_of w).clients sent len t ok').size

  old-long : length (transit_words w) ≡ indexed_size
  old-long = (parts (setting_of w).n (setting_of w).clients (sent_of w) (length_of w) (transit_words w) F.transit).size

  posted-parts : Is posted (set (set (take clients_from w) 4 len) 5 sent) (client_words w) (server_words w) t
  posted-parts =
      let a = is_transit_store (itself-is w F.long) 0 t (omega (arith, slots-long)) in
      let b = is_head_store (is_head_store a 4 len (omega arith)) 5 sent (omega arith) in
      record {
        long = b.long;
        head = b.head;
        clients = b.clients;
        servers = b.servers;
        transit = b.transit
            ∙ covered (transit_words w) t (slots-long ∙ sym old-long);
      }

  posted-word : (i : ℕ) → i < clients_from → (i ≡ 4 → ⊥) → (i ≡ 5 → ⊥) → get_or posted i 0 ≡ get_or w i 0
  posted-word i h a b = get_or-set_other (set (sets w transit_from t) 4 len) 5 i sent 0 b
      ∙ (get_or-set_other (sets w transit_from t) 4 i len 0 a ∙ head-kept w transit_from t i (omega arith))

  posted-length : get_or posted 4 0 ≡ len
  posted-length =
      get_or-set_other (set (sets w transit_from t) 4 len) 5 4 sent 0 (λ e. omega arith) ∙
      get_or-set_same (sets w transit_from t) 4 len 0 (omega (arith, length-sets w transit_from t, F.long))

  posted-sent : get_or posted 5 0 ≡ sent
  posted-sent = get_or-set_same (set (sets w transit_from t) 4 len) 5 sent 0
      (omega (arith, length-set (sets w transit_from t) 4 len, length-sets w transit_from t, F.long))

  posted-setting : setting_of posted ≡ setting_of w
  unfolding setting_of
  posted-setting =
      let a = posted-word 0 (omega arith) (λ e. omega arith) (λ e. omega arith) in
      let b = posted-word 1 (omega arith) (λ e. omega arith) (λ e. omega arith) in
      let c = posted-word 2 (omega arith) (λ e. omega arith) (λ e. omega arith) in
      let d = posted-word 3 (omega arith) (λ e. omega arith) (λ e. omega arith) in
      λ i. record { n = a i; m = b i; f = c i; clients = d i }

  posted-most : get_or posted 6 0 ≡ get_or w 6 0
  posted-most = posted-word 6 (omega arith) (λ e. omega arith) (λ e. omega arith)

  posted-system : view posted ≡ record { clients = (view w).clients; servers = (view w).servers; transit = in_transit len t; sent = sent; most = (view w).most }
  unfolding view
  posted-system =
      let P = posted-parts in
      rw (posted-setting, P.clients, P.servers, P.transit, posted-length, posted-sent, posted-most)

  posted_sound : Sound posted
  posted_sound =
      let P = posted-parts in
      let s = posted-setting in
      record {
        long = P.long;
        range = rw s F.range;
        some = rw s F.some;
        clients = rw (s, P.clients) F.clients;
        no_clients_lem = rw (s, P.clients) F.no_clients_lem;
        servers = rw (s, P.servers) F.servers;
        no_servers = rw (s, P.servers) F.no_servers;
        transit = rw (s, P.transit, posted-length, posted-sent) ok';
        few = rw (s, posted-most) F.few;
      }

-- no more servers count in an epoch than there are
flagged-few : (n j : ℕ) (l : List ℕ) → every zero_word (drop n l) ≡ true → length (flagged j l) ≤ n
unfolding flagged
flagged-few n j [] h = omega arith
flagged-few zero j (x ∷ l) h = rw (none-flagged j (x ∷ l) h) (omega arith)
flagged-few (suc n) j (x ∷ l) h =
    ⊎_elim
    (λ (t : eqb x 0 ≡ true). rw t (omega (arith, flagged-few n (suc j) l h)))
    (λ (t : eqb x 0 ≡ false). rw t (omega (arith, flagged-few n (suc j) l h)))
    (decided (eqb x 0))

downs-few : (n m clients k : ℕ) (b : List ℕ) → valid_client_block n m clients (client_no k) b ≡ true → length (client_place b).downs ≤ n
unfolding client_place
downs-few n m clients k b ok = flagged-few n 1 (flags b) (client-facts n m clients k b ok).behind

-- the most is noted
module _ (w : List ℕ) (F : Sound w) where
  worst_few_of : (i : ℕ) → i ≤ (setting_of w).clients → worst (blocks client_block client_place i (client_words w)) ≤ (setting_of w).n
  unfolding worst blocks
  worst_few_of zero h = omega arith
  worst_few_of (suc i) h =
      let f : ℕ → List ℕ → Bool = λ i. valid_client_block (setting_of w).n (setting_of w).m (setting_of w).clients (client_no i) in
      let v = each-valid f client_block (setting_of w).clients 1 (client_words w) F.clients i h in
      omega (
        arith,
        worst-more client_block client_place i (client_words w),
        worst_few_of i (omega arith),
        downs-few (setting_of w).n (setting_of w).m (setting_of w).clients (1 + i) (take client_block (drop (i * client_block) (client_words w))) v,
      )

  worst-few : worst (view w).clients ≤ (setting_of w).n
  unfolding view
  worst-few = worst_few_of (setting_of w).clients (omega arith)

  abbrev most : ℕ
  most = max (most_of w) (worst (view w).clients)

  noted_word : (i : ℕ) → i < 6 → get_or (set w 6 most) i 0 ≡ get_or w i 0
  noted_word i h = get_or-set_other w 6 i most 0 (λ e. omega arith)

  noted_setting : setting_of (set w 6 most) ≡ setting_of w
  unfolding setting_of
  noted_setting =
      let a = noted_word 0 (omega arith) in
      let b = noted_word 1 (omega arith) in
      let c = noted_word 2 (omega arith) in
      let d = noted_word 3 (omega arith) in
      λ i. record { n = a i; m = b i; f = c i; clients = d i }

  noted_most : get_or (set w 6 most) 6 0 ≡ most
  noted_most = get_or-set_same w 6 most 0 (omega (arith, F.long))

  noted_parts : Is (set w 6 most) (set (take clients_from w) 6 most) (client_words w) (server_words w) (transit_words w)
  noted_parts = is_head_store (itself-is w F.long) 6 most (omega arith)

  noted_system : view (set w 6 most) ≡ with_clients (view w) (view w).clients
  unfolding view
  noted_system =
      let P = noted_parts in
      rw (noted_setting, P.clients, P.servers, P.transit, noted_word 4 (omega arith), noted_word 5 (omega arith), noted_most)

  noted_sound : Sound (set w 6 most)
  noted_sound =
      let P = noted_parts in
      let s = noted_setting in
      record {
        long = P.long;
        range = rw s F.range;
        some = rw s F.some;
        clients = rw (s, P.clients) F.clients;
        no_clients_lem = rw (s, P.clients) F.no_clients_lem;
        servers = rw (s, P.servers) F.servers;
        no_servers = rw (s, P.servers) F.no_servers;
        transit = rw (s, P.transit, noted_word 4 (omega arith), noted_word 5 (omega arith)) F.transit;
        few = rw (s, noted_most) (omega (arith, F.few, worst-few));
      }

  pub most-becomes : Becomes w (set w 6 (max (most_of w) (worst (view w).clients))) (with_clients (view w) (view w).clients)
  most-becomes =
      record {
        system = noted_system;
        setting = noted_setting;
        again = noted_valid (set w 6 most) noted_sound (rw (noted_system, noted_most) (omega arith));
      }

-- the laws, of a valid simulation
module _ (w : List ℕ) (ok : valid w ≡ true) where
  pub client-becomes : (k : ℕ) (b : List ℕ) (p : ClientPlace) → 1 ≤ k → k ≤ (setting_of w).clients
      → ClientIs (setting_of w).n (setting_of w).m (setting_of w).clients k b p → length p.downs ≤ most_of w
      → Becomes w (sets w (clients_from + client_block * (k - 1)) b) (with_client (view w) (client_no k) p)
  client-becomes k b p first last B few =
      let N = client_near w (sound w ok) k b p first last B in
      let most = client-most w (sound w ok) k b p first last B in
      record {
        system = N.system;
        setting = N.setting;
        again = noted_valid (sets w (clients_from + client_block * (k - 1)) b) N.again
            (rw (N.system, most) (worst-put (view w).clients k p (most_of w) (facts w ok).noted few));
      }

  pub server-becomes : (j : ℕ) (b : List ℕ) (q : ServerPlace) → 1 ≤ j → j ≤ (setting_of w).n
      → ServerIs (setting_of w).n (setting_of w).clients j b q
      → Becomes w (sets w (servers_from + server_block * (j - 1)) b) (with_server (view w) (server_no j) q)
  server-becomes j b q first last B =
      let N = server_near w (sound w ok) j b q first last B in
      let most = head-kept w (servers_from + server_block * (j - 1)) b 6 (omega arith) in
      record {
        system = N.system;
        setting = N.setting;
        again = noted_valid (sets w (servers_from + server_block * (j - 1)) b) N.again (rw (N.system, most) (facts w ok).noted);
      }

  -- with the number of messages and the number of messages sent
  pub sent-becomes : (t : List ℕ) (len sent : ℕ) → valid_indexed (setting_of w).n (setting_of w).clients sent len t ≡ true
      → Becomes w (set (set (sets w transit_from t) 4 len) 5 sent)
      (record { clients = (view w).clients; servers = (view w).servers; transit = in_transit len t; sent = sent; most = (view w).most })
  sent-becomes t len sent ok' =
      let F = sound w ok in
      let e = posted-system w F t len sent ok' in
      record {
        system = e;
        setting = posted-setting w F t len sent ok';
        again = noted_valid (set (set (sets w transit_from t) 4 len) 5 sent) (posted_sound w F t len sent ok')
            (rw (e, posted-most w F t len sent ok') (facts w ok).noted);
      }

  -- with the number of messages
  pub length-becomes : (t : List ℕ) (len : ℕ) → valid_indexed (setting_of w).n (setting_of w).clients (sent_of w) len t ≡ true
      → Becomes w (set (sets w transit_from t) 4 len) (with_transit (view w) (in_transit len t))
  unfolding view
  length-becomes t len ok' =
      let five : get_or (set (sets w transit_from t) 4 len) 5 0 ≡ sent_of w =
      get_or-set_other (sets w transit_from t) 4 5 len 0 (λ e. omega arith) ∙ head-kept w transit_from t 5 (omega arith) in
      let same : set (set (sets w transit_from t) 4 len) 5 (sent_of w) ≡ set (sets w transit_from t) 4 len =
      ap (λ (x : ℕ). set (set (sets w transit_from t) 4 len) 5 x) (sym five) ∙ set-get_or (set (sets w transit_from t) 4 len) 5 0 in
      subst (λ (x : List ℕ). Becomes w x (with_transit (view w) (in_transit len t))) same (sent-becomes t len (sent_of w) ok')

  pub transit-becomes : (t : List ℕ) → valid_indexed (setting_of w).n (setting_of w).clients (sent_of w) (length_of w) t ≡ true
      → Becomes w (sets w transit_from t) (with_transit (view w) (in_transit (length_of w) t))
  transit-becomes t ok' =
      let same : set (sets w transit_from t) 4 (length_of w) ≡ sets w transit_from t =
      ap (λ (x : ℕ). set (sets w transit_from t) 4 x) (sym (head-kept w transit_from t 4 (omega arith))) ∙ set-get_or (sets w transit_from t) 4 0 in
      subst (λ (x : List ℕ). Becomes w x (with_transit (view w) (in_transit (length_of w) t))) same (length-becomes t (length_of w) ok')
