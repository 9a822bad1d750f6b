-- A new simulation: all words are cleared, the setting is written, and block by block the parties are put. What is put behind the
-- first i blocks is still 0.
use mathlib.Core.Path.{◌≡◌, refl, sym, ap, subst, ◌∙◌}
use mathlib.Core.Logic.{⊎_elim}
use Prim.Native.Nat.{ℕ, zero, suc, ◌+◌, ◌*◌, ◌-◌, ◌≤◌, ◌<◌}
use native.Mathlib.Omega.{arith}
use mathlib.Core.Bool.{true, false}
use mathlib.Core.List.{List, [], ◌∷◌}
use lib.Dec.{eqb, ltb}
use lib.ListN.{length, get_or, set, take, drop, replicate, length-set, length-drop}
use lib.Seq.{sets, length-sets, drop-drop, length-take-le}
use borrow.Author.Tests.{eqb-true, ltb-true, ltb-false, le-leb}
use Rattle.ids.specs.Limits.{within, valid_client, max_client, max_servers}
use Rattle.ids.specs.Lists.{every}
use Rattle.ids.specs.declared.ServerId.{ServerId}
use Rattle.ids.proofs.Choice.{both, decided}
use Rattle.ids.proofs.LimitsLaws.{within-range}
use Rattle.server_votes.specs.Figure1.{idle}
use Rattle.client.specs.Record.{client_of, head_in}
use Rattle.client.proofs.RecordLaws.{fresh-stored}
use Rattle.client.specs.declared.Client.{Client}
use Rattle.client.specs.declared.Head.{Head as ClientHead}
use Rattle.client_responses.specs.Figure1.{fresh, enough}
use Rattle.server.specs.Calls.{empty_head, empty_server_in}
use Rattle.server.specs.Record.{server_of, valid_sizes as server_sizes}
use Rattle.server.specs.declared.Head.{Head as ServerHead}
use Rattle.words.specs.Records as records
use Rattle.quorum.specs.Check.{in_range_up_to}
use Rattle.quorum.proofs.CheckLaws.{range}
use Rattle.sim_blocks.specs.Regions.{blocks}
use Rattle.sim_blocks.proofs.RegionLaws.{drop_sets_before}
use Rattle.system.specs.Places.{ClientPlace, worst}
use Rattle.system.specs.Runs.{start}
use Rattle.sim_blocks.specs.Blocks.{response_words, queue_words, client_place, server_place, valid_client_block, valid_server_block, flagged, zero_word, client_block, server_block}
use Rattle.sim_blocks.proofs.BlockParts.{covered}
use Rattle.sim_blocks.proofs.ClientLaws.{ClientIs, Frame}
use Rattle.sim_blocks.proofs.ClientSteps.{fresh-block}
use Rattle.sim_blocks.proofs.ServerLaws.{ServerIs, idle-block, empty-row}
use Rattle.sim_indexed.proofs.Kept.{valid-none, none-there}
use Rattle.sim_layout.specs.Layout.{setting_of, client_words, server_words, transit_words, view, valid, valid_from, itself, blank, servers_from, simulation_size}
use Rattle.sim_layout.specs.Layout.{clients_size, servers_size, transit_from, clients_from}
use Rattle.sim_layout.specs.Parts.{client_block_of, server_block_of, ClientIn, ServerIn}
use Rattle.sim_layout.proofs.ValidLaws.{all_valid, block_here, block-other, from-facts}
use Rattle.sim_layout.proofs.PartLaws.{Is, itself-is, is_client-store, is_server_store, is_head_store, head-word, setting-is, view-is, setting_in, system_in}
use Rattle.sim_layout.proofs.LendLaws.{client_block-long, server_block-long}
use Rattle.system.specs.declared.Setting.{Setting}
use Rattle.sim_changes.specs.Opening.{Starts}
use Rattle.sim_changes.specs.Inner.{Cleared, fresh_record, new_client, new_server, in_turn}
use Rattle.sim_changes.proofs.Stores.{sets_over, client_block-from, server_block-stored}
use Rattle.system.specs.Limits.{system_clients, system_servers}
use Rattle.sim_indexed.specs.Indexed.{indexed_size}
use Rattle.system.specs.Numbered.{client_no, server_no}
use Rattle.words.specs.Records.{max_word}

-- words that are all 0
blank-is : (l : List ℕ) → blank l ≡ true → l ≡ replicate (length l) 0
blank-is [] h = refl
blank-is (x ∷ l) h = let (a, g) = both (eqb 0 x) (blank l) h in let z : 0 ≡ x = eqb-true 0 x a in λ i. sym z i ∷ blank-is l g i

blank-take : (n : ℕ) (l : List ℕ) → blank l ≡ true → blank (take n l) ≡ true
blank-take zero l h = refl
blank-take (suc n) [] h = refl
blank-take (suc n) (x ∷ l) h = let (a, g) = both (eqb 0 x) (blank l) h in rw a (blank-take n l g)

blank-drop : (n : ℕ) (l : List ℕ) → blank l ≡ true → blank (drop n l) ≡ true
blank-drop zero l h = h
blank-drop (suc n) [] h = refl
blank-drop (suc n) (x ∷ l) h = blank-drop n l (both (eqb 0 x) (blank l) h).1

-- one party's block
module _ (n m k : ℕ) (w : List ℕ) (h : ClientIn w (client_no k)) where
  pub client-opened : (d : ClientHead) → d ≡ head_in n m (client_no k) (fresh n) → (w' : List ℕ)
      → w' ≡ sets (set w (clients_from + client_block * (k - 1)) 1) (clients_from + client_block * (k - 1))
      (sets (client_block_of (set w (clients_from + client_block * (k - 1)) 1) (client_no k)) 1 (records.client_words (client_of d (replicate response_words 0))))
      → w' ≡ new_client n m (client_no k) w
  unfolding new_client
  client-opened d e w' g =
      let b : client_block_of (set w (clients_from + client_block * (k - 1)) 1) (client_no k) ≡ set (client_block_of w (client_no k)) 0 1 =
      client_block-from w k h (1 ∷ []) (omega arith) in
      let l : 1 ≤ length (sets (set (client_block_of w (client_no k)) 0 1) 1 (records.client_words (fresh_record n m (client_no k)))) =
      omega (
        arith,
        length-sets (set (client_block_of w (client_no k)) 0 1) 1 (records.client_words (fresh_record n m (client_no k))),
        length-set
            (client_block_of w (client_no k)) 0 1,
        client_block-long w k h.long h.first h.last,
      ) in
      g ∙
      (ap (λ (x : List ℕ). sets (set w (clients_from + client_block * (k - 1)) 1) (clients_from + client_block * (k - 1))
      (sets x 1 (records.client_words (client_of d (replicate response_words 0))))) b ∙
      (ap (λ (x : ClientHead). sets (set w (clients_from + client_block * (k - 1)) 1) (clients_from + client_block * (k - 1))
      (sets (set (client_block_of w (client_no k)) 0 1) 1 (records.client_words (client_of x (replicate response_words 0))))) e ∙
      sets_over w (clients_from + client_block * (k - 1)) (1 ∷ [])
      (sets (set (client_block_of w (client_no k)) 0 1) 1 (records.client_words (fresh_record n m (client_no k)))) l))

module _ (n j : ℕ) (w : List ℕ) (h : ServerIn w (server_no j)) where
  abbrev up : List ℕ
  up = set (server_block_of w (server_no j)) 0 1

  up-long : length (set (server_block_of w (server_no j)) 0 1) ≡ server_block
  up-long = length-set (server_block_of w (server_no j)) 0 1 ∙ server_block-long w j h.long h.first h.last

  pub server-opened : (w₁ : List ℕ) → w₁ ≡ sets w (servers_from + server_block * (j - 1)) (set (server_block_of w (server_no j)) 0 1) → (d : ServerHead)
      → d ≡ empty_head n (server_no j) → (w' : List ℕ)
      → w' ≡ sets w₁ (servers_from + server_block * (j - 1))
      (sets (server_block_of w₁ (server_no j)) 1 (records.server_words (server_of d (replicate queue_words 0))))
      → w' ≡ new_server n (server_no j) w
  unfolding new_server
  server-opened w₁ f d e w' g =
      let b : server_block_of w₁ (server_no j) ≡ up = ap (λ (x : List ℕ). server_block_of x (server_no j)) f
      ∙ server_block-stored w j h up (omega (arith, up-long)) up-long in
      let l : length up ≤ length (sets up 1 (records.server_words (empty_server_in queue_words n (server_no j)))) =
      omega (arith, length-sets up 1 (records.server_words (empty_server_in queue_words n (server_no j)))) in
      g ∙
      (ap (λ (x : List ℕ). sets w₁ (servers_from + server_block * (j - 1)) (sets x 1 (records.server_words (server_of d (replicate queue_words 0))))) b ∙
      (ap (λ (x : ServerHead). sets w₁ (servers_from + server_block * (j - 1)) (sets up 1 (records.server_words (server_of x (replicate queue_words 0))))) e ∙
      (ap (λ (x : List ℕ). sets x (servers_from + server_block * (j - 1)) (sets up 1 (records.server_words (empty_server_in queue_words n (server_no j))))) f ∙
      sets_over w (servers_from + server_block * (j - 1)) up (sets up 1 (records.server_words (empty_server_in queue_words n (server_no j)))) l)))

  pub risen_in : (w₁ : List ℕ) → w₁ ≡ sets w (servers_from + server_block * (j - 1)) (set (server_block_of w (server_no j)) 0 1) → ServerIn w₁ (server_no j)
  risen_in w₁ f = record {
    long = ap length f ∙ (length-sets w (servers_from + server_block * (j - 1)) (set (server_block_of w (server_no j)) 0 1) ∙ h.long);
    first = h.first;
    last = h.last;
  }

-- what `put_server` asks
pub new_short : (n : ℕ) (j : ServerId) (d : ServerHead) → d ≡ empty_head n j → d.votes.len ≤ max_word
new_short n j d e = rw e (omega arith)

pub length-client : (n m k : ℕ) (w : List ℕ) → length (new_client n m (client_no k) w) ≡ length w
unfolding new_client
length-client n m k w = simp length-sets

pub length-server : (n j : ℕ) (w : List ℕ) → length (new_server n (server_no j) w) ≡ length w
unfolding new_server
length-server n j w = simp length-sets

-- `new_clients`, `new_servers`: the first i parties are put
pub record Putting (f : ℕ → List ℕ → List ℕ) (w₀ : List ℕ) (c : ℕ) (w : List ℕ) (i : ℕ) : Type 0 where
  pub same : length w ≡ length w₀
  pub within : i ≤ c
  pub words : w ≡ in_turn f i w₀

pub putting_none : (f : ℕ → List ℕ → List ℕ) (w : List ℕ) (c : ℕ) → Putting f w c w 0
unfolding in_turn
putting_none f w c = record { same = refl; within = omega arith; words = refl }

module _ (f : ℕ → List ℕ → List ℕ) (w₀ : List ℕ) (c : ℕ) (w : List ℕ) (i : ℕ) (P : Putting f w₀ c w i) where
  pub putting_more : ((k : ℕ) (l : List ℕ) → length (f k l) ≡ length l) → i < c → (w' : List ℕ) → w' ≡ f (i + 1) w → Putting f w₀ c w' (i + 1)
  unfolding in_turn
  putting_more same lt w' e =
      let z : i + 1 ≡ suc i = omega arith in
      record { same = ap length e ∙ (same (i + 1) w ∙ P.same); within = omega arith; words = e ∙ (ap (λ (l : List ℕ). f (i + 1) l) P.words ∙ rw z) }

-- blocks put one after another: the first i are f's, and behind them all is 0
record Filled (s : ℕ) (f : ℕ → List ℕ) (l : List ℕ) (i : ℕ) : Type 0 where
  done : (x : ℕ) → x < i → take s (drop (x * s) l) ≡ f x
  rest : blank (drop (i * s) l) ≡ true

module _ (s : ℕ) (f : ℕ → List ℕ) (l : List ℕ) where
  filled_none : blank l ≡ true → Filled s f l 0
  filled_none h = record { done = λ x q. absurd (omega arith); rest = let z : 0 * s ≡ 0 = omega arith in rw z h }

  module _ (i : ℕ) (F : Filled s f l i) where
    -- the next block is still 0
    next_zero : i * s + s ≤ length l → take s (drop (i * s) l) ≡ replicate s 0
    next_zero h =
        let e : length (take s (drop (i * s) l)) ≡ s = length-take-le s (drop (i * s) l) (omega (arith, length-drop (i * s) l)) in
        blank-is (take s (drop (i * s) l)) (blank-take s (drop (i * s) l) F.rest) ∙ ap (λ (x : ℕ). replicate x 0) e

    filled_more : (c : ℕ) → i < c → i * s + s ≤ length l → length (f i) ≡ s → Filled s f (sets l (i * s + 0) (f i)) (suc i)
    filled_more c lt h e =
        let old : length (take s (drop (i * s) l)) ≡ s = length-take-le s (drop (i * s) l) (omega (arith, length-drop (i * s) l)) in
        let here : take s (drop (i * s) (sets l (i * s + 0) (f i))) ≡ f i =
        block_here s c i l 0 (f i) lt (omega (arith, e)) ∙ covered (take s (drop (i * s) l)) (f i) (e ∙ sym old) in
        let z : suc i * s ≡ i * s + s = omega arith in
        record {
          done = λ x q. ⊎_elim
              (λ (t : ltb x i ≡ true). block-other s c i x l 0 (f i) lt (omega (arith, ltb-true x i t)) (λ v. omega (arith, ltb-true x i t)) (omega (arith, e))
              ∙ F.done x (ltb-true x i t))
              (λ (t : ltb x i ≡ false). let v : x ≡ i = omega (arith, ltb-false x i t, q) in rw v here)
              (decided (ltb x i));
          rest = rw (z, drop_sets_before (i * s + s) l (i * s + 0) (f i) (omega (arith, e)), ← drop-drop s (i * s) l) (blank-drop s (drop (i * s) l) F.rest);
        }

-- so many blocks that are all p
blocks-same : {A : Type 0} (s : ℕ) (g : List ℕ → A) (p : A) (c : ℕ) (l : List ℕ) → ((x : ℕ) → x < c → g (take s (drop (x * s) l)) ≡ p)
    → blocks s g c l ≡ replicate c p
unfolding blocks
blocks-same s g p zero l h = refl
blocks-same s g p (suc c) l h =
    let z : 0 * s ≡ 0 = omega arith in
    let first : g (take s l) ≡ p = rw z at (h 0 (omega arith)) in
    let more = blocks-same s g p c (drop s l) (λ x q.
    let b : s + x * s ≡ suc x * s = omega arith in
    let at : drop (x * s) (drop s l) ≡ drop (suc x * s) l = drop-drop (x * s) s l ∙ ap (λ (y : ℕ). drop y l) b in
    rw at (h (suc x) (omega arith))) in
    λ i. first i ∷ more i

-- a new client's block, and a new server's, where all was 0
abbrev client_base : List ℕ
client_base = set (replicate client_block 0) 0 1

abbrev server_base : List ℕ
server_base = set (replicate server_block 0) 0 1

abbrev fresh_client : ℕ → ℕ → ℕ → List ℕ
fresh_client n m i = sets (set (replicate client_block 0) 0 1) 1 (records.client_words (fresh_record n m (client_no (suc i))))

abbrev fresh_server : ℕ → ℕ → List ℕ
fresh_server n i = sets (set (replicate server_block 0) 0 1) 1 (records.server_words (empty_server_in queue_words n (server_no (suc i))))

-- the first i clients are put
record Clients (n m : ℕ) (w₀ w : List ℕ) (i : ℕ) : Type 0 where
  long : length w ≡ simulation_size
  head : take clients_from w ≡ take clients_from w₀
  servers : server_words w ≡ server_words w₀
  transit : transit_words w ≡ transit_words w₀
  filled : Filled client_block (fresh_client n m) (client_words w) i

record Servers (n : ℕ) (w₀ w : List ℕ) (i : ℕ) : Type 0 where
  long : length w ≡ simulation_size
  head : take clients_from w ≡ take clients_from w₀
  clients : client_words w ≡ client_words w₀
  transit : transit_words w ≡ transit_words w₀
  filled : Filled server_block (fresh_server n) (server_words w) i

clients-room : (w : List ℕ) → length w ≡ simulation_size → length (client_words w) ≡ clients_size
unfolding client_words
clients-room w h = length-take-le clients_size (drop clients_from w) (omega (arith, length-drop clients_from w))

servers-room : (w : List ℕ) → length w ≡ simulation_size → length (server_words w) ≡ servers_size
unfolding server_words
servers-room w h = length-take-le servers_size (drop servers_from w) (omega (arith, length-drop servers_from w))

clients-next : (n m : ℕ) (w₀ w : List ℕ) (i : ℕ) → i < system_clients → Clients n m w₀ w i → Clients n m w₀ (new_client n m (client_no (suc i)) w) (suc i)
unfolding new_client
clients-next n m w₀ w i lt C =
    let room : i * client_block + client_block ≤ length (client_words w) = omega (arith, clients-room w C.long) in
    let y : suc i - 1 ≡ i = omega arith in
    let zero-block : client_block_of w (client_no (suc i)) ≡ replicate client_block 0 =
    ap (λ (x : ℕ). take client_block (drop (x * client_block) (client_words w))) y
    ∙ next_zero client_block (fresh_client n m) (client_words w) i C.filled room in
    let at : clients_from + client_block * (suc i - 1) ≡ clients_from + (i * client_block + 0) = omega arith in
    let l : length (fresh_client n m i) ≡ client_block = length-sets client_base 1 (records.client_words (fresh_record n m (client_no (suc i)))) in
    let S = is_client-store (itself-is w C.long) (i * client_block + 0) (fresh_client n m i) (omega (arith, l)) in
    rw (zero-block, at) (record {
      long = S.long;
      head = S.head ∙ C.head;
      servers = S.servers ∙ C.servers;
      transit = S.transit ∙ C.transit;
      filled = rw S.clients (filled_more client_block (fresh_client n m) (client_words w) i C.filled system_clients lt room l);
    })

clients-put : (n m : ℕ) (w : List ℕ) → length w ≡ simulation_size → blank (client_words w) ≡ true → (i : ℕ) → i ≤ system_clients
    → Clients n m w (in_turn (λ (i : ℕ). new_client n m (client_no i)) i w) i
unfolding in_turn
clients-put n m w h z zero q =
    record { long = h; head = refl; servers = refl; transit = refl; filled = filled_none client_block (fresh_client n m) (client_words w) z }
clients-put n m w h z (suc i) q = clients-next n m w (in_turn (λ (i : ℕ). new_client n m (client_no i)) i w) i (omega arith)
    (clients-put n m w h z i (omega arith))

servers-next : (n : ℕ) (w₀ w : List ℕ) (i : ℕ) → i < system_servers → Servers n w₀ w i → Servers n w₀ (new_server n (server_no (suc i)) w) (suc i)
unfolding new_server
servers-next n w₀ w i lt C =
    let room : i * server_block + server_block ≤ length (server_words w) = omega (arith, servers-room w C.long) in
    let y : suc i - 1 ≡ i = omega arith in
    let zero-block : server_block_of w (server_no (suc i)) ≡ replicate server_block 0 =
    ap (λ (x : ℕ). take server_block (drop (x * server_block) (server_words w))) y
    ∙ next_zero server_block (fresh_server n) (server_words w) i C.filled room in
    let at : servers_from + server_block * (suc i - 1) ≡ servers_from + (i * server_block + 0) = omega arith in
    let l : length (fresh_server n i) ≡ server_block = length-sets server_base 1 (records.server_words (empty_server_in queue_words n (server_no (suc i)))) in
    let S = is_server_store (itself-is w C.long) (i * server_block + 0) (fresh_server n i) (omega (arith, l)) in
    rw (zero-block, at) (record {
      long = S.long;
      head = S.head ∙ C.head;
      clients = S.clients ∙ C.clients;
      transit = S.transit ∙ C.transit;
      filled = rw S.servers (filled_more server_block (fresh_server n) (server_words w) i C.filled system_servers lt room l);
    })

servers-put : (n : ℕ) (w : List ℕ) → length w ≡ simulation_size → blank (server_words w) ≡ true → (i : ℕ) → i ≤ system_servers
    → Servers n w (in_turn (λ (i : ℕ). new_server n (server_no i)) i w) i
unfolding in_turn
servers-put n w h z zero q =
    record { long = h; head = refl; clients = refl; transit = refl; filled = filled_none server_block (fresh_server n) (server_words w) z }
servers-put n w h z (suc i) q = servers-next n w (in_turn (λ (i : ℕ). new_server n (server_no i)) i w) i (omega arith) (servers-put n w h z i (omega arith))

-- the places that these blocks are
module _ (n m f clients : ℕ) (ok : in_range_up_to system_servers n m f ≡ true) where
  client_frame : Frame n client_base
  unfolding client_place
  client_frame = record { size = refl; bit = omega arith; bits = refl; behind = zeros-drop n system_servers; fallen = λ h. refl }
    where
      zeros-drop : (n k : ℕ) → every zero_word (drop n (replicate k 0)) ≡ true
      zeros-drop zero zero = refl
      zeros-drop zero (suc k) = zeros-drop zero k
      zeros-drop (suc n) zero = refl
      zeros-drop (suc n) (suc k) = zeros-drop n k

  fresh-client : (i : ℕ) → i < system_clients → ClientIs n m clients (suc i) (fresh_client n m i) (record { living = true; state = fresh n; downs = [] })
  unfolding client_place flagged
  fresh-client i h =
      let r = range system_servers n m f ok in
      let v : valid_client (record { 0 = suc i }) ≡ true = rw (le-leb 1 (suc i) (omega arith), le-leb (suc i) max_client (omega arith)) in
      subst (λ (c : Client). ClientIs n m clients (suc i) (sets client_base 1 (records.client_words c)) (record { living = true; state = fresh n; downs = [] }))
      (sym (fresh-stored system_servers n m (client_no (suc i)) r.servers))
      (fresh-block n m clients (suc i) client_base client_frame r.servers refl
      (record {
        some = omega (arith, r.some);
        few = omega (arith, r.servers);
        threshold = omega (arith, r.positive);
        reached = r.threshold;
        client = v;
      }))

  fresh-server : (i : ℕ) → i < n → ServerIs n clients (suc i) (fresh_server n i) (record { up = true; state = idle })
  unfolding server_place
  fresh-server i h =
      let r = range system_servers n m f ok in
      let v : server_sizes n (record { 0 = suc i }) ≡ true =
      rw (le-leb 1 n (omega (arith, r.some)), le-leb n max_servers (omega (arith, r.servers)), le-leb 1 (suc i) (omega arith), le-leb (suc i) n h) in
      rw (empty-row n (suc i)) (idle-block n clients (suc i) server_base refl (omega arith) v)

worst-none : (c : ℕ) (p : ClientPlace) → p.downs ≡ [] → worst (replicate c p) ≡ 0
unfolding worst
worst-none zero p e = refl
worst-none (suc c) p e = omega (arith, ap length e, worst-none c p e)

-- the whole: z is cleared, and the setting is written in it
module _ (n m f clients : ℕ) (z : List ℕ) (long : length z ≡ simulation_size) (zeros : blank z ≡ true) (ok : in_range_up_to system_servers n m f ≡ true)
    (some : within clients system_clients ≡ true) where
  abbrev headed : List ℕ
  headed = set (set (set (set z 0 n) 1 m) 2 f) 3 clients

  abbrev head_words : List ℕ
  head_words = n ∷ (m ∷ (f ∷ (clients ∷ (0 ∷ (0 ∷ (0 ∷ []))))))

  headed-is : Is headed head_words (client_words z) (server_words z) (transit_words z)
  headed-is =
      let S = is_head_store (is_head_store (is_head_store (is_head_store (itself-is z long) 0 n (omega arith)) 1 m (omega arith)) 2 f (omega arith)) 3 clients
      (omega arith) in
      let e : take clients_from z ≡ replicate clients_from 0 = blank-is (take clients_from z) (blank-take clients_from z zeros)
      ∙ ap (λ (x : ℕ). replicate x 0) (length-take-le clients_from z (omega arith)) in
      record {
        long = S.long;
        head = S.head ∙ ap (λ (l : List ℕ). set (set (set (set l 0 n) 1 m) 2 f) 3 clients) e;
        clients = S.clients;
        servers = S.servers;
        transit = S.transit;
      }

  few_clients : clients ≤ system_clients
  few_clients = (within-range clients system_clients some).1

  few_servers : n ≤ system_servers
  few_servers = (range system_servers n m f ok).servers

  no_clients : blank (client_words headed) ≡ true
  unfolding client_words
  no_clients = rw headed-is.clients (blank-take clients_size (drop clients_from z) (blank-drop clients_from z zeros))

  abbrev populated : List ℕ
  populated = in_turn (λ (i : ℕ). new_client n m (client_no i)) clients headed

  clients_are : Clients n m headed populated clients
  clients_are = clients-put n m headed headed-is.long no_clients clients few_clients

  no_servers_lem : blank (server_words populated) ≡ true
  unfolding server_words
  no_servers_lem = rw (clients_are.servers, headed-is.servers) (blank-take servers_size (drop servers_from z) (blank-drop servers_from z zeros))

  abbrev whole : List ℕ
  whole = in_turn (λ (i : ℕ). new_server n (server_no i)) n populated

  servers_are : Servers n populated whole n
  servers_are = servers-put n populated clients_are.long no_servers_lem n few_servers

  no_transit : blank (transit_words whole) ≡ true
  unfolding transit_words
  no_transit = rw (servers_are.transit, clients_are.transit, headed-is.transit)
      (blank-take indexed_size (drop transit_from z) (blank-drop transit_from z zeros))

  transit-long : length (transit_words whole) ≡ indexed_size
  unfolding transit_words
  transit-long = length-take-le indexed_size (drop transit_from whole) (omega (arith, length-drop transit_from whole, servers_are.long))

  whole_is : Is whole head_words (client_words whole) (server_words whole) (transit_words whole)
  whole_is = record {
    long = servers_are.long;
    head = servers_are.head
        ∙ (clients_are.head ∙ headed-is.head);
    clients = refl;
    servers = refl;
    transit = refl;
  }

  client-block : (i : ℕ) → i < clients
      → ClientIs n m clients (suc i) (take client_block (drop (i * client_block) (client_words whole))) (record { living = true; state = fresh n; downs = [] })
  client-block i h = rw (servers_are.clients, clients_are.filled.done i h) (fresh-client n m f clients ok i (omega (arith, few_clients)))

  server-block : (i : ℕ) → i < n
      → ServerIs n clients (suc i) (take server_block (drop (i * server_block) (server_words whole))) (record { up = true; state = idle })
  server-block i h = rw (servers_are.filled.done i h) (fresh-server n m f clients ok i h)

  all-clients : blocks client_block client_place clients (client_words whole) ≡ replicate clients (record { living = true; state = fresh n; downs = [] })
  all-clients = blocks-same client_block client_place _ clients (client_words whole) (λ x q. (client-block x q).place)

  all-servers : blocks server_block server_place n (server_words whole) ≡ replicate n (record { up = true; state = idle })
  all-servers = blocks-same server_block server_place _ n (server_words whole) (λ x q. (server-block x q).place)

  started-system : view whole ≡ start n (enough m) clients
  unfolding system_in start
  started-system = view-is whole_is ∙ rw (all-clients, all-servers, none-there (transit_words whole))

  started-setting : setting_of whole ≡ record { n = n; m = m; f = f; clients = clients }
  unfolding setting_in
  started-setting = setting-is whole_is

  started-clients : valid_from (λ (i : ℕ). valid_client_block n m clients (client_no i)) 1 (blocks client_block itself clients (client_words whole)) ≡ true
  started-clients = all_valid (λ (i : ℕ). valid_client_block n m clients (client_no i)) client_block clients 1 (client_words whole)
      (λ i q. let y : 1 + i ≡ suc i = omega arith in rw y (client-block i q).valid)

  started-servers : valid_from (λ (i : ℕ). valid_server_block n clients (server_no i)) 1 (blocks server_block itself n (server_words whole)) ≡ true
  started-servers = all_valid (λ (i : ℕ). valid_server_block n clients (server_no i)) server_block n 1 (server_words whole)
      (λ i q. let y : 1 + i ≡ suc i = omega arith in rw y (server-block i q).valid)

  started-valid : valid whole ≡ true
  unfolding start
  started-valid =
      let s = started-setting in
      let w4 : get_or whole 4 0 ≡ 0 = head-word whole_is 4 (omega arith) in
      let w5 : get_or whole 5 0 ≡ 0 = head-word whole_is 5 (omega arith) in
      let w6 : get_or whole 6 0 ≡ 0 = head-word whole_is 6 (omega arith) in
      from-facts whole (record {
        long = servers_are.long;
        range = rw s ok;
        some = rw s some;
        clients = rw s started-clients;
        no_clients_lem = rw (s, servers_are.clients) clients_are.filled.rest;
        servers = rw s started-servers;
        no_servers = rw s servers_are.filled.rest;
        transit = rw (s, w4, w5) (valid-none n clients 0 (transit_words whole) transit-long no_transit);
        few = rw (s, w6) (omega arith);
        noted = rw (w6, started-system, worst-none clients (record { living = true; state = fresh n; downs = [] }) refl) (omega arith);
      })

  pub started : (w' : List ℕ)
      → w' ≡ in_turn (λ (i : ℕ). new_server n (server_no i)) n
      (in_turn (λ (i : ℕ). new_client n m (client_no i)) clients (set (set (set (set z 0 n) 1 m) 2 f) 3 clients))
      → Starts (record { n = n; m = m; f = f; clients = clients }) w'
  started w' e = rw e (record { system = started-system; setting = started-setting; again = started-valid })

length_turn : (f : ℕ → List ℕ → List ℕ) → ((k : ℕ) (l : List ℕ) → length (f k l) ≡ length l) → (i : ℕ) (w : List ℕ) → length (in_turn f i w) ≡ length w
unfolding in_turn
length_turn f same zero w = refl
length_turn f same (suc i) w = same (suc i) (in_turn f i w) ∙ length_turn f same i w

-- `start`, call by call
module _ (s : Setting) (w z : List ℕ)
    (pre : (length w ≡ simulation_size) × (in_range_up_to system_servers s.n s.m s.f ≡ true) × (within s.clients system_clients ≡ true))
    (E : Cleared w z) where
  abbrev n : ℕ
  n = s.n

  abbrev m : ℕ
  m = s.m

  abbrev f : ℕ
  f = s.f

  abbrev clients : ℕ
  clients = s.clients

  abbrev written : List ℕ
  written = set (set (set (set z 0 n) 1 m) 2 f) 3 clients

  pub start_fits : (n ≤ system_servers) × (m ≤ system_servers) × (clients ≤ system_clients)
  start_fits = let r = range system_servers n m f pre.1 in (r.servers, omega (arith, r.servers, r.threshold), (within-range clients system_clients pre.2).1)

  pub start-two : 2 < length (set (set z 0 n) 1 m)
  start-two = omega (arith, length-set (set z 0 n) 1 m, length-set z 0 n, E.same, pre.0)

  pub start_three : 3 < length (set (set (set z 0 n) 1 m) 2 f)
  start_three = omega (arith, length-set (set (set z 0 n) 1 m) 2 f, length-set (set z 0 n) 1 m, length-set z 0 n, E.same, pre.0)

  pub start-clients : (length written ≡ simulation_size) × (clients ≤ system_clients)
  start-clients = (
    omega (
      arith,
      length-set (set (set (set z 0 n) 1 m) 2 f) 3 clients,
      length-set (set (set z 0 n) 1 m) 2 f,
      length-set
          (set z 0 n) 1 m,
      length-set z 0 n,
      E.same,
      pre.0,
    ),
    start_fits.2,
  )

  module _ (w₂ : List ℕ) (e : w₂ ≡ in_turn (λ (i : ℕ). new_client n m (client_no i)) clients written) where
    pub start-servers : (length w₂ ≡ simulation_size) × (n ≤ system_servers)
    start-servers = (ap length e ∙ (length_turn (λ (i : ℕ). new_client n m (client_no i)) (length-client n m) clients written ∙ start-clients.0), start_fits.0)

    module _ (w₃ : List ℕ) (g : w₃ ≡ in_turn (λ (i : ℕ). new_server n (server_no i)) n w₂) where
      pub start-same : length w₃ ≡ length w
      start-same = ap length g ∙ (length_turn (λ (i : ℕ). new_server n (server_no i)) (length-server n) n w₂ ∙ (start-servers.0 ∙ sym pre.0))

      pub start-done : Starts s w₃
      start-done = started n m f clients z (E.same ∙ pre.0) E.zeros pre.1 pre.2 w₃
          (g ∙ ap (λ (l : List ℕ). in_turn (λ (i : ℕ). new_server n (server_no i)) n l) e)
