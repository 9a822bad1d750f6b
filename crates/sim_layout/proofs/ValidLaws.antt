-- What a valid simulation says of each of its parts, and what makes one valid again after a store.
use mathlib.Core.Path.{◌≡◌, refl, sym, ap, ◌∙◌}
use mathlib.Core.Logic.{⊎_elim}
use Prim.Native.Nat.{ℕ, zero, suc, ◌+◌, ◌-◌, ◌*◌, ◌≤◌, ◌<◌}
use native.Mathlib.Omega.{arith}
use mathlib.Core.Bool.{Bool, true, false}
use mathlib.Core.List.{List, []}
use lib.Dec.{eqb, leb}
use lib.ListN.{length, get_or, take, drop}
use lib.Seq.{sets, drop-drop, get_or-set_same, get_or-set_other}
use borrow.Author.Tests.{eqb-true, eqb-false, eq-eqb, leb-true, le-leb}
use Rattle.std.specs.List.{list_all, range_with_len}
use Rattle.ids.specs.Limits.{within}
use Rattle.ids.proofs.Choice.{both, decided}
use Rattle.quorum.specs.Check.{in_range_up_to}
use Rattle.sim_blocks.specs.Regions.{blocks}
use Rattle.sim_blocks.proofs.RegionBlocks.{block-stored, block_at, length-blocks}
use Rattle.system.specs.Limits.{system_clients, system_servers}
use Rattle.system.specs.Places.{worst}
use Rattle.sim_blocks.specs.Blocks.{client_block, server_block, valid_client_block, valid_server_block}
use Rattle.sim_indexed.specs.Indexed.{valid_indexed}
use Rattle.sim_layout.specs.Layout.{simulation_size, setting_of, client_words, server_words, transit_words, length_of, sent_of, most_of, view, valid_from, blank, itself, valid}
use Rattle.system.specs.Numbered.{client_no, server_no}

-- every block as its number, block by block
module _ (f : ℕ → List ℕ → Bool) (s : ℕ) where
  pub each-valid : (c k : ℕ) (l : List ℕ) → valid_from f k (blocks s itself c l) ≡ true → (i : ℕ) → i < c → f (k + i) (take s (drop (i * s) l)) ≡ true
  unfolding valid_from blocks
  each-valid zero k l h i lt = absurd (omega arith)
  each-valid (suc c) k l h zero lt =
      let b = both (f k (take s l)) (valid_from f (suc k) (blocks s itself c (drop s l))) h in
      let z : 0 * s ≡ 0 = omega arith in
      let y : k + 0 ≡ k = omega arith in
      rw (z, y) b.0
  each-valid (suc c) k l h (suc i) lt =
      let b = both (f k (take s l)) (valid_from f (suc k) (blocks s itself c (drop s l))) h in
      let z : k + suc i ≡ suc k + i = omega arith in
      let y : s + i * s ≡ suc i * s = omega arith in
      let at : drop (i * s) (drop s l) ≡ drop (suc i * s) l = drop-drop (i * s) s l ∙ ap (λ (x : ℕ). drop x l) y in
      rw (z, ← at) (each-valid c (suc k) (drop s l) b.1 i (omega arith))

  pub all_valid : (c k : ℕ) (l : List ℕ) → ((i : ℕ) → i < c → f (k + i) (take s (drop (i * s) l)) ≡ true) → valid_from f k (blocks s itself c l) ≡ true
  unfolding valid_from blocks
  all_valid zero k l h = refl
  all_valid (suc c) k l h =
      let z : 0 * s ≡ 0 = omega arith in
      let y : k + 0 ≡ k = omega arith in
      let first : f k (take s l) ≡ true = rw (z, y) at (h 0 (omega arith)) in
      rw first (all_valid c (suc k) (drop s l) (λ i lt.
      let a : k + suc i ≡ suc k + i = omega arith in
      let b : s + i * s ≡ suc i * s = omega arith in
      let at : drop (i * s) (drop s l) ≡ drop (suc i * s) l = drop-drop (i * s) s l ∙ ap (λ (x : ℕ). drop x l) b in
      rw (← a, at) (h (suc i) (omega arith))))

-- a test of the blocks by their places, from place i on
pub valid-all : (f : ℕ → List ℕ → Bool) (s : ℕ) (l : List ℕ) (i c : ℕ)
    → list_all (λ (i : ℕ). f (i + 1) (take s (drop ((i + 1 - 1) * s) l))) (range_with_len i c) ≡ valid_from f (i + 1) (blocks s itself c (drop (i * s) l))
unfolding valid_from blocks
valid-all f s l i zero = refl
valid-all f s l i (suc c) =
    let z : i + 1 - 1 ≡ i = omega arith in
    let y : suc (i + 1) ≡ i + 1 + 1 = omega arith in
    let x : i * s + s ≡ (i + 1) * s = omega arith in
    rw (valid-all f s l (i + 1) c, z, y, drop-drop s (i * s) l, x)

-- block j after a store in block i
pub block_here : (s c i : ℕ) (l : List ℕ) (a : ℕ) (vs : List ℕ) → i < c → a + length vs ≤ s →
    take s (drop (i * s) (sets l (i * s + a) vs)) ≡ sets (take s (drop (i * s) l)) a vs
block_here s c i l a vs lt h =
    sym (block_at s itself c i (sets l (i * s + a) vs) [] lt) ∙
    (ap (λ (x : List (List ℕ)). get_or x i []) (block-stored s itself c i l a vs lt h) ∙
    get_or-set_same (blocks s itself c l) i _ [] (omega (arith, length-blocks s itself c l)))

pub block-other : (s c i j : ℕ) (l : List ℕ) (a : ℕ) (vs : List ℕ) → i < c → j < c → (j ≡ i → ⊥) → a + length vs ≤ s →
    take s (drop (j * s) (sets l (i * s + a) vs)) ≡ take s (drop (j * s) l)
block-other s c i j l a vs lt lt' ne h =
    sym (block_at s itself c j (sets l (i * s + a) vs) [] lt') ∙
    (ap (λ (x : List (List ℕ)). get_or x j []) (block-stored s itself c i l a vs lt h) ∙
    (get_or-set_other (blocks s itself c l) i j _ [] ne ∙ block_at s itself c j l [] lt'))

-- a store in block i that leaves it valid leaves all valid
pub still-valid : (f : ℕ → List ℕ → Bool) (s c k i : ℕ) (l : List ℕ) (a : ℕ) (vs : List ℕ) → i < c → a + length vs ≤ s →
    valid_from f k (blocks s itself c l) ≡ true → f (k + i) (sets (take s (drop (i * s) l)) a vs) ≡ true →
    valid_from f k (blocks s itself c (sets l (i * s + a) vs)) ≡ true
still-valid f s c k i l a vs lt h v new =
    all_valid f s c k (sets l (i * s + a) vs) (λ j q.
    ⊎_elim
    (λ (e : eqb j i ≡ true). let z : j ≡ i = eqb-true j i e in rw (z, block_here s c i l a vs lt h) new)
    (λ (e : eqb j i ≡ false). rw (block-other s c i j l a vs lt q (eqb-false j i e) h) (each-valid f s c k l v j q))
    (decided (eqb j i)))

-- the facts of a valid simulation
pub record Facts (w : List ℕ) : Type 0 where
  pub long : length w ≡ simulation_size
  pub range : in_range_up_to system_servers (setting_of w).n (setting_of w).m (setting_of w).f ≡ true
  pub some : within (setting_of w).clients system_clients ≡ true
  pub clients : valid_from (λ (i : ℕ). valid_client_block (setting_of w).n (setting_of w).m (setting_of w).clients (client_no i)) 1
      (blocks client_block itself (setting_of w).clients (client_words w)) ≡ true
  pub no_clients_lem : blank (drop ((setting_of w).clients * client_block) (client_words w)) ≡ true
  pub servers : valid_from (λ (i : ℕ). valid_server_block (setting_of w).n (setting_of w).clients (server_no i)) 1
      (blocks server_block itself (setting_of w).n (server_words w)) ≡ true
  pub no_servers : blank (drop ((setting_of w).n * server_block) (server_words w)) ≡ true
  pub transit : valid_indexed (setting_of w).n (setting_of w).clients (sent_of w) (length_of w) (transit_words w) ≡ true
  pub few : most_of w ≤ (setting_of w).n
  pub noted : worst (view w).clients ≤ most_of w

pub facts : (w : List ℕ) → valid w ≡ true → Facts w
unfolding valid
facts w h =
    let j = both _ (leb (worst (view w).clients) (most_of w)) h in
    let i = both _ (leb (most_of w) (setting_of w).n) j.0 in
    let g = both _ (valid_indexed (setting_of w).n (setting_of w).clients (sent_of w) (length_of w) (transit_words w)) i.0 in
    let f = both _ (blank (drop ((setting_of w).n * server_block) (server_words w))) g.0 in
    let e = both _ (valid_from (λ (i : ℕ). valid_server_block (setting_of w).n (setting_of w).clients (server_no i)) 1
    (blocks server_block itself (setting_of w).n (server_words w))) f.0 in
    let d = both _ (blank (drop ((setting_of w).clients * client_block) (client_words w))) e.0 in
    let c = both _ (valid_from (λ (i : ℕ). valid_client_block (setting_of w).n (setting_of w).m (setting_of w).clients (client_no i)) 1
    (blocks client_block itself (setting_of w).clients (client_words w))) d.0 in
    let b = both _ (within (setting_of w).clients system_clients) c.0 in
    let a = both (eqb (length w) simulation_size) (in_range_up_to system_servers (setting_of w).n (setting_of w).m (setting_of w).f) b.0 in
    record {
      long = eqb-true (length w) simulation_size a.0;
      range = a.1;
      some = b.1;
      clients = c.1;
      no_clients_lem = d.1;
      servers = e.1;
      no_servers = f.1;
      transit = g.1;
      few = leb-true (most_of w) (setting_of w).n i.1;
      noted = leb-true (worst (view w).clients) (most_of w) j.1;
    }

pub from-facts : (w : List ℕ) → Facts w → valid w ≡ true
unfolding valid
from-facts w f =
    rw (
      eq-eqb (length w) simulation_size f.long,
      f.range,
      f.some,
      f.clients,
      f.no_clients_lem,
      f.servers,
      f.no_servers,
      f.transit,
      le-leb (most_of w) (setting_of w).n f.few,
      le-leb (worst (view w).clients) (most_of w) f.noted,
    )
