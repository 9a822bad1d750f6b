-- A block that was lent and came back changed: a store of the block at its place. And where a block stands in the words.
use mathlib.Core.Path.{◌≡◌, refl, sym, ap, ◌∙◌}
use Prim.Native.Nat.{ℕ, ◌+◌, ◌*◌, ◌-◌, ◌≤◌}
use native.Mathlib.Omega.{arith}
use mathlib.Core.List.{List}
use lib.ListN.{length, take, drop, set, replicate, length-drop, length-set}
use Rattle.ids.specs.declared.ClientId.{ClientId}
use Rattle.ids.specs.declared.ServerId.{ServerId}
use Rattle.sim_blocks.specs.Blocks.{cleared, client_block, server_block, flags_from}
use lib.Seq.{sets, length-sets, drop-drop, take-take, length-take-le}
use borrow.Rule.Slice.PartMut.{put_mid}
use Rattle.rows.proofs.CopyLaws.{part-whole}
use Rattle.sim_blocks.proofs.BlockParts.{drop-take}
use Rattle.sim_layout.specs.Layout.{client_words, server_words, clients_size, servers_from, servers_size, simulation_size, transit_from, clients_from}
use Rattle.sim_layout.specs.Parts.{client_block_of, server_block_of, ClientIn, ServerIn}
use Rattle.system.specs.Limits.{system_clients, system_servers}
use Rattle.system.specs.Numbered.{client_no, server_no}

pub came_back : (w : List ℕ) (a k : ℕ) (b : List ℕ) → length b ≡ k → a + k ≤ length w → put_mid a (a + k - a) w b ≡ sets w a b
came_back w a k b e h = part-whole w b b a (a + k - a) (omega (arith, h)) (omega (arith, e)) refl

-- block i of a region of `count` blocks that begins at word `from`
region-block : (from s i more : ℕ) (w : List ℕ) → take s (drop (i * s) (take (i * s + (s + more)) (drop from w))) ≡ take s (drop (from + i * s) w)
region-block from s i more w =
    ap (take s) (drop-take (i * s) (s + more) (drop from w)) ∙
    (take-take s (s + more) (drop (i * s) (drop from w)) (omega arith) ∙ ap (take s) (drop-drop (i * s) from w))

pub client-part : (w : List ℕ) (k : ℕ) → 1 ≤ k → k ≤ system_clients
    → take client_block (drop (clients_from + client_block * (k - 1)) w) ≡ client_block_of w (client_no k)
unfolding client_words
client-part w k p q =
    let z : (k - 1) * client_block + (client_block + (clients_size - ((k - 1) * client_block + client_block))) ≡ clients_size = omega arith in
    let y : clients_from + client_block * (k - 1) ≡ clients_from + (k - 1) * client_block = omega arith in
    ap (λ (x : ℕ). take client_block (drop x w)) y ∙
    (sym (region-block clients_from client_block (k - 1) (clients_size - ((k - 1) * client_block + client_block)) w) ∙
    ap (λ (x : ℕ). take client_block (drop ((k - 1) * client_block) (take x (drop clients_from w)))) z)

pub server-part : (w : List ℕ) (j : ℕ) → 1 ≤ j → j ≤ system_servers
    → take server_block (drop (servers_from + server_block * (j - 1)) w) ≡ server_block_of w (server_no j)
unfolding server_words
server-part w j p q =
    let z : (j - 1) * server_block + (server_block + (servers_size - ((j - 1) * server_block + server_block))) ≡ servers_size = omega arith in
    let y : servers_from + server_block * (j - 1) ≡ servers_from + (j - 1) * server_block = omega arith in
    ap (λ (x : ℕ). take server_block (drop x w)) y ∙
    (sym (region-block servers_from server_block (j - 1) (servers_size - ((j - 1) * server_block + server_block)) w) ∙
    ap (λ (x : ℕ). take server_block (drop ((j - 1) * server_block) (take x (drop servers_from w)))) z)

pub client_block-long : (w : List ℕ) (k : ℕ) → length w ≡ simulation_size → 1 ≤ k → k ≤ system_clients → length (client_block_of w (client_no k)) ≡ client_block
client_block-long w k e p q = ap length (sym (client-part w k p q)) ∙
    length-take-le client_block (drop (clients_from + client_block * (k - 1)) w) (omega (arith, length-drop (clients_from + client_block * (k - 1)) w))

pub server_block-long : (w : List ℕ) (j : ℕ) → length w ≡ simulation_size → 1 ≤ j → j ≤ system_servers → length (server_block_of w (server_no j)) ≡ server_block
server_block-long w j e p q = ap length (sym (server-part w j p q)) ∙
    length-take-le server_block (drop (servers_from + server_block * (j - 1)) w) (omega (arith, length-drop (servers_from + server_block * (j - 1)) w))

-- what a callee says of the block it was lent, said of the simulation's block
module _ (w : List ℕ) (k : ClientId) (in-it : ClientIn w k) where
  abbrev client_start : ℕ
  client_start = clients_from + client_block * (k.0 - 1)

  pub whole-client : take (client_start + client_block - client_start) (drop client_start w) ≡ client_block_of w k
  whole-client =
      let z : client_start + client_block - client_start ≡ client_block = omega arith in
      ap (λ (x : ℕ). take x (drop client_start w)) z ∙ client-part w k.0 in-it.first in-it.last

  pub client_lent : (b : List ℕ) → b ≡ client_block_of w k → length b ≡ client_block
  client_lent b e = ap length e ∙ client_block-long w k.0 in-it.long in-it.first in-it.last

  pub client-written : (g : List ℕ → List ℕ) (b : List ℕ) → ((l : List ℕ) → length (g l) ≡ length l)
      → b ≡ g (take (client_start + client_block - client_start) (drop client_start w)) →
      put_mid client_start (client_start + client_block - client_start) w b ≡ sets w client_start (g (client_block_of w k))
  client-written g b same e =
      let is : b ≡ g (client_block_of w k) = e ∙ ap g whole-client in
      let long : length b ≡ client_block = ap length is ∙ (same (client_block_of w k) ∙ client_block-long w k.0 in-it.long in-it.first in-it.last) in
      came_back w client_start client_block b long (omega (arith, in-it.long, in-it.last)) ∙ ap (λ (x : List ℕ). sets w client_start x) is

module _ (w : List ℕ) (j : ServerId) (in-it : ServerIn w j) where
  abbrev server_start : ℕ
  server_start = servers_from + server_block * (j.0 - 1)

  pub whole-server : take (server_start + server_block - server_start) (drop server_start w) ≡ server_block_of w j
  whole-server =
      let z : server_start + server_block - server_start ≡ server_block = omega arith in
      ap (λ (x : ℕ). take x (drop server_start w)) z ∙ server-part w j.0 in-it.first in-it.last

  pub server_lent : (b : List ℕ) → b ≡ server_block_of w j → length b ≡ server_block
  server_lent b e = ap length e ∙ server_block-long w j.0 in-it.long in-it.first in-it.last

  pub server-lent : {A : Type 0} (f : List ℕ → A) (r : A) → f (server_block_of w j) ≡ r
      → f (take (server_start + server_block - server_start) (drop server_start w)) ≡ r
  server-lent f r e = ap f whole-server ∙ e

  pub server-written : (g : List ℕ → List ℕ) (b : List ℕ) → ((l : List ℕ) → length (g l) ≡ length l)
      → b ≡ g (take (server_start + server_block - server_start) (drop server_start w)) →
      put_mid server_start (server_start + server_block - server_start) w b ≡ sets w server_start (g (server_block_of w j))
  server-written g b same e =
      let is : b ≡ g (server_block_of w j) = e ∙ ap g whole-server in
      let long : length b ≡ server_block = ap length is ∙ (same (server_block_of w j) ∙ server_block-long w j.0 in-it.long in-it.first in-it.last) in
      came_back w server_start server_block b long (omega (arith, in-it.long, in-it.last)) ∙ ap (λ (x : List ℕ). sets w server_start x) is

pub length-flags : (b : List ℕ) → length (cleared b) ≡ length b
unfolding cleared
length-flags b = length-sets b flags_from (replicate system_servers 0)

pub length-cleared : (b : List ℕ) → length (cleared (set b 0 0)) ≡ length b
length-cleared b = length-flags (set b 0 0) ∙ length-set b 0 0

-- the words behind the blocks in use
region-rest : (from used more : ℕ) (w : List ℕ) → drop used (take (used + more) (drop from w)) ≡ take more (drop (from + used) w)
region-rest from used more w = drop-take used more (drop from w) ∙ ap (take more) (drop-drop used from w)

pub clients-rest : (w : List ℕ) (c : ℕ) → c ≤ system_clients
    → take (servers_from - (clients_from + client_block * c)) (drop (clients_from + client_block * c) w) ≡ drop (c * client_block) (client_words w)
unfolding client_words
clients-rest w c h =
    let z : c * client_block + (servers_from - (clients_from + client_block * c)) ≡ clients_size = omega arith in
    let y : clients_from + client_block * c ≡ clients_from + c * client_block = omega arith in
    ap (λ (x : ℕ). take (servers_from - (clients_from + client_block * c)) (drop x w)) y ∙
    (sym (region-rest clients_from (c * client_block) (servers_from - (clients_from + client_block * c)) w) ∙
    ap (λ (x : ℕ). drop (c * client_block) (take x (drop clients_from w))) z)

pub servers-rest : (w : List ℕ) (n : ℕ) → n ≤ system_servers
    → take (transit_from - (servers_from + server_block * n)) (drop (servers_from + server_block * n) w) ≡ drop (n * server_block) (server_words w)
unfolding server_words
servers-rest w n h =
    let z : n * server_block + (transit_from - (servers_from + server_block * n)) ≡ servers_size = omega arith in
    let y : servers_from + server_block * n ≡ servers_from + n * server_block = omega arith in
    ap (λ (x : ℕ). take (transit_from - (servers_from + server_block * n)) (drop x w)) y ∙
    (sym (region-rest servers_from (n * server_block) (transit_from - (servers_from + server_block * n)) w) ∙
    ap (λ (x : ℕ). drop (n * server_block) (take x (drop servers_from w))) z)
