-- Stores of whole blocks: the block is what was stored last.
use mathlib.Core.Path.{◌≡◌, refl, sym, ap, ◌∙◌}
use Prim.Native.Nat.{ℕ, suc, ◌+◌, ◌*◌, ◌-◌, ◌≤◌, ◌<◌}
use native.Mathlib.Omega.{arith}
use mathlib.Core.List.{List, [], ◌∷◌}
use lib.ListN.{length, set, take, drop}
use lib.Seq.{sets, set_comm, set-set}
use Rattle.sim_blocks.proofs.BlockParts.{covered}
use Rattle.sim_layout.specs.Layout.{client_words, server_words, servers_from, clients_from}
use Rattle.sim_layout.specs.Parts.{client_block_of, server_block_of, ClientIn, ServerIn}
use Rattle.sim_layout.proofs.ViewLaws.{in_clients, in_servers}
use Rattle.sim_layout.proofs.ValidLaws.{block_here}
use Rattle.sim_layout.proofs.LendLaws.{client_block-long, server_block-long}
use Rattle.sim_blocks.specs.Blocks.{client_block, server_block}
use Rattle.system.specs.Limits.{system_clients, system_servers}
use Rattle.system.specs.Numbered.{client_no, server_no}

set-sets : (l : List ℕ) (i a v : ℕ) (vs : List ℕ) → i < a → set (sets l a vs) i v ≡ sets (set l i v) a vs
set-sets l i a v [] h = refl
set-sets l i a v (x ∷ vs) h = set-sets (set l a x) i (suc a) v vs (omega arith) ∙ ap (λ (z : List ℕ). sets z (suc a) vs) (set_comm l a i x v (λ e. omega arith))

-- one store over another
pub sets_over : (l : List ℕ) (a : ℕ) (xs ys : List ℕ) → length xs ≤ length ys → sets (sets l a xs) a ys ≡ sets l a ys
sets_over l a [] ys e = refl
sets_over l a (x ∷ xs) [] e = absurd (omega arith)
sets_over l a (x ∷ xs) (y ∷ ys) e =
    ap (λ (z : List ℕ). sets z (suc a) ys) (set-sets (set l a x) a (suc a) y xs (omega arith) ∙ ap (λ (z : List ℕ). sets z (suc a) xs) (set-set l a x y)) ∙
    sets_over (set l a y) (suc a) xs ys (omega arith)

-- a store at the beginning of a block
module _ (w : List ℕ) (k : ℕ) (h : ClientIn w (client_no k)) (vs : List ℕ) (few : length vs ≤ client_block) where
  pub client_block-from : client_block_of (sets w (clients_from + client_block * (k - 1)) vs) (client_no k) ≡ sets (client_block_of w (client_no k)) 0 vs
  client_block-from =
      let z : client_block * (k - 1) ≡ (k - 1) * client_block + 0 = omega arith in
      let e : client_words (sets w (clients_from + client_block * (k - 1)) vs) ≡ sets (client_words w) ((k - 1) * client_block + 0) vs =
      in_clients w (client_block * (k - 1)) vs (omega (arith, h.first, h.last)) ∙ ap (λ (x : ℕ). sets (client_words w) x vs) z in
      ap (λ (l : List ℕ). take client_block (drop ((k - 1) * client_block) l)) e
      ∙ block_here client_block system_clients (k - 1) (client_words w) 0 vs (omega (arith, h.first, h.last)) (omega arith)

  pub client_block-stored : length vs ≡ client_block → client_block_of (sets w (clients_from + client_block * (k - 1)) vs) (client_no k) ≡ vs
  client_block-stored l = client_block-from ∙ covered (client_block_of w (client_no k)) vs (l ∙ sym (client_block-long w k h.long h.first h.last))

module _ (w : List ℕ) (j : ℕ) (h : ServerIn w (server_no j)) (vs : List ℕ) (few : length vs ≤ server_block) where
  pub server_block-from : server_block_of (sets w (servers_from + server_block * (j - 1)) vs) (server_no j) ≡ sets (server_block_of w (server_no j)) 0 vs
  server_block-from =
      let z : server_block * (j - 1) ≡ (j - 1) * server_block + 0 = omega arith in
      let e : server_words (sets w (servers_from + server_block * (j - 1)) vs) ≡ sets (server_words w) ((j - 1) * server_block + 0) vs =
      in_servers w (server_block * (j - 1)) vs (omega (arith, h.first, h.last)) ∙ ap (λ (x : ℕ). sets (server_words w) x vs) z in
      ap (λ (l : List ℕ). take server_block (drop ((j - 1) * server_block) l)) e
      ∙ block_here server_block system_servers (j - 1) (server_words w) 0 vs (omega (arith, h.first, h.last)) (omega arith)

  pub server_block-stored : length vs ≡ server_block → server_block_of (sets w (servers_from + server_block * (j - 1)) vs) (server_no j) ≡ vs
  server_block-stored l = server_block-from ∙ covered (server_block_of w (server_no j)) vs (l ∙ sym (server_block-long w j h.long h.first h.last))
