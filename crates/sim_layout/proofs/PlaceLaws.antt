-- The places of the system that the words are: place number k is block number k, and it is there exactly if it is in range.
use mathlib.Core.Path.{◌≡◌, ap}
use Prim.Native.Nat.{ℕ, zero, suc, ◌-◌, ◌≤◌, ◌<◌}
use native.Mathlib.Omega.{arith}
use mathlib.Core.Bool.{◌&&◌}
use mathlib.Core.List.{List}
use lib.Dec.{leb, ltb}
use lib.ListN.{set}
use Rattle.ids.specs.Limits.{within}
use Rattle.sim_blocks.proofs.RegionBlocks.{block_at, length-blocks}
use Rattle.system.specs.Numbered.{put, has, client_no, server_no}
use Rattle.system.specs.Places.{no_client, no_server, client_at, server_at}
use Rattle.sim_blocks.specs.Blocks.{client_place, server_place, client_block, server_block}
use Rattle.sim_layout.specs.Layout.{setting_of, client_words, server_words, view}
use Rattle.sim_layout.specs.Parts.{client_block_of, server_block_of}

module _ (w : List ℕ) where
  pub client-place : (k : ℕ) → 0 < k → k ≤ (setting_of w).clients → client_at (view w) (client_no k) ≡ client_place (client_block_of w (client_no k))
  unfolding view
  client-place zero p q = absurd (omega arith)
  client-place (suc i) p q =
      let z : suc i - 1 ≡ i = omega arith in
      rw z (block_at client_block client_place (setting_of w).clients i (client_words w) no_client q)

  pub server-place : (j : ℕ) → 0 < j → j ≤ (setting_of w).n → server_at (view w) (server_no j) ≡ server_place (server_block_of w (server_no j))
  unfolding view
  server-place zero p q = absurd (omega arith)
  server-place (suc i) p q =
      let z : suc i - 1 ≡ i = omega arith in
      rw z (block_at server_block server_place (setting_of w).n i (server_words w) no_server q)

  pub client-there : (k : ℕ) → has (view w).clients k ≡ within k (setting_of w).clients
  unfolding view
  client-there k = ap (λ (c : ℕ). ltb 0 k && leb k c) (length-blocks client_block client_place (setting_of w).clients (client_words w))

  pub server-there : (j : ℕ) → has (view w).servers j ≡ within j (setting_of w).n
  unfolding view
  server-there j = ap (λ (c : ℕ). ltb 0 j && leb j c) (length-blocks server_block server_place (setting_of w).n (server_words w))

-- a place set by its number is set by its block
pub put-set : {A : Type 0} (l : List A) (k : ℕ) (v : A) → 0 < k → set l (k - 1) v ≡ put l k v
put-set l zero v p = absurd (omega arith)
put-set l (suc i) v p = let z : suc i - 1 ≡ i = omega arith in rw z
