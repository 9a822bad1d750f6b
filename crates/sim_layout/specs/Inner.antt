-- Definitions that only the contracts of private functions cite: no promise rests on them.
use Rattle.std.specs.Prelude.{ℕ, ◌*◌, Bool, ◌&&◌, List, drop, leb}
use Rattle.sim_blocks.specs.Regions.{blocks}
use Rattle.sim_blocks.specs.Blocks.{client_block, server_block, client_place, valid_client_block, valid_server_block}
use Rattle.sim_layout.specs.Layout.{client_words, server_words, transit_words, length_of, sent_of, most_of, valid_from, itself, blank}
use Rattle.sim_indexed.specs.Indexed.{valid_indexed}
use Rattle.system.specs.Places.{worst}
use Rattle.system.specs.Numbered.{client_no, server_no}

-- the blocks are valid, each as its number, and the places behind them empty
unfoldable pub blocks_valid : ℕ → ℕ → ℕ → List ℕ → Bool
blocks_valid n m clients w =
    valid_from (λ (i : ℕ). valid_client_block n m clients (client_no i)) 1 (blocks client_block itself clients (client_words w))
    && blank (drop (clients * client_block) (client_words w))
    && valid_from (λ (i : ℕ). valid_server_block n clients (server_no i)) 1 (blocks server_block itself n (server_words w))
    && blank (drop (n * server_block) (server_words w))

-- all that stands behind the setting
unfoldable pub parts_valid : ℕ → ℕ → ℕ → List ℕ → Bool
parts_valid n m clients w =
    blocks_valid n m clients w && valid_indexed n clients (sent_of w) (length_of w) (transit_words w) && leb (most_of w) n
    && leb (worst (blocks client_block client_place clients (client_words w))) (most_of w)
