-- The simulation's state as words: a head, the client blocks, the server blocks, the slots of messages in transit, and their index by receiver.
-- 0 is none.
-- Document 01 says gallery for simulation.
use Rattle.std.specs.Prelude.{ℕ, suc, ◌+◌, ◌*◌, Bool, true, ◌&&◌, List, [], ◌∷◌, eqb, leb, length, get_or, drop}
use Rattle.ids.specs.Limits.{within}
use Rattle.ids.specs.Lists.{every}
use Rattle.quorum.specs.Check.{in_range_up_to}
use Rattle.system.specs.Limits.{system_clients, system_servers}
use Rattle.system.specs.declared.Setting.{Setting}
use Rattle.system.specs.Places.{System, worst}
use Rattle.sim_blocks.specs.Regions.{blocks, region}
use Rattle.sim_blocks.specs.Blocks.{client_block, server_block, client_place, server_place, valid_client_block, valid_server_block}
use Rattle.sim_indexed.specs.Indexed.{indexed_size, in_transit, valid_indexed}
use Rattle.system.specs.Numbered.{client_no, server_no}

-- the head: n, m, f, the number of clients, the messages in transit, the messages sent, the most servers down within an epoch
abbrev pub clients_from : ℕ
clients_from = 7

abbrev pub clients_size : ℕ
clients_size = system_clients * client_block

abbrev pub servers_from : ℕ
servers_from = clients_from + clients_size

abbrev pub servers_size : ℕ
servers_size = system_servers * server_block

abbrev pub transit_from : ℕ
transit_from = servers_from + servers_size

abbrev pub simulation_size : ℕ
simulation_size = transit_from + indexed_size

-- the setting
unfoldable pub setting_of : List ℕ → Setting
setting_of w = record { n = get_or w 0 0; m = get_or w 1 0; f = get_or w 2 0; clients = get_or w 3 0 }

-- the parts; the messages in transit stand with their index
unfoldable pub client_words : List ℕ → List ℕ
client_words w = region clients_from clients_size w

unfoldable pub server_words : List ℕ → List ℕ
server_words w = region servers_from servers_size w

unfoldable pub transit_words : List ℕ → List ℕ
transit_words w = region transit_from indexed_size w

abbrev pub length_of : List ℕ → ℕ
length_of w = get_or w 4 0

abbrev pub sent_of : List ℕ → ℕ
sent_of w = get_or w 5 0

abbrev pub most_of : List ℕ → ℕ
most_of w = get_or w 6 0

-- the system that the words are
unfoldable pub view : List ℕ → System
view w =
    record {
      clients = blocks client_block client_place (setting_of w).clients (client_words w);
      servers = blocks server_block server_place (setting_of w).n (server_words w);
      transit = in_transit (length_of w) (transit_words w);
      sent = sent_of w;
      most = most_of w;
    }

-- blocks number i on are valid, each as its number
unfoldable pub valid_from : (ℕ → List ℕ → Bool) → ℕ → List (List ℕ) → Bool
valid_from f i [] = true
valid_from f i (b ∷ bs) = f i b && valid_from f (suc i) bs

abbrev pub blank : List ℕ → Bool
blank l = every (eqb 0) l

abbrev pub itself : List ℕ → List ℕ
itself b = b

-- valid: the setting in range, every block and message as its setting says, the places behind them empty, the index the one made afresh
-- from the messages, and no epoch has more servers down than was noted
unfoldable pub valid : List ℕ → Bool
valid w =
    eqb (length w) simulation_size
    && in_range_up_to system_servers (setting_of w).n (setting_of w).m (setting_of w).f && within (setting_of w).clients system_clients
    && valid_from (λ (i : ℕ). valid_client_block (setting_of w).n (setting_of w).m (setting_of w).clients (client_no i)) 1 (blocks client_block itself (setting_of w).clients (client_words w))
    && blank (drop ((setting_of w).clients * client_block) (client_words w))
    && valid_from (λ (i : ℕ). valid_server_block (setting_of w).n (setting_of w).clients (server_no i)) 1 (blocks server_block itself (setting_of w).n (server_words w))
    && blank (drop ((setting_of w).n * server_block) (server_words w))
    && valid_indexed (setting_of w).n (setting_of w).clients (sent_of w) (length_of w) (transit_words w)
    && leb (most_of w) (setting_of w).n && leb (worst (view w).clients) (most_of w)
