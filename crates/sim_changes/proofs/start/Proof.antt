-- `sim_changes::start` meets its contract: cleared words with the setting, then the parties in turn.
-- A section for each place on the way says what holds there; the needs below it cite these.
use native.Mathlib.Omega.{arith}
use Prim.Native.Nat.{ℕ, ◌≤◌}
use mathlib.Core.List.{List}
use Rattle.system.specs.Limits.{system_clients, system_servers}
use Rattle.system.specs.declared.Setting.{Setting}
use Rattle.sim_changes.proofs.Opening.{start-two, start_three, start_fits, start-clients, start-servers, start-same, start-done}
use borrow.Author.Rules.{rules}
use Rattle.sim_changes.proofs.start.Statement.{statement}
use Rattle.sim_changes.proofs.start.Tie as tie

-- the words are cleared
module _ (c : tie.After-clear_all) where
  abbrev words : List ℕ
  words = c.args.w.now

  abbrev chosen : Setting
  chosen = c.args.s

  fits : (chosen.n ≤ system_servers) × (chosen.m ≤ system_servers) × (chosen.clients ≤ system_clients)
  fits = start_fits chosen words _ c.requires c.clear_all.ensures

-- the setting is stored
module _ (c : tie.After-new_clients-arg-1) where
  abbrev cleared : tie.After-clear_all
  cleared = c.before.before.before

-- the clients are put
module _ (c : tie.After-new_clients) where
  abbrev blank : tie.After-clear_all
  blank = c.before.before.before.before.before.before.before

-- the servers are put
module _ (c : tie.After-new_servers) where
  abbrev peopled : tie.After-new_clients
  peopled = c.before.before.before.before.before

slice-write-w-3 : tie.Need-bounds-w-2
slice-write-w-3 c = start-two (chosen c.before.before) (words c.before.before) _ c.requires c.clear_all.ensures

slice-write-w-4 : tie.Need-bounds-w-3
slice-write-w-4 c = start_three (chosen c.before.before) (words c.before.before) _ c.requires c.clear_all.ensures

cast-new-clients : tie.Need-overflow_cast-s
cast-new-clients c = record { fits = omega (arith, (fits (cleared c.before)).0) }

cast-new-clients-2 : tie.Need-overflow_cast-s-2
cast-new-clients-2 c = record { fits = omega (arith, (fits (cleared c.before.before)).1) }

cast-new-clients-3 : tie.Need-overflow_cast-s-3
cast-new-clients-3 c = record { fits = omega (arith, (fits (cleared c.before.before.before)).2) }

new-clients-requires : tie.Need-new_clients-requires
new-clients-requires c κs = start-clients (chosen c.before.before.before.before.before.before) (words c.before.before.before.before.before.before) _ c.requires c.clear_all.ensures

cast-new-servers : tie.Need-overflow_cast-s-4
cast-new-servers c = record { fits = omega (arith, (fits (blank c.before.before.before.before)).0) }

new-servers-requires : tie.Need-new_servers-requires
new-servers-requires c κs =
    start-servers (chosen c.before.before.before.before.before.before.before.before.before.before.before) (words c.before.before.before.before.before.before.before.before.before.before.before) _ c.requires c.clear_all.ensures _ c.new_clients.ensures

same_length : tie.Need-shape_of-w
same_length c =
    start-same (chosen c.before.before.before.before.before.before.before.before.before.before.before.before.before.before) (words c.before.before.before.before.before.before.before.before.before.before.before.before.before.before) _ c.requires c.clear_all.ensures _ c.new_clients.ensures _ c.new_servers.ensures

returns : tie.Need-returns
returns c =
    start-done (chosen c.before.before.before.before.before.before.before.before.before.before.before.before.before.before) (words c.before.before.before.before.before.before.before.before.before.before.before.before.before.before) _ c.requires c.clear_all.ensures _ c.new_clients.ensures _ c.new_servers.ensures

pub start_spec : {M : Type 1} → statement M
start_spec =
    tie.close
    (tie.spec
    (λ c κs. search rules)
    (λ c. search rules)
    (λ c. search rules)
    slice-write-w-3
    slice-write-w-4
    cast-new-clients
    cast-new-clients-2
    cast-new-clients-3
    new-clients-requires
    cast-new-servers
    new-servers-requires
    same_length
    returns)
