-- `sim_changes::new_server` meets its contract: the first word of the block and its record are stored.
use Prim.Native.Nat.{◌≤◌}
use Rattle.words.specs.Records.{max_word}
use Rattle.sim_layout.specs.Parts.{ServerIn}
use Rattle.sim_changes.proofs.Opening.{risen_in, new_short, server-opened}
use borrow.Author.Rules.{rules}
use Rattle.sim_changes.proofs.new_server.Statement.{statement}
use Rattle.sim_changes.proofs.new_server.Tie as tie

-- the server is up, and its record made
module _ (c : tie.After-empty_head-head) where
  there : ServerIn c.rise_server.new.w c.args.j
  there = risen_in c.args.n c.args.j.0 c.args.w.now c.requires _ c.rise_server.ensures

  short : c.empty_head-head.result.votes.len ≤ max_word
  short = new_short c.args.n c.args.j _ c.empty_head-head.ensures

put-server-requires : tie.Need-put_server-requires
put-server-requires c κs = (there c.before.before, search rules, short c.before.before)

returns : tie.Need-returns
returns c =
    server-opened c.args.n c.args.j.0 c.args.w.now c.requires _ c.rise_server.ensures _ c.empty_head-head.ensures _ c.put_server.ensures

pub new_server_spec : {M : Type 1} → statement M
new_server_spec =
    tie.close
    (tie.spec
    (λ c κs. search rules)
    (λ c κs. search rules)
    (λ c. search rules)
    put-server-requires
    (λ c. search rules)
    returns)
