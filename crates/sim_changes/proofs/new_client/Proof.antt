-- `sim_changes::new_client` meets its contract: the first word of the block and its record are stored.
use Rattle.sim_changes.proofs.Opening.{client-opened, length-client}
use mathlib.Core.Path.{◌≡◌, ap, ◌∙◌}
use lib.ListN.{length}
use Rattle.sim_changes.specs.Inner.{new_client}
use borrow.Author.Rules.{rules}
use Rattle.sim_changes.proofs.new_client.Statement.{statement}
use Rattle.sim_changes.proofs.new_client.Tie as tie

-- the block's words are stored
module _ (c : tie.After-put_client) where
  opened : c.put_client.new.w ≡ new_client c.args.n c.args.m c.args.k c.args.w.now
  opened = client-opened c.args.n c.args.m c.args.k.0 c.args.w.now c.requires _ c.fresh_head-head.ensures _
      c.put_client.ensures

same_length : tie.Need-shape_of-w
same_length c =
    ap length (opened c.before.before) ∙ length-client c.args.n c.args.m c.args.k.0 c.args.w.now

pub new_client_spec : {M : Type 1} → statement M
new_client_spec =
    tie.close
    (tie.spec
    (λ c. search rules)
    (λ c. search rules)
    (λ c. search rules)
    (λ c. search rules)
    (λ c. search rules)
    (λ c. search rules)
    (λ c κs. search rules)
    (λ c. search rules)
    (λ c κs. search rules)
    same_length
    (λ c. opened c.before.before))
