-- `script::start` meets its contract: four stores.
use Rattle.script.proofs.StepLaws.{started-same}
use borrow.Author.Rules.{rules}
use Rattle.script.proofs.start.Statement.{statement}
use Rattle.script.proofs.start.Tie as tie

same_length : tie.Need-shape_of-w
same_length c = started-same c.args.w.now _ c.args.c c.put_counts.ensures

pub start_spec : {M : Type 1} → statement M
start_spec = tie.close (tie.spec (λ c. search rules) (λ c κs. search rules) same_length (λ c. search rules))
