-- `script::counts_in` meets its contract: two words of the head.
use Rattle.script.specs.State.{head_in}
use borrow.Author.Rules.{rules}
use Rattle.script.proofs.counts_in.Statement.{statement}
use Rattle.script.proofs.counts_in.Tie as tie

returns : tie.Need-returns
unfolding head_in
returns c = search rules

pub counts_in_spec : {M : Type 1} → statement M
counts_in_spec = tie.close (tie.spec (λ c. search rules) (λ c. search rules) returns)
