-- `client::exit` meets its contract by that of `exit_row`.
use Rattle.client.proofs.StepLaws.{by_value}
use borrow.Author.Rules.{rules}
use Rattle.client.proofs.exit.Statement.{statement}
use Rattle.client.proofs.exit.Tie as tie

returns : tie.Need-returns
returns c =
    by_value c.args.c _ c.args.out.now _ _ _ c.exit_row-turned.ensures _ c.together.ensures

pub exit_spec : {M : Type 1} → statement M
exit_spec =
    tie.close
    (tie.spec
    (λ c. search rules)
    (λ c κs. search rules)
    (λ c κs. search rules)
    (λ c. search rules)
    returns)
