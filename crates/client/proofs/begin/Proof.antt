-- `client::begin` meets its contract by that of `begin_row`.
use Rattle.client.proofs.StepLaws.{by_value}
use borrow.Author.Rules.{rules}
use Rattle.client.proofs.begin.Statement.{statement}
use Rattle.client.proofs.begin.Tie as tie

returns : tie.Need-returns
returns c =
    by_value c.args.c _ c.args.out.now _ _ _ c.begin_row-turned.ensures _ c.together.ensures

pub begin_spec : {M : Type 1} → statement M
begin_spec =
    tie.close
    (tie.spec
    (λ c. search rules)
    (λ c κs. search rules)
    (λ c κs. search rules)
    (λ c. search rules)
    returns)
