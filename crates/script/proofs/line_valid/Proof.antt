-- `script::line_valid` meets its contract: each return is one case of the definition.
use Rattle.script.proofs.TestLaws.{line-long, bytes-wrong, rest_decides}
use borrow.Author.Rules.{rules}
use Rattle.script.proofs.line_valid.Statement.{statement}
use Rattle.script.proofs.line_valid.Tie as tie

pub line_valid_spec : {M : Type 1} → statement M
line_valid_spec =
    tie.close
    (tie.spec
    (λ c. search rules)
    (λ c. search line-long)
    (λ c κs. search rules)
    (λ c. search bytes-wrong)
    (λ c. search rules)
    (λ c. search rules)
    (λ c κs. search rules)
    (λ c. search rest_decides))
