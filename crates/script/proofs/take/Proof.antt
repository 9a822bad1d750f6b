-- `script::take` meets its contract: a newline ends the line, another byte joins it.
use Rattle.script.proofs.StepLaws.{line_taken_lem, byte_taken}
use Rattle.script.proofs.LineLaws.{sound}
use borrow.Author.Rules.{rules}
use Rattle.script.proofs.take.Statement.{statement}
use Rattle.script.proofs.take.Tie as tie

pub take_spec : {M : Type 1} → statement M
take_spec =
    tie.close
    (tie.spec
    (λ c κs. search rules)
    (λ c κs. search sound)
    (λ c. search rules)
    (λ c. search rules)
    (λ c. search line_taken_lem)
    (λ c κs. search rules)
    (λ c. search rules)
    (λ c. search byte_taken))
