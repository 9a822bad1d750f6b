-- `capi_script::number_of` meets its contract: an accepted call is 0, a refused one its number.
use Rattle.capi_script.proofs.CallLaws.{refused-code}
use borrow.Author.Rules.{rules}
use Rattle.capi_script.proofs.number_of.Statement.{statement}
use Rattle.capi_script.proofs.number_of.Tie as tie

pub number_of_spec : {M : Type 1} → statement M
number_of_spec =
    tie.close
    (tie.spec
    (λ c. search rules)
    (λ c. search rules)
    (λ c κs. search rules)
    (λ c. search rules)
    (λ c. refused-code _ _ _ c.in-Err.is c.code_of.ensures))
