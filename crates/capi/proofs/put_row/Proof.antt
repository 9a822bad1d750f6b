-- `capi::put_row` meets its contract: the words behind the head are lent, and come back as the row.
use Rattle.capi.proofs.StepLaws.{row_copied}
use borrow.Author.Rules.{rules}
use Rattle.capi.proofs.put_row.Statement.{statement}
use Rattle.capi.proofs.put_row.Tie as tie

pub put_row_spec : {M : Type 1} → statement M
put_row_spec =
    tie.close
    (tie.spec
    (λ c. search rules)
    (λ c. search rules)
    (λ c. search rules)
    (λ c. search rules)
    (λ c. search rules)
    (λ c κs. search rules)
    (λ c. search rules)
    (λ c. search row_copied))
