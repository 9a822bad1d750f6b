-- `server::valid_row_up_to` meets its contract: each test is one part of `valid_up_to`.
use Rattle.server.proofs.RecordLaws.{server_1, server_2, server_3, server_4, row-padded}
use borrow.Author.Rules.{rules}
use Rattle.server.proofs.valid_row_up_to.Statement.{statement}
use Rattle.server.proofs.valid_row_up_to.Tie as tie

pub valid_row_up_to_spec : {M : Type 1} → statement M
valid_row_up_to_spec =
    tie.close
    (tie.spec
    (λ c. search rules)
    (λ c κs. search rules)
    (λ c. search server_1)
    (λ c. search rules)
    (λ c. search rules)
    (λ c κs. search rules)
    (λ c. search server_2)
    (λ c κs. search rules)
    (λ c. search server_3)
    (λ c κs. row-padded _ _ _ c.good_row.ensures c.if-not-good_row.false)
    (λ c. search server_4))
