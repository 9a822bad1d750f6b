-- `server::repeated` meets its contract: the client is looked for further on.
use Rattle.server.proofs.ValidLaws.{repeats_by_search}
use borrow.Author.Rules.{rules}
use Rattle.server.proofs.repeated.Statement.{statement}
use Rattle.server.proofs.repeated.Tie as tie

pub repeated_spec : {M : Type 1} → statement M
repeated_spec =
    tie.close
    (tie.spec
    (λ c κs. search rules)
    (λ c. search rules)
    (λ c κs. search rules)
    (λ c. search repeats_by_search))
