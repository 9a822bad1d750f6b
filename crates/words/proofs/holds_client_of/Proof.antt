-- `words::holds_client_of` meets its contract: the length, the section, then the head.
use borrow.Author.Rules.{rules}
use Rattle.words.proofs.RecordsLaws.{client-length, client-section, client-fits, word-there}
use Rattle.words.proofs.holds_client_of.Statement.{statement}
use Rattle.words.proofs.holds_client_of.Tie as tie

pub holds_client_of_spec : {M : Type 1} → statement M
holds_client_of_spec =
    tie.close
    (tie.spec
    (λ c κs. search rules)
    (λ c. search client-length)
    (λ c. search (rules, word-there))
    (λ c. search client-section)
    (λ c. search (rules, word-there))
    (λ c. search (rules, word-there))
    (λ c. search (rules, word-there))
    (λ c κs. search rules)
    (λ c. search client-fits))
