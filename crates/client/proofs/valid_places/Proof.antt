-- `client::valid_places` meets its contract: no misfit, and what goes with the section.
use Rattle.client.proofs.ValidLaws.{padded-words, places_fail, section_decides}
use borrow.Author.Rules.{rules}
use Rattle.client.proofs.valid_places.Statement.{statement}
use Rattle.client.proofs.valid_places.Tie as tie

pub valid_places_spec : {M : Type 1} → statement M
valid_places_spec =
    tie.close
    (tie.spec
    (λ c κs. search rules)
    (λ c. search rules)
    (λ c κs. search padded-words)
    (λ c. search places_fail)
    (λ c. search rules)
    (λ c κs. search padded-words)
    (λ c. search section_decides))
