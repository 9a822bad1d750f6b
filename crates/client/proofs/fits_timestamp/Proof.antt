-- `client::fits_timestamp` meets its contract, section by section.
use borrow.Author.Rules.{rules}
use Rattle.client.proofs.fits_timestamp.Statement.{statement}
use Rattle.client.proofs.fits_timestamp.Tie as tie

pub fits_timestamp_spec : {M : Type 1} → statement M
fits_timestamp_spec =
    tie.close
    (tie.spec
    (λ c. search rules)
    (λ c. search rules)
    (λ c κs. search rules)
    (λ c. search rules)
    (λ c κs. search rules)
    (λ c. search rules)
    (λ c. rw c.in-Trying.is c.taken_timestamp.ensures)
    (λ c. rw c.in-Critical.is c.taken_timestamp-in-Critical.ensures))
