-- `server::owner_fits` meets its contract: each arm is given which owner it is.
use Rattle.server.proofs.RecordLaws.{fits_nobody, fits-owner}
use borrow.Author.Rules.{rules}
use Rattle.server.proofs.owner_fits.Statement.{statement}
use Rattle.server.proofs.owner_fits.Tie as tie

pub owner_fits_spec : {M : Type 1} → statement M
owner_fits_spec =
    tie.close
    (tie.spec
    (λ c. search rules)
    (λ c. search rules)
    (λ c κs. search rules)
    (λ c. search fits_nobody)
    (λ c. search fits-owner))
