-- `client_responses::told` meets its contract: the timestamp of a place is the owner's, and 0 where it is empty.
use Rattle.client_responses.proofs.HearLaws.{told-place}
use borrow.Author.Rules.{rules}
use Rattle.client_responses.proofs.told.Statement.{statement}
use Rattle.client_responses.proofs.told.Tie as tie

pub told_spec : {M : Type 1} → statement M
told_spec = tie.close (tie.spec (λ c κs. search rules) (λ c. search told-place))
