-- `client_responses::is_own` meets its contract: an empty place shows no request, any other shows its own.
use Rattle.client_responses.proofs.CountLaws.{own-shown, own-empty}
use borrow.Author.Rules.{rules}
use Rattle.client_responses.proofs.is_own.Statement.{statement}
use Rattle.client_responses.proofs.is_own.Tie as tie

pub is_own_spec : {M : Type 1} → statement M
is_own_spec =
    tie.close
    (tie.spec
    (λ c κs. search rules)
    (λ c κs. search rules)
    (λ c. search own-shown)
    (λ c. search own-empty))
