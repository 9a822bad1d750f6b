-- `client::new` meets its contract: each return is one case of the definition.
use Rattle.client.proofs.StepLaws.{new_sizes, new_id, new_done}
use borrow.Author.Rules.{rules}
use Rattle.client.proofs.new.Statement.{statement}
use Rattle.client.proofs.new.Tie as tie

pub new_spec : {M : Type 1} → statement M
new_spec =
    tie.close
    (tie.spec
    (λ c κs. search rules)
    (λ c κs. search rules)
    (λ c. search new_sizes)
    (λ c κs. search rules)
    (λ c κs. search rules)
    (λ c. search new_id)
    (λ c κs. search rules)
    (λ c. search new_done))
