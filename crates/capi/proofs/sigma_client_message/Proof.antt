-- `capi::sigma_client_message` meets its contract: what stands for words that are no message is refused as they are.
use Rattle.words.specs.Messages.{message_in}
use Rattle.capi.proofs.StepLaws.{client_takes-words}
use borrow.Author.Rules.{rules}
use Rattle.capi.proofs.sigma_client_message.Statement.{statement}
use Rattle.capi.proofs.sigma_client_message.Tie as tie

returns : tie.Need-returns
returns c =
    rw (client_takes-words c.args.state.now (message_in c.args.message.now) _ c.message_in-m.ensures) at c.client_call.ensures

pub sigma_client_message_spec : {M : Type 1} → statement M
sigma_client_message_spec =
    tie.close
    (tie.spec
    (λ c κs. search rules)
    (λ c κs. search rules)
    (λ c. search rules)
    (λ c. search rules)
    (λ c. search rules)
    returns)
