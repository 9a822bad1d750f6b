-- `capi::client_step` meets its contract: each arm is given which call it is.
use borrow.Author.Rules.{rules}
use Rattle.capi.proofs.client_step.Statement.{statement}
use Rattle.capi.proofs.client_step.Tie as tie

returns : tie.Need-returns-in-Message
returns c = rw c.in-Message.is c.message_row.ensures

returns-2 : tie.Need-returns-in-Begin
returns-2 c = rw c.in-Begin.is c.begin_row.ensures

returns-3 : tie.Need-returns-in-Exit
returns-3 c = rw c.in-Exit.is c.exit_row.ensures

pub client_step_spec : {M : Type 1} → statement M
client_step_spec =
    tie.close
    (tie.spec
    (λ c. search rules)
    (λ c κs. search rules)
    (λ c. search rules)
    (λ c κs. search rules)
    (λ c. search rules)
    (λ c κs. search rules)
    (λ c. search rules)
    (λ c. search rules)
    returns
    (λ c. search rules)
    (λ c. search rules)
    returns-2
    (λ c. search rules)
    (λ c. search rules)
    returns-3)
