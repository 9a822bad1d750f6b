-- `capi::server_step` meets its contract: each arm is given which call it is.
use borrow.Author.Rules.{rules}
use Rattle.capi.proofs.server_step.Statement.{statement}
use Rattle.capi.proofs.server_step.Tie as tie

returns : tie.Need-returns-in-Message
returns c = rw c.in-Message.is c.message_row.ensures

returns-2 : tie.Need-returns-in-Suspect
returns-2 c = rw c.in-Suspect.is c.suspect_row.ensures

pub server_step_spec : {M : Type 1} → statement M
server_step_spec =
    tie.close
    (tie.spec
    (λ c. search rules)
    (λ c κs. search rules)
    (λ c. search rules)
    (λ c κs. search rules)
    (λ c. search rules)
    (λ c κs. search rules)
    (λ c. search rules)
    returns
    (λ c. search rules)
    returns-2
    (λ c. search rules)
    (λ c. rw c.in-Check.is c.check_row.ensures))
