-- `sim_changes::call_server` meets its contract: each arm is given which act it is, and its call is the act's.
use borrow.Author.Rules.{rules}
use Rattle.sim_changes.proofs.call_server.Statement.{statement}
use Rattle.sim_changes.proofs.call_server.Tie as tie

returns : tie.Need-returns-in-Check
returns c = rw c.in-Check.is c.check_row.ensures

returns-2 : tie.Need-returns-in-Suspect
returns-2 c =
    rw c.in-Suspect.is c.suspect_row.ensures

returns-3 : tie.Need-returns-in-Take
returns-3 c =
    rw c.in-Take.is c.take_row.ensures

pub call_server_spec : {M : Type 1} → statement M
call_server_spec =
    tie.close
    (tie.spec
    (λ c. search rules)
    (λ c κs. search rules)
    (λ c. search rules)
    (λ c κs. search rules)
    (λ c. search rules)
    (λ c κs. search rules)
    (λ c. search rules)
    returns
    (λ c. search rules)
    returns-2
    (λ c. search rules)
    returns-3)
