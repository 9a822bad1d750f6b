-- `sim_changes::call_client` meets its contract: each arm is given which act it is, and its call is the act's.
use borrow.Author.Rules.{rules}
use Rattle.sim_changes.proofs.call_client.Statement.{statement}
use Rattle.sim_changes.proofs.call_client.Tie as tie

respond-row-requires : tie.Need-respond_row-requires
respond-row-requires c κs =
    rw c.in-Response.is at c.requires

check-row-requires : tie.Need-check_row-requires
check-row-requires c κs =
    rw c.in-Check.is at c.requires

returns : tie.Need-returns-in-Try
returns c =
    rw c.in-Try.is c.begin_row.ensures

returns-2 : tie.Need-returns-in-Exit
returns-2 c =
    rw c.in-Exit.is c.exit_row.ensures

returns-3 : tie.Need-returns-in-Response
returns-3 c =
    rw c.in-Response.is c.respond_row.ensures

returns-4 : tie.Need-returns-in-Check
returns-4 c =
    rw c.in-Check.is c.check_row.ensures

pub call_client_spec : {M : Type 1} → statement M
call_client_spec =
    tie.close
    (tie.spec
    (λ c. search rules)
    (λ c κs. search rules)
    (λ c. search rules)
    (λ c κs. search rules)
    (λ c. search rules)
    respond-row-requires
    (λ c. search rules)
    check-row-requires
    (λ c. search rules)
    (λ c. search rules)
    returns
    (λ c. search rules)
    (λ c. search rules)
    returns-2
    (λ c. search rules)
    (λ c. search rules)
    returns-3
    (λ c. search rules)
    (λ c. search rules)
    returns-4)
