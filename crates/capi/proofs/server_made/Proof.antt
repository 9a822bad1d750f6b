-- `capi::server_made` meets its contract: each arm is given which answer it is.
use borrow.Author.Rules.{rules}
use Rattle.capi.proofs.server_made.Statement.{statement}
use Rattle.capi.proofs.server_made.Tie as tie

returns : tie.Need-returns-in-Ok
returns c =
    (rw c.in-Ok.is, rw c.in-Ok.is c.put_server.ensures)

returns-2 : tie.Need-returns-in-Err
returns-2 c = (rw c.in-Err.is c.code_of.ensures, rw c.in-Err.is)

pub server_made_spec : {M : Type 1} → statement M
server_made_spec =
    tie.close
    (tie.spec
    (λ c. search rules)
    (λ c. search rules)
    (λ c κs. search rules)
    (λ c. search rules)
    (λ c κs. search rules)
    (λ c. search rules)
    returns
    returns-2)
