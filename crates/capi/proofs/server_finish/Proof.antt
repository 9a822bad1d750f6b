-- `capi::server_finish` meets its contract: each arm is given what was ruled.
use mathlib.Core.Path.{refl}
use Rattle.capi.proofs.StepLaws.{refused_leaves}
use borrow.Author.Rules.{rules}
use Rattle.capi.proofs.server_finish.Statement.{statement}
use Rattle.capi.proofs.server_finish.Tie as tie

server-send-requires : tie.Need-server_send-requires
server-send-requires c κs = (
  c.requires.0,
  c.requires.1 c.in-Ok.is,
)

returns : tie.Need-returns-in-Ok
returns c = rw c.in-Ok.is
    c.server_send.ensures

returns-2 : tie.Need-returns-in-Err
returns-2 c =
    rw c.in-Err.is (refused_leaves _ _ _ c.args.state.now c.args.out.now c.args.sent.now refl c.code_of.ensures)

pub server_finish_spec : {M : Type 1} → statement M
server_finish_spec =
    tie.close
    (tie.spec
    (λ c. search rules)
    server-send-requires
    (λ c. search rules)
    (λ c κs. search rules)
    (λ c. search rules)
    (λ c. search rules)
    (λ c. search rules)
    returns
    returns-2)
