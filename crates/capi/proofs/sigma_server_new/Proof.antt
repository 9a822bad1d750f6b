-- `capi::sigma_server_new` meets its contract: room, then numbers too wide for a record, then the record made.
use mathlib.Core.Path.{sym, ◌∙◌}
use native.Mathlib.Omega.{arith}
use Rattle.words.proofs.RecordsLaws.{head_small}
use Rattle.capi.proofs.NewLaws.{server_new-room, server_new-wide, server_new-done, server_new-whole}
use borrow.Author.Rules.{rules}
use Rattle.capi.proofs.sigma_server_new.Statement.{statement}
use Rattle.capi.proofs.sigma_server_new.Tie as tie

returns : tie.Need-returns-then-state-lt-SERVER_WORDS
returns c = server_new-room _ _ c.args.state.now _ c.if-state-lt-SERVER_WORDS.true c.code_of.ensures

returns-2 : tie.Need-returns-then-not-fits_head
returns-2 c =
    server_new-wide _ _ c.args.state.now c.if-state-lt-SERVER_WORDS.false _ _ c.fits_head.ensures
    c.if-not-fits_head.true c.code_of-then-not-fits_head.ensures

cast-new : tie.Need-overflow_cast-j
cast-new c = let (a, b, d) = head_small _ _ _ (sym c.fits_head.ensures ∙ c.if-not-fits_head.false) in omega arith

cast-new-2 : tie.Need-overflow_cast-n
cast-new-2 c = let (a, b, d) = head_small _ _ _ (sym c.fits_head.ensures ∙ c.if-not-fits_head.false) in omega arith

server-made-requires : tie.Need-server_made-requires
server-made-requires c κs = let w = server_new-whole _ _ _ c.new-r.ensures.0 in (c.if-state-lt-SERVER_WORDS.false, w.0, w.1)

returns-3 : tie.Need-returns
returns-3 c =
    server_new-done _ _ c.args.state.now c.if-state-lt-SERVER_WORDS.false _ _ _ c.new-r.ensures.0
    c.server_made.ensures.0 c.server_made.ensures.1

pub sigma_server_new_spec : {M : Type 1} → statement M
sigma_server_new_spec =
    tie.close
    (tie.spec
    (λ c κs. search rules)
    returns
    (λ c κs. search rules)
    (λ c κs. search rules)
    returns-2
    cast-new
    cast-new-2
    (λ c κs. search rules)
    server-made-requires
    (λ c. search rules)
    returns-3)
