-- `capi::sigma_client_new` meets its contract: room, then numbers too wide for a record, then the record made.
use mathlib.Core.Path.{sym, ◌∙◌}
use native.Mathlib.Omega.{arith}
use Rattle.words.proofs.RecordsLaws.{head_small}
use Rattle.capi.proofs.NewLaws.{client_new-room, client_new-wide, client_new-done, client_new-whole}
use borrow.Author.Rules.{rules}
use Rattle.capi.proofs.sigma_client_new.Statement.{statement}
use Rattle.capi.proofs.sigma_client_new.Tie as tie

returns : tie.Need-returns-then-state-lt-CLIENT_WORDS
returns c = client_new-room _ _ _ c.args.state.now _ c.if-state-lt-CLIENT_WORDS.true c.code_of.ensures

returns-2 : tie.Need-returns-then-not-fits_head
returns-2 c =
    client_new-wide _ _ _ c.args.state.now c.if-state-lt-CLIENT_WORDS.false _ _ c.fits_head.ensures
    c.if-not-fits_head.true c.code_of-then-not-fits_head.ensures

cast-new : tie.Need-overflow_cast-k
cast-new c = let (a, b, d) = head_small _ _ _ (sym c.fits_head.ensures ∙ c.if-not-fits_head.false) in omega arith

cast-new-2 : tie.Need-overflow_cast-n
cast-new-2 c = let (a, b, d) = head_small _ _ _ (sym c.fits_head.ensures ∙ c.if-not-fits_head.false) in omega arith

cast-new-3 : tie.Need-overflow_cast-m
cast-new-3 c = let (a, b, d) = head_small _ _ _ (sym c.fits_head.ensures ∙ c.if-not-fits_head.false) in omega arith

returns-3 : tie.Need-returns
returns-3 c =
    client_new-done _ _ _ c.args.state.now c.if-state-lt-CLIENT_WORDS.false _ _ _ c.new-r.ensures.0
    c.client_made.ensures.0 c.client_made.ensures.1

pub sigma_client_new_spec : {M : Type 1} → statement M
sigma_client_new_spec =
    tie.close
    (tie.spec
    (λ c κs. search rules)
    returns
    (λ c κs. search rules)
    (λ c κs. search rules)
    returns-2
    cast-new
    cast-new-2
    cast-new-3
    (λ c κs. search rules)
    (λ c κs. search client_new-whole)
    (λ c. search rules)
    returns-3)
