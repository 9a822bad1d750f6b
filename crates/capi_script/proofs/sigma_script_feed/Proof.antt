-- `capi_script::sigma_script_feed` meets its contract: a call without room, or the script's own.
use Rattle.capi_script.proofs.CallLaws.{feed_short, feed_lent}
use borrow.Author.Rules.{rules}
use Rattle.capi_script.proofs.sigma_script_feed.Statement.{statement}
use Rattle.capi_script.proofs.sigma_script_feed.Tie as tie

returns : tie.Need-returns-then-counts-lt2
returns c =
    let a = c.args in
    feed_short a.state.now a.out.now a.counts.now _ a.input.now c.if-counts-lt2.true c.short_number.ensures

returns-2 : tie.Need-returns
returns-2 c =
    let a = c.args in
    feed_lent a.state.now a.out.now a.counts.now _ c.if-counts-lt2.false _ _ _ _ c.put_counts.ensures c.number_of.ensures
    a.input.now c.feed-p.ensures.0

pub sigma_script_feed_spec : {M : Type 1} → statement M
sigma_script_feed_spec =
    tie.close
    (tie.spec
    (λ c κs. search rules)
    (λ c. search rules)
    returns
    (λ c κs. search rules)
    (λ c κs. search rules)
    (λ c κs. search rules)
    (λ c. search rules)
    (λ c. search rules)
    (λ c. search rules)
    returns-2)
