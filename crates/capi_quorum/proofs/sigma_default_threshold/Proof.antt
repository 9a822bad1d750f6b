-- `capi_quorum::sigma_default_threshold` meets its contract: each return is one case of the definition.
use Rattle.capi_quorum.proofs.CallLaws.{threshold_short, threshold_given, threshold_refused}
use borrow.Author.Rules.{rules}
use Rattle.capi_quorum.proofs.sigma_default_threshold.Statement.{statement}
use Rattle.capi_quorum.proofs.sigma_default_threshold.Tie as tie

returns : tie.Need-returns-then-words-lt1
returns c =
    let a = c.args in
    threshold_short a.n a.words.now _ c.default_threshold.ensures.0 _ _ c.in-Some.is
    c.if-words-lt1.true c.code_of.ensures

returns-2 : tie.Need-returns-else-words-lt1
returns-2 c =
    let a = c.args in
    threshold_given a.n a.words.now _ c.default_threshold.ensures.0 _ c.in-Some.is c.if-words-lt1.false

returns-3 : tie.Need-returns-in-None
returns-3 c =
    let a = c.args in
    threshold_refused a.n a.words.now _ c.default_threshold.ensures.0 _ c.in-None.is c.code_of-in-None.ensures

pub sigma_default_threshold_spec : {M : Type 1} → statement M
sigma_default_threshold_spec =
    tie.close
    (tie.spec
    (λ c κs. search rules)
    (λ c. search rules)
    (λ c κs. search rules)
    returns
    (λ c. search rules)
    (λ c. search rules)
    (λ c κs. search rules)
    (λ c. search rules)
    returns-2
    returns-3)
