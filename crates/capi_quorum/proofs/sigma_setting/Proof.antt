-- `capi_quorum::sigma_setting` meets its contract: each return is one case of the definition.
use Rattle.capi_quorum.proofs.CallLaws.{setting-accepted, setting-unsafe, setting-stalls, setting-refused}
use mathlib.Core.List.{[]}
use borrow.Author.Rules.{rules}
use Rattle.capi_quorum.proofs.sigma_setting.Statement.{statement}
use Rattle.capi_quorum.proofs.sigma_setting.Tie as tie

returns : tie.Need-returns-in-Accepted
returns c =
    let a = c.args in
    setting-accepted a.n a.m a.f a.words.now _ _ _ c.check-v.ensures.0 _ _
    c.in-Accepted.is c.signed_word.ensures
    c.put_two.ensures

returns-2 : tie.Need-returns-in-Unsafe
returns-2 c =
    let a = c.args in
    setting-unsafe a.n a.m a.f a.words.now _ _ _ c.check-v.ensures.0 _ _ _ _
    c.in-Unsafe.is c.signed_word-in-Unsafe.ensures
    c.before.before.before.code_of.ensures c.put_two-in-Unsafe.ensures

returns-3 : tie.Need-returns-in-Stalls
returns-3 c =
    let a = c.args in
    setting-stalls a.n a.m a.f a.words.now _ _ _ c.check-v.ensures.0 _ _ _
    c.in-Stalls.is c.signed_word-in-Stalls.ensures
    c.code_of-in-Stalls.ensures c.put_two-in-Stalls.ensures

returns-4 : tie.Need-returns-in-OutOfRange
returns-4 c =
    let a = c.args in
    setting-refused a.n a.m a.f a.words.now [] _ _ c.check-v.ensures.0 c.in-OutOfRange.is c.code_of-in-OutOfRange.ensures

pub sigma_setting_spec : {M : Type 1} → statement M
sigma_setting_spec =
    tie.close
    (tie.spec
    (λ c κs. search rules)
    (λ c. search rules)
    (λ c κs. search rules)
    (λ c κs. search rules)
    (λ c. search rules)
    (λ c κs. search rules)
    (λ c κs. search rules)
    (λ c κs. search rules)
    (λ c. search rules)
    (λ c κs. search rules)
    (λ c κs. search rules)
    (λ c κs. search rules)
    (λ c. search rules)
    (λ c κs. search rules)
    (λ c. search rules)
    returns
    (λ c. search rules)
    returns-2
    (λ c. search rules)
    returns-3
    returns-4)
