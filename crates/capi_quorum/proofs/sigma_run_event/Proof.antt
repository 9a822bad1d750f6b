-- `capi_quorum::sigma_run_event` meets its contract: each return is one case of the definition.
use Rattle.capi_quorum.proofs.CallLaws.{event-given, event-refused}
use mathlib.Core.List.{[]}
use borrow.Author.Rules.{rules}
use Rattle.capi_quorum.proofs.sigma_run_event.Statement.{statement}
use Rattle.capi_quorum.proofs.sigma_run_event.Tie as tie

returns : tie.Need-returns-in-Ok
returns c =
    let a = c.args in
    event-given a.n a.m a.f a.i a.words.now _ _ _ c.run_event.ensures.0 _ _ _
    c.in-Ok.is c.kind_of.ensures
    c.before.before.before.number_of.ensures c.put_two.ensures

returns-2 : tie.Need-returns-in-Err
returns-2 c =
    let a = c.args in
    event-refused a.n a.m a.f a.i a.words.now [] _ _ c.run_event.ensures.0 _ c.in-Err.is c.code_of.ensures

pub sigma_run_event_spec : {M : Type 1} → statement M
sigma_run_event_spec =
    tie.close
    (tie.spec
    (λ c κs. search rules)
    (λ c. search rules)
    (λ c κs. search rules)
    (λ c κs. search rules)
    (λ c κs. search rules)
    (λ c. search rules)
    (λ c κs. search rules)
    (λ c. search rules)
    returns
    returns-2)
