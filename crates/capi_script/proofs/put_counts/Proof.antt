-- `capi_script::put_counts` meets its contract: two stores, or nothing.
use Rattle.capi_script.proofs.CallLaws.{took_counts}
use borrow.Author.Rules.{rules}
use Rattle.capi_script.proofs.put_counts.Statement.{statement}
use Rattle.capi_script.proofs.put_counts.Tie as tie

pub put_counts_spec : {M : Type 1} → statement M
put_counts_spec =
    tie.close
    (tie.spec
    (λ c. search rules)
    (λ c. search rules)
    (λ c. search rules)
    (λ c. search rules)
    (λ c. search rules)
    (λ c. took_counts c.args.counts.now _ _ _ c.in-Ok.is)
    (λ c. search rules))
