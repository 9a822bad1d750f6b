-- `capi_script::sigma_script_new` meets its contract: the number of what the script's own call gives.
use Rattle.capi_script.proofs.CallLaws.{new_done}
use borrow.Author.Rules.{rules}
use Rattle.capi_script.proofs.sigma_script_new.Statement.{statement}
use Rattle.capi_script.proofs.sigma_script_new.Tie as tie

returns : tie.Need-returns
returns c =
    new_done c.args.state.now _ _ _ c.new-p.ensures.0 c.number_of.ensures

pub sigma_script_new_spec : {M : Type 1} → statement M
sigma_script_new_spec =
    tie.close
    (tie.spec
    (λ c κs. search rules)
    (λ c κs. search rules)
    (λ c. search rules)
    returns)
