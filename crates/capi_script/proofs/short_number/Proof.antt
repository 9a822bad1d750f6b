-- `capi_script::short_number` meets its contract: words that are not valid are refused before the room.
use Rattle.capi_script.proofs.CallLaws.{short-valid, short_invalid}
use borrow.Author.Rules.{rules}
use Rattle.capi_script.proofs.short_number.Statement.{statement}
use Rattle.capi_script.proofs.short_number.Tie as tie

returns : tie.Need-returns-then-valid
returns c =
    short-valid c.args.state.now _ c.valid.ensures _ c.if-valid.true c.code_of.ensures

returns-2 : tie.Need-returns
returns-2 c =
    short_invalid c.args.state.now _ c.valid.ensures _ c.if-valid.false c.code_of-2.ensures

pub short_number_spec : {M : Type 1} → statement M
short_number_spec =
    tie.close
    (tie.spec
    (λ c κs. search rules)
    (λ c κs. search rules)
    returns
    (λ c κs. search rules)
    returns-2)
