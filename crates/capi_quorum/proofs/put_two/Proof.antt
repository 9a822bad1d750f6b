-- `capi_quorum::put_two` meets its contract: each return is one case of the definition.
use Rattle.capi_quorum.proofs.CallLaws.{two-short, two-done}
use borrow.Author.Rules.{rules}
use Rattle.capi_quorum.proofs.put_two.Statement.{statement}
use Rattle.capi_quorum.proofs.put_two.Tie as tie

returns : tie.Need-returns-then-words-lt2
returns c =
    let a = c.args in
    two-short a.words.now a.a a.b a.code _ c.if-words-lt2.true c.code_of.ensures

returns-2 : tie.Need-returns
returns-2 c =
    let a = c.args in
    two-done a.words.now a.a a.b a.code c.if-words-lt2.false

pub put_two_spec : {M : Type 1} → statement M
put_two_spec =
    tie.close
    (tie.spec
    (λ c κs. search rules)
    returns
    (λ c. search rules)
    (λ c. search rules)
    (λ c. search rules)
    returns-2)
