-- `script::keep` meets its contract: a line of 41 bytes stays, another gets one more.
use native.Mathlib.Omega.{arith}
use Rattle.script.proofs.LineLaws.{keep_full, keep_more}
use borrow.Author.Rules.{rules}
use Rattle.script.proofs.keep.Statement.{statement}
use Rattle.script.proofs.keep.Tie as tie

returns : tie.Need-returns-then-len-ge-MAX_KEPT
returns c =
    let a = c.args in
    keep_full a.w.now a.b c.requires c.if-len-ge-MAX_KEPT.true

returns-2 : tie.Need-returns
returns-2 c =
    let a = c.args in
    keep_more a.w.now a.b c.requires c.if-len-ge-MAX_KEPT.false (omega arith)

pub keep_spec : {M : Type 1} → statement M
keep_spec =
    tie.close
    (tie.spec
    (λ c. search rules)
    returns
    (λ c. search rules)
    (λ c. search rules)
    (λ c. search rules)
    (λ c. search rules)
    (λ c. search rules)
    (λ c. search rules)
    (λ c. search rules)
    returns-2)
