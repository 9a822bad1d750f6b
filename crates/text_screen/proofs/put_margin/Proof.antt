-- `text_screen::put_margin` meets its contract: the margin is the difference of 2 m and n + f.
use native.Mathlib.Omega.{arith}
use Rattle.text_sheet.proofs.SheetLaws.{then}
use Rattle.text_screen.proofs.ScreenLaws.{margin-none, margin_some}
use Rattle.quorum.proofs.ReturnLaws.{in_bounds}
use Rattle.text_sheet.specs.Sheet.{puts}
use borrow.Author.Rules.{rules}
use Rattle.text_screen.proofs.put_margin.Statement.{statement}
use Rattle.text_screen.proofs.put_margin.Tie as tie

returns : tie.Need-returns-then-not-in_range
unfolding puts
returns c =
    let x = c.args in
    rw (margin-none x.n x.m x.f _ c.before.in_range.ensures c.if-not-in_range.true)

mul-put-difference : tie.Need-overflow_mul-m
mul-put-difference c =
    let e = c.before in
    let x = c.args in
    omega (arith, in_bounds x.n x.m x.f _ e.before.in_range.ensures c.if-not-in_range.false)

add-put-difference : tie.Need-overflow_add-n
add-put-difference c =
    let e = c.before in
    let x = c.args in
    omega (arith, in_bounds x.n x.m x.f _ e.before.in_range.ensures c.if-not-in_range.false)

returns-2 : tie.Need-returns
returns-2 c =
    let d₂ = c.before.before in
    let d₁ = d₂.before.before.before.before.before in
    let e = d₁.before.before in
    let x = c.args in
    rw (margin_some x.n x.m x.f _ e.before.in_range.ensures c.if-not-in_range.false)
    (then _ _ _ c.put_difference-p.ensures c.put.ensures)

pub put_margin_spec : {M : Type 1} → statement M
put_margin_spec =
    tie.close
    (tie.spec
    (λ c κs. search rules)
    returns
    mul-put-difference
    add-put-difference
    (λ c κs. search rules)
    (λ c κs. search rules)
    (λ c. search rules)
    returns-2)
