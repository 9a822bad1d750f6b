-- `text_screen::put_refused` meets its contract: three texts, one behind the other.
use Rattle.text_sheet.proofs.SheetLaws.{then}
use borrow.Author.Rules.{rules}
use Rattle.text_screen.proofs.put_refused.Statement.{statement}
use Rattle.text_screen.proofs.put_refused.Tie as tie

returns : tie.Need-returns
returns c =
    let d₄ = c.before.before in
    let d₃ = d₄.before.before.before.before.before in
    let d₂ = d₃.before.before.before.before in
    let d₁ = d₂.before in
    rw (← d₁.code_of.ensures) (then _ _ _ (then _ _ _ c.put_with-p.ensures c.put-q.ensures) c.put.ensures)

pub put_refused_spec : {M : Type 1} → statement M
put_refused_spec =
    tie.close
    (tie.spec
    (λ c κs. search rules)
    (λ c κs. search rules)
    (λ c κs. search rules)
    (λ c κs. search rules)
    (λ c. search rules)
    returns)
