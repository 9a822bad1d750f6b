-- `text_screen::put_report` meets its contract: five parts, one behind the other.
use Rattle.text_sheet.proofs.SheetLaws.{then}
use borrow.Author.Rules.{rules}
use Rattle.text_screen.proofs.put_report.Statement.{statement}
use Rattle.text_screen.proofs.put_report.Tie as tie

returns : tie.Need-returns
returns c =
    let three = then _ _ _ (then _ _ _ c.put_verdict-p.ensures c.put_margin-q.ensures) c.put_events-t.ensures in
    let four = then _ _ _ three c.put_fits-u.ensures in
    rw (← c.check-v.ensures.0.0, ← c.default_threshold.ensures.0) (then _ _ _ four c.put_threshold.ensures)

pub put_report_spec : {M : Type 1} → statement M
put_report_spec =
    tie.close
    (tie.spec
    (λ c κs. search rules)
    (λ c κs. search rules)
    (λ c κs. search rules)
    (λ c κs. search rules)
    (λ c κs. search rules)
    (λ c κs. search rules)
    (λ c κs. search rules)
    (λ c. search rules)
    returns)
