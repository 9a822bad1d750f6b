-- `text_screen::put_proposal` meets its contract: two lines, one behind the other.
use Rattle.text_sheet.proofs.SheetLaws.{then}
use borrow.Author.Rules.{rules}
use Rattle.text_screen.proofs.put_proposal.Statement.{statement}
use Rattle.text_screen.proofs.put_proposal.Tie as tie

returns : tie.Need-returns
returns c =
    rw (← c.propose.ensures.0.0, ← c.default_threshold.ensures.0)
    (then _ _ _ c.put_thresholds-p.ensures c.put_threshold.ensures)

pub put_proposal_spec : {M : Type 1} → statement M
put_proposal_spec =
    tie.close
    (tie.spec
    (λ c κs. search rules)
    (λ c κs. search rules)
    (λ c κs. search rules)
    (λ c κs. search rules)
    (λ c. search rules)
    returns)
