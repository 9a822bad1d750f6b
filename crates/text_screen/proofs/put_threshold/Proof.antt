-- `text_screen::put_threshold` meets its contract: a number out of range has none.
use Rattle.text_screen.specs.Screen.{threshold_text}
use Rattle.text_sheet.specs.Sheet.{puts}
use borrow.Author.Rules.{rules}
use Rattle.text_screen.proofs.put_threshold.Statement.{statement}
use Rattle.text_screen.proofs.put_threshold.Tie as tie

returns : tie.Need-returns-in-Some
unfolding threshold_text
returns c =
    rw (c.in-Some.is, ← c.most_faults.ensures.0) c.put_counts.ensures

pub put_threshold_spec : {M : Type 1} → statement M
unfolding threshold_text puts
put_threshold_spec =
    tie.close
    (tie.spec
    (λ c. search rules)
    (λ c κs. search rules)
    (λ c κs. search rules)
    (λ c. search rules)
    (λ c. search rules)
    returns
    (λ c. rw c.in-None.is))
