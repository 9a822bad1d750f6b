-- `text_screen::put_thresholds` meets its contract: each proposal has its line.
use Rattle.text_screen.specs.Screen.{thresholds_text}
use borrow.Author.Rules.{rules}
use Rattle.text_screen.proofs.put_thresholds.Statement.{statement}
use Rattle.text_screen.proofs.put_thresholds.Tie as tie

returns : tie.Need-returns-in-Thresholds
unfolding thresholds_text
returns c =
    rw c.in-Thresholds.is c.put_counts.ensures

returns-2 : tie.Need-returns-in-NoThreshold
unfolding thresholds_text
returns-2 c = rw c.in-NoThreshold.is c.put.ensures

returns-3 : tie.Need-returns-in-OutOfRange
unfolding thresholds_text
returns-3 c = rw c.in-OutOfRange.is c.before.before.put_refused.ensures

pub put_thresholds_spec : {M : Type 1} → statement M
put_thresholds_spec =
    tie.close
    (tie.spec
    (λ c. search rules)
    (λ c κs. search rules)
    (λ c. search rules)
    (λ c κs. search rules)
    (λ c. search rules)
    (λ c κs. search rules)
    (λ c. search rules)
    returns
    (λ c. search rules)
    returns-2
    (λ c. search rules)
    returns-3)
