-- `text_screen::put_verdict` meets its contract: each verdict has its text.
use Rattle.text_screen.specs.Screen.{verdict_text}
use borrow.Author.Rules.{rules}
use Rattle.text_screen.proofs.put_verdict.Statement.{statement}
use Rattle.text_screen.proofs.put_verdict.Tie as tie

returns : tie.Need-returns-in-Accepted
unfolding verdict_text
returns c = rw c.in-Accepted.is c.put.ensures

returns-2 : tie.Need-returns-in-Unsafe
unfolding verdict_text
returns-2 c = rw c.in-Unsafe.is c.before.before.put_refused.ensures

returns-3 : tie.Need-returns-in-Stalls
unfolding verdict_text
returns-3 c = rw c.in-Stalls.is c.put_refused-in-Stalls.ensures

returns-4 : tie.Need-returns-in-OutOfRange
unfolding verdict_text
returns-4 c = rw c.in-OutOfRange.is c.put_refused-in-OutOfRange.ensures

pub put_verdict_spec : {M : Type 1} → statement M
put_verdict_spec =
    tie.close
    (tie.spec
    (λ c. search rules)
    (λ c κs. search rules)
    (λ c. search rules)
    (λ c κs. search rules)
    (λ c. search rules)
    (λ c κs. search rules)
    (λ c. search rules)
    (λ c κs. search rules)
    (λ c. search rules)
    returns
    (λ c. search rules)
    returns-2
    (λ c. search rules)
    returns-3
    (λ c. search rules)
    returns-4)
