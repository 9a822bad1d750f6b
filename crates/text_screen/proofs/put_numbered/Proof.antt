-- `text_screen::put_numbered` meets its contract: the event, if the run has one of this number.
use Rattle.text_screen.specs.Screen.{asked_text}
use Rattle.text_sheet.specs.Sheet.{puts}
use borrow.Author.Rules.{rules}
use Rattle.text_screen.proofs.put_numbered.Statement.{statement}
use Rattle.text_screen.proofs.put_numbered.Tie as tie

returns : tie.Need-returns-in-Ok
unfolding asked_text
returns c =
    rw (← c.run_event.ensures.0, c.in-Ok.is)
    c.put_event.ensures

returns-2 : tie.Need-returns-in-Err
unfolding asked_text puts
returns-2 c = rw (← c.run_event.ensures.0, c.in-Err.is)

pub put_numbered_spec : {M : Type 1} → statement M
put_numbered_spec =
    tie.close
    (tie.spec
    (λ c κs. search rules)
    (λ c. search rules)
    (λ c κs. search rules)
    (λ c. search rules)
    (λ c. search rules)
    returns
    returns-2)
