-- `text_screen::put_limit` meets its contract: nothing where a simulation has so many servers, else three texts with the limit among them.
use Rattle.text_sheet.specs.Sheet.{puts}
use Rattle.text_sheet.proofs.SheetLaws.{then}
use Rattle.text_screen.proofs.ScreenLaws.{limit_none, limit_said}
use borrow.Author.Rules.{rules}
use Rattle.text_screen.proofs.put_limit.Statement.{statement}
use Rattle.text_screen.proofs.put_limit.Tie as tie

returns : tie.Need-returns-then-n-le-MAX_SERVERS
unfolding puts
returns c = rw (limit_none _ c.if-n-le-MAX_SERVERS.true)

returns-2 : tie.Need-returns
returns-2 c =
    rw (limit_said _ c.if-n-le-MAX_SERVERS.false) (then _ _ _ (then _ _ _ c.put_with-p.ensures c.put-q.ensures) c.put.ensures)

pub put_limit_spec : {M : Type 1} → statement M
put_limit_spec =
    tie.close
    (tie.spec
    returns
    (λ c κs. search rules)
    (λ c κs. search rules)
    (λ c κs. search rules)
    (λ c. search rules)
    returns-2)
