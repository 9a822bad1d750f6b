-- `text_screen::put_event` meets its contract: the front of the small buffer is the line.
use native.Mathlib.Omega.{arith}
use Prim.Native.Nat.{◌≤◌}
use lib.ListN.{length}
use Rattle.script_lines.specs.Printed.{event_line}
use Rattle.script_lines.proofs.EventTrip.{event-short}
use Rattle.text_sheet.proofs.SheetLaws.{then, put_front}
use borrow.Author.Rules.{rules}
use Rattle.text_screen.proofs.put_event.Statement.{statement}
use Rattle.text_screen.proofs.put_event.Tie as tie

-- the event's number has 32 bits
module _ (c : tie.After-number_of) where
  short : length (event_line c.args.e) ≤ 16
  short = event-short c.args.e (omega (arith, c.number_of.ensures))

returns : tie.Need-returns
returns c =
    then _ _ _ (put_front _ _ (event_line c.args.e) _ (short c.before.before.before.before.before.before.before.before.before.before.before.before.before.before) c.put_event-n.ensures _ _ c.put-p.ensures) c.put.ensures

pub put_event_spec : {M : Type 1} → statement M
put_event_spec =
    tie.close
    (tie.spec
    (λ c κs. search rules)
    (λ c. search rules)
    (λ c κs. omega (arith, short c.before))
    (λ c. search rules)
    (λ c. search rules)
    (λ c. omega (arith, short c.before.before.before.before, c.put_event-n.ensures.0))
    (λ c κs. search rules)
    (λ c κs. search rules)
    (λ c. search rules)
    returns)
