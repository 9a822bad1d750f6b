-- No event, one more, and all of them: the loop may end behind the last number or at it.
use Rattle.std.proofs.Common.{arith, refl, ◌≡◌, ◌-◌}
use Rattle.text_sheet.specs.Sheet.{puts}
use Rattle.text_sheet.proofs.SheetLaws.{then}
use Rattle.text_screen.specs.Screen.{run_text}
use Rattle.text_screen.proofs.ScreenLaws.{one_more}
use Rattle.text_screen.proofs.put_script.Goals as goal

pub loop-i-init : goal.loop-i-init
unfolding run_text puts
loop-i-init c = record { within = omega arith; done = refl }

pub loop-i-preserved : goal.loop-i-preserved
loop-i-preserved c = record { within = omega arith; done = one_more _ _ _ c.loop-i.i _ _ c.loop-i.auto.i (omega arith) c.loop-i.invariant.done c.put_numbered-at.ensures }

pub returns : goal.returns
returns c =
    let e : c.loop-i.i - 1 ≡ c.args.events = omega arith in
    rw (← e) (then _ _ _ c.put_opening-at.ensures c.loop-i.invariant.done)

pub returns-2 : goal.returns-2
returns-2 c =
    then _ _ _ c.put_opening-at.ensures (one_more _ _ _ c.loop-i.i c.args.events _ c.loop-i.auto.i (omega arith) c.loop-i.invariant.done c.put_numbered-at.ensures)
