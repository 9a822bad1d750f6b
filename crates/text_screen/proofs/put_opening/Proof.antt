-- `text_screen::put_opening` meets its contract: the front of the small buffer is the line.
use native.Mathlib.Omega.{arith}
use Prim.Native.Nat.{◌≤◌}
use lib.ListN.{length}
use Rattle.script_lines.specs.Printed.{setting_line}
use Rattle.system.specs.declared.Setting.{Setting}
use Rattle.text_screen.specs.Screen.{opening}
use Rattle.text_screen.proofs.ScreenLaws.{opening-short}
use Rattle.text_sheet.proofs.SheetLaws.{then, put_front}
use borrow.Author.Rules.{rules}
use Rattle.text_screen.proofs.put_opening.Statement.{statement}
use Rattle.text_screen.proofs.put_opening.Tie as tie

-- at entry the numbers have 32 bits
module _ (c : tie.Start) where
  abbrev first : Setting
  first = opening c.args.n c.args.m c.args.f

  short : length (setting_line first) ≤ 51
  short = opening-short c.args.n c.args.m c.args.f (omega arith) (omega arith) (omega arith)

returns : tie.Need-returns
returns c =
    then _ _ _ (put_front _ _ (setting_line (first c.before.before.before.before.before.before.before.before.before.before.before.before.before.before.before)) _ (short c.before.before.before.before.before.before.before.before.before.before.before.before.before.before.before) c.put_setting-k.ensures _ _ c.put-p.ensures) c.put.ensures

pub put_opening_spec : {M : Type 1} → statement M
put_opening_spec =
    tie.close
    (tie.spec
    (λ c. search rules)
    (λ c κs. omega (arith, short c.before.before))
    (λ c. search rules)
    (λ c. search rules)
    (λ c. omega (arith, short c.before.before.before.before.before, c.put_setting-k.ensures.0))
    (λ c κs. search rules)
    (λ c κs. search rules)
    (λ c. search rules)
    returns)
