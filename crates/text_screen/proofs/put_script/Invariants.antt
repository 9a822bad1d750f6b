-- The invariant: the events before number i stand behind the first line.
use Rattle.std.proofs.Common.{◌≡◌, ◌+◌, ◌-◌, ◌≤◌}
use Rattle.text_sheet.specs.Sheet.{sheet, puts}
use Rattle.text_screen.specs.Screen.{run_text}
use Rattle.text_screen.proofs.put_script.Given as goal

abbrev pub invariant-loop-i : goal.invariant-loop-i
invariant-loop-i l = record {
  within : l.i ≤ l.events + 1;
  done : sheet l.out l.at ≡ puts (run_text l.n l.m l.f (l.i - 1)) (sheet l.initial.out l.initial.at);
}
