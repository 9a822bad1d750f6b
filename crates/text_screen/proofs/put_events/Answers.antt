-- Only an unsafe setting has a run.
use Rattle.std.proofs.Common.{rules}
use Rattle.text_screen.specs.Screen.{events_text}
use Rattle.text_sheet.specs.Sheet.{puts}
use Rattle.text_screen.proofs.put_events.Goals as goal

pub returns-in-Unsafe : goal.returns-in-Unsafe
unfolding events_text
returns-in-Unsafe c = rw c.in-Unsafe.is c.put_count.ensures

pub returns-in-Accepted : goal.returns-in-Accepted
unfolding events_text puts
returns-in-Accepted c = search rules
