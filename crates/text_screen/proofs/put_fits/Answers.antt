-- Only an unsafe setting has a run.
use Rattle.std.proofs.Common.{rules}
use Rattle.text_screen.specs.Screen.{fits_text}
use Rattle.text_sheet.specs.Sheet.{puts}
use Rattle.text_screen.proofs.put_fits.Goals as goal

pub returns-in-Unsafe : goal.returns-in-Unsafe
unfolding fits_text
returns-in-Unsafe c = rw c.in-Unsafe.is c.put_limit.ensures

pub returns-in-Accepted : goal.returns-in-Accepted
unfolding fits_text puts
returns-in-Accepted c = search rules
