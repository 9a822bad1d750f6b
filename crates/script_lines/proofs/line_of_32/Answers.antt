-- A number above 65,535 is no client's and no server's.
use Rattle.std.proofs.Common.{rules, ◌≡◌, false}
use lib.Dec.{leb}
use borrow.Author.Tests.{lt-leb}
use Rattle.ids.specs.Limits.{max_short}
use Rattle.script_lines.specs.Lines.{event_of, sixteen_bits, line_of}
use Rattle.script_lines.proofs.line_of_32.Goals as goal

pub returns-in-Take : goal.returns-in-Take
unfolding event_of sixteen_bits line_of
returns-in-Take c = rw c.in-Take.is

pub returns-in-Drop : goal.returns-in-Drop
unfolding event_of sixteen_bits line_of
returns-in-Drop c = rw c.in-Drop.is

pub returns-in-Other : goal.returns-in-Other
unfolding event_of sixteen_bits line_of
returns-in-Other c = rw c.in-Other.is

pub returns-in-Try : goal.returns-in-Try
unfolding event_of sixteen_bits line_of
returns-in-Try c =
    let z : leb c.args.x max_short ≡ false = lt-leb _ _ c.requires in
    search (rules, z)

pub returns-in-Down : goal.returns-in-Down
unfolding event_of sixteen_bits line_of
returns-in-Down c =
    let z : leb c.args.x max_short ≡ false = lt-leb _ _ c.requires in
    search (rules, z)

pub returns-in-Check : goal.returns-in-Check
unfolding event_of sixteen_bits line_of
returns-in-Check c =
    let z : leb c.args.x max_short ≡ false = lt-leb _ _ c.requires in
    search (rules, z)
