-- A number of 16 bits is within every limit.
use Rattle.std.proofs.Common.{arith}
use borrow.Author.Tests.{le-leb}
use Rattle.ids.specs.Limits.{max_short}
use Rattle.script_lines.specs.Lines.{event_of, sixteen_bits, line_of}
use Rattle.script_lines.proofs.line_of_16.Goals as goal

pub returns-in-Try : goal.returns-in-Try
unfolding event_of sixteen_bits line_of
returns-in-Try c = rw (c.in-Try.is, le-leb c.args.x max_short (omega arith))

pub returns-in-Exit : goal.returns-in-Exit
unfolding event_of sixteen_bits line_of
returns-in-Exit c = rw (c.in-Exit.is, le-leb c.args.x max_short (omega arith))

pub returns-in-Fall : goal.returns-in-Fall
unfolding event_of sixteen_bits line_of
returns-in-Fall c = rw (c.in-Fall.is, le-leb c.args.x max_short (omega arith))

pub returns-in-Down : goal.returns-in-Down
unfolding event_of sixteen_bits line_of
returns-in-Down c = rw (c.in-Down.is, le-leb c.args.x max_short (omega arith))

pub returns-in-Up : goal.returns-in-Up
unfolding event_of sixteen_bits line_of
returns-in-Up c = rw (c.in-Up.is, le-leb c.args.x max_short (omega arith))

pub returns-in-Take : goal.returns-in-Take
unfolding event_of sixteen_bits line_of
returns-in-Take c = rw c.in-Take.is

pub returns-in-Drop : goal.returns-in-Drop
unfolding event_of sixteen_bits line_of
returns-in-Drop c = rw c.in-Drop.is

pub returns-in-Miss : goal.returns-in-Miss
unfolding event_of sixteen_bits line_of
returns-in-Miss c = rw (c.in-Miss.is, le-leb c.args.x max_short (omega arith))

pub returns-in-Check : goal.returns-in-Check
unfolding event_of sixteen_bits line_of
returns-in-Check c = rw (c.in-Check.is, le-leb c.args.x max_short (omega arith))

pub returns-in-Other : goal.returns-in-Other
unfolding event_of sixteen_bits line_of
returns-in-Other c = rw c.in-Other.is
