-- `slips::line_behind` meets its contract: the line's end is not before `from`, and not behind the part.
use Rattle.std.proofs.Common.{arith}
use Rattle.text_sheet.proofs.LineLaws.{end_behind, end_within}
use Rattle.slips.proofs.line_behind.Goals as goal

pub returns-then-end-part : goal.returns-then-end-part
returns-then-end-part c =
    let e = c.line_end-end.ensures in
    (omega (arith, e, end_behind c.args.part.now c.args.from (omega (arith, c.requires))), omega (arith, e, c.if-end-part.true))

pub returns : goal.returns
returns c =
    let e = c.line_end-end.ensures in
    (omega (arith, e, c.requires, c.if-end-part.false), omega (arith, e, end_within c.args.part.now c.args.from))
