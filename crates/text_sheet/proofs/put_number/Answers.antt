-- `text_sheet::put_number` meets its contract: the front of the digits' bytes is the number.
use native.Mathlib.Omega.{arith}
use Rattle.script_numbers.specs.Decimals.{decimal}
use Rattle.script_numbers.proofs.DecimalLaws.{decimal-short}
use Rattle.text_sheet.proofs.SheetLaws.{put_front}
use Rattle.text_sheet.proofs.put_number.Goals as goal

pub put_decimal-n-requires : goal.put_decimal-n-requires
put_decimal-n-requires c =
    let short = decimal-short c.args.x (omega arith) in
    omega (arith, short)

pub slice_bounds-put-end : goal.slice_bounds-put-end
slice_bounds-put-end c =
    let short = decimal-short c.args.x (omega arith) in
    omega (arith, short, c.put_decimal-n.ensures.0)

pub returns : goal.returns
returns c =
    let short = decimal-short c.args.x (omega arith) in
    put_front _ _ (decimal c.args.x) _ short c.put_decimal-n.ensures _ _ c.put.ensures
