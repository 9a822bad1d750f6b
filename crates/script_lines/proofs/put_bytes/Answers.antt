-- The part that is lent is written over whole.
use Rattle.std.proofs.Common.{arith, refl}
use Rattle.rows.proofs.CopyLaws.{part-whole}
use Rattle.script_lines.proofs.put_bytes.Goals as goal

pub returns : goal.returns
returns c = (refl, part-whole _ _ _ _ _ (omega arith) (omega arith) c.copy_from_slice.ensures.after)
