-- The library's four bytes are `little_endian`'s, and copying them is a run of stores.
use Rattle.std.proofs.Common.{arith, ◌∙◌}
use Rattle.wire.proofs.BytesLaws.{four_bytes, copied}
use Rattle.wire.proofs.put32.Goals as goal

pub returns : goal.returns
returns c =
    copied c.args.out.now _ _ c.args.at _ (omega arith) (c.copy_from_slice.ensures.after ∙ c.to_le_bytes.ensures ∙ four_bytes c.args.x) c.requires
