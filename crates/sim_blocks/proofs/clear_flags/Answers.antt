-- The part that is filled with zeros comes back in its place.
use Rattle.std.proofs.Common.{◌≡◌, replicate, arith, rules}
use Rattle.rows.proofs.CopyLaws.{part-whole}
use Rattle.system.specs.Limits.{system_servers}
use Rattle.sim_blocks.specs.Blocks.{cleared, flags_from}
use Rattle.sim_blocks.proofs.clear_flags.Goals as goal

pub returns : goal.returns
unfolding cleared
returns c =
    let e : c.fill.new.self ≡ replicate system_servers 0 = search rules in
    part-whole c.args.b.now _ (replicate system_servers 0) flags_from system_servers (omega arith) (omega arith) e
