-- `script_stream::finish` meets its contract: what the end wrote lies within the buffer, and the state is closed.
use Rattle.std.proofs.Common.{arith}
use Rattle.script.proofs.CallLaws.{end_wrote}
use Rattle.script_stream.proofs.finish.Goals as goal

pub slice_bounds-write_out-end : goal.slice_bounds-write_out-end
slice_bounds-write_out-end g c =
    omega (arith, end_wrote c.args.w.now c.args.out.now _ _ _ c.requires.0 c.requires.1 c.finish.ensures.value _ _ c.in-Ok.is)
