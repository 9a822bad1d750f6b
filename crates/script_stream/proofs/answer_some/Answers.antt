-- `script_stream::answer_some` meets its contract: the call is not refused, so what it wrote lies within the buffer; what it leaves does not
-- hang on the writing.
use Rattle.std.proofs.Common.{arith}
use Rattle.script.proofs.CallLaws.{fed-used, fed_wrote, took_used}
use Rattle.script_stream.proofs.answer_some.Goals as goal

pub slice_bounds-write_out-end : goal.slice_bounds-write_out-end
slice_bounds-write_out-end g c =
    omega (arith, fed_wrote c.args.w.now c.args.part.now c.args.out.now _ _ _ c.requires.0 c.requires.1 c.feed.ensures.value _ _ c.in-Ok.is)

pub returns-then-write_out : goal.returns-then-write_out
returns-then-write_out g c = (
  fed-used c.args.w.now c.args.part.now c.args.out.now _ _ _ c.requires.0 c.requires.1 c.feed.ensures.value _ _ c.in-Ok.is,
  c.feed.ensures.value.1,
  λ z. took_used c.args.w.now c.args.part.now c.args.out.now _ _ _ c.requires.0 c.requires.1 c.feed.ensures.value _ _ c.in-Ok.is,
)
