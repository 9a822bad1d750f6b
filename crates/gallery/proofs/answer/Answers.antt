-- `gallery::answer` meets its contract: what was read lies within the part and is taken in.
use Rattle.script_stream.proofs.ReadLaws.{answered, answered-taken}
use Rattle.gallery.proofs.answer.Goals as goal

pub returns-in-Bytes : goal.returns-in-Bytes
returns-in-Bytes g c =
    let s = c.answer_part.ensures in
    (s.again, λ z. answered c.args.w.now c.args.part.now _ c.args.input _ c.in-Bytes.is (answered-taken s z))
