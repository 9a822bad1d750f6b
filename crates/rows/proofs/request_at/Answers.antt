-- The place's two words, of which the client's is small.
use native.Mathlib.Numerals.{add-one}
use Rattle.std.proofs.Common.{arith, sym}
use Rattle.rows.proofs.WordLaws.{requests-at, client-small}
use Rattle.rows.proofs.request_at.Goals as goal

pub overflow_cast-result : goal.overflow_cast-result
overflow_cast-result c = omega (arith, client-small c.args.row.now c.args.i c.requires.1 c.requires.0)

pub returns : goal.returns
returns c = rw add-one (sym (requests-at c.args.row.now c.args.i c.requires.1))
