-- `quorum::margin` meets its contract: each return is one case of the definition.
use Rattle.quorum.proofs.CheckLaws.{first_fits, second_fits, margin-read}
use native.Mathlib.Omega.{arith}
use Prim.Native.Nat.{◌*◌}
use Rattle.quorum.proofs.margin.Goals as goal

pub overflow_sub-result : goal.overflow_sub-result
overflow_sub-result c = first_fits (2 * c.args.m) c.args.n (omega (arith, c.requires)) c.requires.0

pub overflow_sub-result-2 : goal.overflow_sub-result-2
overflow_sub-result-2 c = second_fits (2 * c.args.m) c.args.n c.args.f (omega (arith, c.requires)) c.requires.0 c.requires.2

pub returns : goal.returns
returns c = search margin-read
