-- Two stores, of a client that fits its field.
use Rattle.rows.proofs.WordLaws.{put-stored}
use Rattle.std.proofs.Common.{arith}
use Rattle.rows.proofs.put_request.Goals as goal

pub returns : goal.returns
returns c = put-stored c.args.row.now c.args.i c.args.r (omega arith)
