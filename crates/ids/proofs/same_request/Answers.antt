-- Requests are equal where their numbers are, which is what `same` tests.
use Rattle.std.proofs.Common.{rules}
use Rattle.ids.specs.Requests.{same}
use Rattle.ids.proofs.same_request.Goals as goal

pub returns : goal.returns
unfolding same
returns c = search rules
