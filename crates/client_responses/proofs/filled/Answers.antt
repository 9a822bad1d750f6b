-- A client alone fills a place, and so does a timestamp.
use Rattle.std.proofs.Common.{rules}
use Rattle.ids.specs.Requests.{same}
use Rattle.client_responses.proofs.filled.Goals as goal

pub returns : goal.returns
unfolding same
returns c = search rules
