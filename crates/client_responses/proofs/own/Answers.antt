-- Other words are not own, and the same words are if they fill the place.
use Rattle.std.proofs.Common.{rules}
use Rattle.ids.specs.Requests.{same}
use Rattle.client_responses.proofs.own.Goals as goal

pub returns-then-client-r : goal.returns-then-client-r
unfolding same
returns-then-client-r c = search rules

pub returns-then-timestamp-r : goal.returns-then-timestamp-r
unfolding same
returns-then-timestamp-r c = search rules

pub returns : goal.returns
unfolding same
returns c = search rules
