-- Each return is one case of the tests.
use Rattle.std.proofs.Common.{rules}
use Rattle.ids.specs.Limits.{valid_owner, valid_request}
use Rattle.ids.specs.Requests.{same}
use Rattle.client_responses.proofs.misfit.Goals as goal

pub returns-then-client-eq0 : goal.returns-then-client-eq0
unfolding same valid_owner valid_request
returns-then-client-eq0 c = search rules

pub returns-then-timestamp-eq0 : goal.returns-then-timestamp-eq0
unfolding same valid_owner valid_request
returns-then-timestamp-eq0 c = search rules

pub returns-then-client-r : goal.returns-then-client-r
unfolding same valid_owner valid_request
returns-then-client-r c = search rules

pub returns : goal.returns
unfolding same valid_owner valid_request
returns c = search rules
