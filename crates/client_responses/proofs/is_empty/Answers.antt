-- Requests are equal where their numbers are, which is what `same` tests.
use Rattle.ids.specs.Requests.{same}
use Rattle.client_responses.proofs.is_empty.Goals as goal

pub returns : goal.returns
unfolding same
returns c = rw c.nobody.ensures at c.eq.ensures
