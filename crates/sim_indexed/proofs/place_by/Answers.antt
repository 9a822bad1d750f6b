-- `sim_indexed::place_by` meets its contract: the kind decides.
use Rattle.sim_indexed.proofs.CardLaws.{place-server, place-client}
use Rattle.sim_indexed.proofs.place_by.Goals as goal

pub returns-then-kind-le4 : goal.returns-then-kind-le4
returns-then-kind-le4 c = search place-server

pub returns : goal.returns
returns c = search place-client
