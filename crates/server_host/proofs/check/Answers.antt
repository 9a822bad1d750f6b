-- What `server::check` gives is left behind.
use Rattle.server.specs.Calls.{check_outcome}
use Rattle.server_host.proofs.Stepping.{leaves}
use Rattle.server_host.proofs.check.Goals as goal

pub returns : goal.returns
returns c = leaves (check_outcome) _ _ _ _ c.check-t.ensures
