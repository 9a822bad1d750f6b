-- What `server::suspect` gives is left behind.
use Rattle.server.specs.Calls.{suspect_outcome}
use Rattle.server_host.proofs.Stepping.{leaves}
use Rattle.server_host.proofs.suspect.Goals as goal

pub returns : goal.returns
returns c = leaves (suspect_outcome) _ _ _ _ c.suspect-t.ensures
