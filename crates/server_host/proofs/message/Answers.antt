-- What `server::message` gives is left behind.
use Rattle.server.specs.Calls.{message_outcome}
use Rattle.server_host.proofs.Stepping.{leaves}
use Rattle.server_host.proofs.message.Goals as goal

pub returns : goal.returns
returns c = leaves (λ s. message_outcome s c.args.m) _ _ _ _ c.message-t.ensures
