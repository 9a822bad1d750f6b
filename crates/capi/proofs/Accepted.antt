-- What is known of a step call that was accepted, by the call.
use mathlib.Core.Path.{◌≡◌}
use Rattle.wire.specs.Step.{Step, stepped}
use Rattle.server_votes.specs.Figure1 as votes
use Rattle.server.specs.declared.Server.{Server}
use Rattle.client_responses.specs.Figure1 as client
use Rattle.client.specs.declared.Client.{Client}
use Rattle.sends.proofs.ServerSends as server-sends
use Rattle.sends.proofs.ClientSends as client-sends
use Rattle.capi.specs.Inner.{server_outcome, client_outcome}
use Rattle.capi.specs.declared.ServerCall.{ServerCall}
use Rattle.capi.specs.declared.ServerCall.TheVariants.{Message as ServerMessage, Suspect, Check}
use Rattle.capi.specs.declared.ClientCall.{ClientCall}
use Rattle.capi.specs.declared.ClientCall.TheVariants.{Message as ClientMessage, Begin, Exit}

pub server-accepted : (call : ServerCall) (s : Server) (p : Step votes.State) → server_outcome call s ≡ stepped p → server-sends.Accepted s p
server-accepted (ServerMessage m) s p e = server-sends.message-accepted s p m e
server-accepted Suspect s p e = server-sends.suspect-accepted s p e
server-accepted Check s p e = server-sends.check-accepted s p e

pub client-accepted : (call : ClientCall) (c : Client) (p : Step client.State) → client_outcome call c ≡ stepped p → client-sends.Accepted c p
client-accepted (ClientMessage m) c p e = client-sends.message-accepted c p m e
client-accepted Begin c p e = client-sends.begin_accepted c p e
client-accepted Exit c p e = client-sends.exit_accepted c p e
