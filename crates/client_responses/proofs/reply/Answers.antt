-- `client_responses::reply` meets its contract: each return is one case of the definition.
use Rattle.client_responses.proofs.RoundLaws.{reply_yield, reply-request, reply_inquiry}
use Rattle.client_responses.proofs.reply.Goals as goal

pub returns-then-eq : goal.returns-then-eq
returns-then-eq c = search reply_yield

pub returns-then-precedes : goal.returns-then-precedes
returns-then-precedes c = search reply-request

pub returns : goal.returns
returns c = search reply_inquiry
