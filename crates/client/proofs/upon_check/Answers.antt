-- `client::upon_check` meets its contract: the current timestamp gets no message, any other RELEASE.
use Rattle.client_responses.proofs.SendLaws.{release_plain}
use Rattle.client.proofs.StepLaws.{check-same, check-short, check_done}
use Rattle.client.proofs.upon_check.Goals as goal

pub returns-then-eq : goal.returns-then-eq
returns-then-eq c = search check-same

pub returns-then-out-lt-MESSAGE_BYTES : goal.returns-then-out-lt-MESSAGE_BYTES
returns-then-out-lt-MESSAGE_BYTES c = search check-short

pub put-size-requires : goal.put-size-requires
put-size-requires c = search release_plain

pub returns : goal.returns
returns c = search check_done
