-- The room decides, RELEASE goes to every server, and the row is emptied.
use Rattle.std.proofs.Common.{rules}
use Rattle.client_responses.proofs.SendLaws.{release_plain}
use Rattle.client.specs.Inner.{releases}
use Rattle.client.proofs.StepLaws.{exits-short, exits-done}
use Rattle.client.proofs.leave.Goals as goal

pub returns-then-out-n : goal.returns-then-out-n
returns-then-out-n c = search exits-short

pub send_all-requires-clause-plain : goal.send_all-requires-clause-plain
send_all-requires-clause-plain c = λ j m p. search (rules, release_plain)

pub returns : goal.returns
returns c =
    let h = c.args.h in
    let e = c.send_all.ensures (releases h.id h.timestamp) (λ j m p. search rules) in
    search exits-done
