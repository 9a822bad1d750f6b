-- The room decides, REQUEST goes to every server, and the row is emptied.
use Rattle.std.proofs.Common.{rules, ◌+◌}
use Rattle.client_responses.proofs.SendLaws.{request-plain}
use Rattle.client.specs.Inner.{requests}
use Rattle.client.proofs.StepLaws.{tries-short, tries-done}
use Rattle.client.proofs.attempt.Goals as goal

pub returns-then-out-n : goal.returns-then-out-n
returns-then-out-n c = search tries-short

pub send_all-requires-clause-plain : goal.send_all-requires-clause-plain
send_all-requires-clause-plain c = λ j m p. search (rules, request-plain)

pub returns : goal.returns
returns c =
    let h = c.args.h in
    let e = c.send_all.ensures (requests h.id (record { 0 = c.latest.result.0 + 1 })) (λ j m p. search rules) in
    search tries-done
