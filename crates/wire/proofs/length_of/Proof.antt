-- `wire::length_of` meets its contract: the test is the one by which `widths` goes.
use Rattle.wire.proofs.FormatLaws.{length-response, length-plain}
use Rattle.wire.proofs.length_of.Statement.{statement}
use Rattle.wire.proofs.length_of.Tie as tie

pub length_of_spec : {M : Type 1} → statement M
length_of_spec =
    tie.close
    (tie.spec
    (λ c. search length-response)
    (λ c. search length-plain))
