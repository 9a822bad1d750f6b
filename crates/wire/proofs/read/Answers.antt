-- `read` gives the message of the numbers that were read, and refuses as they are refused.
use Rattle.std.proofs.Common.{refl}
use Rattle.wire.proofs.CallLaws.{read-message}
use Rattle.wire.proofs.SaysLaws.{read-said}
use Rattle.wire.proofs.read.Goals as goal

pub returns : goal.returns
returns c =
    let said = read-said _ _ (read-message _ _ c.in_ok-f.f _ _ c.in_ok-f.ensures.value refl c.message_of.ensures) in
    record { value = said.0; numbers = said.1 }
