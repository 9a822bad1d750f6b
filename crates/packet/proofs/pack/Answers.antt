-- The total must fit two bytes, then the messages are judged as a packet's are, then the room counts.
use Rattle.std.proofs.Common.{◌≡◌, Err, rules, refl}
use Rattle.packet.proofs.PackLaws.{pack_long, pack_refused, pack_room, pack_done}
use Rattle.packet.proofs.SaysLaws.{pack_said}
use Rattle.packet.proofs.pack.Goals as goal

pub returns-then-bytes : goal.returns-then-bytes
returns-then-bytes c =
    let said = pack_said _ _ _ _ (pack_long _ _ c.if-bytes.true) in
    record { value = said.0; numbers = said.1 }

pub returns-in_err-judge : goal.returns-in_err-judge
returns-in_err-judge c =
    let e : c.from_residual.result ≡ Err c.in_err-judge.field-0.0 = search rules in
    let said = pack_said _ _ _ _ (pack_refused _ _ c.if-bytes.false _ c.in_err-judge.ensures) in
    record { value = rw e said.0; numbers = rw e said.1 }

pub returns-then-out-total : goal.returns-then-out-total
returns-then-out-total c =
    let said = pack_said _ _ _ _ (pack_room _ _ c.if-bytes.false c.in_ok-judge.ensures _ refl c.if-out-total.true) in
    record { value = said.0; numbers = said.1 }

pub returns : goal.returns
returns c =
    let said = pack_said _ _ _ _ (pack_done _ _ c.if-bytes.false c.in_ok-judge.ensures _ refl c.if-out-total.false _ c.put_packet.ensures) in
    record { value = said.0; numbers = said.1 }
