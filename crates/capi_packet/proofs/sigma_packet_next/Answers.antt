-- Each arm is given what `packet::next_at` answered.
use Rattle.std.proofs.Common.{◌≡◌, Ok, Some, None, rules, arith, refl, sym, ◌∙◌}
use Rattle.capi_packet.proofs.CallLaws.{next-given, next_end, next-none, place_order, used-small}
use Rattle.capi_packet.proofs.sigma_packet_next.Goals as goal

pub overflow_sub-next : goal.overflow_sub-next
overflow_sub-next c =
    let e : c.next_at.result ≡ Ok (Some (c.in-Ok-Some.m, c.in-Ok-Some.next)) = search rules in
    place_order _ _ _ _ (sym c.next_at.ensures.value ∙ e)

pub overflow_cast-next : goal.overflow_cast-next
overflow_cast-next c =
    let e : c.next_at.result ≡ Ok (Some (c.in-Ok-Some.m, c.in-Ok-Some.next)) = search rules in
    omega (arith, used-small _ _ _ _ (sym c.next_at.ensures.value ∙ e))

pub returns-in-Ok-Some : goal.returns-in-Ok-Some
returns-in-Ok-Some c =
    let e : c.next_at.result ≡ Ok (Some (c.in-Ok-Some.m, c.in-Ok-Some.next)) = search rules in
    next-given _ _ _ _ c.next_at.ensures.value _ _ _ _ _ e c.fields_of.ensures c.answer.ensures

pub returns-in-Ok-None : goal.returns-in-Ok-None
returns-in-Ok-None c =
    let e : c.next_at.result ≡ Ok None = search rules in
    next_end _ _ _ _ c.next_at.ensures.value _ _ e (rw c.no_fields.ensures at c.answer-in-Ok-None.ensures)

pub returns-in-Err : goal.returns-in-Err
returns-in-Err c = next-none _ _ _ _ c.next_at.ensures.value _ _ _ c.in-Err.is c.code_of.ensures refl
