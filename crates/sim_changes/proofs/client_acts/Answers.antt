-- A client that has fallen is refused; else its call is refused as the event is, or what it sends has room or is refused 19. Once the call is
-- accepted, `ClientCalled` holds, and once the room is tested, `ClientTested`: what is left follows from these two.
use Rattle.std.proofs.Common.{◌≡◌, Err, arith, rules}
use Rattle.sim_changes.proofs.Parties.{client_in_lem}
use Rattle.sim_changes.proofs.ClientEvents as events
use Rattle.sim_changes.proofs.ClientEvents.{ClientTested, client_read, client-held, act-client, act-asks, gone-few}
use Rattle.sim_changes.proofs.client_acts.Goals as goal

pub is_living-requires : goal.is_living-requires
is_living-requires c = client_in_lem _ _ (act-client c.args.w.now c.args.k c.args.act c.requires)

pub returns-then-not-is_living : goal.returns-then-not-is_living
returns-then-not-is_living c = events.client-fallen c.args.w.now c.args.k c.args.act c.requires _ c.is_living.ensures c.if-not-is_living.true

pub client_row-requires : goal.client_row-requires
client_row-requires c = (client_in_lem _ _ (act-client c.args.w.now c.args.k c.args.act c.requires), search rules)

pub client_head-requires : goal.client_head-requires
client_head-requires c =
    let there = act-client c.args.w.now c.args.k c.args.act c.requires in
    (client_in_lem _ _ there, client-held _ c.args.k there)

pub call_client-s-requires : goal.call_client-s-requires
call_client-s-requires c = act-asks c.args.w.now c.args.k c.args.act c.requires _ (client_read _ _ _ c.client_head.ensures c.client_row.ensures)

-- the call was refused, as the event is
pub returns-in_err-count : goal.returns-in_err-count
returns-in_err-count c =
    let lives = events.client-lives c.args.w.now c.args.k c.args.act c.requires _ c.is_living.ensures c.if-not-is_living.false in
    let read = client_read _ _ _ c.client_head.ensures c.client_row.ensures in
    let e : c.from_residual.result ≡ Err c.in_err-count.field-0.0 = search rules in
    rw e (events.client-refused c.args.w.now c.args.k c.args.act c.requires lives _ _ read _ _ _ c.call_client-s.ensures _ c.in_err-count.was)

pub has_room-requires : goal.has_room-requires
has_room-requires c =
    let lives = events.client-lives c.args.w.now c.args.k c.args.act c.requires _ c.is_living.ensures c.if-not-is_living.false in
    let read = client_read _ _ _ c.client_head.ensures c.client_row.ensures in
    let called = events.client-called c.args.w.now c.args.k c.args.act c.requires lives _ _ read _ _ _ c.call_client-s.ensures _ _ c.in_ok-count.was in (
      (act-client c.args.w.now c.args.k c.args.act c.requires).valid,
      rw c.messages_gone.ensures (gone-few c.args.w.now c.args.k c.args.act c.requires),
      omega (arith, events.client-few called _ _ c.in_ok-count.was),
    )

pub returns-then-not-has_room : goal.returns-then-not-has_room
returns-then-not-has_room c =
    let lives = events.client-lives c.args.w.now c.args.k c.args.act c.requires _ c.is_living.ensures c.if-not-is_living.false in
    let read = client_read _ _ _ c.client_head.ensures c.client_row.ensures in
    let called = events.client-called c.args.w.now c.args.k c.args.act c.requires lives _ _ read _ _ _ c.call_client-s.ensures _ _ c.in_ok-count.was in
    let tested : ClientTested c.args.w.now c.args.k c.args.act c.call_client-s.result c.call_client-s.new.row c.call_client-s.new.out c.in_ok-count.field-0.messages c.has_room.result =
    record { called = called; size = c.in_ok-count.field-0.bytes; answered = c.in_ok-count.was; room = rw c.messages_gone.ensures at c.has_room.ensures } in
    events.client-full tested c.if-not-has_room.true

pub store_client-requires : goal.store_client-requires
store_client-requires c =
    let lives = events.client-lives c.args.w.now c.args.k c.args.act c.requires _ c.is_living.ensures c.if-not-is_living.false in
    let read = client_read _ _ _ c.client_head.ensures c.client_row.ensures in
    let called = events.client-called c.args.w.now c.args.k c.args.act c.requires lives _ _ read _ _ _ c.call_client-s.ensures _ _ c.in_ok-count.was in
    (called.stores, search rules)

pub send-requires : goal.send-requires
send-requires c =
    let lives = events.client-lives c.args.w.now c.args.k c.args.act c.requires _ c.is_living.ensures c.if-not-is_living.false in
    let read = client_read _ _ _ c.client_head.ensures c.client_row.ensures in
    let called = events.client-called c.args.w.now c.args.k c.args.act c.requires lives _ _ read _ _ _ c.call_client-s.ensures _ _ c.in_ok-count.was in
    let tested : ClientTested c.args.w.now c.args.k c.args.act c.call_client-s.result c.call_client-s.new.row c.call_client-s.new.out c.in_ok-count.field-0.messages c.has_room.result =
    record { called = called; size = c.in_ok-count.field-0.bytes; answered = c.in_ok-count.was; room = rw c.messages_gone.ensures at c.has_room.ensures } in
    events.client_sendable tested c.if-not-has_room.false _ c.store_client.ensures

pub overflow_cast-result : goal.overflow_cast-result
overflow_cast-result c =
    let lives = events.client-lives c.args.w.now c.args.k c.args.act c.requires _ c.is_living.ensures c.if-not-is_living.false in
    let read = client_read _ _ _ c.client_head.ensures c.client_row.ensures in
    let called = events.client-called c.args.w.now c.args.k c.args.act c.requires lives _ _ read _ _ _ c.call_client-s.ensures _ _ c.in_ok-count.was in
    omega (arith, events.client-few called _ _ c.in_ok-count.was)

pub returns : goal.returns
returns c =
    let lives = events.client-lives c.args.w.now c.args.k c.args.act c.requires _ c.is_living.ensures c.if-not-is_living.false in
    let read = client_read _ _ _ c.client_head.ensures c.client_row.ensures in
    let called = events.client-called c.args.w.now c.args.k c.args.act c.requires lives _ _ read _ _ _ c.call_client-s.ensures _ _ c.in_ok-count.was in
    let tested : ClientTested c.args.w.now c.args.k c.args.act c.call_client-s.result c.call_client-s.new.row c.call_client-s.new.out c.in_ok-count.field-0.messages c.has_room.result =
    record { called = called; size = c.in_ok-count.field-0.bytes; answered = c.in_ok-count.was; room = rw c.messages_gone.ensures at c.has_room.ensures } in
    events.client-sent tested c.if-not-has_room.false _ c.store_client.ensures _ c.send.ensures
