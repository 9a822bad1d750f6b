-- The call is accepted, and what it sends has room or is refused 19. Once the call is made, `ServerCalled` holds: what is left follows from it.
use Rattle.std.proofs.Common.{◌≡◌, Err, arith, rules}
use Rattle.sim_changes.proofs.Parties.{server_in_lem}
use Rattle.sim_changes.proofs.Storing.{record_held}
use Rattle.sim_changes.proofs.Sending.{ruled-refused, ruled-few, ruled-full}
use Rattle.sim_changes.proofs.ServerEvents.{act-server, server_read, server-padded, server-called, server_sendable, server-sent}
use Rattle.sim_changes.proofs.server_steps.Goals as goal

pub server_row-requires : goal.server_row-requires
server_row-requires c = (server_in_lem _ _ (act-server c.args.w.now c.args.j c.args.act c.requires.0), search rules)

pub server_head-requires : goal.server_head-requires
server_head-requires c =
    let there = act-server c.args.w.now c.args.j c.args.act c.requires.0 in
    (server_in_lem _ _ there, record_held _ c.args.j there)

pub call_server-t-requires : goal.call_server-t-requires
call_server-t-requires c = server-padded c.args.w.now c.args.j (act-server c.args.w.now c.args.j c.args.act c.requires.0) _ _ (server_read _ _ _ c.server_head.ensures c.server_row.ensures)

pub returns-in_err-t : goal.returns-in_err-t
returns-in_err-t c =
    let called = server-called c.args.w.now c.args.j c.args.act c.requires.0 c.requires.1 _ _ (server_read _ _ _ c.server_head.ensures c.server_row.ensures) _ _ c.call_server-t.ensures in
    let e : c.from_residual.result ≡ Err c.in_err-t.field-0.0 = search rules in
    rw e (ruled-refused called.ruled _ c.in_err-t.was)

pub has_room-requires : goal.has_room-requires
has_room-requires c =
    let called = server-called c.args.w.now c.args.j c.args.act c.requires.0 c.requires.1 _ _ (server_read _ _ _ c.server_head.ensures c.server_row.ensures) _ _ c.call_server-t.ensures in
    ((act-server c.args.w.now c.args.j c.args.act c.requires.0).valid, omega arith, omega (arith, ruled-few called.ruled _ c.counts-count.ensures))

pub returns-then-not-has_room : goal.returns-then-not-has_room
returns-then-not-has_room c =
    let called = server-called c.args.w.now c.args.j c.args.act c.requires.0 c.requires.1 _ _ (server_read _ _ _ c.server_head.ensures c.server_row.ensures) _ _ c.call_server-t.ensures in
    ruled-full called.ruled _ c.counts-count.ensures _ c.has_room.ensures c.if-not-has_room.true

pub store_server-requires : goal.store_server-requires
store_server-requires c =
    let called = server-called c.args.w.now c.args.j c.args.act c.requires.0 c.requires.1 _ _ (server_read _ _ _ c.server_head.ensures c.server_row.ensures) _ _ c.call_server-t.ensures in
    (called.stores, search rules)

pub send_mails-requires : goal.send_mails-requires
send_mails-requires c =
    let called = server-called c.args.w.now c.args.j c.args.act c.requires.0 c.requires.1 _ _ (server_read _ _ _ c.server_head.ensures c.server_row.ensures) _ _ c.call_server-t.ensures in
    server_sendable called _ c.counts-count.ensures _ c.has_room.ensures c.if-not-has_room.false _ c.store_server.ensures

pub overflow_cast-result : goal.overflow_cast-result
overflow_cast-result c =
    let called = server-called c.args.w.now c.args.j c.args.act c.requires.0 c.requires.1 _ _ (server_read _ _ _ c.server_head.ensures c.server_row.ensures) _ _ c.call_server-t.ensures in
    omega (arith, ruled-few called.ruled _ c.counts-count.ensures)

pub returns : goal.returns
returns c =
    let called = server-called c.args.w.now c.args.j c.args.act c.requires.0 c.requires.1 _ _ (server_read _ _ _ c.server_head.ensures c.server_row.ensures) _ _ c.call_server-t.ensures in
    server-sent called _ c.counts-count.ensures _ c.has_room.ensures c.if-not-has_room.false _ c.store_server.ensures _ c.send_mails.ensures
