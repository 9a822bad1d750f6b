-- `capi_packet::sigma_packet_pack` meets its contract: each arm is given what `packet::pack` answered.
use Rattle.capi_packet.proofs.CallLaws.{pack_done, pack_refused}
use Rattle.capi_packet.proofs.sigma_packet_pack.Goals as goal

pub returns-in-Ok : goal.returns-in-Ok
returns-in-Ok c = let p = c.pack.ensures.value in (pack_done _ _ p.0 _ c.in-Ok.is, p.1)

pub returns-in-Err : goal.returns-in-Err
returns-in-Err c = let p = c.pack.ensures.value in
    (pack_refused _ _ p.0 _ _ c.in-Err.is c.code_of.ensures, p.1)
