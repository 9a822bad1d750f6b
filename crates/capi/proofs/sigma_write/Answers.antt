-- Each arm is given which numbers crossed.
use Rattle.capi.proofs.CallLaws.{write_large, write_numbers_lem}
use Rattle.capi.proofs.sigma_write.Goals as goal

pub returns-in-Some : goal.returns-in-Some
returns-in-Some c =
    write_numbers_lem _ _ _ c.cross.ensures.value _ _ _ _ c.in-Some.is c.write_fields.ensures.value.0 c.write_fields.ensures.value.1 c.written_code.ensures

pub returns-in-None : goal.returns-in-None
returns-in-None c = write_large _ _ _ c.cross.ensures.value _ c.in-None.is c.code_of.ensures
