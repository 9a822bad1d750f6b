-- `wire::write_fields` meets its contract: the range decides, then `lay`.
use Rattle.wire.proofs.CallLaws.{numbers_invalid, numbers_laid}
use Rattle.wire.proofs.SaysLaws.{fields_said}
use borrow.Author.Rules.{rules}
use Rattle.wire.proofs.write_fields.Statement.{statement}
use Rattle.wire.proofs.write_fields.Tie as tie

returns-2 : tie.Need-returns
returns-2 c =
    let b = c.before.before.before.before in
    fields_said _ _ _ _ (numbers_laid _ _ _ b.valid_fields.ensures b.if-not-valid_fields.false _ _ c.lay.ensures.0
    c.lay.ensures.1)

pub write_fields_spec : {M : Type 1} → statement M
write_fields_spec =
    tie.close
    (tie.spec
    (λ c κs. search rules)
    (λ c. fields_said _ _ _ _ (numbers_invalid _ _ _ c.valid_fields.ensures c.if-not-valid_fields.true))
    (λ c κs. search rules)
    (λ c. search rules)
    returns-2)
