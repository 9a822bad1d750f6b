-- `wire::write` meets its contract: the range decides, then `lay`.
use Rattle.wire.proofs.CallLaws.{write_invalid, write_laid}
use Rattle.wire.proofs.SaysLaws.{write_said}
use borrow.Author.Rules.{rules}
use Rattle.wire.proofs.write.Statement.{statement}
use Rattle.wire.proofs.write.Tie as tie

returns-2 : tie.Need-returns
returns-2 c =
    let b = c.before.before.before.before in
    write_said _ _ _ _ (write_laid _ _ _ b.valid_message.ensures b.if-not-valid_message.false _ _ _ b.fields_of.ensures
    c.lay.ensures.0 c.lay.ensures.1)

pub write_spec : {M : Type 1} → statement M
write_spec =
    tie.close
    (tie.spec
    (λ c κs. search rules)
    (λ c. write_said _ _ _ _ (write_invalid _ _ _ c.valid_message.ensures c.if-not-valid_message.true))
    (λ c κs. search rules)
    (λ c κs. search rules)
    (λ c. search rules)
    returns-2)
