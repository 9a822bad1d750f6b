-- `wire::lay` meets its contract: the room decides.
use Rattle.wire.proofs.CallLaws.{lay_short, lay_done}
use borrow.Author.Rules.{rules}
use Rattle.wire.proofs.lay.Statement.{statement}
use Rattle.wire.proofs.lay.Tie as tie

returns-2 : tie.Need-returns
returns-2 c =
    let b = c.before.before.before.before in
    lay_done _ _ _ b.length_of.ensures _ _ b.if-out-length_of.false c.put_fields-n.ensures.0 c.put_fields-n.ensures.1

pub lay_spec : {M : Type 1} → statement M
lay_spec =
    tie.close
    (tie.spec
    (λ c κs. search rules)
    (λ c. search rules)
    (λ c. lay_short _ _ _ c.length_of.ensures c.if-out-length_of.true)
    (λ c κs. search rules)
    (λ c. search rules)
    returns-2)
