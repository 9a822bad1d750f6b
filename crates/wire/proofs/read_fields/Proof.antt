-- `wire::read_fields` meets its contract: each return is one case of `read_of`, by the tests that led there.
use mathlib.Core.Path.{◌∙◌}
use Rattle.wire.proofs.FormatLaws.{kind_in_lem}
use Rattle.wire.proofs.CallLaws.{read_short, read_unknown, read-wrong, read-cut, read_invalid, read-accepted}
use Rattle.wire.proofs.SaysLaws.{numbers-said}
use borrow.Author.Rules.{rules}
use Rattle.wire.proofs.read_fields.Statement.{statement}
use Rattle.wire.proofs.read_fields.Tie as tie

-- the bytes are long enough for the kind's fields
fields-in-requires : tie.Need-fields_in-f-requires
fields-in-requires c κs =
    let size = c.before.before.before in
    (rw size.length_of-size.ensures at c.if-bytes-size.false, size.get16-kind.ensures ∙ kind_in_lem _)

pub read_fields_spec : {M : Type 1} → statement M
read_fields_spec =
    tie.close
    (tie.spec
    (λ c. numbers-said _ _ (search read_short))
    (λ c κs. search rules)
    (λ c κs. search rules)
    (λ c. numbers-said _ _ (search read_unknown))
    (λ c κs. search rules)
    (λ c κs. search rules)
    (λ c. numbers-said _ _ (search read-wrong))
    (λ c. search rules)
    (λ c. numbers-said _ _ (search read-cut))
    fields-in-requires
    (λ c κs. search rules)
    (λ c. numbers-said _ _ (search read_invalid))
    (λ c. search rules)
    (λ c. numbers-said _ _ (search read-accepted)))
