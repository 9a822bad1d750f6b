-- `wire::fields_in_lem` meets its contract: each number is read from where the format has it.
use native.Mathlib.Omega.{arith}
use Rattle.wire.proofs.FormatLaws.{at_least, fields_in_lem}
use borrow.Author.Rules.{rules}
use Rattle.wire.proofs.fields_in.Statement.{statement}
use Rattle.wire.proofs.fields_in.Tie as tie

get32-requires : tie.Need-get32-timestamp-requires
get32-requires c κs = omega (arith, at_least c.args.kind)

pub fields_in_spec : {M : Type 1} → statement M
fields_in_spec =
    tie.close
    (tie.spec
    (λ c κs. omega (arith, at_least c.args.kind))
    (λ c κs. omega (arith, at_least c.args.kind))
    get32-requires
    (λ c κs. search rules)
    (λ c. search fields_in_lem))
