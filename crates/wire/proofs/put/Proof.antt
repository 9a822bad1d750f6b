-- `wire::put` meets its contract: the message is its numbers.
use Rattle.wire.specs.Format.{size_of, bytes_of}
use borrow.Author.Rules.{rules}
use Rattle.wire.proofs.put.Statement.{statement}
use Rattle.wire.proofs.put.Tie as tie

put-fields-requires : tie.Need-put_fields-requires
unfolding size_of
put-fields-requires c κs = rw c.fields_of.ensures c.requires

returns : tie.Need-returns
unfolding size_of bytes_of
returns c = rw c.fields_of.ensures at c.put_fields.ensures

pub put_spec : {M : Type 1} → statement M
put_spec =
    tie.close
    (tie.spec
    (λ c κs. search rules)
    put-fields-requires
    (λ c. search rules)
    returns)
