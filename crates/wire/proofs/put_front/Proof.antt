-- `wire::put_front` meets its contract: five numbers, each stored where the last one ended.
use Rattle.wire.proofs.FormatLaws.{front-stored}
use borrow.Author.Rules.{rules}
use Rattle.wire.proofs.put_front.Statement.{statement}
use Rattle.wire.proofs.put_front.Tie as tie

returns : tie.Need-returns
returns c =
    let p₅ = c.before.before in
    let p₄ = p₅.before.before.before.before in
    let p₃ = p₄.before.before.before.before in
    let p₂ = p₃.before.before.before.before in
    let p₁ = p₂.before.before.before.before in
    front-stored p₁.args.f _ _ _ _ _ _ _ _ p₁.length_of.ensures p₁.put16.ensures
    p₂.put16-2.ensures p₃.put16-3.ensures p₄.put16-4.ensures p₅.put32.ensures

pub put_front_spec : {M : Type 1} → statement M
put_front_spec =
    tie.close
    (tie.spec
    (λ c κs. search rules)
    (λ c κs. search rules)
    (λ c. search rules)
    (λ c κs. search rules)
    (λ c. search rules)
    (λ c κs. search rules)
    (λ c. search rules)
    (λ c κs. search rules)
    (λ c. search rules)
    (λ c κs. search rules)
    (λ c. search rules)
    returns)
