-- The words are tested as `crossing` tests them.
use Rattle.std.proofs.Common.{arith, ◌≡◌, length}
use Rattle.words.proofs.MessagesLaws.{cross_length, cross_large, cross_small, cross_numbers, cross_said}
use Rattle.words.proofs.cross.Goals as goal

pub returns-in_default : goal.returns-in_default
returns-in_default c =
    let said = cross_said _ _ (cross_length _ (λ (e : length c.args.words.now ≡ 5). omega (arith, e, c.in_default.len_below))) in
    record { value = said.0; numbers = said.1 }

pub returns-in_default-2 : goal.returns-in_default-2
returns-in_default-2 c =
    let said = cross_said _ _ (cross_length _ (λ (e : length c.args.words.now ≡ 5). omega (arith, e, c.in_default.len_at_least))) in
    record { value = said.0; numbers = said.1 }

pub returns-then-not-fit : goal.returns-then-not-fit
returns-then-not-fit c =
    let five : length c.args.words.now ≡ 5 = omega (arith, c.in-len5.len_at_least, c.in-len5.len_below) in
    let said = cross_said _ _ (cross_large c.args.words.now five _ c.fit.ensures c.if-not-fit.true) in
    record { value = said.0; numbers = said.1 }

pub fields_of_words-requires : goal.fields_of_words-requires
fields_of_words-requires c =
    let five : length c.args.words.now ≡ 5 = omega (arith, c.in-len5.len_at_least, c.in-len5.len_below) in
    cross_small c.args.words.now five _ c.fit.ensures c.if-not-fit.false

pub returns : goal.returns
returns c =
    let five : length c.args.words.now ≡ 5 = omega (arith, c.in-len5.len_at_least, c.in-len5.len_below) in
    let said = cross_said _ _ (cross_numbers c.args.words.now five _ c.fit.ensures c.if-not-fit.false _ c.fields_of_words.ensures) in
    record { value = said.0; numbers = said.1 }
