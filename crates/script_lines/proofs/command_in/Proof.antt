-- `script_lines::command_in` meets its contract: the words are tried in the definition's order. Behind each test, the word is none of
-- those tried so far.
use mathlib.Core.List.{List}
use Prim.Native.Nat.{ℕ}
use lib.ListN.{drop}
use Rattle.script_lines.proofs.LineLaws.{commands, Left, left-all, left_is, left-more, left-none}
use borrow.Author.Rules.{rules}
use Rattle.script_lines.proofs.command_in.Statement.{statement}
use Rattle.script_lines.proofs.command_in.Tie as tie

module _ (c : tie.Else-equal) where
  abbrev its₁ : List ℕ
  its₁ = c.args.w.now

  left₁ : Left its₁ (drop 1 commands)
  left₁ = left-more its₁ _ _ (left-all its₁) _ c.equal.ensures c.if-equal.false

module _ (c : tie.Else-equal-2) where
  abbrev last₂ : tie.Else-equal
  last₂ = c.before.before.before.before

  abbrev its₂ : List ℕ
  its₂ = its₁ last₂

  left₂ : Left its₂ (drop 2 commands)
  left₂ = left-more its₂ _ _ (left₁ last₂) _ c.equal-2.ensures c.if-equal-2.false

module _ (c : tie.Else-equal-3) where
  abbrev last₃ : tie.Else-equal-2
  last₃ = c.before.before.before.before

  abbrev its₃ : List ℕ
  its₃ = its₂ last₃

  left₃ : Left its₃ (drop 3 commands)
  left₃ = left-more its₃ _ _ (left₂ last₃) _ c.equal-3.ensures c.if-equal-3.false

module _ (c : tie.Else-equal-4) where
  abbrev last₄ : tie.Else-equal-3
  last₄ = c.before.before.before.before

  abbrev its₄ : List ℕ
  its₄ = its₃ last₄

  left₄ : Left its₄ (drop 4 commands)
  left₄ = left-more its₄ _ _ (left₃ last₄) _ c.equal-4.ensures c.if-equal-4.false

module _ (c : tie.Else-equal-5) where
  abbrev last₅ : tie.Else-equal-4
  last₅ = c.before.before.before.before

  abbrev its₅ : List ℕ
  its₅ = its₄ last₅

  left₅ : Left its₅ (drop 5 commands)
  left₅ = left-more its₅ _ _ (left₄ last₅) _ c.equal-5.ensures c.if-equal-5.false

module _ (c : tie.Else-equal-6) where
  abbrev last₆ : tie.Else-equal-5
  last₆ = c.before.before.before.before

  abbrev its₆ : List ℕ
  its₆ = its₅ last₆

  left₆ : Left its₆ (drop 6 commands)
  left₆ = left-more its₆ _ _ (left₅ last₆) _ c.equal-6.ensures c.if-equal-6.false

module _ (c : tie.Else-equal-7) where
  abbrev last₇ : tie.Else-equal-6
  last₇ = c.before.before.before.before

  abbrev its₇ : List ℕ
  its₇ = its₆ last₇

  left₇ : Left its₇ (drop 7 commands)
  left₇ = left-more its₇ _ _ (left₆ last₇) _ c.equal-7.ensures c.if-equal-7.false

module _ (c : tie.Else-equal-8) where
  abbrev last₈ : tie.Else-equal-7
  last₈ = c.before.before.before.before

  abbrev its₈ : List ℕ
  its₈ = its₇ last₈

  left₈ : Left its₈ (drop 8 commands)
  left₈ = left-more its₈ _ _ (left₇ last₈) _ c.equal-8.ensures c.if-equal-8.false

module _ (c : tie.Else-equal-9) where
  abbrev last₉ : tie.Else-equal-8
  last₉ = c.before.before.before.before

  abbrev its₉ : List ℕ
  its₉ = its₈ last₉

  left₉ : Left its₉ (drop 9 commands)
  left₉ = left-more its₉ _ _ (left₈ last₉) _ c.equal-9.ensures c.if-equal-9.false

pub command_in_spec : {M : Type 1} → statement M
command_in_spec =
    tie.close
    (tie.spec
    (λ c κs. search rules)
    (λ c. left_is _ _ _ (left-all _) _ c.equal.ensures c.if-equal.true)
    (λ c κs. search rules)
    (λ c. left_is _ _ _ (left₁ c.before.before.before.before) _ c.equal-2.ensures c.if-equal-2.true)
    (λ c κs. search rules)
    (λ c. left_is _ _ _ (left₂ c.before.before.before.before) _ c.equal-3.ensures c.if-equal-3.true)
    (λ c κs. search rules)
    (λ c. left_is _ _ _ (left₃ c.before.before.before.before) _ c.equal-4.ensures c.if-equal-4.true)
    (λ c κs. search rules)
    (λ c. left_is _ _ _ (left₄ c.before.before.before.before) _ c.equal-5.ensures c.if-equal-5.true)
    (λ c κs. search rules)
    (λ c. left_is _ _ _ (left₅ c.before.before.before.before) _ c.equal-6.ensures c.if-equal-6.true)
    (λ c κs. search rules)
    (λ c. left_is _ _ _ (left₆ c.before.before.before.before) _ c.equal-7.ensures c.if-equal-7.true)
    (λ c κs. search rules)
    (λ c. left_is _ _ _ (left₇ c.before.before.before.before) _ c.equal-8.ensures c.if-equal-8.true)
    (λ c κs. search rules)
    (λ c. left_is _ _ _ (left₈ c.before.before.before.before) _ c.equal-9.ensures c.if-equal-9.true)
    (λ c. left-none _ (left₉ c)))
