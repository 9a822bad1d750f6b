-- `script::new` meets its contract: words of the right number are cleared.
use Rattle.script.proofs.StepLaws.{not_new, newly, newly_answered}
use Rattle.script.proofs.SaysLaws.{new_said}
use borrow.Author.Rules.{rules}
use Rattle.script.proofs.new.Statement.{statement}
use Rattle.script.proofs.new.Tie as tie

returns-2 : tie.Need-returns
returns-2 c = new_said _ _ (
  newly_answered c.args.w.now c.if-w-ne-STATE_WORDS.false,
  newly
      c.args.w.now _ c.if-w-ne-STATE_WORDS.false
      c.clear.ensures,
)

pub new_spec : {M : Type 1} → statement M
new_spec =
    tie.close
    (tie.spec
    (λ c. new_said _ _ (not_new c.args.w.now c.if-w-ne-STATE_WORDS.true))
    (λ c κs. search rules)
    (λ c. search rules)
    returns-2)
