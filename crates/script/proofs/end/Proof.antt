-- `script::end` meets its contract: the last line by the stage.
use native.Mathlib.Omega.{arith}
use Rattle.ids.specs.declared.Refusal.TheVariants.{BadLine}
use Rattle.script_lines.proofs.PrintedLaws.{refused-short}
use Rattle.script.proofs.StepLaws.{end_valid, end_fits, end_opening, end_running, end_closed}
use borrow.Author.Rules.{rules}
use Rattle.script.proofs.end.Statement.{statement}
use Rattle.script.proofs.end.Tie as tie

-- the script runs
module _ (c : tie.Then-w-eq-RUNNING) where
  abbrev entry : tie.Start
  entry = c.before.before.before.before.before.before

returns : tie.Need-returns-then-w-eq-OPENING
returns c =
    end_opening c.args.w.now c.args.at c.args.out.now c.if-w-eq-OPENING.true _ _ c.before.before.put_refused.ensures

most-down-requires : tie.Need-most_down-requires
most-down-requires c κs =
    end_valid c.args.w.now c.requires.valid c.if-w-eq-RUNNING.true

put-end-requires : tie.Need-put_end-requires
put-end-requires c κs =
    end_fits c.args.w.now c.args.at c.args.out.now c.requires.valid c.if-w-eq-RUNNING.true _ (omega arith) c.requires.room

returns-2 : tie.Need-returns-then-w-eq-RUNNING
returns-2 c =
    end_running c.args.w.now c.args.at c.args.out.now c.requires.valid c.if-w-eq-RUNNING.true _ (omega arith) c.most_down.ensures
    _ _ c.put_end.ensures

returns-3 : tie.Need-returns
returns-3 c =
    end_closed c.args.w.now c.args.at c.args.out.now c.if-w-eq-OPENING.false c.if-w-eq-RUNNING.false

pub end_spec : {M : Type 1} → statement M
end_spec =
    tie.close
    (tie.spec
    (λ c. search rules)
    (λ c κs. omega (arith, refused-short BadLine, c.requires.room))
    (λ c. search rules)
    returns
    (λ c. search rules)
    (λ c. search rules)
    (λ c. search rules)
    (λ c. search rules)
    (λ c. search rules)
    (λ c. search rules)
    most-down-requires
    put-end-requires
    (λ c. search rules)
    returns-2
    returns-3)
