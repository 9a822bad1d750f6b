-- `script::open` meets its contract: a setting begins the script, anything else is refused.
use mathlib.Core.Path.{sym, ◌∙◌}
use Rattle.script.proofs.StepLaws.{bad_first, setting-first}
use borrow.Author.Rules.{rules}
use Rattle.script.proofs.open.Statement.{statement}
use Rattle.script.proofs.open.Tie as tie

-- the line is read
module _ (c : tie.After-read_setting) where
  abbrev entry : tie.Start
  entry = c.before.before.before

returns : tie.Need-returns-in-None
returns c =
    bad_first c.args.w.now c.args.out.now c.args.at c.requires.0 _ _ _
    (sym c.in-None.is ∙ c.read_setting.ensures) c.refuse.ensures

returns-2 : tie.Need-returns-in-Some
returns-2 c =
    setting-first c.args.w.now c.args.out.now c.args.at c.requires.0 _ _ _
    _ (sym c.in-Some.is ∙ c.read_setting.ensures) c.begin.ensures

pub open_spec : {M : Type 1} → statement M
open_spec =
    tie.close
    (tie.spec
    (λ c κs. search rules)
    (λ c. search rules)
    (λ c κs. search rules)
    (λ c. search rules)
    (λ c κs. search rules)
    (λ c. search rules)
    (λ c. search rules)
    returns
    (λ c. search rules)
    (λ c. search rules)
    returns-2)
