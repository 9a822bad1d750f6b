-- `script::run_valid` meets its contract: each return is one case of the definition.
use mathlib.Core.Path.{refl}
use Rattle.script.proofs.TestLaws.{simulation_bad, simulation_good, lines-many, accepted-many, holders-many, holders-few}
use borrow.Author.Rules.{rules}
use Rattle.script.proofs.run_valid.Statement.{statement}
use Rattle.script.proofs.run_valid.Tie as tie

-- the simulation is tested; it is valid, the lines are few, those accepted no more
module _ (c : tie.After-valid) where
  abbrev entry : tie.Start
  entry = c.before.before.before

module _ (c : tie.Else-w-gt-MAX_LINES) where
  abbrev good : tie.Else-not-valid
  good = c.before.before

module _ (c : tie.Else-w) where
  abbrev lines : tie.Else-w-gt-MAX_LINES
  lines = c.before.before.before

returns-2 : tie.Need-returns-then-w-gt-MAX_LINES
returns-2 c =
    lines-many c.args.w.now c.requires _ c.valid.ensures c.if-not-valid.false c.if-w-gt-MAX_LINES.true

returns-3 : tie.Need-returns-then-w
returns-3 c =
    accepted-many c.args.w.now c.requires _ c.valid.ensures c.if-not-valid.false c.if-w-gt-MAX_LINES.false c.if-w.true

holders-requires : tie.Need-holders-requires
holders-requires c κs =
    simulation_good c.args.w.now c.requires _ c.valid.ensures c.if-not-valid.false

returns-4 : tie.Need-returns-then-w-holders
returns-4 c =
    holders-many c.args.w.now c.requires _ c.valid.ensures c.if-not-valid.false c.if-w-gt-MAX_LINES.false c.if-w.false
    _ c.holders.ensures c.if-w-holders.true

returns-5 : tie.Need-returns
returns-5 c =
    holders-few c.args.w.now c.requires _ c.valid.ensures c.if-not-valid.false c.if-w-gt-MAX_LINES.false c.if-w.false
    _ c.holders.ensures c.if-w-holders.false _ refl

pub run_valid_spec : {M : Type 1} → statement M
run_valid_spec =
    tie.close
    (tie.spec
    (λ c. search rules)
    (λ c. search rules)
    (λ c. search rules)
    (λ c κs. search rules)
    (λ c. simulation_bad c.args.w.now c.requires _ c.valid.ensures c.if-not-valid.true)
    (λ c. search rules)
    returns-2
    (λ c. search rules)
    (λ c. search rules)
    returns-3
    (λ c. search rules)
    holders-requires
    returns-4
    (λ c. search rules)
    returns-5)
