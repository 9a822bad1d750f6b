-- `script::begin` meets its contract: the simulation is lent for a new run, and the header or the refusal printed.
use Rattle.script.proofs.StepLaws.{begin_ready, begin_refused, begin_long, begin_room, begin_same, begin_running}
use borrow.Author.Rules.{rules}
use Rattle.script.proofs.begin.Statement.{statement}
use Rattle.script.proofs.begin.Tie as tie

-- the run is asked for
module _ (c : tie.After-new) where
  abbrev entry : tie.Start
  entry = c.before.before.before.before

-- it is refused
module _ (c : tie.In-Err) where
  abbrev asked : tie.After-new
  asked = c.before.before.before

-- it is made
module _ (c : tie.In-Ok) where
  abbrev made : tie.After-new
  made = c.before.before.before

-- and the script runs
module _ (c : tie.After-start) where
  abbrev run : tie.In-Ok
  run = c.before.before

refuse-requires : tie.Need-refuse-requires
refuse-requires c κs =
    let a = c.args in
    begin_ready a.w.now a.out.now a.at c.requires.0 c.requires.1 a.s _ _ c.new.ensures.0 _ c.in-Err.is

start-requires : tie.Need-start-requires
start-requires c κs =
    let a = c.args in
    begin_long a.w.now a.out.now a.at c.requires.0 c.requires.1 a.s _ _ c.new.ensures.0 _ c.in-Ok.is

put-header-requires : tie.Need-put_header-requires
put-header-requires c κs =
    let a = c.args in
    begin_room a.w.now a.out.now a.at c.requires.0 c.requires.1 a.s _ _ c.new.ensures.0 _ c.in-Ok.is

returns : tie.Need-returns-in-Err
returns c =
    let a = c.args in
    begin_refused a.w.now a.out.now a.at c.requires.0 c.requires.1 a.s _ _ c.new.ensures.0 _ c.in-Err.is
    _ _ _ c.refuse.ensures

same-length-3 : tie.Need-shape_of-w-in-Ok
same-length-3 c =
    let a = c.args in
    begin_same a.w.now a.out.now a.at c.requires.0 c.requires.1 a.s _ _ c.new.ensures.0 _ c.in-Ok.is
    _ c.start.ensures

returns-2 : tie.Need-returns-in-Ok
returns-2 c =
    let a = c.args in
    begin_running a.w.now a.out.now a.at c.requires.0 c.requires.1 a.s _ _ c.new.ensures.0 _ c.in-Ok.is
    _ c.start.ensures _ _ c.put_header.ensures

pub begin_spec : {M : Type 1} → statement M
begin_spec =
    tie.close
    (tie.spec
    (λ c. search rules)
    (λ c. search rules)
    (λ c. search rules)
    (λ c κs. search rules)
    (λ c. search rules)
    refuse-requires
    (λ c. search rules)
    start-requires
    put-header-requires
    (λ c. search rules)
    (λ c. search rules)
    returns
    same-length-3
    (λ c. search rules)
    returns-2)
