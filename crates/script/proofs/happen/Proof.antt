-- `script::happen` meets its contract: the simulation is lent for the event of its run, then the counts are stored and the reply printed.
use Rattle.script.proofs.StepLaws.{simulation_valid, counts-small, event-long, event-same, event-happened}
use borrow.Author.Rules.{rules}
use Rattle.script.proofs.happen.Statement.{statement}
use Rattle.script.proofs.happen.Tie as tie

-- the counts are read, the event has happened, the counts are stored
module _ (c : tie.After-counts_in-counts) where
  abbrev entry : tie.Start
  entry = c.before.before.before.before

module _ (c : tie.After-event-went) where
  abbrev counted : tie.After-counts_in-counts
  counted = c.before.before

module _ (c : tie.After-put_counts) where
  abbrev went : tie.After-event-went
  went = c.before.before.before.before.before

event-requires : tie.Need-event-went-requires
event-requires c κs =
    let a = c.args in
    (simulation_valid a.w.now a.out.now a.at c.requires.0 c.requires.1, counts-small a.w.now c.requires.1 _ c.counts_in-counts.ensures)

put-counts-requires : tie.Need-put_counts-requires
put-counts-requires c κs =
    let a = c.args in
    event-long a.w.now a.out.now a.at c.requires.0 c.requires.1 a.e _ _ c.counts_in-counts.ensures _ c.event-went.ensures

same_length : tie.Need-shape_of-w
same_length c =
    let a = c.args in
    event-same a.w.now a.out.now a.at c.requires.0 c.requires.1 a.e _ _ c.counts_in-counts.ensures _ c.event-went.ensures
    _ c.put_counts.ensures

returns : tie.Need-returns
returns c =
    let a = c.args in
    event-happened a.w.now a.out.now a.at c.requires.0 c.requires.1 a.e _ _ c.counts_in-counts.ensures _ c.event-went.ensures
    _ c.put_counts.ensures _ _ c.put_reply.ensures

pub happen_spec : {M : Type 1} → statement M
happen_spec =
    tie.close
    (tie.spec
    (λ c. search rules)
    (λ c. search rules)
    (λ c κs. search rules)
    (λ c. search rules)
    (λ c. search rules)
    (λ c. search rules)
    event-requires
    put-counts-requires
    (λ c κs. (entry (counted (went c.before.before.before))).requires.0.room)
    same_length
    (λ c. search rules)
    returns)
