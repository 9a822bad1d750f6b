-- `sim_indexed::pend` meets its contract: the entry's mark decides, and a delivered message is marked anew at its entry and at its slot.
use Rattle.sim_indexed.proofs.PendLaws.{index-inside, table-inside, still-inside, entry-may, find_may, pends_none}
use Rattle.sim_indexed.proofs.PendLaws.{Looked, slot-may, pends_size, pends}
use borrow.Author.Rules.{rules}
use Rattle.sim_indexed.proofs.pend.Statement.{statement}
use Rattle.sim_indexed.proofs.pend.Tie as tie

-- the slot is found
module _ (c : tie.After-find_present-i) where
  abbrev entry : tie.Start
  entry = c.before.before.before.before.before.before.before.before

  found : Looked c.args.len c.args.at c.args.t.now c.find_present-i.result
  found = record { entry = c.requires; number = _; read = c.number_at-number.ensures; slot = c.find_present-i.ensures }

-- the entry is marked
module _ (c : tie.After-put_mark) where
  abbrev looked : tie.After-find_present-i
  looked = c.before.before

-- the slot is marked
module _ (c : tie.After-put_mark-2) where
  abbrev marked : tie.After-put_mark
  marked = c.before.before.before.before

put-mark-requires-2 : tie.Need-put_mark-requires-2
put-mark-requires-2 c κs = slot-may (found (looked c.before.before.before)) c.put_mark.ensures

same-length-2 : tie.Need-shape_of-t
same-length-2 c = pends_size (found (looked c.before.before.before.before.before.before)) c.put_mark.ensures c.put_mark-2.ensures

returns-2 : tie.Need-returns
returns-2 c = pends (found (looked c.before.before.before.before.before.before)) c.put_mark.ensures c.put_mark-2.ensures

pub pend_spec : {M : Type 1} → statement M
pend_spec =
    tie.close
    (tie.spec
    (λ c. search rules)
    (λ c. search rules)
    (λ c. search index-inside)
    (λ c κs. search entry-may)
    (λ c. search rules)
    (λ c. search pends_none)
    (λ c. search rules)
    (λ c. search rules)
    (λ c. search index-inside)
    (λ c κs. search entry-may)
    (λ c. search rules)
    (λ c. search rules)
    (λ c. search table-inside)
    (λ c κs. search find_may)
    (λ c. search rules)
    (λ c. search rules)
    (λ c. search index-inside)
    (λ c κs. search entry-may)
    (λ c. search rules)
    (λ c. search rules)
    (λ c. search still-inside)
    put-mark-requires-2
    same-length-2
    returns-2)
