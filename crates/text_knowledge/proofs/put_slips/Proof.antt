-- `text_knowledge::put_slips` meets its contract: the slips of the servers, then those of the clients.
use native.Mathlib.Omega.{arith}
use Rattle.text_sheet.proofs.SheetLaws.{then}
use borrow.Author.Rules.{rules}
use Rattle.text_knowledge.proofs.put_slips.Statement.{statement}
use Rattle.text_knowledge.proofs.put_slips.Tie as tie

-- the servers' slips are put
module _ (c : tie.After-put_servers-p) where
  abbrev counted : tie.After-clients-clients
  counted = c.before.before

returns : tie.Need-returns
returns c =
    rw (← c.servers-n.ensures, ← c.clients-clients.ensures) (then _ _ _ c.put_servers-p.ensures c.put_clients.ensures)

pub put_slips_spec : {M : Type 1} → statement M
put_slips_spec =
    tie.close
    (tie.spec
    (λ c κs. search rules)
    (λ c κs. search rules)
    (λ c κs. (c.requires, omega (arith, c.servers-n.ensures)))
    (λ c κs. (c.requires, omega (arith, c.clients-clients.ensures)))
    (λ c. search rules)
    returns)
