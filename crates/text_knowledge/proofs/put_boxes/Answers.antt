-- The boxes of the servers, then those of the clients.
use Rattle.std.proofs.Common.{rules, ℕ}
use Rattle.system.specs.Numbered.{client_no, server_no}
use Rattle.system.specs.declared.Receiver.TheVariants.{Client, Server}
use Rattle.text_sheet.proofs.SheetLaws.{then}
use Rattle.text_knowledge.proofs.put_boxes.Goals as goal

pub returns : goal.returns
returns c =
    let p = c.put_boxes_of-p.ensures (λ (j : ℕ). Server (server_no j)) (λ i r q. search rules) in
    let q = c.put_boxes_of.ensures (λ (k : ℕ). Client (client_no k)) (λ i r q. search rules) in
    rw (← c.servers-n.ensures, ← c.clients-clients.ensures) (then _ _ _ p q)
