-- `text_knowledge::put_client` meets its contract: its block is its place, whose head and row are read.
use Prim.Native.Nat.{ℕ}
use mathlib.Core.Path.{◌≡◌}
use mathlib.Core.List.{List}
use Rattle.client.specs.Record.{client_of}
use Rattle.words.specs.Records.{client_from}
use Rattle.sim_blocks.specs.Blocks.{client_record}
use Rattle.sim_layout.specs.Parts.{client_block_of}
use Rattle.sim_changes.proofs.Parties.{client_in_lem}
use Rattle.sim_changes.proofs.ClientEvents.{client_read}
use Rattle.text_sheet.proofs.SheetLaws.{then}
use Rattle.text_knowledge.proofs.KnowledgeLaws.{client-held, responses-padded, client-text}
use borrow.Author.Rules.{rules}
use Rattle.text_knowledge.proofs.put_client.Statement.{statement}
use Rattle.text_knowledge.proofs.put_client.Tie as tie

-- the record is read
module _ (c : tie.After-client_head-h) where
  abbrev row : List ℕ
  row = c.client_row.new.row

  read : client_of c.client_head-h.result row ≡ client_from (client_record (client_block_of c.args.w.now c.args.k))
  read = client_read _ _ _ c.client_head-h.ensures c.client_row.ensures

-- and what it says is put behind the number
module _ (c : tie.After-put_with-p) where
  abbrev known : tie.After-client_head-h
  known = c.before.before.before.before.before

returns : tie.Need-returns
returns c =
    rw (client-text _ _ c.requires _ _ (read c.before.before.before.before.before.before.before.before.before.before.before.before.before.before.before.before.before.before) _ c.is_living-living.ensures)
    (then _ _ _ (then _ _ _ c.put_with-p.ensures c.put_life-e.ensures) c.put.ensures)

pub put_client_spec : {M : Type 1} → statement M
put_client_spec =
    tie.close
    (tie.spec
    (λ c κs. client_in_lem _ _ c.requires)
    (λ c. search rules)
    (λ c κs. (client_in_lem _ _ c.requires, search rules))
    (λ c κs. (client_in_lem _ _ c.requires, client-held _ c.args.k c.requires))
    (λ c. search rules)
    (λ c κs. search rules)
    (λ c. search rules)
    (λ c κs. responses-padded _ _ c.requires _ _ (read c.before.before.before.before.before.before.before.before.before))
    (λ c κs. search rules)
    (λ c. search rules)
    returns)
