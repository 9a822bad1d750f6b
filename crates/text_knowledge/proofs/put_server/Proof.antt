-- `text_knowledge::put_server` meets its contract: its block is its place, whose head and row are read.
use Prim.Native.Nat.{ℕ}
use mathlib.Core.Path.{◌≡◌}
use mathlib.Core.List.{List}
use Rattle.server.specs.Record.{server_of}
use Rattle.words.specs.Records.{server_from}
use Rattle.sim_blocks.specs.Blocks.{server_record}
use Rattle.sim_layout.specs.Parts.{server_block_of}
use Rattle.sim_changes.proofs.Parties.{server_in_lem}
use Rattle.sim_changes.proofs.ServerEvents.{server_read}
use Rattle.text_sheet.proofs.SheetLaws.{then}
use Rattle.text_knowledge.proofs.KnowledgeLaws.{server-held, queue-padded, server-text}
use borrow.Author.Rules.{rules}
use Rattle.text_knowledge.proofs.put_server.Statement.{statement}
use Rattle.text_knowledge.proofs.put_server.Tie as tie

-- the record is read
module _ (c : tie.After-server_head-h) where
  abbrev row : List ℕ
  row = c.server_row.new.row

  read : server_of c.server_head-h.result row ≡ server_from (server_record (server_block_of c.args.w.now c.args.j))
  read = server_read _ _ _ c.server_head-h.ensures c.server_row.ensures

-- and what it says is put behind the number
module _ (c : tie.After-put_with-p) where
  abbrev known : tie.After-server_head-h
  known = c.before.before.before.before.before

returns : tie.Need-returns
returns c =
    rw (server-text _ _ c.requires _ _ (read c.before.before.before.before.before.before.before.before.before.before.before.before.before.before.before.before.before.before.before) _ c.is_up-up.ensures)
    (then _ _ _ (then _ _ _ c.put_with-p.ensures c.put_knowledge-e.ensures) c.put.ensures)

pub put_server_spec : {M : Type 1} → statement M
put_server_spec =
    tie.close
    (tie.spec
    (λ c κs. server_in_lem _ _ c.requires)
    (λ c. search rules)
    (λ c κs. (server_in_lem _ _ c.requires, search rules))
    (λ c κs. (server_in_lem _ _ c.requires, server-held _ c.args.j c.requires))
    (λ c. search rules)
    (λ c κs. search rules)
    (λ c. search rules)
    (λ c κs. queue-padded _ _ c.requires _ _ (read c.before.before.before.before.before.before.before.before.before.before))
    (λ c κs. search rules)
    (λ c. search rules)
    returns)
