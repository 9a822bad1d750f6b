-- `sim_layout::sink_server` meets its contract: the block is lent, and what the callee says of it is said of the simulation's block.
use Rattle.sim_layout.proofs.LendLaws.{server-written, server-lent, server_block-long}
use lib.ListN.{length, set, length-set}
use lib.Seq.{sets, length-sets}
use mathlib.Core.Path.{◌≡◌, ◌∙◌}
use mathlib.Core.List.{List}
use Prim.Native.Nat.{ℕ}
use Rattle.sim_blocks.specs.Blocks.{server_record, emptied, server_block, holds_server_record}
use Rattle.words.specs.Records.{server_from, server_words}
use borrow.Author.Rules.{rules}
use Rattle.sim_layout.proofs.sink_server.Statement.{statement}
use Rattle.sim_layout.proofs.sink_server.Tie as tie

sink-requires : tie.Need-sink-requires
sink-requires c κs =
    let a = c.args in
    let i = c.requires.0 in (
      server-lent a.w.now a.j i length server_block (server_block-long a.w.now a.j.0 i.long i.first i.last),
      server-lent a.w.now a.j i (λ b. holds_server_record (server_record b)) _ c.requires.1,
    )

abbrev sunk : List ℕ → List ℕ
sunk b = set (sets b 1 (server_words (emptied (server_from (server_record b))))) 0 0

length-sunk : (b : List ℕ) → length (sunk b) ≡ length b
length-sunk b = length-set (sets b 1 (server_words (emptied (server_from (server_record b))))) 0 0 ∙
    length-sets b 1 (server_words (emptied (server_from (server_record b))))

returns : tie.Need-returns
returns c =
    let a = c.args in
    server-written a.w.now a.j c.requires.0 sunk _ length-sunk c.sink.ensures

pub sink_server_spec : {M : Type 1} → statement M
sink_server_spec =
    tie.close
    (tie.spec
    (λ c. search rules)
    (λ c. search rules)
    (λ c. search rules)
    (λ c. search rules)
    (λ c. search rules)
    (λ c. search rules)
    (λ c. search rules)
    (λ c. search rules)
    (λ c. search rules)
    sink-requires
    (λ c. search rules)
    returns)
