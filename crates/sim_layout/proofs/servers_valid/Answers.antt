-- The blocks are tested by their places.
use Rattle.std.proofs.Common.{ℕ, ◌+◌, ◌∙◌, refl, arith, rules, tests}
use Rattle.std.proofs.lemmas.Iterator.{YieldsList-from_range}
use Rattle.std.proofs.lemmas.Iterator.Search.{all_from_yields_List}
use Rattle.sim_blocks.specs.Blocks.{valid_server_block, server_block}
use Rattle.sim_layout.specs.Layout.{server_words}
use Rattle.sim_layout.specs.Parts.{server_block_of}
use Rattle.sim_layout.proofs.ValidLaws.{valid-all}
use Rattle.sim_layout.proofs.servers_valid.Goals as goal
use Rattle.system.specs.Numbered.{server_no}

pub returns : goal.returns
returns c =
    let w = c.args.w.now in
    let f = λ (i : ℕ). valid_server_block c.args.n c.args.clients (server_no i) in
    all_from_yields_List (λ (i : ℕ). f (i + 1) (server_block_of w (server_no (i + 1)))) _ _ c.all.result c.all.ensures.ran
    (YieldsList-from_range 0 c.args.n c.args.n refl (omega arith)) (λ x b q k. search (rules, tests)) ∙
    valid-all f server_block (server_words w) 0 c.args.n
