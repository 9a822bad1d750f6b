-- The blocks are tested by their places.
use Rattle.std.proofs.Common.{ℕ, ◌+◌, ◌∙◌, refl, arith, rules, tests}
use Rattle.std.proofs.lemmas.Iterator.{YieldsList-from_range}
use Rattle.std.proofs.lemmas.Iterator.Search.{all_from_yields_List}
use Rattle.sim_blocks.specs.Blocks.{valid_client_block, client_block}
use Rattle.sim_layout.specs.Layout.{client_words}
use Rattle.sim_layout.specs.Parts.{client_block_of}
use Rattle.sim_layout.proofs.ValidLaws.{valid-all}
use Rattle.sim_layout.proofs.clients_valid.Goals as goal
use Rattle.system.specs.Numbered.{client_no}

pub returns : goal.returns
returns c =
    let w = c.args.w.now in
    let f = λ (i : ℕ). valid_client_block c.args.n c.args.m c.args.clients (client_no i) in
    all_from_yields_List (λ (i : ℕ). f (i + 1) (client_block_of w (client_no (i + 1)))) _ _ c.all.result c.all.ensures.ran
    (YieldsList-from_range 0 c.args.clients c.args.clients refl (omega arith)) (λ x b q k. search (rules, tests)) ∙
    valid-all f client_block (client_words w) 0 c.args.clients
