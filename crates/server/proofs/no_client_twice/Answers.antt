-- The test of each place is that of the queue from there on.
use Rattle.std.proofs.Common.{rules, refl, ◌∙◌, ℕ, take, drop, not}
use Rattle.std.proofs.lemmas.Iterator.{YieldsList-from_range}
use Rattle.std.proofs.lemmas.Iterator.Search.{all_from_yields_List}
use Rattle.ids.proofs.ListLaws.{every-all}
use Rattle.server.specs.Inner.{repeats}
use Rattle.rows.specs.Rows.{requests_in}
use Rattle.server.proofs.ValidLaws.{once_decided}
use Rattle.server.proofs.no_client_twice.Goals as goal

pub returns : goal.returns
returns c =
    let P = requests_in c.args.row.now in
    let f = λ (i : ℕ). not (repeats (drop i (take c.args.len P))) in
    once_decided P c.args.len c.requires.within _
    (all_from_yields_List f _ _ c.all.result c.all.ensures.ran (YieldsList-from_range 0 c.args.len _ refl refl) (λ i b q k. search rules) ∙ every-all f _)
