-- The test of each place is the test of each request.
use Rattle.std.proofs.Common.{rules, refl, ◌∙◌, ℕ, get_or}
use Rattle.std.proofs.lemmas.Iterator.{YieldsList-from_range}
use Rattle.std.proofs.lemmas.Iterator.Search.{all_from_yields_List}
use Rattle.ids.proofs.ListLaws.{every-all}
use Rattle.ids.specs.Requests.{no_request}
use Rattle.ids.specs.Limits.{valid_request}
use Rattle.rows.specs.Rows.{requests_in}
use Rattle.server.proofs.ValidLaws.{valid_decided}
use Rattle.server.proofs.all_valid.Goals as goal

pub returns : goal.returns
returns c =
    let P = requests_in c.args.row.now in
    let f = λ (i : ℕ). valid_request (get_or P i no_request) in
    valid_decided P c.args.len c.requires.within _
    (all_from_yields_List f _ _ c.all.result c.all.ensures.ran (YieldsList-from_range 0 c.args.len _ refl refl) (λ i b q k. search rules) ∙ every-all f _)
