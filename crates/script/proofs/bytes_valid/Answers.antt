-- `all` tests each word of the line.
use Rattle.std.proofs.Common.{◌∙◌, rules, tests}
use Rattle.std.proofs.lemmas.Iterator.{YieldsList-from_slice}
use Rattle.std.proofs.lemmas.Iterator.Search.{all_from_yields_List}
use Rattle.ids.proofs.ListLaws.{every-all}
use Rattle.script.specs.State.{byte_word, kept_in}
use Rattle.script.proofs.bytes_valid.Goals as goal

pub returns : goal.returns
unfolding kept_in
returns c =
    all_from_yields_List byte_word _ _ c.all.result c.all.ensures.ran (YieldsList-from_slice _ c.iter.ensures.rest) (λ x b q k. search (rules, tests)) ∙
    every-all byte_word (kept_in c.args.w.now)
