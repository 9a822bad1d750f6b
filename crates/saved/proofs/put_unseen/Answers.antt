-- `saved::put_unseen` meets its contract: the numbers before the new word, the word, and what stands behind it.
use Rattle.std.proofs.Common.{rules}
use Rattle.saved.proofs.Ordered.{rest-inside, rest-fits, rest-kept, rest_put}
use Rattle.saved.proofs.put_unseen.Goals as goal

pub slice_bounds-copy-end-4 : goal.slice_bounds-copy-end-4
slice_bounds-copy-end-4 c = search (rules, rest-inside)

pub copy-requires-2 : goal.copy-requires-2
copy-requires-2 c = search rest-fits

pub shape_of-order : goal.shape_of-order
shape_of-order c = search rest-kept

pub returns : goal.returns
returns c = search rest_put
