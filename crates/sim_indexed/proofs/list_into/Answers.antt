-- `sim_indexed::list_into` meets its contract: the card of slot i joins those before it.
use Rattle.sim_indexed.proofs.CardLaws.{card_may}
use Rattle.sim_indexed.proofs.ListingLaws.{add_may, listed_next, listed-size}
use Rattle.sim_indexed.proofs.list_into.Goals as goal

pub card_at-c-requires : goal.card_at-c-requires
card_at-c-requires c = search card_may

pub add-requires : goal.add-requires
add-requires c = add_may _ _ c.requires.0 _ _ c.requires.1 c.card_at-c.ensures

pub shape_of-x : goal.shape_of-x
shape_of-x c = search listed-size

pub returns : goal.returns
returns c = search listed_next
