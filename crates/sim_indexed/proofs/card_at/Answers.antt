-- `sim_indexed::card_at` meets its contract: the slot's words are read, and they are its card.
use Rattle.sim_indexed.proofs.CardLaws.{read_named, card_read}
use Rattle.sim_indexed.proofs.card_at.Goals as goal

pub place_by-place-requires : goal.place_by-place-requires
place_by-place-requires c = search read_named

pub returns : goal.returns
returns c = search card_read
