-- `saved::ordered_client` meets its contract: one form, or else the other.
use Rattle.saved.proofs.FormLaws.{clients, earlier_sound, present_sound}
use Rattle.saved.proofs.ordered_client.Goals as goal

pub returns-then-sound_client : goal.returns-then-sound_client
returns-then-sound_client c = search (earlier_sound clients)

pub returns : goal.returns
returns c = search (present_sound clients)
