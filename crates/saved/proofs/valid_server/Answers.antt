-- `saved::valid_server` meets its contract: one form, or else the other.
use Rattle.saved.proofs.FormLaws.{servers, earlier_sound, present_sound}
use Rattle.saved.proofs.valid_server.Goals as goal

pub returns-then-sound_server : goal.returns-then-sound_server
returns-then-sound_server c = search (earlier_sound servers)

pub returns : goal.returns
returns c = search (present_sound servers)
