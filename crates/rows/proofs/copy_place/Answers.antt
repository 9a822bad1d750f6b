-- Two stores, of the other place's words.
use Rattle.rows.proofs.WordLaws.{put_copied}
use Rattle.rows.proofs.copy_place.Goals as goal

pub returns : goal.returns
returns c = search put_copied
