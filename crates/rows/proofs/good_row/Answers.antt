-- The tests one after another.
use Rattle.rows.proofs.GoodLaws.{good_odd, good-short, good-wide, good_tested}
use Rattle.rows.proofs.good_row.Goals as goal

pub returns-then-n-row : goal.returns-then-n-row
returns-then-n-row c = search good_odd

pub returns-then-n-len : goal.returns-then-n-len
returns-then-n-len c = search good-short

pub returns-then-wide_places-ne0 : goal.returns-then-wide_places-ne0
returns-then-wide_places-ne0 c = search good-wide

pub returns : goal.returns
returns c = search good_tested
