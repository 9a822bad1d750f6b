-- `saved::valid_client` meets its contract: words of today's form are judged as they stand, others, of a length that can be, in today's order.
use Rattle.saved.proofs.Ordered.{today_judged, too_short, too_long, earlier_judged}
use Rattle.saved.proofs.valid_client.Goals as goal

pub returns-then-n-eq-CLIENT_WORDS : goal.returns-then-n-eq-CLIENT_WORDS
returns-then-n-eq-CLIENT_WORDS c = search today_judged

pub returns-then-n-lt-EARLIER_HEAD : goal.returns-then-n-lt-EARLIER_HEAD
returns-then-n-lt-EARLIER_HEAD c = search too_short

pub returns-then-n-gt-CLIENT_WORDS : goal.returns-then-n-gt-CLIENT_WORDS
returns-then-n-gt-CLIENT_WORDS c = search too_long

pub returns : goal.returns
returns c = search earlier_judged
