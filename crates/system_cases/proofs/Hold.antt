-- Every starred case holds, by computation.
use mathlib.Core.Path.{refl}
use Rattle.ids.specs.Order.{before}
use Rattle.ids.specs.Requests.{same}
use Rattle.rows.specs.Queue.{timestamp_in, insert, without}
use Rattle.server_votes.specs.Figure1.{enqueue, promote, delete, inform, act, receive}
use Rattle.client_responses.specs.Figure1.{enough, heard, reply, round, judge, upon_response}
use Rattle.quorum.specs.Check.{in_range_up_to, margin, is_unsafe, judged, verdict}
use Rattle.system_cases.specs.Starred.{starred, All}

pub starred_hold : All starred
unfolding starred before same timestamp_in insert enqueue without promote delete inform act receive enough heard reply round judge upon_response
    in_range_up_to margin is_unsafe judged verdict
starred_hold = (refl, (refl, (refl, (refl, (refl, (refl, (refl, (refl, (refl, (refl, (refl, (refl, (refl, tt)))))))))))))
