-- Every script plays as it says, by computation.
use mathlib.Core.Path.{refl}
use Rattle.ids.specs.Order.{before}
use Rattle.ids.specs.Requests.{same}
use Rattle.rows.specs.Queue.{timestamp_in, insert, without}
use Rattle.server_votes.specs.Figure1.{enqueue, promote, delete, inform, act, receive, suspect, check}
use Rattle.client_responses.specs.Figure1.{enough, to_all, tries, exits, next, heard, reply, round, judge, upon_response, upon_check}
use Rattle.system.specs.Numbered.{added}
use Rattle.system.specs.Transit.{numbered, pending, replaced}
use Rattle.system.specs.Places.{down_from, worst}
use Rattle.system.specs.Events.{deliver, event}
use Rattle.system.specs.Runs.{after, start, run_by, accepted_events, most_holders}
use Rattle.system_cases.specs.Scripts.{AllPlay, played, scripts, example, two_holders, yield_round, redelivery, ownerless_answer, lost_release, old_timestamp_answer, late_request, inquiry_or_request, earlier_timestamp_first, fallen_owner, request_of_the_fallen, epochs, down_at_the_start, stalling_setting, refusals}

pub scripts_play : AllPlay scripts
unfolding before same timestamp_in insert enqueue without promote delete inform act receive suspect check enough to_all tries exits next heard
    reply round judge upon_response upon_check added numbered pending replaced down_from worst deliver event after start run_by accepted_events
    most_holders played scripts example two_holders yield_round redelivery ownerless_answer lost_release old_timestamp_answer late_request
    inquiry_or_request earlier_timestamp_first fallen_owner request_of_the_fallen epochs down_at_the_start stalling_setting refusals
scripts_play = (refl, (refl, (refl, (refl, (refl, (refl, (refl, (refl, (refl, (refl, (refl, (refl, (refl, (refl, (refl, (refl, tt))))))))))))))))
