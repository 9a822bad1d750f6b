-- Every case of the clock holds, by computation.
use mathlib.Core.Path.{refl}
use Rattle.ids.specs.Requests.{same}
use Rattle.client_responses.specs.Figure1.{enough, to_all, tries, exits, next, heard, judge, upon_response, upon_check}
use Rattle.system_cases.specs.Clock.{timestamps, seen, All}

pub timestamps_hold : All timestamps
unfolding timestamps to_all tries exits next
timestamps_hold = (refl, (refl, (refl, (refl, (refl, (refl, (refl, (refl, (refl, (refl, (refl, (refl, (refl, tt)))))))))))))

pub seen_hold : All seen
unfolding seen same enough heard judge upon_response upon_check
seen_hold = (refl, (refl, (refl, (refl, (refl, (refl, (refl, (refl, (refl, (refl, (refl, tt)))))))))))
