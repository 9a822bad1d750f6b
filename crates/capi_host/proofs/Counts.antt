-- The struct has room for the counts: the buffer's room alone decides refusal 6.
use Prim.Native.Nat.{ℕ}
use mathlib.Core.Path.{◌≡◌, refl}
use mathlib.Core.List.{List}
use lib.ListN.{length}
use Rattle.wire.specs.Step.{Outcome, refused, stepped, with_room}
use Rattle.capi.specs.Steps.{with_counts, lent}

from-outcome : (room : ℕ) (o : Outcome (List ℕ)) → room ≡ 2 → with_counts room o ≡ o
from-outcome room (refused e) two = refl
from-outcome room (stepped p) two = rw two refl

pub have_room : (out sent : List ℕ) (o : Outcome (List ℕ)) → length sent ≡ 2 → lent out sent o ≡ with_room (length out) o
have_room out sent o two = from-outcome (length sent) (with_room (length out) o) two
