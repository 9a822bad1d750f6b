-- A call that returns a refusal's number leaves struct and buffer as they were.
use Prim.Native.Nat.{ℕ, ◌<◌}
use mathlib.Core.Path.{◌≡◌}
use mathlib.Core.List.{List}
use native.Mathlib.Omega.{arith}
use Rattle.wire.specs.Step.{Outcome, refused, stepped, sent_into}
use Rattle.capi.specs.Steps.{lent, code_of, record_into, counts_into}
use Rattle.capi_host.specs.Leaves.{Leaves}
use Rattle.capi_host.specs.declared.Host.{Host}

from-outcome : {r : ℕ} {h h' : Host} {out out' : List ℕ} (o : Outcome (List ℕ))
    → r ≡ code_of o → h'.words ≡ record_into h.words o → out' ≡ sent_into out o → h'.sent ≡ counts_into h.sent o → 0 < r → (h' ≡ h) × (out' ≡ out)
from-outcome (refused e) returned stored written counted some = ((λ i. record { words = stored i; sent = counted i }), written)
from-outcome (stepped p) returned stored written counted some = absurd (omega arith)

pub unchanged : (o : Outcome (List ℕ)) {r : ℕ} {h h' : Host} {out out' : List ℕ} → Leaves o r h h' out out' → 0 < r → (h' ≡ h) × (out' ≡ out)
unchanged o {h = h} {out = out} l = from-outcome (lent out h.sent o) l.returned l.stored l.written l.counted
