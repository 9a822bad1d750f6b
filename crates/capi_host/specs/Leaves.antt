-- What a call leaves in the struct: what the call of `capi` leaves in its words and counts.
use Rattle.std.specs.Prelude.{ℕ, List}
use Rattle.wire.specs.Step.{Outcome}
use Rattle.capi.specs.Steps as words
use Rattle.capi_host.specs.declared.Host.{Host}

-- a call with this outcome, in the buffer that was lent, returns r, and leaves the struct h and the buffer out as they are named with a stroke
abbrev pub Leaves : Outcome (List ℕ) → ℕ → Host → Host → List ℕ → List ℕ → Type 0
Leaves o r h h' out out' = words.Leaves (words.lent out h.sent o) r h.words h'.words out out' h.sent h'.sent
