-- The thresholds that the commissioning screen proposes for n servers and f faults: exactly those with which the setting is accepted.
use Rattle.std.specs.Prelude.{◌≡◌, ℕ, ◌+◌, ◌-◌, ◌/◌, Bool, true, false, ◌&&◌, [], ◌∷◌, leb, if◌then◌else◌, Some}
use Rattle.ids.specs.Limits.{within, max_servers}
use Rattle.ids.specs.Refusals.{code, Says, accepts, refuses}
use Rattle.ids.specs.declared.Refusal.TheVariants.{ParameterOutOfRange}
use Rattle.quorum.specs.declared.Proposal.{Proposal}
use Rattle.quorum.specs.declared.Proposal.TheVariants.{Thresholds, NoThreshold, OutOfRange}
use Rattle.quorum.specs.declared.Verdict.{Verdict}
use Rattle.quorum.specs.declared.Verdict.TheVariants.{Accepted, Unsafe, Stalls, OutOfRange as Outside}
use Rattle.quorum.specs.Check.{verdict}
use Rattle.quorum.specs.Threshold.{threshold_of}

abbrev pub is_accepted : Verdict → Bool
is_accepted (Accepted x) = true
is_accepted (Unsafe x events) = false
is_accepted (Stalls x) = false
is_accepted Outside = false

-- the thresholds that a proposal names: all from the first to the second
abbrev pub names : Proposal → ℕ → Bool
names (Thresholds a b) m = leb a m && leb m b
names NoThreshold m = false
names OutOfRange m = false

-- every threshold is named exactly if the setting with it is accepted
abbrev pub Proposes : ℕ → ℕ → Proposal → Type 0
Proposes n f p = (m : ℕ) → names p m ≡ is_accepted (verdict n m f)

-- the default threshold of n servers is accepted with every number of faults up to r, and with no other
abbrev pub Bears : ℕ → ℕ → Type 0
Bears n r = (m f : ℕ) → threshold_of n ≡ Some m → is_accepted (verdict n m f) ≡ leb f r

-- the least whole number above half of x
abbrev pub above_half : ℕ → ℕ
above_half x = x / 2 + 1

-- a safe threshold is above half of n + f, and one that does not stall at most n − f
unfoldable pub proposal_of : ℕ → ℕ → Proposal
proposal_of n f =
    let least : ℕ = above_half (n + f) in
    if within n max_servers && leb f n then
    if leb (least + f) n then Thresholds least (n - f)
    else NoThreshold
    else OutOfRange

-- the answers in document 01's numbers: the first and the last threshold, or none
abbrev pub proposal_says : Proposal → Says ℕ
proposal_says (Thresholds a b) = accepts (a ∷ b ∷ [])
proposal_says NoThreshold = accepts []
proposal_says OutOfRange = refuses (code ParameterOutOfRange)

unfoldable pub propose_says : ℕ → ℕ → Says ℕ
propose_says n f =
    let least : ℕ = above_half (n + f) in
    if within n max_servers && leb f n then
    if leb (least + f) n then accepts (least ∷ (n - f) ∷ [])
    else accepts []
    else refuses 7
