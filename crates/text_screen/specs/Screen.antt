-- What the commissioning screen says of a setting, line by line, and the script of the run that shows a setting unsafe.
-- Each is the list of the texts that stand one after another.
use Rattle.system.specs.declared.Event.{Event}
use Rattle.std.specs.Prelude.{ℕ, zero, suc, List, [], ◌∷◌, ◌++◌, leb, ℤ, pos, negsuc, if◌then◌else◌, Ok, Err, Result, Some, None, Option}
use Rattle.ids.specs.Refusals.{code}
use Rattle.ids.specs.declared.Refusal.{Refusal}
use Rattle.ids.specs.declared.Refusal.TheVariants.{ParameterOutOfRange, Unsafe as NotSafe, Stalls as Stalling}
use Rattle.script_numbers.specs.Decimals.{decimal}
use Rattle.script_lines.specs.Printed.{event_line, setting_line}
use Rattle.text_sheet.specs.Sheet.{ends}
use Rattle.script_lines.specs.Words.{text, newline}
use Rattle.system.specs.Limits.{system_servers}
use Rattle.system.specs.declared.Setting.{Setting}
use Rattle.quorum.specs.declared.Proposal.{Proposal}
use Rattle.quorum.specs.declared.Proposal.TheVariants.{Thresholds, NoThreshold, OutOfRange as NoProposal}
use Rattle.quorum.specs.declared.Verdict.{Verdict}
use Rattle.quorum.specs.declared.Verdict.TheVariants.{Accepted, Unsafe, Stalls, OutOfRange}
use Rattle.quorum.specs.Check.{in_range, margin, verdict}
use Rattle.quorum.specs.Run.{run_event}
use Rattle.quorum.specs.Proposal.{proposal_of}
use Rattle.quorum.specs.Threshold.{threshold_of, most_faults}

-- a signed number
abbrev pub signed : ℤ → List (List ℕ)
signed (pos a) = decimal a ∷ []
signed (negsuc a) = text "-" ∷ decimal (suc a) ∷ []

-- a refusal: its number, and its word
abbrev pub refused_text : Refusal → List ℕ → List (List ℕ)
refused_text e why = text "no " ∷ decimal (code e) ∷ why ∷ ends

abbrev pub out_of_range_text : List (List ℕ)
out_of_range_text = refused_text ParameterOutOfRange (text " out of range")

unfoldable pub verdict_text : Verdict → List (List ℕ)
verdict_text (Accepted x) = (text "ok" ++ (newline ∷ [])) ∷ []
verdict_text (Unsafe x events) = refused_text NotSafe (text " unsafe")
verdict_text (Stalls x) = refused_text Stalling (text " stalls")
verdict_text OutOfRange = out_of_range_text

-- the margin of a setting in range
unfoldable pub margin_text : ℕ → ℕ → ℕ → List (List ℕ)
margin_text n m f = if in_range n m f then text "margin " ∷ (signed (margin n m f) ++ ends) else []

-- how many events the run of an unsafe setting has
unfoldable pub events_text : Verdict → List (List ℕ)
events_text (Unsafe x events) = text "events " ∷ decimal events ∷ ends
events_text (Accepted x) = []
events_text (Stalls x) = []
events_text OutOfRange = []

-- the default threshold of n servers, and the faults up to which it is accepted
unfoldable pub threshold_text : ℕ → Option ℕ → List (List ℕ)
threshold_text n (Some m) = text "usual threshold " ∷ decimal m ∷ text " for f up to " ∷ decimal (most_faults n) ∷ ends
threshold_text n None = []

-- a run of more servers than a simulation has can be read, not played
unfoldable pub limit_text : ℕ → List (List ℕ)
limit_text n = if leb n system_servers then [] else text "fits no gallery: at most " ∷ decimal system_servers ∷ text " keepers" ∷ ends

unfoldable pub fits_text : ℕ → Verdict → List (List ℕ)
fits_text n (Unsafe x events) = limit_text n
fits_text n (Accepted x) = []
fits_text n (Stalls x) = []
fits_text n OutOfRange = []

-- all that is said of a setting
abbrev pub report : ℕ → ℕ → ℕ → List (List ℕ)
report n m f =
    verdict_text (verdict n m f) ++ margin_text n m f ++ events_text (verdict n m f) ++ fits_text n (verdict n m f) ++ threshold_text n (threshold_of n)

unfoldable pub thresholds_text : Proposal → List (List ℕ)
thresholds_text (Thresholds a b) = text "thresholds " ∷ decimal a ∷ text " to " ∷ decimal b ∷ ends
thresholds_text NoThreshold = (text "thresholds none" ++ (newline ∷ [])) ∷ []
thresholds_text NoProposal = out_of_range_text

-- all that is said of n servers and f faults
abbrev pub proposal : ℕ → ℕ → List (List ℕ)
proposal n f = thresholds_text (proposal_of n f) ++ threshold_text n (threshold_of n)

-- the script's first line: the setting with two clients
abbrev pub opening : ℕ → ℕ → ℕ → Setting
opening n m f = record { n = n; m = m; f = f; clients = 2 }

abbrev pub opening_text : ℕ → ℕ → ℕ → List (List ℕ)
opening_text n m f = setting_line (opening n m f) ∷ ends

-- one event, a line
unfoldable pub asked_text : Result Event Refusal → List (List ℕ)
asked_text (Ok e) = event_line e ∷ ends
asked_text (Err e) = []

-- the first events of the unsafe run, by their numbers from 1
unfoldable pub run_text : ℕ → ℕ → ℕ → ℕ → List (List ℕ)
run_text n m f zero = []
run_text n m f (suc i) = run_text n m f i ++ asked_text (run_event n m f (suc i))

-- the whole script, where `events` is the number of events in the run
abbrev pub script_text : ℕ → ℕ → ℕ → ℕ → List (List ℕ)
script_text n m f events = opening_text n m f ++ run_text n m f events
