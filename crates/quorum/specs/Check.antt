-- The check of a setting n, m, f: its answer in arithmetic, and what demand 3 says of an answer, which speaks of runs.
use Rattle.std.specs.Prelude.{◌≡◌, ◌↔◌, ℕ, ◌+◌, ◌*◌, ◌≤◌, Bool, true, ◌&&◌, [], ◌∷◌, leb, ltb, ℤ, pos, ◌-ℤ◌, length, if◌then◌else◌}
use Rattle.std.specs.Int.Signed.{le_z}
use Rattle.ids.specs.Limits.{within, max_servers}
use Rattle.ids.specs.Refusals.{code, Says, accepts, refuses, refuses_with}
use Rattle.ids.specs.declared.Refusal.TheVariants.{ParameterOutOfRange, Unsafe as NotSafe, Stalls as Stalling}
use Rattle.client_responses.specs.Figure1.{enough}
use Rattle.system.specs.Limits.{system_clients}
use Rattle.system.specs.Setting as setting
use Rattle.system.specs.Setting.{ShowsUnsafe, unsafe_run}
use Rattle.quorum.specs.declared.Verdict.{Verdict}
use Rattle.quorum.specs.declared.Verdict.TheVariants.{Accepted, Unsafe, Stalls, OutOfRange}

-- n servers, 1 to a limit, threshold 1 to n, faults 0 to n
unfoldable pub in_range_up_to : ℕ → ℕ → ℕ → ℕ → Bool
in_range_up_to limit n m f = within n limit && (within m n && leb f n)

-- the limit of a message's servers
abbrev pub in_range : ℕ → ℕ → ℕ → Bool
in_range n m f = in_range_up_to max_servers n m f

-- 2 times m, minus n, minus f, a signed number
unfoldable pub margin : ℕ → ℕ → ℕ → ℤ
margin n m f = pos (2 * m) -ℤ pos n -ℤ pos f

-- the margin is at most 0
unfoldable pub is_unsafe : ℕ → ℕ → ℕ → Bool
is_unsafe n m f = le_z (margin n m f) (pos 0)

-- m > n − f
abbrev pub is_stalling : ℕ → ℕ → ℕ → Bool
is_stalling n m f = ltb n (m + f)

-- the answer for a setting in range
unfoldable pub judged : ℕ → ℕ → ℕ → Verdict
judged n m f =
    if is_unsafe n m f then Unsafe (margin n m f) (length (unsafe_run n m))
    else if is_stalling n m f then Stalls (margin n m f)
    else Accepted (margin n m f)

unfoldable pub verdict : ℕ → ℕ → ℕ → Verdict
verdict n m f = if in_range n m f then judged n m f else OutOfRange

-- the answers in document 01's numbers: the margin, and with 8 the count of events in its run; 7 alone
abbrev pub verdict_says : Verdict → Says ℤ
verdict_says (Accepted x) = accepts (x ∷ [])
verdict_says (Unsafe x events) = refuses_with (code NotSafe) (x ∷ (pos events ∷ []))
verdict_says (Stalls x) = refuses_with (code Stalling) (x ∷ [])
verdict_says OutOfRange = refuses (code ParameterOutOfRange)

unfoldable pub check_says : ℕ → ℕ → ℕ → Says ℤ
check_says n m f =
    let x : ℤ = margin n m f in
    if in_range n m f then
    if is_unsafe n m f then refuses_with 8 (x ∷ (pos (length (unsafe_run n m)) ∷ []))
    else if is_stalling n m f then refuses_with 9 (x ∷ [])
    else accepts (x ∷ [])
    else refuses 7

abbrev pub number_of : Verdict → ℕ
number_of v = (verdict_says v).number

-- Demand 3, of the answer v to the check of a setting in range, for each number of clients from 2 to 16: refused 8 exactly if
-- some run has two living clients in the critical section at once; then the unsafe run, which is given event by event, is
-- such a run; a safe setting refused 9 exactly if some f servers, down for good, keep a client out.
pub record Demand3 (n m f : ℕ) (v : Verdict) : Type 0 where
  pub unsafe : in_range n m f ≡ true → (clients : ℕ) → 2 ≤ clients → clients ≤ system_clients → (number_of v ≡ 8) ↔ setting.Unsafe n (enough m) f clients
  pub shown : in_range n m f ≡ true → (clients : ℕ) → 2 ≤ clients → clients ≤ system_clients → number_of v ≡ 8 → ShowsUnsafe n (enough m) f clients (unsafe_run n m)
  pub stalls : in_range n m f ≡ true → (clients : ℕ) → 2 ≤ clients → clients ≤ system_clients →
      (number_of v ≡ 9) ↔ ((setting.Unsafe n (enough m) f clients → ⊥) × setting.Stalls n (enough m) f clients)
