-- However the input is cut into parts and however small the output buffers are, what the calls print joined is `output` of the whole:
-- a call takes in some of the bytes it is given as `fed` does, and the next goes on behind them.
use mathlib.Core.Path.{◌≡◌, refl, sym, ap, ◌∙◌}
use mathlib.Core.Logic.{⊎_elim}
use Prim.Native.Nat.{ℕ, ◌-◌, ◌≤◌}
use native.Mathlib.Omega.{arith}
use mathlib.Core.Bool.{true, false}
use mathlib.Core.List.{List, [], ◌∷◌, ◌++◌, append_assoc, append-nil}
use lib.Dec.{ltb}
use lib.ListN.{length, take, drop, length-take, take-append-drop}
use lib.Seq.{take-take}
use borrow.Author.Tests.{le-ltb}
use Rattle.ids.proofs.Choice.{decided}
use Rattle.script_output.specs.Output.{output}
use Rattle.script_output.specs.Reader.{Reader, Printed, taken, fed, Fed, max_printed, fed_within, finished, empty, Call, Session, session}
use Rattle.script_output.proofs.Whole.{whole, in_parts}

-- a call takes in what it uses as `fed` does
abbrev printed_by : Fed → Printed Reader
printed_by q = record { now = q.now; out = q.out }

pub within-fed : (room : ℕ) (r : Reader) (s : List ℕ) → fed r (take (fed_within room r s).used s) ≡ printed_by (fed_within room r s)
unfolding fed_within fed
within-fed room r [] = refl
within-fed room r (b ∷ s) =
    ⊎_elim
    (λ (e : ltb room max_printed ≡ true). rw e)
    (λ (e : ltb room max_printed ≡ false). rw e
    (ap (λ (p : Printed Reader). record { now = p.now; out = (taken r b).out ++ p.out }) (within-fed (room - length (taken r b).out) (taken r b).now s)))
    (decided (ltb room max_printed))

-- no more than it was given
pub used-few : (room : ℕ) (r : Reader) (s : List ℕ) → (fed_within room r s).used ≤ length s
unfolding fed_within
used-few room r [] = omega arith
used-few room r (b ∷ s) =
    ⊎_elim
    (λ (e : ltb room max_printed ≡ true). rw e (omega arith))
    (λ (e : ltb room max_printed ≡ false). rw e (omega (arith, used-few (room - length (taken r b).out) (taken r b).now s)))
    (decided (ltb room max_printed))

-- and at least one byte, where there is room for a line
pub progress : (room : ℕ) (r : Reader) (b : ℕ) (s : List ℕ) → max_printed ≤ room → 1 ≤ (fed_within room r (b ∷ s)).used
unfolding fed_within
progress room r b s h = rw (le-ltb room max_printed h) (omega arith)

-- the whole input, as the calls take it in
session-fed : (cs : List Call) (r : Reader) (s : List ℕ) → fed r s ≡
    record {
      now = (fed (session r s cs).now (session r s cs).left).now;
      out = (session r s cs).out ++ (fed (session r s cs).now (session r s cs).left).out;
    }
unfolding session
session-fed [] r s = refl
session-fed (c ∷ cs) r s =
    ap (fed r) (sym (take-append-drop q.used s)) ∙
    (in_parts r (take q.used s) (drop q.used s) ∙
    (ap (λ (p : Printed Reader). record { now = (fed p.now (drop q.used s)).now; out = p.out ++ (fed p.now (drop q.used s)).out }) first ∙
    (ap (λ (p : Printed Reader). record { now = p.now; out = q.out ++ p.out }) (session-fed cs q.now (drop q.used s)) ∙
    ap (λ (x : List ℕ). record { now = (fed t.now t.left).now; out = x }) (sym (append_assoc q.out t.out (fed t.now t.left).out)))))
  where
    q : Fed
    q = fed_within c.room r (take c.given s)

    t : Session
    t = session q.now (drop q.used s) cs

    few : q.used ≤ c.given
    few = omega (arith, used-few c.room r (take c.given s), length-take c.given s)

    first : fed r (take q.used s) ≡ printed_by q
    first = ap (fed r) (sym (take-take q.used c.given s few)) ∙ within-fed c.room r (take c.given s)

-- The promise of the calls: once all of the input is taken in, what was printed, and then the end, is the output of the whole.
pub any_cuts : (input : List ℕ) (cs : List Call) → (session empty input cs).left ≡ []
    → (session empty input cs).out ++ finished (session empty input cs).now ≡ output input
unfolding fed
any_cuts input cs e =
    let t : Session = session empty input cs in
    let f : fed empty input ≡ record { now = t.now; out = t.out ++ [] } =
    session-fed cs empty input ∙ ap (λ (x : List ℕ). record { now = (fed t.now x).now; out = t.out ++ (fed t.now x).out }) e in
    ap (λ (x : List ℕ). x ++ finished t.now) (sym (append-nil t.out)) ∙
    (ap (λ (p : Printed Reader). p.out ++ finished p.now) (sym f) ∙ whole input)
