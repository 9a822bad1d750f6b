-- Events, printed and read: a printed event is read as the same event, and a line that is read as an event is that event's line.
use Prim.Native.Nat.{ℕ, ◌≤◌}
use native.Mathlib.Omega.{arith}
use mathlib.Core.Path.{◌≡◌, refl, sym, ap, ◌∙◌}
use mathlib.Core.Bool.{true, false}
use mathlib.Core.Logic.{⊎_elim}
use mathlib.Core.List.{List, [], ◌∷◌, ◌++◌}
use lib.Dec.{eqb}
use lib.ListN.{length}
use borrow.Author.Tests.{le-leb, eqb-true}
use Rattle.ids.specs.Choice.{maybe}
use Rattle.std.specs.Prelude.{if◌then◌else◌, Some, None}
use Rattle.ids.proofs.Choice.{decided, both}
use Rattle.system.specs.declared.Event.{Event}
use Rattle.system.specs.declared.Event.TheVariants.{Try, Exit, Fall, Down, Up, Take, Drop, Miss, Check}
use Rattle.script_numbers.specs.Decimals.{largest32, number, decimal}
use Rattle.script_lines.specs.Words.{text, space, same, word, rest, spaced}
use Rattle.script_lines.specs.Lines.{short, command_in, event_of, event_in, sixteen_bits, line_of, max_line}
use Rattle.script_lines.specs.Printed.{word_of, number_of, event_line}
use Rattle.script_lines.specs.declared.Command.{Command}
use Rattle.script_lines.specs.declared.Command.TheVariants as command
use Rattle.script_lines.specs.declared.Line.TheVariants.{Event as Says}
use Rattle.script_numbers.proofs.DecimalLaws.{decimal-short}
use Rattle.script_lines.proofs.PrintedLaws.{length-event}
use Rattle.script_numbers.proofs.NumberTrip.{decimal-read, number-printed, through}
use Rattle.system.specs.Numbered.{client_no, server_no}

-- a printed event is read -----------------------------------------------------------------------------------------------------

word-short : (e : Event) → length (word_of e) ≤ 5
word-short (Try k) = omega arith
word-short (Exit k) = omega arith
word-short (Fall k) = omega arith
word-short (Down j) = omega arith
word-short (Up j) = omega arith
word-short (Take i) = omega arith
word-short (Drop i) = omega arith
word-short (Miss j) = omega arith
word-short (Check j) = omega arith

pub event-short : (e : Event) → number_of e ≤ largest32 → length (event_line e) ≤ 16
event-short e h = omega (arith, length-event e, word-short e, decimal-short (number_of e) h)

-- its word, what stands behind it, and the event that the two are
record Parts (e : Event) : Type 0 where
  first : word (event_line e) ≡ word_of e
  second : rest (event_line e) ≡ Some (decimal (number_of e))
  event : event_of (command_in (word_of e)) (number_of e) ≡ Some e

parts : (e : Event) → Parts e
unfolding event_line spaced word rest command_in same event_of
parts (Try k) = record { first = refl; second = refl; event = refl }
parts (Exit k) = record { first = refl; second = refl; event = refl }
parts (Fall k) = record { first = refl; second = refl; event = refl }
parts (Down j) = record { first = refl; second = refl; event = refl }
parts (Up j) = record { first = refl; second = refl; event = refl }
parts (Take i) = record { first = refl; second = refl; event = refl }
parts (Drop i) = record { first = refl; second = refl; event = refl }
parts (Miss j) = record { first = refl; second = refl; event = refl }
parts (Check j) = record { first = refl; second = refl; event = refl }

pub event-read : (e : Event) → number_of e ≤ largest32 → event_in (event_line e) ≡ Some e
unfolding event_in
event-read e h =
    let p = parts e in
    let s : length (event_line e) ≤ max_line = omega (arith, event-short e h) in
    simp (le-leb (length (event_line e)) max_line s, p.first, p.second, decimal-read (number_of e) h, p.event)

-- an event that is read is printed as it stood --------------------------------------------------------------------------------

pub same-is : (a b : List ℕ) → same a b ≡ true → a ≡ b
unfolding same
same-is [] [] e = refl
same-is [] (c ∷ k) e = let z : ◌≡◌ {A = ℕ} 0 1 = cc in absurd (omega arith)
same-is (b ∷ l) [] e = let z : ◌≡◌ {A = ℕ} 0 1 = cc in absurd (omega arith)
same-is (b ∷ l) (c ∷ k) e =
    let (h, t) = both (eqb b c) (same l k) e in
    rw (eqb-true b c h, same-is l k t)

pub rest_joins : (l r : List ℕ) → rest l ≡ Some r → word l ++ (space ∷ r) ≡ l
unfolding word rest
rest_joins [] r e = let z : ◌≡◌ {A = ℕ} 0 1 = cc in absurd (omega arith)
rest_joins (b ∷ l) r e =
    ⊎_elim
    (λ (t : eqb b space ≡ true). let f : Some l ≡ Some r = rw t at e in let g : l ≡ r = cc in rw (t, eqb-true b space t, g))
    (λ (t : eqb b space ≡ false). let f : rest l ≡ Some r = rw t at e in rw (t, rest_joins l r f))
    (decided (eqb b space))

record Named (w : List ℕ) (x : ℕ) (e : Event) : Type 0 where
  called : word_of e ≡ w
  counted : number_of e ≡ x

-- one test of `command_in`: w is the word v, whose command c makes e', or the rest of the tests decide
tested : (w : List ℕ) (x : ℕ) (e : Event) (v : List ℕ) (c c' : Command) (e' : Event) → event_of c x ≡ Some e' → word_of e' ≡ v → number_of e' ≡ x
    → (event_of c' x ≡ Some e → Named w x e) → event_of (if same w v then c else c') x ≡ Some e → Named w x e
tested w x e v c c' e' made called counted go h =
    ⊎_elim
    (λ (t : same w v ≡ true).
    let m : w ≡ v = same-is w v t in
    let f : event_of c x ≡ Some e = rw t at h in
    let s : e' ≡ e = cc in
    record { called = ap word_of (sym s) ∙ (called ∙ sym m); counted = ap number_of (sym s) ∙ counted })
    (λ (t : same w v ≡ false). let f : event_of c' x ≡ Some e = rw t at h in go f)
    (decided (same w v))

event-named : (w : List ℕ) (x : ℕ) (e : Event) → event_of (command_in w) x ≡ Some e → Named w x e
unfolding event_of command_in
event-named w x e =
    tested w x e (text "try") command.Try _ (Try (client_no x)) refl refl refl (
    tested w x e (text "exit") command.Exit _ (Exit (client_no x)) refl refl refl (
    tested w x e (text "fall") command.Fall _ (Fall (client_no x)) refl refl refl (
    tested w x e (text "down") command.Down _ (Down (server_no x)) refl refl refl (
    tested w x e (text "up") command.Up _ (Up (server_no x)) refl refl refl (
    tested w x e (text "take") command.Take _ (Take (record { 0 = x })) refl refl refl (
    tested w x e (text "drop") command.Drop _ (Drop (record { 0 = x })) refl refl refl (
    tested w x e (text "miss") command.Miss _ (Miss (server_no x)) refl refl refl (
    tested w x e (text "check") command.Check _ (Check (server_no x)) refl refl refl (
    λ (h : None ≡ Some e). let z : ◌≡◌ {A = ℕ} 0 1 = cc in absurd (omega arith))))))))))

pub event-printed : (l : List ℕ) (e : Event) → event_in l ≡ Some e → event_line e ≡ l
unfolding event_in event_line spaced
event-printed l e h =
    ⊎_elim
    (λ (t : short l ≡ true).
    let f : maybe (rest l) None (λ r. maybe (number r) None (λ x. event_of (command_in (word l)) x)) ≡ Some e = rw t at h in
    let p = through (rest l) (λ r. maybe (number r) None (λ x. event_of (command_in (word l)) x)) e f in
    let q = through (number p.value) (λ x. event_of (command_in (word l)) x) e p.gives in
    let n = event-named (word l) q.value e q.gives in
    let d : decimal q.value ≡ p.value = number-printed p.value q.value q.is in
    rw (n.called, n.counted, d) (rest_joins l p.value p.is))
    (λ (t : short l ≡ false). let f : None ≡ Some e = rw t at h in let z : ◌≡◌ {A = ℕ} 0 1 = cc in absurd (omega arith))
    (decided (short l))

-- at the calls: an event that `put_event` has written is the one that `parse_event` answers with
pub event-again : (e : Event) → number_of e ≤ largest32 → sixteen_bits e ≡ true → line_of (event_in (event_line e)) ≡ Says e
unfolding line_of
event-again e h b = rw (event-read e h, b)
