-- However a script comes in, what is printed for its bytes and at the end is `output` of the whole: bytes make lines, lines are
-- answered one by one, and the counts that the run keeps are those of its events.
use Rattle.std.specs.Prelude.{Some, None, Option}
use mathlib.Core.Path.{◌≡◌, refl, sym, ap, ◌∙◌}
use Prim.Native.Nat.{ℕ, zero, suc, ◌-◌, ◌≤◌, ◌<◌}
use native.Mathlib.Omega.{arith}
use mathlib.Core.Bool.{true, false}
use mathlib.Core.Logic.{inl, inr, ⊎_elim}
use mathlib.Core.List.{List, [], ◌∷◌, ◌++◌, append_assoc, append-nil}
use lib.Dec.{eqb, ltb, leb}
use lib.ListN.{length, take, length-take}
use lib.Seq.{take-nil, take_all}
use borrow.Author.Tests.{leb-true, leb-false, lt-leb, ltb-true, ltb-false, lt-ltb, le-ltb, ne_eqb}
use Rattle.ids.specs.Choice.{maybe}
use Rattle.ids.specs.declared.Refusal.TheVariants.{BadLine, ParameterOutOfRange}
use Rattle.ids.proofs.Choice.{decided, Test}
use Rattle.system.specs.declared.Event.{Event}
use Rattle.system.specs.Places.{System}
use Rattle.system.specs.Events.{EventOutcome}
use Rattle.system.specs.Runs.{after}
use Rattle.simulation.specs.Opens.{in_range}
use Rattle.sim_run.specs.Run.{Run, fresh, started, happens, next, plays}
use Rattle.sim_run.proofs.Whole.{moved-setting, moved-system, plays-counted}
use Rattle.script_lines.specs.Words.{newline}
use Rattle.script_lines.specs.Lines.{max_line, event_in, setting_in}
use Rattle.script_lines.specs.Printed.{header_line, no_line, end_line, refused_line}
use Rattle.system.specs.declared.Setting.{Setting}
use Rattle.script_output.specs.Output.{max_lines, continued, lines_of, answer_line, answers, events_in, end_of, played, printed_for, output}
use Rattle.script_output.specs.Reader.{Script, Stage, opening, running, closed, Reader, Printed, unanswered, opened, onward, line_taken, worked, max_kept, behind, taken, fed, ended, finished, empty}

-- lines one after another
worked_all : Stage → List (List ℕ) → Printed Stage
worked_all st [] = record { now = st; out = [] }
worked_all st (l ∷ ls) = record { now = (worked_all (worked st l).now ls).now; out = (worked st l).out ++ (worked_all (worked st l).now ls).out }

-- what lines print, and the end
abbrev told : Stage → List (List ℕ) → List ℕ
told st ls = (worked_all st ls).out ++ ended (worked_all st ls).now

-- the lines of a script whose first line begins with l
abbrev begun : List ℕ → List (List ℕ) → List (List ℕ)
begun [] ls = ls
begun (b ∷ l) [] = (b ∷ l) ∷ []
begun (b ∷ l) (x ∷ ls) = (b ∷ (l ++ x)) ∷ ls

begun-line : (l x : List ℕ) (ls : List (List ℕ)) → begun l (x ∷ ls) ≡ (l ++ x) ∷ ls
begun-line [] x ls = refl
begun-line (b ∷ l) x ls = refl

begun_more : (l : List ℕ) (b : ℕ) (ls : List (List ℕ)) → begun (l ++ (b ∷ [])) ls ≡ begun l (continued b ls)
begun_more [] b [] = refl
begun_more [] b (x ∷ ls) = refl
begun_more (c ∷ l) b [] = refl
begun_more (c ∷ l) b (x ∷ ls) = ap (λ (y : List ℕ). (c ∷ y) ∷ ls) (append_assoc l (b ∷ []) x)

told_cons : (st : Stage) (l : List ℕ) (ls : List (List ℕ)) → told st (l ∷ ls) ≡ (worked st l).out ++ told (worked st l).now ls
unfolding worked_all
told_cons st l ls = append_assoc (worked st l).out (worked_all (worked st l).now ls).out (ended (worked_all (worked st l).now ls).now)

-- of a line, the bytes that are kept decide
clip_behind : (n : ℕ) (l r : List ℕ) → take n (take n l ++ r) ≡ take n (l ++ r)
clip_behind zero l r = refl
clip_behind (suc n) [] r = refl
clip_behind (suc n) (a ∷ l) r = ap (λ (x : List ℕ). a ∷ x) (clip_behind n l r)

clip_long : (l : List ℕ) → leb (length l) max_line ≡ false → leb (length (take max_kept l)) max_line ≡ false
clip_long l e = lt-leb (length (take max_kept l)) max_line (omega (arith, length-take max_kept l, leb-false (length l) max_line e))

long-event : (l : List ℕ) → leb (length l) max_line ≡ false → event_in l ≡ None
unfolding event_in
long-event l e = rw e

long-setting : (l : List ℕ) → leb (length l) max_line ≡ false → setting_in l ≡ None
unfolding setting_in
long-setting l e = rw e

clipped : {A : Type 0} (f : List ℕ → Option A) → ((l : List ℕ) → leb (length l) max_line ≡ false → f l ≡ None) → (l : List ℕ) → f (take max_kept l) ≡ f l
clipped f long l =
    ⊎_elim
    (λ (e : leb (length l) max_line ≡ true). ap f (take_all max_kept l (omega (arith, leb-true (length l) max_line e))))
    (λ (e : leb (length l) max_line ≡ false). long (take max_kept l) (clip_long l e) ∙ sym (long l e))
    (decided (leb (length l) max_line))

worked_clipped : (st : Stage) (l : List ℕ) → worked st (take max_kept l) ≡ worked st l
unfolding worked line_taken
worked_clipped opening l = rw (clipped setting_in long-setting l)
worked_clipped (running r) l = rw (clipped event_in long-event l)
worked_clipped closed l = refl

-- bytes are lines
abbrev rest : Reader → List ℕ → List ℕ
rest r s = (fed r s).out ++ finished (fed r s).now

abbrev reader : Stage → List ℕ → Reader
reader st l = record { stage = st; line = take max_kept l }

last-told : (st : Stage) (l : List ℕ) → finished (reader st l) ≡ told st (begun l [])
unfolding finished worked_all
last-told st [] = refl
last-told st (b ∷ l) =
    let Some : 0 < length (take max_kept (b ∷ l)) = omega (arith, length-take max_kept (b ∷ l)) in
    rw (ne_eqb (length (take max_kept (b ∷ l))) 0 (λ e. omega (arith, Some)), worked_clipped st (b ∷ l))
    (sym (ap (λ (x : List ℕ). x ++ ended (worked st (b ∷ l)).now) (append-nil (worked st (b ∷ l)).out)))

rest_cons : (r : Reader) (b : ℕ) (s : List ℕ) → rest r (b ∷ s) ≡ (taken r b).out ++ rest (taken r b).now s
unfolding fed
rest_cons r b s = append_assoc (taken r b).out (fed (taken r b).now s).out (finished (fed (taken r b).now s).now)

at-newline : (r : Reader) (b : ℕ) → eqb b newline ≡ true →
    taken r b ≡ record { now = record { stage = (worked r.stage r.line).now; line = [] }; out = (worked r.stage r.line).out }
unfolding taken
at-newline r b e = rw e

in_line : (r : Reader) (b : ℕ) → eqb b newline ≡ false → taken r b ≡ record { now = record { stage = r.stage; line = behind r.line b }; out = [] }
unfolding taken
in_line r b e = rw e

bytes-told : (s : List ℕ) (st : Stage) (l : List ℕ) → rest (reader st l) s ≡ told st (begun l (lines_of s))
unfolding fed lines_of
bytes-told [] st l = last-told st l
bytes-told (b ∷ s) st l = rest_cons (reader st l) b s ∙ go (bytes-told s) (decided (eqb b newline))
  where
    nothing-kept : take {A = ℕ} max_kept [] ≡ []
    nothing-kept = take-nil max_kept

    go : ((st : Stage) (l : List ℕ) → rest (reader st l) s ≡ told st (begun l (lines_of s))) → Test (eqb b newline) →
        (taken (reader st l) b).out ++ rest (taken (reader st l) b).now s ≡ told st (begun l (lines_of (b ∷ s)))
    go f (inl e) =
        ap (λ (p : Printed Reader). p.out ++ rest p.now s) (at-newline (reader st l) b e) ∙
        (ap (λ (p : Printed Stage). p.out ++ rest (record { stage = p.now; line = [] }) s) (worked_clipped st l) ∙
        (ap (λ (x : List ℕ). (worked st l).out ++ rest (record { stage = (worked st l).now; line = x }) s) (sym nothing-kept) ∙
        (ap (λ (x : List ℕ). (worked st l).out ++ x) (f (worked st l).now []) ∙
        (sym (told_cons st l (lines_of s)) ∙
        (ap (λ (x : List (List ℕ)). told st x) (sym (begun-line l [] (lines_of s) ∙ ap (λ (y : List ℕ). y ∷ lines_of s) (append-nil l))) ∙ rw e)))))
    go f (inr e) =
        ap (λ (p : Printed Reader). p.out ++ rest p.now s) (in_line (reader st l) b e) ∙
        (ap (λ (x : List ℕ). rest (record { stage = st; line = x }) s) (clip_behind max_kept l (b ∷ [])) ∙
        (f st (l ++ (b ∷ [])) ∙ (ap (λ (x : List (List ℕ)). told st x) (begun_more l b (lines_of s)) ∙ rw e)))

-- the run so far, and the events to come
module _ (s : Setting) where
  -- a line that is read, and what the whole says of it
  line_bad : (r : Script) (l : List ℕ) → r.answered < max_lines → event_in l ≡ None
      → line_taken r l ≡ record { now = onward r r.run; out = no_line (suc r.answered) BadLine }
  unfolding line_taken
  line_bad r l lt e = rw (lt-ltb r.answered max_lines lt, e)

  line-event : (r : Script) (l : List ℕ) (e : Event) → r.run.setting ≡ s → r.answered < max_lines → event_in l ≡ Some e →
      line_taken r l ≡ record { now = onward r (next r.run e); out = answer_line (suc r.answered) r.run.system (happens s r.run.system e) }
  unfolding line_taken
  line-event r l e q lt x = rw (lt-ltb r.answered max_lines lt, x, q)

  line_unread : (r : Script) (l : List ℕ) → max_lines ≤ r.answered → line_taken r l ≡ record { now = r; out = [] }
  unfolding line_taken
  line_unread r l h = rw (le-ltb r.answered max_lines h)

  answers_bad : (i : ℕ) (w : System) (l : List ℕ) (ls : List (List ℕ)) → event_in l ≡ None → answers s i w (l ∷ ls) ≡ no_line i BadLine ++ answers s (suc i) w ls
  unfolding answers
  answers_bad i w l ls e = rw e

  answers-event : (i : ℕ) (w : System) (l : List ℕ) (ls : List (List ℕ)) (e : Event) → event_in l ≡ Some e →
      answers s i w (l ∷ ls) ≡ answer_line i w (happens s w e) ++ answers s (suc i) (after w (happens s w e)) ls
  unfolding answers
  answers-event i w l ls e x = rw x

  events_bad : (l : List ℕ) (ls : List (List ℕ)) → event_in l ≡ None → events_in (l ∷ ls) ≡ events_in ls
  unfolding events_in
  events_bad l ls e = rw e

  events-event : (l : List ℕ) (ls : List (List ℕ)) (e : Event) → event_in l ≡ Some e → events_in (l ∷ ls) ≡ e ∷ events_in ls
  unfolding events_in
  events-event l ls e x = rw x

  -- the end line of a run, and what is still to be printed of lines, by the definition of the whole
  abbrev end_run : Run → List ℕ
  end_run r = end_line r.accepted r.holding r.system.most

  abbrev to_come : Script → List (List ℕ) → List ℕ
  to_come r ls = answers s (suc r.answered) r.run.system ls ++ end_run (plays r.run (events_in ls))

  to_come-none : (r : Script) → ended (running r) ≡ to_come r []
  unfolding answers events_in ended plays
  to_come-none r = refl

  told_line : (r : Script) (l : List ℕ) (ls : List (List ℕ)) → told (running r) (l ∷ ls) ≡ (line_taken r l).out ++ told (running (line_taken r l).now) ls
  unfolding worked
  told_line r l ls = told_cons (running r) l ls

  module _ (ls : List (List ℕ)) (ih : (r : Script) → r.run.setting ≡ s → r.answered ≤ max_lines
      → told (running r) ls ≡ to_come r (take (max_lines - r.answered) ls))
      (r : Script) (q : r.run.setting ≡ s) (l : List ℕ) where
    -- what the whole says of this line
    bad_told : (tl : List (List ℕ)) → event_in l ≡ None → no_line (suc r.answered) BadLine ++ to_come (onward r r.run) tl ≡ to_come r (l ∷ tl)
    bad_told tl e =
        sym (append_assoc (no_line (suc r.answered) BadLine) (answers s (suc (suc r.answered)) r.run.system tl) _) ∙
        (ap (λ (x : List ℕ). x ++ end_run (plays r.run (events_in tl))) (sym (answers_bad (suc r.answered) r.run.system l tl e)) ∙
        ap (λ (es : List Event). answers s (suc r.answered) r.run.system (l ∷ tl) ++ end_run (plays r.run es)) (sym (events_bad l tl e)))

    event-told : (tl : List (List ℕ)) (x : Event) → event_in l ≡ Some x →
        answer_line (suc r.answered) r.run.system (happens s r.run.system x) ++ to_come (onward r (next r.run x)) tl ≡ to_come r (l ∷ tl)
    unfolding plays
    event-told tl x e =
        let o : EventOutcome = happens s r.run.system x in
        let w : (next r.run x).system ≡ after r.run.system o = moved-system r.run _ ∙
        ap (λ (t : Setting). after r.run.system (happens t r.run.system x)) q in
        sym (append_assoc (answer_line (suc r.answered) r.run.system o) (answers s (suc (suc r.answered)) (next r.run x).system tl) _) ∙
        (ap (λ (v : System). (answer_line (suc r.answered) r.run.system o ++ answers s (suc (suc r.answered)) v tl) ++ end_run
        (plays (next r.run x) (events_in tl))) w ∙
        (ap (λ (y : List ℕ). y ++ end_run (plays (next r.run x) (events_in tl))) (sym (answers-event (suc r.answered) r.run.system l tl x e)) ∙
        ap (λ (es : List Event). answers s (suc r.answered) r.run.system (l ∷ tl) ++ end_run (plays r.run es)) (sym (events-event l tl x e))))

    -- the line is read
    read : r.answered < max_lines → told (running r) (l ∷ ls) ≡ to_come r (take (max_lines - r.answered) (l ∷ ls))
    read lt = told_line r l ls ∙ (go (event_in l) refl ∙ sym (ap (λ (k : ℕ). to_come r (take k (l ∷ ls))) one_more))
      where
        one_more : max_lines - r.answered ≡ suc (max_lines - suc r.answered)
        one_more = omega (arith, lt)

        go : (o : Option Event) → event_in l ≡ o
            → (line_taken r l).out ++ told (running (line_taken r l).now) ls ≡ to_come r (l ∷ take (max_lines - suc r.answered) ls)
        go None e =
            ap (λ (p : Printed Script). p.out ++ told (running p.now) ls) (line_bad r l lt e) ∙
            (ap (λ (x : List ℕ). no_line (suc r.answered) BadLine ++ x) (ih (onward r r.run) q lt) ∙ bad_told (take (max_lines - suc r.answered) ls) e)
        go (Some x) e =
            ap (λ (p : Printed Script). p.out ++ told (running p.now) ls) (line-event r l x q lt e) ∙
            (ap (λ (y : List ℕ). answer_line (suc r.answered) r.run.system (happens s r.run.system x) ++ y)
            (ih (onward r (next r.run x)) (moved-setting r.run _ ∙ q) lt) ∙
            event-told (take (max_lines - suc r.answered) ls) x e)

    -- the last line that is read was answered: it is not
    unread : max_lines ≤ r.answered → r.answered ≤ max_lines → told (running r) (l ∷ ls) ≡ to_come r (take (max_lines - r.answered) (l ∷ ls))
    unread ge le =
        let z : max_lines - r.answered ≡ 0 = omega arith in
        told_line r l ls ∙
        (ap (λ (p : Printed Script). p.out ++ told (running p.now) ls) (line_unread r l ge) ∙
        (ih r q le ∙ (ap (λ (k : ℕ). to_come r (take k ls)) z ∙ sym (ap (λ (k : ℕ). to_come r (take k (l ∷ ls))) z))))

  running-told : (ls : List (List ℕ)) (r : Script) → r.run.setting ≡ s → r.answered ≤ max_lines
      → told (running r) ls ≡ to_come r (take (max_lines - r.answered) ls)
  unfolding worked_all
  running-told [] r q le = to_come-none r ∙ ap (λ (x : List (List ℕ)). to_come r x) (sym (take-nil (max_lines - r.answered)))
  running-told (l ∷ ls) r q le =
      ⊎_elim
      (λ (t : ltb r.answered max_lines ≡ true). read ls (running-told ls) r q l (ltb-true r.answered max_lines t))
      (λ (t : ltb r.answered max_lines ≡ false). unread ls (running-told ls) r q l (ltb-false r.answered max_lines t) le)
      (decided (ltb r.answered max_lines))

closed-told : (ls : List (List ℕ)) → told closed ls ≡ []
unfolding worked_all worked ended
closed-told [] = refl
closed-told (l ∷ ls) = closed-told ls

-- a script that runs: the counts that its run keeps are those of its events
whole_run : (s : Setting) (ls : List (List ℕ))
    → told (running (unanswered (started s))) ls ≡ answers s 1 (fresh s) (take max_lines ls) ++ end_of s (events_in (take max_lines ls))
unfolding end_of
whole_run s ls =
    running-told s ls (unanswered (started s)) refl (omega arith) ∙
    ap (λ (r : Run). answers s 1 (fresh s) (take max_lines ls) ++ end_line r.accepted r.holding r.system.most)
    (plays-counted s (events_in (take max_lines ls)))

refused-told : (x : List ℕ) (ls : List (List ℕ)) → x ++ told closed ls ≡ x
refused-told x ls = ap (λ (y : List ℕ). x ++ y) (closed-told ls) ∙ append-nil x

opened-told : (o : Option Setting) (ls : List (List ℕ)) → (opened o).out ++ told (opened o).now ls ≡ maybe o (refused_line BadLine) (λ s. played s ls)
unfolding opened played
opened-told None ls = refused-told (refused_line BadLine) ls
opened-told (Some s) ls = go (decided (in_range s))
  where
    go : Test (in_range s) → (opened (Some s)).out ++ told (opened (Some s)).now ls ≡ played s ls
    go (inl e) = rw e (ap (λ (y : List ℕ). header_line s ++ y) (whole_run s ls))
    go (inr e) = rw e (refused-told (refused_line ParameterOutOfRange) ls)

-- lines print what the whole says
lines-told : (ls : List (List ℕ)) → told opening ls ≡ printed_for ls
unfolding worked_all worked ended printed_for
lines-told [] = refl
lines-told (l ∷ ls) = told_cons opening l ls ∙ opened-told (setting_in l) ls

-- The whole script, byte by byte.
pub whole : (input : List ℕ) → (fed empty input).out ++ finished (fed empty input).now ≡ output input
unfolding output
whole input = ap (λ (x : List ℕ). rest (record { stage = opening; line = x }) input) (sym (take-nil max_kept)) ∙
    (bytes-told input opening [] ∙ lines-told (lines_of input))

-- In two parts, and so in any: what the first prints, then what the second prints behind it.
pub in_parts : (r : Reader) (a b : List ℕ) → fed r (a ++ b) ≡ record { now = (fed (fed r a).now b).now; out = (fed r a).out ++ (fed (fed r a).now b).out }
unfolding fed
in_parts r [] b = refl
in_parts r (x ∷ a) b =
    ap (λ (p : Printed Reader). record { now = p.now; out = (taken r x).out ++ p.out }) (in_parts (taken r x).now a b) ∙
    ap (λ (y : List ℕ). record { now = (fed (fed r (x ∷ a)).now b).now; out = y })
    (sym (append_assoc (taken r x).out (fed (taken r x).now a).out (fed (fed (taken r x).now a).now b).out))
