-- The calls on a simulation, return by return: an accepted event has the number 0 and its two words; any other number leaves all that was lent.
use Rattle.sim_changes.specs.declared.Effect.{Effect}
use Prim.Native.Nat.{ℕ, ◌≤◌, ◌<◌}
use native.Mathlib.Omega.{arith}
use mathlib.Core.Path.{◌≡◌, refl, sym, ap, ◌∙◌}
use mathlib.Core.Bool.{Bool, true, false}
use mathlib.Core.List.{List, [], ◌∷◌}
use mathlib.Core.Logic.{⊎_elim}
use lib.Dec.{eqb}
use lib.ListN.{length, set}
use borrow.Author.Tests.{ne_eqb, lt-ltb, le-ltb}
use Rattle.std.specs.Prelude.{Result, if◌then◌else◌, Ok, Err}
use Rattle.ids.specs.Refusals.{code, Says, accepts, refuses}
use Rattle.ids.specs.declared.Refusal.{Refusal}
use Rattle.ids.specs.declared.Refusal.TheVariants.{RoomShort, BadLine, NoSuchParty, InvalidRecord}
use Rattle.ids.proofs.Choice.{decided, clash}
use Rattle.ids.proofs.Codes.{some_number}
use Rattle.wire.specs.Step.{refused, stepped}
use Rattle.system.specs.declared.Event.{Event as Happening}
use Rattle.system.specs.Events.{EventOutcome}
use Rattle.system.specs.Places.{System}
use Rattle.system.specs.Runs.{is_stepped}
use Rattle.sim_layout.specs.Layout.{simulation_size, view, valid}
use Rattle.sim_changes.specs.Happens.{happens, reply_of, event_reply, moved_says, reply_says, event_says, EventLeaves}
use Rattle.simulation.specs.Opens.{open_says}
use Rattle.script_lines.specs.declared.Command.{Command}
use Rattle.script_lines.specs.declared.Line.{Line}
use Rattle.script_lines.specs.declared.Line.TheVariants.{Event, Unknown, Bad}
use Rattle.script_lines.specs.Lines.{event_of, line_of}
use Rattle.capi_simulation.specs.Calls.{command_of, asked, simulation_says, answer_words, with_words, call_says, given, Leaves}

abbrev number : Says ℕ → ℕ
number s = s.number

-- `sigma_simulation_new`
module _ (b : Bool) (r : Result ℕ Refusal) (h : moved_says r ≡ open_says b) where
  pub new_made : (c : ℕ) → r ≡ Ok c → 0 ≡ (open_says b).number
  new_made c e = ap number (rw e at h)

  pub new_refused : (x : Refusal) (k : ℕ) → r ≡ Err x → k ≡ code x → k ≡ (open_says b).number
  new_refused x k e p = p ∙ ap number (rw e at h)

-- words that are too few or too many are no simulation
wrong_size : (w : List ℕ) → (length w ≡ simulation_size → ⊥) → valid w ≡ false
unfolding valid
wrong_size w n = rw (ne_eqb (length w) simulation_size n)

-- what the answer's room makes of an answer
refused-room : (room : ℕ) (x : Refusal) → with_words room (refuses (code x)) ≡ refuses (code x)
unfolding with_words
refused-room room x = rw (some_number x)

accepted-short : (room : ℕ) (l : List ℕ) → room < answer_words → with_words room (accepts l) ≡ refuses 6
unfolding with_words
accepted-short room l lt = rw (lt-ltb room answer_words lt)

accepted-room : (room : ℕ) (l : List ℕ) → answer_words ≤ room → with_words room (accepts l) ≡ accepts l
unfolding with_words
accepted-room room l le = rw (le-ltb room answer_words le)

-- `short`
module _ (w : List ℕ) (e : Happening) where
  pub short-size : (length w ≡ simulation_size → ⊥) → (k : ℕ) → k ≡ code InvalidRecord → k ≡ (with_words 0 (event_says w e)).number
  unfolding event_says
  short-size n k p = rw (wrong_size w n, refused-room 0 InvalidRecord) p

  module _ (copy : List ℕ) (c : copy ≡ w) (r : Result Effect Refusal) (h : reply_says r ≡ event_says copy e) where
    pub short-accepted : (y : Effect) (k : ℕ) → r ≡ Ok y → k ≡ code RoomShort → k ≡ (with_words 0 (event_says w e)).number
    short-accepted y k q p =
        let s : accepts (y.sent ∷ y.holders ∷ []) ≡ event_says w e = rw (q, c) at h in
        p ∙ ap number (sym (accepted-short 0 (y.sent ∷ y.holders ∷ []) (omega arith)) ∙ ap (with_words 0) s)

    pub short-refused : (x : Refusal) (k : ℕ) → r ≡ Err x → k ≡ code x → k ≡ (with_words 0 (event_says w e)).number
    short-refused x k q p =
        let s : refuses (code x) ≡ event_says w e = rw (q, c) at h in
        p ∙ ap number (sym (refused-room 0 x) ∙ ap (with_words 0) s)

-- without room for the answer no event is accepted, and it is the same however little there is
same-short : (room : ℕ) (s : Says ℕ) → room < answer_words → with_words room s ≡ with_words 0 s
unfolding with_words
same-short room s lt = rw (lt-ltb room answer_words lt) refl

short-number : (s : Says ℕ) → eqb (with_words 0 s).number 0 ≡ false
unfolding with_words
short-number s =
    ⊎_elim
    (λ (t : eqb s.number 0 ≡ true). rw t refl)
    (λ (t : eqb s.number 0 ≡ false). rw t t)
    (decided (eqb s.number 0))

-- only 0 is taken for 0
not_0 : {P : Type 0} (k : ℕ) → eqb k 0 ≡ false → k ≡ 0 → P
not_0 k n z = let t : eqb 0 0 ≡ false = rw z at n in clash (eqb 0 0) refl t

given-none : (answer : List ℕ) (s : Says ℕ) → eqb s.number 0 ≡ false → answer ≡ given answer s
given-none answer s n = rw n refl

not_stepped : (u : System) (o : EventOutcome) (x : Refusal) → reply_of u o ≡ Err x → is_stepped o ≡ false
unfolding reply_of
not_stepped u (refused y) x h = refl
not_stepped u (stepped s) x h = let z : ◌≡◌ {A = ℕ} 0 1 = cc in absurd (omega arith)

-- a refused event leaves the simulation
kept_by : (w : List ℕ) (e : Happening) (w' : List ℕ) (x : Refusal) → EventLeaves w e w' → event_reply w e ≡ Err x → w' ≡ w
unfolding event_reply
kept_by w e w' x L h =
    ⊎_elim
    (λ (v : valid w ≡ true). (L.valid_leaves v).kept (not_stepped (view w) (happens w e) x (rw v at h)))
    (λ (v : valid w ≡ false). L.invalid_kept v)
    (decided (valid w))

-- `happen`
module _ (w : List ℕ) (e : Happening) (answer : List ℕ) where
  pub happens-short : length answer < answer_words → (r : ℕ) → r ≡ (with_words 0 (event_says w e)).number → Leaves w (Event e) answer r w answer
  unfolding simulation_says
  happens-short lt r p =
      let s : with_words (length answer) (event_says w e) ≡ with_words 0 (event_says w e) = same-short (length answer) (event_says w e) lt in
      record {
        number = rw s p;
        told = given-none answer (with_words (length answer) (event_says w e)) (rw s (short-number (event_says w e)));
        happened = λ x q le. absurd (omega (arith, le, lt));
        kept = λ n. refl;
      }

  module _ (w' : List ℕ) (r : Result Effect Refusal) (h : (EventLeaves w e w' × (r ≡ event_reply w e)) × (reply_says r ≡ event_says w e)) where
    goes : (x : Happening) → ◌≡◌ {A = Line} (Event e) (Event x) → EventLeaves w x w'
    goes x q = let z : e ≡ x = cc in rw (← z) h.0.0

    pub happens-accepted : answer_words ≤ length answer → (y : Effect) → r ≡ Ok y
        → Leaves w (Event e) answer 0 w' (set (set answer 0 y.sent) 1 y.holders)
    unfolding simulation_says
    happens-accepted le y q =
        let s : event_says w e ≡ accepts (y.sent ∷ y.holders ∷ []) = rw q at (sym h.1) in
        let t : with_words (length answer) (event_says w e) ≡ accepts (y.sent ∷ y.holders ∷ []) =
        ap (with_words (length answer)) s ∙ accepted-room (length answer) (y.sent ∷ y.holders ∷ []) le in
        record { number = rw t refl; told = rw t refl; happened = λ x p _. goes x p; kept = λ n. absurd (n (ap number t)) }

    pub happens-refused : (x : Refusal) (k : ℕ) → r ≡ Err x → k ≡ code x → Leaves w (Event e) answer k w' answer
    unfolding simulation_says
    happens-refused x k q p =
        let s : event_says w e ≡ refuses (code x) = rw q at (sym h.1) in
        let t : with_words (length answer) (event_says w e) ≡ refuses (code x) = ap (with_words (length answer)) s ∙ refused-room (length answer) x in
        record {
          number = rw t p;
          told = given-none answer (with_words (length answer) (event_says w e)) (rw t (some_number x));
          happened = λ y g _. goes y g;
          kept = λ n. kept_by w e w' x h.0.0 (sym h.0.1 ∙ q);
        }

-- `unknown`, and its number whatever the room
unknown_says : (w : List ℕ) (b : Bool) → valid w ≡ b → simulation_says w Unknown ≡ (if b then refuses 17 else refuses 21)
unfolding simulation_says
unknown_says w true v = rw v refl
unknown_says w false v = rw v refl

unknown_room : (w : List ℕ) (room : ℕ) → call_says w Unknown room ≡ simulation_says w Unknown
unknown_room w room =
    ⊎_elim
    (λ (v : valid w ≡ true). rw (unknown_says w true v) (refused-room room NoSuchParty))
    (λ (v : valid w ≡ false). rw (unknown_says w false v) (refused-room room InvalidRecord))
    (decided (valid w))

unknown_number : (w : List ℕ) → eqb (simulation_says w Unknown).number 0 ≡ false
unknown_number w =
    ⊎_elim
    (λ (v : valid w ≡ true). rw (unknown_says w true v) refl)
    (λ (v : valid w ≡ false). rw (unknown_says w false v) refl)
    (decided (valid w))

module _ (w : List ℕ) (b : Bool) (t : b ≡ valid w) where
  pub unknown_valid : b ≡ true → (k : ℕ) → k ≡ code NoSuchParty → k ≡ (simulation_says w Unknown).number
  unknown_valid e k p = rw (unknown_says w true (sym t ∙ e)) p

  pub unknown_invalid : b ≡ false → (k : ℕ) → k ≡ code InvalidRecord → k ≡ (simulation_says w Unknown).number
  unknown_invalid e k p = rw (unknown_says w false (sym t ∙ e)) p

-- neither of the other two lines is an event
never_event : {P : Type 0} (e : Happening) → ◌≡◌ {A = Line} Unknown (Event e) → P
never_event e y = let z : ◌≡◌ {A = ℕ} 0 1 = cc in absurd (omega arith)

bad_event : {P : Type 0} (e : Happening) → ◌≡◌ {A = Line} Bad (Event e) → P
bad_event e y = let z : ◌≡◌ {A = ℕ} 0 1 = cc in absurd (omega arith)

-- `sigma_simulation_event`: which event it is
module _ (w answer : List ℕ) (kind number : ℕ) (c : Command) (l : Line) (p : c ≡ command_of kind) (q : l ≡ line_of (event_of c number)) where
  is-line : asked kind number ≡ l
  is-line = rw (← p) (sym q)

  pub as_event : (e : Happening) → l ≡ Event e → (r : ℕ) (w' answer' : List ℕ) → Leaves w (Event e) answer r w' answer'
      → Leaves w (asked kind number) answer r w' answer'
  as_event e z r w' answer' L = rw (is-line, z) L

  pub as_unknown : l ≡ Unknown → (r : ℕ) → r ≡ (simulation_says w Unknown).number → Leaves w (asked kind number) answer r w answer
  as_unknown z r h =
      let x : asked kind number ≡ Unknown = is-line ∙ z in
      let s : call_says w Unknown (length answer) ≡ simulation_says w Unknown = unknown_room w (length answer) in
      rw x (record {
        number = rw s h;
        told = given-none answer (call_says w Unknown (length answer)) (rw s (unknown_number w));
        happened = λ e y _. never_event e y;
        kept = λ n. refl;
      })

  pub as_bad : l ≡ Bad → (r : ℕ) → r ≡ code BadLine → Leaves w (asked kind number) answer r w answer
  unfolding simulation_says
  as_bad z r h =
      let x : asked kind number ≡ Bad = is-line ∙ z in
      let t : with_words (length answer) (refuses 16) ≡ refuses 16 = refused-room (length answer) BadLine in
      rw x (record {
        number = rw t h;
        told = given-none answer (with_words (length answer) (refuses 16)) (rw t refl);
        happened = λ e y _. bad_event e y;
        kept = λ n. refl;
      })
