-- What the calls on a script's state give and leave.
use Rattle.script.specs.declared.Progress.{Progress}
use Rattle.ids.specs.declared.Refusal.{Refusal}
use Rattle.std.specs.Prelude.{ℕ, ◌≤◌, ◌*◌, ◌≡◌, Bool, true, false, ◌&&◌, List, [], ◌∷◌, eqb, ltb, leb, length, replicate, if◌then◌else◌, Ok, Err, Result}
use Rattle.std.proofs.lemmas.List.Edits.{sets}
use Rattle.ids.specs.Refusals.{code, Says, accepts, refuses}
use Rattle.ids.specs.declared.Refusal.TheVariants.{RoomShort, InvalidRecord, ParameterOutOfRange}
use Rattle.script_output.specs.Reader.{closed, Reader, max_printed, fed_within, finished}
use Rattle.script.specs.State.{state_size, view, valid}

-- a new script: 7 if the words are too few or too many
unfoldable pub new_answer : List ℕ → Result Progress Refusal
new_answer w = if eqb (length w) state_size then Ok (record { used = 0; wrote = 0 }) else Err ParameterOutOfRange

unfoldable pub new_words : List ℕ → List ℕ
new_words w = if eqb (length w) state_size then replicate state_size 0 else w

-- 21 an invalid state, 6 no room for a line
unfoldable pub feed_answer : List ℕ → List ℕ → ℕ → Result Progress Refusal
feed_answer w input room =
    if valid w then
    if ltb room max_printed then Err RoomShort
    else Ok (record { used = (fed_within room (view w) input).used; wrote = length (fed_within room (view w) input).out })
    else Err InvalidRecord

-- the answers in document 01's numbers: the bytes used and the bytes written
abbrev pub progress_says : Result Progress Refusal → Says ℕ
progress_says (Err x) = refuses (code x)
progress_says (Ok s) = accepts (s.used ∷ s.wrote ∷ [])

unfoldable pub new_says : List ℕ → Says ℕ
new_says w = if eqb (length w) state_size then accepts (0 ∷ 0 ∷ []) else refuses 7

unfoldable pub feed_says : List ℕ → List ℕ → ℕ → Says ℕ
feed_says w input room =
    if valid w then
    if ltb room max_printed then refuses 6
    else accepts ((fed_within room (view w) input).used ∷ length (fed_within room (view w) input).out ∷ [])
    else refuses 21

abbrev pub feeds : List ℕ → ℕ → Bool
feeds w room = valid w && leb max_printed room

-- what a call leaves: done, the state is this reader and these bytes are printed; refused, all is as it was
pub record Leaves (done : Bool) (r : Reader) (printed w out w' out' : List ℕ) : Type 0 where
  pub reader : done ≡ true → view w' ≡ r
  pub again : done ≡ true → valid w' ≡ true
  pub bytes : done ≡ true → out' ≡ sets out 0 printed
  pub within : done ≡ true → length printed ≤ length out
  pub kept : done ≡ false → (w' ≡ w) × (out' ≡ out)

abbrev pub FeedLeaves : List ℕ → List ℕ → List ℕ → List ℕ → List ℕ → Type 0
FeedLeaves w input out w' out' =
    let q = fed_within (length out) (view w) input in
    Leaves (feeds w (length out)) q.now q.out w out w' out'

-- the end: 21, 6 no room for two lines
abbrev pub max_ending : ℕ
max_ending = 2 * max_printed

unfoldable pub finish_answer : List ℕ → ℕ → Result Progress Refusal
finish_answer w room =
    if valid w then if ltb room max_ending then Err RoomShort else Ok (record { used = 0; wrote = length (finished (view w)) })
    else Err InvalidRecord

unfoldable pub finish_says : List ℕ → ℕ → Says ℕ
finish_says w room =
    if valid w then if ltb room max_ending then refuses 6 else accepts (0 ∷ length (finished (view w)) ∷ [])
    else refuses 21

abbrev pub finishes : List ℕ → ℕ → Bool
finishes w room = valid w && leb max_ending room

abbrev pub FinishLeaves : List ℕ → List ℕ → List ℕ → List ℕ → Type 0
FinishLeaves w out w' out' =
    Leaves (finishes w (length out)) (record { stage = closed; line = [] }) (finished (view w)) w out w' out'
