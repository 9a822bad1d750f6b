-- What the exported calls of a script return, 0 or a refusal's number, and what they leave in the slices they were lent.
use Rattle.script.specs.declared.Progress.{Progress}
use Rattle.ids.specs.declared.Refusal.{Refusal}
use Rattle.std.specs.Prelude.{ℕ, ◌≤◌, ◌<◌, ◌≡◌, List, [], ◌∷◌, ltb, length, if◌then◌else◌, Ok, Err, Result}
use Rattle.std.proofs.lemmas.List.Edits.{sets}
use Rattle.ids.specs.Refusals.{code}
use Rattle.script.specs.Calls.{feed_answer, finish_answer}

-- 0, or the refusal's number
abbrev pub code_of : Result Progress Refusal → ℕ
code_of (Ok s) = 0
code_of (Err x) = code x

-- the bytes used and the bytes written, of an accepted call
abbrev pub counts_of : List ℕ → Result Progress Refusal → List ℕ
counts_of counts (Ok s) = sets counts 0 (s.used ∷ s.wrote ∷ [])
counts_of counts (Err x) = counts

-- a call with fewer than two words for its counts has no room (6), whatever is lent for the output
abbrev pub room_of : List ℕ → List ℕ → ℕ
room_of out counts = if ltb (length counts) 2 then 0 else length out

abbrev pub fed : List ℕ → List ℕ → List ℕ → List ℕ → Result Progress Refusal
fed w input out counts = feed_answer w input (room_of out counts)

abbrev pub ended : List ℕ → List ℕ → List ℕ → Result Progress Refusal
ended w out counts = finish_answer w (room_of out counts)

-- what a call that gives p leaves: with two words for the counts, what the script's call leaves (L)
pub record Leaves (L : Type 0) (p : Result Progress Refusal) (w out counts w' out' counts' : List ℕ) : Type 0 where
  pub lent : 2 ≤ length counts → L
  pub short : length counts < 2 → (w' ≡ w) × (out' ≡ out)
  pub counted : counts' ≡ counts_of counts p
