-- What the calls on an index give and leave: equations, for all words that they accept. That on the words of an index each leaves the words of the
-- index made afresh is proofs/Means.
use Rattle.std.specs.Prelude.{ℕ, suc, ◌+◌, ◌-◌, ◌<◌, ◌≤◌, ◌≡◌, Bool, true, false, ◌&&◌, List, [], ◌∷◌, ◌++◌, eqb, length, get_or, set, take, drop, if◌then◌else◌}
use Rattle.system.specs.Limits.{system_messages}
use Rattle.sim_index.specs.Index.{receivers, numbers_from, marks_from, index_size}
use Rattle.sim_index.specs.declared.Card.{Card}

unfoldable pub sum : List ℕ → ℕ
sum [] = 0
sum (x ∷ l) = x + sum l

-- where the entries of the receiver at place p begin
abbrev pub start_of : ℕ → List ℕ → ℕ
start_of p x = sum (take p x)

-- the list that the words have for the receiver at place p: the numbers, and beside them the marks
abbrev pub numbers_in : ℕ → List ℕ → List ℕ
numbers_in p x = take (get_or x p 0) (drop (numbers_from + start_of p x) x)

abbrev pub marks_in : ℕ → List ℕ → List ℕ
marks_in p x = take (get_or x p 0) (drop (marks_from + start_of p x) x)

-- the place of the first v, counted from 0; where there is none, how many there are
unfoldable pub first_of : ℕ → List ℕ → ℕ
first_of v [] = 0
first_of v (y ∷ l) = if eqb y v then 0 else suc (first_of v l)

-- v stands at place `at`, and the words from there on to place `end` have moved back by one
abbrev pub inserted : ℕ → ℕ → ℕ → List ℕ → List ℕ
inserted at end v x = take at x ++ (v ∷ (take (end - at) (drop at x) ++ drop (suc end) x))

-- the word at place `at` is gone, those behind it to place `last` have moved up by one, and 0 stands there
abbrev pub deleted : ℕ → ℕ → List ℕ → List ℕ
deleted at last x = take at x ++ (take (last - at) (drop (suc at) x) ++ (0 ∷ drop (suc last) x))

-- the entry with this number among those of the receiver at place p
unfoldable pub entry_of : ℕ → ℕ → List ℕ → ℕ
entry_of p number x = start_of p x + first_of number (numbers_in p x)

-- a card joins the entries of an index with len of them: it is the last of its receiver's
unfoldable pub added : ℕ → Card → List ℕ → List ℕ
added len c x =
    let at : ℕ = start_of (suc c.place) x in
    let y : List ℕ = inserted (marks_from + at) (marks_from + len) c.mark (inserted (numbers_from + at) (numbers_from + len) c.number x) in
    set y c.place (suc (get_or y c.place 0))

-- the entry with this number is gone
unfoldable pub withdrawn : ℕ → ℕ → ℕ → List ℕ → List ℕ
withdrawn len p number x =
    let at : ℕ = entry_of p number x in
    let y : List ℕ = deleted (marks_from + at) (marks_from + (len - 1)) (deleted (numbers_from + at) (numbers_from + (len - 1)) x) in
    set y p (get_or y p 0 - 1)

-- an index of len entries, and the receiver at place p is one of its
pub record Sized (len p : ℕ) (x : List ℕ) : Type 0 where
  pub size : length x ≡ index_size
  pub few : len ≤ system_messages
  pub place : p < receivers
  pub within : start_of (suc p) x ≤ len

-- the words are the same
unfoldable pub same : List ℕ → List ℕ → Bool
same [] [] = true
same [] (y ∷ b) = false
same (x ∷ a) [] = false
same (x ∷ a) (y ∷ b) = eqb x y && same a b
