-- What document 02, L5, asks of the listing: which lists of events stand in it, and in which order. The definition of the listing meets
-- both (proofs), and nothing else does.
use Rattle.std.specs.Prelude.{◌≡◌, ℕ, ◌<◌, ◌≤◌, true, List, [], ◌∷◌, length}
use Rattle.client_responses.specs.Figure1.{enough}
use Rattle.system.specs.declared.Event.{Event}
use Rattle.system.specs.declared.Event.TheVariants.{Try, Exit, Fall, Down, Up, Take, Drop, Miss, Check}
use Rattle.system.specs.declared.Setting.{Setting}
use Rattle.system.specs.Runs.{accepted, IsRun}
use Rattle.script_lines.specs.Printed.{number_of}
use Rattle.listing.specs.Listing.{fresh}

-- a list of events to be listed: at most so many, all accepted, a run
pub record Short (s : Setting) (events : ℕ) (es : List Event) : Type 0 where
  pub few : length es ≤ events
  pub all_accepted : accepted s.n (enough s.m) (fresh s) es ≡ true
  pub is_run : IsRun s.n (enough s.m) s.f s.clients es

-- the place of an event's name among document 01's
abbrev pub rank : Event → ℕ
rank (Try k) = 0
rank (Exit k) = 1
rank (Fall k) = 2
rank (Down j) = 3
rank (Up j) = 4
rank (Take i) = 5
rank (Drop i) = 6
rank (Miss j) = 7
rank (Check j) = 8

-- by their names, and with equal names by the numbers' values
pub data Before (a b : Event) : Type 0 where
  by_name : rank a < rank b → Before a b
  by_number : rank a ≡ rank b → number_of a < number_of b → Before a b

-- a run before its longer ones, else by the first event in which they differ
pub data Precedes : List Event → List Event → Type 0 where
  beginning : {e : Event} {es : List Event} → Precedes [] (e ∷ es)
  differing : {a b : Event} {xs ys : List Event} → Before a b → Precedes (a ∷ xs) (b ∷ ys)
  alike : {e : Event} {xs ys : List Event} → Precedes xs ys → Precedes (e ∷ xs) (e ∷ ys)

-- the list of events stands among these
pub data Stands (es : List Event) : List (List Event) → Type 0 where
  here : {rs : List (List Event)} → Stands es (es ∷ rs)
  behind : {xs : List Event} {rs : List (List Event)} → Stands es rs → Stands es (xs ∷ rs)

-- each precedes all behind it
abbrev pub Ahead : List Event → List (List Event) → Type 0
Ahead es rs = (xs : List Event) → Stands xs rs → Precedes es xs

pub data Ascends : List (List Event) → Type 0 where
  no_runs : Ascends []
  one_more : {es : List Event} {rs : List (List Event)} → Ahead es rs → Ascends rs → Ascends (es ∷ rs)

-- none stands twice
pub data Once : List (List Event) → Type 0 where
  none_twice : Once []
  one_once : {es : List Event} {rs : List (List Event)} → (Stands es rs → ⊥) → Once rs → Once (es ∷ rs)
