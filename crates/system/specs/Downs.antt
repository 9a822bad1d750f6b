-- The different servers ever down within an epoch, from the list of events: nothing here reads what a system carries along of it
-- (`downs`, `most`). An epoch runs from a client's accepted try to its next accepted exit or fall, or the end; a server down at its
-- start counts.
use Rattle.std.specs.Prelude.{◌≡◌, ℕ, max, Bool, true, false, not, ◌&&◌, ◌||◌, List, [], ◌∷◌, map, eqb, if◌then◌else◌, Some, None, Option}
use Rattle.ids.specs.Choice.{maybe}
use Rattle.ids.specs.declared.ClientId.{ClientId}
use Rattle.client_responses.specs.Figure1.{Quorum, count}
use Rattle.system.specs.declared.Event.{Event}
use Rattle.system.specs.declared.Event.TheVariants.{Try, Exit, Fall, Down, Up, Take, Drop, Miss, Check}
use Rattle.system.specs.Places.{ServerPlace, System}
use Rattle.system.specs.Events.{EventOutcome, event}
use Rattle.system.specs.Runs.{after, is_stepped}

-- a flag for each server: it is down now
abbrev pub is_down : ServerPlace → Bool
is_down q = not q.up

abbrev pub down_now : System → List Bool
down_now w = map is_down w.servers

-- the flags set in either list
abbrev pub either : List Bool → List Bool → List Bool
either [] b = b
either (x ∷ a) [] = x ∷ a
either (x ∷ a) (y ∷ b) = (x || y) ∷ either a b

-- whose epoch the event begins, where it is accepted
abbrev pub begins : Event → Option ClientId
begins (Try k) = Some k
begins (Exit k) = None
begins (Fall k) = None
begins (Down j) = None
begins (Up j) = None
begins (Take i) = None
begins (Drop i) = None
begins (Miss j) = None
begins (Check j) = None

-- whether it ends client k's
abbrev pub ends : ClientId → Event → Bool
ends k (Try i) = false
ends k (Exit i) = eqb i.0 k.0
ends k (Fall i) = eqb i.0 k.0
ends k (Down j) = false
ends k (Up j) = false
ends k (Take i) = false
ends k (Drop i) = false
ends k (Miss j) = false
ends k (Check j) = false

-- by a step that says what an event does
module _ (step : System → Event → EventOutcome) where
  -- the servers down at some moment of client k's epoch, from now to its end
  unfoldable pub ever_down : ClientId → System → List Event → List Bool
  ever_down k w [] = down_now w
  ever_down k w (e ∷ es) =
      if is_stepped (step w e) && ends k e then down_now w
      else either (down_now w) (ever_down k (after w (step w e)) es)

  -- the most within one epoch: at each accepted try, how many different servers are ever down from then to the epoch's end
  unfoldable pub most_down : System → List Event → ℕ
  most_down w [] = 0
  most_down w (e ∷ es) =
      max (maybe (if is_stepped (step w e) then begins e else None) 0 (λ k. count (ever_down k (after w (step w e)) es)))
      (most_down (after w (step w e)) es)

-- a step that may refuse more than `event` does, and else does the same
abbrev pub Follows : ℕ → Quorum → (System → Event → EventOutcome) → Type 0
Follows n wins step = (w : System) (e : Event) → is_stepped (step w e) ≡ true → step w e ≡ event n wins w e
