-- A run of a setting's events: its system so far, how many events were accepted, and the most living clients in the critical section
-- at once, at the start or after any event. A refused event leaves all of it.
use Rattle.std.specs.Prelude.{ℕ, ◌+◌, max, List, [], ◌∷◌}
use Rattle.wire.specs.Step.{refused, stepped}
use Rattle.client_responses.specs.Figure1.{enough}
use Rattle.system.specs.declared.Setting.{Setting}
use Rattle.system.specs.declared.Event.{Event}
use Rattle.system.specs.Places.{System, holders}
use Rattle.system.specs.Events.{EventOutcome}
use Rattle.system.specs.Runs.{after, start}
use Rattle.sim_changes.specs.Happens.{bounded}

pub record Run : Type 0 where
  pub setting : Setting
  pub system : System
  pub accepted : ℕ
  pub holding : ℕ

-- a fresh run
abbrev pub fresh : Setting → System
fresh s = start s.n (enough s.m) s.clients

abbrev pub started : Setting → Run
started s = record { setting = s; system = fresh s; accepted = 0; holding = holders (fresh s) }

-- an event of the simulation: the system's, with refusal 19
abbrev pub happens : Setting → System → Event → EventOutcome
happens s w e = bounded s.n s.m w e

-- after an event, which gave o
unfoldable pub moved : Run → EventOutcome → Run
moved r (refused x) = r
moved r (stepped t) =
    record {
      setting = r.setting;
      system = after r.system (stepped t);
      accepted = r.accepted + 1;
      holding = max r.holding (holders (after r.system (stepped t)));
    }

abbrev pub next : Run → Event → Run
next r e = moved r (happens r.setting r.system e)

-- after events, one after another
unfoldable pub plays : Run → List Event → Run
plays r [] = r
plays r (e ∷ es) = plays (next r e) es
