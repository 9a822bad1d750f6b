-- All the short runs of a setting, in order: document 02, L5. What follows a run is listed with one event fewer to go.
use Rattle.std.specs.Prelude.{ℕ, zero, suc, Bool, ◌&&◌, List, [], ◌∷◌, ◌++◌, map, leb, length, if◌then◌else◌}
use Rattle.client_responses.specs.Figure1.{count, enough}
use Rattle.system.specs.declared.Event.{Event}
use Rattle.system.specs.declared.Event.TheVariants.{Try, Exit, Fall, Down, Up, Take, Drop, Miss, Check}
use Rattle.system.specs.declared.Setting.{Setting}
use Rattle.system.specs.Numbered.{client_no, server_no, span}
use Rattle.system.specs.Setting.{takes}
use Rattle.system.specs.Places.{System}
use Rattle.system.specs.Events.{EventOutcome, event}
use Rattle.system.specs.Runs.{after, is_stepped, most_holders, start}

-- the sizes up to which runs are listed
abbrev pub listed_servers : ℕ
listed_servers = 3

abbrev pub listed_clients : ℕ
listed_clients = 2

abbrev pub listed_events : ℕ
listed_events = 6

-- the setting and the count of events are within these sizes; whether the setting is in range is judged before
unfoldable pub small : Setting → ℕ → Bool
small s events = leb s.n listed_servers && leb s.clients listed_clients && leb events listed_events

-- what f makes of each element, one after another
abbrev pub each : {A B : Type 0} → (A → List B) → List A → List B
each f [] = []
each f (x ∷ l) = f x ++ each f l

-- the events of so many clients, servers and messages, in the order of document 01's names and then of their numbers
unfoldable pub events_of : ℕ → ℕ → ℕ → List Event
events_of clients servers messages =
    map (λ k. Try (client_no k)) (span 0 clients) ++ (map (λ k. Exit (client_no k)) (span 0 clients) ++ (
    map (λ k. Fall (client_no k)) (span 0 clients) ++ (map (λ j. Down (server_no j)) (span 0 servers) ++ (
    map (λ j. Up (server_no j)) (span 0 servers) ++ (map takes (span 0 messages) ++ (
    map (λ i. Drop (record { 0 = i })) (span 0 messages) ++ (map (λ j. Miss (server_no j)) (span 0 servers) ++
    map (λ j. Check (server_no j)) (span 0 servers))))))))

-- the events that a system could accept: of its clients, its servers, and the messages ever sent
abbrev pub candidates : System → List Event
candidates w = events_of (length w.clients) (length w.servers) w.sent

-- by a step that says what an event does, within f servers ever down within one epoch
module _ (step : System → Event → EventOutcome) (f : ℕ) where
  -- the event is accepted, and what was a run is one still
  abbrev pub goes_on : System → Event → Bool
  goes_on w e = is_stepped (step w e) && leb (after w (step w e)).most f

  -- what can follow, of at most so many events and at least one: each event that goes on, by itself, and then with what can follow it
  unfoldable pub follow : ℕ → System → List (List Event)
  follow zero w = []
  follow (suc left) w =
      each (λ e. if goes_on w e then map (λ es. e ∷ es) ([] ∷ follow left (after w (step w e))) else []) (candidates w)

-- the events of a setting, and its start
abbrev pub step : Setting → System → Event → EventOutcome
step s = event s.n (enough s.m)

abbrev pub fresh : Setting → System
fresh s = start s.n (enough s.m) s.clients

-- every run of at most so many events, all of them accepted
abbrev pub runs : Setting → ℕ → List (List Event)
runs s events = [] ∷ follow (step s) s.f events (fresh s)

-- two living clients are in the critical section at some moment of the run
abbrev pub meets : Setting → List Event → Bool
meets s es = leb 2 (most_holders (step s) (fresh s) es)

-- how many of the runs do
abbrev pub meetings : Setting → ℕ → ℕ
meetings s events = count (map (meets s) (runs s events))
