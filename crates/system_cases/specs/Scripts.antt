-- Scripts of events with the answer to each, worked out by hand from document 01: the same as in tests/scripts, whose table says
-- why each is there. They hold the definitions of the system to their refusals and counts, which no theorem about runs does.
use Rattle.std.specs.Prelude.{◌≡◌, ℕ, List, [], ◌∷◌, map, length}
use Rattle.ids.specs.Refusals.{code}
use Rattle.wire.specs.Step.{refused, stepped}
use Rattle.client_responses.specs.Figure1.{enough}
use Rattle.system.specs.declared.Event.{Event}
use Rattle.system.specs.declared.Event.TheVariants.{Try, Exit, Fall, Down, Up, Drop, Miss, Check}
use Rattle.system.specs.Places.{System, holders}
use Rattle.system.specs.Events.{EventOutcome, event}
use Rattle.system.specs.Runs.{after, start, next, run, accepted_events, most_holders}
use Rattle.system.specs.Setting.{takes}
use Rattle.system.specs.Numbered.{client_no, server_no}

abbrev pub drops : ℕ → Event
drops i = Drop (record { 0 = i })

-- an accepted event sends so many messages and leaves so many holders; a refused one has its number
pub data Said : Type 0 where
  sends : ℕ → ℕ → Said
  refuses : ℕ → Said

infix 8 ◌⇒◌
pub data Line : Type 0 where
  ◌⇒◌ : Event → Said → Line

pub record Script : Type 0 where
  pub n : ℕ
  pub m : ℕ
  pub clients : ℕ
  pub lines : List Line
  -- the end line: accepted events, most holders at once, most servers down within one epoch
  pub accepted : ℕ
  pub holding : ℕ
  pub downs : ℕ

abbrev pub said : System → EventOutcome → Said
said w (refused x) = refuses (code x)
said w (stepped s) = sends (length s.sent) (holders (after w (stepped s)))

-- the lines with the answers that the definitions give
unfoldable pub played : ℕ → ℕ → System → List Line → List Line
played n m w [] = []
played n m w ((e ⇒ a) ∷ l) = (e ⇒ said w (event n (enough m) w e)) ∷ played n m (next n (enough m) w e) l

abbrev pub event_of : Line → Event
event_of (e ⇒ a) = e

-- the script with the answers and counts that the definitions give
abbrev pub replayed : Script → Script
replayed s =
    let fresh : System = start s.n (enough s.m) s.clients in
    record {
      n = s.n;
      m = s.m;
      clients = s.clients;
      lines = played s.n s.m fresh s.lines;
      accepted = accepted_events (event s.n (enough s.m)) fresh (map event_of s.lines);
      holding = most_holders (event s.n (enough s.m)) fresh (map event_of s.lines);
      downs = (run s.n (enough s.m) s.clients (map event_of s.lines)).most;
    }

-- played again, it is the script that was worked out by hand
abbrev pub Plays : Script → Type 0
Plays s = replayed s ≡ s

abbrev pub AllPlay : List Script → Type 0
AllPlay [] = Unit {0}
AllPlay (s ∷ l) = Plays s × AllPlay l

unfoldable pub example : List Line
example =
    (Try (client_no 1) ⇒ sends 2 0) ∷ (takes 1 ⇒ sends 1 0) ∷ (takes 3 ⇒ sends 0 1) ∷ (Try (client_no 2) ⇒ sends 2 1) ∷
    (takes 5 ⇒ sends 1 1) ∷ (takes 6 ⇒ sends 0 2) ∷ []

unfoldable pub two_holders : List Line
two_holders =
    (Try (client_no 1) ⇒ sends 3 0) ∷ (takes 1 ⇒ sends 1 0) ∷ (takes 2 ⇒ sends 1 0) ∷ (takes 4 ⇒ sends 0 0) ∷
    (takes 5 ⇒ sends 0 1) ∷ (Down (server_no 1) ⇒ sends 0 1) ∷ (Up (server_no 1) ⇒ sends 0 1) ∷ (Try (client_no 2) ⇒ sends 3 1) ∷
    (takes 6 ⇒ sends 1 1) ∷ (takes 8 ⇒ sends 1 1) ∷ (takes 9 ⇒ sends 0 1) ∷ (takes 10 ⇒ sends 0 2) ∷ []

unfoldable pub yield_round : List Line
yield_round =
    (Try (client_no 1) ⇒ sends 3 0) ∷ (Try (client_no 2) ⇒ sends 3 0) ∷ (Try (client_no 3) ⇒ sends 3 0) ∷ (takes 1 ⇒ sends 1 0) ∷
    (takes 5 ⇒ sends 1 0) ∷ (takes 9 ⇒ sends 1 0) ∷ (takes 2 ⇒ sends 1 0) ∷ (takes 3 ⇒ sends 1 0) ∷ (takes 4 ⇒ sends 1 0) ∷
    (takes 6 ⇒ sends 1 0) ∷ (takes 7 ⇒ sends 1 0) ∷ (takes 8 ⇒ sends 1 0) ∷ (takes 10 ⇒ sends 0 0) ∷ (takes 13 ⇒ sends 0 0) ∷
    (takes 14 ⇒ sends 3 0) ∷ (takes 11 ⇒ sends 0 0) ∷ (takes 15 ⇒ sends 0 0) ∷ (takes 16 ⇒ sends 3 0) ∷ (takes 12 ⇒ sends 0 0) ∷
    (takes 17 ⇒ sends 0 0) ∷ (takes 18 ⇒ sends 3 0) ∷ (takes 19 ⇒ sends 1 0) ∷ (takes 22 ⇒ sends 1 0) ∷ (takes 25 ⇒ sends 1 0) ∷
    (takes 23 ⇒ sends 2 0) ∷ (takes 20 ⇒ sends 0 0) ∷ (takes 26 ⇒ sends 1 0) ∷ (takes 27 ⇒ sends 2 0) ∷ (takes 21 ⇒ sends 0 0) ∷
    (takes 24 ⇒ sends 1 0) ∷ (takes 28 ⇒ sends 0 0) ∷ (takes 31 ⇒ sends 0 0) ∷ (takes 34 ⇒ sends 0 1) ∷
    (Exit (client_no 1) ⇒ sends 3 0) ∷ (takes 37 ⇒ sends 1 0) ∷ (takes 38 ⇒ sends 1 0) ∷ (takes 39 ⇒ sends 1 0) ∷
    (takes 40 ⇒ sends 0 0) ∷ (takes 41 ⇒ sends 0 0) ∷ (takes 42 ⇒ sends 0 1) ∷ (takes 29 ⇒ sends 0 1) ∷ []

unfoldable pub redelivery : List Line
redelivery =
    (Try (client_no 1) ⇒ sends 4 0) ∷ (takes 1 ⇒ sends 1 0) ∷ (takes 1 ⇒ refuses 17) ∷ (Down (server_no 1) ⇒ sends 0 0) ∷
    (takes 1 ⇒ refuses 18) ∷ (Up (server_no 1) ⇒ sends 0 0) ∷ (takes 1 ⇒ sends 1 0) ∷ (takes 5 ⇒ sends 0 0) ∷
    (takes 6 ⇒ sends 0 0) ∷ (takes 2 ⇒ sends 1 0) ∷ (takes 3 ⇒ sends 1 0) ∷ (takes 7 ⇒ sends 0 0) ∷ (takes 8 ⇒ sends 0 1) ∷
    (Exit (client_no 1) ⇒ sends 4 0) ∷ (takes 9 ⇒ sends 0 0) ∷ (takes 10 ⇒ sends 0 0) ∷ (Down (server_no 2) ⇒ sends 0 0) ∷
    (Up (server_no 2) ⇒ sends 0 0) ∷ (takes 2 ⇒ sends 1 0) ∷ (Check (server_no 2) ⇒ sends 1 0) ∷ (takes 14 ⇒ sends 1 0) ∷
    (takes 15 ⇒ sends 0 0) ∷ (Check (server_no 2) ⇒ sends 0 0) ∷ (takes 13 ⇒ sends 0 0) ∷ (Miss (server_no 2) ⇒ refuses 15) ∷
    (drops 1 ⇒ sends 0 0) ∷ (drops 1 ⇒ refuses 17) ∷ (Down (server_no 1) ⇒ sends 0 0) ∷ (Up (server_no 1) ⇒ sends 0 0) ∷
    (takes 1 ⇒ refuses 17) ∷ (takes 3 ⇒ refuses 17) ∷ (takes 9 ⇒ sends 0 0) ∷ []

unfoldable pub ownerless_answer : List Line
ownerless_answer =
    (Try (client_no 1) ⇒ sends 2 0) ∷ (Try (client_no 2) ⇒ sends 2 0) ∷ (takes 1 ⇒ sends 1 0) ∷ (takes 4 ⇒ sends 1 0) ∷
    (takes 2 ⇒ sends 1 0) ∷ (takes 3 ⇒ sends 1 0) ∷ (takes 6 ⇒ sends 0 0) ∷ (takes 8 ⇒ sends 2 0) ∷ (takes 5 ⇒ sends 0 0) ∷
    (takes 7 ⇒ sends 2 0) ∷ (Down (server_no 1) ⇒ sends 0 0) ∷ (Up (server_no 1) ⇒ sends 0 0) ∷ (takes 11 ⇒ sends 1 0) ∷
    (takes 1 ⇒ sends 1 0) ∷ (takes 14 ⇒ sends 0 0) ∷ (takes 13 ⇒ sends 0 0) ∷ (takes 10 ⇒ sends 2 0) ∷ (takes 12 ⇒ sends 0 0) ∷
    (takes 15 ⇒ sends 0 1) ∷ (takes 16 ⇒ sends 0 1) ∷ (Down (server_no 2) ⇒ sends 0 1) ∷ (Up (server_no 2) ⇒ sends 0 1) ∷
    (takes 10 ⇒ sends 1 1) ∷ (takes 17 ⇒ sends 0 1) ∷ (takes 9 ⇒ sends 1 1) ∷ (takes 18 ⇒ sends 0 1) ∷ []

unfoldable pub lost_release : List Line
lost_release =
    (Try (client_no 1) ⇒ sends 1 0) ∷ (takes 1 ⇒ sends 1 0) ∷ (takes 2 ⇒ sends 0 1) ∷ (Exit (client_no 1) ⇒ sends 1 0) ∷
    (Try (client_no 2) ⇒ sends 1 0) ∷ (takes 4 ⇒ sends 1 0) ∷ (drops 3 ⇒ sends 0 0) ∷ (Try (client_no 1) ⇒ sends 1 0) ∷
    (takes 6 ⇒ sends 2 0) ∷ (takes 7 ⇒ sends 0 1) ∷ (takes 5 ⇒ sends 0 1) ∷ (Exit (client_no 2) ⇒ sends 1 0) ∷
    (takes 9 ⇒ sends 1 0) ∷ (takes 10 ⇒ sends 0 1) ∷ []

unfoldable pub old_timestamp_answer : List Line
old_timestamp_answer =
    (Try (client_no 1) ⇒ sends 3 0) ∷ (takes 1 ⇒ sends 1 0) ∷ (takes 2 ⇒ sends 1 0) ∷ (takes 3 ⇒ sends 1 0) ∷
    (takes 4 ⇒ sends 0 0) ∷ (takes 5 ⇒ sends 0 1) ∷ (Exit (client_no 1) ⇒ sends 3 0) ∷ (Try (client_no 1) ⇒ sends 3 0) ∷
    (takes 6 ⇒ sends 0 0) ∷ (takes 7 ⇒ sends 0 0) ∷ (takes 10 ⇒ sends 1 0) ∷ (takes 13 ⇒ sends 0 0) ∷ (takes 11 ⇒ sends 1 0) ∷
    (takes 14 ⇒ sends 0 1) ∷ (takes 8 ⇒ sends 0 1) ∷ []

unfoldable pub late_request : List Line
late_request =
    (Try (client_no 1) ⇒ sends 3 0) ∷ (takes 1 ⇒ sends 1 0) ∷ (takes 2 ⇒ sends 1 0) ∷ (takes 4 ⇒ sends 0 0) ∷
    (takes 5 ⇒ sends 0 1) ∷ (Exit (client_no 1) ⇒ sends 3 0) ∷ (Try (client_no 2) ⇒ sends 3 0) ∷ (takes 11 ⇒ sends 1 0) ∷
    (Try (client_no 1) ⇒ sends 3 0) ∷ (takes 15 ⇒ sends 1 0) ∷ (takes 3 ⇒ sends 0 0) ∷ (takes 8 ⇒ sends 0 0) ∷
    (takes 12 ⇒ sends 0 0) ∷ []

unfoldable pub inquiry_or_request : List Line
inquiry_or_request =
    (Try (client_no 1) ⇒ sends 2 0) ∷ (Try (client_no 2) ⇒ sends 2 0) ∷ (takes 1 ⇒ sends 1 0) ∷ (takes 4 ⇒ sends 1 0) ∷
    (takes 2 ⇒ sends 1 0) ∷ (takes 3 ⇒ sends 1 0) ∷ (takes 6 ⇒ sends 0 0) ∷ (takes 8 ⇒ sends 2 0) ∷ (takes 5 ⇒ sends 0 0) ∷
    (takes 7 ⇒ sends 2 0) ∷ (Down (server_no 1) ⇒ sends 0 0) ∷ (Up (server_no 1) ⇒ sends 0 0) ∷ (takes 9 ⇒ sends 0 0) ∷
    (Down (server_no 2) ⇒ sends 0 0) ∷ (Up (server_no 2) ⇒ sends 0 0) ∷ (takes 12 ⇒ sends 1 0) ∷ []

unfoldable pub earlier_timestamp_first : List Line
earlier_timestamp_first =
    (Try (client_no 1) ⇒ sends 1 0) ∷ (takes 1 ⇒ sends 1 0) ∷ (takes 2 ⇒ sends 0 1) ∷ (Exit (client_no 1) ⇒ sends 1 0) ∷
    (takes 3 ⇒ sends 0 0) ∷ (Try (client_no 3) ⇒ sends 1 0) ∷ (takes 4 ⇒ sends 1 0) ∷ (Try (client_no 1) ⇒ sends 1 0) ∷
    (takes 6 ⇒ sends 1 0) ∷ (Try (client_no 2) ⇒ sends 1 0) ∷ (takes 8 ⇒ sends 1 0) ∷ (takes 5 ⇒ sends 0 1) ∷
    (Exit (client_no 3) ⇒ sends 1 0) ∷ (takes 10 ⇒ sends 1 0) ∷ (takes 11 ⇒ sends 0 1) ∷ (Exit (client_no 1) ⇒ refuses 10) ∷
    (Exit (client_no 2) ⇒ sends 1 0) ∷ []

unfoldable pub fallen_owner : List Line
fallen_owner =
    (Try (client_no 1) ⇒ sends 1 0) ∷ (takes 1 ⇒ sends 1 0) ∷ (Try (client_no 2) ⇒ sends 1 0) ∷ (Try (client_no 3) ⇒ sends 1 0) ∷
    (takes 3 ⇒ sends 1 0) ∷ (takes 4 ⇒ sends 1 0) ∷ (Miss (server_no 1) ⇒ refuses 20) ∷ (Fall (client_no 1) ⇒ sends 0 0) ∷
    (Fall (client_no 2) ⇒ sends 0 0) ∷ (takes 2 ⇒ refuses 18) ∷ (Miss (server_no 1) ⇒ sends 1 0) ∷ (takes 7 ⇒ refuses 18) ∷
    (Miss (server_no 1) ⇒ sends 1 0) ∷ (takes 8 ⇒ sends 0 1) ∷ (Miss (server_no 1) ⇒ refuses 20) ∷ (Check (server_no 1) ⇒ sends 1 1) ∷
    (takes 9 ⇒ sends 0 1) ∷ (Fall (client_no 3) ⇒ sends 0 0) ∷ (Miss (server_no 1) ⇒ sends 0 0) ∷ (Miss (server_no 1) ⇒ refuses 15) ∷ []

unfoldable pub request_of_the_fallen : List Line
request_of_the_fallen =
    (Try (client_no 1) ⇒ sends 1 0) ∷ (Fall (client_no 1) ⇒ sends 0 0) ∷ (takes 1 ⇒ sends 1 0) ∷ (Try (client_no 2) ⇒ sends 1 0) ∷
    (takes 3 ⇒ sends 1 0) ∷ (takes 4 ⇒ sends 1 0) ∷ (takes 5 ⇒ sends 1 0) ∷ (Miss (server_no 1) ⇒ sends 1 0) ∷
    (takes 7 ⇒ sends 0 1) ∷ []

unfoldable pub epochs : List Line
epochs =
    (Down (server_no 1) ⇒ sends 0 0) ∷ (Down (server_no 2) ⇒ sends 0 0) ∷ (Up (server_no 2) ⇒ sends 0 0) ∷ (Try (client_no 1) ⇒ sends 4 0) ∷
    (Down (server_no 3) ⇒ sends 0 0) ∷ (Up (server_no 3) ⇒ sends 0 0) ∷ (Down (server_no 3) ⇒ sends 0 0) ∷ (takes 2 ⇒ sends 1 0) ∷
    (takes 5 ⇒ sends 0 1) ∷ (Exit (client_no 1) ⇒ sends 4 0) ∷ (Down (server_no 4) ⇒ sends 0 0) ∷ (Up (server_no 1) ⇒ sends 0 0) ∷
    (Up (server_no 3) ⇒ sends 0 0) ∷ (Try (client_no 2) ⇒ sends 4 0) ∷ (Fall (client_no 2) ⇒ sends 0 0) ∷ (Down (server_no 1) ⇒ sends 0 0) ∷
    (Down (server_no 2) ⇒ sends 0 0) ∷ (Down (server_no 3) ⇒ sends 0 0) ∷ []

unfoldable pub down_at_the_start : List Line
down_at_the_start =
    (Down (server_no 1) ⇒ sends 0 0) ∷ (Down (server_no 2) ⇒ sends 0 0) ∷ (Down (server_no 3) ⇒ sends 0 0) ∷ (Up (server_no 1) ⇒ sends 0 0) ∷
    (Try (client_no 1) ⇒ sends 3 0) ∷ (takes 1 ⇒ sends 1 0) ∷ (takes 4 ⇒ sends 0 1) ∷ []

unfoldable pub stalling_setting : List Line
stalling_setting =
    (Try (client_no 1) ⇒ sends 4 0) ∷ (Down (server_no 4) ⇒ sends 0 0) ∷ (takes 1 ⇒ sends 1 0) ∷ (takes 2 ⇒ sends 1 0) ∷
    (takes 3 ⇒ sends 1 0) ∷ (takes 4 ⇒ refuses 18) ∷ (takes 5 ⇒ sends 0 0) ∷ (takes 6 ⇒ sends 0 0) ∷ (takes 7 ⇒ sends 0 0) ∷
    (Up (server_no 4) ⇒ sends 0 0) ∷ (takes 4 ⇒ sends 1 0) ∷ (takes 8 ⇒ sends 0 1) ∷ []

unfoldable pub refusals : List Line
refusals =
    (Exit (client_no 1) ⇒ refuses 10) ∷ (Try (client_no 1) ⇒ sends 2 0) ∷ (Try (client_no 1) ⇒ refuses 10) ∷
    (Exit (client_no 1) ⇒ refuses 10) ∷ (takes 1 ⇒ sends 1 0) ∷ (Miss (server_no 1) ⇒ refuses 20) ∷ (Miss (server_no 2) ⇒ refuses 15) ∷
    (Try (client_no 0) ⇒ refuses 17) ∷ (Exit (client_no 3) ⇒ refuses 17) ∷ (Fall (client_no 257) ⇒ refuses 17) ∷
    (Down (server_no 0) ⇒ refuses 17) ∷ (Up (server_no 3) ⇒ refuses 17) ∷ (Miss (server_no 65537) ⇒ refuses 17) ∷
    (Check (server_no 3) ⇒ refuses 17) ∷ (takes 0 ⇒ refuses 17) ∷ (takes 4 ⇒ refuses 17) ∷ (takes 4294967295 ⇒ refuses 17) ∷
    (drops 4 ⇒ refuses 17) ∷ (Up (server_no 1) ⇒ refuses 18) ∷ (Down (server_no 2) ⇒ sends 0 0) ∷ (Down (server_no 2) ⇒ refuses 18) ∷
    (takes 2 ⇒ refuses 18) ∷ (Miss (server_no 2) ⇒ refuses 18) ∷ (Check (server_no 2) ⇒ refuses 18) ∷ (Fall (client_no 1) ⇒ sends 0 0) ∷
    (Fall (client_no 1) ⇒ refuses 18) ∷ (Try (client_no 1) ⇒ refuses 18) ∷ (Exit (client_no 1) ⇒ refuses 18) ∷ (takes 3 ⇒ refuses 18) ∷
    (takes 1 ⇒ refuses 17) ∷ (Miss (server_no 1) ⇒ sends 0 0) ∷ (Miss (server_no 1) ⇒ refuses 15) ∷ (drops 3 ⇒ sends 0 0) ∷
    (drops 3 ⇒ refuses 17) ∷ []

unfoldable pub scripts : List Script
scripts =
    record { n = 2; m = 1; clients = 2; lines = example; accepted = 6; holding = 2; downs = 0 } ∷
    record { n = 3; m = 2; clients = 2; lines = two_holders; accepted = 12; holding = 2; downs = 1 } ∷
    record { n = 3; m = 3; clients = 3; lines = yield_round; accepted = 41; holding = 1; downs = 0 } ∷
    record { n = 4; m = 3; clients = 2; lines = redelivery; accepted = 26; holding = 1; downs = 1 } ∷
    record { n = 2; m = 2; clients = 2; lines = ownerless_answer; accepted = 26; holding = 1; downs = 2 } ∷
    record { n = 1; m = 1; clients = 2; lines = lost_release; accepted = 14; holding = 1; downs = 0 } ∷
    record { n = 3; m = 2; clients = 1; lines = old_timestamp_answer; accepted = 15; holding = 1; downs = 0 } ∷
    record { n = 3; m = 2; clients = 2; lines = late_request; accepted = 13; holding = 1; downs = 0 } ∷
    record { n = 2; m = 2; clients = 2; lines = inquiry_or_request; accepted = 16; holding = 0; downs = 2 } ∷
    record { n = 1; m = 1; clients = 3; lines = earlier_timestamp_first; accepted = 16; holding = 1; downs = 0 } ∷
    record { n = 1; m = 1; clients = 3; lines = fallen_owner; accepted = 15; holding = 1; downs = 0 } ∷
    record { n = 1; m = 1; clients = 2; lines = request_of_the_fallen; accepted = 9; holding = 1; downs = 0 } ∷
    record { n = 4; m = 1; clients = 2; lines = epochs; accepted = 18; holding = 1; downs = 2 } ∷
    record { n = 3; m = 1; clients = 1; lines = down_at_the_start; accepted = 7; holding = 1; downs = 2 } ∷
    record { n = 4; m = 4; clients = 1; lines = stalling_setting; accepted = 11; holding = 1; downs = 1 } ∷
    record { n = 2; m = 1; clients = 2; lines = refusals; accepted = 6; holding = 0; downs = 1 } ∷
    []
