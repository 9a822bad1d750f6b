-- Cases of the clock, document 02's L4: its worked case, those of what is seen beside it, and the edges of refusal 11. The client is client 5, with two
-- servers and threshold 2.
use Rattle.ids.specs.declared.Request.{Request}
use Rattle.std.specs.Prelude.{◌≡◌, ℕ, List, [], ◌∷◌, Some, None, Option}
use Rattle.ids.specs.Refusals.{code}
use Rattle.wire.specs.Step.{Outcome, refused, stepped}
use Rattle.client_responses.specs.declared.Section.{Section}
use Rattle.client_responses.specs.declared.Section.TheVariants.{Remainder, Trying, Critical}
use Rattle.client_responses.specs.Figure1.{State, enough, try_checked, exit_checked, tries, exits, responds, checked}
use Rattle.system_cases.specs.Starred.{client, server, pair}

-- the timestamp that is taken, or the number of the refusal
pub data Says : Type 0 where
  takes : ℕ → Says
  refuses : ℕ → Says

abbrev pub said : Outcome State → Says
said (refused e) = refuses (code e)
said (stepped p) = takes p.state.timestamp.0

-- a client with this last timestamp and this largest one seen, in a section
abbrev pub having : Section → ℕ → ℕ → State
having s last seen = record { section = s; timestamp = record { 0 = last }; seen = record { 0 = seen }; responses = None ∷ None ∷ [] }

-- a try or an exit says so; a RESPONSE or a CHECK, in a section, leaves so much seen
pub data Case : Type 0 where
  tried : ℕ → ℕ → Says → Case
  exited : ℕ → ℕ → Says → Case
  told : Section → ℕ → ℕ → Option Request → ℕ → Case
  asked : Section → ℕ → ℕ → ℕ → ℕ → Case

unfoldable pub timestamps : List Case
timestamps =
    tried 3 40 (takes 41)
    ∷ exited 41 40 (takes 42)
    ∷ exited 41 50 (takes 42)
    ∷ tried 42 50 (takes 51)
    ∷ tried 0 0 (takes 1)
    ∷ tried 40 3 (takes 41)
    ∷ tried 4294967293 0 (takes 4294967294)
    ∷ tried 0 4294967293 (takes 4294967294)
    ∷ tried 4294967294 0 (refuses 11)
    ∷ tried 0 4294967294 (refuses 11)
    ∷ tried 4294967295 3 (refuses 11)
    ∷ tried 3 4294967295 (refuses 11)
    ∷ exited 4294967294 4294967295 (takes 4294967295)
    ∷ []

unfoldable pub seen : List Case
seen =
    told Remainder 3 7 (Some (pair 9 40)) 40
    ∷ told Trying 3 7 (Some (pair 9 40)) 40
    ∷ told Critical 3 7 (Some (pair 9 40)) 40
    ∷ told Trying 3 7 (Some (pair 9 5)) 7
    ∷ told Trying 30 7 (Some (pair 5 29)) 29
    ∷ told Trying 30 7 (Some (pair 5 30)) 30
    ∷ told Trying 3 7 None 7
    ∷ asked Remainder 3 7 40 40
    ∷ asked Trying 40 7 40 40
    ∷ asked Critical 41 7 40 40
    ∷ asked Critical 41 70 40 70
    ∷ []

-- what a case says of the definitions
abbrev pub Holds : Case → Type 0
Holds (tried last seen s) = said (try_checked (having Remainder last seen) (stepped (tries 2 (client 5) (having Remainder last seen)))) ≡ s
Holds (exited last seen s) = said (exit_checked (having Critical last seen) (stepped (exits 2 (client 5) (having Critical last seen)))) ≡ s
Holds (told s last seen o after) = (responds (enough 2) 2 (client 5) (server 1) o (having s last seen)).state.seen.0 ≡ after
Holds (asked s last seen t after) = (checked (client 5) (server 1) (record { 0 = t }) (having s last seen)).state.seen.0 ≡ after

abbrev pub All : List Case → Type 0
All [] = Unit {0}
All (c ∷ l) = Holds c × All l
