-- What a part of a server's step leaves: the row, the votes beside it, and at most three messages to send.
use Rattle.std.specs.Prelude.{ℕ, ◌*◌, ◌≡◌, true, false, List, [], ◌∷◌, ◌++◌, ltb, length, Some, None, Option}
use Rattle.rows.specs.Queues.{Holds}
use Rattle.wire.specs.Step.{Step}
use Rattle.wire.specs.declared.Message.{Message}
use Rattle.server_votes.specs.declared.Moved.{Moved}
use Rattle.server_votes.specs.declared.Votes.{Votes}
use Rattle.server_votes.specs.Figure1.{State}

abbrev pub mails : Option Message → List Message
mails None = []
mails (Some m) = m ∷ []

-- a part of the code's step, from votes v, does what the definition's step s does, unless the row is too short for its queue: then votes and row
-- stay as they were. Its messages stand in the first places.
pub record Moves (v : Votes) (row after : List ℕ) (m : Moved) (s : Step State) : Type 0 where
  pub full : m.full ≡ ltb (length row) (2 * length s.state.queue)
  pub kept : m.full ≡ true → (after ≡ row) × (m.votes ≡ v)
  pub owner : m.full ≡ false → m.votes.owner ≡ s.state.owner
  pub queue : m.full ≡ false → Holds row after m.votes.len s.state.queue
  pub sent : mails m.first ++ mails m.second ++ mails m.third ≡ s.sent
  pub one_first : m.first ≡ None → m.second ≡ None
  pub two_first : m.second ≡ None → m.third ≡ None

pub record MovesOne (v : Votes) (row after : List ℕ) (m : Moved) (s : Step State) : Type 0 where
  pub moves : Moves v row after m s
  pub second : m.second ≡ None
  pub third : m.third ≡ None

-- votes v and one message, or none
abbrev pub still : Votes → Moved
still v = record { votes = v; full = false; first = None; second = None; third = None }

abbrev pub telling : Votes → Message → Moved
telling v m = record { votes = v; full = false; first = Some m; second = None; third = None }
