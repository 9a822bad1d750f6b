-- Definitions that only the contracts of private functions cite: no promise rests on them.
use Rattle.std.specs.Prelude.{ℕ, ◌≡◌, true, false, List, [], ◌∷◌, if◌then◌else◌, Some, None, Option}
use Rattle.ids.specs.Requests.{is_client}
use Rattle.ids.specs.declared.ClientId.{ClientId}
use Rattle.ids.specs.declared.ServerId.{ServerId}
use Rattle.ids.specs.declared.Request.{Request}
use Rattle.ids.specs.declared.Timestamp.{Timestamp}
use Rattle.wire.specs.Step.{Step, tell}
use Rattle.wire.specs.declared.Message.{Message}
use Rattle.wire.specs.declared.Message.TheVariants.{Response}
use Rattle.server_votes.specs.declared.Moved.{Moved}
use Rattle.server_votes.specs.declared.Votes.{Votes}
use Rattle.server_votes.specs.Figure1.{State, enqueue}
use Rattle.server_votes.specs.Places.{mails, Moves, MovesOne, telling}

-- the same from any votes: the row is never too short
pub record MovesAny (row after : List ℕ) (m : Moved) (s : Step State) : Type 0 where
  pub from : (v : Votes) → MovesOne v row after m s

-- the same, with at most two messages
pub record MovesTwo (v : Votes) (row after : List ℕ) (m : Moved) (s : Step State) : Type 0 where
  pub moves : Moves v row after m s
  pub third : m.third ≡ None

-- the messages of `inform`, which go by the owner alone
abbrev pub informed : ServerId → ClientId → Option Request → List Message
informed j k o = if is_client k o then [] else Response k j o ∷ []

-- h as owner before a queue of n, and told so
abbrev pub leading : ServerId → Request → ℕ → Moved
leading j h n = telling (record { owner = Some h; len = n }) (Response h.client j (Some h))

-- the row is too short
abbrev pub overflowing : Votes → Message → Moved
overflowing v m = record { votes = v; full = true; first = Some m; second = None; third = None }

-- lines 33 to 35 behind an owner
abbrev pub joining : ServerId → Request → State → Step State
joining j r q = tell (record { owner = q.owner; queue = enqueue r q.queue }) (Response r.client j q.owner)

-- votes v, and `inform` by their owner
pub record Informs (j : ServerId) (k : ClientId) (v : Votes) (m : Moved) : Type 0 where
  pub votes : m.votes ≡ v
  pub full : m.full ≡ false
  pub first : mails m.first ≡ informed j k v.owner
  pub second : m.second ≡ None
  pub third : m.third ≡ None

-- m is p, and then `inform` by p's owner
pub record Followed (j : ServerId) (k : ClientId) (p m : Moved) : Type 0 where
  pub votes : m.votes ≡ p.votes
  pub full : m.full ≡ p.full
  pub first : m.first ≡ p.first
  pub second : mails m.second ≡ informed j k p.votes.owner
  pub third : m.third ≡ None

-- one part after another, the first with at most one message and the second with at most two
abbrev pub joined_by : Option Message → Moved → Moved → Moved
joined_by None p m = m
joined_by (Some x) p m = record { votes = m.votes; full = m.full; first = p.first; second = m.first; third = m.second }

abbrev pub joined : Moved → Moved → Moved
joined p m = joined_by p.first p m
