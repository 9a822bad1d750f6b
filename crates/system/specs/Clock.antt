-- What the clock of document 02's L4 is for: the timestamp that a client takes at a try is greater than every timestamp that it was told of, whoever's, so
-- that a client which has heard of a request passes it with no later try. A claim about whole runs, from any system and whatever happens in between.
use Rattle.std.specs.Prelude.{◌≡◌, ℕ, ◌<◌, ◌≤◌, true, List, ◌∷◌, Some}
use Rattle.ids.specs.Order.{before}
use Rattle.ids.specs.declared.ClientId.{ClientId}
use Rattle.ids.specs.declared.Timestamp.{Timestamp}
use Rattle.ids.specs.declared.Request.{Request}
use Rattle.wire.specs.Format.{fields_of}
use Rattle.wire.specs.declared.Message.{Message}
use Rattle.client_responses.specs.Figure1.{Quorum}
use Rattle.system.specs.declared.Event.{Event}
use Rattle.system.specs.declared.Event.TheVariants.{Try, Take}
use Rattle.system.specs.declared.MessageNumber.{MessageNumber}
use Rattle.system.specs.declared.Receiver.TheVariants.{Client}
use Rattle.system.specs.Transit.{pending}
use Rattle.system.specs.Places.{System, client_at}
use Rattle.system.specs.Events.{event}
use Rattle.system.specs.Runs.{is_stepped, next, run_from}
use Rattle.system.specs.Index.{receiver_of}

module _ (n : ℕ) (wins : Quorum) where
  -- client k takes a timestamp at a try in system u
  abbrev pub tries : System → ClientId → Type 0
  tries u k = is_stepped (event n wins u (Try k)) ≡ true

  abbrev pub timestamp_tried : System → ClientId → Timestamp
  timestamp_tried u k = (client_at (next n wins u (Try k)) k).state.timestamp

  -- Client k, living, takes message i, a RESPONSE or a CHECK; then come the events es. A timestamp that k takes now is greater than the message's.
  abbrev pub AboveTold : Type 0
  AboveTold =
      (w : System) (i : MessageNumber) (m : Message) (k : ClientId) (es : List Event)
      → pending i.0 w.transit ≡ Some m → receiver_of m ≡ Client k → (client_at w k).living ≡ true
      → tries (run_from n wins w (Take i ∷ es)) k
      → (fields_of m).timestamp < (timestamp_tried (run_from n wins w (Take i ∷ es)) k).0

  -- So k's request comes behind every request r whose timestamp is not above the message's: behind the one that a RESPONSE named, and behind those that
  -- go before it.
  abbrev pub BehindHeard : Type 0
  BehindHeard =
      (w : System) (i : MessageNumber) (m : Message) (k : ClientId) (r : Request) (es : List Event)
      → pending i.0 w.transit ≡ Some m → receiver_of m ≡ Client k → (client_at w k).living ≡ true → r.timestamp.0 ≤ (fields_of m).timestamp
      → tries (run_from n wins w (Take i ∷ es)) k
      → before r (record { client = k; timestamp = timestamp_tried (run_from n wins w (Take i ∷ es)) k }) ≡ true
