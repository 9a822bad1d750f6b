-- What an event does, once for all invariants: it is refused, or one of eleven things happens.
use Rattle.std.specs.Prelude.{Some, Option}
use mathlib.Core.Path.{◌≡◌}
use Prim.Native.Nat.{ℕ}
use mathlib.Core.Bool.{true, false, not}
use borrow.Author.Tests.{not-true}
use Rattle.ids.specs.declared.ClientId.{ClientId}
use Rattle.ids.specs.declared.ServerId.{ServerId}
use Rattle.ids.specs.declared.Timestamp.{Timestamp}
use Rattle.ids.specs.declared.Request.{Request}
use Rattle.ids.specs.declared.Refusal.{Refusal}
use Rattle.wire.specs.Step.{refused, stepped}
use Rattle.wire.specs.declared.Message.{Message}
use Rattle.wire.specs.declared.Message.TheVariants.{Request as REQUEST, Yield as YIELD, Release as RELEASE, Inquiry as INQUIRY, Response as RESPONSE, Check as CHECK}
use Rattle.server_votes.specs.declared.Tag.{Tag}
use Rattle.server_votes.specs.declared.Tag.TheVariants.{Request as Asks, Yield as Yields, Release as Releases, Inquiry as Inquires}
use Rattle.client_responses.specs.Figure1.{Quorum, is_remainder, is_critical, may_try}
use Rattle.system.specs.declared.MessageNumber.{MessageNumber}
use Rattle.system.specs.declared.Event.{Event}
use Rattle.system.specs.declared.Event.TheVariants.{Try, Exit, Fall, Down, Up, Take, Drop, Miss, Check}
use Rattle.system.specs.Numbered.{has}
use Rattle.system.specs.Transit.{pending, present}
use Rattle.system.specs.Places.{System, client_at, server_at}
use Rattle.system.specs.Events.{EventOutcome, tried, exited, fallen, went_down, came_up, server_took, response_took, check_took, dropped, suspected, asked, to_server, deliver, event}
use Rattle.system.proofs.Branch.{branch, perhaps, owned}
use Rattle.server_votes.proofs.Tagged.{message}

module _ (n : ℕ) (wins : Quorum) (w : System) where
  pub data Effect : Event → EventOutcome → Type 0 where
    refuses : {e : Event} {x : Refusal} → Effect e (refused x)
    begins : {k : ClientId} → (client_at w k).living ≡ true → is_remainder (client_at w k).state.section ≡ true →
        may_try (client_at w k).state ≡ true → Effect (Try k) (stepped (tried n w k))
    leaves : {k : ClientId} → (client_at w k).living ≡ true → is_critical (client_at w k).state.section ≡ true →
        Effect (Exit k) (stepped (exited n w k))
    dies : {k : ClientId} → (client_at w k).living ≡ true → Effect (Fall k) (stepped (fallen w k))
    sinks : {j : ServerId} → (server_at w j).up ≡ true → Effect (Down j) (stepped (went_down w j))
    rises : {j : ServerId} → has w.servers j.0 ≡ true → Effect (Up j) (stepped (came_up w j))
    server_takes : {i : MessageNumber} (tag : Tag) (k : ClientId) (j : ServerId) (t : Timestamp) →
        pending i.0 w.transit ≡ Some (message tag k j t) → (server_at w j).up ≡ true → Effect (Take i) (stepped (server_took w i.0 tag k j t))
    client_takes : {i : MessageNumber} {k : ClientId} {j : ServerId} {o : Option Request} →
        pending i.0 w.transit ≡ Some (RESPONSE k j o) → (client_at w k).living ≡ true → Effect (Take i) (stepped (response_took n wins w i.0 k j o))
    client_checked : {i : MessageNumber} {k : ClientId} {j : ServerId} {t : Timestamp} →
        pending i.0 w.transit ≡ Some (CHECK k j t) → (client_at w k).living ≡ true → Effect (Take i) (stepped (check_took w i.0 k j t))
    loses : {i : MessageNumber} → Effect (Drop i) (stepped (dropped w i.0))
    suspects : {j : ServerId} {o : Request} → (server_at w j).up ≡ true → (server_at w j).state.owner ≡ Some o →
        (client_at w o.client).living ≡ false → Effect (Miss j) (stepped (suspected w j))
    asks : {j : ServerId} → (server_at w j).up ≡ true → Effect (Check j) (stepped (asked w j))

  arrives : (i : MessageNumber) (tag : Tag) (k : ClientId) (j : ServerId) (t : Timestamp) →
      pending i.0 w.transit ≡ Some (message tag k j t) → Effect (Take i) (to_server w i.0 tag k j t)
  arrives i tag k j t e = branch (Effect (Take i)) (server_at w j).up (server_takes tag k j t e) (λ _. refuses)

  delivers : (i : MessageNumber) (m : Message) → pending i.0 w.transit ≡ Some m → Effect (Take i) (deliver n wins w i.0 m)
  unfolding deliver
  delivers i (REQUEST k j t) e = arrives i Asks k j t e
  delivers i (YIELD k j t) e = arrives i Yields k j t e
  delivers i (RELEASE k j t) e = arrives i Releases k j t e
  delivers i (INQUIRY k j t) e = arrives i Inquires k j t e
  delivers i (RESPONSE k j o) e = branch (Effect (Take i)) (client_at w k).living (client_takes e) (λ _. refuses)
  delivers i (CHECK k j t) e = branch (Effect (Take i)) (client_at w k).living (client_checked e) (λ _. refuses)

  pub effect : (e : Event) → Effect e (event n wins w e)
  unfolding event
  effect (Try k) =
      let E = Effect (Try k) in
      branch E (has w.clients k.0) (λ _. branch E (client_at w k).living (λ a. branch E (is_remainder (client_at w k).state.section) (λ b.
      branch E (may_try (client_at w k).state) (begins a b) (λ _. refuses)) (λ _. refuses)) (λ _. refuses)) (λ _. refuses)
  effect (Exit k) =
      let E = Effect (Exit k) in
      branch E (has w.clients k.0) (λ _. branch E (client_at w k).living (λ a. branch E (is_critical (client_at w k).state.section) (λ b. leaves a b)
      (λ _. refuses)) (λ _. refuses)) (λ _. refuses)
  effect (Fall k) = let E = Effect (Fall k) in branch E (has w.clients k.0) (λ _. branch E (client_at w k).living dies (λ _. refuses)) (λ _. refuses)
  effect (Down j) = let E = Effect (Down j) in branch E (has w.servers j.0) (λ _. branch E (server_at w j).up sinks (λ _. refuses)) (λ _. refuses)
  effect (Up j) = let E = Effect (Up j) in branch E (has w.servers j.0)
      (λ a. branch E (not (server_at w j).up) (λ _. rises a) (λ _. refuses)) (λ _. refuses)
  effect (Take i) = perhaps (Effect (Take i)) (pending i.0 w.transit) (λ _. refuses) (delivers i)
  effect (Drop i) = branch (Effect (Drop i)) (present i.0 w.transit) (λ _. loses) (λ _. refuses)
  effect (Miss j) =
      let E = Effect (Miss j) in
      branch E (has w.servers j.0) (λ _. branch E (server_at w j).up (λ up. owned E (server_at w j).state.owner (λ _. refuses)
      (λ o e. branch E (not (client_at w o.client).living) (λ dead. suspects up e (not-true (client_at w o.client).living dead)) (λ _. refuses)))
      (λ _. refuses)) (λ _. refuses)
  effect (Check j) = let E = Effect (Check j) in branch E (has w.servers j.0) (λ _. branch E (server_at w j).up asks (λ _. refuses)) (λ _. refuses)
