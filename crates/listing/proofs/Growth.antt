-- How far events lead: each one sends at most as many messages as there are servers, or three; so after i of them there are at most i times as
-- many, with numbers from 1, and no more in transit.
use Rattle.ids.specs.declared.Request.{Request}
use Prim.Native.Nat.{ℕ, suc, ◌+◌, ◌*◌, ◌≤◌, ◌<◌, zero-le, max}
use native.Mathlib.Nat.{le_refl, suc-mul}
use native.Mathlib.Omega.{arith}
use mathlib.Core.Path.{◌≡◌, refl}
use mathlib.Core.Bool.{true, false, false≢true}
use mathlib.Core.Logic.{⊎_elim}
use mathlib.Core.List.{List, [], ◌∷◌, ◌++◌, map}
use lib.Dec.{eqb}
use lib.ListN.{length, length-append, length-map}
use Rattle.std.specs.Prelude.{if◌then◌else◌, Option}
use Rattle.ids.specs.declared.ClientId.{ClientId}
use Rattle.ids.specs.declared.ServerId.{ServerId}
use Rattle.ids.proofs.Choice.{decided}
use Rattle.wire.specs.declared.Message.{Message}
use Rattle.client_responses.specs.declared.Section.{Section}
use Rattle.client_responses.specs.declared.Section.TheVariants.{Remainder, Trying, Critical}
use Rattle.client_responses.specs.Figure1.{State, Quorum, is_remainder, is_trying, upon_response, responds}
use Rattle.sends.proofs.ClientSends.{tries-few, exits-few, responds-few, checked-few}
use Rattle.sends.proofs.ServerSends.{receive-few, suspect-few, check-few}
use Rattle.system.specs.declared.Event.{Event}
use Rattle.system.specs.Transit.{InTransit, numbered, replaced, gone, keeping, again}
use Rattle.system.specs.Places.{System, client_at, server_at}
use Rattle.system.specs.Events.{EventOutcome}
use Rattle.system.specs.Runs.{run_by, after, start, next, run_from}
use Rattle.system.proofs.Branch.{branch}
use Rattle.system.proofs.Tokens.{All, empty, more, all_append}
use Rattle.system.proofs.ClientSteps.{Fine}
use Rattle.system.proofs.Effects.{Effect, refuses, begins, leaves, dies, sinks, rises, server_takes, client_takes, client_checked, loses, suspects, asks, effect}
use Rattle.system.proofs.Invariant.{Inv, inv_start, inv_event}
use Rattle.system.proofs.Tally.{Tally, tally, all-replaced, tally-start, tally-event}

-- messages in transit -------------------------------------------------------------------------------------------------------

abbrev pub Positive : InTransit → Type 0
Positive x = 0 < x.number

pub record Tidy (sent : ℕ) (l : List InTransit) : Type 0 where
  pub positive : All Positive l
  pub few : length l ≤ sent

positive-numbered : (i : ℕ) (ms : List Message) → All Positive (numbered i ms)
unfolding numbered
positive-numbered i [] = empty
positive-numbered i (m ∷ ms) = more {x = record { number = suc i; delivered = false; message = m }} (omega arith) (positive-numbered (suc i) ms)

length-numbered : (i : ℕ) (ms : List Message) → length (numbered i ms) ≡ length ms
unfolding numbered
length-numbered i [] = refl
length-numbered i (m ∷ ms) = omega (arith, length-numbered (suc i) ms)

positive-again : (j : ServerId) {l : List InTransit} → All Positive l → All Positive (map (again j) l)
positive-again j empty = empty
positive-again j (more h g) = more h (positive-again j g)

length-replaced : (i : ℕ) (f : InTransit → List InTransit) → ((x : InTransit) → length (f x) ≤ 1) → (l : List InTransit) → length (replaced i f l) ≤ length l
unfolding replaced
length-replaced i f one [] = zero-le
length-replaced i f one (x ∷ l) =
    let p : List InTransit = if eqb x.number i then f x else x ∷ [] in
    let short : length p ≤ 1 = branch (λ (q : List InTransit). length q ≤ 1) (eqb x.number i) (λ _. one x) (λ _. le_refl 1) in
    omega (arith, length-append p (replaced i f l), length-replaced i f one l)

module _ {sent : ℕ} where
  tidy_sent : {l : List InTransit} (ms : List Message) → Tidy sent l → Tidy (sent + length ms) (l ++ numbered sent ms)
  tidy_sent {l} ms t =
      record {
        positive = all_append t.positive (positive-numbered sent ms);
        few = omega (arith, length-append l (numbered sent ms), length-numbered sent ms, t.few);
      }

  tidy_gone : (i : ℕ) {l : List InTransit} → Tidy sent l → Tidy sent (replaced i gone l)
  tidy_gone i {l} t =
      record { positive = all-replaced i (λ x h. empty) t.positive; few = omega (arith, length-replaced i gone (λ x. zero-le) l, t.few) }

  tidy_kept : (i : ℕ) {l : List InTransit} → Tidy sent l → Tidy sent (replaced i keeping l)
  tidy_kept i {l} t =
      record { positive = all-replaced i (λ x h. more h empty) t.positive; few = omega (arith, length-replaced i keeping (λ x. le_refl 1) l, t.few) }

  tidy_again : (j : ServerId) {l : List InTransit} → Tidy sent l → Tidy sent (map (again j) l)
  tidy_again j {l} t = record { positive = positive-again j t.positive; few = omega (arith, length-map l (again j), t.few) }

-- what a client sends upon a RESPONSE
trying-within : (s : Section) → is_trying s ≡ true → is_remainder s ≡ false
trying-within Remainder e = absurd (false≢true e)
trying-within Trying e = refl
trying-within Critical e = refl

answers-few : (n : ℕ) (wins : Quorum) (k : ClientId) (j : ServerId) (o : Option Request) (c : State) → Fine n wins k c → length (responds wins n k j o c).sent ≤ n
unfolding upon_response
answers-few n wins k j o c f =
    ⊎_elim
    (λ (t : is_trying c.section ≡ true). omega (arith, (responds-few wins n k j o c).few, f.sized (trying-within c.section t)))
    (λ (t : is_trying c.section ≡ false). rw t zero-le)
    (decided (is_trying c.section))

-- an event ------------------------------------------------------------------------------------------------------------------

-- the most messages that it sends, among n servers
abbrev pub event_sends : ℕ → ℕ
event_sends n = max n 3

module _ {n : ℕ} {wins : Quorum} {w : System} where
  tidy_after : {e : Event} {o : EventOutcome} → Effect n wins w e o → Tidy w.sent w.transit → Tidy (after w o).sent (after w o).transit
  unfolding after
  tidy_after refuses t = t
  tidy_after (begins _ _ _) t = tidy_sent _ t
  tidy_after (leaves _ _) t = tidy_sent _ t
  tidy_after (dies _) t = t
  tidy_after (sinks {j = j} _) t = tidy_again j t
  tidy_after (rises _) t = t
  tidy_after (server_takes {i = i} tag k j s _ _) t = tidy_sent _ (tidy_kept i.0 t)
  tidy_after (client_takes {i = i} _ _) t = tidy_sent _ (tidy_gone i.0 t)
  tidy_after (client_checked {i = i} _ _) t = tidy_sent _ (tidy_gone i.0 t)
  tidy_after (loses {i = i}) t = tidy_gone i.0 t
  tidy_after (suspects _ _ _) t = tidy_sent _ t
  tidy_after (asks _) t = tidy_sent _ t

  sent-after : {e : Event} {o : EventOutcome} → Effect n wins w e o → Inv n wins w → (after w o).sent ≤ w.sent + event_sends n
  unfolding after
  sent-after refuses v = omega arith
  sent-after (begins {k = k} _ _ _) v = omega (arith, (tries-few n k (client_at w k).state).few)
  sent-after (leaves {k = k} _ _) v = omega (arith, (exits-few n k (client_at w k).state).few)
  sent-after (dies _) v = omega arith
  sent-after (sinks _) v = omega arith
  sent-after (rises _) v = omega arith
  sent-after (server_takes tag k j s _ _) v = omega (arith, receive-few j tag (record { client = k; timestamp = s }) (server_at w j).state)
  sent-after (client_takes {k = k} {j = j} {o = x} _ _) v =
      omega (arith, answers-few n wins k j x (client_at w k).state (v.safe.sound.fine k.0))
  sent-after (client_checked {k = k} {j = j} {t = t} _ _) v = omega (arith, (checked-few k j t (client_at w k).state).few)
  sent-after loses v = omega arith
  sent-after (suspects {j = j} _ _ _) v = omega (arith, suspect-few j (server_at w j).state)
  sent-after (asks {j = j} _) v = omega (arith, check-few j (server_at w j).state)

-- a run ---------------------------------------------------------------------------------------------------------------------

-- i events from a start lead to w
pub record Led (n : ℕ) (wins : Quorum) (clients i : ℕ) (w : System) : Type 0 where
  pub inv : Inv n wins w
  pub downs : ℕ
  pub sized : Tally n clients downs w
  pub tidy : Tidy w.sent w.transit
  pub sent : w.sent ≤ i * event_sends n

module _ {n : ℕ} {wins : Quorum} {clients : ℕ} where
  pub led_start : Led n wins clients 0 (start n wins clients)
  unfolding start
  led_start =
      record {
        inv = inv_start n wins clients;
        downs = 0;
        sized = tally-start n clients wins;
        tidy = record { positive = empty; few = zero-le };
        sent = zero-le;
      }

  pub led_next : {i : ℕ} {w : System} (e : Event) → Led n wins clients i w → Led n wins clients (suc i) (next n wins w e)
  led_next {i} {w} e l =
      record {
        inv = inv_event n wins w l.inv e;
        downs = tally e l.downs;
        sized = tally-event n clients wins e l.sized;
        tidy = tidy_after (effect n wins w e) l.tidy;
        sent = omega (arith, sent-after (effect n wins w e) l.inv, l.sent, suc-mul i (event_sends n));
      }

  pub led_from : {i : ℕ} {w : System} (es : List Event) → Led n wins clients i w → Led n wins clients (i + length es) (run_from n wins w es)
  unfolding run_by
  led_from {i} {w} [] l = let z : i + 0 ≡ i = omega arith in rw z l
  led_from {i} {w} (e ∷ es) l = let z : i + suc (length es) ≡ suc i + length es = omega arith in rw z (led_from {i = suc i} {w = next n wins w e} es (led_next e l))
