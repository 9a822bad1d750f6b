-- The token invariant: a client in its epoch has, at a server never down in it, at most one token or own response, and none
-- unless the server's owner is its request. Every event keeps it.
use mathlib.Core.Path.{◌≡◌, refl, sym, ap, ◌∙◌}
use Prim.Native.Nat.{ℕ, ◌+◌, ◌≤◌, ◌<◌, zero-le}
use native.Mathlib.Nat.{le_refl}
use native.Mathlib.Omega.{arith}
use mathlib.Core.Bool.{Bool, true, false, and-false}
use mathlib.Core.List.{List, [], ◌∷◌, map}
use lib.Dec.{eqb}
use borrow.Author.Tests.{ne_eqb}
use Rattle.std.specs.Prelude.{if◌then◌else◌, Some, None, Option}
use Rattle.ids.specs.Requests.{same, is_request}
use Rattle.ids.specs.declared.ClientId.{ClientId}
use Rattle.ids.specs.declared.ServerId.{ServerId}
use Rattle.ids.specs.declared.Timestamp.{Timestamp}
use Rattle.ids.specs.declared.Request.{Request}
use Rattle.wire.specs.Step.{Step}
use Rattle.wire.specs.declared.Message.{Message}
use Rattle.wire.specs.declared.Message.TheVariants.{Request as REQUEST, Yield as YIELD, Release as RELEASE, Inquiry as INQUIRY, Response as RESPONSE, Check as CHECK}
use Rattle.server_votes.specs.declared.Tag.TheVariants.{Request as Asks, Yield as Yields, Release as Releases, Inquiry as Inquires}
use Rattle.server_votes.specs.Figure1.{State as ServerState, idle}
use Rattle.client_responses.specs.Figure1.{State as ClientState, Quorum, request}
use Rattle.system.specs.Numbered.{member, added}
use Rattle.system.specs.Transit.{InTransit, again}
use Rattle.system.specs.Places.{ClientPlace, ServerPlace, in_epoch}
use Rattle.ids.proofs.Choice.{clash}
use Rattle.system.proofs.Branch.{bit, differ, if_zero}
use Rattle.system.proofs.Tokens.{worth, token, server_of, sum, All, empty, more, all_map}
use Rattle.system.proofs.ServerSteps.{Named, Holds, From, Fair}
use Rattle.system.proofs.ClientSteps.{shows, InTime, By, Fine, Calm, by_other}
use Rattle.system.proofs.TransitLaws.{weight, Posted, Delivery, again-weight, again-all}
use Rattle.system.proofs.PlaceLaws.{Changes, each, CountsDown, add_same, add_more, lacks}

-- the last timestamp of each client
abbrev pub last : (ℕ → ClientPlace) → ℕ → ℕ
last K k = (K k).state.timestamp.0

abbrev pub id : ℕ → ClientId
id k = record { 0 = k }

-- the client has taken the request's timestamp
abbrev pub Old : (ℕ → ℕ) → Request → Type 0
Old t r = r.timestamp.0 ≤ t r.client.0

-- so with each timestamp in a message, a RELEASE is older still, and a RESPONSE is of a server with a number
abbrev pub Past : (ℕ → ℕ) → Message → Type 0
Past t (REQUEST k j s) = InTime Asks s (t k.0)
Past t (YIELD k j s) = InTime Yields s (t k.0)
Past t (RELEASE k j s) = InTime Releases s (t k.0)
Past t (INQUIRY k j s) = InTime Inquires s (t k.0)
Past t (RESPONSE k j o) = (0 < j.0) × Named (Old t) o
Past t (CHECK k j s) = s.0 ≤ t k.0

-- the request of an epoch that runs
abbrev pub Runs : (ℕ → ClientPlace) → Request → Type 0
Runs K p = (in_epoch (K p.client.0) ≡ true) × (p.timestamp.0 ≡ last K p.client.0)

-- Client k at place c, and server j with owner o: if j was not down in k's epoch, then k's request has at most one token or own
-- response at j, and none unless it is the owner.
abbrev pub Balanced : ℕ → ℕ → ClientPlace → List InTransit → Option Request → Type 0
Balanced k j c l o =
    in_epoch c ≡ true → member j c.downs ≡ false →
    weight (request (id k) c.state) j l + shows (request (id k) c.state) c.state.responses j ≤ bit (is_request (request (id k) c.state) o)

pub record Sound (n : ℕ) (wins : Quorum) (K : ℕ → ClientPlace) (Q : ℕ → ServerPlace) (l : List InTransit) : Type 0 where
  pub fine : (k : ℕ) → Fine n wins (id k) (K k).state
  pub tokens : (k j : ℕ) → Balanced k j (K k) l (Q j).state.owner
  pub mail : All (Posted (Past (last K))) l
  pub holds : (j : ℕ) → Holds (Old (last K)) (Q j).state

-- timestamps only grow
module _ (s t : ℕ → ℕ) (le : (k : ℕ) → s k ≤ t k) where
  named-later : (o : Option Request) → Named (Old s) o → Named (Old t) o
  named-later None h = tt
  named-later (Some r) h = omega (arith, le r.client.0)

  past_later : (m : Message) → Past s m → Past t m
  past_later (REQUEST k j x) h = omega (arith, le k.0)
  past_later (YIELD k j x) h = omega (arith, le k.0)
  past_later (RELEASE k j x) h = omega (arith, le k.0)
  past_later (INQUIRY k j x) h = omega (arith, le k.0)
  past_later (RESPONSE k j o) h = (h.0, named-later o h.1)
  past_later (CHECK k j x) h = omega (arith, le k.0)

  holds_later : {q : ServerState} → Holds (Old s) q → Holds (Old t) q
  holds_later {q} h = record { owner = named-later q.owner h.owner; queue = all_map (λ r g. omega (arith, le r.client.0)) h.queue }

from_past : (t : ℕ → ℕ) (j : ServerId) → 0 < j.0 → (m : Message) → From (Old t) j m → Past t m
from_past t j pos (REQUEST k i s) h = absurd h
from_past t j pos (YIELD k i s) h = absurd h
from_past t j pos (RELEASE k i s) h = absurd h
from_past t j pos (INQUIRY k i s) h = absurd h
from_past t j pos (RESPONSE k i o) h = (omega (arith, ap (λ (x : ServerId). x.0) h.0), h.1)
from_past t j pos (CHECK k i s) h = h.1

by_past : (t : ℕ → ℕ) (k : ClientId) (x : ℕ) → t k.0 ≡ x → (m : Message) → By k x m → Past t m
by_past t k x e (REQUEST i j s) h = rw (h.0, e) h.1
by_past t k x e (YIELD i j s) h = rw (h.0, e) h.1
by_past t k x e (RELEASE i j s) h = rw (h.0, e) h.1
by_past t k x e (INQUIRY i j s) h = rw (h.0, e) h.1
by_past t k x e (RESPONSE i j o) h = absurd h
by_past t k x e (CHECK i j s) h = absurd h

-- a server's messages are no tokens at another server
from-other : (t : ℕ → ℕ) (p : Request) {i : ℕ} {j : ServerId} {l : List Message} → (i ≡ j.0 → ⊥) → All (From (Old t) j) l → sum (token p i) l ≡ 0
from-other t p ne empty = refl
from-other t p {i} {j} ne (more {x = m} {l = l} h g) = omega (arith, go m h, from-other t p ne g)
  where
    go : (m : Message) → From (Old t) j m → token p i m ≡ 0
    go (REQUEST k a s) h = absurd h
    go (YIELD k a s) h = absurd h
    go (RELEASE k a s) h = absurd h
    go (INQUIRY k a s) h = absurd h
    go (RESPONSE k a o) h = rw (ne_eqb a.0 i (λ e. ne (sym e ∙ ap (λ (x : ServerId). x.0) h.0)))
    go (CHECK k a s) h = if_zero (eqb a.0 i)

token-worth : (p : Request) (j : ℕ) (l : List Message) → sum (token p j) l ≤ sum (worth p) l
token-worth p j [] = zero-le
token-worth p j (m ∷ l) = omega (arith, go (eqb (server_of m).0 j), token-worth p j l)
  where
    go : (b : Bool) → (if b then worth p m else 0) ≤ worth p m
    go true = le_refl (worth p m)
    go false = zero-le

-- no message has a token of a request that is still to come
pub fresh : (t : ℕ → ℕ) (p : Request) (j : ℕ) {l : List InTransit} → t p.client.0 < p.timestamp.0 → All (Posted (Past t)) l → weight p j l ≡ 0
fresh t p j lt empty = refl
fresh t p j lt (more {x = x} {l = l} h g) = rw (
  none-worth x.message h,
  if_zero (eqb (server_of x.message).0 j),
  if_zero x.delivered,
) (omega (arith, fresh t p j lt g))
  where
    none-same : (r : Request) → Old t r → same r p ≡ false
    none-same r o = differ r p (λ e. omega (arith, ap (λ (y : Request). t y.client.0) e, ap (λ (y : Request). y.timestamp.0) e))

    none-worth : (m : Message) → Past t m → worth p m ≡ 0
    none-worth (REQUEST k i s) b = refl
    none-worth (YIELD k i s) b = rw (none-same (record { client = k; timestamp = s }) (omega arith))
    none-worth (RELEASE k i s) b = refl
    none-worth (INQUIRY k i s) b = refl
    none-worth (RESPONSE k i None) b = refl
    none-worth (RESPONSE k i (Some o)) b = rw (none-same o b.1, and-false (eqb p.client.0 k.0))
    none-worth (CHECK k i s) b = refl

module _ (n : ℕ) (wins : Quorum) where
  -- client k goes to c and sends
  pub sound_client_lem : {K K' : ℕ → ClientPlace} {Q : ℕ → ServerPlace} {l l'' : List InTransit} {sent : List Message} {gain : Request → ℕ
      → ℕ} {k : ℕ} {c : ClientPlace} →
      Changes K K' k c → Sound n wins K Q l → Delivery gain l sent l'' →
      last K k ≤ c.state.timestamp.0 → All (By (id k) c.state.timestamp.0) sent → Fine n wins (id k) c.state →
      ((j : ℕ) → in_epoch c ≡ true → member j c.downs ≡ false →
      weight (request (id k) c.state) j l + sum (token (request (id k) c.state) j) sent + shows (request (id k) c.state) c.state.responses j
      ≤ bit (is_request (request (id k) c.state) (Q j).state.owner) + gain (request (id k) c.state) j) →
      Sound n wins K' Q l''
  sound_client_lem {K} {K'} {Q} {l} {l''} {k} {c} ch s d grows by fine own =
      let le : (i : ℕ) → last K i ≤ last K' i = λ i. each ch (λ x. last K i ≤ x.state.timestamp.0) i (λ e. rw e grows) (λ ne. le_refl (last K i)) in
      record {
        fine = λ i. each ch (λ x. Fine n wins (id i) x.state) i (λ e. rw e fine) (λ ne. s.fine i);
        tokens = λ i j. each ch (λ x. Balanced i j x l'' (Q j).state.owner) i
            (λ e. rw e (λ ep up. omega (arith, own j ep up, d.lighter (request (id k) c.state) j)))
            (λ ne ep up. let p : Request = request (id i) (K i).state in
            omega (arith, s.tokens i j ep up, d.lighter p j, by_other p j (λ e. ne (sym (ap (λ (x : ClientId). x.0) e))) by));
        mail = d.arrive (Past (last K')) (all_map (λ x. past_later (last K) (last K') le x.message) s.mail)
            (all_map (by_past (last K') (id k) c.state.timestamp.0 (ap (λ (x : ClientPlace). x.state.timestamp.0) ch.here)) by);
        holds = λ j. holds_later (last K) (last K') le (s.holds j);
      }

  -- client k, which lives, takes a message
  pub sound_calm : {K K' : ℕ → ClientPlace} {Q : ℕ → ServerPlace} {l l'' : List InTransit} {gain : Request → ℕ → ℕ} (k : ℕ) (step : Step ClientState) →
      (K k).living ≡ true → Changes K K' k (record { living = true; state = step.state; downs = (K k).downs }) →
      Sound n wins K Q l → Delivery gain l step.sent l'' → Calm n wins (id k) (K k).state (gain (request (id k) (K k).state)) step → Sound n wins K' Q l''
  sound_calm {K} k step lives ch s d c =
      sound_client_lem ch s d (omega (arith, ap (λ (x : Timestamp). x.0) c.timestamp)) (rw c.timestamp c.by) c.fine
      (λ j ep up. let ep' : in_epoch (K k) ≡ true = rw (lives, ← c.epoch) ep in
      rw c.timestamp (omega (arith, s.tokens k j ep' up, c.kept j)))

  -- server j makes a step
  pub sound_server_lem : {K : ℕ → ClientPlace} {Q Q' : ℕ → ServerPlace} {l l'' : List InTransit} {gain : Request → ℕ → ℕ} {g : Request
      → ℕ} (j : ServerId) (step : Step ServerState) → 0 < j.0 →
      Changes Q Q' j.0 (record { up = true; state = step.state }) → Sound n wins K Q l → Delivery gain l step.sent l'' →
      ((p : Request) → g p ≤ gain p j.0) → Fair (Old (last K)) (Runs K) j (Q j.0).state.owner g step → Sound n wins K Q' l''
  sound_server_lem {K} {Q} {Q'} {l} {l''} j step pos ch s d le f =
      record {
        fine = s.fine;
        tokens = λ k i. let p : Request = request (id k) (K k).state in
            each ch (λ q. Balanced k i (K k) l'' q.state.owner) i
            (λ e. rw e (λ ep up. omega (arith, s.tokens k j.0 ep up, d.lighter p j.0, token-worth p j.0 step.sent, f.kept p (ep, refl), le p)))
            (λ ne ep up. omega (arith, s.tokens k i ep up, d.lighter p i, from-other (last K) p ne f.from));
        mail = d.arrive (Past (last K)) s.mail (all_map (from_past (last K) j pos) f.from);
        holds = λ i. each ch (λ q. Holds (Old (last K)) q.state) i (λ e. f.holds) (λ ne. s.holds i);
      }

  -- messages are lost
  pub sound_mail : {K : ℕ → ClientPlace} {Q : ℕ → ServerPlace} {l l'' : List InTransit} {gain : Request → ℕ → ℕ} → Sound n wins K Q l
      → Delivery gain l [] l'' → Sound n wins K Q l''
  sound_mail {K} s d =
      record {
        fine = s.fine;
        tokens = λ k j ep up. omega (arith, s.tokens k j ep up, d.lighter (request (id k) (K k).state) j);
        mail = d.arrive (Past (last K)) s.mail empty;
        holds = s.holds;
      }

  -- server j goes down
  pub sound_down : {K K' : ℕ → ClientPlace} {Q Q' : ℕ → ServerPlace} {l : List InTransit} (j : ServerId) → ((k : ℕ) → CountsDown j (K k) (K' k)) →
      Changes Q Q' j.0 (record { up = false; state = idle }) → Sound n wins K Q l → Sound n wins K' Q' (map (again j) l)
  sound_down {K} {K'} {Q} {Q'} {l} j down ch s =
      let le : (k : ℕ) → last K k ≤ last K' k = λ k. omega (arith, ap (λ (x : ClientState). x.timestamp.0) (down k).state) in
      record {
        fine = λ k. rw (down k).state (s.fine k);
        tokens = λ k i. each ch (λ q. Balanced k i (K' k) (map (again j) l) q.state.owner) i
            (λ e. rw e (λ ep up. clash (member j.0 (K' k).downs) (rw ((down k).epoch ep).1 (add_same j.0 (K k).downs)) up))
            (λ ne ep up. let old = (down k).epoch ep in
            let up' : member i (added j.0 (K k).downs) ≡ false = rw old.1 at up in
            rw (down k).state (omega (
              arith,
              s.tokens k i old.0 (lacks (K k).downs (added j.0 (K k).downs) i (add_more i j.0 (K k).downs) up'),
              again-weight (request (id k) (K k).state) j i (λ e. ne (sym e)) l,
            )));
        mail = again-all (Past (last K')) j (all_map (λ x. past_later (last K) (last K') le x.message) s.mail);
        holds = λ i. each ch (λ q. Holds (Old (last K')) q.state) i (λ e. record { owner = tt; queue = empty })
            (λ ne. holds_later (last K) (last K') le (s.holds i));
      }
