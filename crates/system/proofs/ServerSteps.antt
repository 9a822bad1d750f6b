-- A server's step sends a token of a request only if that request is its owner afterwards, or for a token that it took; and
-- it names only requests that it knew or was told.
use mathlib.Core.Path.{◌≡◌, refl, ap}
use Prim.Native.Nat.{ℕ, ◌+◌, ◌≤◌}
use native.Mathlib.Nat.{le_refl}
use native.Mathlib.Omega.{arith}
use mathlib.Core.Bool.{Bool, true, false, and-false}
use mathlib.Core.List.{List, [], ◌∷◌}
use mathlib.Core.Logic.{inl, inr}
use lib.Dec.{eqb, ltb}
use borrow.Author.Tests.{ltb-true}
use Rattle.std.specs.Prelude.{if◌then◌else◌, Some, None, Option}
use Rattle.ids.specs.Lists.{every}
use Rattle.ids.specs.Order.{before}
use Rattle.ids.specs.Requests.{same, is_request, is_client}
use Rattle.ids.specs.declared.ClientId.{ClientId}
use Rattle.ids.specs.declared.ServerId.{ServerId}
use Rattle.ids.specs.declared.Request.{Request}
use Rattle.ids.proofs.Choice.{decided, Test, both}
use Rattle.ids.proofs.RequestLaws.{same_true}
use Rattle.wire.specs.Step.{Step, stay, tell, ◌then◌}
use Rattle.wire.specs.declared.Message.{Message}
use Rattle.wire.specs.declared.Message.TheVariants.{Request as REQUEST, Yield as YIELD, Release as RELEASE, Inquiry as INQUIRY, Response as RESPONSE, Check as CHECK}
use Rattle.server_votes.specs.declared.Tag.{Tag}
use Rattle.server_votes.specs.declared.Tag.TheVariants.{Request as Asks, Yield as Yields, Release as Releases, Inquiry as Inquires}
use Rattle.rows.specs.Queue.{timestamp_in, insert, without}
use Rattle.server_votes.specs.Figure1.{State as ServerState, candidates, enqueue, promote, delete, inform, admit, act, receive, suspect, check}
use Rattle.system.proofs.Branch.{branch, perhaps, owned, bit, bit_and, differ, owner-request}
use Rattle.server_votes.proofs.Tagged.{message}
use Rattle.system.proofs.Tokens.{age, worth, sum, sum-append, All, empty, more, all_append, every-all, all-every}

module _ (P : Request → Type 0) where
  abbrev pub Named : Option Request → Type 0
  Named None = Unit
  Named (Some o) = P o

  -- the owner and the queue are requests with P
  pub record Holds (q : ServerState) : Type 0 where
    pub owner : Named q.owner
    pub queue : All P q.queue

  -- a message of server j that names only requests with P
  abbrev pub From : ServerId → Message → Type 0
  From j (REQUEST k i t) = ⊥
  From j (YIELD k i t) = ⊥
  From j (RELEASE k i t) = ⊥
  From j (INQUIRY k i t) = ⊥
  From j (RESPONSE k i o) = (i ≡ j) × Named o
  From j (CHECK k i t) = (i ≡ j) × P (record { client = k; timestamp = t })

  -- A step of server j from owner o. For a request p with R it sends no token that it does not own, but for the `gain` tokens
  -- that it took; its messages and its new state name only requests with P.
  pub record Fair (R : Request → Type 0) (j : ServerId) (o : Option Request) (gain : Request → ℕ) (s : Step ServerState) : Type 0 where
    pub kept : (p : Request) → R p → sum (worth p) s.sent + bit (is_request p o) ≤ bit (is_request p s.state.owner) + gain p
    pub from : All (From j) s.sent
    pub holds : Holds s.state

-- the same by a test that the candidates pass
module _ (f : Request → Bool) where
  holds_by : (o : Option Request) (l : List Request) → every f (candidates (record { owner = o; queue = l })) ≡ true → Holds (λ r. f r ≡ true) (record { owner = o; queue = l })
  holds_by None l h = record { owner = tt; queue = every-all f l h }
  holds_by (Some r) l h = let (a, g) = both (f r) (every f l) h in record { owner = a; queue = every-all f l g }

  every_by : (o : Option Request) (l : List Request) → Holds (λ r. f r ≡ true) (record { owner = o; queue = l }) → every f (candidates (record { owner = o; queue = l })) ≡ true
  every_by None l h = all-every f h.queue
  every_by (Some r) l h = rw h.owner (all-every f h.queue)

  pub every_holds : (q : ServerState) → every f (candidates q) ≡ true → Holds (λ r. f r ≡ true) q
  every_holds q h = holds_by q.owner q.queue h

  pub holds-every : (q : ServerState) → Holds (λ r. f r ≡ true) q → every f (candidates q) ≡ true
  holds-every q h = every_by q.owner q.queue h

abbrev pub none_gained : Request → ℕ
none_gained p = 0

-- a message with tag and request r does not make a server give up p
abbrev pub Spares : Tag → Request → Request → Type 0
Spares tag r p = r.client ≡ p.client → r.timestamp.0 + age tag ≤ p.timestamp.0

-- r is older than p where a message spares p, but it is not p
older : (tag : Tag) (r p : Request) → Spares tag r p → r ≡ p → r.timestamp.0 + age tag ≤ r.timestamp.0
older tag r p f e = omega (arith, f (ap (λ (x : Request). x.client) e), ap (λ (x : Request). x.timestamp.0) e)

-- a RESPONSE to client k that names another owner, or none, is no token
aside : (p : Request) (k : ClientId) (j : ServerId) (o : Option Request) → is_client k o ≡ false → worth p (RESPONSE k j o) ≡ 0
aside p k j None e = refl
aside p k j (Some x) e = go (decided (same x p))
  where
    go : Test (same x p) → worth p (RESPONSE k j (Some x)) ≡ 0
    go (inl s) = rw (rw (same_true x p s) at e)
    go (inr s) = rw (s, and-false (eqb p.client.0 k.0))

owns : (p : Request) {o o' : Option Request} → o ≡ o' → bit (is_request p o) ≡ bit (is_request p o')
owns p e = ap (λ (o : Option Request). bit (is_request p o)) e

module _ {P : Request → Type 0} where
  pub all_insert : (r : Request) {l : List Request} → P r → All P l → All P (insert r l)
  unfolding insert
  all_insert r h empty = more h empty
  all_insert r h (more {x = x} a g) = branch (All P) (before r x) (λ e. more h (more a g)) (λ e. more a (all_insert r h g))

  all-enqueue : (r : Request) {l : List Request} → P r → All P l → All P (enqueue r l)
  unfolding enqueue
  all-enqueue r {l} h g = perhaps (All P) (timestamp_in r.client l) (λ e. all_insert r h g) (λ t e. g)

  pub all_without : (r : Request) {l : List Request} → All P l → All P (without r l)
  unfolding without
  all_without r empty = empty
  all_without r (more {x = x} a g) = branch (All P) (same x r) (λ e. g) (λ e. more a (all_without r g))

  said : {k : ClientId} {j : ServerId} {o : Option Request} → Named P o → All (From P j) (RESPONSE k j o ∷ [])
  said {k} {j} {o} h = more {x = RESPONSE k j o} (refl, h) empty

  module _ {R : Request → Type 0} {j : ServerId} where
    pub fair_stay : {q : ServerState} {g : Request → ℕ} → Holds P q → Fair P R j q.owner g (stay q)
    fair_stay h = record { kept = λ p a. omega arith; from = empty; holds = h }

    fair_then : {o : Option Request} {g g₁ g₂ : Request → ℕ} {s : Step ServerState} (f : ServerState → Step ServerState) → ((p : Request) → g₁ p + g₂ p ≤ g p) →
        Fair P R j o g₁ s → Fair P R j s.state.owner g₂ (f s.state) → Fair P R j o g (s then f)
    fair_then {s} f le a b =
        record {
          kept = λ p h. omega (arith, sum-append (worth p) s.sent (f s.state).sent, a.kept p h, b.kept p h, le p);
          from = all_append a.from b.from;
          holds = b.holds;
        }

    -- the head of the queue becomes owner in place of o, which is not p, or whose token was taken
    fair_promote : {o : Option Request} {g : Request → ℕ} {l : List Request} → All P l → ((p : Request) → R p → bit (is_request p o) ≤ g p) → Fair P R j o g (promote j l)
    unfolding promote
    fair_promote empty h = record { kept = λ p a. omega (arith, h p a); from = empty; holds = record { owner = tt; queue = empty } }
    fair_promote (more {x = x} a t) h =
        record {
          kept = λ p b. omega (arith, bit_and (eqb p.client.0 x.client.0) (same x p), h p b);
          from = said a;
          holds = record { owner = a; queue = t };
        }

    fair_delete : {q : ServerState} (r : Request) → ((p : Request) → R p → same r p ≡ false) → Holds P q → Fair P R j q.owner none_gained (delete j r q)
    unfolding delete
    fair_delete {q} r ne h =
        branch (Fair P R j q.owner none_gained) (is_request r q.owner)
        (λ e. fair_promote h.queue (λ p a. rw (owner-request r q.owner e, ne p a) (le_refl 0)))
        (λ e. record { kept = λ p a. omega arith; from = empty; holds = record { owner = h.owner; queue = all_without r h.queue } })

    fair_inform : {q : ServerState} (k : ClientId) → Holds P q → Fair P R j q.owner none_gained (inform j k q)
    unfolding inform
    fair_inform {q} k h =
        branch (Fair P R j q.owner none_gained) (is_client k q.owner) (λ e. fair_stay h)
        (λ e. record { kept = λ p a. omega (arith, aside p k j q.owner e); from = said h.owner; holds = h })

    -- a REQUEST of another client than the owner: it becomes owner and is told so, or waits and is told who is
    fair_admit : {q : ServerState} (r : Request) → is_client r.client q.owner ≡ false → P r → Holds P q →
        Fair P R j q.owner none_gained (tell (admit r q) (RESPONSE r.client j (admit r q).owner))
    fair_admit {q} r i a h =
        owned (λ (v : ServerState). Fair P R j q.owner none_gained (tell v (RESPONSE r.client j v.owner))) q.owner
        (λ e. record {
          kept = λ p b. omega (arith, bit_and (eqb p.client.0 r.client.0) (same r p), owns p e);
          from = said a;
          holds = record { owner = a; queue = h.queue };
        })
        (λ o e. let n : P o = rw e at h.owner in
        let i' : is_client r.client (Some o) ≡ false = rw e at i in
        record {
          kept = λ p b. omega (arith, aside p r.client j (Some o) i', owns p e);
          from = said n;
          holds = record { owner = n; queue = all-enqueue r a h.queue };
        })

    fair_act : {q : ServerState} (tag : Tag) (r : Request) → ((p : Request) → R p → Spares tag r p) → P r → Holds P q →
        Fair P R j q.owner (λ p. worth p (message tag r.client j r.timestamp)) (act j tag r q)
    unfolding act
    fair_act {q} Asks r f a h =
        branch (Fair P R j q.owner none_gained) (is_client r.client q.owner) (λ e. fair_stay h) (λ e. fair_admit r e a h)
    fair_act {q} Yields r f a h =
        let g : Request → ℕ = λ p. bit (same r p) in
        let s : Fair P R j q.owner g (if is_request r q.owner then promote j (insert r q.queue) else stay q) =
        branch (Fair P R j q.owner g) (is_request r q.owner)
        (λ e. fair_promote (all_insert r a h.queue) (λ p b. omega (arith, owns p (owner-request r q.owner e))))
        (λ e. fair_stay h) in
        fair_then (inform j r.client) (λ p. omega arith) s (fair_inform r.client s.holds)
    fair_act {q} Releases r f a h = fair_delete r (λ p b. differ r p (λ e. omega (arith, older Releases r p (f p b) e))) h
    fair_act {q} Inquires r f a h =
        owned (Fair P R j q.owner none_gained) q.owner (λ e. fair_stay h) (λ o e. fair_inform r.client h)

    pub fair_receive : {q : ServerState} (tag : Tag) (r : Request) → ((p : Request) → R p → Spares tag r p) → P r → Holds P q →
        Fair P R j q.owner (λ p. worth p (message tag r.client j r.timestamp)) (receive j tag r q)
    unfolding receive
    fair_receive {q} tag r f a h =
        let G : Step ServerState → Type 0 = Fair P R j q.owner (λ p. worth p (message tag r.client j r.timestamp)) in
        perhaps G (timestamp_in r.client (candidates q))
        (λ e. fair_act tag r f a h)
        (λ t e. branch G (ltb r.timestamp.0 t.0) (λ i. fair_stay h)
        (λ i. branch G (ltb t.0 r.timestamp.0)
        (λ lt. let old : Request = record { client = r.client; timestamp = t } in
        let s : Fair P R j q.owner none_gained (delete j old q) = fair_delete old (λ p b. differ old p (λ e.
        omega (arith, f p b (ap (λ (x : Request). x.client) e), ap (λ (x : Request). x.timestamp.0) e, ltb-true t.0 r.timestamp.0 lt))) h in
        fair_then (act j tag r) (λ p. omega arith) s (fair_act tag r f a s.holds))
        (λ ge. fair_act tag r f a h)))

    pub fair_suspect : {q : ServerState} → ((p : Request) → R p → is_request p q.owner ≡ false) → Holds P q → Fair P R j q.owner none_gained (suspect j q)
    unfolding suspect
    fair_suspect {q} ne h =
        owned (Fair P R j q.owner none_gained) q.owner (λ e. fair_stay h) (λ o e. fair_delete o (λ p b. rw e at (ne p b)) h)

    pub fair_check : {q : ServerState} → Holds P q → Fair P R j q.owner none_gained (check j q)
    unfolding check
    fair_check {q} h =
        owned (Fair P R j q.owner none_gained) q.owner (λ e. fair_stay h)
        (λ o e. record { kept = λ p a. omega arith; from = more {x = CHECK o.client j o.timestamp} (refl, rw e at h.owner) empty; holds = h })
