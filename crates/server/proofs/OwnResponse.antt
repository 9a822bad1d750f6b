-- An own RESPONSE is sent exactly when a client becomes owner, and then once: only `promote` and an admitted REQUEST name the
-- receiver, and a client that stands once in a server is not promoted when its own request goes.
use mathlib.Core.Path.{◌≡◌, refl, sym, ap, ◌∙◌}
use Prim.Native.Nat.{ℕ, ◌+◌}
use native.Mathlib.Omega.{arith}
use mathlib.Core.Bool.{Bool, true, false, ◌&&◌, ◌||◌, not, and-false}
use mathlib.Core.List.{List, [], ◌∷◌, ◌++◌}
use mathlib.Core.Logic.{◌⊎◌, inl, inr}
use lib.Dec.{eqb, ltb}
use borrow.Author.Tests.{eqb-true, eq-eqb, ltb-true, le-ltb}
use Rattle.ids.specs.Choice.{maybe}
use Rattle.std.specs.Prelude.{if◌then◌else◌, Some, None, Option}
use Rattle.ids.specs.Requests.{same, is_request, is_client, by_owner}
use Rattle.ids.specs.declared.ClientId.{ClientId}
use Rattle.ids.specs.declared.ServerId.{ServerId}
use Rattle.ids.specs.declared.Timestamp.{Timestamp}
use Rattle.ids.specs.declared.Request.{Request as Pair}
use Rattle.ids.proofs.Choice.{clash, both, decided}
use Rattle.ids.proofs.RequestLaws.{same_true, same_refl}
use Rattle.wire.specs.Step.{Step, stay, tell, ◌then◌}
use Rattle.wire.specs.declared.Message.{Message}
use Rattle.wire.specs.declared.Message.TheVariants.{Check}
use Rattle.server_votes.specs.declared.Tag.{Tag}
use Rattle.server_votes.specs.declared.Tag.TheVariants.{Request as REQUEST, Yield as YIELD, Release as RELEASE, Inquiry as INQUIRY}
use Rattle.rows.specs.Queue.{timestamp_in, insert}
use Rattle.server_votes.specs.Figure1.{State, candidates, promote, delete, inform, act, compare, receive, suspect, check}
use Rattle.server.specs.Told.{own, is_yield, gives_back, becomes}
use Rattle.server.proofs.KeepsValid.{Single, Good, valid-good, delete-good}
use Rattle.server.specs.Record.{valid_state}

abbrev bit : Bool → ℕ
bit b = if b then 1 else 0

-- p's own RESPONSEs in a step from owner `before`: as many as it becomes owner
abbrev Tells : Pair → Option Pair → Step State → Type 0
Tells p before s = own p s.sent ≡ bit (is_request p s.state.owner && not (is_request p before))

own-append : (p : Pair) (a b : List Message) → own p (a ++ b) ≡ own p a + own p b
own-append p [] b = omega arith
own-append p (m ∷ a) b = omega (arith, own-append p a b)

not_both : (b : Bool) → bit (b && not b) ≡ 0
not_both true = refl
not_both false = refl

-- requests compared
client_of_lem : (x p : Pair) → same x p ≡ true → eqb x.client.0 p.client.0 ≡ true
client_of_lem x p e = eq-eqb x.client.0 p.client.0 (ap (λ (y : Pair). y.client.0) (same_true x p e))

told-self : (h p : Pair) → eqb h.client.0 p.client.0 && same h p ≡ same h p
told-self h p = go (decided (same h p))
  where
    go : (same h p ≡ true) ⊎ (same h p ≡ false) → eqb h.client.0 p.client.0 && same h p ≡ same h p
    go (inl e) = rw (e, client_of_lem h p e)
    go (inr e) = rw (e, and-false (eqb h.client.0 p.client.0))

-- a RESPONSE to a client that is not the owner is no own one
aside : (p : Pair) (k : ClientId) (o : Option Pair) → is_client k o ≡ false → eqb k.0 p.client.0 && is_request p o ≡ false
aside p k None e = and-false (eqb k.0 p.client.0)
aside p k (Some x) e = go (decided (same x p)) (decided (eqb k.0 p.client.0))
  where
    go : (same x p ≡ true) ⊎ (same x p ≡ false) → (eqb k.0 p.client.0 ≡ true) ⊎ (eqb k.0 p.client.0 ≡ false)
        → eqb k.0 p.client.0 && same x p ≡ false
    go (inr s) t = rw (s, and-false (eqb k.0 p.client.0))
    go (inl s) (inr t) = rw t
    go (inl s) (inl t) =
        let same-client : x.client.0 ≡ k.0 = eqb-true _ _ (client_of_lem x p s) ∙ sym (eqb-true k.0 p.client.0 t) in
        clash (eqb x.client.0 k.0) (eq-eqb x.client.0 k.0 same-client) e

-- the client of p is not in the list, so p is not its head
not_head : (p h : Pair) (l : List Pair) → timestamp_in p.client (h ∷ l) ≡ None → same h p ≡ false
unfolding timestamp_in
not_head p h l n = go (decided (same h p))
  where
    go : (same h p ≡ true) ⊎ (same h p ≡ false) → same h p ≡ false
    go (inl e) = let z : ◌≡◌ {A = Option Timestamp} (Some h.timestamp) None = rw (client_of_lem h p e) at n in let y : ◌≡◌ {A = ℕ} 0 1 =
        cc in absurd (omega arith)
    go (inr e) = e

module _ (j : ServerId) (p : Pair) where
  -- the head is told, and nobody else
  promoted : (l : List Pair) → own p (promote j l).sent ≡ bit (is_request p (promote j l).state.owner)
  unfolding promote
  promoted [] = refl
  promoted (h ∷ l) = rw (told-self h p) (omega arith)

  promote-tells : (l : List Pair) (before : Option Pair) → is_request p before ≡ false → Tells p before (promote j l)
  promote-tells l before e = promoted l ∙ go (is_request p (promote j l).state.owner)
    where
      go : (b : Bool) → bit b ≡ bit (b && not (is_request p before))
      go true = rw e
      go false = refl

  -- the owner's own request goes: it does not come back
  promote-other : (l : List Pair) (before : Option Pair) → timestamp_in p.client l ≡ None → Tells p before (promote j l)
  unfolding promote
  promote-other [] before n = refl
  promote-other (h ∷ l) before n = rw (not_head p h l n, and-false (eqb h.client.0 p.client.0))

  inform-silent : (k : ClientId) (q : State) → (own p (inform j k q).sent ≡ 0) × ((inform j k q).state ≡ q)
  unfolding inform
  inform-silent k q = go (decided (is_client k q.owner))
    where
      go : (is_client k q.owner ≡ true) ⊎ (is_client k q.owner ≡ false) → (own p (inform j k q).sent ≡ 0) × ((inform j k q).state ≡ q)
      go (inl e) = (rw e, rw e)
      go (inr e) = (rw (e, aside p k q.owner e), rw e)

  stay-tells : (q : State) → Tells p q.owner (stay q)
  stay-tells q = sym (not_both (is_request p q.owner))

  delete-tells : (r : Pair) (q : State) → Single (candidates q) → Tells p q.owner (delete j r q)
  unfolding delete
  delete-tells r q s = go q.owner refl (decided (is_request r q.owner))
    where
      go : (o : Option Pair) → q.owner ≡ o → (is_request r q.owner ≡ true) ⊎ (is_request r q.owner ≡ false) → Tells p q.owner (delete j r q)
      go o e (inr t) = rw t (sym (not_both (is_request p q.owner)))
      go None e (inl t) = clash false (rw e at t) refl
      go (Some x) e (inl t) = here (decided (is_request p q.owner))
        where
          here : (is_request p q.owner ≡ true) ⊎ (is_request p q.owner ≡ false) → Tells p q.owner (delete j r q)
          here (inr u) = rw t (promote-tells q.queue q.owner u)
          here (inl u) =
              let own-it : same x p ≡ true = rw e at u in
              let alone : timestamp_in x.client q.queue ≡ None = (rw e at s).0 in
              let gone : timestamp_in p.client q.queue ≡ None = rw (same_true x p own-it) at alone in
              rw t (promote-other q.queue q.owner gone)

  -- a REQUEST: a request that is admitted is told so, another client's is told who is owner
  request-tells : (r : Pair) (o : Option Pair) (l : List Pair) → Tells p o (act j REQUEST r (record { owner = o; queue = l }))
  unfolding act
  request-tells r None l = rw (told-self r p) (go (same r p))
    where
      go : (b : Bool) → bit b + 0 ≡ bit (b && true)
      go true = refl
      go false = refl
  request-tells r (Some o) l = go (decided (eqb o.client.0 r.client.0))
    where
      go : (eqb o.client.0 r.client.0 ≡ true) ⊎ (eqb o.client.0 r.client.0 ≡ false)
          → Tells p (Some o) (act j REQUEST r (record { owner = Some o; queue = l }))
      go (inl e) = rw e (sym (not_both (same o p)))
      go (inr e) = rw (e, aside p r.client (Some o) e) (sym (not_both (same o p)))

  -- what `inform` adds changes nothing
  then_inform : (k : ClientId) (before : Option Pair) (s : Step State) → Tells p before s → Tells p before (s then inform j k)
  then_inform k before s t =
      let i = inform-silent k s.state in
      own-append p s.sent (inform j k s.state).sent ∙ rw (i.0, i.1) (let z : own p s.sent + 0 ≡ own p s.sent = omega arith in z ∙ t)

  yield_tells : (r : Pair) (q : State) → same r p && is_request p q.owner ≡ false → Tells p q.owner (act j YIELD r q)
  unfolding act
  yield_tells r q g = then_inform r.client q.owner (if is_request r q.owner then promote j (insert r q.queue) else stay q)
      (go (decided (is_request r q.owner)) q.owner refl)
    where
      go : (is_request r q.owner ≡ true) ⊎ (is_request r q.owner ≡ false) → (o : Option Pair) → q.owner ≡ o →
          Tells p q.owner (if is_request r q.owner then promote j (insert r q.queue) else stay q)
      go (inr t) o e = rw t (stay-tells q)
      go (inl t) None e = clash false (rw e at t) refl
      go (inl t) (Some x) e = here (decided (is_request p q.owner))
        where
          here : (is_request p q.owner ≡ true) ⊎ (is_request p q.owner ≡ false)
              → Tells p q.owner (if is_request r q.owner then promote j (insert r q.queue) else stay q)
          here (inr u) = rw t (promote-tells (insert r q.queue) q.owner u)
          here (inl u) =
              let a : x ≡ r = same_true x r (rw e at t) in
              let b : x ≡ p = same_true x p (rw e at u) in
              let c : same r p ≡ true = rw (sym a ∙ b) (same_refl p) in
              clash true refl (rw (c, u) at g)

  inquiry_tells : (r : Pair) (o : Option Pair) (l : List Pair) → Tells p o (act j INQUIRY r (record { owner = o; queue = l }))
  unfolding act
  inquiry_tells r None l = refl
  inquiry_tells r (Some o) l =
      let i = inform-silent r.client (record { owner = Some o; queue = l }) in
      i.0 ∙ rw i.1 (sym (not_both (same o p)))

  act-tells : (tag : Tag) (r : Pair) (q : State) → Single (candidates q) → gives_back tag r p q.owner ≡ false → Tells p q.owner (act j tag r q)
  act-tells REQUEST r q s g = request-tells r q.owner q.queue
  act-tells YIELD r q s g = yield_tells r q g
  act-tells RELEASE r q s g = unfold act in delete-tells r q s
  act-tells INQUIRY r q s g = inquiry_tells r q.owner q.queue

  not_request : (r : Pair) (o : Option Pair) → is_client r.client o ≡ false → is_request r o ≡ false
  not_request r None e = refl
  not_request r (Some x) e = go (decided (same x r))
    where
      go : (same x r ≡ true) ⊎ (same x r ≡ false) → same x r ≡ false
      go (inl s) = clash (eqb x.client.0 r.client.0) (client_of_lem x r s) e
      go (inr s) = s

  -- a client that is not the owner leaves the owner alone, and becomes it only where there is none
  Leaves : Pair → Option Pair → Option Pair → Type 0
  Leaves r o after = (after ≡ o) ⊎ ((o ≡ None) × (after ≡ Some r))

  act-owner : (tag : Tag) (r : Pair) (o : Option Pair) (l : List Pair) → is_client r.client o ≡ false
      → Leaves r o (act j tag r (record { owner = o; queue = l })).state.owner
  unfolding act Leaves
  act-owner REQUEST r None l e = inr (refl, refl)
  act-owner REQUEST r (Some x) l e = inl (rw e)
  act-owner YIELD r o l e = inl (ap (λ (q : State). q.owner) (inform-silent r.client _).1 ∙ rw (not_request r o e))
  act-owner RELEASE r o l e = inl (unfold delete in rw (not_request r o e))
  act-owner INQUIRY r None l e = inl refl
  act-owner INQUIRY r (Some x) l e = inl (ap (λ (q : State). q.owner) (inform-silent r.client (record { owner = Some x; queue = l })).1)

  -- the old pair of r's client is gone: the client does not own
  head_apart : (k : ClientId) (l : List Pair) → timestamp_in k l ≡ None → is_client k (promote j l).state.owner ≡ false
  unfolding promote timestamp_in
  head_apart k [] n = refl
  head_apart k (h ∷ l) n = go (decided (eqb h.client.0 k.0))
    where
      go : (eqb h.client.0 k.0 ≡ true) ⊎ (eqb h.client.0 k.0 ≡ false) → eqb h.client.0 k.0 ≡ false
      go (inl e) = let z : ◌≡◌ {A = Option Timestamp} (Some h.timestamp) None = rw e at n in let y : ◌≡◌ {A = ℕ} 0 1 = cc in absurd (omega arith)
      go (inr e) = e

  removed : (k : ClientId) (t : Timestamp) (o : Option Pair) (l : List Pair) → Single (candidates (record { owner = o; queue = l })) →
      timestamp_in k (candidates (record { owner = o; queue = l })) ≡ Some t →
      is_client k (delete j (record { client = k; timestamp = t }) (record { owner = o; queue = l })).state.owner ≡ false
  unfolding delete timestamp_in
  removed k t None l s e = refl
  removed k t (Some x) l s e = go (decided (eqb x.client.0 k.0))
    where
      go : (eqb x.client.0 k.0 ≡ true) ⊎ (eqb x.client.0 k.0 ≡ false) →
          is_client k (delete j (record { client = k; timestamp = t }) (record { owner = Some x; queue = l })).state.owner ≡ false
      go (inl c) =
          let at : x.timestamp ≡ t = let z : ◌≡◌ {A = Option Timestamp} (Some x.timestamp) (Some t) = rw c at e in cc in
          let k' : x.client ≡ k = let z = eqb-true x.client.0 k.0 c in λ i. record { 0 = z i } in
          let it : same x (record { client = k; timestamp = t }) ≡ true = rw (← at, ← k') (same_refl x) in
          rw it (head_apart k l (rw k' at s.0))
      go (inr c) =
          let it : same x (record { client = k; timestamp = t }) ≡ false = unfold same in rw c in
          rw it c

  -- the old pair removed, then the message: p is told by the one or by the other
  older_pair : (r : Pair) (t : Timestamp) → Pair
  older_pair r t = record { client = r.client; timestamp = t }

  differs : (r : Pair) (t : Timestamp) → ltb t.0 r.timestamp.0 ≡ true → same (older_pair r t) p ≡ true → same r p ≡ false
  unfolding older_pair
  differs r t lt e = go (decided (same r p))
    where
      go : (same r p ≡ true) ⊎ (same r p ≡ false) → same r p ≡ false
      go (inl s) =
          let a = ap (λ (x : Pair). x.timestamp.0) (same_true r p s) in
          let b = ap (λ (x : Pair). x.timestamp.0) (same_true (record { client = r.client; timestamp = t }) p e) in
          let c = ltb-true t.0 r.timestamp.0 lt in
          absurd (omega arith)
      go (inr s) = s

  -- p, which owned and does not any more, was the old pair
  was_old : (old : Pair) (q : State) → is_request p q.owner ≡ true → is_request p (delete j old q).state.owner ≡ false → same old p ≡ true
  unfolding delete
  was_old old q b a = go q.owner refl (decided (is_request old q.owner))
    where
      go : (o : Option Pair) → q.owner ≡ o → (is_request old q.owner ≡ true) ⊎ (is_request old q.owner ≡ false) → same old p ≡ true
      go o e (inr u) = clash (is_request p q.owner) b (rw u at a)
      go None e (inl u) = clash false (rw e at u) refl
      go (Some x) e (inl u) =
          let x-old : x ≡ old = same_true x old (rw e at u) in
          let x-p : same x p ≡ true = rw e at b in
          rw x-old at x-p

  both-tell : (tag : Tag) (r : Pair) (t : Timestamp) (q : State) → Good q → timestamp_in r.client (candidates q) ≡ Some t
      → ltb t.0 r.timestamp.0 ≡ true →
      Tells p q.owner (delete j (older_pair r t) q then act j tag r)
  unfolding older_pair Leaves
  both-tell tag r t q g e lt =
      let old : Pair = record { client = r.client; timestamp = t } in
      let d : Step State = delete j old q in
      let apart : is_client r.client d.state.owner ≡ false = removed r.client t q.owner q.queue g.single e in
      let first : Tells p q.owner d = delete-tells old q g.single in
      let back : gives_back tag r p d.state.owner ≡ false = no_back tag r d.state.owner apart in
      let second : Tells p d.state.owner (act j tag r d.state) = act-tells tag r d.state (delete-good j old q g).single back in
      own-append p d.sent (act j tag r d.state).sent ∙
      add_up (is_request p q.owner) (is_request p d.state.owner) (is_request p (act j tag r d.state).state.owner) first second
      (λ mid. by_leaving (act-owner tag r d.state.owner d.state.queue apart) mid)
      (λ b m. after-old (act-owner tag r d.state.owner d.state.queue apart) m (differs r t lt (was_old old q b m)))
    where
      no_back : (tag : Tag) (r : Pair) (o : Option Pair) → is_client r.client o ≡ false → gives_back tag r p o ≡ false
      no_back tag r o a = here (decided (same r p))
        where
          here : (same r p ≡ true) ⊎ (same r p ≡ false) → gives_back tag r p o ≡ false
          here (inr s) = rw s (and-false (is_yield tag))
          here (inl s) = let z : is_request p o ≡ false = rw (same_true r p s) at (not_request r o a) in rw (s, z) (and-false (is_yield tag))

      by_leaving : {r : Pair} {o after : Option Pair} → (after ≡ o) ⊎ ((o ≡ None) × (after ≡ Some r)) → is_request p o ≡ true → is_request p after ≡ true
      by_leaving (inl x) m = rw x m
      by_leaving (inr x) m = clash false (rw x.0 at m) refl

      after-old : {r : Pair} {o after : Option Pair} → (after ≡ o) ⊎ ((o ≡ None) × (after ≡ Some r)) → is_request p o ≡ false → same r p ≡ false
          → is_request p after ≡ false
      after-old (inl x) m s = rw x m
      after-old (inr x) m s = rw x.1 s

      add_up : (b m a : Bool) {x y : ℕ} → x ≡ bit (m && not b) → y ≡ bit (a && not m) → (m ≡ true → a ≡ true)
          → (b ≡ true → m ≡ false → a ≡ false) → x + y ≡ bit (a && not b)
      add_up b true a u v f h = rw (u, v, f refl) (let z : bit (not b) + 0 ≡ bit (not b) = omega arith in z)
      add_up true false a u v f h = rw (u, v, h refl refl)
      add_up false false a u v f h = rw (u, v) (omega arith)

  compare-tells : (tag : Tag) (r : Pair) (q : State) (t : Timestamp) → Good q → timestamp_in r.client (candidates q) ≡ Some t
      → gives_back tag r p q.owner ≡ false →
      Tells p q.owner (compare j tag r q t)
  unfolding older_pair
  compare-tells tag r q t g e n = go (decided (ltb r.timestamp.0 t.0)) (decided (ltb t.0 r.timestamp.0))
    where
      go : (ltb r.timestamp.0 t.0 ≡ true) ⊎ (ltb r.timestamp.0 t.0 ≡ false)
          → (ltb t.0 r.timestamp.0 ≡ true) ⊎ (ltb t.0 r.timestamp.0 ≡ false) →
          Tells p q.owner (compare j tag r q t)
      go (inl a) b = rw a (stay-tells q)
      go (inr a) (inl b) = rw (a, b) (both-tell tag r t q g e b)
      go (inr a) (inr b) = rw (a, b) (act-tells tag r q g.single n)

  receive-tells : (tag : Tag) (r : Pair) (q : State) → Good q → gives_back tag r p q.owner ≡ false → Tells p q.owner (receive j tag r q)
  unfolding receive
  receive-tells tag r q g n = go (timestamp_in r.client (candidates q)) refl
    where
      go : (o : Option Timestamp) → timestamp_in r.client (candidates q) ≡ o → Tells p q.owner (maybe o (act j tag r q) (compare j tag r q))
      go None e = act-tells tag r q g.single n
      go (Some t) e = compare-tells tag r q t g e n

  -- the owner gives its vote back: it is told if it is the first again
  yields-back : (l : List Pair) → own p (receive j YIELD p (record { owner = Some p; queue = l })).sent ≡ bit
      (is_request p (receive j YIELD p (record { owner = Some p; queue = l })).state.owner)
  unfolding receive timestamp_in act
  yields-back l =
      let first : Step State = promote j (insert p l) in
      let i = inform-silent p.client first.state in
      rw (eq-eqb p.client.0 p.client.0 refl, le-ltb p.timestamp.0 p.timestamp.0 (omega arith), same_refl p)
      (own-append p first.sent (inform j p.client first.state).sent ∙ rw (i.0, i.1) (omega (arith, promoted (insert p l))))

  or_false : (b : Bool) → b || false ≡ b
  or_false true = refl
  or_false false = refl

  or_true : (b : Bool) → b || true ≡ true
  or_true true = refl
  or_true false = refl

  and_true : (b : Bool) → b && true ≡ b
  and_true true = refl
  and_true false = refl

-- a server's step for a message
pub own-response : (j : ServerId) (tag : Tag) (r : Pair) (q : State) → valid_state q ≡ true → (p : Pair) →
    own p (receive j tag r q).sent ≡ bit (becomes p q.owner (gives_back tag r p q.owner) (receive j tag r q).state.owner)
own-response j tag r q v p = go (decided (gives_back tag r p q.owner))
  where
    back : (tag : Tag) → gives_back tag r p q.owner ≡ true → tag ≡ YIELD
    back REQUEST e = clash false e refl
    back YIELD e = refl
    back RELEASE e = clash false e refl
    back INQUIRY e = clash false e refl

    yielded : (o : Option Pair) (l : List Pair) → same r p && is_request p o ≡ true → own p
        (receive j YIELD r (record { owner = o; queue = l })).sent ≡ bit
        (is_request p (receive j YIELD r (record { owner = o; queue = l })).state.owner)
    yielded None l e = clash false (both (same r p) false e).1 refl
    yielded (Some x) l e = let b = both (same r p) (same x p) e in rw (same_true r p b.0, same_true x p b.1) (yields-back j p l)

    go : (gives_back tag r p q.owner ≡ true) ⊎ (gives_back tag r p q.owner ≡ false) →
        own p (receive j tag r q).sent ≡ bit (becomes p q.owner (gives_back tag r p q.owner) (receive j tag r q).state.owner)
    go (inr n) = rw (n, or_false j p (not (is_request p q.owner))) (receive-tells j p tag r q (valid-good q v) n)
    go (inl y) =
        let is = back tag y in
        let e : same r p && is_request p q.owner ≡ true = rw is at y in
        rw (y, or_true j p (not (is_request p q.owner)), and_true j p (is_request p (receive j tag r q).state.owner), is) (yielded q.owner q.queue e)

-- a suspected owner, and a check
pub own_response_suspect : (j : ServerId) (q : State) → valid_state q ≡ true → (p : Pair)
    → own p (suspect j q).sent ≡ bit (becomes p q.owner false (suspect j q).state.owner)
unfolding suspect
own_response_suspect j q v p = rw (or_false j p (not (is_request p q.owner))) (go q.owner refl)
  where
    go : (o : Option Pair) → q.owner ≡ o → own p (by_owner q.owner (stay q) (λ x. delete j x q)).sent ≡ bit
        (is_request p (by_owner q.owner (stay q) (λ x. delete j x q)).state.owner && not (is_request p q.owner))
    go None e = rw e refl
    go (Some x) e = rw e (rw e at (delete-tells j p x q (valid-good q v).single))

abbrev asked : ServerId → Option Pair → List Pair → Step State
asked j o l = by_owner o (stay (record { owner = o; queue = l })) (λ x. tell (record { owner = o; queue = l }) (Check x.client j x.timestamp))

pub own_response_check : (j : ServerId) (q : State) (p : Pair) → own p (check j q).sent ≡ bit (becomes p q.owner false (check j q).state.owner)
unfolding check
own_response_check j q p = rw (or_false j p (not (is_request p q.owner))) (go q.owner q.queue)
  where
    go : (o : Option Pair) (l : List Pair) → Tells p o (asked j o l)
    go None l = refl
    go (Some x) l = sym (not_both (same x p))
