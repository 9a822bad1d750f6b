-- A client's step sends a token of its own request only for a token that it took or an own response that it gives up; and it
-- sends no timestamp above its last one, a RELEASE below it.
use mathlib.Core.Path.{◌≡◌, refl, sym, ap, subst, ◌∙◌}
use mathlib.Core.Logic.{inl, inr}
use Prim.Native.Nat.{ℕ, zero, suc, ◌+◌, ◌-◌, ◌≤◌, ◌<◌, zero-le}
use native.Mathlib.Nat.{le_refl}
use native.Mathlib.Omega.{arith}
use mathlib.Core.Bool.{not, ◌&&◌, true, false, false≢true, and-eq-true_iff}
use mathlib.Core.List.{List, [], ◌∷◌, map}
use lib.ListN.{length, get_or, set, replicate, length-replicate, length-set}
use lib.Seq.{get_or-set_other}
use lib.Dec.{eqb}
use borrow.Author.Tests.{eqb-true, eqb-false, eq-eqb, ne_eqb}
use Rattle.std.specs.Prelude.{if◌then◌else◌, Some, None, Option}
use Rattle.ids.specs.Order.{before}
use Rattle.ids.specs.Requests.{same, is_request}
use Rattle.ids.specs.declared.ClientId.{ClientId}
use Rattle.ids.specs.declared.ServerId.{ServerId}
use Rattle.ids.specs.declared.Timestamp.{Timestamp}
use Rattle.ids.specs.declared.Request.{Request}
use Rattle.ids.proofs.Choice.{decided, Test}
use Rattle.wire.specs.Step.{Step, stay}
use Rattle.wire.specs.declared.Message.{Message}
use Rattle.wire.specs.declared.Message.TheVariants.{Request as REQUEST, Yield as YIELD, Release as RELEASE, Inquiry as INQUIRY, Response as RESPONSE, Check as CHECK}
use Rattle.server_votes.specs.declared.Tag.{Tag}
use Rattle.server_votes.specs.declared.Tag.TheVariants.{Request as Asks, Yield as Yields, Release as Releases, Inquiry as Inquires}
use Rattle.client_responses.specs.declared.Section.{Section}
use Rattle.client_responses.specs.declared.Section.TheVariants.{Remainder, Trying, Critical}
use Rattle.client_responses.specs.Figure1.{State as ClientState, request, next, latest, taken, saw, Quorum, filled, is_trying, to_all, response_of, with_response, current, told, heard, reply, round, judge, upon_response, upon_check, responds, checked, is_remainder, is_critical}
use Rattle.system.specs.Numbered.{at}
use Rattle.system.proofs.Branch.{branch, bit, bit-one, if_zero, differ}
use Rattle.system.proofs.Tokens.{age, worth, token, server_of, sum, sum-append, All, empty, more, all_head, all_tail, all_append, all_set}

-- all that these proofs use of a new timestamp: it is greater than the last one
pub next_greater : (t : Timestamp) → t.0 < (next t).0
unfolding next
next_greater t = omega arith

pub taken_greater : (c : ClientState) → c.timestamp.0 < (taken c).0
taken_greater c = omega (arith, next_greater (latest c))

-- 1 where the response of server j shows r
abbrev pub shows : Request → List (Option Request) → ℕ → ℕ
shows r l j = bit (is_request r (at None l j))

-- a message with timestamp s may be sent when the last timestamp is t
abbrev pub InTime : Tag → Timestamp → ℕ → Type 0
InTime tag s t = s.0 + age tag ≤ t

-- a message of client k, in time
abbrev pub By : ClientId → ℕ → Message → Type 0
By k t (REQUEST i j s) = (i ≡ k) × InTime Asks s t
By k t (YIELD i j s) = (i ≡ k) × InTime Yields s t
By k t (RELEASE i j s) = (i ≡ k) × InTime Releases s t
By k t (INQUIRY i j s) = (i ≡ k) × InTime Inquires s t
By k t (RESPONSE i j o) = ⊥
By k t (CHECK i j s) = ⊥

-- a response that names r's client has r's timestamp
abbrev pub Mine : Request → Option Request → Type 0
Mine r None = Unit
Mine r (Some o) = o.client.0 ≡ r.client.0 → o.timestamp.0 ≡ r.timestamp.0

-- what a step of client k keeps in its epoch
pub record Fine (n : ℕ) (wins : Quorum) (k : ClientId) (c : ClientState) : Type 0 where
  pub mine : is_remainder c.section ≡ false → All (Mine (request k c)) c.responses
  pub sized : is_remainder c.section ≡ false → length c.responses ≡ n
  pub won : is_critical c.section ≡ true → wins (map (is_request (request k c)) c.responses) ≡ true

-- client k takes a message with the tokens `gain`
pub record Calm (n : ℕ) (wins : Quorum) (k : ClientId) (c : ClientState) (gain : ℕ → ℕ) (s : Step ClientState) : Type 0 where
  pub timestamp : s.state.timestamp ≡ c.timestamp
  pub epoch : is_remainder s.state.section ≡ is_remainder c.section
  pub kept : (j : ℕ) → sum (token (request k c) j) s.sent + shows (request k c) s.state.responses j ≤ gain j + shows (request k c) c.responses j
  pub by : All (By k c.timestamp.0) s.sent
  pub fine : Fine n wins k s.state

-- another client's messages are no tokens of p
token-none : (p : Request) (j : ℕ) (m : Message) → worth p m ≡ 0 → token p j m ≡ 0
token-none p j m e = rw e (if_zero (eqb (server_of m).0 j))

other : (p : Request) (k : ClientId) (t : ℕ) (m : Message) → (k ≡ p.client → ⊥) → By k t m → worth p m ≡ 0
other p k t (REQUEST i a s) ne b = refl
other p k t (YIELD i a s) ne b = rw (differ (record { client = i; timestamp = s }) p (λ e. ne (sym b.0 ∙ ap (λ (x : Request). x.client) e)))
other p k t (RELEASE i a s) ne b = refl
other p k t (INQUIRY i a s) ne b = refl
other p k t (RESPONSE i a o) ne b = absurd b
other p k t (CHECK i a s) ne b = absurd b

pub by_other : (p : Request) (j : ℕ) {k : ClientId} {t : ℕ} {l : List Message} → (k ≡ p.client → ⊥) → All (By k t) l → sum (token p j) l ≡ 0
by_other p j ne empty = refl
by_other p j {k} {t} ne (more {x = x} {l = l} h g) = omega (arith, token-none p j x (other p k t x ne h), by_other p j ne g)

-- one message to each server
module _ {k : ClientId} {t : ℕ} where
  pub by_all : (f : ServerId → Message) → ((j : ServerId) → By k t (f j)) → (n : ℕ) → All (By k t) (to_all f n)
  unfolding to_all
  by_all f h zero = empty
  by_all f h (suc n) = all_append (by_all f h n) (more {x = f (record { 0 = suc n })} (h (record { 0 = suc n })) empty)

pub requests-none : (p : Request) (j : ℕ) (k : ClientId) (s : Timestamp) (n : ℕ) → sum (token p j) (to_all (λ i. REQUEST k i s) n) ≡ 0
unfolding to_all
requests-none p j k s zero = refl
requests-none p j k s (suc n) =
    omega (
      arith,
      sum-append (token p j) (to_all (λ i. REQUEST k i s) n) (REQUEST k (record { 0 = suc n }) s ∷ []),
      requests-none p j k s n,
      if_zero (eqb (suc n) j),
    )

-- a round of yields
module _ (r : Request) where
  -- what is said to server j, which named o: a token only where o is r itself
  reply-worth : (o : Request) (j : ServerId) → Mine r (Some o) → worth r (reply r j o) ≤ bit (same o r)
  unfolding reply same
  reply-worth o j h =
      let G : Message → Type 0 = λ m. worth r m ≤ bit (same o r) in
      branch G (eqb o.client.0 r.client.0)
      (λ e. rw (e, eq-eqb o.timestamp.0 r.timestamp.0 (h (eqb-true o.client.0 r.client.0 e))) (bit-one (same r r)))
      (λ e. branch G (before r o) (λ f. zero-le) (λ f. zero-le))

  reply-server : (o : Request) (j : ServerId) → server_of (reply r j o) ≡ j
  unfolding reply
  reply-server o j =
      let G : Message → Type 0 = λ m. server_of m ≡ j in
      branch G (eqb o.client.0 r.client.0) (λ e. refl) (λ e. branch G (before r o) (λ f. refl) (λ f. refl))

  reply_by : (o : Request) (j : ServerId) → By r.client r.timestamp.0 (reply r j o)
  unfolding reply
  reply_by o j =
      let G : Message → Type 0 = By r.client r.timestamp.0 in
      branch G (eqb o.client.0 r.client.0) (λ e. (refl, omega arith))
      (λ e. branch G (before r o) (λ f. (refl, omega arith)) (λ f. (refl, omega arith)))

  by_round : (j : ℕ) (l : List (Option Request)) → All (By r.client r.timestamp.0) (round r j l)
  unfolding round
  by_round j [] = empty
  by_round j (None ∷ l) = by_round (suc j) l
  by_round j (Some o ∷ l) = more {x = reply r (record { 0 = j }) o} (reply_by o (record { 0 = j })) (by_round (suc j) l)

  reply_elsewhere : (i j : ℕ) (o : Request) → i < j → token r i (reply r (record { 0 = j }) o) ≡ 0
  reply_elsewhere i j o h = rw (reply-server o (record { 0 = j }), ne_eqb j i (λ e. omega arith))

  reply-here : (i j : ℕ) (o : Request) → i ≡ j → Mine r (Some o) → token r i (reply r (record { 0 = j }) o) ≤ bit (same o r)
  reply-here i j o h g = rw (reply-server o (record { 0 = j }), eq-eqb j i (omega arith)) (reply-worth o (record { 0 = j }) g)

  -- servers before j get nothing
  round-before : (i j : ℕ) (l : List (Option Request)) → i < j → sum (token r i) (round r j l) ≡ 0
  unfolding round
  round-before i j [] h = refl
  round-before i j (None ∷ l) h = round-before i (suc j) l (omega arith)
  round-before i j (Some o ∷ l) h = omega (arith, reply_elsewhere i j o h, round-before i (suc j) l (omega arith))

  reply-later : (i j : ℕ) (o : Request) → j < i → token r i (reply r (record { 0 = j }) o) ≡ 0
  reply-later i j o h = rw (reply-server o (record { 0 = j }), ne_eqb j i (λ e. omega arith))

  round-at : (i j x : ℕ) (l : List (Option Request)) → i ≡ j + x → All (Mine r) l → sum (token r i) (round r j l) ≤ bit (is_request r (get_or l x None))
  unfolding round
  round-at i j x [] h g = zero-le
  round-at i j zero (None ∷ l) h g = omega (arith, round-before i (suc j) l (omega arith))
  round-at i j (suc x) (None ∷ l) h g = round-at i (suc j) x l (omega arith) (all_tail g)
  round-at i j zero (Some o ∷ l) h g = omega (arith, reply-here i j o (omega arith) (all_head g), round-before i (suc j) l (omega arith))
  round-at i j (suc x) (Some o ∷ l) h g = omega (arith, reply-later i j o (omega arith), round-at i (suc j) x l (omega arith) (all_tail g))

  round-shows : (i : ℕ) (l : List (Option Request)) → All (Mine r) l → sum (token r i) (round r 1 l) ≤ shows r l i
  round-shows zero l g = omega (arith, round-before 0 1 l (omega arith))
  round-shows (suc x) l g = round-at (suc x) 1 x l (omega arith) g

  -- a response heard
  set-shows : (l : List (Option Request)) (x : ℕ) (o : Option Request) → bit (is_request r (get_or (set l x o) x None)) ≤ bit (is_request r o)
  set-shows [] x o = zero-le
  set-shows (a ∷ l) zero o = le_refl _
  set-shows (a ∷ l) (suc x) o = set-shows l x o

  put-shows : (l : List (Option Request)) (x i : ℕ) (o : Option Request) → shows r (set l x o) i ≤ (if eqb (suc x) i then bit (is_request r o) else 0) + shows r l i
  put-shows l x zero o = zero-le
  put-shows l x (suc y) o = go (decided (eqb (suc x) (suc y)))
    where
      go : Test (eqb (suc x) (suc y)) → shows r (set l x o) (suc y) ≤ (if eqb (suc x) (suc y) then bit (is_request r o) else 0) + shows r l (suc y)
      go (inl e) =
          let q : x ≡ y = omega (arith, eqb-true (suc x) (suc y) e) in
          rw e (omega (arith, subst (λ (z : ℕ). bit (is_request r (get_or (set l x o) z None)) ≤ bit (is_request r o)) q (set-shows l x o)))
      go (inr e) = rw (e, get_or-set_other l x y o None (λ q. eqb-false (suc x) (suc y) e (ap suc (sym q)))) (omega arith)

  -- the response of a server with a number from 1
  respond_shows : (l : List (Option Request)) (j i : ℕ) (o : Option Request) → 0 < j
      → shows r (with_response l (record { 0 = j }) o) i ≤ (if eqb j i then bit (is_request r o) else 0) + shows r l i
  respond_shows l zero i o pos = absurd (omega arith)
  respond_shows l (suc x) i o pos = let z : suc x - 1 ≡ x = omega arith in rw z (put-shows l x i o)

  heard-shows : (l : List (Option Request)) (j : ServerId) (i : ℕ) (o : Option Request) → 0 < j.0
      → shows r (heard r l j o) i ≤ (if eqb j.0 i then bit (is_request r o) else 0) + shows r l i
  unfolding heard
  heard-shows l j i o pos =
      branch (λ (m : List (Option Request)). shows r m i ≤ (if eqb j.0 i then bit (is_request r o) else 0) + shows r l i)
      (not (is_request r (response_of l j)) && current r o)
      (λ e. respond_shows l j.0 i o pos) (λ e. omega arith)

  current-mine : (o : Option Request) → current r o ≡ true → Mine r o
  current-mine None e = tt
  current-mine (Some x) e = λ q. eqb-true x.timestamp.0 r.timestamp.0 (rw (eq-eqb x.client.0 r.client.0 q) at e)

  heard-mine : {l : List (Option Request)} (j : ServerId) (o : Option Request) → All (Mine r) l → All (Mine r) (heard r l j o)
  unfolding heard
  heard-mine {l} j o g =
      let test = not (is_request r (response_of l j)) in
      branch (All (Mine r)) (test && current r o) (λ e. all_set (j.0 - 1) o (current-mine o ((and-eq-true_iff test (current r o)).0 e).1) g) (λ e. g)

  heard-length : (l : List (Option Request)) (j : ServerId) (o : Option Request) → length (heard r l j o) ≡ length l
  unfolding heard
  heard-length l j o =
      branch (λ (m : List (Option Request)). length m ≡ length l) (not (is_request r (response_of l j)) && current r o) (λ e. length-set l (j.0 - 1) o) (λ e. refl)

  pub shows-none : (n j : ℕ) → shows r (replicate n None) j ≡ 0
  shows-none n zero = refl
  shows-none zero (suc x) = refl
  shows-none (suc n) (suc zero) = refl
  shows-none (suc n) (suc (suc x)) = shows-none n (suc x)

  pub mine-none : (n : ℕ) → All (Mine r) (replicate n None)
  mine-none zero = empty
  mine-none (suc n) = more {x = None} tt (mine-none n)

module _ (n : ℕ) (wins : Quorum) (k : ClientId) where
  pub calm_stay : {c : ClientState} {gain : ℕ → ℕ} → Fine n wins k c → Calm n wins k c gain (stay c)
  calm_stay f = record { timestamp = refl; epoch = refl; kept = λ j. omega arith; by = empty; fine = f }

  -- what a client has seen matters to nothing here
  saw_fine : {c : ClientState} (t : Timestamp) → Fine n wins k c → Fine n wins k (saw t c)
  saw_fine t f = record { mine = f.mine; sized = f.sized; won = f.won }

  calm_saw : {c : ClientState} {gain : ℕ → ℕ} {s : Step ClientState} (t : Timestamp) → Calm n wins k (saw t c) gain s → Calm n wins k c gain s
  calm_saw t a = record { timestamp = a.timestamp; epoch = a.epoch; kept = a.kept; by = a.by; fine = a.fine }

  calm_judge : {c : ClientState} {gain : ℕ → ℕ} (l : List (Option Request)) → is_remainder c.section ≡ false →
      ((j : ℕ) → shows (request k c) l j ≤ gain j + shows (request k c) c.responses j) → All (Mine (request k c)) l → length l ≡ n →
      Calm n wins k c gain (judge wins n k c l)
  unfolding judge
  calm_judge {c} {gain} l s h g len =
      let r : Request = request k c in
      let G : Step ClientState → Type 0 = Calm n wins k c gain in
      branch G (wins (map filled l))
      (λ e. branch G (wins (map (is_request r) l))
      (λ w. record {
        timestamp = refl;
        epoch = sym s;
        kept = λ j. omega (arith, h j);
        by = empty;
        fine = record { mine = λ _. g; sized = λ _. len; won = λ _. w };
      })
      (λ w. record {
        timestamp = refl;
        epoch = sym s;
        kept = λ j. omega (arith, h j, round-shows r j l g, shows-none r n j);
        by = by_round r 1 l;
        fine = record { mine = λ _. mine-none r n; sized = λ _. length-replicate n None; won = λ b. absurd (false≢true b) };
      }))
      (λ e. record {
        timestamp = refl;
        epoch = sym s;
        kept = λ j. omega (arith, h j);
        by = empty;
        fine = record { mine = λ _. g; sized = λ _. len; won = λ b. absurd (false≢true b) };
      })

  told-worth : (c : ClientState) (j : ServerId) (o : Option Request) → worth (request k c) (RESPONSE k j o) ≡ bit (is_request (request k c) o)
  told-worth c j None = refl
  told-worth c j (Some x) = rw (eq-eqb k.0 k.0 refl)

  trying_epoch : (s : Section) → is_trying s ≡ true → is_remainder s ≡ false
  trying_epoch Remainder e = sym e
  trying_epoch Trying e = refl
  trying_epoch Critical e = refl

  calm_upon_response : {c : ClientState} (j : ServerId) (o : Option Request) → 0 < j.0 → Fine n wins k c
      → Calm n wins k c (λ i. token (request k c) i (RESPONSE k j o)) (upon_response wins n k j o c)
  unfolding upon_response
  calm_upon_response {c} j o pos f =
      let r : Request = request k c in
      branch (Calm n wins k c (λ i. token r i (RESPONSE k j o))) (is_trying c.section)
      (λ e. let s = trying_epoch c.section e in
      calm_judge (heard r c.responses j o) s
      (λ i. rw (told-worth c j o) (heard-shows r c.responses j i o pos))
      (heard-mine r j o (f.mine s))
      (heard-length r c.responses j o ∙ f.sized s))
      (λ e. calm_stay f)

  pub calm_respond : {c : ClientState} (j : ServerId) (o : Option Request) → 0 < j.0 → Fine n wins k c
      → Calm n wins k c (λ i. token (request k c) i (RESPONSE k j o)) (responds wins n k j o c)
  calm_respond {c} j o pos f = calm_saw (told o) (calm_upon_response j o pos (saw_fine (told o) f))

  calm_upon_check : {c : ClientState} {gain : ℕ → ℕ} (j : ServerId) (t : Timestamp) → t.0 ≤ c.timestamp.0 → Fine n wins k c
      → Calm n wins k c gain (upon_check k j t c)
  unfolding upon_check
  calm_upon_check {c} {gain} j t le f =
      branch (Calm n wins k c gain) (eqb t.0 c.timestamp.0) (λ e. calm_stay f)
      (λ e. record {
        timestamp = refl;
        epoch = refl;
        kept = λ i. omega (arith, if_zero (eqb j.0 i));
        by = more {x = RELEASE k j t} (refl, omega (arith, eqb-false t.0 c.timestamp.0 e)) empty;
        fine = f;
      })

  pub calm_checked : {c : ClientState} {gain : ℕ → ℕ} (j : ServerId) (t : Timestamp) → t.0 ≤ c.timestamp.0 → Fine n wins k c
      → Calm n wins k c gain (checked k j t c)
  calm_checked {c} {gain} j t le f = calm_saw t (calm_upon_check j t le (saw_fine t f))
