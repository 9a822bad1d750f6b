-- A client sends at most one message of 12 bytes to each of its servers in a step, so that their number and bytes fit a word. A test that
-- the messages of its own request to each of its servers pass is passed by all that it sends.
use Prim.Native.Nat.{ℕ, zero, suc, ◌+◌, ◌*◌, ◌≤◌, ◌<◌}
use native.Mathlib.Omega.{arith}
use mathlib.Core.Path.{◌≡◌, refl}
use mathlib.Core.Bool.{Bool, true, false, false≢true, not}
use mathlib.Core.List.{List, [], ◌∷◌, map}
use mathlib.Core.Logic.{⊎_elim}
use lib.Dec.{eqb}
use lib.ListN.{length, length-map, length-take, length-replicate}
use borrow.Author.Tests.{not-false, le-leb}
use Rattle.std.specs.Prelude.{if◌then◌else◌, Some, None, Option}
use Rattle.ids.specs.Lists.{every}
use Rattle.ids.specs.Limits.{max_servers, max_timestamp, valid_client, valid_parties_up_to, valid_stamped, valid_stamped_up_to}
use Rattle.ids.specs.Order.{before}
use Rattle.ids.specs.Requests.{is_request}
use Rattle.ids.specs.declared.ClientId.{ClientId}
use Rattle.ids.specs.declared.ServerId.{ServerId}
use Rattle.ids.specs.declared.Timestamp.{Timestamp}
use Rattle.ids.specs.declared.Request.{Request as Pair}
use Rattle.ids.specs.declared.Refusal.TheVariants.{NumberOutOfRange, InvalidRecord, NotForClient, WrongSection, TimestampsSpent}
use Rattle.ids.proofs.Choice.{decided, passed}
use Rattle.wire.specs.Format as format
use Rattle.wire.specs.Format.{size_of, size_of_all, message_bytes}
use Rattle.wire.specs.Step.{Step, stepped}
use Rattle.wire.specs.declared.Message.{Message}
use Rattle.wire.proofs.Sequence.{size_of_all-one}
use Rattle.wire.specs.declared.Message.TheVariants.{Request, Yield, Release, Inquiry, Response, Check}
use Rattle.client_responses.specs.Figure1.{State, request, Quorum, filled, count, is_trying, enough, next, latest, taken, saw, to_all, tries, exits, reply, round, told, heard, judge, upon_response, upon_check, responds, checked, is_remainder, is_critical, last_try, may_try}
use Rattle.client.specs.Record.{fits_timestamp, valid, view}
use Rattle.client.specs.Calls.{for_client, received, message_outcome_up_to, message_outcome, begin_outcome, exit_outcome}
use Rattle.client.specs.declared.Client.{Client}
use Rattle.client_responses.specs.declared.Section.{Section}
use Rattle.client_responses.specs.declared.Section.TheVariants.{Remainder, Trying, Critical}
use Rattle.client.proofs.KeepsValid.{Fits, heard-length, checked-state}
use Rattle.client_responses.proofs.RoundLaws.{length-round, size-round}
use Rattle.client_responses.proofs.SendLaws.{length-to_all, size-to_all, request-plain, release_plain}
use Rattle.client.proofs.ValidLaws.{valid-known, trying-range}
use Rattle.ids.proofs.ListLaws.{every_append}
use Rattle.sends.proofs.ServerSends.{never, entered}

one_at_most : (b : Bool) → (if b then 1 else 0) ≤ 1
one_at_most true = omega arith
one_at_most false = omega arith

count-few : (l : List (Option Pair)) → count (map filled l) ≤ length l
count-few [] = omega arith
count-few (o ∷ l) = omega (arith, count-few l, one_at_most (filled o))

-- at most n messages, of 12 bytes each
pub record AtMost (n : ℕ) (ms : List Message) : Type 0 where
  pub few : length ms ≤ n
  pub small : size_of_all ms ≤ message_bytes * n

nothing : (n : ℕ) → AtMost n []
unfolding size_of_all
nothing n = record { few = omega arith; small = omega arith }

more : {n m : ℕ} {ms : List Message} → n ≤ m → AtMost n ms → AtMost m ms
more h a = record { few = omega (arith, a.few); small = omega (arith, a.small) }

judge-few : (wins : Quorum) (n : ℕ) (k : ClientId) (c : State) (l : List (Option Pair)) → AtMost (length l) (judge wins n k c l).sent
unfolding judge
judge-few wins n k c l =
    let r = request k c in
    ⊎_elim
    (λ (a : wins (map filled l) ≡ true).
    ⊎_elim
    (λ (b : wins (map (is_request r) l) ≡ true). rw (a, b) (nothing (length l)))
    (λ (b : wins (map (is_request r) l) ≡ false). rw (a, b)
    (record { few = omega (arith, length-round r 1 l, count-few l); small = omega (arith, size-round r 1 l, count-few l) }))
    (decided (wins (map (is_request r) l))))
    (λ (a : wins (map filled l) ≡ false). rw a (nothing (length l)))
    (decided (wins (map filled l)))

pub responds-few : (wins : Quorum) (n : ℕ) (k : ClientId) (j : ServerId) (o : Option Pair) (c : State)
    → AtMost (length c.responses) (responds wins n k j o c).sent
unfolding upon_response
responds-few wins n k j o c =
    let l = heard (request k c) c.responses j o in
    ⊎_elim
    (λ (t : is_trying c.section ≡ true). rw t (more (omega (arith, heard-length (request k c) c.responses j o)) (judge-few wins n k (saw (told o) c) l)))
    (λ (t : is_trying c.section ≡ false). rw t (nothing (length c.responses)))
    (decided (is_trying c.section))

released : (k : ClientId) (j : ServerId) (t : Timestamp) → AtMost 1 (Release k j t ∷ [])
released k j t = record { few = omega arith; small = rw size_of_all-one (omega (arith, release_plain k t j)) }

pub checked-few : (k : ClientId) (j : ServerId) (t : Timestamp) (c : State) → AtMost 1 (checked k j t c).sent
unfolding upon_check
checked-few k j t c =
    ⊎_elim (λ (e : eqb t.0 c.timestamp.0 ≡ true). rw e (nothing 1))
    (λ (e : eqb t.0 c.timestamp.0 ≡ false). rw e (released k j t)) (decided (eqb t.0 c.timestamp.0))

to_all_lem : (f : ServerId → Message) → ((j : ServerId) → size_of (f j) ≡ message_bytes) → (n : ℕ) → AtMost n (to_all f n)
to_all_lem f h n = record { few = omega (arith, length-to_all f n); small = omega (arith, size-to_all f h n) }

pub tries-few : (n : ℕ) (k : ClientId) (c : State) → AtMost n (tries n k c).sent
unfolding tries
tries-few n k c = to_all_lem _ (request-plain k (taken c)) n

pub exits-few : (n : ℕ) (k : ClientId) (c : State) → AtMost n (exits n k c).sent
unfolding exits
exits-few n k c = to_all_lem _ (release_plain k c.timestamp) n

-- and it keeps a response for each server at most
module _ (n : ℕ) where
  judge-long : (wins : Quorum) (k : ClientId) (c : State) (l : List (Option Pair)) → length l ≤ n → length (judge wins n k c l).state.responses ≤ n
  unfolding judge
  judge-long wins k c l g =
      let r = request k c in
      ⊎_elim
      (λ (a : wins (map filled l) ≡ true).
      ⊎_elim
      (λ (b : wins (map (is_request r) l) ≡ true). rw (a, b) g)
      (λ (b : wins (map (is_request r) l) ≡ false). rw (a, b, length-replicate {A = Option Pair} n None) (omega arith))
      (decided (wins (map (is_request r) l))))
      (λ (a : wins (map filled l) ≡ false). rw a g)
      (decided (wins (map filled l)))

  responds-long : (wins : Quorum) (k : ClientId) (j : ServerId) (o : Option Pair) (c : State) → length c.responses ≤ n
      → length (responds wins n k j o c).state.responses ≤ n
  unfolding upon_response
  responds-long wins k j o c g =
      let r = request k c in
      ⊎_elim
      (λ (t : is_trying c.section ≡ true).
      rw t (judge-long wins k (saw (told o) c) (heard r c.responses j o) (omega (arith, heard-length r c.responses j o))))
      (λ (t : is_trying c.section ≡ false). rw t g)
      (decided (is_trying c.section))

module _ (c : Client) (p : Step State) where
  responses-few : length (view c).responses ≤ c.head.n
  unfolding view
  responses-few = simp (length-map, length-take) (omega arith)

  received-few : (m : Message) → 1 ≤ c.head.n → received c m ≡ stepped p → AtMost c.head.n p.sent
  received-few (Request k j t) h e = absurd (never NotForClient p e)
  received-few (Yield k j t) h e = absurd (never NotForClient p e)
  received-few (Release k j t) h e = absurd (never NotForClient p e)
  received-few (Inquiry k j t) h e = absurd (never NotForClient p e)
  received-few (Response k j o) h e =
      let f = entered (for_client c.head k j) (never NotForClient p) e in
      let g : responds (enough c.head.m) c.head.n k j o (view c) ≡ p = cc in
      rw (← g) (more responses-few (responds-few (enough c.head.m) c.head.n k j o (view c)))
  received-few (Check k j t) h e =
      let f = entered (for_client c.head k j) (never NotForClient p) e in
      let g : checked k j t (view c) ≡ p = cc in
      rw (← g) (more h (checked-few k j t (view c)))

  received-long : (m : Message) → received c m ≡ stepped p → length p.state.responses ≤ c.head.n
  received-long (Request k j t) e = absurd (never NotForClient p e)
  received-long (Yield k j t) e = absurd (never NotForClient p e)
  received-long (Release k j t) e = absurd (never NotForClient p e)
  received-long (Inquiry k j t) e = absurd (never NotForClient p e)
  received-long (Response k j o) e =
      let f = entered (for_client c.head k j) (never NotForClient p) e in
      let g : responds (enough c.head.m) c.head.n k j o (view c) ≡ p = cc in
      rw (← g) (responds-long c.head.n (enough c.head.m) k j o (view c) responses-few)
  received-long (Check k j t) e =
      let f = entered (for_client c.head k j) (never NotForClient p) e in
      let g : checked k j t (view c) ≡ p = cc in
      rw (← g, checked-state) responses-few

  -- what is known of an accepted step: the record was valid, at most n messages were sent and at most n responses kept
  pub record Accepted : Type 0 where
    pub before : valid c ≡ true
    pub most : AtMost c.head.n p.sent
    pub long : length p.state.responses ≤ c.head.n

  pub message-accepted : (m : Message) → message_outcome c m ≡ stepped p → Accepted
  unfolding message_outcome_up_to
  message-accepted m e =
      let (a, h₁) = passed (not (valid c)) (never InvalidRecord p) e in
      let (b, h₂) = passed (not (format.valid m)) (never NumberOutOfRange p) h₁ in
      let v : valid c ≡ true = not-false (valid c) a in
      record { before = v; most = received-few m (valid-known c v).some h₂; long = received-long m h₂ }

  pub begin_accepted : begin_outcome c ≡ stepped p → Accepted
  unfolding begin_outcome tries
  begin_accepted e =
      let (a, h₁) = passed (not (valid c)) (never InvalidRecord p) e in
      let h₂ = entered (is_remainder (view c).section) (never WrongSection p) h₁ in
      let h₃ = entered (may_try (view c)) (never TimestampsSpent p) h₂ in
      let g : tries c.head.n c.head.id (view c) ≡ p = cc in
      let v : valid c ≡ true = not-false (valid c) a in
      record {
        before = v;
        most = rw (← g) (tries-few c.head.n c.head.id (view c));
        long = rw (← g, length-replicate {A = Option Pair} c.head.n None) (omega arith);
      }

  pub exit_accepted : exit_outcome c ≡ stepped p → Accepted
  unfolding exit_outcome exits
  exit_accepted e =
      let (a, h₁) = passed (not (valid c)) (never InvalidRecord p) e in
      let h₂ = entered (is_critical (view c).section) (never WrongSection p) h₁ in
      let g : exits c.head.n c.head.id (view c) ≡ p = cc in
      let v : valid c ≡ true = not-false (valid c) a in
      record {
        before = v;
        most = rw (← g) (exits-few c.head.n c.head.id (view c));
        long = rw (← g, length-replicate {A = Option Pair} c.head.n None) (omega arith);
      }

-- what passes f: the messages with which request r replies to server j
abbrev pub Replies : (Message → Bool) → Pair → ServerId → Type 0
Replies f r j = (f (Yield r.client j r.timestamp) ≡ true) × (f (Request r.client j r.timestamp) ≡ true) × (f
    (Inquiry r.client j r.timestamp) ≡ true)

module _ (f : Message → Bool) where
  all_pass : (g : ServerId → Message) (n : ℕ) → ((j : ℕ) → 1 ≤ j → j ≤ n → f (g (record { 0 = j })) ≡ true) → every f (to_all g n) ≡ true
  unfolding to_all
  all_pass g zero h = refl
  all_pass g (suc n) h =
      every_append f (to_all g n) (g (record { 0 = suc n }) ∷ []) (all_pass g n (λ j a b. h j a (omega arith))) (rw (h (suc n) (omega arith) (omega arith)))

  chosen : (a b : Bool) (x y z : Message) → f x ≡ true → f y ≡ true → f z ≡ true → f (if a then x else if b then y else z) ≡ true
  chosen true b x y z p q r = p
  chosen false true x y z p q r = q
  chosen false false x y z p q r = r

  reply_passes : (r : Pair) (j : ServerId) (o : Pair) → Replies f r j → f (reply r j o) ≡ true
  unfolding reply
  reply_passes r j o h = chosen (eqb o.client.0 r.client.0) (before r o) _ _ _ h.0 h.1 h.2

  round_passes : (r : Pair) (n j : ℕ) (l : List (Option Pair)) → 1 ≤ j → j + length l ≤ suc n
      → ((i : ℕ) → 1 ≤ i → i ≤ n → Replies f r (record { 0 = i })) → every f (round r j l) ≡ true
  unfolding round
  round_passes r n j [] a b h = refl
  round_passes r n j (None ∷ l) a b h = round_passes r n (suc j) l (omega arith) (omega arith) h
  round_passes r n j (Some o ∷ l) a b h =
      rw (reply_passes r (record { 0 = j }) o (h j a (omega arith))) (round_passes r n (suc j) l (omega arith) (omega arith) h)

  judge_passes : (wins : Quorum) (n : ℕ) (k : ClientId) (c : State) (l : List (Option Pair)) → length l ≤ n
      → ((i : ℕ) → 1 ≤ i → i ≤ n → Replies f (request k c) (record { 0 = i })) → every f (judge wins n k c l).sent ≡ true
  unfolding judge
  judge_passes wins n k c l few h =
      let r = request k c in
      ⊎_elim
      (λ (a : wins (map filled l) ≡ true).
      ⊎_elim
      (λ (b : wins (map (is_request r) l) ≡ true). rw (a, b) refl)
      (λ (b : wins (map (is_request r) l) ≡ false). rw (a, b) (round_passes r n 1 l (omega arith) (omega arith) h))
      (decided (wins (map (is_request r) l))))
      (λ (a : wins (map filled l) ≡ false). rw a refl)
      (decided (wins (map filled l)))

  pub tries_passes : (n : ℕ) (k : ClientId) (c : State)
      → ((j : ℕ) → 1 ≤ j → j ≤ n → f (Request k (record { 0 = j }) (taken c)) ≡ true) → every f (tries n k c).sent ≡ true
  unfolding tries
  tries_passes n k c h = all_pass _ n h

  pub exits_passes : (n : ℕ) (k : ClientId) (c : State) → ((j : ℕ) → 1 ≤ j → j ≤ n → f (Release k (record { 0 = j }) c.timestamp) ≡ true)
      → every f (exits n k c).sent ≡ true
  unfolding exits
  exits_passes n k c h = all_pass _ n h

  pub responds_passes : (wins : Quorum) (n : ℕ) (k : ClientId) (j : ServerId) (o : Option Pair) (c : State) → length c.responses ≤ n
      → (is_trying c.section ≡ true → (i : ℕ) → 1 ≤ i → i ≤ n → Replies f (request k c) (record { 0 = i }))
      → every f (responds wins n k j o c).sent ≡ true
  unfolding upon_response
  responds_passes wins n k j o c few h =
      let r = request k c in
      ⊎_elim
      (λ (t : is_trying c.section ≡ true).
      rw t (judge_passes wins n k (saw (told o) c) (heard r c.responses j o) (omega (arith, heard-length r c.responses j o)) (h t)))
      (λ (t : is_trying c.section ≡ false). rw t refl)
      (decided (is_trying c.section))

  pub checked_passes : (k : ClientId) (j : ServerId) (t : Timestamp) (c : State) → f (Release k j t) ≡ true → every f (checked k j t c).sent ≡ true
  unfolding upon_check
  checked_passes k j t c h =
      ⊎_elim (λ (e : eqb t.0 c.timestamp.0 ≡ true). rw e refl) (λ (e : eqb t.0 c.timestamp.0 ≡ false). rw (e, h))
      (decided (eqb t.0 c.timestamp.0))

-- every number that a client in a fitting state sends is in its range
stamped : (k : ClientId) (j : ℕ) (t : Timestamp) → valid_client k ≡ true → 1 ≤ j → j ≤ max_servers → 1 ≤ t.0 → t.0 ≤ max_timestamp
    → valid_stamped k (record { 0 = j }) t ≡ true
unfolding valid_stamped_up_to valid_parties_up_to
stamped k j t v a b c d = rw (v, le-leb 1 j a, le-leb j max_servers b, le-leb 1 t.0 c, le-leb t.0 max_timestamp d)

in_critical : (s : Section) (t : Timestamp) → is_critical s ≡ true → fits_timestamp s t ≡ true → (1 ≤ t.0) × (t.0 < max_timestamp)
in_critical Remainder t e h = absurd (false≢true e)
in_critical Trying t e h = absurd (false≢true e)
in_critical Critical t e h = trying-range t h

in_trying : (s : Section) (t : Timestamp) → is_trying s ≡ true → fits_timestamp s t ≡ true → (1 ≤ t.0) × (t.0 < max_timestamp)
in_trying Remainder t e h = absurd (false≢true e)
in_trying Trying t e h = trying-range t h
in_trying Critical t e h = absurd (false≢true e)

module _ (n m : ℕ) (k : ClientId) (s : State) (F : Fits n m k s) where
  pub tries-valid : (latest s).0 ≤ last_try → every format.valid (tries n k s).sent ≡ true
  unfolding format.valid_up_to next
  tries-valid h =
      tries_passes format.valid n k s
      (λ j a b. stamped k j (taken s) F.ranges.client a (omega (arith, F.ranges.few)) (omega arith) (omega arith))

  pub exits-valid : is_critical s.section ≡ true → every format.valid (exits n k s).sent ≡ true
  unfolding format.valid_up_to
  exits-valid h =
      let (c, d) = in_critical s.section s.timestamp h F.timestamp in
      exits_passes format.valid n k s (λ j a b. stamped k j s.timestamp F.ranges.client a (omega (arith, F.ranges.few)) c (omega arith))

  pub responds-valid : (wins : Quorum) (j : ServerId) (o : Option Pair) → every format.valid (responds wins n k j o s).sent ≡ true
  unfolding format.valid_up_to
  responds-valid wins j o =
      responds_passes format.valid wins n k j o s (omega (arith, F.long)) (λ t i a b.
      let (c, d) = in_trying s.section s.timestamp t F.timestamp in
      let v : valid_stamped k (record { 0 = i }) s.timestamp ≡ true = stamped k i s.timestamp F.ranges.client a
      (omega (arith, F.ranges.few)) c (omega arith) in
      (v, v, v))

pub checked-valid : (k : ClientId) (j : ServerId) (t : Timestamp) (s : State) → format.valid (Check k j t) ≡ true
    → every format.valid (checked k j t s).sent ≡ true
unfolding format.valid_up_to
checked-valid k j t s v = checked_passes format.valid k j t s v
