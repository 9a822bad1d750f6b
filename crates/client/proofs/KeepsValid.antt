-- Every accepted step of a valid record gives a valid record. A state that fits n, m and the client is stored as a valid record,
-- and each step leaves such a state: of m or more responses there are exactly m, since one RESPONSE fills at most one place.
use Prim.Native.Nat.{ℕ, zero, suc, ◌+◌, ◌*◌, ◌-◌, ◌≤◌}
use native.Mathlib.Omega.{arith}
use mathlib.Core.Path.{◌≡◌, refl, ◌∙◌, sym, ap}
use mathlib.Core.Bool.{Bool, true, false, ◌&&◌, ◌||◌, not}
use mathlib.Core.List.{List, [], ◌∷◌, map}
use lib.Dec.{eqb, leb}
use lib.ListN.{length, get_or, set, replicate, length-map, length-replicate, length-set}
use borrow.Author.Tests.{not-true, not-false, le-leb, lt-leb, lt-ltb, eq-eqb, ne_eqb, leb-true, leb-false}
use Rattle.std.specs.Prelude.{if◌then◌else◌, Some, None, Option}
use Rattle.ids.specs.Limits.{max_servers, max_timestamp, valid_client, valid_owner}
use Rattle.ids.specs.Lists.{every}
use Rattle.ids.specs.Requests.{same, is_request}
use Rattle.ids.specs.declared.ClientId.{ClientId}
use Rattle.ids.specs.declared.ServerId.{ServerId}
use Rattle.ids.specs.declared.Timestamp.{Timestamp}
use Rattle.ids.specs.declared.Request.{Request}
use Rattle.ids.specs.declared.Refusal.{Refusal}
use Rattle.ids.specs.declared.Refusal.TheVariants.{InvalidRecord, WrongSection, TimestampsSpent, NotForClient, NumberOutOfRange}
use Rattle.ids.proofs.ListLaws.{every-same, every_set}
use Rattle.ids.proofs.Choice.{both, passed}
use Rattle.wire.specs.Format as format
use Rattle.wire.specs.Step.{Step, refused, stepped, stay}
use Rattle.wire.specs.declared.Message.{Message}
use Rattle.wire.specs.declared.Message.TheVariants.{Request as REQUEST, Yield, Release, Inquiry, Response, Check}
use Rattle.rows.specs.Rows.{requests_in, row_of, queue_of, fits_place}
use Rattle.rows.specs.Good.{good_row}
use Rattle.rows.proofs.GoodLaws.{padded-good}
use Rattle.rows.proofs.RowLaws.{row_of-queue, row_of-padded}
use Rattle.client_responses.specs.declared.Section.{Section}
use Rattle.client_responses.specs.declared.Section.TheVariants.{Remainder, Trying, Critical}
use Rattle.client_responses.specs.Figure1.{State, fresh, next, latest, saw, filled, count, own, enough, is_remainder, is_critical, may_try, last_try, tries, exits, current, told, heard, judge, upon_response, upon_check, responds, checked}
use Rattle.client_responses.specs.Row.{shown, place, responses_in, own_is_current}
use Rattle.client_responses.proofs.CountLaws.{length-responses}
use Rattle.client_responses.proofs.HearLaws.{shown-place, place-fits}
use Rattle.client.specs.declared.Client.{Client}
use Rattle.client.specs.Record.{max_places, client_of, head_in, view, store_in, store, valid_sizes, fits_section, no_more, fits_timestamp, valid_up_to, valid}
use Rattle.client.specs.Calls.{begin_outcome, exit_outcome, message_outcome_up_to, received, for_client, client_after}
use Rattle.client.specs.Inner.{without}
use Rattle.client.proofs.ValidLaws.{KnownUpTo, known_up_to, valid_up_to_lem, known-padded, known-words, valid-known, valid-padded, sizes_range}
use Rattle.client.proofs.RecordLaws.{store_view}
use Rattle.client.proofs.StepLaws.{response-range, its-client}

-- n servers, threshold m and client k in their ranges
pub record InRangeUpTo (limit n m : ℕ) (k : ClientId) : Type 0 where
  pub some : 1 ≤ n
  pub few : n ≤ limit
  pub threshold : 1 ≤ m
  pub reached : m ≤ n
  pub client : valid_client k ≡ true

abbrev pub InRange : ℕ → ℕ → ClientId → Type 0
InRange = InRangeUpTo max_servers

-- a state that fits them
pub record FitsUpTo (limit n m : ℕ) (k : ClientId) (s : State) : Type 0 where
  pub ranges : InRangeUpTo limit n m k
  pub long : length s.responses ≡ n
  pub timestamp : fits_timestamp s.section s.timestamp ≡ true
  pub owners : every valid_owner s.responses ≡ true
  pub own : every (own_is_current (record { client = k; timestamp = s.timestamp })) s.responses ≡ true
  pub section : fits_section (enough m) s.section (record { client = k; timestamp = s.timestamp }) s.responses ≡ true
  pub more : no_more s.section m s.responses ≡ true

abbrev pub Fits : ℕ → ℕ → ClientId → State → Type 0
Fits = FitsUpTo max_servers

-- the places of responses, and the responses again
responses-again : (l : List (Option Request)) → every valid_owner l ≡ true → map shown (map place l) ≡ l
responses-again [] h = refl
responses-again (o ∷ l) h =
    let (a, b) = both (valid_owner o) (every valid_owner l) h in
    rw (shown-place o a, responses-again l b)

places_fit : (l : List (Option Request)) → every valid_owner l ≡ true → every fits_place (map place l) ≡ true
places_fit [] h = refl
places_fit (o ∷ l) h =
    let (a, b) = both (valid_owner o) (every valid_owner l) h in
    rw (place-fits o a) (places_fit l b)

-- a state that fits, in a row of p places
module _ (limit n m : ℕ) (k : ClientId) (s : State) (F : FitsUpTo limit n m k s) (p : ℕ) (room : n ≤ p) where
  abbrev row : List ℕ
  row = row_of (2 * p) (map place s.responses)

  abbrev kept : Client
  kept = client_of (head_in n m k s) row

  placed : length (map place s.responses) ≡ n
  placed = rw length-map F.long

  shows : responses_in row n ≡ s.responses
  shows =
      let q : queue_of row n ≡ map place s.responses = rw placed at (row_of-queue p (map place s.responses) (rw placed room)) in
      ap (map shown) q ∙ responses-again s.responses F.owners

  good : good_row row n ≡ true
  good = padded-good row n (rw placed at (row_of-padded p (map place s.responses) (rw placed room) (places_fit s.responses F.owners)))

  pub kept-view : view kept ≡ s
  unfolding view
  kept-view = λ i. record { section = s.section; timestamp = s.timestamp; seen = s.seen; responses = shows i }

  pub kept-valid : valid_up_to limit kept ≡ true
  kept-valid =
      let v = kept-view in
      valid_up_to_lem limit kept (
      record {
        some = F.ranges.some;
        few = F.ranges.few;
        threshold = F.ranges.threshold;
        reached = F.ranges.reached;
        client = F.ranges.client;
        timestamp = F.timestamp;
        row = good;
        owners = rw v F.owners;
        own = rw v F.own;
        section = rw v F.section;
        more = rw v F.more;
      })

-- the record that it is stored as, with places enough
module _ (places n m : ℕ) (k : ClientId) (s : State) (F : Fits n m k s) (room : n ≤ places) where
  pub view-store : view (store_in places n m k s) ≡ s
  unfolding store_in
  view-store = kept-view max_servers n m k s F places room

  pub store-valid : valid (store_in places n m k s) ≡ true
  unfolding store_in
  store-valid = kept-valid max_servers n m k s F places room

pub known_ranges : {limit : ℕ} (c : Client) → KnownUpTo limit c → InRangeUpTo limit c.head.n c.head.m c.head.id
known_ranges c K =
    record { some = K.some; few = K.few; threshold = K.threshold; reached = K.reached; client = K.client }

-- a valid record shows a state that fits
pub view-fits : {limit : ℕ} (c : Client) → KnownUpTo limit c → FitsUpTo limit c.head.n c.head.m c.head.id (view c)
unfolding view
view-fits {limit} c K =
    record {
      ranges = known_ranges c K;
      long = length-responses c.row c.head.n (known-words limit c K);
      timestamp = K.timestamp;
      owners = K.owners;
      own = K.own;
      section = K.section;
      more = K.more;
    }

-- a state without responses
none_filled : (n : ℕ) → count (map filled (replicate n None)) ≡ 0
none_filled zero = refl
none_filled (suc n) = omega (arith, none_filled n)

module _ {limit : ℕ} (n m : ℕ) (k : ClientId) (R : InRangeUpTo limit n m k) (t seen : Timestamp) where
  without-fits : (a : Section) → fits_timestamp a t ≡ true
      → fits_section (enough m) a (record { client = k; timestamp = t }) (replicate n None) ≡ true → no_more a m (replicate n None) ≡ true
      → FitsUpTo limit n m k (without n a t seen)
  unfolding valid_owner
  without-fits a h g b =
      record {
        ranges = R;
        long = length-replicate n None;
        timestamp = h;
        owners = every-same valid_owner n None refl;
        own = every-same (own_is_current (record { client = k; timestamp = t })) n None refl;
        section = g;
        more = b;
      }

  pub trying-fits : fits_timestamp Trying t ≡ true → FitsUpTo limit n m k (without n Trying t seen)
  unfolding enough
  trying-fits h = without-fits Trying h (rw (none_filled n, lt-leb m 0 R.threshold)) refl

  pub remainder_fits : FitsUpTo limit n m k (without n Remainder t seen)
  remainder_fits = without-fits Remainder refl (rw none_filled refl) refl

-- one response more
pub heard-length : (r : Request) (l : List (Option Request)) (j : ServerId) (o : Option Request) → length (heard r l j o) ≡ length l
unfolding heard
heard-length r l j o = by_test (not (is_request r (get_or l (j.0 - 1) None)) && current r o) where
  by_test : (b : Bool) → length (if b then set l (j.0 - 1) o else l) ≡ length l
  by_test true = length-set l (j.0 - 1) o
  by_test false = refl

one_at_most : (b : Bool) → (if b then 1 else 0) ≤ 1
one_at_most true = omega arith
one_at_most false = omega arith

count_set : {A : Type 0} (f : A → Bool) (l : List A) (i : ℕ) (x : A) → count (map f (set l i x)) ≤ suc (count (map f l))
count_set f [] i x = omega arith
count_set f (y ∷ l) zero x = omega (arith, one_at_most (f x))
count_set f (y ∷ l) (suc i) x = omega (arith, count_set f l i x)

own-filled : (r : Request) (o : Option Request) → (if is_request r o then 1 else 0) ≤ (if filled o then 1 else 0)
own-filled r None = omega arith
own-filled r (Some q) = one_at_most (same q r)

own-count : (r : Request) (l : List (Option Request)) → count (map (is_request r) l) ≤ count (map filled l)
own-count r [] = omega arith
own-count r (o ∷ l) = omega (arith, own-filled r o, own-count r l)

by_client : (a b : Bool) → not a || b ≡ true → not a || (a && b) ≡ true
by_client true b h = h
by_client false b h = refl

current-own : (r : Request) (o : Option Request) → current r o ≡ true → own_is_current r o ≡ true
unfolding same
current-own r None h = refl
current-own r (Some q) h = by_client (eqb q.client.0 r.client.0) (eqb q.timestamp.0 r.timestamp.0) h

module _ (r : Request) (l : List (Option Request)) (j : ServerId) (o : Option Request) (f : Option Request → Bool) where
  every-chosen : (a b : Bool) → current r o ≡ b → every f l ≡ true → (current r o ≡ true → f o ≡ true)
      → every f (if a && b then set l (j.0 - 1) o else l) ≡ true
  every-chosen true true e h g = every_set f l (j.0 - 1) o h (g e)
  every-chosen true false e h g = h
  every-chosen false b e h g = h

  pub heard-every : every f l ≡ true → (current r o ≡ true → f o ≡ true) → every f (heard r l j o) ≡ true
  unfolding heard
  heard-every h g = every-chosen (not (is_request r (get_or l (j.0 - 1) None))) (current r o) refl h g

  count-chosen : (b : Bool) → count (map f (if b then set l (j.0 - 1) o else l)) ≤ suc (count (map f l))
  count-chosen true = count_set f l (j.0 - 1) o
  count-chosen false = omega arith

  heard-count : count (map f (heard r l j o)) ≤ suc (count (map f l))
  unfolding heard
  heard-count = count-chosen (not (is_request r (get_or l (j.0 - 1) None)) && current r o)

-- document 01's words on the critical section: exactly m responses, all its own
module _ (m : ℕ) (r : Request) (l : List (Option Request)) where
  abbrev exactly : Bool
  exactly = eqb (count (map filled l)) m && eqb (count (own r l)) m

  and_false : (b : Bool) → b && false ≡ false
  and_false true = refl
  and_false false = refl

  by_counts : (a b : Bool) → leb m (count (own r l)) ≡ a → leb (count (map filled l)) m ≡ b → a && b ≡ exactly
  by_counts true true e g =
      let f = leb-true m (count (own r l)) e in
      let h = leb-true (count (map filled l)) m g in
      let i = own-count r l in
      sym (rw (eq-eqb (count (map filled l)) m (omega arith), eq-eqb (count (own r l)) m (omega arith)))
  by_counts true false e g = let h = leb-false (count (map filled l)) m g in sym (rw (ne_eqb (count (map filled l)) m (λ z. omega arith)))
  by_counts false b e g =
      let f = leb-false m (count (own r l)) e in
      sym (ap (λ (x : Bool). eqb (count (map filled l)) m && x) (ne_eqb (count (own r l)) m (λ z. omega arith)) ∙ and_false (eqb (count (map filled l)) m))

  pub critical_exactly : fits_section (enough m) Critical r l && no_more Critical m l ≡ exactly
  unfolding enough
  critical_exactly = by_counts (leb m (count (own r l))) (leb (count (map filled l)) m) refl refl

-- what lines 10 to 18 leave
module _ {limit : ℕ} (n m : ℕ) (k : ClientId) (c : State) (l : List (Option Request)) (B : FitsUpTo limit n m k (without n Trying c.timestamp c.seen)) where
  abbrev mine : Request
  mine = record { client = k; timestamp = c.timestamp }

  abbrev with : Section → List (Option Request) → State
  with s a = record { section = s; timestamp = c.timestamp; seen = c.seen; responses = a }

  module _ (long : length l ≡ n) (owners : every valid_owner l ≡ true) (own : every (own_is_current mine) l ≡ true) (most : count (map filled l) ≤ m) where
    left-fits : (s : Section) → fits_timestamp s c.timestamp ≡ true → fits_section (enough m) s mine l ≡ true → no_more s m l ≡ true → FitsUpTo limit n m k (with s l)
    left-fits s h g b =
        record {
          ranges = B.ranges;
          long = long;
          timestamp = h;
          owners = owners;
          own = own;
          section = g;
          more = b;
        }

    judged : (a b : Bool) → leb m (count (map filled l)) ≡ a → leb m (count (map (is_request mine) l)) ≡ b
        → FitsUpTo limit n m k (if a then (if b then with Critical l else with Trying (replicate n None)) else with Trying l)
    unfolding enough
    judged true true e g = left-fits Critical B.timestamp g (le-leb (count (map filled l)) m most)
    judged true false e g = B
    judged false b e g = left-fits Trying B.timestamp (rw e) refl

    lifted : (a b : Bool) (x y z : Step State) → (if a then (if b then x else y) else z).state ≡ (if a then (if b then x.state else y.state) else z.state)
    lifted true true x y z = refl
    lifted true false x y z = refl
    lifted false b x y z = refl

    judge-fits : FitsUpTo limit n m k (judge (enough m) n k c l).state
    unfolding judge enough
    judge-fits = rw lifted (judged (leb m (count (map filled l))) (leb m (count (map (is_request mine) l))) refl refl)

-- trying, fewer than m places are filled
few-filled : (m : ℕ) (l : List (Option Request)) → not (enough m (map filled l)) ≡ true → suc (count (map filled l)) ≤ m
unfolding enough
few-filled m l h = leb-false m (count (map filled l)) (not-true _ h)

-- what was seen is held to nothing
pub saw-fits : {limit : ℕ} (n m : ℕ) (k : ClientId) (t : Timestamp) (s : State) → FitsUpTo limit n m k s → FitsUpTo limit n m k (saw t s)
saw-fits n m k t s F =
    record {
      ranges = F.ranges;
      long = F.long;
      timestamp = F.timestamp;
      owners = F.owners;
      own = F.own;
      section = F.section;
      more = F.more;
    }

-- lines 7 to 18, by the section
module _ {limit : ℕ} (n m : ℕ) (k : ClientId) (j : ServerId) (o : Option Request) (v : valid_owner o ≡ true) where
  upon_response_lem : (a : Section) (t seen : Timestamp) (l : List (Option Request))
      → FitsUpTo limit n m k (record { section = a; timestamp = t; seen = seen; responses = l })
      → FitsUpTo limit n m k (upon_response (enough m) n k j o (record { section = a; timestamp = t; seen = seen; responses = l })).state
  unfolding upon_response
  upon_response_lem Remainder t seen l F = F
  upon_response_lem Critical t seen l F = F
  upon_response_lem Trying t seen l F =
      let r : Request = record { client = k; timestamp = t } in
      judge-fits n m k (record { section = Trying; timestamp = t; seen = seen; responses = l }) (heard r l j o)
      (trying-fits n m k F.ranges t seen F.timestamp) (heard-length r l j o ∙ F.long)
      (heard-every r l j o valid_owner F.owners (λ h. v)) (heard-every r l j o (own_is_current r) F.own (current-own r o))
      (omega (arith, heard-count r l j o filled, few-filled m l F.section))

  pub responds-fits : (s : State) → FitsUpTo limit n m k s → FitsUpTo limit n m k (responds (enough m) n k j o s).state
  responds-fits s F = upon_response_lem s.section s.timestamp (saw (told o) s).seen s.responses (saw-fits n m k (told o) s F)

-- lines 24 and 25 change nothing, and the step only what was seen
upon_check_lem : (k : ClientId) (j : ServerId) (t : Timestamp) (s : State) → (upon_check k j t s).state ≡ s
unfolding upon_check
upon_check_lem k j t s = by_test (eqb t.0 s.timestamp.0) where
  by_test : (b : Bool) → (if b then stay s else record { state = s; sent = Release k j t ∷ [] }).state ≡ s
  by_test true = refl
  by_test false = refl

pub checked-state : (k : ClientId) (j : ServerId) (t : Timestamp) (s : State) → (checked k j t s).state ≡ saw t s
checked-state k j t s = upon_check_lem k j t (saw t s)

-- lines 1 to 5 and 19 to 23
module _ {limit : ℕ} (n m : ℕ) (k : ClientId) (s : State) (R : InRangeUpTo limit n m k) where
  pub tries-fits : (latest s).0 ≤ last_try → FitsUpTo limit n m k (tries n k s).state
  unfolding tries next
  tries-fits h =
      trying-fits n m k R (record { 0 = (latest s).0 + 1 }) s.seen
      (rw (le-leb 1 ((latest s).0 + 1) (omega arith)) (lt-ltb ((latest s).0 + 1) max_timestamp (omega arith)))

  pub exits-fits : FitsUpTo limit n m k (exits n k s).state
  unfolding exits
  exits-fits = remainder_fits n m k R (next s.timestamp) s.seen

-- what an outcome that is no refusal says of the tests before it
never : (e : Refusal) (s : Step State) → refused e ≡ stepped s → ⊥
never e s h = let z : ◌≡◌ {A = ℕ} 0 1 = cc in omega arith

pub taken : {A : Type 0} {x y z : A} (b : Bool) → (y ≡ z → ⊥) → (if b then x else y) ≡ z → (b ≡ true) × (x ≡ z)
taken true n h = (refl, h)
taken false n h = absurd (n h)

-- the theorems: a valid record is what its state is stored as
pub stored-again : (places : ℕ) (c : Client) → valid c ≡ true → length c.row ≡ 2 * places → store_in places c.head.n c.head.m c.head.id (view c) ≡ c
stored-again places c v long = store_view places c long (valid-padded c v)

-- a step's record is the one that its state is stored as
pub after-stored : (places : ℕ) (c : Client) (s : Step State) → length c.row ≡ 2 * places
    → client_after c (stepped s) ≡ store_in places c.head.n c.head.m c.head.id s.state
unfolding store_in
after-stored places c s long = ap (λ (k : ℕ). client_of (head_in c.head.n c.head.m c.head.id s.state) (row_of k (map place s.state.responses))) long

-- and every accepted step of one gives one
module _ (limit : ℕ) (c : Client) (s : Step State) (v : valid_up_to limit c ≡ true) where
  known : KnownUpTo limit c
  known = known_up_to limit c v

  after : (x : Step State) → x ≡ s → FitsUpTo limit c.head.n c.head.m c.head.id x.state → valid_up_to limit (client_after c (stepped s)) ≡ true
  after x e F =
      let g = known-padded limit c known in
      rw (← e, g.places.even) (kept-valid limit c.head.n c.head.m c.head.id x.state F (length (requests_in c.row)) g.within)

  received-valid : (m : Message) → format.valid_up_to limit m ≡ true → received c m ≡ stepped s → valid_up_to limit (client_after c (stepped s)) ≡ true
  received-valid (REQUEST k j t) w h = absurd (never NotForClient s h)
  received-valid (Yield k j t) w h = absurd (never NotForClient s h)
  received-valid (Release k j t) w h = absurd (never NotForClient s h)
  received-valid (Inquiry k j t) w h = absurd (never NotForClient s h)
  received-valid (Response k j o) w h =
      let (a, e) = taken (for_client c.head k j) (never NotForClient s) h in
      let i = its-client c.head c.row k j true (sym a) refl in
      let F = responds-fits c.head.n c.head.m c.head.id j o (response-range limit k j o w).1 (view c) (view-fits c known) in
      after (responds (enough c.head.m) c.head.n k j o (view c)) (cc) (rw i F)
  received-valid (Check k j t) w h =
      let (a, e) = taken (for_client c.head k j) (never NotForClient s) h in
      after (checked k j t (view c)) (cc) (rw checked-state (saw-fits c.head.n c.head.m c.head.id t (view c) (view-fits c known)))

  pub message_valid_up_to : (m : Message) → message_outcome_up_to limit c m ≡ stepped s → valid_up_to limit (client_after c (stepped s)) ≡ true
  unfolding message_outcome_up_to
  message_valid_up_to m h =
      let (a, h₁) = passed (not (valid_up_to limit c)) (never InvalidRecord s) h in
      let (b, h₂) = passed (not (format.valid_up_to limit m)) (never NumberOutOfRange s) h₁ in
      received-valid m (not-false (format.valid_up_to limit m) b) h₂

module _ (c : Client) (s : Step State) (v : valid c ≡ true) where
  ranges : InRange c.head.n c.head.m c.head.id
  ranges = known_ranges c (valid-known c v)

  pub begin_valid : begin_outcome c ≡ stepped s → valid (client_after c (stepped s)) ≡ true
  unfolding begin_outcome
  begin_valid h =
      let (a, h₁) = passed (not (valid c)) (never InvalidRecord s) h in
      let (b, h₂) = taken (is_remainder (view c).section) (never WrongSection s) h₁ in
      let (d, h₃) = taken (may_try (view c)) (never TimestampsSpent s) h₂ in
      after max_servers c s v (tries c.head.n c.head.id (view c)) (cc)
      (tries-fits c.head.n c.head.m c.head.id (view c) ranges (leb-true (latest (view c)).0 last_try d))

  pub exit_valid : exit_outcome c ≡ stepped s → valid (client_after c (stepped s)) ≡ true
  unfolding exit_outcome
  exit_valid h =
      let (a, h₁) = passed (not (valid c)) (never InvalidRecord s) h in
      let (b, h₂) = taken (is_critical (view c).section) (never WrongSection s) h₁ in
      after max_servers c s v (exits c.head.n c.head.id (view c)) (cc) (exits-fits c.head.n c.head.m c.head.id (view c) ranges)

  pub message-valid : (m : Message) → message_outcome_up_to max_servers c m ≡ stepped s → valid (client_after c (stepped s)) ≡ true
  message-valid m h = message_valid_up_to max_servers c s v m h

-- a new client's record is valid
pub new_valid : (n m : ℕ) (k : ClientId) → valid_sizes n m ≡ true → valid_client k ≡ true → valid (store n m k (fresh n)) ≡ true
new_valid n m k z h =
    let (a, b, d, e) = sizes_range n m z in
    store-valid max_places n m k (fresh n) (remainder_fits n m k (record { some = a; few = b; threshold = d; reached = e; client = h }) (record { 0 = 0 }) (record { 0 = 0 })) b
