-- A message and its numbers: a valid message's numbers fit the format and make it again, and numbers that pass the range test are a valid message's.
use Rattle.ids.specs.declared.Request.{Request as Pair}
use Rattle.std.specs.Prelude.{Some, None, Option}
use Prim.Native.Nat.{ℕ, zero, suc, ◌<◌, ◌≤◌}
use native.Mathlib.Omega.{arith}
use mathlib.Core.Path.{◌≡◌, refl, ap}
use mathlib.Core.Bool.{Bool, true, false, not, ◌&&◌}
use mathlib.Core.List.{List}
use lib.Dec.{leb, eqb}
use borrow.Author.Tests.{le-leb, ne_eqb, eqb-true, eqb-false}
use Rattle.ids.specs.Limits.{max_client, max_servers, valid_request, valid_timestamp, valid_owner, valid_parties, valid_parties_up_to, valid_stamped, valid_stamped_up_to, max_timestamp}
use Rattle.ids.specs.declared.ClientId.{ClientId}
use Rattle.ids.specs.declared.ServerId.{ServerId}
use Rattle.ids.specs.declared.Timestamp.{Timestamp}
use Rattle.ids.proofs.Choice.{both, and_true}
use Rattle.ids.proofs.LimitsLaws.{within-range, client-range, server-range, timestamp-range, request-range, parties_range, stamped_range}
use Rattle.wire.specs.Bytes.{decode}
use Rattle.wire.specs.Format.{valid_rest, valid_named, valid_numbers_up_to, valid_fields_up_to, client_named, server_named, known, plain, answer, owner_client, owner_timestamp, fields_of, message_of, owner_of, valid, valid_up_to, valid_response_up_to, kind_in, field_in, fields_in}
use Rattle.wire.specs.Inner.{valid_response}
use Rattle.wire.specs.declared.Fields.{Fields}
use Rattle.wire.specs.declared.Message.{Message}
use Rattle.wire.specs.declared.Message.TheVariants.{Request, Yield, Release, Inquiry, Response, Check}

-- the numbers of a message that can be written: each fits its width, the kind is known, and only a RESPONSE has an owner
pub record Sound (f : Fields) : Type 0 where
  pub kind : known f.kind ≡ true
  pub client : f.client < 65536
  pub server : f.server < 65536
  pub timestamp : f.timestamp < 4294967296
  pub owner : f.owner < 65536
  pub alone : (f.kind ≡ 5 → ⊥) → f.owner ≡ 0

-- a valid message names a client and a server in their ranges, whatever its kind
pub valid-head : (limit : ℕ) (m : Message) → valid_up_to limit m ≡ true → valid_parties_up_to limit (client_named m) (server_named m) ≡ true
unfolding valid_up_to fields_of valid_response_up_to
valid-head limit (Request k j t) v = (stamped_range limit k j t v).0
valid-head limit (Yield k j t) v = (stamped_range limit k j t v).0
valid-head limit (Release k j t) v = (stamped_range limit k j t v).0
valid-head limit (Inquiry k j t) v = (stamped_range limit k j t v).0
valid-head limit (Response k j o) v = (both (valid_parties_up_to limit k j) (valid_named o) v).0
valid-head limit (Check k j t) v = (stamped_range limit k j t v).0

parties : (k : ClientId) (j : ServerId) → valid_parties k j ≡ true → (k.0 ≤ max_client) × (j.0 ≤ max_servers)
parties k j v =
    let (a, b) = parties_range max_servers k j v in
    ((client-range k a).1, (server-range j b).1)

plain_sound : (kind : ℕ) (k : ClientId) (j : ServerId) (t : Timestamp) → known kind ≡ true → valid_stamped k j t ≡ true → Sound (plain kind k j t)
plain_sound kind k j t e v =
    let (a, b) = stamped_range max_servers k j t v in
    let (kk, jj) = parties k j a in
    let tt' = timestamp-range t b in
    record { kind = e; client = omega arith; server = omega arith; timestamp = omega arith; owner = omega arith; alone = λ n. refl }

owner_sound : (o : Option Pair) → valid_owner o ≡ true → (owner_client o ≤ max_client) × (owner_timestamp o ≤ max_timestamp)
unfolding valid_owner
owner_sound None v = (omega arith, omega arith)
owner_sound (Some q) v =
    let (a, b) = request-range q v in
    ((client-range q.client a).1, (timestamp-range q.timestamp b).1)

response_sound : (k : ClientId) (j : ServerId) (o : Option Pair) → valid_response k j o ≡ true → Sound (answer k j o)
unfolding valid_response_up_to
response_sound k j o v =
    let (a, b) = both (valid_parties k j) (valid_named o) v in
    let (kk, jj) = parties k j a in
    let (oo, tt') = owner_sound o b in
    record { kind = refl; client = omega arith; server = omega arith; timestamp = omega arith; owner = omega arith; alone = λ n. absurd (n refl) }

pub valid_sound : (m : Message) → valid m ≡ true → Sound (fields_of m)
unfolding valid_up_to fields_of
valid_sound (Request k j t) v = plain_sound 1 k j t refl v
valid_sound (Yield k j t) v = plain_sound 2 k j t refl v
valid_sound (Release k j t) v = plain_sound 3 k j t refl v
valid_sound (Inquiry k j t) v = plain_sound 4 k j t refl v
valid_sound (Response k j o) v = response_sound k j o v
valid_sound (Check k j t) v = plain_sound 6 k j t refl v

-- the numbers of a valid message make the message again
pub owner-again : (o : Option Pair) → valid_owner o ≡ true → owner_of (record { 0 = owner_client o }) (record { 0 = owner_timestamp o }) ≡ o
unfolding valid_owner
owner-again None v = refl
owner-again (Some q) v =
    let c = client-range q.client (request-range q v).0 in
    let n : q.client.0 ≡ 0 → ⊥ = omega arith in
    simp (ne_eqb _ _ n)

pub message_fields : (limit : ℕ) (m : Message) → valid_up_to limit m ≡ true → message_of (fields_of m) ≡ m
unfolding valid_up_to fields_of message_of valid_response_up_to
message_fields limit (Request k j t) v = refl
message_fields limit (Yield k j t) v = refl
message_fields limit (Release k j t) v = refl
message_fields limit (Inquiry k j t) v = refl
message_fields limit (Response k j o) v = ap (Response k j) (owner-again o (both (valid_parties_up_to limit k j) (valid_named o) v).1)
message_fields limit (Check k j t) v = refl

-- an owner made of two numbers has these numbers
pub owner-numbers : (o t : ℕ) (b : Bool) → eqb o 0 && eqb t 0 ≡ b
    → (owner_client (owner_of (record { 0 = o }) (record { 0 = t })) ≡ o) × (owner_timestamp (owner_of (record { 0 = o }) (record { 0 = t })) ≡ t)
owner-numbers o t true e =
    let (a, b) = both (eqb o 0) (eqb t 0) e in
    let o0 : o ≡ 0 = eqb-true _ _ a in
    let t0 : t ≡ 0 = eqb-true _ _ b in
    (rw (o0, t0), rw (o0, t0))
owner-numbers o t false e = (rw e, rw e)

-- what holds of each of the six kinds holds of a known one
kinds : (P : ℕ → Type 0) → P 1 → P 2 → P 3 → P 4 → P 5 → P 6 → (kind : ℕ) → known kind ≡ true → P kind
kinds P a b c d e f zero k = absurd (omega (arith, within-range 0 6 k))
kinds P a b c d e f (suc zero) k = a
kinds P a b c d e f (suc (suc zero)) k = b
kinds P a b c d e f (suc (suc (suc zero))) k = c
kinds P a b c d e f (suc (suc (suc (suc zero)))) k = d
kinds P a b c d e f (suc (suc (suc (suc (suc zero))))) k = e
kinds P a b c d e f (suc (suc (suc (suc (suc (suc zero)))))) k = f
kinds P a b c d e f (suc (suc (suc (suc (suc (suc (suc n))))))) k = absurd (omega (arith, within-range (suc (suc (suc (suc (suc (suc (suc n))))))) 6 k))

-- an owner only in a RESPONSE
abbrev pub Alone : Fields → Type 0
Alone f = (f.kind ≡ 5 → ⊥) → f.owner ≡ 0

module _ (f : Fields) where
  abbrev of_kind : ℕ → Fields
  of_kind kind = record { kind = kind; client = f.client; server = f.server; timestamp = f.timestamp; owner = f.owner }

  pub fields_message : known f.kind ≡ true → Alone f → fields_of (message_of f) ≡ f
  unfolding fields_of message_of
  fields_message =
      kinds (λ kind. Alone (of_kind kind) → fields_of (message_of (of_kind kind)) ≡ of_kind kind)
      (λ a. rw (a (λ n. omega arith))) (λ a. rw (a (λ n. omega arith))) (λ a. rw (a (λ n. omega arith))) (λ a. rw (a (λ n. omega arith)))
      (λ a. let (p, q) = owner-numbers f.owner f.timestamp _ refl in rw (p, q)) (λ a. rw (a (λ n. omega arith))) f.kind

  -- such numbers are in range exactly if their message is
  pub valid-message : (limit : ℕ) → known f.kind ≡ true → Alone f → valid_numbers_up_to limit f ≡ valid_up_to limit (message_of f)
  unfolding valid_numbers_up_to valid_rest valid_up_to valid_stamped_up_to valid_response_up_to message_of
  valid-message limit =
      kinds (λ kind. Alone (of_kind kind) → valid_numbers_up_to limit (of_kind kind) ≡ valid_up_to limit (message_of (of_kind kind)))
      (λ a. rw (a (λ n. omega arith), and_true)) (λ a. rw (a (λ n. omega arith), and_true)) (λ a. rw (a (λ n. omega arith), and_true))
      (λ a. rw (a (λ n. omega arith), and_true))
      (λ a. refl) (λ a. rw (a (λ n. omega arith), and_true)) f.kind

pub kind_of : (s : List ℕ) → (fields_in s).kind ≡ kind_in s
unfolding fields_in
kind_of s = refl

-- only a RESPONSE's numbers have an owner
pub alone_in : (s : List ℕ) → (kind_in s ≡ 5 → ⊥) → field_in s 5 ≡ 0
unfolding field_in decode
alone_in s n = simp (ne_eqb _ _ n)

pub fields_of-message : (s : List ℕ) → known (kind_in s) ≡ true → fields_of (message_of (fields_in s)) ≡ fields_in s
unfolding fields_in
fields_of-message s k = fields_message (fields_in s) k (alone_in s)

-- an owner's two numbers are in range if both are 0 or neither is
pub owner_zero : (owner timestamp : ℕ) → owner ≡ 0 → eqb timestamp 0 ≡ valid_owner (owner_of (record { 0 = owner }) (record { 0 = timestamp }))
unfolding valid_owner valid_request
owner_zero owner timestamp e = rw e (go (eqb timestamp 0) refl)
  where
    go : (b : Bool) → eqb timestamp 0 ≡ b → eqb timestamp 0 ≡ valid_owner (owner_of (record { 0 = 0 }) (record { 0 = timestamp }))
    go true p = rw p
    go false p = rw p

pub owner_some : (owner timestamp : ℕ) → owner ≤ max_client → timestamp ≤ max_timestamp → (owner ≡ 0 → ⊥)
    → not (eqb timestamp 0) ≡ valid_owner (owner_of (record { 0 = owner }) (record { 0 = timestamp }))
unfolding valid_owner valid_request
owner_some owner timestamp a b n =
    let one : 1 ≤ owner = omega arith in
    rw (ne_eqb owner 0 n, le-leb _ _ one, le-leb _ _ a) (go (eqb timestamp 0) refl)
  where
    go : (c : Bool) → eqb timestamp 0 ≡ c → not (eqb timestamp 0) ≡ (leb 1 timestamp && leb timestamp max_timestamp)
    go true p = let z : timestamp ≡ 0 = eqb-true _ _ p in rw z
    go false p = let n : timestamp ≡ 0 → ⊥ = eqb-false _ _ p in let o : 1 ≤ timestamp = omega arith in rw (p, le-leb _ _ o, le-leb _ _ b)

-- the rest of a message's numbers, by the test on its kind
module _ (kind timestamp owner : ℕ) where
  pub rest-response : (r : Bool) → kind ≡ 5 → r ≡ valid_owner (owner_of (record { 0 = owner }) (record { 0 = timestamp })) → r ≡ valid_rest kind timestamp owner
  unfolding valid_rest
  rest-response r e p = rw e p

  pub rest_plain : (r : Bool) → (kind ≡ 5 → ⊥) → r ≡ valid_timestamp (record { 0 = timestamp }) && eqb owner 0 → r ≡ valid_rest kind timestamp owner
  unfolding valid_rest
  rest_plain r n p = rw (ne_eqb kind 5 n) p

-- numbers in range are a valid message's: only a RESPONSE has an owner, and the message has just these numbers
module _ (limit : ℕ) (f : Fields) (v : valid_fields_up_to limit f ≡ true) where
  its_tests : (known f.kind ≡ true) × (valid_numbers_up_to limit f ≡ true)
  unfolding valid_fields_up_to
  its_tests = both (known f.kind) (valid_numbers_up_to limit f) v

  its-rest : valid_rest f.kind f.timestamp f.owner ≡ true
  unfolding valid_numbers_up_to
  its-rest = (both (valid_parties_up_to limit (record { 0 = f.client }) (record { 0 = f.server }))
      (valid_rest f.kind f.timestamp f.owner) its_tests.1).1

  its-owner : Alone f
  unfolding valid_rest
  its-owner n = eqb-true f.owner 0 (both (valid_timestamp (record { 0 = f.timestamp })) (eqb f.owner 0) (rw (ne_eqb f.kind 5 n) at its-rest)).1

  pub fields_again : fields_of (message_of f) ≡ f
  fields_again = fields_message f its_tests.0 its-owner

  pub fields_valid : valid_up_to limit (message_of f) ≡ true
  fields_valid = rw (valid-message f limit its_tests.0 its-owner) at its_tests.1
