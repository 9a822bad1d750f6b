-- What a player from before L3 answers is today's answer, but for messages of a server that it does not know, which it refuses with 5: on all
-- bytes, every message and every record that it can have. Only the test of a message's numbers reads the limit, and it is the last one; and a client's
-- lines pass on what it has seen without a look at it.
use Rattle.ids.specs.declared.Request.{Request as Pair}
use Prim.Native.Nat.{ℕ, ◌<◌, ◌≤◌}
use native.Mathlib.Omega.{arith}
use mathlib.Core.Path.{◌≡◌, refl, sym, ap, ◌∙◌}
use mathlib.Core.Bool.{Bool, true, false, not, ◌&&◌, and-false}
use mathlib.Core.List.{List, ◌++◌, map}
use mathlib.Core.Logic.{⊎_elim}
use lib.Dec.{leb, ltb, eqb}
use lib.ListN.{length}
use lib.Seq.{sets}
use borrow.Author.Tests.{le-leb, lt-leb}
use Rattle.std.specs.Prelude.{Result, if◌then◌else◌, Ok, Err, Option}
use Rattle.ids.specs.Limits.{max_servers, earlier_servers, within, valid_client, valid_timestamp, valid_parties_up_to, valid_stamped_up_to}
use Rattle.ids.specs.declared.ClientId.{ClientId}
use Rattle.ids.specs.declared.ServerId.{ServerId}
use Rattle.ids.specs.declared.Timestamp.{Timestamp}
use Rattle.ids.specs.declared.Refusal.{Refusal}
use Rattle.ids.specs.declared.Refusal.TheVariants.{HeaderShort, KindUnknown, LengthWrong, MessageCut, NumberOutOfRange, RoomShort, InvalidRecord}
use Rattle.ids.proofs.Choice.{decided, and_true}
use Rattle.wire.specs.Format.{valid_up_to, valid_response_up_to, valid_named, valid, fields_of, bytes_of, server_named, message_of, fields_in, kind_in, length_in, length_of, known, size_of}
use Rattle.wire.specs.Calls.{read_up_to, read_of, write_up_to, write_of, buffer_after_up_to, buffer_after}
use Rattle.wire.specs.Step.{Outcome, refused, stepped}
use Rattle.wire.specs.declared.Message.{Message}
use Rattle.wire.specs.declared.Message.TheVariants.{Request, Yield, Release, Inquiry, Response, Check}
use Rattle.wire.proofs.RoundTrip.{written_is_read}
use Rattle.server.specs.Record as server
use Rattle.server.specs.Calls as server_calls
use Rattle.server.specs.declared.Server.{Server}
use Rattle.client.specs.Record as client
use Rattle.client.specs.Calls as client_calls
use Rattle.client.specs.declared.Client.{Client}
use Rattle.client_responses.specs.Figure1 as responses
use Rattle.saved.specs.Players.{earlier_read, earlier_write, earlier_buffer, earlier_server_takes, blind, blind_step, leaving_blind, earlier_received, clockless_takes, earlier_client_takes, earlier_knows, read_known, write_known, take_known}
use Rattle.saved.proofs.Limits.{within-below, server-below, client-below}

-- a number up to the earlier limit
below : (x : ℕ) → within x earlier_servers ≡ within x max_servers && leb x earlier_servers
below x = within-below earlier_servers max_servers (omega arith) x

-- three tests of which the second asks more: it may as well be asked last
last-asked : (a b c d : Bool) → (a && (b && d)) && c ≡ ((a && b) && c) && d
last-asked true true c true = sym (and_true c)
last-asked true true c false = sym (and-false c)
last-asked true false c d = refl
last-asked false b c d = refl

module _ (k : ClientId) (j : ServerId) where
  stamped : (t : Timestamp) → valid_stamped_up_to earlier_servers k j t ≡ valid_stamped_up_to max_servers k j t && leb j.0 earlier_servers
  unfolding valid_stamped_up_to valid_parties_up_to
  stamped t = rw (below j.0) (last-asked (valid_client k) (within j.0 max_servers) (valid_timestamp t) (leb j.0 earlier_servers))

  answered : (o : Option Pair) → valid_response_up_to earlier_servers k j o ≡ valid_response_up_to max_servers k j o && leb j.0 earlier_servers
  unfolding valid_response_up_to valid_parties_up_to
  answered o = rw (below j.0) (last-asked (valid_client k) (within j.0 max_servers) (valid_named o) (leb j.0 earlier_servers))

-- a message is in an old player's range if it is in today's and names a server that it knows
pub valid-known : (m : Message) → valid_up_to earlier_servers m ≡ valid m && earlier_knows m
unfolding valid_up_to fields_of
valid-known (Request k j t) = stamped k j t
valid-known (Yield k j t) = stamped k j t
valid-known (Release k j t) = stamped k j t
valid-known (Inquiry k j t) = stamped k j t
valid-known (Response k j o) = answered k j o
valid-known (Check k j t) = stamped k j t

-- READING: today's answer on all bytes, but for a message that is accepted today and names an unknown server, which is 5
pub read_known_lem : (s : List ℕ) → earlier_read s ≡ read_known (read_of s)
unfolding read_up_to
read_known_lem s =
    let m : Message = message_of (fields_in s) in
    rw (valid-known m)
    (by_tests m (length_of (kind_in s)) (ltb (length s) 4) (not (known (kind_in s))) (not (eqb (length_in s) (length_of (kind_in s))))
    (ltb (length s) (length_of (kind_in s))) (valid m))
  where
    by_last : (m : Message) (n : ℕ) (k : Bool) → ◌≡◌ {A = Result (Message × ℕ) Refusal} (if not k then Err NumberOutOfRange else Ok (m, n)) (if k then Ok (m, n) else Err NumberOutOfRange)
    by_last m n true = refl
    by_last m n false = refl

    by_tests : (m : Message) (n : ℕ) (a b c d v : Bool)
        → (if a then Err HeaderShort else if b then Err KindUnknown else if c then Err LengthWrong else if d then Err MessageCut
        else if not (v && earlier_knows m) then Err NumberOutOfRange else Ok (m, n))
        ≡ read_known
        (if a then Err HeaderShort else if b then Err KindUnknown else if c then Err LengthWrong else if d then Err MessageCut
        else if not v then Err NumberOutOfRange else Ok (m, n))
    by_tests m n true b c d v = refl
    by_tests m n false true c d v = refl
    by_tests m n false false true d v = refl
    by_tests m n false false false true v = refl
    by_tests m n false false false false false = refl
    by_tests m n false false false false true = by_last m n (earlier_knows m)

-- so every message of an unknown server is refused with 5, whatever stands behind it
pub unknown_refused : (m : Message) (rest : List ℕ) → valid m ≡ true → earlier_servers < (server_named m).0
    → earlier_read (bytes_of m ++ rest) ≡ Err NumberOutOfRange
unknown_refused m rest v h = read_known_lem (bytes_of m ++ rest) ∙ rw (written_is_read m rest v, lt-leb (server_named m).0 earlier_servers h)

-- and what is accepted of today's messages is accepted as the same
pub known-accepted : (m : Message) (rest : List ℕ) → valid m ≡ true → (server_named m).0 ≤ earlier_servers
    → earlier_read (bytes_of m ++ rest) ≡ Ok (m, size_of m)
known-accepted m rest v h = read_known_lem (bytes_of m ++ rest) ∙ rw (written_is_read m rest v, le-leb (server_named m).0 earlier_servers h)

-- WRITING: the answer and the buffer
pub write_known_lem : (m : Message) (room : ℕ) → earlier_write m room ≡ write_known m (write_of m room)
unfolding write_up_to
write_known_lem m room = rw (valid-known m) (by_tests (valid m) (earlier_knows m))
  where
    by_tests : (v k : Bool) → (if not (v && k) then Err NumberOutOfRange else if ltb room (size_of m) then Err RoomShort else Ok (size_of m))
        ≡ (if k then (if not v then Err NumberOutOfRange else if ltb room (size_of m) then Err RoomShort else Ok (size_of m)) else Err NumberOutOfRange)
    by_tests true true = refl
    by_tests true false = refl
    by_tests false true = refl
    by_tests false false = refl

pub buffer_known : (m : Message) (buffer : List ℕ) → earlier_buffer m buffer ≡ (if earlier_knows m then buffer_after m buffer else buffer)
unfolding buffer_after_up_to
buffer_known m buffer = rw (valid-known m) (by_tests (valid m) (earlier_knows m) (leb (size_of m) (length buffer)))
  where
    by_tests : (v k r : Bool) → (if (v && k) && r then sets buffer 0 (bytes_of m) else buffer)
        ≡ (if k then (if v && r then sets buffer 0 (bytes_of m) else buffer) else buffer)
    by_tests true true r = refl
    by_tests true false r = refl
    by_tests false true r = refl
    by_tests false false r = refl

-- THE STEPS of a record that an old player can have: 21 for one that it cannot
module _ {A : Type 0} where
  by_number : (v k : Bool) (o : Outcome A) → (if not (v && k) then refused NumberOutOfRange else o)
      ≡ (if k then (if not v then refused NumberOutOfRange else o) else refused NumberOutOfRange)
  by_number true true o = refl
  by_number true false o = refl
  by_number false true o = refl
  by_number false false o = refl

pub server-known : (s : Server) (m : Message) → server.valid_up_to earlier_servers s ≡ true
    → earlier_server_takes s m ≡ take_known m (server_calls.message_outcome s m)
unfolding server_calls.message_outcome_up_to
server-known s m v = rw (v, server-below earlier_servers max_servers (omega arith) s v, valid-known m) (by_number (valid m) (earlier_knows m) (server_calls.received s m))

-- What a client has seen changes no other part of a step: Figure 1's lines pass it on.
module _ (n : ℕ) (k : ClientId) (s : responses.State) where
  decide-blind : (a b : Bool) (l : List (Option Pair)) → blind_step (responses.decide a b n k s l) ≡ responses.decide a b n k (blind s) l
  decide-blind true true l = refl
  decide-blind true false l = refl
  decide-blind false b l = refl

  judge-blind : (wins : responses.Quorum) (l : List (Option Pair)) → blind_step (responses.judge wins n k s l) ≡ responses.judge wins n k (blind s) l
  unfolding responses.judge
  judge-blind wins l =
      decide-blind (wins (map responses.filled l)) (wins (responses.own (responses.request k s) l)) l

  response-blind : (wins : responses.Quorum) (j : ServerId) (o : Option Pair)
      → blind_step (responses.upon_response wins n k j o s) ≡ responses.upon_response wins n k j o (blind s)
  unfolding responses.upon_response
  response-blind wins j o =
      ⊎_elim
      (λ (e : responses.is_trying s.section ≡ true).
      rw e (judge-blind wins (responses.heard (responses.request k s) s.responses j o)))
      (λ (e : responses.is_trying s.section ≡ false). rw e)
      (decided (responses.is_trying s.section))

check-blind : (k : ClientId) (j : ServerId) (t : Timestamp) (s : responses.State)
    → blind_step (responses.upon_check k j t s) ≡ responses.upon_check k j t (blind s)
unfolding responses.upon_check
check-blind k j t s =
    ⊎_elim
    (λ (e : eqb t.0 s.timestamp.0 ≡ true). rw e)
    (λ (e : eqb t.0 s.timestamp.0 ≡ false). rw e)
    (decided (eqb t.0 s.timestamp.0))

-- so a client without a clock leaves what one with a clock does, but for what that one has seen
received-blind : (c : Client) (m : Message) → earlier_received c m ≡ leaving_blind (client_calls.received c m)
unfolding earlier_received
received-blind c (Request k j t) = refl
received-blind c (Yield k j t) = refl
received-blind c (Release k j t) = refl
received-blind c (Inquiry k j t) = refl
received-blind c (Response k j o) =
    ⊎_elim
    (λ (e : client_calls.for_client c.head k j ≡ true).
    rw e (ap stepped (sym (response-blind c.head.n k (responses.saw (responses.told o) (client.view c)) (responses.enough c.head.m) j o))))
    (λ (e : client_calls.for_client c.head k j ≡ false). rw e)
    (decided (client_calls.for_client c.head k j))
received-blind c (Check k j t) =
    ⊎_elim
    (λ (e : client_calls.for_client c.head k j ≡ true). rw e (ap stepped (sym (check-blind k j t (responses.saw t (client.view c))))))
    (λ (e : client_calls.for_client c.head k j ≡ false). rw e)
    (decided (client_calls.for_client c.head k j))

pub client-known : (c : Client) (m : Message) → client.valid_up_to earlier_servers c ≡ true
    → earlier_client_takes c m ≡ take_known m (leaving_blind (client_calls.message_outcome c m))
unfolding client_calls.message_outcome_up_to clockless_takes
client-known c m v =
    rw (v, client-below earlier_servers max_servers (omega arith) c v, valid-known m, received-blind c m)
    (by_sight (valid m) (earlier_knows m) (client_calls.received c m))
  where
    by_sight : (v k : Bool) (o : Outcome responses.State) → (if not (v && k) then refused NumberOutOfRange else leaving_blind o)
        ≡ (if k then leaving_blind (if not v then refused NumberOutOfRange else o) else refused NumberOutOfRange)
    by_sight true true o = refl
    by_sight true false o = refl
    by_sight false true o = refl
    by_sight false false o = refl

-- and one from between L3 and L4, which knows all servers, leaves it on every message
pub clockless_known : (c : Client) (m : Message) → clockless_takes max_servers c m ≡ leaving_blind (client_calls.message_outcome c m)
unfolding client_calls.message_outcome_up_to clockless_takes
clockless_known c m = rw (received-blind c m) (by_tests (client.valid c) (valid m) (client_calls.received c m))
  where
    by_tests : (a b : Bool) (o : Outcome responses.State) → (if not a then refused InvalidRecord else if not b then refused NumberOutOfRange else leaving_blind o)
        ≡ leaving_blind (if not a then refused InvalidRecord else if not b then refused NumberOutOfRange else o)
    by_tests true true o = refl
    by_tests true false o = refl
    by_tests false b o = refl

pub server_broken : (s : Server) (m : Message) → server.valid_up_to earlier_servers s ≡ false → earlier_server_takes s m ≡ refused InvalidRecord
unfolding server_calls.message_outcome_up_to
server_broken s m v = rw v

pub client_broken : (c : Client) (m : Message) → client.valid_up_to earlier_servers c ≡ false → earlier_client_takes c m ≡ refused InvalidRecord
unfolding clockless_takes
client_broken c m v = rw v
