-- What a call answers at each of its returns: a refusal, no room, or the step's head, row and messages.
use Prim.Native.Nat.{ℕ, ◌+◌, ◌*◌, ◌-◌, ◌≤◌, ◌<◌}
use native.Mathlib.Omega.{arith}
use mathlib.Core.Path.{◌≡◌, refl, ◌∙◌, ap, sym}
use mathlib.Core.Bool.{Bool, true, false, true≢false, ◌&&◌}
use mathlib.Core.List.{List, [], ◌∷◌, map}
use lib.Dec.{eqb, leb}
use lib.ListN.{length, replicate}
use lib.Seq.{sets}
use borrow.Author.Tests.{lt-ltb, le-ltb, le-leb, lt-leb, eqb-true, leb-true}
use Rattle.std.specs.Prelude.{if◌then◌else◌, Ok, Option}
use Rattle.ids.specs.Limits.{max_timestamp, valid_client, valid_owner, valid_parties_up_to}
use Rattle.ids.specs.declared.ClientId.{ClientId}
use Rattle.ids.specs.declared.ServerId.{ServerId}
use Rattle.ids.specs.declared.Timestamp.{Timestamp}
use Rattle.ids.specs.declared.Request.{Request}
use Rattle.ids.specs.declared.Refusal.{Refusal}
use Rattle.ids.specs.declared.Refusal.TheVariants.{WrongSection, TimestampsSpent, RoomShort, NotForClient, NumberOutOfRange, InvalidRecord}
use Rattle.ids.proofs.Choice.{both, fails, holds, of_choice}
use Rattle.ids.proofs.LimitsLaws.{within-range, parties_range}
use Rattle.wire.specs.Format as format
use Rattle.wire.specs.Format.{size_of, bytes_of, bytes_of_all, size_of_all, fields_of, valid_named, valid_response_up_to, message_bytes}
use Rattle.wire.proofs.NumbersLaws.{valid-head}
use Rattle.wire.specs.Step.{Step, Outcome, refused, stepped, stay, tell, with_room}
use Rattle.wire.specs.Says.{answer_says, outcome_says, new_says}
use Rattle.wire.proofs.SaysLaws.{answer-said}
use Rattle.wire.specs.declared.Message.{Message}
use Rattle.wire.specs.declared.Message.TheVariants.{Release, Response, Check}
use Rattle.wire.proofs.Sequence.{size_of_all-one, bytes_of_all-one}
use Rattle.rows.specs.Rows.{row_of, Padded, Put}
use Rattle.client_responses.specs.declared.Section.{Section}
use Rattle.client_responses.specs.declared.Section.TheVariants.{Remainder, Trying, Critical}
use Rattle.client_responses.specs.Figure1.{State, fresh, next, later, filled, count, own, enough, is_remainder, is_trying, is_critical, last_try, to_all, tries, exits, round, decide, judge, told, upon_response, upon_check, responds, checked}
use Rattle.client_responses.specs.Row.{place, responses_in, place_of, heard_row}
use Rattle.client_responses.proofs.CountLaws.{length-responses}
use Rattle.client_responses.proofs.SendLaws.{request-plain, release_plain, length-to_all, size-to_all}
use Rattle.client_responses.proofs.RoundLaws.{size-round, length-round}
use Rattle.client_responses.proofs.HearLaws.{heard_row-size, heard_row-padded, heard_row-shown, heard_row_undone}
use Rattle.client.specs.declared.Client.{Client}
use Rattle.client.specs.declared.Head.{Head}
use Rattle.client.specs.declared.Stepped.{Stepped}
use Rattle.client.specs.declared.Turned.{Turned}
use Rattle.client.specs.Record.{max_places, row_words, client_of, head_in, valid_sizes, valid_up_to, valid, view, store}
use Rattle.client.specs.Calls.{new_result, NewGives, begin_outcome, exit_outcome, message_outcome, message_outcome_up_to, for_client, received, row_after, turned, Gives}
use Rattle.client.specs.Steps.{Answers}
use Rattle.client.specs.Inner.{request, head_with, saw_in, without, requests, releases, refused_new, yields, is_refused, settled}
use Rattle.client.proofs.ValidLaws.{valid-known, valid-padded, padded-words, critical_below, sizes_range}
use Rattle.client.proofs.RecordLaws.{row-without, row-again, fresh-stored}

-- what the answer says
said : (h : Head) (r : Turned) (x : Outcome State) → r ≡ turned h x → answer_says r.answer ≡ outcome_says x
said h r x e = answer-said x r.answer (ap (λ (t : Turned). t.answer) e)

module _ (h : Head) (row : List ℕ) (x : Outcome State) (o : List ℕ) (r : Turned) where
  pub answers-refused : (e : Refusal) → x ≡ refused e → r ≡ turned h (refused e) → Answers h row x o r row o
  unfolding with_room
  answers-refused e q p = rw q (p, refl, refl, said h r (refused e) p)

  module _ (s : Step State) (q : x ≡ stepped s) where
    pub answers-short : length o < size_of_all s.sent → r ≡ turned h (refused RoomShort) → Answers h row x o r row o
    unfolding with_room
    answers-short g p = rw (q, lt-ltb _ _ g) (p, refl, refl, said h r (refused RoomShort) p)

    pub answers-done : (after l : List ℕ) → size_of_all s.sent ≤ length o → r ≡ turned h (stepped s) → after ≡ row_after row (stepped s)
        → l ≡ sets o 0 (bytes_of_all s.sent) → Answers h row x o r after l
    unfolding with_room
    answers-done after l g p a e = rw (q, le-ltb _ _ g) (p, a, e, said h r (stepped s) p)

-- the same by value
module _ (c : Client) (x : Outcome State) (o : List ℕ) (t : Turned) (after l : List ℕ) (A : Answers c.head c.row x o t after l) where
  pub by_value : (r : Stepped) → r ≡ record { client = client_of t.head after; answer = t.answer }
      → Gives c (with_room (length o) x) o r l
  by_value r e = (rw (A.0, A.1) at e, A.2, ap (λ (s : Stepped). answer_says s.answer) e ∙ A.3)

-- a step that sends nothing needs no room
pub answers_stay : (h : Head) (row : List ℕ) (x : Outcome State) (o : List ℕ) (r : Turned) (s : State) → x ≡ stepped (stay s)
    → row_of (length row) (map place s.responses) ≡ row
    → r ≡ record { head = head_in h.n h.m h.id s; answer = Ok (record { messages = 0; bytes = 0 }) } → Answers h row x o r row o
unfolding size_of_all bytes_of_all
answers_stay h row x o r s q e p = answers-done h row x o r (stay s) q row o (omega arith) p (sym e) refl

-- a message to each server, and the row emptied
module _ (h : Head) (row : List ℕ) (f : ServerId → Message) (plain : (j : ServerId) → size_of (f j) ≡ message_bytes) (x : Outcome State)
    (a : Section) (t : Timestamp) (o : List ℕ) (r : Turned) (q : x ≡ stepped (record { state = without h.n a t h.seen; sent = to_all f h.n }))
  where
    all_short : length o < message_bytes * h.n → r ≡ turned h (refused RoomShort) → Answers h row x o r row o
    all_short g p = answers-short h row x o r _ q (omega (arith, size-to_all f plain h.n)) p

    all_done : (after l : List ℕ) → Padded row h.n → message_bytes * h.n ≤ length o
        → r ≡ record { head = head_with h a t; answer = Ok (record { messages = h.n; bytes = message_bytes * h.n }) } → after ≡ replicate (length row) 0
        → l ≡ sets o 0 (bytes_of_all (to_all f h.n)) → Answers h row x o r after l
    all_done after l k g p z e =
        answers-done h row x o r _ q after l (omega (arith, size-to_all f plain h.n)) (rw (length-to_all f h.n, size-to_all f plain h.n) p) (z ∙
        sym (row-without (length row) h.n (padded-words row h.n k))) e

-- `begin_row`: room for one timestamp more, by the code's `last` and by the definition
module _ (a b last : Timestamp) (e : last ≡ later a b) where
  pub left_to_try : last.0 ≤ last_try → (later a b).0 ≤ last_try
  left_to_try h = rw e at h

module _ (h : Head) (row : List ℕ) (o : List ℕ) (r : Turned) where
  -- the timestamp that a try takes, and the one that an exit does
  abbrev taken : Timestamp → Timestamp
  taken last = record { 0 = last.0 + 1 }

  abbrev left : Timestamp
  left = record { 0 = h.timestamp.0 + 1 }

  abbrev tried : Outcome State
  tried = stepped (tries h.n h.id (view (client_of h row)))

  abbrev exited : Outcome State
  exited = stepped (exits h.n h.id (view (client_of h row)))

  its_try : (last : Timestamp) → last ≡ later h.timestamp h.seen
      → tried ≡ stepped (record { state = without h.n Trying (taken last) h.seen; sent = to_all (requests h.id (taken last)) h.n })
  unfolding tries view next
  its_try last e = rw e

  its_exit : exited ≡ stepped (record { state = without h.n Remainder left h.seen; sent = to_all (releases h.id h.timestamp) h.n })
  unfolding exits view next
  its_exit = refl

  module _ (g : length o < message_bytes * h.n) (p : r ≡ turned h (refused RoomShort)) where
    pub tries-short : Answers h row tried o r row o
    tries-short =
        let last = later h.timestamp h.seen in
        all_short h row (requests h.id (taken last)) (request-plain h.id (taken last)) _ _ _ o r (its_try last refl) g p

    pub exits-short : Answers h row exited o r row o
    exits-short = all_short h row (releases h.id h.timestamp) (release_plain h.id h.timestamp) _ _ _ o r its_exit g p

  module _ (after l : List ℕ) (k : Padded row h.n) (g : message_bytes * h.n ≤ length o) (z : after ≡ replicate (length row) 0) where
    pub tries-done : (last : Timestamp) → last ≡ later h.timestamp h.seen
        → r ≡ record { head = head_with h Trying (taken last); answer = Ok (record { messages = h.n; bytes = message_bytes * h.n }) }
        → l ≡ sets o 0 (bytes_of_all (to_all (requests h.id (taken last)) h.n)) → Answers h row tried o r after l
    tries-done last q p e =
        all_done h row (requests h.id (taken last)) (request-plain h.id (taken last)) _ _ _ o r (its_try last q) after l k g p z e

    pub exits-done : r ≡ record { head = head_with h Remainder left; answer = Ok (record { messages = h.n; bytes = message_bytes * h.n }) }
        → l ≡ sets o 0 (bytes_of_all (to_all (releases h.id h.timestamp) h.n)) → Answers h row exited o r after l
    exits-done p e = all_done h row (releases h.id h.timestamp) (release_plain h.id h.timestamp) _ _ _ o r its_exit after l k g p z e

-- `begin_row`, `exit_row` and `message_row`: which test decides the outcome
module _ (h : Head) (row : List ℕ) (x : Bool) (p : x ≡ valid (client_of h row)) where
  pub begin_invalid : x ≡ false → begin_outcome (client_of h row) ≡ refused InvalidRecord
  unfolding begin_outcome
  begin_invalid t = rw (fails x (valid (client_of h row)) p t)

  pub exit_invalid : x ≡ false → exit_outcome (client_of h row) ≡ refused InvalidRecord
  unfolding exit_outcome
  exit_invalid t = rw (fails x (valid (client_of h row)) p t)

  module _ (y : Bool) (t : x ≡ true) where
    module _ (q : y ≡ is_remainder h.section) where
      pub begin_elsewhere : y ≡ false → begin_outcome (client_of h row) ≡ refused WrongSection
      unfolding begin_outcome view
      begin_elsewhere u = rw (holds x (valid (client_of h row)) p t, fails y (is_remainder h.section) q u)

      module _ (last : Timestamp) (l : last ≡ later h.timestamp h.seen) (u : y ≡ true) where
        pub begin_spent : last_try < last.0 → begin_outcome (client_of h row) ≡ refused TimestampsSpent
        unfolding begin_outcome view
        begin_spent g =
            let k : last_try < (later h.timestamp h.seen).0 = rw l at g in
            rw (holds x (valid (client_of h row)) p t, holds y (is_remainder h.section) q u, lt-leb (later h.timestamp h.seen).0 last_try k)

        pub begin_tries : last.0 ≤ last_try → begin_outcome (client_of h row) ≡ stepped (tries h.n h.id (view (client_of h row)))
        unfolding begin_outcome view
        begin_tries g =
            let k : (later h.timestamp h.seen).0 ≤ last_try = rw l at g in
            rw (holds x (valid (client_of h row)) p t, holds y (is_remainder h.section) q u, le-leb (later h.timestamp h.seen).0 last_try k)

    module _ (q : y ≡ is_critical h.section) where
      pub exit_elsewhere : y ≡ false → exit_outcome (client_of h row) ≡ refused WrongSection
      unfolding exit_outcome view
      exit_elsewhere u = rw (holds x (valid (client_of h row)) p t, fails y (is_critical h.section) q u)

      pub exit_leaves : y ≡ true → exit_outcome (client_of h row) ≡ stepped (exits h.n h.id (view (client_of h row)))
      unfolding exit_outcome view
      exit_leaves u = rw (holds x (valid (client_of h row)) p t, holds y (is_critical h.section) q u)

      pub critical_timestamp : y ≡ true → h.timestamp.0 < max_timestamp
      critical_timestamp u = critical_below h.section h.timestamp (holds y (is_critical h.section) q u)
          (valid-known (client_of h row) (holds x (valid (client_of h row)) p t)).timestamp

  -- what the inner steps ask
  pub tested_padded : x ≡ true → Padded row h.n
  tested_padded t = valid-padded (client_of h row) (holds x (valid (client_of h row)) p t)

  module _ (m : Message) where
    pub message_invalid : x ≡ false → message_outcome (client_of h row) m ≡ refused InvalidRecord
    unfolding message_outcome_up_to
    message_invalid t = rw (fails x (valid (client_of h row)) p t)

    module _ (y : Bool) (t : x ≡ true) (q : y ≡ format.valid m) where
      pub message_bad : y ≡ false → message_outcome (client_of h row) m ≡ refused NumberOutOfRange
      unfolding message_outcome_up_to
      message_bad u = rw (holds x (valid (client_of h row)) p t, fails y (format.valid m) q u)

      pub message-received : y ≡ true → message_outcome (client_of h row) m ≡ received (client_of h row) m
      unfolding message_outcome_up_to
      message-received u = rw (holds x (valid (client_of h row)) p t, holds y (format.valid m) q u)

-- the round of yields
count-within : {A : Type 0} (f : A → Bool) (l : List A) → count (map f l) ≤ length l
count-within f [] = omega arith
count-within f (x ∷ l) = let e = count-within f l in omega (arith, at_most_one (f x)) where
  at_most_one : (b : Bool) → (if b then 1 else 0) ≤ 1
  at_most_one true = omega arith
  at_most_one false = omega arith

pub filled-few : (row : List ℕ) (n found : ℕ) → Padded row n → found ≡ count (map filled (responses_in row n)) → found ≤ n
filled-few row n found good f = omega (arith, count-within filled (responses_in row n), length-responses row n (padded-words row n good))

module _ (h : Head) (row : List ℕ) (found : ℕ) (o : List ℕ) (r : Turned) (f : found ≡ count (map filled (responses_in row h.n))) where
  abbrev yielded : Step State
  yielded = yields h (responses_in row h.n)

  its-size : size_of_all (round (request h) 1 (responses_in row h.n)) ≡ message_bytes * found
  its-size = rw f (size-round (request h) 1 (responses_in row h.n))

  its-length : length (round (request h) 1 (responses_in row h.n)) ≡ found
  its-length = rw f (length-round (request h) 1 (responses_in row h.n))

  pub yields-short : length o < message_bytes * found → r ≡ turned h (refused RoomShort) → Answers h row (stepped yielded) o r row o
  yields-short g p = answers-short h row (stepped yielded) o r yielded refl (omega (arith, its-size)) p

  pub yields-done : (q : Request) (after l : List ℕ) → Padded row h.n → message_bytes * found ≤ length o → q ≡ request h
      → l ≡ sets o 0 (bytes_of_all (round q 1 (responses_in row h.n))) → after ≡ replicate (length row) 0
      → r ≡ record { head = head_with h Trying h.timestamp; answer = Ok (record { messages = found; bytes = message_bytes * found }) } → Answers h row (stepped yielded) o r after l
  yields-done q after l good g e w z p =
      answers-done h row (stepped yielded) o r yielded refl after l (omega (arith, its-size)) (rw (its-length, its-size) p) (z ∙
      sym (row-without (length row) h.n (padded-words row h.n good))) (rw e at w)

-- what the verdicts decide
module _ (full mine : Bool) (h : Head) (row : List ℕ) (good : Padded row h.n) where
  abbrev decided : Step State
  decided = decide full mine h.n h.id (view (client_of h row)) (responses_in row h.n)

  pub decide-waits : (o : List ℕ) (r : Turned) → full ≡ false → r ≡ record { head = head_with h Trying h.timestamp; answer = Ok (record { messages = 0; bytes = 0 }) }
      → Answers h row (stepped decided) o r row o
  unfolding view
  decide-waits o r t p =
      let e : full ≡ false = fails full full refl t in
      answers_stay h row (stepped decided) o r
      (record { section = Trying; timestamp = h.timestamp; seen = h.seen; responses = responses_in row h.n })
      (rw e) (row-again row h.n good) p

  module _ (t : full ≡ true) where
    pub decide-enters : (o : List ℕ) (r : Turned) → mine ≡ true
        → r ≡ record { head = head_with h Critical h.timestamp; answer = Ok (record { messages = 0; bytes = 0 }) } → Answers h row (stepped decided) o r row o
    unfolding view
    decide-enters o r u p =
        let e : full ≡ true = holds full full refl t in
        answers_stay h row (stepped decided) o r
        (record { section = Critical; timestamp = h.timestamp; seen = h.seen; responses = responses_in row h.n }) (rw (e, u))
        (row-again row h.n good) p

    pub decide-yields : mine ≡ false → stepped decided ≡ stepped (yields h (responses_in row h.n))
    unfolding view
    decide-yields u = let e : full ≡ true = holds full full refl t in rw (e, u)

pub verdicts : (h : Head) (row : List ℕ) (q : Request) (found mine : ℕ) → found ≡ count (map filled (responses_in row h.n)) → q ≡ request h
    → mine ≡ count (own q (responses_in row h.n))
    → stepped (judge (enough h.m) h.n h.id (view (client_of h row)) (responses_in row h.n))
    ≡ stepped (decide (leb h.m found) (leb h.m mine) h.n h.id (view (client_of h row)) (responses_in row h.n))
unfolding judge enough view
verdicts h row q found mine f e g = rw (f, g, e)

-- `upon_response`: what is known of the row in which o was heard, and of the request that stood in its place
abbrev pub responded : Head → List ℕ → ServerId → Option Request → Outcome State
responded h row j o = stepped (upon_response (enough h.m) h.n h.id j o (view (client_of h row)))

pub record Heard (h : Head) (row : List ℕ) (j : ServerId) (o : Option Request) (old : Request) (mid : List ℕ) : Type 0 where
  pub padded : Padded mid h.n
  pub size : length mid ≡ length row
  pub judges : responded h row j o ≡ stepped (judge (enough h.m) h.n h.id (view (client_of h mid)) (responses_in mid h.n))
  pub undone : (after : List ℕ) → Put mid after (j.0 - 1) old → after ≡ row

module _ (h : Head) (row : List ℕ) (v : valid (client_of h row) ≡ true) (j : ServerId) (o : Option Request) (x : Bool) (p : x ≡ is_trying h.section) where
  good : Padded row h.n
  good = valid-padded (client_of h row) v

  -- outside the trying section nothing changes
  elsewhere : x ≡ false → responded h row j o ≡ stepped (stay (view (client_of h row)))
  unfolding upon_response view
  elsewhere t = rw (fails x (is_trying h.section) p t)

  pub respond_elsewhere : (b : List ℕ) (r : Turned) → x ≡ false
      → r ≡ record { head = head_with h h.section h.timestamp; answer = Ok (record { messages = 0; bytes = 0 }) } → Answers h row (responded h row j o) b r row b
  unfolding view
  respond_elsewhere b r t e = answers_stay h row (responded h row j o) b r (view (client_of h row)) (elsewhere t) (row-again row h.n good) e

  -- else the response is heard
  module _ (low : 1 ≤ j.0) (high : j.0 ≤ h.n) (w : valid_owner o ≡ true) (t : x ≡ true) where
    its-judgement : responded h row j o
        ≡ stepped (judge (enough h.m) h.n h.id (view (client_of h (heard_row (request h) row j o))) (responses_in (heard_row (request h) row j o) h.n))
    unfolding upon_response judge view
    its-judgement = rw (holds x (is_trying h.section) p t, heard_row-shown (request h) row j o w h.n low high)

    pub respond_heard : (q : Request) (old : Request) (mid : List ℕ) → q ≡ request h → old ≡ place_of row j → mid ≡ heard_row q row j o → Heard h row j o old mid
    respond_heard q old mid e s g =
        let m : mid ≡ heard_row (request h) row j o = rw e at g in
        record {
          padded = rw m (heard_row-padded (request h) row j o w h.n low high good);
          size = rw m (heard_row-size (request h) row j o w);
          judges = rw m its-judgement;
          undone = λ after P. heard_row_undone (request h) row j o w after old s good.places (rw m at P);
        }

-- what was done to the heard row is done to the row, unless it was refused: then the place is put back
module _ (h : Head) (row : List ℕ) (j : ServerId) (o : Option Request) (old : Request) (mid : List ℕ) (H : Heard h row j o old mid) (r : Turned) (left : List ℕ) where
  stays_by : (w : Outcome State) → r ≡ turned h w → left ≡ row_after mid w → is_refused r.answer ≡ false → left ≡ row_after row w
  stays_by (refused e) p a n = let z : true ≡ false = ap (λ (x : Turned). is_refused x.answer) (sym p) ∙ n in absurd (true≢false z)
  stays_by (stepped s) p a n = a ∙ ap (λ (k : ℕ). row_of k (map place s.state.responses)) H.size

  undone_by : (w : Outcome State) → r ≡ turned h w → left ≡ row_after mid w → is_refused r.answer ≡ true → (after : List ℕ)
      → Put left after (j.0 - 1) old → after ≡ row_after row w
  undone_by (refused e) p a n after P = H.undone after (rw a at P)
  undone_by (stepped s) p a n after P = let z : true ≡ false = sym n ∙ ap (λ (x : Turned). is_refused x.answer) p in absurd (true≢false z)

  abbrev judgement : Outcome State
  judgement = stepped (judge (enough h.m) h.n h.id (view (client_of h mid)) (responses_in mid h.n))

  module _ (b l : List ℕ) (A : Answers h mid judgement b r left l) (x : Bool) (d : x ≡ is_refused r.answer) where
    pub respond_kept : x ≡ false → Answers h row (responded h row j o) b r left l
    respond_kept f = rw H.judges (A.0, stays_by (with_room (length b) judgement) A.0 A.1 (sym d ∙ f), A.2, A.3)

    pub respond_undone : (after : List ℕ) → x ≡ true → Put left after (j.0 - 1) old → Answers h row (responded h row j o) b r after l
    respond_undone after t P = rw H.judges (A.0, undone_by (with_room (length b) judgement) A.0 A.1 (sym d ∙ t) after P, A.2, A.3)

-- `upon_check`
module _ (h : Head) (row : List ℕ) (v : valid (client_of h row) ≡ true) (j : ServerId) (t : Timestamp) (o : List ℕ) (r : Turned) where
  abbrev asked : Outcome State
  asked = stepped (upon_check h.id j t (view (client_of h row)))

  kept : row_of (length row) (map place (view (client_of h row)).responses) ≡ row
  unfolding view
  kept = row-again row h.n (valid-padded (client_of h row) v)

  pub check-same : (a : Bool) → a ≡ eqb t.0 h.timestamp.0 → a ≡ true → r ≡ record { head = head_with h h.section h.timestamp; answer = Ok (record { messages = 0; bytes = 0 }) } → Answers h row asked o r row o
  unfolding upon_check view
  check-same a m g e =
      let its : eqb t.0 h.timestamp.0 ≡ true = cc in
      answers_stay h row asked o r (view (client_of h row)) (rw its) kept e

  module _ (a : Bool) (m : a ≡ eqb t.0 h.timestamp.0) (g : a ≡ false) where
    its_release : asked ≡ stepped (tell (view (client_of h row)) (Release h.id j t))
    unfolding upon_check view
    its_release = let not_its : eqb t.0 h.timestamp.0 ≡ false = cc in rw not_its

    one_size : size_of_all (Release h.id j t ∷ []) ≡ message_bytes
    one_size = size_of_all-one (Release h.id j t) ∙ release_plain h.id t j

    pub check-short : length o < message_bytes → r ≡ turned h (refused RoomShort) → Answers h row asked o r row o
    check-short s e = answers-short h row asked o r _ its_release (omega (arith, one_size)) e

    pub check_done : (b : List ℕ) (n : ℕ) → message_bytes ≤ length o → n ≡ 0 + size_of (Release h.id j t)
        → b ≡ sets o 0 (bytes_of (Release h.id j t)) → r ≡ record { head = head_with h h.section h.timestamp; answer = Ok (record { messages = 1; bytes = n }) }
        → Answers h row asked o r row b
    unfolding view
    check_done b n s z e p =
        let k : n ≡ size_of_all (Release h.id j t ∷ []) = omega (arith, one_size, release_plain h.id t j) in
        answers-done h row asked o r _ its_release row b (omega (arith, one_size)) (rw (← k) p) (sym kept) (rw (bytes_of_all-one (Release h.id j t)) e)

-- `settle`, and with it `respond_row` and `check_row`: the step of the head with more seen, which a refused call has not
pub settled-refused : (h : Head) (r : Turned) (x : Bool) → x ≡ is_refused r.answer → x ≡ true
    → record { head = h; answer = r.answer } ≡ settled h r
settled-refused h r x p t = rw (← p, t)

pub settled-taken : (h : Head) (r : Turned) (x : Bool) → x ≡ is_refused r.answer → x ≡ false → r ≡ settled h r
settled-taken h r x p t = rw (← p, t)

module _ (t : Timestamp) (h : Head) (row : List ℕ) where
  saw-valid : valid (client_of (saw_in t h) row) ≡ valid (client_of h row)
  unfolding valid_up_to view
  saw-valid = refl

  settled_by : (w : Outcome State) → settled h (turned (saw_in t h) w) ≡ turned h w
  settled_by (refused e) = refl
  settled_by (stepped p) = refl

  settles : (x : Outcome State) (o : List ℕ) (r s : Turned) (after l : List ℕ) → Answers (saw_in t h) row x o r after l → s ≡ settled h r
      → Answers h row x o s after l
  settles x o r s after l A e =
      let p : s ≡ turned h (with_room (length o) x) = e ∙ ap (settled h) A.0 ∙ settled_by (with_room (length o) x) in
      (p, A.1, A.2, said h s (with_room (length o) x) p)

  module _ (g : Head) (p : g ≡ saw_in t h) where
    pub still-valid : valid (client_of h row) ≡ true → valid (client_of g row) ≡ true
    still-valid v = rw (p, saw-valid) v

    pub still_served : (j : ServerId) → j.0 ≤ h.n → j.0 ≤ g.n
    still_served j a = rw p a

module _ (t : Timestamp) (h : Head) (row : List ℕ) (g : Head) (p : g ≡ saw_in t h) (o : List ℕ) (r s : Turned) (after l : List ℕ) (e : s ≡ settled h r)
    (j : ServerId)
  where
    pub responded_to : (q : Option Request) → t ≡ told q
        → Answers g row (stepped (upon_response (enough g.m) g.n g.id j q (view (client_of g row)))) o r after l
        → Answers h row (stepped (responds (enough h.m) h.n h.id j q (view (client_of h row)))) o s after l
    unfolding view
    responded_to q d A =
        let k : g ≡ saw_in (told q) h = rw d at p in
        settles (told q) h row (stepped (upon_response (enough h.m) h.n h.id j q (view (client_of (saw_in (told q) h) row)))) o r s after l (rw k at A) e

    pub checked_by : Answers g row (stepped (upon_check g.id j t (view (client_of g row)))) o r after l
        → Answers h row (stepped (checked h.id j t (view (client_of h row)))) o s after l
    unfolding view
    checked_by A =
        settles t h row (stepped (upon_check h.id j t (view (client_of (saw_in t h) row)))) o r s after l (rw p at A) e

-- `receive`: whom the message is for
module _ (h : Head) (row : List ℕ) (k : ClientId) (j : ServerId) (x : Bool) (p : x ≡ for_client h k j) where
  pub response_elsewhere : (o : Option Request) → x ≡ false → received (client_of h row) (Response k j o) ≡ refused NotForClient
  response_elsewhere o t = rw (fails x (for_client h k j) p t)

  pub check_elsewhere : (s : Timestamp) → x ≡ false → received (client_of h row) (Check k j s) ≡ refused NotForClient
  check_elsewhere s t = rw (fails x (for_client h k j) p t)

  module _ (t : x ≡ true) where
    its-parts : (eqb k.0 h.id.0 ≡ true) × (leb j.0 h.n ≡ true)
    its-parts = both (eqb k.0 h.id.0) (leb j.0 h.n) (holds x (for_client h k j) p t)

    pub its-client : k ≡ h.id
    its-client = let e : k.0 ≡ h.id.0 = eqb-true k.0 h.id.0 its-parts.0 in λ i. record { 0 = e i }

    pub its-server : j.0 ≤ h.n
    its-server = leb-true j.0 h.n its-parts.1

    pub response-taken : (o : Option Request)
        → received (client_of h row) (Response k j o) ≡ stepped (responds (enough h.m) h.n h.id j o (view (client_of h row)))
    response-taken o = rw (holds x (for_client h k j) p t, its-client)

    pub check-taken : (s : Timestamp) → received (client_of h row) (Check k j s) ≡ stepped (checked h.id j s (view (client_of h row)))
    check-taken s = rw (holds x (for_client h k j) p t, its-client)

pub response-range : (limit : ℕ) (k : ClientId) (j : ServerId) (o : Option Request) → format.valid_up_to limit (Response k j o) ≡ true → (1 ≤ j.0) × (valid_owner o ≡ true)
unfolding format.valid_up_to valid_response_up_to fields_of
response-range limit k j o h =
    let (c, s) = parties_range limit k j (valid-head limit (Response k j o) h) in
    ((within-range j.0 limit s).0, (both (valid_parties_up_to limit k j) (valid_named o) h).1)

-- `new`
module _ (n m : ℕ) (k : ClientId) (x : Bool) (p : x ≡ valid_sizes n m) where
  new_row : answer_says (new_result n m k).answer ≡ new_says (valid_sizes n m && valid_client k)
  unfolding new_result new_says
  new_row = of_choice (λ (s : Stepped). answer_says s.answer) (valid_sizes n m && valid_client k) _ _ refl refl

  said_new : (r : Stepped) → r ≡ new_result n m k → NewGives n m k r
  said_new r e = (e, ap (λ (s : Stepped). answer_says s.answer) e ∙ new_row)

  pub new_sizes : (r : Stepped) → x ≡ false → r ≡ refused_new → NewGives n m k r
  unfolding new_result
  new_sizes r t e = said_new r (rw (fails x (valid_sizes n m) p t) e)

  module _ (y : Bool) (t : x ≡ true) (q : y ≡ valid_client k) where
    pub new_id : (r : Stepped) → y ≡ false → r ≡ refused_new → NewGives n m k r
    unfolding new_result
    new_id r u e = said_new r (rw (holds x (valid_sizes n m) p t, fails y (valid_client k) q u) e)

    stored-fresh : store n m k (fresh n) ≡ client_of (head_in n m k (fresh n)) (replicate row_words 0)
    stored-fresh = sym (fresh-stored max_places n m k (sizes_range n m (holds x (valid_sizes n m) p t)).1)

    pub new_done : (c : Client) → y ≡ true → c ≡ client_of (head_in n m k (fresh n)) (replicate row_words 0)
        → NewGives n m k (record { client = c; answer = Ok (record { messages = 0; bytes = 0 }) })
    unfolding new_result
    new_done c u e = said_new (record { client = c; answer = Ok (record { messages = 0; bytes = 0 }) }) (rw (holds x (valid_sizes n m) p t, holds y (valid_client k) q u, e, stored-fresh))
