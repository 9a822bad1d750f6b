-- The step calls: from the outcome of a step to what the call returns and leaves. Each law is one way out of a call.
use Rattle.wire.specs.declared.Sent.{Sent}
use Rattle.std.specs.Prelude.{Ok, Err, Result, Some, None, Option}
use Prim.Native.Nat.{ℕ, ◌+◌, ◌*◌, ◌-◌, ◌<◌, ◌≤◌}
use native.Mathlib.Omega.{arith}
use mathlib.Core.Path.{◌≡◌, refl, sym, ap, ◌∙◌}
use mathlib.Core.Bool.{Bool, true, false}
use mathlib.Core.List.{List, ◌++◌, map, append-nil}
use mathlib.Core.Logic.{⊎_elim}
use lib.Dec.{ltb}
use lib.ListN.{length, take, drop, length-append, length-drop, length-map}
use lib.Seq.{sets, sets-eq, take_all, drop-length, drop_at, length-take-le}
use borrow.Author.Tests.{lt-ltb, le-ltb}
use borrow.Rule.Slice.PartMut.{put_mid, put_same}
use Rattle.ids.specs.Refusals.{code}
use Rattle.ids.specs.declared.Refusal.{Refusal}
use Rattle.ids.specs.declared.Refusal.TheVariants.{InvalidRecord, RoomShort}
use Rattle.ids.proofs.Choice.{decided, passed}
use Rattle.rows.proofs.RowLaws.{length_row_of}
use Rattle.wire.specs.Format as format
use Rattle.wire.specs.Format.{size_of_all}
use Rattle.wire.specs.Step.{Step, Outcome, refused, stepped, with_room, answer_of}
use Rattle.wire.specs.declared.Message.{Message}
use Rattle.ids.specs.Limits.{max_servers, valid_stamped_up_to, valid_parties_up_to}
use Rattle.server_votes.specs.Figure1 as votes
use Rattle.server_votes.specs.Places.{mails}
use Rattle.server.specs.Record as server
use Rattle.server.specs.Calls as server_calls
use Rattle.server.specs.Parts.{three_mails, sent_answer, sent_buffer}
use Rattle.server.specs.Rows.{Turns}
use Rattle.server.specs.declared.Head.{Head as ServerHead}
use Rattle.server.specs.declared.Server.{Server}
use Rattle.server.specs.declared.Turned.{Turned as ServerTurned}
use Rattle.client_responses.specs.Figure1 as client-state
use Rattle.client_responses.specs.Row.{place}
use Rattle.client.specs.Record as client
use Rattle.client.specs.Calls as client_calls
use Rattle.client.specs.Steps.{Answers}
use Rattle.client.specs.declared.Head.{Head as ClientHead}
use Rattle.client.specs.declared.Client.{Client}
use Rattle.client.specs.declared.Turned.{Turned as ClientTurned}
use Rattle.client.proofs.ValidLaws.{valid-known, valid-padded, padded-words}
use Rattle.words.specs.Messages.{message_or}
use Rattle.rows.proofs.CopyLaws.{part-whole}
use Rattle.words.specs.Records.{max_word, server_head, client_head, server_size, client_size, holds_server, server_head_from, server_from, holds_client, client_head_from, client_head_words, client_from, client_words}
use Rattle.words.proofs.RecordsLaws.{server-held, client-held}
use Rattle.sends.proofs.ServerSends.{never, size_few}
use Rattle.capi.specs.Steps.{in_words, lent, Leaves, on_server, on_client, server_with, client_with, server_takes, client_takes}
use Rattle.capi.specs.Inner.{answer_code, answer_record, answer_counts, short_code, short_answer, Storable, turned_words, server_outcome, client_outcome}
use Rattle.capi.specs.declared.ServerCall.{ServerCall}
use Rattle.capi.specs.declared.ServerCall.TheVariants.{Message as ServerMessage}
use Rattle.capi.specs.declared.ClientCall.{ClientCall}
use Rattle.capi.specs.declared.ClientCall.TheVariants.{Message as ClientMessage}
use Rattle.capi.proofs.Accepted.{server-accepted, client-accepted}

-- THE WORDS of a head and n words of its row
-- a whole record is written over a whole record
pub whole : (ws vs : List ℕ) → length vs ≡ length ws → sets ws 0 vs ≡ vs
whole ws vs e =
    let z : 0 + length vs ≡ length ws = omega arith in
    sets-eq vs ws 0 (omega arith) ∙ rw (z, drop-length ws) (append-nil vs)

-- the words behind a head of so many, lent and back as the row
pub row_copied : (head : ℕ) (ws row back : List ℕ) → head + length row ≤ length ws → back ≡ row
    → put_mid head (head + length row - head) ws back ≡ sets ws head row
row_copied head ws row back h e = part-whole ws back row head (head + length row - head) (omega (arith, h)) (omega arith) e

module _ (head : ℕ) (ws : List ℕ) (n : ℕ) (l : length ws ≡ head + n) where
  rest-long : length (drop head ws) ≡ n
  rest-long = simp length-drop (omega (arith, l))

  pub whole_row : take n (drop head ws) ≡ drop head ws
  whole_row = take_all n (drop head ws) (omega (arith, rest-long))

  module _ (row front : List ℕ) (r : length row ≡ n) (h : length front ≡ head) where
    row_back : put_mid head n ws row ≡ take head ws ++ row
    row_back = let e = rw rest-long at (drop-length (drop head ws)) in rw (e, append-nil row)

    head_over : sets (take head ws ++ row) 0 front ≡ front ++ row
    head_over =
        let k : length (take head ws) ≡ head = length-take-le head ws (omega (arith, l)) in
        let z : 0 + length front ≡ head = omega (arith, h) in
        sets-eq front (take head ws ++ row) 0 (simp length-append (omega (arith, k, h))) ∙ rw (z, drop_at (take head ws) row head k)

    -- the row first and the head then are the whole record
    pub row_then_head : sets (put_mid head n ws row) 0 front ≡ sets ws 0 (front ++ row)
    row_then_head = rw row_back (head_over ∙ sym (whole ws (front ++ row) (simp length-append (omega (arith, l, r, h)))))

-- A REFUSED CALL changes nothing
pub refused_leaves : (o : Outcome (List ℕ)) (e : Refusal) (r : ℕ) (ws out sent : List ℕ) → o ≡ refused e → r ≡ code e
    → Leaves (lent out sent o) r ws ws out out sent sent
unfolding with_room
refused_leaves o e r ws out sent p c = rw p (record { returned = c; stored = refl; written = refl; counted = refl })

-- no room for the counts, whatever room the step had
short-answers : {A : Type 0} (o : Outcome A) (room r : ℕ) → r ≡ short_answer (answer_of (with_room room o)) → r ≡ short_code o
unfolding with_room
short-answers (refused e) room r h = h
short-answers (stepped p) room r h =
    ⊎_elim (λ (t : ltb room (size_of_all p.sent) ≡ true). rw t at h) (λ (t : ltb room (size_of_all p.sent) ≡ false). rw t at h)
    (decided (ltb room (size_of_all p.sent)))

short_leaves : {A : Type 0} (g : A → List ℕ) (ws out sent : List ℕ) (o : Outcome A) (r : ℕ) → length sent < 2 → r ≡ short_code o
    → Leaves (lent out sent (in_words g o)) r ws ws out out sent sent
unfolding with_room
short_leaves g ws out sent (refused e) r l h = record { returned = h; stored = refl; written = refl; counted = refl }
short_leaves g ws out sent (stepped p) r l h =
    ⊎_elim
    (λ (t : ltb (length out) (size_of_all p.sent) ≡ true). rw t (record { returned = h; stored = refl; written = refl; counted = refl }))
    (λ (t : ltb (length out) (size_of_all p.sent) ≡ false). rw (t, lt-ltb _ _ l) (record { returned = h; stored = refl; written = refl; counted = refl }))
    (decided (ltb (length out) (size_of_all p.sent)))

module _ {A : Type 0} where
  pub room-stepped : (room : ℕ) (o : Outcome A) (p : Step A) → with_room room o ≡ stepped p → o ≡ stepped p
  unfolding with_room
  room-stepped room (refused e) p h = h
  room-stepped room (stepped x) p h = (passed (ltb room (size_of_all x.sent)) (never RoomShort p) h).1

  -- what an accepted step answers fits the words it is stored in
  fitting : (x : Outcome A) (a : Result Sent Refusal) → a ≡ answer_of x
      → ((p : Step A) → x ≡ stepped p → (length p.sent ≤ max_word) × (size_of_all p.sent ≤ max_word)) → Storable a
  fitting (refused e) a q k = record { few = λ s h. let z : ◌≡◌ {A = ℕ} 0 1 = cc in absurd (omega arith) }
  fitting (stepped p) a q k =
      record {
        few = λ s h. let c : ◌≡◌ {A = Sent} (record { messages = length p.sent; bytes = size_of_all p.sent }) s = cc in rw (← c) (k p refl);
      }

-- THE SERVER'S CALL
-- the messages of a step are three at most
mail_few : (m : Option Message) → length (mails m) ≤ 1
mail_few None = omega arith
mail_few (Some x) = omega arith

module _ (a b c : Option Message) where
  three_few : length (three_mails a b c) ≤ 3
  unfolding three_mails
  three_few = simp length-append (omega (arith, mail_few a, mail_few b, mail_few c))

  pub three_storable : (x : Result Sent Refusal) (room : ℕ) → x ≡ sent_answer (three_mails a b c) room → Storable x
  unfolding sent_answer
  three_storable x room e =
      let ms : List Message = three_mails a b c in
      ⊎_elim
      (λ (t : ltb room (size_of_all ms) ≡ true). record
      { few = λ s h. let k : x ≡ Err RoomShort = rw t at e in let z : ◌≡◌ {A = ℕ} 0 1 = cc in absurd (omega arith) })
      (λ (t : ltb room (size_of_all ms) ≡ false).
      record {
        few = λ s h.
            let k : x ≡ Ok (record { messages = length ms; bytes = size_of_all ms }) = rw t at e in
            let c : ◌≡◌ {A = Sent} (record { messages = length ms; bytes = size_of_all ms }) s = cc in
            rw (← c) (omega (arith, three_few), omega (arith, three_few, size_few ms));
      })
      (decided (ltb room (size_of_all ms)))

-- a step that was made, from what sending its messages answers
module _ (p : Step (List ℕ)) (ws out sent : List ℕ) where
  pub counts-short : (r : ℕ) → length sent < 2 → r ≡ code RoomShort → Leaves (lent out sent (stepped p)) r ws ws out out sent sent
  unfolding with_room
  counts-short r l h = short_leaves (λ (x : List ℕ). x) ws out sent (stepped p) r l h

  pub sent_leaves : (a : Result Sent Refusal) (r : ℕ) (ws' out' sent' : List ℕ) → 2 ≤ length sent → a ≡ sent_answer p.sent (length out) → out' ≡ sent_buffer p.sent out
      → (r ≡ answer_code a) × (ws' ≡ answer_record p.state ws a) × (sent' ≡ answer_counts sent a)
      → Leaves (lent out sent (stepped p)) r ws ws' out out' sent sent'
  unfolding with_room sent_answer sent_buffer
  sent_leaves a r ws' out' sent' l ea eo (er, ew, es) =
      ⊎_elim
      (λ (t : ltb (length out) (size_of_all p.sent) ≡ true).
      rw t (record { returned = rw (ea, t) at er; stored = rw (ea, t) at ew; written = rw t at eo; counted = rw (ea, t) at es }))
      (λ (t : ltb (length out) (size_of_all p.sent) ≡ false).
      rw (t, le-ltb _ _ l) (record { returned = rw (ea, t) at er; stored = rw (ea, t) at ew; written = rw t at eo; counted = rw (ea, t) at es }))
      (decided (ltb (length out) (size_of_all p.sent)))

-- a step on a row, as the outcome on its record's words
turned-words : (h : ServerHead) (row after : List ℕ) (o : Outcome votes.State) (t : ServerTurned) → Turns h row o t after
    → turned_words t after ≡ in_words (server_with (server.server_of h row)) o
turned-words h row after (refused e) t T = rw T.ruled
turned-words h row after (stepped p) t T = rw (T.ruled, T.head, T.row, T.sent)

module _ (ws : List ℕ) (b : Bool) (e : b ≡ holds_server ws) where
  pub is-server : b ≡ true → holds_server ws ≡ true
  is-server n = sym e ∙ n

  pub no_server_lem : (f : Server → Outcome votes.State) → b ≡ false → on_server ws f ≡ refused InvalidRecord
  unfolding on_server
  no_server_lem f n = let u : holds_server ws ≡ false = sym e ∙ n in rw u

  module _ (n : b ≡ true) where
    pub server-long : length ws ≡ server_size
    server-long = (server-held server.row_words ws (is-server n)).size

    module _ (h : ServerHead) (row : List ℕ) (eh : h ≡ server_head_from ws) (er : row ≡ take server.row_words (drop server_head ws)) where
      pub row-long : length row ≡ server.row_words
      row-long = rw (er, whole_row server_head ws server.row_words server-long) (rest-long server_head ws server.row_words server-long)

      its-server : server.server_of h row ≡ server_from ws
      its-server = rw (eh, er, whole_row server_head ws server.row_words server-long)

      module _ (call : ServerCall) (t : ServerTurned) (after : List ℕ) (T : Turns h row (server_outcome call (server.server_of h row)) t after) where
        by_outcome : (o : Outcome votes.State) → server_outcome call (server.server_of h row) ≡ o → Turns h row o t after
            → (length after ≡ length row) × (t.ruling ≡ Ok tt → t.head.votes.len ≤ max_word)
        by_outcome (refused x) q T =
            (ap length T.row, λ d. let k : Err x ≡ Ok tt = sym T.ruled ∙ d in let z : ◌≡◌ {A = ℕ} 0 1 = cc in absurd (omega arith))
        by_outcome (stepped p) q T =
            let g = (server-accepted call (server.server_of h row) p q).room in
            (ap length T.row ∙ length_row_of (length row) p.state.queue g, λ d. rw T.head (omega (arith, g, row-long)))

        pub server-kept : length after ≡ server.row_words
        server-kept = (by_outcome (server_outcome call (server.server_of h row)) refl T).0 ∙ row-long

        pub server-short : t.ruling ≡ Ok tt → t.head.votes.len ≤ max_word
        server-short = (by_outcome (server_outcome call (server.server_of h row)) refl T).1

        on_server_lem : on_server ws (server_outcome call) ≡ turned_words t after
        unfolding on_server
        on_server_lem = rw (is-server n, ← its-server) (sym (turned-words h row after (server_outcome call (server.server_of h row)) t T))

        pub server_leaves : (r : ℕ) (ws' out out' sent sent' : List ℕ) → Leaves (lent out sent (turned_words t after)) r ws ws' out out' sent sent'
            → Leaves (lent out sent (on_server ws (server_outcome call))) r ws ws' out out' sent sent'
        server_leaves r ws' out out' sent sent' L = rw on_server_lem L

-- THE CLIENT'S CALL
pub client_short_answers : (call : ClientCall) (h : ClientHead) (row copy after o l : List ℕ) (t : ClientTurned) (r : ℕ) → copy ≡ row
    → Answers h copy (client_outcome call (client.client_of h copy)) o t after l → r ≡ short_answer t.answer
    → r ≡ short_code (client_outcome call (client.client_of h row))
client_short_answers call h row copy after o l t r c (a, b, d, s) e =
    rw (← c) (short-answers (client_outcome call (client.client_of h copy)) (length o) r (rw a at e))

length_head_words : (h : ClientHead) → length (client_head_words h) ≡ client_head
unfolding client_head_words
length_head_words h = refl

-- the step in place, its head stored and its counts
module _ (ws : List ℕ) (l : length ws ≡ client_size) (h : ClientHead) where
  abbrev row : List ℕ
  row = take client.row_words (drop client_head ws)

  long : length row ≡ client.row_words
  long = rw (whole_row client_head ws client.row_words l) (rest-long client_head ws client.row_words l)

  done_leaves : (o : Outcome client-state.State) (t : ClientTurned) (row' : List ℕ) (out out' sent sent' ws' : List ℕ) (r : ℕ) → 2 ≤ length sent
      → ((p : Step client-state.State) → o ≡ stepped p → 2 * length p.state.responses ≤ client.row_words)
      → Answers h row o out t row' out'
      → (r ≡ answer_code t.answer) × (ws' ≡ answer_record (client_head_words t.head) (put_mid client_head client.row_words ws row') t.answer)
      × (sent' ≡ answer_counts sent t.answer)
      → Leaves (lent out sent (in_words (client_with (client.client_of h row)) o)) r ws ws' out out' sent sent'
  unfolding with_room client_words
  done_leaves (refused e) t row' out out' sent sent' ws' r g few (a, b, c, s) (er, ew, es) =
      record { returned = rw a at er; stored = rw (a, b, put_same client_head client.row_words ws) at ew; written = c; counted = rw a at es }
  done_leaves (stepped p) t row' out out' sent sent' ws' r g few (a, b, c, s) (er, ew, es) =
      ⊎_elim
      (λ (u : ltb (length out) (size_of_all p.sent) ≡ true).
      rw u (record
      { returned = rw (a, u) at er; stored = rw (a, b, u, put_same client_head client.row_words ws) at ew; written = rw u at c; counted = rw (a, u) at es }))
      (λ (u : ltb (length out) (size_of_all p.sent) ≡ false).
      let k : List ℕ = client_calls.row_after row (stepped p) in
      let d : row' ≡ k = rw u at b in
      let f : 2 * length (map place p.state.responses) ≤ length row = simp length-map (omega (arith, few p refl, long)) in
      let w = rw (a, u, d) at ew in
      rw (u, le-ltb _ _ g)
      (record {
        returned = rw (a, u) at er;
        stored = w ∙ row_then_head client_head ws client.row_words l k (client_head_words (client_calls.head_after h (stepped p)))
            (length_row_of (length row) (map place p.state.responses) f ∙ long)
            (length_head_words (client_calls.head_after h (stepped p)));
        written = rw u at c;
        counted = rw (a, u) at es;
      }))
      (decided (ltb (length out) (size_of_all p.sent)))

module _ (ws : List ℕ) (b : Bool) (e : b ≡ holds_client ws) where
  pub is-client : b ≡ true → holds_client ws ≡ true
  is-client n = sym e ∙ n

  pub no_client_lem : (f : Client → Outcome client-state.State) → b ≡ false → on_client ws f ≡ refused InvalidRecord
  unfolding on_client
  no_client_lem f n = let u : holds_client ws ≡ false = sym e ∙ n in rw u

  module _ (n : b ≡ true) where
    pub client-long : length ws ≡ client_size
    client-long = (client-held client.row_words ws (is-client n)).size

    pub client_row_long : length (take client.row_words (drop client_head ws)) ≡ client.row_words
    client_row_long = rw (whole_row client_head ws client.row_words client-long) (rest-long client_head ws client.row_words client-long)

    module _ (h : ClientHead) (eh : h ≡ client_head_from ws) where
      abbrev its : Client
      its = client.client_of h (take client.row_words (drop client_head ws))

      its-client : its ≡ client_from ws
      its-client = rw (eh, whole_row client_head ws client.row_words client-long)

      on_client_lem : (f : Client → Outcome client-state.State) → on_client ws f ≡ in_words (client_with its) (f its)
      unfolding on_client
      on_client_lem f = rw (is-client n, ← its-client)

      module _ (call : ClientCall) (out sent : List ℕ) where
        pub client_short_leaves : (r : ℕ) → length sent < 2 → r ≡ short_code (client_outcome call its)
            → Leaves (lent out sent (on_client ws (client_outcome call))) r ws ws out out sent sent
        client_short_leaves r l k = rw (on_client_lem (client_outcome call)) (short_leaves (client_with its) ws out sent (client_outcome call its) r l k)

        module _ (t : ClientTurned) (row' out' : List ℕ)
            (A : Answers h (take client.row_words (drop client_head ws)) (client_outcome call its) out t row' out') where
          pub client_storable : Storable t.answer
          client_storable =
              fitting (with_room (length out) (client_outcome call its)) t.answer (rw A.0)
              (λ p k.
              let a = client-accepted call its p (room-stepped (length out) (client_outcome call its) p k) in
              let f : its.head.n ≤ max_servers = (valid-known its a.before).few in
              (omega (arith, a.most.few), omega (arith, a.most.small)))

          pub client_done_leaves : (r : ℕ) (ws' sent' : List ℕ) → 2 ≤ length sent
              → (r ≡ answer_code t.answer) × (ws' ≡ answer_record (client_head_words t.head) (put_mid client_head client.row_words ws row') t.answer)
              × (sent' ≡ answer_counts sent t.answer)
              → Leaves (lent out sent (on_client ws (client_outcome call))) r ws ws' out out' sent sent'
          client_done_leaves r ws' sent' l F =
              rw (on_client_lem (client_outcome call))
              (done_leaves ws client-long h (client_outcome call its) t row' out out' sent sent' ws' r l
              (λ p k. let a = client-accepted call its p k in omega
              (arith, a.long, padded-words its.row its.head.n (valid-padded its a.before), client_row_long)) A F)

-- words that are no message: the step refuses what stands for them
server-takes : (x : Option Message) (s : Server) → server_calls.message_outcome s (message_or x) ≡ server_takes x s
unfolding server_calls.message_outcome_up_to format.valid_up_to valid_stamped_up_to valid_parties_up_to
server-takes (Some m) s = refl
server-takes None s =
    ⊎_elim (λ (v : server.valid s ≡ true). rw v) (λ (v : server.valid s ≡ false). rw v) (decided (server.valid s))

client-takes : (x : Option Message) (c : Client) → client_calls.message_outcome c (message_or x) ≡ client_takes x c
unfolding client_calls.message_outcome_up_to format.valid_up_to valid_stamped_up_to valid_parties_up_to
client-takes (Some m) c = refl
client-takes None c =
    ⊎_elim (λ (v : client.valid c ≡ true). rw v) (λ (v : client.valid c ≡ false). rw v) (decided (client.valid c))

module _ (ws : List ℕ) (x : Option Message) (m : Message) (e : m ≡ message_or x) where
  pub server_takes-words : on_server ws (server_outcome (ServerMessage m)) ≡ on_server ws (server_takes x)
  unfolding on_server
  server_takes-words =
      ⊎_elim
      (λ (v : holds_server ws ≡ true). rw (v, e, server-takes x (server_from ws)))
      (λ (v : holds_server ws ≡ false). rw v)
      (decided (holds_server ws))

  pub client_takes-words : on_client ws (client_outcome (ClientMessage m)) ≡ on_client ws (client_takes x)
  unfolding on_client
  client_takes-words =
      ⊎_elim
      (λ (v : holds_client ws ≡ true). rw (v, e, client-takes x (client_from ws)))
      (λ (v : holds_client ws ≡ false). rw v)
      (decided (holds_client ws))
