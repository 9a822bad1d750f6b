-- The entry lemma: a client in its remainder section and enough vacant servers; its try, their takes of its requests and its takes of
-- their responses are all accepted, bring it into the critical section, and change nothing outside it and them.
use mathlib.Core.Path.{◌≡◌, refl, sym, ap, ◌∙◌}
use Prim.Native.Nat.{ℕ, zero, suc, ◌+◌, ◌-◌, ◌≤◌, ◌<◌}
use native.Mathlib.Nat.{le_refl}
use native.Mathlib.Omega.{arith}
use mathlib.Core.Bool.{Bool, true, false}
use mathlib.Core.List.{List, [], ◌∷◌, map}
use lib.ListN.{length, replicate, length-replicate}
use borrow.Author.Tests.{eq-eqb, le-leb, lt-leb, lt-ltb}
use mathlib.Core.Logic.{⊎_elim}
use Rattle.std.specs.Prelude.{if◌then◌else◌, Some, None, Option}
use Rattle.ids.specs.Requests.{is_request}
use Rattle.ids.specs.declared.Timestamp.{Timestamp}
use Rattle.ids.specs.declared.Request.{Request}
use Rattle.ids.proofs.RequestLaws.{same_refl}
use Rattle.wire.specs.Step.{Step, stay, tell, stepped}
use Rattle.wire.specs.declared.Message.{Message}
use Rattle.wire.specs.declared.Message.TheVariants.{Request as REQUEST, Response as RESPONSE}
use Rattle.rows.specs.Queue.{timestamp_in}
use Rattle.server_votes.specs.Figure1.{State as ServerState, idle, act, receive}
use Rattle.client_responses.specs.declared.Section.TheVariants.{Trying, Critical}
use Rattle.client_responses.specs.Figure1.{State as ClientState, later, latest, taken, Quorum, filled, heard, judge, with_response, response_of, count, enough, tries, upon_response, responds, is_remainder, last_try}
use Rattle.system.specs.declared.Event.TheVariants.{Try}
use Rattle.system.specs.Numbered.{at, put, member, span, client_no, server_no}
use Rattle.system.specs.Transit.{replaced, gone, keeping}
use Rattle.system.specs.Places.{ClientPlace, ServerPlace, System, no_client, no_server, client_at, server_at, is_inside, down_from}
use Rattle.system.specs.Events.{client_moves, server_moves, tried, deliver, event}
use Rattle.system.specs.Runs.{after, next}
use Rattle.system.specs.Setting.{takes, enters, Different, no_more, another}
use Rattle.ids.proofs.Choice.{clash}
use Rattle.system.proofs.Tokens.{All, empty, more, length-put}
use Rattle.system.proofs.PlaceLaws.{Changes, each, at_other, at-replicate, flagged_in, put-flagged, mem_cons, mem_head, mem_tail}
use Rattle.system.proofs.Tally.{UpTo, Tally, all-replaced, tally-event}
use Rattle.system.proofs.Pending.{Pends, within-gone, within-keeping, pending-other, pending-first, pending_past, pending_new, pending-all, length-all}
use Rattle.system.proofs.Leads.{Leads, lead_none, lead_cons, lead_map, lead_append, apart, outside}

abbrev pub vacant : ServerPlace
vacant = record { up = true; state = idle }

abbrev pair : ℕ → Timestamp → Request
pair k t = record { client = client_no k; timestamp = t }

-- server j, with k as owner, tells it so
abbrev yes_to : ℕ → Timestamp → ℕ → Step ServerState
yes_to k t j = tell (record { owner = Some (pair k t); queue = [] }) (RESPONSE (client_no k) (server_no j) (Some (pair k t)))

-- Messages after i: the answers of js, in order
abbrev Answers : ℕ → Timestamp → System → ℕ → List ℕ → Type 0
Answers k t w i [] = Unit
Answers k t w i (j ∷ js) = Pends w (suc i) (RESPONSE (client_no k) (server_no j) (Some (pair k t))) × Answers k t w (suc i) js

answers-later : (k : ℕ) (t : Timestamp) (w u : System) (i : ℕ) (js : List ℕ) → ((a : ℕ) (m : Message) → i < a → Pends w a m → Pends u a m)
    → Answers k t w i js → Answers k t u i js
answers-later k t w u i [] f h = tt
answers-later k t w u i (j ∷ js) f h = (f (suc i) _ (le_refl (suc i)) h.0, answers-later k t w u (suc i) js (λ a m lt. f a m (omega arith)) h.1)

module _ (n : ℕ) (wins : Quorum) (s k : ℕ) (t : Timestamp) where
  -- server j is vacant, and k's request to it waits
  record Asked (w : System) (j : ℕ) : Type 0 where
    place : server_at w (server_no j) ≡ vacant
    waits : Pends w (s + j) (REQUEST (client_no k) (server_no j) t)

  -- server j took the request
  record Told (w : System) (j : ℕ) (u : System) : Type 0 where
    clients : u.clients ≡ w.clients
    sent : u.sent ≡ suc w.sent
    servers : Changes (at no_server w.servers) (at no_server u.servers) j (record { up = true; state = (yes_to k t j).state })
    waits : (i : ℕ) (m : Message) → (i ≡ s + j → ⊥) → Pends w i m → Pends u i m
    answer : Pends u (suc w.sent) (RESPONSE (client_no k) (server_no j) (Some (pair k t)))

  ask_event : {w : System} {j : ℕ} → Asked w j
      → event n wins w (takes (s + j)) ≡ stepped (server_moves w (server_no j) (replaced (s + j) keeping w.transit) (yes_to k t j))
  unfolding event deliver receive timestamp_in act
  ask_event a = rw (a.waits, a.place)

  told : {w : System} {j : ℕ} → All (UpTo w.sent) w.transit → Asked w j → Told w j (next n wins w (takes (s + j)))
  unfolding after
  told {w} {j} upto a =
      rw (ask_event a) (record {
        clients = refl;
        sent = omega arith;
        servers = put-flagged no_server (λ q. q.up) refl w.servers j _ (ap (λ (q : ServerPlace). q.up) a.place);
        waits = λ i m ne h. pending-first i (replaced (s + j) keeping w.transit) _ (pending-other within-keeping i (s + j) ne w.transit ∙ h);
        answer = pending_past (suc w.sent) _ (le_refl (suc w.sent)) (all-replaced (s + j) (λ y h. more h empty) upto) ∙ pending_new w.sent _ [];
      })

  -- the servers js took their requests
  record AllTold (w : System) (js : List ℕ) (u : System) : Type 0 where
    clients : u.clients ≡ w.clients
    sent : u.sent ≡ w.sent + length js
    others : (j : ℕ) → member j js ≡ false → server_at u (server_no j) ≡ server_at w (server_no j)
    up : (j : ℕ) → (server_at u (server_no j)).up ≡ (server_at w (server_no j)).up
    waits : (i : ℕ) (m : Message) → s + n < i → Pends w i m → Pends u i m
    responses : Answers k t u w.sent js

  asks : {clients x : ℕ} {js : List ℕ} {w : System} → Tally n clients x w → s + n ≤ w.sent → Different n js → ((j : ℕ) → member j js ≡ true → Asked w j) →
      Leads n wins w (map (λ j. takes (s + j)) js) (AllTold w js)
  asks tl le no_more h = lead_none (record { clients = refl; sent = omega arith; others = λ j _. refl; up = λ j. refl; waits = λ i m _ a. a; responses = tt })
  asks {clients} {w = w} tl le (another {j = j} {js = js} pos jn out df) h =
      let a : Asked w j = h j (mem_head j j js refl) in
      let v : System = next n wins w (takes (s + j)) in
      let td : Told w j v = told tl.counts.numbers a in
      lead_cons (rw (ask_event a))
      (lead_map (asks (tally-event n clients wins (takes (s + j)) tl) (omega (arith, td.sent)) df
      (λ i m. let b = h i (mem_tail i j js m) in
      record { place = td.servers.there i (apart i j js out m) ∙ b.place; waits = td.waits (s + i) _ (λ e. apart i j js out m (omega arith)) b.waits }))
      (λ u z. record {
        clients = z.clients ∙ td.clients;
        sent = omega (arith, z.sent, td.sent);
        others = λ i m. let o = outside i j js m in z.others i o.1 ∙ td.servers.there i o.0;
        up = λ i. z.up i ∙
            each td.servers (λ q. q.up ≡ (server_at w (server_no i)).up) i (λ e. rw e (sym (ap (λ (q : ServerPlace). q.up) a.place))) (λ _. refl);
        waits = λ i m lt b. z.waits i m lt (td.waits i m (λ e. omega arith) b);
        responses = (z.waits (suc w.sent) _ (omega arith) td.answer, rw td.sent at z.responses);
      }))

pub ranged : {n : ℕ} {js : List ℕ} (j : ℕ) → Different n js → member j js ≡ true → (0 < j) × (j ≤ n)
ranged j no_more m = clash false m refl
ranged {n} j (another {j = i} {js = js} p q out df) m =
    ⊎_elim (λ (e : j ≡ i). (omega arith, omega arith)) (λ (y : member j js ≡ true). ranged j df y) (mem_cons j i js m)

pub count-put : (b : List Bool) (j : ℕ) → 0 < j → j ≤ length b → at false b j ≡ false → count (put b j true) ≡ suc (count b)
count-put b zero p q e = absurd (omega arith)
count-put [] (suc i) p q e = absurd (omega arith)
count-put (x ∷ b) (suc zero) p q e = rw e (omega arith)
count-put (x ∷ b) (suc (suc i)) p q e = omega (arith, count-put b (suc i) (omega arith) (omega arith) e)

-- the flags b win first when those of js are all set
abbrev pub Tips : Quorum → List Bool → List ℕ → Type 0
Tips wins b [] = wins b ≡ true
Tips wins b (j ∷ js) = (wins b ≡ false) × Tips wins (put b j true) js

abbrev is_empty : List ℕ → Bool
is_empty [] = true
is_empty (j ∷ js) = false

map-put : {A B : Type 0} (f : A → B) (l : List A) (j : ℕ) (v : A) → map f (put l j v) ≡ put (map f l) j (f v)
map-put f l zero v = refl
map-put f [] (suc x) v = refl
map-put f (a ∷ l) (suc zero) v = refl
map-put f (a ∷ l) (suc (suc x)) v = ap (λ (m : List _). f a ∷ m) (map-put f l (suc x) v)

-- client k after the answers l, with those of js to come, when it has seen timestamp z
abbrev Place : Timestamp → Timestamp → List ℕ → List (Option Request) → List ℕ → ClientPlace
Place t z js l d =
    record { living = true; state = record { section = if is_empty js then Critical else Trying; timestamp = t; seen = z; responses = l }; downs = d }

module _ (n : ℕ) (wins : Quorum) (k : ℕ) (t : Timestamp) (d : List ℕ) where
  -- the answers l are k's own, with the flags b, and the places js are empty
  record Own (l : List (Option Request)) (b : List Bool) (js : List ℕ) : Type 0 where
    fills : map filled l ≡ b
    own : map (is_request (pair k t)) l ≡ b
    blank : (j : ℕ) → member j js ≡ true → at None l j ≡ None

  own_put : {l : List (Option Request)} {b : List Bool} {j : ℕ} {js : List ℕ} → member j js ≡ false → Own l b (j ∷ js) → Own (put l j (Some (pair k t))) (put b j true) js
  own_put {l} {b} {j} {js} out o =
      record {
        fills = map-put filled l j (Some (pair k t)) ∙ rw o.fills;
        own = map-put (is_request (pair k t)) l j (Some (pair k t)) ∙ rw (o.own, same_refl (pair k t));
        blank = λ i m. at_other None l j _ i (apart i j js out m) ∙ o.blank i (mem_tail i j js m);
      }

  -- a server with a number from 1
  respond_put : (l : List (Option Request)) (j : ℕ) (o : Option Request) → 0 < j → with_response l (server_no j) o ≡ put l j o
  respond_put l zero o pos = absurd (omega arith)
  respond_put l (suc x) o pos = let z : suc x - 1 ≡ x = omega arith in rw z

  respond_at : (l : List (Option Request)) (j : ℕ) → 0 < j → response_of l (server_no j) ≡ at None l j
  respond_at l zero pos = absurd (omega arith)
  respond_at l (suc x) pos = let z : suc x - 1 ≡ x = omega arith in rw z

  hear : (l : List (Option Request)) (j : ℕ) → 0 < j → at None l j ≡ None → heard (pair k t) l (server_no j) (Some (pair k t)) ≡ put l j (Some (pair k t))
  unfolding heard
  hear l j pos e = rw (respond_at l j pos, e, eq-eqb k k refl, eq-eqb t.0 t.0 refl) (respond_put l j (Some (pair k t)) pos)

  hear_client : (z : Timestamp) (l : List (Option Request)) {b : List Bool} (j : ℕ) (js : List ℕ) → 0 < j → at None l j ≡ None
      → Own (put l j (Some (pair k t))) b js → Tips wins b js →
      responds wins n (client_no k) (server_no j) (Some (pair k t)) (Place t z (j ∷ js) l d).state ≡ stay
      (Place t (later z t) js (put l j (Some (pair k t))) d).state
  unfolding upon_response judge
  hear_client z l j [] pos e o tips = rw (hear l j pos e, o.fills, o.own, tips)
  hear_client z l j (i ∷ js) pos e o tips = rw (hear l j pos e, o.fills, o.own, tips.0)

  hear_event : (w : System) (i : ℕ) {z z' : Timestamp} {l l' : List (Option Request)} (j : ℕ) (js : List ℕ) → client_at w (client_no k) ≡ Place t z (j ∷ js) l d
      → Pends w i (RESPONSE (client_no k) (server_no j) (Some (pair k t))) →
      responds wins n (client_no k) (server_no j) (Some (pair k t)) (Place t z (j ∷ js) l d).state ≡ stay (Place t z' js l' d).state →
      event n wins w (takes i) ≡ stepped (client_moves w (client_no k) (replaced i gone w.transit) d (stay (Place t z' js l' d).state))
  unfolding event deliver
  hear_event w i j js here m e = rw (m, here, e)

  -- client k took the response with number i
  record Heard (w : System) (i : ℕ) (c : ClientPlace) (u : System) : Type 0 where
    servers : u.servers ≡ w.servers
    sent : u.sent ≡ w.sent
    clients : Changes (at no_client w.clients) (at no_client u.clients) k c
    waits : (a : ℕ) (m : Message) → (a ≡ i → ⊥) → Pends w a m → Pends u a m

  heard_by : (w : System) (i : ℕ) (c : ClientState) → (client_at w (client_no k)).living ≡ true
      → event n wins w (takes i) ≡ stepped (client_moves w (client_no k) (replaced i gone w.transit) d (stay c)) →
      Heard w i (record { living = true; state = c; downs = d }) (next n wins w (takes i))
  unfolding after
  heard_by w i c lives e =
      rw e (record {
        servers = refl;
        sent = omega arith;
        clients = put-flagged no_client (λ x. x.living) refl w.clients k _ lives;
        waits = λ a m ne h. pending-first a (replaced i gone w.transit) _ (pending-other within-gone a i ne w.transit ∙ h);
      })

  record Hears (w u : System) : Type 0 where
    servers : u.servers ≡ w.servers
    sent : u.sent ≡ w.sent
    others : (i : ℕ) → (i ≡ k → ⊥) → client_at u (client_no i) ≡ client_at w (client_no i)
    responses : List (Option Request)
    seen : Timestamp
    here : client_at u (client_no k) ≡ Place t seen [] responses d

  hears : {js : List ℕ} {w : System} (i : ℕ) {z : Timestamp} {l : List (Option Request)} {b : List Bool} → Different n js → Own l b js → Tips wins b js →
      client_at w (client_no k) ≡ Place t z js l d → Answers k t w i js → Leads n wins w (map takes (span i (length js))) (Hears w)
  hears i {z = z} {l = l} no_more o tips here a =
      lead_none (record { servers = refl; sent = refl; others = λ _ _. refl; responses = l; seen = z; here = here })
  hears {w = w} i {z = before} {l = l} {b = b} (another {j = j} {js = js} pos jn out df) o tips here a =
      let o' = own_put out o in
      let e = hear_event w (suc i) j js here a.0 (hear_client before l j js pos (o.blank j (mem_head j j js refl)) o' tips.1) in
      let hd : Heard w (suc i) (Place t (later before t) js (put l j (Some (pair k t))) d) (next n wins w (takes (suc i))) = heard_by w (suc i) _
      (ap (λ (c : ClientPlace). c.living) here) e in
      lead_cons (rw e)
      (lead_map (hears {w = next n wins w (takes (suc i))} (suc i) df o' tips.1 hd.clients.here (answers-later k t w (next n wins w (takes (suc i))) (suc i) js (λ x m lt. hd.waits x m (λ q. omega arith)) a.1))
      (λ u z. record {
        servers = z.servers ∙ hd.servers;
        sent = z.sent ∙ hd.sent;
        others = λ x ne. z.others x ne ∙ hd.clients.there x ne;
        responses = z.responses;
        seen = z.seen;
        here = z.here;
      }))

-- the next timestamp of client k
abbrev coming : System → ℕ → Timestamp
coming w k = taken (client_at w (client_no k)).state

-- the client lives, is in the remainder section, and has a timestamp left
pub record Free (c : ClientPlace) : Type 0 where
  pub living : c.living ≡ true
  pub rests : is_remainder c.state.section ≡ true
  pub timestamps : (latest c.state).0 ≤ last_try

-- From w to u client k has entered by the servers js.
pub record Entered (n k : ℕ) (js : List ℕ) (w u : System) : Type 0 where
  pub holds : is_inside (client_at u (client_no k)) ≡ true
  pub downs : (client_at u (client_no k)).downs ≡ down_from 1 w.servers
  pub timestamp : (client_at u (client_no k)).state.timestamp ≡ coming w k
  pub others : (i : ℕ) → (i ≡ k → ⊥) → client_at u (client_no i) ≡ client_at w (client_no i)
  pub servers : (j : ℕ) → member j js ≡ false → server_at u (server_no j) ≡ server_at w (server_no j)
  pub up : (j : ℕ) → (server_at u (server_no j)).up ≡ (server_at w (server_no j)).up
  pub sent : u.sent ≡ w.sent + n + length js

map-replicate : {A B : Type 0} (f : A → B) (n : ℕ) (a : A) → map f (replicate n a) ≡ replicate n (f a)
map-replicate f zero a = refl
map-replicate f (suc n) a = ap (λ (l : List _). f a ∷ l) (map-replicate f n a)

module _ (n : ℕ) (wins : Quorum) where
  record Tried (w : System) (k : ℕ) (u : System) : Type 0 where
    servers : u.servers ≡ w.servers
    sent : u.sent ≡ w.sent + n
    clients : Changes (at no_client w.clients) (at no_client u.clients) k
        (record {
          living = true;
          state = record { section = Trying; timestamp = coming w k; seen = (client_at w (client_no k)).state.seen; responses = replicate n None };
          downs = down_from 1 w.servers;
        })
    asked : (j : ℕ) → 0 < j → j ≤ n → Pends u (w.sent + j) (REQUEST (client_no k) (server_no j) (coming w k))

  try_event : (w : System) (k : ℕ) → Free (client_at w (client_no k)) → event n wins w (Try (client_no k)) ≡ stepped (tried n w (client_no k))
  unfolding event
  try_event w k f =
      let i = flagged_in no_client (λ c. c.living) refl w.clients k f.living in
      rw (lt-ltb 0 k i.0, le-leb k (length w.clients) i.1, f.living, f.rests, le-leb _ last_try f.timestamps)

  after_try : (w : System) (k : ℕ) → All (UpTo w.sent) w.transit → Free (client_at w (client_no k)) → Tried w k (next n wins w (Try (client_no k)))
  unfolding after tries
  after_try w k upto f =
      rw (try_event w k f) (record {
        servers = refl;
        sent = omega (arith, length-all (λ j. REQUEST (client_no k) j (coming w k)) n);
        clients = put-flagged no_client (λ x. x.living) refl w.clients k _ f.living;
        asked = λ j pos le. pending_past (w.sent + j) _ (omega arith) upto ∙ pending-all (λ i. REQUEST (client_no k) i (coming w k)) w.sent n j pos le;
      })

  module _ {w v x : System} {k : ℕ} (tr : Tried w k v) where
    answered : {js : List ℕ} → AllTold n wins w.sent k (coming w k) v js x → Different n js → 0 < length js → Tips wins (replicate n false) js →
        Leads n wins x (map takes (span (w.sent + n) (length js))) (Entered n k js w)
    answered z no_more pos tips = absurd (omega arith)
    answered z (another {j = j} {js = js} p q out df) pos tips =
        lead_map (hears n wins k (coming w k) (down_from 1 w.servers) (w.sent + n) {z = (client_at w (client_no k)).state.seen} (another p q out df)
        (record {
          fills = map-replicate filled n None;
          own = map-replicate (is_request (pair k (coming w k))) n None;
          blank = λ i m.
              at-replicate None (λ o. o ≡ None) n i None refl refl;
        })
        tips (rw z.clients tr.clients.here) (rw tr.sent at z.responses))
        (λ u y. record {
          holds = rw y.here;
          downs = rw y.here;
          timestamp = rw y.here;
          others = λ i ne. y.others i ne ∙ rw z.clients (tr.clients.there i ne);
          servers = λ i m. rw y.servers (z.others i m ∙ rw tr.servers);
          up = λ i. rw y.servers (z.up i ∙ rw tr.servers);
          sent = omega (arith, y.sent, z.sent, tr.sent);
        })

  -- The entry: a free client and vacant servers js of which only all together win.
  pub enter : {clients x : ℕ} {w : System} (k : ℕ) {js : List ℕ} → Tally n clients x w → Free (client_at w (client_no k)) → Different n js
      → ((j : ℕ) → member j js ≡ true → server_at w (server_no j) ≡ vacant) →
      0 < length js → Tips wins (replicate n false) js → Leads n wins w (enters n w.sent (client_no k) js) (Entered n k js w)
  enter {clients} {w = w} k {js = js} tl f df h pos tips =
      let tr : Tried w k (next n wins w (Try (client_no k))) = after_try w k tl.counts.numbers f in
      lead_cons (rw (try_event w k f)) (lead_append (map (λ j. takes (w.sent + j)) js)
      (asks n wins w.sent k (coming w k) (tally-event n clients wins (Try (client_no k)) tl) (omega (arith, tr.sent)) df
      (λ j m. let r = ranged j df m in record { place = rw tr.servers (h j m); waits = tr.asked j r.0 r.1 }))
      (λ z. answered tr z df pos tips))

-- m servers are just enough
tips_enough : {n m : ℕ} {js : List ℕ} (b : List Bool) → length b ≡ n → Different n js
    → ((j : ℕ) → member j js ≡ true → at false b j ≡ false) → count b + length js ≡ m → Tips (enough m) b js
unfolding enough
tips_enough {m = m} b len no_more h e = le-leb m (count b) (omega arith)
tips_enough {m = m} b len (another {j = j} {js = js} p q out df) h e = (
  lt-leb m (count b) (omega arith),
  tips_enough (put b j true) (length-put b j true ∙ len) df (λ i x. at_other false b j true i (apart i j js out x) ∙ h i (mem_tail i j js x))
      (omega (arith, count-put b j (omega arith) (omega arith) (h j (mem_head j j js refl)))),
)

count_none : (n : ℕ) → count (replicate n false) ≡ 0
count_none zero = refl
count_none (suc n) = omega (arith, count_none n)

-- The entry with the threshold m, by m vacant servers.
pub enter_enough : {n m clients x : ℕ} {w : System} (k : ℕ) {js : List ℕ} → Tally n clients x w → Free (client_at w (client_no k))
    → Different n js → ((j : ℕ) → member j js ≡ true → server_at w (server_no j) ≡ vacant) →
    0 < m → length js ≡ m → Leads n (enough m) w (enters n w.sent (client_no k) js) (Entered n k js w)
enter_enough {n} {m} k tl f df h pos len =
    enter n (enough m) k tl f df h (omega arith)
    (tips_enough (replicate n false) (length-replicate n false) df (λ j _. at-replicate false (λ b. b ≡ false) n j false refl refl)
    (omega (arith, count_none n)))
