-- Messages posted: each stands in the next slot under the next number. What is decoded from the bytes that messages were written to are these messages.
use Rattle.std.specs.Prelude.{Ok, Err, Result}
use Prim.Native.Nat.{ℕ, zero, suc, ◌+◌, ◌-◌, ◌*◌, ◌<◌, ◌≤◌}
use native.Mathlib.Numerals.{add-one}
use native.Mathlib.Omega.{arith}
use mathlib.Core.Path.{◌≡◌, refl, sym, ap, ◌∙◌}
use mathlib.Core.Bool.{true, false}
use mathlib.Core.List.{List, [], ◌∷◌, ◌++◌, append_assoc, append-nil}
use lib.Dec.{eqb}
use lib.ListN.{length, get_or, take, drop, length-append, length-drop}
use lib.Seq.{sets, sets-eq, length-sets, take_at, drop_at, drop-drop, length-take-le, take_all, take-suc, get_or-drop}
use Rattle.ids.specs.Limits.{max_servers}
use Rattle.ids.proofs.Choice.{both}
use Rattle.ids.specs.Lists.{every}
use Rattle.wire.specs.Format.{words, fields_of, bytes_of, bytes_of_all, size_of, size_of_all, valid}
use Rattle.wire.specs.Calls.{read_of, numbers_of}
use Rattle.wire.specs.declared.Fields.{Fields}
use Rattle.wire.specs.declared.Message.{Message}
use Rattle.ids.specs.declared.Refusal.{Refusal}
use Rattle.wire.proofs.BytesLaws.{stored_on}
use Rattle.wire.proofs.FormatLaws.{length-bytes_of}
use Rattle.wire.proofs.RoundTrip.{written_is_read, took}
use Rattle.wire.proofs.Sequence.{length-bytes_of_all}
use Rattle.words.specs.Messages.{no_message}
use Rattle.system.specs.Transit.{InTransit, numbered}
use Rattle.sim_transit.specs.Slots.{slot_of, slot_at, rows, slots, names, valid_slot, ascending, and_then, messages_in, transit_size, slot_size}
use Rattle.sim_transit.specs.Inner.{PostsOne}
use Rattle.sim_transit.specs.Calls.{Sized, slot_words, slots_words, posted as posted_words}
use Rattle.sim_transit.proofs.Means.{Posts}
use Rattle.sim_transit.proofs.RowsLaws.{rows_next, rows_same}
use Rattle.sim_transit.proofs.NumbersLaws.{ascends, ascends_append}
use Rattle.sim_transit.proofs.SlotLaws.{slot-again, words-valid}
use Rattle.ids.proofs.ListLaws.{every_append, every_drop}
use Rattle.sim_transit.proofs.ValidLaws.{Known, known, known-valid, slots_next, slots_same}
use Rattle.system.specs.Limits.{system_messages}

-- messages written one after another are decoded as they were
pub messages-read : (l : List Message) (rest : List ℕ) → every valid l ≡ true → messages_in (length l) (bytes_of_all l ++ rest) ≡ l
unfolding messages_in bytes_of_all
messages-read [] rest v = refl
messages-read (m ∷ l) rest v =
    let (a, b) = both (valid m) (every valid l) v in
    rw (
      append_assoc (bytes_of m) (bytes_of_all l) rest,
      written_is_read m (bytes_of_all l ++ rest) a,
      drop_at (bytes_of m) (bytes_of_all l ++ rest) (size_of m) (length-bytes_of m),
      messages-read l rest b,
    )

-- the same in a buffer that had room for them
pub messages_read_buffer : (l : List Message) (buffer : List ℕ) → every valid l ≡ true → size_of_all l ≤ length buffer
    → messages_in (length l) (sets buffer 0 (bytes_of_all l)) ≡ l
messages_read_buffer l buffer v h =
    let e = sets-eq (bytes_of_all l) buffer 0 (omega (arith, length-bytes_of_all l)) in
    rw e (messages-read l (drop (0 + length (bytes_of_all l)) buffer) v)

-- the next message of the bytes
pub record Next (count : ℕ) (s : List ℕ) : Type 0 where
  pub message : Message
  pub used : ℕ
  pub read : read_of s ≡ Ok (message, used)
  pub others : messages_in (suc count) s ≡ message ∷ messages_in count (drop used s)

pub next : (count : ℕ) (s : List ℕ) → length (messages_in (suc count) s) ≡ suc count → Next count s
unfolding messages_in
next count s h = go (read_of s) refl h
  where
    go : (p : Result (Message × ℕ) Refusal) → read_of s ≡ p → length (and_then s p (messages_in count)) ≡ suc count → Next count s
    go (Err e) q l = absurd (omega arith)
    go (Ok (m, used)) q l = record { message = m; used = used; read = q; others = rw q }

-- the bytes from a place on, as the code lends them
pub read-rest : (bytes : List ℕ) (from : ℕ) (p : Result (Fields × ℕ) Refusal) → p ≡ numbers_of (read_of (take (length bytes - from) (drop from bytes)))
    → p ≡ numbers_of (read_of (drop from bytes))
read-rest bytes from p e = rw (take_all (length bytes - from) (drop from bytes) (omega (arith, length-drop from bytes))) at e

-- one message stored, from the numbers that were read
module _ (at number from : ℕ) (bytes t : List ℕ) (p : Result (Fields × ℕ) Refusal) (e : p ≡ numbers_of (read_of (drop from bytes))) (inside : from ≤ length bytes) where
  pub record Took (f : Fields) (used : ℕ) : Type 0 where
    pub message : Message
    pub read : read_of (drop from bytes) ≡ Ok (message, used)
    pub same : fields_of message ≡ f

  pub fitting_took : (f : Fields) (used : ℕ) → p ≡ Ok (f, used) → Took f used
  fitting_took f used q = go (read_of (drop from bytes)) refl (sym e ∙ q)
    where
      go : (r : Result (Message × ℕ) Refusal) → read_of (drop from bytes) ≡ r → numbers_of r ≡ Ok (f, used) → Took f used
      go (Err x) i h = absurd (let z : ◌≡◌ {A = ℕ} 0 1 = cc in omega arith)
      go (Ok (m, u)) i h =
          let both : ◌≡◌ {A = Fields × ℕ} (fields_of m, u) (f, used) = cc in
          let y : u ≡ used = ap (λ (x : Fields × ℕ). x.1) both in
          record { message = m; read = rw y at i; same = ap (λ (x : Fields × ℕ). x.0) both }

  pub fitting_inside : (f : Fields) (used : ℕ) → p ≡ Ok (f, used) → from + used ≤ length bytes
  fitting_inside f used q =
      let T = fitting_took f used q in
      let k = took max_servers (drop from bytes) T.message used T.read in
      omega (arith, k.whole, k.used, length-drop from bytes)

  pub one-posted : (f : Fields) (used : ℕ) (t' : List ℕ) → p ≡ Ok (f, used) → t' ≡ sets t at (number ∷ (0 ∷ words f))
      → PostsOne at number from bytes t t' (from + used)
  unfolding slot_words
  one-posted f used t' q s =
      let T = fitting_took f used q in
      let both : (m : Message) (u : ℕ) → read_of (drop from bytes) ≡ Ok (m, u) → ◌≡◌ {A = Message × ℕ} (m, u) (T.message, used) = λ m u r. let z = T.read in cc in
      record {
        inside = fitting_inside f used q;
        same = ap length s ∙ length-sets t at (number ∷ (0 ∷ words f));
        behind = λ m u r. let y : u ≡ used = ap (λ (x : Message × ℕ). x.1) (both m u r) in rw y;
        put = λ m u r. let y : fields_of m ≡ f = ap (λ (x : Message × ℕ). fields_of x.0) (both m u r) ∙ T.same in rw y s;
      }

  pub none-posted : (x : Refusal) → p ≡ Err x → PostsOne at number from bytes t t from
  none-posted x q =
      record {
        inside = inside;
        same = refl;
        behind = λ m u r. absurd (let z : ◌≡◌ {A = ℕ} 0 1 = cc in omega arith);
        put = λ m u r. absurd (let z : ◌≡◌ {A = ℕ} 0 1 = cc in omega arith);
      }

-- the slot behind the last one written
module _ (t t' : List ℕ) (i : ℕ) (x : InTransit) (size : length t ≡ transit_size) (room : i < system_messages)
    (e : t' ≡ sets t (slot_size * i) (slot_words x)) where
  seven_long : length (slot_words x) ≡ slot_size
  unfolding slot_words
  seven_long = refl

  parts : t' ≡ (take (slot_size * i) t ++ slot_words x) ++ drop (slot_size * suc i) t
  parts =
      let z : slot_size * i + length (slot_words x) ≡ slot_size * suc i = omega (arith, seven_long) in
      let s = sets-eq (slot_words x) t (slot_size * i) (omega (arith, seven_long)) in
      e ∙ (rw z at s)

  pub new_size : length t' ≡ transit_size
  new_size = ap length e ∙ (length-sets t (slot_size * i) (slot_words x) ∙ size)

  before-length : length (take (slot_size * i) t) ≡ slot_size * i
  before-length = length-take-le (slot_size * i) t (omega arith)

  new_before : take (slot_size * i) t' ≡ take (slot_size * i) t
  new_before = rw (parts, append_assoc (take (slot_size * i) t) (slot_words x) (drop (slot_size * suc i) t))
      (take_at (take (slot_size * i) t) (slot_words x ++ drop (slot_size * suc i) t) (slot_size * i) before-length)

  new_here : take slot_size (drop (slot_size * i) t') ≡ slot_words x
  new_here =
      let d : drop (slot_size * i) t' ≡ slot_words x ++ drop (slot_size * suc i) t = rw
      (parts, append_assoc (take (slot_size * i) t) (slot_words x) (drop (slot_size * suc i) t))
      (drop_at (take (slot_size * i) t) (slot_words x ++ drop (slot_size * suc i) t) (slot_size * i) before-length) in
      rw d (take_at (slot_words x) (drop (slot_size * suc i) t) slot_size seven_long)

  new_behind : drop (slot_size * suc i) t' ≡ drop (slot_size * suc i) t
  new_behind =
      let l : length (take (slot_size * i) t ++ slot_words x) ≡ slot_size * suc i = omega (
        arith,
        length-append (take (slot_size * i) t) (slot_words x),
        before-length,
        seven_long,
      ) in
      rw parts (drop_at (take (slot_size * i) t ++ slot_words x) (drop (slot_size * suc i) t) (slot_size * suc i) l)

  new_rows : rows (suc i) t' ≡ rows i t ++ (slot_words x ∷ [])
  new_rows = rw (rows_next i t', new_here, rows_same i t' t (omega (arith, new_size)) (omega arith) new_before)

  module _ (v : valid x.message ≡ true) where
    pub new_slots : slots (suc i) t' ≡ slots i t ++ (x ∷ [])
    new_slots =
        let y : slot_at t' i ≡ x = ap slot_of new_here ∙ slot-again 0 0 x v in
        rw (slots_next i t', y, slots_same i t' t (omega (arith, new_size)) (omega arith) new_before)

    pub new_known : (n clients sent : ℕ) → Known n clients sent i t → names n clients x.message ≡ true → x.number ≡ suc sent
        → Known n clients (suc sent) (suc i) t'
    unfolding ascending
    new_known n clients sent K m q =
        let w : every (valid_slot n clients) (slot_words x ∷ []) ≡ true = rw (words-valid n clients x v m) in
        let o : ascending sent (suc sent) (x ∷ []) ≡ true = ascends (suc sent) sent x [] (omega arith) (omega arith) refl in
        let z : slot_size * suc i ≡ slot_size * i + slot_size = omega arith in
        record {
          size = new_size;
          few = room;
          fit = rw new_rows (every_append (valid_slot n clients) (rows i t) (slot_words x ∷ []) K.fit w);
          ordered = rw new_slots (ascends_append sent (suc sent) 0 (slots i t) (x ∷ []) (omega arith) (omega arith) K.ordered o);
          rest = rw (new_behind, z, ← drop-drop slot_size (slot_size * i) t) (every_drop (eqb 0) slot_size (drop (slot_size * i) t) K.rest);
        }

length-numbered : (i : ℕ) (l : List Message) → length (numbered i l) ≡ length l
unfolding numbered
length-numbered i [] = refl
length-numbered i (m ∷ l) = ap suc (length-numbered (suc i) l)

numbered_more : (i : ℕ) (l : List Message) (m : Message)
    → numbered i (l ++ m ∷ []) ≡ numbered i l ++ (record { number = suc (i + length l); delivered = false; message = m } ∷ [])
unfolding numbered
numbered_more i [] m = let z : i + 0 ≡ i = omega arith in rw z
numbered_more i (x ∷ l) m =
    let z : i + suc (length l) ≡ suc i + length l = omega arith in
    rw (z, numbered_more (suc i) l m)

-- the words of slots one after another
length-slot : (x : InTransit) → length (slot_words x) ≡ slot_size
unfolding slot_words
length-slot x = refl

length-slots : (l : List InTransit) → length (slots_words l) ≡ slot_size * length l
unfolding slots_words
length-slots [] = refl
length-slots (x ∷ l) = omega (arith, length-append (slot_words x) (slots_words l), length-slot x, length-slots l)

slots-more : (l : List InTransit) (x : InTransit) → slots_words (l ++ (x ∷ [])) ≡ slots_words l ++ slot_words x
unfolding slots_words
slots-more [] x = append-nil (slot_words x)
slots-more (y ∷ l) x = ap (λ (r : List ℕ). slot_words y ++ r) (slots-more l x) ∙ sym (append_assoc (slot_words y) (slots_words l) (slot_words x))

-- the first of the messages, and then the others
posted-first : (len sent : ℕ) (m : Message) (l : List Message) (t : List ℕ) → Sized (len + suc (length l)) t
    → posted_words len sent (m ∷ l) t ≡ posted_words (suc len) (suc sent) l (sets t (slot_size * len) (slot_words (record { number = suc sent; delivered = false; message = m })))
unfolding numbered slots_words
posted-first len sent m l t s =
    let x : InTransit = record { number = suc sent; delivered = false; message = m } in
    let z : slot_size * suc len ≡ slot_size * len + length (slot_words x) = omega (arith, length-slot x) in
    sym (stored_on t (sets t (slot_size * len) (slot_words x)) _ (slot_words x) (slots_words (numbered (suc sent) l)) (slot_size * len) (slot_size * suc len) refl refl z)

-- what they mean: the messages follow those that are kept
pub posts : (l : List Message) (len sent : ℕ) (t : List ℕ) → Sized (len + length l) t → every valid l ≡ true → Posts len sent l t (posted_words len sent l t)
unfolding numbered slots_words
posts [] len sent t s v =
    let z : len + 0 ≡ len = omega arith in
    let y : sent + 0 ≡ sent = omega arith in
    record { valid = λ n clients ok nm. rw (z, y) ok; after = rw (z, append-nil) }
posts (m ∷ l) len sent t s v =
    let (a, b) = both (valid m) (every valid l) v in
    let x : InTransit = record { number = suc sent; delivered = false; message = m } in
    let t₁ : List ℕ = sets t (slot_size * len) (slot_words x) in
    let free : len < system_messages = omega (arith, s.few) in
    let s₁ : Sized (suc len + length l) t₁ = record { size = new_size t t₁ len x s.size free refl; few = omega (arith, s.few) } in
    let P = posts l (suc len) (suc sent) t₁ s₁ b in
    let z : len + suc (length l) ≡ suc len + length l = omega arith in
    let y : sent + suc (length l) ≡ suc sent + length l = omega arith in
    rw (posted-first len sent m l t s)
    (record {
      valid = λ n clients ok nm.
          let (p, q) = both (names n clients m) (every (names n clients) l) nm in
          rw (z, y) (P.valid n clients
          (known-valid n clients (suc sent) (suc len) t₁ (new_known t t₁ len x s.size free refl a n clients sent (known n clients sent len t ok) p refl)) q);
      after = rw (z, P.after, new_slots t t₁ len x s.size free refl a) (append_assoc (slots len t) (x ∷ []) (numbered (suc sent) l));
    })

-- what bytes decode to are messages in range
messages-valid : (count : ℕ) (s : List ℕ) → every valid (messages_in count s) ≡ true
unfolding messages_in
messages-valid zero s = refl
messages-valid (suc count) s = go (read_of s) refl (messages-valid count)
  where
    go : (p : Result (Message × ℕ) Refusal) → read_of s ≡ p → ((r : List ℕ) → every valid (messages_in count r) ≡ true) → every valid (and_then s p (messages_in count)) ≡ true
    go (Err e) q more = refl
    go (Ok (m, used)) q more = rw ((took max_servers s m used q).range, more (drop used s))

pub posts_read : (len sent count : ℕ) (bytes t t' : List ℕ) → Sized (len + count) t → length (messages_in count bytes) ≡ count
    → t' ≡ posted_words len sent (messages_in count bytes) t → Posts len sent (messages_in count bytes) t t'
posts_read len sent count bytes t t' s w e =
    rw e (posts (messages_in count bytes) len sent t (record { size = s.size; few = omega (arith, s.few, w) }) (messages-valid count bytes))

pub posts_one : (len sent : ℕ) (m : Message) (t t' : List ℕ) → Sized (len + 1) t → valid m ≡ true → t' ≡ posted_words len sent (m ∷ []) t
    → Posts len sent (m ∷ []) t t'
posts_one len sent m t t' s v e = rw e (posts (m ∷ []) len sent t s (rw v))

-- one message stored behind the others
pub one_post : (len sent : ℕ) (m : Message) (t t' : List ℕ) → t' ≡ sets t (slot_size * len) ((sent + 1) ∷ (0 ∷ words (fields_of m)))
    → t' ≡ posted_words len sent (m ∷ []) t
unfolding slot_words slots_words numbered
one_post len sent m t t' e = rw add-one at e

-- what `post` knows before message i of M: those before it stand in the slots, and the bytes from `from` on are the others
pub record Posting (len sent count : ℕ) (bytes o t : List ℕ) (number from i : ℕ) : Type 0 where
  pub within : i ≤ count
  pub room : Sized (len + count) o
  pub whole : length (messages_in count bytes) ≡ count
  pub size : length t ≡ length o
  pub last : number ≡ sent + i
  pub inside : from ≤ length bytes
  pub rest : drop i (messages_in count bytes) ≡ messages_in (count - i) (drop from bytes)
  pub done : t ≡ posted_words len sent (take i (messages_in count bytes)) o

module _ (len sent count : ℕ) (bytes o : List ℕ) where
  pub posting_none : Sized (len + count) o → length (messages_in count bytes) ≡ count → Posting len sent count bytes o o sent 0 0
  unfolding numbered slots_words
  posting_none s w =
      let x : count - 0 ≡ count = omega arith in
      record {
        within = omega arith;
        room = s;
        whole = w;
        size = refl;
        last = omega arith;
        inside = omega arith;
        rest = rw x;
        done = refl;
      }

  module _ (t : List ℕ) (number from i : ℕ) (P : Posting len sent count bytes o t number from i) where
    module _ (h : i < count) (t' : List ℕ) (from' : ℕ) (Q : PostsOne (slot_size * (len + i)) (number + 1) from bytes t t' from') where
      left : drop i (messages_in count bytes) ≡ messages_in (suc (count - suc i)) (drop from bytes)
      left = let y : count - i ≡ suc (count - suc i) = omega arith in rw y at P.rest

      its-next : Next (count - suc i) (drop from bytes)
      its-next = next (count - suc i) (drop from bytes) (sym (ap length left) ∙ omega (arith, length-drop i (messages_in count bytes), P.whole))

      module _ (m : Message) (used : ℕ) (read : read_of (drop from bytes) ≡ Ok (m, used))
          (split : drop i (messages_in count bytes) ≡ m ∷ messages_in (count - suc i) (drop used (drop from bytes))) where
        abbrev posted : InTransit
        posted = record { number = number + 1; delivered = false; message = m }

        its-number : number + 1 ≡ suc (sent + i)
        its-number = omega (arith, P.last)

        stored : t' ≡ sets t (slot_size * (len + i)) (slot_words posted)
        stored = Q.put m used read

        others : drop (i + 1) (messages_in count bytes) ≡ messages_in (count - (i + 1)) (drop from' bytes)
        others =
            let z : count - (i + 1) ≡ count - suc i = omega arith in
            let a : drop (i + 1) (messages_in count bytes) ≡ drop 1 (m ∷ messages_in (count - suc i) (drop used (drop from bytes))) = sym
            (drop-drop 1 i (messages_in count bytes)) ∙ ap (drop 1) split in
            rw (z, Q.behind m used read, ← drop-drop used from bytes) a

        one_more : take (i + 1) (messages_in count bytes) ≡ take i (messages_in count bytes) ++ (m ∷ [])
        one_more =
            let z : i + 0 ≡ i = omega arith in
            let g : get_or (messages_in count bytes) (i + 0) no_message ≡ m = sym (get_or-drop i (messages_in count bytes) 0 no_message) ∙
            ap (λ (l : List Message). get_or l 0 no_message) split in
            let g' : get_or (messages_in count bytes) i no_message ≡ m = rw z at g in
            rw (add-one, take-suc (messages_in count bytes) i no_message (omega (arith, P.whole)), g')

        all_done : t' ≡ posted_words len sent (take (i + 1) (messages_in count bytes)) o
        all_done =
            let l : length (take i (messages_in count bytes)) ≡ i = length-take-le i (messages_in count bytes) (omega (arith, P.whole)) in
            let before : List InTransit = numbered sent (take i (messages_in count bytes)) in
            let x : InTransit = record { number = suc (sent + i); delivered = false; message = m } in
            let q : posted ≡ x = ap (λ (n : ℕ). record { number = n; delivered = false; message = m }) its-number in
            let g : slot_size * (len + i) ≡ slot_size * len + length (slots_words before) =
            omega (arith, length-slots before, length-numbered sent (take i (messages_in count bytes)), l) in
            rw (one_more, numbered_more sent (take i (messages_in count bytes)) m, l, slots-more before x)
            (stored_on o t t' (slots_words before) (slot_words x) (slot_size * len) (slot_size * (len + i)) P.done (rw q at stored) g)

        pub posting_next : Posting len sent count bytes o t' (number + 1) from' (i + 1)
        posting_next =
            record {
              within = omega arith;
              room = P.room;
              whole = P.whole;
              size = Q.same ∙ P.size;
              last = omega (arith, P.last);
              inside = Q.inside;
              rest = others;
              done = all_done;
            }

      pub posting_more : Posting len sent count bytes o t' (number + 1) from' (i + 1)
      posting_more = let N = its-next in posting_next N.message N.used N.read (left ∙ N.others)
