-- A call's outcome from its parts: what was done is the definition's step, or the refusal left everything as it was; and the same call by value.
use Rattle.wire.specs.declared.Sent.{Sent}
use Rattle.std.specs.Prelude.{Ok, Err, Result}
use Prim.Native.Nat.{ℕ}
use mathlib.Core.Path.{◌≡◌, refl, sym, ap, ◌∙◌}
use mathlib.Core.Bool.{Bool, true, false, not}
use mathlib.Core.List.{List}
use mathlib.Core.Logic.{⊎_elim}
use lib.Dec.{eqb, ltb}
use lib.ListN.{length}
use Rattle.std.proofs.lemmas.Bool.{not-true, not-false}
use Rattle.ids.proofs.Choice.{decided}
use Rattle.ids.specs.Refusals.{accepts}
use Rattle.ids.specs.declared.Refusal.{Refusal}
use Rattle.ids.specs.declared.Refusal.TheVariants.{NotForServer, QueueFull}
use Rattle.ids.specs.declared.ClientId.{ClientId}
use Rattle.ids.specs.declared.ServerId.{ServerId}
use Rattle.ids.specs.declared.Timestamp.{Timestamp}
use Rattle.rows.proofs.QueueLaws.{holds-length, holds_row}
use Rattle.wire.specs.Format.{size_of_all}
use Rattle.wire.specs.Step.{Step, Outcome, refused, stepped, with_room, sent_into}
use Rattle.wire.proofs.SaysLaws.{answer-said}
use Rattle.server_votes.specs.declared.Moved.{Moved}
use Rattle.server_votes.specs.declared.Tag.{Tag}
use Rattle.server_votes.specs.Figure1.{State, receive}
use Rattle.server_votes.specs.Queues.{view}
use Rattle.server_votes.specs.Places.{Moves}
use Rattle.server.specs.declared.Head.{Head}
use Rattle.server.specs.declared.Server.{Server}
use Rattle.server.specs.declared.Stepped.{Stepped}
use Rattle.server.specs.declared.Turned.{Turned}
use Rattle.server.specs.Record.{server_of}
use Rattle.server.specs.Parts.{three_mails, sent_answer, sent_buffer}
use Rattle.server.specs.Inner.{refusing, doing, answers_by, buffers_by, answering, buffering, keeping}
use Rattle.server.specs.Calls.{head_after, row_after, result, Gives, taken}
use Rattle.server.specs.Rows.{ruling_of, sent_of, Turns}

module _ (h : Head) (row : List ℕ) (o : Outcome State) (r : Turned) where
  pub turns_refused : (e : Refusal) → o ≡ refused e → r ≡ refusing h e → Turns h row o r row
  unfolding three_mails
  turns_refused e p q = record { ruled = rw (q, p); head = rw (q, p); row = rw p; sent = rw (q, p); said = rw (q, p) }

  pub turns_done : (after : List ℕ) (m : Moved) (s : Step State) → o ≡ stepped s → Moves h.votes row after m s → m.full ≡ false → r ≡ doing h m → Turns h row o r after
  unfolding three_mails
  turns_done after m s p M f q =
      let H = M.queue f in
      let a : m.votes.owner ≡ s.state.owner = M.owner f in
      let b : m.votes.len ≡ length s.state.queue = sym (holds-length row after m.votes.len s.state.queue H) in
      let v : head_after h (stepped s) ≡ record { n = h.n; id = h.id; votes = m.votes } =
      λ i. record { n = h.n; id = h.id; votes = record { owner = sym a i; len = sym b i } } in
      record {
        ruled = rw (q, p);
        head = rw (q, p) (sym v);
        row = rw p (holds_row row after m.votes.len s.state.queue H);
        sent = rw (q, p) M.sent;
        said = rw (q, p) (ap accepts M.sent);
      }

-- a message of some tag
module _ (h : Head) (row : List ℕ) (tag : Tag) (k : ClientId) (j : ServerId) (t : Timestamp) (r : Turned) where
  module _ (x : Bool) (e : x ≡ not (eqb j.0 h.id.0)) where
    pub takes_not : x ≡ true → r ≡ refusing h NotForServer → Turns h row (taken (server_of h row) tag k j t) r row
    takes_not n p =
        let other = not-true (eqb j.0 h.id.0) cc in
        turns_refused h row (taken (server_of h row) tag k j t) r NotForServer (rw other) p

    same : x ≡ false → eqb j.0 h.id.0 ≡ true
    same n = not-false (eqb j.0 h.id.0) cc

  module _ (x : Bool) (e : x ≡ not (eqb j.0 h.id.0)) (n : x ≡ false) (after : List ℕ) (m : Moved)
      (M : Moves h.votes row after m (receive h.id tag (record { client = k; timestamp = t }) (view h.votes row))) where
    pub takes-full : m.full ≡ true → r ≡ refusing h QueueFull → Turns h row (taken (server_of h row) tag k j t) r after
    takes-full f p =
        let kept = (M.kept f).0 in
        rw kept (turns_refused h row (taken (server_of h row) tag k j t) r QueueFull (rw (same x e n, ← M.full, f)) p)

    pub takes : m.full ≡ false → r ≡ doing h m → Turns h row (taken (server_of h row) tag k j t) r after
    takes f p = turns_done h row (taken (server_of h row) tag k j t) r after m _ (rw (same x e n, ← M.full, f)) M f p

-- the answer of a call by value, by its ruling
module _ (t : Turned) (out : List ℕ) where
  pub answers-refused : (e : Refusal) → t.ruling ≡ Err e → (Err e ≡ answering t (length out)) × (out ≡ buffering t out)
  answers-refused e p = (rw p, rw p)

  pub answers-done : (a : Result Sent Refusal) (l : List ℕ) → t.ruling ≡ Ok tt
      → (a ≡ sent_answer (three_mails t.first t.second t.third) (length out)) × (l ≡ sent_buffer (three_mails t.first t.second t.third) out)
      → (a ≡ answering t (length out)) × (l ≡ buffering t out)
  answers-done a l p q = rw p q

-- a call by value is the call on its row: answer, record and buffer are those of the outcome
module _ (s : Server) (out : List ℕ) where
  by_outcome : (o : Outcome State)
      → (keeping s (head_after s.head o) (row_after s.row o) (answers_by (ruling_of o) (sent_of o) (length out)) ≡ result s (with_room (length out) o))
      × (buffers_by (ruling_of o) (sent_of o) out ≡ sent_into out (with_room (length out) o))
  unfolding with_room sent_answer sent_buffer
  by_outcome (refused e) = (refl, refl)
  by_outcome (stepped p) =
      ⊎_elim
      (λ (t : ltb (length out) (size_of_all p.sent) ≡ true). rw t (refl, refl))
      (λ (t : ltb (length out) (size_of_all p.sent) ≡ false). rw t (refl, refl))
      (decided (ltb (length out) (size_of_all p.sent)))

  pub turns_by_value : (o : Outcome State) (t : Turned) (row : List ℕ) (r : Stepped) (l : List ℕ) → Turns s.head s.row o t row
      → (r ≡ keeping s t.head row (answering t (length out))) × (l ≡ buffering t out)
      → Gives s (with_room (length out) o) out r l
  turns_by_value o t row r l T (a, b) =
      let (x, y) = by_outcome o in
      let e : r ≡ result s (with_room (length out) o) = a ∙ rw (T.head, T.row, T.ruled, T.sent) x in
      (e, b ∙ rw (T.ruled, T.sent) y, answer-said (with_room (length out) o) r.answer (ap (λ (t : Stepped). t.answer) e))
