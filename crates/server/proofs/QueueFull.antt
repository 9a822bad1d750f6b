-- Refusal 14 is a REQUEST's alone: every other message leaves the queue at most as long as it was. A valid record refuses it exactly if,
-- the older pair gone, the client would have to join and every place is taken.
use Rattle.std.specs.Prelude.{Some, None, Option}
use mathlib.Core.Path.{◌≡◌, refl, sym, ◌∙◌}
use Prim.Native.Nat.{ℕ, ◌*◌, ◌≤◌, ◌<◌}
use native.Mathlib.Omega.{arith}
use mathlib.Core.Bool.{true, false}
use mathlib.Core.Logic.{inl, inr, ⊎_elim, ◌↔◌}
use mathlib.Core.List.{List}
use lib.Dec.{ltb}
use lib.ListN.{length}
use borrow.Author.Tests.{eqb-true, eq-eqb, ltb-true, lt-ltb, le-ltb}
use Rattle.ids.specs.Choice.{maybe}
use Rattle.ids.specs.Limits.{max_servers}
use Rattle.ids.specs.Requests.{is_client}
use Rattle.ids.specs.declared.ClientId.{ClientId}
use Rattle.ids.specs.declared.ServerId.{ServerId}
use Rattle.ids.specs.declared.Timestamp.{Timestamp}
use Rattle.ids.specs.declared.Request.{Request as Pair}
use Rattle.ids.specs.declared.Refusal.TheVariants.{QueueFull}
use Rattle.ids.proofs.Choice.{decided, Test, clash}
use Rattle.wire.specs.Format as format
use Rattle.wire.specs.Step.{Step, Outcome, refused, stepped}
use Rattle.wire.specs.declared.Message.TheVariants.{Request}
use Rattle.server_votes.specs.declared.Tag.{Tag}
use Rattle.server_votes.specs.declared.Tag.TheVariants.{Request as REQUEST, Yield as YIELD, Release as RELEASE, Inquiry as INQUIRY}
use Rattle.rows.specs.Rows.{requests_in}
use Rattle.rows.specs.Queue.{timestamp_in, insert}
use Rattle.rows.proofs.ListLaws.{length-insert}
use Rattle.server_votes.specs.Figure1.{State, candidates, enqueue, delete, act, compare, receive}
use Rattle.server_votes.proofs.RoomLaws.{length-deleted, length-yielded, length_inquired}
use Rattle.server.specs.declared.Server.{Server}
use Rattle.server.specs.Record.{behind_owner, valid, view}
use Rattle.server.specs.Calls.{held, message_outcome_up_to, message_outcome}
use Rattle.server.specs.Full.{NoPlace, without_pair, without_older, Full}
use Rattle.server.proofs.RecordLaws.{valid-padded}
use Rattle.server.proofs.KeepsValid.{Good, delete-good, view-good, its-room}

module _ (j : ServerId) where
  act_shorter : (tag : Tag) (r : Pair) (q : State) → (tag ≡ REQUEST → ⊥) → length (act j tag r q).state.queue ≤ length q.queue
  unfolding act
  act_shorter REQUEST r q n = absurd (n refl)
  act_shorter YIELD r q n = length-yielded j r q.queue q.owner
  act_shorter RELEASE r q n = length-deleted j r q
  act_shorter INQUIRY r q n = length_inquired j r q.queue q.owner

  receive_shorter : (tag : Tag) (r : Pair) (q : State) → (tag ≡ REQUEST → ⊥) → length (receive j tag r q).state.queue ≤ length q.queue
  unfolding receive
  receive_shorter tag r q n = go (timestamp_in r.client (candidates q))
    where
      compared : (t : Timestamp) → Test (ltb r.timestamp.0 t.0) → Test (ltb t.0 r.timestamp.0)
          → length (compare j tag r q t).state.queue ≤ length q.queue
      compared t (inl a) b = rw a (omega arith)
      compared t (inr a) (inl b) =
          let old : Pair = record { client = r.client; timestamp = t } in
          rw (a, b) (omega (arith, act_shorter tag r (delete j old q).state n, length-deleted j old q))
      compared t (inr a) (inr b) = rw (a, b) (act_shorter tag r q n)

      go : (o : Option Timestamp) → length (maybe o (act j tag r q) (compare j tag r q)).state.queue ≤ length q.queue
      go None = act_shorter tag r q n
      go (Some t) = compared t (decided (ltb r.timestamp.0 t.0)) (decided (ltb t.0 r.timestamp.0))

  -- no message but a REQUEST is refused 14
  pub full_by_request : (words : ℕ) (tag : Tag) (r : Pair) (q : State) → (tag ≡ REQUEST → ⊥) → 2 * length q.queue ≤ words
      → held words (receive j tag r q) ≡ stepped (receive j tag r q)
  full_by_request words tag r q n h = rw (le-ltb words (2 * length (receive j tag r q).state.queue) (omega (arith, receive_shorter tag r q n)))

none_some : {A B : Type 0} {u : A} → ◌≡◌ {A = Option A} None (Some u) → B
none_some e = let z : ◌≡◌ {A = ℕ} 0 1 = cc in absurd (omega arith)

-- a client that neither owns nor waits stands nowhere
standing_none : (k : ClientId) (o : Option Pair) (l : List Pair) → is_client k o ≡ false → timestamp_in k l ≡ None
    → timestamp_in k (candidates (record { owner = o; queue = l })) ≡ None
unfolding timestamp_in
standing_none k None l out e = e
standing_none k (Some o) l out e = rw out e

-- a REQUEST makes the queue longer than its places exactly if it finds none
module _ (j : ServerId) (r : Pair) (places words : ℕ) (even : words ≡ 2 * places) (some-place : 0 < words) where
  abbrev Longer : Step State → State → Type 0
  Longer x q = (words < 2 * length x.state.queue) ↔ NoPlace words r.client q

  joins : (o : Pair) (l : List Pair) (t : Option Timestamp) → timestamp_in r.client l ≡ t → is_client r.client (Some o) ≡ false → 2 * length l ≤ words
      → (words < 2 * length (maybe t (insert r l) (λ u. l))) ↔ NoPlace words r.client (record { owner = Some o; queue = l })
  joins o l None e out h =
      (λ lt. record { not_owner = out; not_waiting = e; all_taken = omega (arith, length-insert r l) }, λ f. omega (arith, length-insert r l, f.all_taken))
  joins o l (Some u) e out h = (λ lt. absurd (omega arith), λ f. none_some (sym f.not_waiting ∙ e))

  act-longer : (o : Option Pair) (l : List Pair) → 2 * length l ≤ words → behind_owner (record { owner = o; queue = l }) ≡ true
      → Longer (act j REQUEST r (record { owner = o; queue = l })) (record { owner = o; queue = l })
  unfolding act enqueue
  act-longer None l h b =
      let z : length l ≡ 0 = eqb-true (length l) 0 b in
      (λ lt. absurd (omega arith), λ f. absurd (omega (arith, f.all_taken)))
  act-longer (Some o) l h b =
      ⊎_elim
      (λ (e : is_client r.client (Some o) ≡ true). rw e (λ lt. absurd (omega arith), λ f. clash _ e f.not_owner))
      (λ (e : is_client r.client (Some o) ≡ false). rw e (joins o l (timestamp_in r.client l) refl e h))
      (decided (is_client r.client (Some o)))

  module _ (q : State) (g : Good q) (h : 2 * length q.queue ≤ words) where
    kept-longer : Longer (act j REQUEST r q) q
    kept-longer = act-longer q.owner q.queue h g.behind

    compare-longer : (t : Timestamp) → timestamp_in r.client (candidates q) ≡ Some t → Longer (compare j REQUEST r q t) (without_pair j r q t)
    compare-longer t e = go (decided (ltb r.timestamp.0 t.0)) (decided (ltb t.0 r.timestamp.0))
      where
        go : Test (ltb r.timestamp.0 t.0) → Test (ltb t.0 r.timestamp.0) → Longer (compare j REQUEST r q t) (without_pair j r q t)
        go (inl a) (inl b) = absurd (omega (arith, ltb-true r.timestamp.0 t.0 a, ltb-true t.0 r.timestamp.0 b))
        go (inl a) (inr b) =
            rw (a, b) (λ lt. absurd (omega arith), λ f. none_some (sym (standing_none r.client q.owner q.queue f.not_owner f.not_waiting) ∙ e))
        go (inr a) (inl b) =
            let old : Pair = record { client = r.client; timestamp = t } in
            let x : State = (delete j old q).state in
            rw (a, b) (act-longer x.owner x.queue (omega (arith, length-deleted j old q)) (delete-good j old q g).behind)
        go (inr a) (inr b) = rw (a, b) kept-longer

    receive-longer : Longer (receive j REQUEST r q) (without_older j r q)
    unfolding receive
    receive-longer = go (timestamp_in r.client (candidates q)) refl
      where
        go : (o : Option Timestamp) → timestamp_in r.client (candidates q) ≡ o
            → Longer (maybe o (act j REQUEST r q) (compare j REQUEST r q)) (maybe o q (without_pair j r q))
        go None e = kept-longer
        go (Some t) e = compare-longer t e

held-full : (words : ℕ) (x : Step State) → (held words x ≡ refused QueueFull) ↔ (words < 2 * length x.state.queue)
held-full words x = (from, λ lt. rw (lt-ltb words (2 * length x.state.queue) lt))
  where
    from : held words x ≡ refused QueueFull → words < 2 * length x.state.queue
    from e =
        ⊎_elim (λ (b : ltb words (2 * length x.state.queue) ≡ true). ltb-true _ _ b)
        (λ (b : ltb words (2 * length x.state.queue) ≡ false).
        let w : ◌≡◌ {A = Outcome State} (stepped x) (refused QueueFull) = rw b at e in
        let z : ◌≡◌ {A = ℕ} 0 1 = cc in absurd (omega arith))
        (decided (ltb words (2 * length x.state.queue)))

-- A valid record, whose row has a place at all, refuses a REQUEST in range for it with 14 exactly if it is full.
pub full_refuses : (s : Server) → valid s ≡ true → 0 < length s.row → (k : ClientId) (j : ServerId) (t : Timestamp)
    → format.valid (Request k j t) ≡ true → j.0 ≡ s.head.id.0
    → (message_outcome s (Request k j t) ≡ refused QueueFull) ↔ Full s (record { client = k; timestamp = t })
unfolding message_outcome_up_to
full_refuses s v some-place k j t w e =
    let r : Pair = record { client = k; timestamp = t } in
    let id : ServerId = s.head.id in
    let words : ℕ = length s.row in
    let a = held-full words (receive id REQUEST r (view s)) in
    let b = receive-longer id r (length (requests_in s.row)) words (valid-padded max_servers s v).places.even some-place (view s)
    (view-good max_servers s v).1 (its-room max_servers s v) in
    rw (v, w, eq-eqb j.0 id.0 e) (λ h. b.0 (a.0 h), λ f. a.1 (b.1 f))
