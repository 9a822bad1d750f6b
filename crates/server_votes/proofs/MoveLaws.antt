-- Each part of the code's step does what Figure 1's part does: the row holds the state's queue, the messages are its messages.
use Prim.Native.Nat.{ℕ, ◌+◌, ◌*◌, ◌-◌, ◌<◌, ◌≤◌}
use native.Mathlib.Omega.{arith}
use mathlib.Core.Path.{◌≡◌, refl, sym, ap, subst, ◌∙◌}
use mathlib.Core.Bool.{Bool, true, false, false≢true}
use mathlib.Core.List.{List, [], ◌∷◌, ◌++◌}
use lib.ListN.{length, get_or, drop}
use lib.Seq.{drop-cons, get_or-take}
use borrow.Author.Tests.{le-ltb, lt-ltb}
use Rattle.std.specs.Prelude.{if◌then◌else◌, Some, None, Option}
use Rattle.ids.specs.Order.{before}
use Rattle.ids.specs.Requests.{is_request, is_client, no_request}
use Rattle.ids.specs.declared.ClientId.{ClientId}
use Rattle.ids.specs.declared.ServerId.{ServerId}
use Rattle.ids.specs.declared.Request.{Request}
use Rattle.rows.specs.Rows.{requests_in, queue_of, Padded}
use Rattle.rows.specs.Queue.{timestamp_in, insert, without}
use Rattle.rows.specs.Queues.{is_client as at-client, first, Holds}
use Rattle.rows.proofs.QueueLaws.{length-queue, holds-still, holds_then, holds_fits}
use Rattle.rows.proofs.ListLaws.{length-insert}
use Rattle.wire.specs.Step.{Step, stay, tell}
use Rattle.wire.specs.declared.Message.{Message}
use Rattle.wire.specs.declared.Message.TheVariants.{Response}
use Rattle.server_votes.specs.declared.Votes.{Votes}
use Rattle.server_votes.specs.declared.Moved.{Moved}
use Rattle.server_votes.specs.Figure1.{State, idle, enqueue, promote, delete}
use Rattle.server_votes.specs.Queues.{view}
use Rattle.server_votes.specs.Places.{mails, MovesOne, still, telling}
use Rattle.server_votes.specs.Inner.{MovesAny, overflowing, leading, joining, informed}
use Rattle.server_votes.proofs.ListLaws.{timestamp-first, timestamp-none}

-- nothing sent, and one message sent
module _ {u : Votes} (row after : List ℕ) (m : Moved) (v : Votes) (s : Step State) (H : Holds row after v.len s.state.queue) (o : v.owner ≡ s.state.owner) where
  pub sends : (x : Option Message) → m ≡ record { votes = v; full = false; first = x; second = None; third = None } → mails x ++ [] ++ [] ≡ s.sent
      → MovesOne u row after m s
  sends x e p =
      record {
        moves = record {
          full = rw (e, le-ltb _ _ (holds_fits _ _ _ _ H));
          kept = λ f. absurd (false≢true (rw e at f));
          owner = λ f. rw e o;
          queue = λ f. rw e H;
          sent = rw e p;
          one_first = λ _. rw e;
          two_first = λ _. rw e;
        };
        second = rw e;
        third = rw e;
      }

  pub moves-still : m ≡ still v → [] ≡ s.sent → MovesOne u row after m s
  moves-still e p = sends None e p

  pub moves-telling : (x : Message) → m ≡ telling v x → x ∷ [] ≡ s.sent → MovesOne u row after m s
  moves-telling x e p = sends (Some x) e p

-- the row is too short, and stays
pub moves-overflowing : (row : List ℕ) (m : Moved) (v : Votes) (s : Step State) (x : Message) → length row < 2 * length s.state.queue
    → m ≡ overflowing v x → x ∷ [] ≡ s.sent → MovesOne v row row m s
moves-overflowing row m v s x h e p =
    let not_so : m.full ≡ false → ⊥ = λ f. false≢true (sym (rw e at f)) in
    record {
      moves = record { full = rw (e, lt-ltb _ _ h); kept = λ f. (refl, rw e); owner = λ f. absurd (not_so f); queue = λ f. absurd (not_so f); sent = rw e p; one_first = λ _. rw e; two_first = λ _. rw e };
      second = rw e;
      third = rw e;
    }

pub moves-leading : (row after : List ℕ) (j : ServerId) (h : Request) (l : List Request) (m : Moved) (n : ℕ) → Holds row after n l
    → m ≡ leading j h n → MovesAny row after m (promote j (h ∷ l))
unfolding promote
moves-leading row after j h l m n H e =
    record {
      from = λ u. moves-telling row after m (record { owner = Some h; len = n }) (promote j (h ∷ l)) H refl (Response h.client j (Some h)) e refl;
    }

module _ (row : List ℕ) (len : ℕ) (good : Padded row len) where
  empty : len ≡ 0 → Holds row row 0 []
  empty e = rw e at (holds-still row len good)

  head_first : (len ≡ 0 → ⊥) → queue_of row len ≡ get_or (requests_in row) 0 no_request ∷ drop 1 (queue_of row len)
  head_first n =
      let l = length-queue row len good in
      let z : 0 < length (queue_of row len) = omega arith in
      let o : 0 < len = omega arith in
      drop-cons (queue_of row len) 0 no_request z ∙ rw (get_or-take len (requests_in row) 0 no_request o)

  module _ (j : ServerId) (m : Moved) where
    pub promoted_none : len ≡ 0 → m ≡ still (record { owner = None; len = 0 }) → MovesAny row row m (promote j (queue_of row len))
    unfolding promote
    promoted_none e p = rw e (record { from = λ u. moves-still row row m (record { owner = None; len = 0 }) (stay idle) (empty e) refl p refl })

    -- r joins an empty queue, and leads
    pub rotated_alone : (r : Request) → len ≡ 0 → m ≡ leading j r 0 → MovesAny row row m (promote j (insert r (queue_of row len)))
    unfolding insert
    rotated_alone r e p = rw e (moves-leading row row j r [] m 0 (empty e) p)

    module _ (h : Request) (n : len ≡ 0 → ⊥) (e : h ≡ get_or (requests_in row) 0 no_request) where
      whole : queue_of row len ≡ h ∷ drop 1 (queue_of row len)
      whole = rw e (head_first n)

      pub promoted_head : (after : List ℕ) → Holds row after (len - 1) (drop 1 (queue_of row len)) → m ≡ leading j h (len - 1)
          → MovesAny row after m (promote j (queue_of row len))
      promoted_head after H p = subst (λ (t : List Request). MovesAny row after m (promote j t)) (sym whole)
          (moves-leading row after j h (drop 1 (queue_of row len)) m (len - 1) H p)

      module _ (r : Request) (b : Bool) (o : b ≡ before r h) where
        inserted-list : (x : Bool) → before r h ≡ x → insert r (queue_of row len) ≡ (if x then r ∷ queue_of row len else h ∷ insert r (drop 1 (queue_of row len)))
        unfolding insert
        inserted-list x p = ap (insert r) whole ∙ rw p (ap (λ (t : List Request). if x then r ∷ t else h ∷ insert r (drop 1 (queue_of row len))) (sym whole))

        pub rotated_first : b ≡ true → m ≡ leading j r len → MovesAny row row m (promote j (insert r (queue_of row len)))
        rotated_first t p = rw (inserted-list true (sym o ∙ t)) (moves-leading row row j r (queue_of row len) m len (holds-still row len good) p)

        pub rotated_behind : (mid after : List ℕ) (k : ℕ) → b ≡ false → Holds row mid (len - 1) (drop 1 (queue_of row len)) → k ≡ len - 1 + 1
            → Holds mid after (len - 1 + 1) (insert r (queue_of mid (len - 1)))
            → m ≡ leading j h k → MovesAny row after m (promote j (insert r (queue_of row len)))
        rotated_behind mid after k f H q G p =
            rw (inserted-list false (sym o ∙ f)) (moves-leading row after j h (insert r (drop 1 (queue_of row len))) m k
            (rw q (holds_then row mid after (len - 1) (len - 1 + 1) _ (insert r) H G)) p)

-- Delete: the owner's place goes to the head of the queue, any other's is closed
module _ (j : ServerId) (r : Request) (v : Votes) (row after : List ℕ) (b : Bool) (o : b ≡ is_request r v.owner) (m : Moved) where
  pub deleted-owner : b ≡ true → MovesAny row after m (promote j (queue_of row v.len)) → MovesOne v row after m (delete j r (view v row))
  unfolding delete
  deleted-owner t p = let e : is_request r v.owner ≡ true = cc in rw e (p.from v)

  pub deleted_waiting : (n : ℕ) → b ≡ false → Holds row after n (without r (queue_of row v.len))
      → m ≡ still (record { owner = v.owner; len = n }) → MovesOne v row after m (delete j r (view v row))
  unfolding delete
  deleted_waiting n f H p =
      let e : is_request r v.owner ≡ false = cc in
      rw e (moves-still row after m (record { owner = v.owner; len = n })
      (stay (record { owner = v.owner; queue = without r (queue_of row v.len) })) H refl p refl)

-- r waits, unless its client does already, or the row is too short
module _ (j : ServerId) (r : Request) (v : Votes) (row : List ℕ) (good : Padded row v.len) (at : ℕ)
    (e : at ≡ first (at-client r.client) (queue_of row v.len)) (m : Moved) where
  pub joined-again : at < v.len → m ≡ telling v (Response r.client j v.owner) → MovesOne v row row m (joining j r (view v row))
  unfolding enqueue
  joined-again l p =
      let n = length-queue row v.len good in
      rw (timestamp-first r.client (queue_of row v.len) (omega arith))
      (moves-telling row row m v (tell (view v row) (Response r.client j v.owner)) (holds-still row v.len good) refl _ p refl)

  module _ (g : v.len ≤ at) where
    new : timestamp_in r.client (queue_of row v.len) ≡ None
    new = let n = length-queue row v.len good in timestamp-none r.client (queue_of row v.len) (omega arith)

    pub joined-full : length row < 2 * v.len + 2 → m ≡ overflowing v (Response r.client j v.owner) → MovesOne v row row m (joining j r (view v row))
    unfolding enqueue
    joined-full l p =
        let n = length-queue row v.len good in
        let i = length-insert r (queue_of row v.len) in
        let over : length row < 2 * length (insert r (queue_of row v.len)) = omega arith in
        rw new (moves-overflowing row m v
        (tell (record { owner = v.owner; queue = insert r (queue_of row v.len) }) (Response r.client j v.owner)) _ over p refl)

    pub joined_new : (after : List ℕ) (n : ℕ) → n ≡ v.len + 1 → Holds row after (v.len + 1) (insert r (queue_of row v.len))
        → m ≡ telling (record { owner = v.owner; len = n }) (Response r.client j v.owner)
        → MovesOne v row after m (joining j r (view v row))
    unfolding enqueue
    joined_new after n q H p =
        rw new
        (moves-telling row after m (record { owner = v.owner; len = n })
        (tell (record { owner = v.owner; queue = insert r (queue_of row v.len) }) (Response r.client j v.owner)) (rw q H) refl _ p
        refl)

-- RESPONSE to a client that is not the owner
module _ (j : ServerId) (k : ClientId) (o : Option Request) (b : Bool) (e : b ≡ is_client k o) where
  pub informs_not : b ≡ true → [] ≡ informed j k o
  informs_not t = let c : is_client k o ≡ true = cc in rw c

  pub informs : b ≡ false → Response k j o ∷ [] ≡ informed j k o
  informs f = let c : is_client k o ≡ false = cc in rw c
