-- Lines 26 to 45 from their parts: each test of the code is one of the figure's.
use Rattle.std.specs.Prelude.{Some, None, Option}
use Prim.Native.Nat.{ℕ, ◌*◌, ◌<◌, ◌≤◌}
use native.Mathlib.Omega.{arith}
use mathlib.Core.Path.{◌≡◌, refl, sym, ap, ◌∙◌, subst}
use mathlib.Core.Bool.{Bool, true, false, false≢true}
use mathlib.Core.List.{List, [], ◌∷◌, ◌++◌, append_assoc, append-nil}
use mathlib.Core.Logic.{⊎_elim}
use lib.ListN.{length}
use borrow.Author.Tests.{le-ltb, lt-ltb}
use Rattle.ids.specs.Requests.{is_request, is_client, by_owner}
use Rattle.ids.proofs.Choice.{decided}
use Rattle.ids.specs.declared.ClientId.{ClientId}
use Rattle.ids.specs.declared.ServerId.{ServerId}
use Rattle.ids.specs.declared.Request.{Request}
use Rattle.ids.specs.declared.Timestamp.{Timestamp}
use Rattle.rows.specs.Rows.{queue_of, Padded}
use Rattle.rows.specs.Queue.{timestamp_in, insert}
use Rattle.rows.specs.Queues.{Holds}
use Rattle.rows.proofs.QueueLaws.{length-queue, holds-still, holds-again}
use Rattle.rows.proofs.ListLaws.{length-insert}
use Rattle.wire.specs.Step.{Step, stay, tell, ◌then◌}
use Rattle.wire.specs.declared.Message.{Message}
use Rattle.wire.specs.declared.Message.TheVariants.{Response}
use Rattle.server_votes.specs.declared.Votes.{Votes}
use Rattle.server_votes.specs.declared.Moved.{Moved}
use Rattle.server_votes.specs.declared.Tag.{Tag}
use Rattle.server_votes.specs.declared.Tag.TheVariants.{Request as REQUEST, Yield as YIELD, Release as RELEASE, Inquiry as INQUIRY}
use Rattle.server_votes.specs.Figure1.{State, candidates, promote, delete, inform, act, compare, receive}
use Rattle.server_votes.specs.Queues.{view}
use Rattle.server_votes.specs.Places.{Moves, MovesOne, still, mails}
use Rattle.server_votes.specs.Inner.{MovesAny, MovesTwo, leading, informed, joining, Informs, Followed, joined, joined_by}
use Rattle.server_votes.proofs.MoveLaws.{sends, moves-still, moves-telling}
use Rattle.server_votes.proofs.RoomLaws.{informed-state, length_promoted, length-deleted, renewed_fits}

module _ (v : Votes) (row : List ℕ) (good : Padded row v.len) where
  pub fits : 2 * length (queue_of row v.len) ≤ length row
  fits = omega (arith, length-queue row v.len good, good.within, good.places.even)

  pub stays : (m : Moved) → m ≡ still v → MovesOne v row row m (stay (view v row))
  stays m e = moves-still row row m v (stay (view v row)) (holds-still row v.len good) refl e refl

  pub delete-fits : (j : ServerId) (o : Request) → 2 * length (delete j o (view v row)).state.queue ≤ length row
  delete-fits j o = omega (arith, length-deleted j o (view v row), fits)

  module _ (j : ServerId) (r : Request) where
    -- REQUEST
    module _ (b : Bool) (e : b ≡ is_client r.client v.owner) where
      pub requests-again : (m : Moved) → b ≡ true → m ≡ still v → MovesOne v row row m (act j REQUEST r (view v row))
      unfolding act
      requests-again m t p = let c : is_client r.client v.owner ≡ true = cc in rw c (stays m p)

      pub requests-first : (m : Moved) → v.owner ≡ None → m ≡ leading j r v.len → MovesOne v row row m (act j REQUEST r (view v row))
      unfolding act
      requests-first m o p =
          rw o
          (moves-telling row row m (record { owner = Some r; len = v.len })
          (tell (record { owner = Some r; queue = queue_of row v.len }) (Response r.client j (Some r))) (holds-still row v.len good)
          refl _ p refl)

      pub requests : (after : List ℕ) (m : Moved) (o : Request) → b ≡ false → v.owner ≡ Some o
          → MovesOne v row after m (joining j r (view v row)) → MovesOne v row after m (act j REQUEST r (view v row))
      unfolding act
      requests after m o f a p = let c : is_client r.client v.owner ≡ false = cc in rw c (rw a (rw a at p))

    -- INQUIRY
    pub inquires_nobody : (m : Moved) → v.owner ≡ None → m ≡ still v → MovesTwo v row row m (act j INQUIRY r (view v row))
    unfolding act
    inquires_nobody m o p = let s = stays m p in rw o record { moves = rw o at s.moves; third = s.third }

pub informed-sent : (j : ServerId) (k : ClientId) (x : State) → (inform j k x).sent ≡ informed j k x.owner
unfolding inform
informed-sent j k x = ⊎_elim (λ (c : is_client k x.owner ≡ true). rw c) (λ (c : is_client k x.owner ≡ false). rw c) (decided (is_client k x.owner))

-- a part whose queue has room goes through
module _ {v : Votes} (row after : List ℕ) (p : Moved) (s : Step State) (M : Moves v row after p s) (fits : 2 * length s.state.queue ≤ length row) where
  pub goes : p.full ≡ false
  goes = M.full ∙ le-ltb _ _ fits

  pub holds : Holds row after p.votes.len s.state.queue
  holds = M.queue goes

  pub left : view p.votes after ≡ s.state
  left = let a = M.owner goes in let b = holds.list in λ i. record { owner = a i; queue = b i }

-- the messages of a part that sent at most one
only : {v : Votes} (row after : List ℕ) (p : Moved) (s : Step State) → MovesOne v row after p s → mails p.first ≡ s.sent
only row after p s one = sym (append-nil (mails p.first)) ∙ sym (append-nil (mails p.first ++ [])) ∙ rw (one.second, one.third) at one.moves.sent

pub at_most_two : {v : Votes} (row after : List ℕ) (m : Moved) (s : Step State) → MovesOne v row after m s → MovesTwo v row after m s
at_most_two row after m s one = record { moves = one.moves; third = one.third }

-- `inform` alone
module _ (j : ServerId) (k : ClientId) (v : Votes) (row : List ℕ) (good : Padded row v.len) (m : Moved) (f : Informs j k v m) where
  pub informs : MovesOne v row row m (inform j k (view v row))
  informs =
      let whole : m ≡ record { votes = v; full = false; first = m.first; second = None; third = None } =
      (let a = f.votes in let b = f.full in let c = f.second in let d = f.third in
      λ i. record { votes = a i; full = b i; first = m.first; second = c i; third = d i }) in
      sends row row m v (inform j k (view v row)) (rw (informed-state j k (view v row)) (holds-still row v.len good))
      (rw (informed-state j k (view v row)) refl) m.first whole
      (append-nil (mails m.first ++ []) ∙ (append-nil (mails m.first) ∙ (f.first ∙ sym (informed-sent j k (view v row)))))

-- `inform` behind a part that sent one message
module _ (j : ServerId) (k : ClientId) {v : Votes} (row after : List ℕ) (p : Moved) (s : Step State) (one : MovesOne v row after p s)
    (fits : 2 * length s.state.queue ≤ length row) (told : p.first ≡ None → ⊥) (m : Moved) (f : Followed j k p m) where
  pub follows : MovesTwo v row after m (s then inform j k)
  follows =
      let g = goes row after p s one.moves fits in
      let e : informed j k p.votes.owner ≡ informed j k s.state.owner = ap (informed j k) (one.moves.owner g) in
      let second : mails m.second ≡ (inform j k s.state).sent = f.second ∙ e ∙ sym (informed-sent j k s.state) in
      let first : mails m.first ≡ s.sent = ap mails f.first ∙ only row after p s one in
      record {
        moves = record {
          full = rw (informed-state j k s.state) (f.full ∙ one.moves.full);
          kept = λ n. let z = one.moves.kept (sym f.full ∙ n) in (z.0, f.votes ∙ z.1);
          owner = λ n. rw (informed-state j k s.state, f.votes) (one.moves.owner g);
          queue = λ n. rw (informed-state j k s.state, f.votes) (holds row after p s one.moves fits);
          sent = rw (f.third, append-nil, first, second);
          one_first = λ n. absurd (told (sym f.first ∙ n));
          two_first = λ _. f.third;
        };
        third = f.third;
      }

-- a queue with somebody in it has a head, who is told
told-head : (j : ServerId) (l : List Request) → 0 < length l → (promote j l).sent ≡ [] → ⊥
unfolding promote
told-head j [] h e = absurd (omega arith)
told-head j (x ∷ l) h e = omega (arith, ap length e)

module _ (j : ServerId) (r : Request) (v : Votes) (row : List ℕ) (good : Padded row v.len) where
  -- YIELD
  module _ (b : Bool) (e : b ≡ is_request r v.owner) where
    pub yields : (after : List ℕ) (p m : Moved) → b ≡ true → MovesAny row after p (promote j (insert r (queue_of row v.len)))
        → Followed j r.client p m → MovesTwo v row after m (act j YIELD r (view v row))
    unfolding act
    yields after p m t any f =
        let c : is_request r v.owner ≡ true = cc in
        let one = any.from v in
        let q : List Request = insert r (queue_of row v.len) in
        let n = length_promoted j q in
        let l = length-insert r (queue_of row v.len) in
        let told : p.first ≡ None → ⊥ = λ z. told-head j q (omega (arith, l)) (sym (only row after p (promote j q) one) ∙ ap mails z) in
        rw c (follows j r.client row after p (promote j q) one (omega (arith, fits v row good)) told m f)

    pub yields_not : (m : Moved) → b ≡ false → Informs j r.client v m → MovesTwo v row row m (act j YIELD r (view v row))
    unfolding act
    yields_not m t f =
        let c : is_request r v.owner ≡ false = cc in
        let one = informs j r.client v row good m f in
        rw c (at_most_two row row m (inform j r.client (view v row)) one)

  -- INQUIRY at a server with an owner
  pub inquires : (m : Moved) (o : Request) → v.owner ≡ Some o → Informs j r.client v m → MovesTwo v row row m (act j INQUIRY r (view v row))
  unfolding act
  inquires m o a f =
      let e : inform j r.client (view v row) ≡ by_owner v.owner (stay (view v row)) (λ (o' : Request). inform j r.client (view v row)) =
      sym (ap (λ (w : Option Request). by_owner w (stay (view v row)) (λ (o' : Request). inform j r.client (view v row))) a) in
      subst (λ (t : Step State). MovesTwo v row row m t) e
      (at_most_two row row m (inform j r.client (view v row)) (informs j r.client v row good m f))

-- any tag
module _ (j : ServerId) (tag : Tag) (r : Request) (q : State) {v : Votes} (row after : List ℕ) (m : Moved) where
  pub acts_one : (t : Tag) → tag ≡ t → MovesOne v row after m (act j t r q) → MovesTwo v row after m (act j tag r q)
  acts_one t e one = rw e (at_most_two row after m (act j t r q) one)

  pub acts_two : (t : Tag) → tag ≡ t → MovesTwo v row after m (act j t r q) → MovesTwo v row after m (act j tag r q)
  acts_two t e two = rw e two

  pub releases : tag ≡ RELEASE → MovesOne v row after m (delete j r q) → MovesTwo v row after m (act j tag r q)
  unfolding act
  releases e one = rw e (at_most_two row after m (delete j r q) one)

-- one part after another, by whether the first tells anybody
pub joins_none : (d a : Moved) → d.first ≡ None → a ≡ joined d a
joins_none d a e = ap (λ (x : Option Message). joined_by x d a) (sym e)

pub joins_one : (d a : Moved) (x : Message) → d.first ≡ Some x → joined_by (Some x) d a ≡ joined d a
joins_one d a x e = ap (λ (y : Option Message). joined_by y d a) (sym e)

-- a part with at most two messages after one with at most one, where both have room
module _ (v : Votes) (row mid end : List ℕ) (d a m : Moved) (s : Step State) (g : State → Step State) (one : MovesOne v row mid d s)
    (room : 2 * length s.state.queue ≤ length row) (two : MovesTwo d.votes mid end a (g s.state))
    (fits : 2 * length (g s.state).state.queue ≤ length row) where
  size : length mid ≡ length row
  size = (holds row mid d s one.moves room).size

  behind : mails a.first ++ mails a.second ≡ (g s.state).sent
  behind = sym (append-nil (mails a.first ++ mails a.second)) ∙ rw two.third at two.moves.sent

  fine : a.full ≡ false
  fine = goes mid end a (g s.state) two.moves (rw size fits)

  -- nobody was told before: the second part's messages are all
  after_none : d.first ≡ None → m ≡ a → Moves v row end m (s then g)
  after_none z e =
      let nobody : [] ≡ s.sent = ap mails (sym z) ∙ only row mid d s one in
      record {
        full = rw e (fine ∙ sym (le-ltb _ _ fits));
        kept = λ n. absurd (false≢true (sym fine ∙ rw e at n));
        owner = λ n. rw e (two.moves.owner fine);
        queue = λ n. rw e (holds-again row mid end _ _ size (two.moves.queue fine));
        sent = rw (e, ← nobody) two.moves.sent;
        one_first = λ n. rw e (two.moves.one_first (rw e at n));
        two_first = λ n. rw e two.third;
      }

  after_one : (x : Message) → d.first ≡ Some x → m ≡ joined_by (Some x) d a → Moves v row end m (s then g)
  after_one x z e =
      record {
        full = rw e (fine ∙ sym (le-ltb _ _ fits));
        kept = λ n. absurd (false≢true (sym fine ∙ rw e at n));
        owner = λ n. rw e (two.moves.owner fine);
        queue = λ n. rw e (holds-again row mid end _ _ size (two.moves.queue fine));
        sent = rw (e, append_assoc, only row mid d s one, behind);
        one_first = λ n. let q : Some x ≡ None = sym z ∙ rw e at n in let y : ◌≡◌ {A = ℕ} 0 1 = cc in absurd (omega arith);
        two_first = λ n. rw e (two.moves.one_first (rw e at n));
      }

  after : m ≡ joined d a → Moves v row end m (s then g)
  after e = go d.first refl e
    where
      go : (x : Option Message) → d.first ≡ x → m ≡ joined_by x d a → Moves v row end m (s then g)
      go None z e = after_none z e
      go (Some x) z e = after_one x z e

-- lines 28 and 29
module _ (j : ServerId) (tag : Tag) (r : Request) (v : Votes) (row : List ℕ) (good : Padded row v.len) (t : Timestamp) where
  pub compares_older : (m : Moved) → r.timestamp.0 < t.0 → m ≡ still v → Moves v row row m (compare j tag r (view v row) t)
  compares_older m h e = rw (lt-ltb _ _ h) (stays v row good m e).moves

  abbrev old : Request
  old = record { client = r.client; timestamp = t }

  module _ (mid : List ℕ) (d : Moved) (one : MovesOne v row mid d (delete j old (view v row))) where
    pub deleted-padded : Padded mid d.votes.len
    deleted-padded = (holds row mid d _ one.moves (delete-fits v row good j old)).good

    pub compares_newer : (end : List ℕ) (a m : Moved) → timestamp_in r.client (candidates (view v row)) ≡ Some t → t.0 < r.timestamp.0
        → MovesTwo d.votes mid end a (act j tag r (view d.votes mid)) → m ≡ joined d a
        → Moves v row end m (compare j tag r (view v row) t)
    compares_newer end a m st h two e =
        let le : t.0 ≤ r.timestamp.0 = omega arith in
        let room : 2 * length (act j tag r (delete j old (view v row)).state).state.queue ≤ length row = omega (
          arith,
          renewed_fits j r tag t (view v row) st,
          fits v row good,
        ) in
        rw (le-ltb _ _ le, lt-ltb _ _ h)
        (after v row mid end d a m _ (act j tag r) one (delete-fits v row good j old)
        (rw (left row mid d _ one.moves (delete-fits v row good j old)) at two) room e)

  pub compares_same : (end : List ℕ) (m : Moved) → t.0 ≤ r.timestamp.0 → r.timestamp.0 ≤ t.0
      → MovesTwo v row end m (act j tag r (view v row)) → Moves v row end m (compare j tag r (view v row) t)
  compares_same end m h g two = rw (le-ltb _ _ h, le-ltb _ _ g) two.moves

-- lines 26 to 45, by where the sender stands
module _ (j : ServerId) (tag : Tag) (r : Request) (q : State) {v : Votes} (row after : List ℕ) (m : Moved) (w : Option Timestamp)
    (e : w ≡ timestamp_in r.client (candidates q)) where
  pub receives_new : w ≡ None → MovesTwo v row after m (act j tag r q) → Moves v row after m (receive j tag r q)
  unfolding receive
  receives_new a two = rw (sym e ∙ a) two.moves

  pub receives_known : (t : Timestamp) → w ≡ Some t → Moves v row after m (compare j tag r q t) → Moves v row after m (receive j tag r q)
  unfolding receive
  receives_known t a p = rw (sym e ∙ a) p
