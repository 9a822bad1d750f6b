-- Line 29 makes room: where the older pair stands, the queue without it and with what the message adds is no longer than it was.
use Prim.Native.Nat.{suc, ◌-◌, ◌<◌, ◌≤◌}
use native.Mathlib.Omega.{arith}
use mathlib.Core.Path.{◌≡◌, refl, sym, ap, ◌∙◌}
use mathlib.Core.Bool.{Bool, true, false}
use mathlib.Core.List.{List, [], ◌∷◌}
use lib.ListN.{length}
use Rattle.ids.specs.Choice.{maybe}
use Rattle.std.specs.Prelude.{if◌then◌else◌, Some, None, Option}
use Rattle.ids.specs.Requests.{is_request, is_client}
use Rattle.ids.specs.declared.ClientId.{ClientId}
use Rattle.ids.specs.declared.ServerId.{ServerId}
use Rattle.ids.specs.declared.Request.{Request}
use Rattle.ids.specs.declared.Timestamp.{Timestamp}
use Rattle.rows.specs.Queue.{timestamp_in, insert, without}
use Rattle.rows.specs.Queues.{is_client as at-client}
use Rattle.rows.proofs.ListLaws.{length-insert, length_without}
use Rattle.wire.specs.Step.{stay, tell}
use Rattle.wire.specs.declared.Message.TheVariants.{Response}
use Rattle.server_votes.specs.declared.Tag.{Tag}
use Rattle.server_votes.specs.declared.Tag.TheVariants.{Request as REQUEST, Yield as YIELD, Release as RELEASE, Inquiry as INQUIRY}
use Rattle.server_votes.specs.Figure1.{State, candidates, enqueue, promote, delete, inform, admit, act}
use Rattle.server_votes.proofs.ListLaws.{its-pair, without_standing}

module _ (j : ServerId) (k : ClientId) (x : State) where
  informed-head : (b : Bool) → (if b then stay x else tell x (Response k j x.owner)).state ≡ x
  informed-head true = refl
  informed-head false = refl

  pub informed-state : (inform j k x).state ≡ x
  unfolding inform
  informed-state = informed-head (is_client k x.owner)

pub length_promoted : (j : ServerId) (l : List Request) → length (promote j l).state.queue ≤ length l - 1
unfolding promote
length_promoted j [] = omega arith
length_promoted j (h ∷ l) = omega arith

deleted-head : (b : Bool) (j : ServerId) (r : Request) (q : State)
    → length (if b then promote j q.queue else stay (record { owner = q.owner; queue = without r q.queue })).state.queue ≤ length q.queue
deleted-head true j r q = omega (arith, length_promoted j q.queue)
deleted-head false j r q = length_without r q.queue

pub length-deleted : (j : ServerId) (r : Request) (q : State) → length (delete j r q).state.queue ≤ length q.queue
unfolding delete
length-deleted j r q = deleted-head (is_request r q.owner) j r q

-- a message adds one request at most, and none where there is no owner
module _ (j : ServerId) (r : Request) where
  enqueued_head : (x : Option Timestamp) (l : List Request) → length (maybe x (insert r l) (λ (t : Timestamp). l)) ≤ suc (length l)
  enqueued_head None l = omega (arith, length-insert r l)
  enqueued_head (Some t) l = omega arith

  length_enqueued : (l : List Request) → length (enqueue r l) ≤ suc (length l)
  unfolding enqueue
  length_enqueued l = enqueued_head (timestamp_in r.client l) l

  module _ (l : List Request) where
    requested-head : (b : Bool) (o : Option Request) → length (if b then stay (record { owner = o; queue = l }) else tell
        (admit r (record { owner = o; queue = l }))
        (Response r.client j (admit r (record { owner = o; queue = l })).owner)).state.queue ≤ suc (length l)
    requested-head true o = omega arith
    requested-head false None = omega arith
    requested-head false (Some o) = length_enqueued l

    yielded-head : (b : Bool) (o : Option Request) → length (if b then promote j (insert r l) else stay (record { owner = o; queue = l })).state.queue ≤ length l
    yielded-head true o = omega (arith, length_promoted j (insert r l), length-insert r l)
    yielded-head false o = omega arith

    pub length_inquired : (o : Option Request) → length (act j INQUIRY r (record { owner = o; queue = l })).state.queue ≤ length l
    unfolding act
    length_inquired None = omega arith
    length_inquired (Some o) = omega (arith, ap (λ (x : State). length x.queue) (informed-state j r.client (record { owner = Some o; queue = l })))

    pub length-yielded : (o : Option Request) → length (act j YIELD r (record { owner = o; queue = l })).state.queue ≤ length l
    unfolding act
    length-yielded o =
        let x = (if is_request r o then promote j (insert r l) else stay (record { owner = o; queue = l })).state in
        omega (arith, ap (λ (x : State). length x.queue) (informed-state j r.client x), yielded-head (is_request r o) o)

  pub length_acted : (tag : Tag) (q : State) → length (act j tag r q).state.queue ≤ suc (length q.queue)
  unfolding act
  length_acted REQUEST q = requested-head q.queue (is_client r.client q.owner) q.owner
  length_acted YIELD q = omega (arith, length-yielded q.queue q.owner)
  length_acted RELEASE q = omega (arith, length-deleted j r q)
  length_acted INQUIRY q = omega (arith, length_inquired q.queue q.owner)

  acted_alone : (tag : Tag) (l : List Request) → length (act j tag r (record { owner = None; queue = l })).state.queue ≤ length l
  unfolding act
  acted_alone REQUEST l = omega arith
  acted_alone YIELD l = length-yielded l None
  acted_alone RELEASE l = length-deleted j r (record { owner = None; queue = l })
  acted_alone INQUIRY l = length_inquired l None

  promoted_acted : (tag : Tag) (l : List Request) → length (act j tag r (promote j l).state).state.queue ≤ length l
  unfolding promote
  promoted_acted tag [] = acted_alone tag []
  promoted_acted tag (h ∷ l) = length_acted tag (record { owner = Some h; queue = l })

  -- the older pair of the sender stands
  module _ (tag : Tag) (t : Timestamp) where
    abbrev old : Request
    old = record { client = r.client; timestamp = t }

    renewed_head : (b : Bool) (q : State) → (b ≡ false → length (without old q.queue) < length q.queue)
        → length (act j tag r
        (if b then promote j q.queue else stay (record { owner = q.owner; queue = without old q.queue })).state).state.queue ≤ length
        q.queue
    renewed_head true q n = promoted_acted tag q.queue
    renewed_head false q n = omega (arith, length_acted tag (record { owner = q.owner; queue = without old q.queue }), n refl)

    -- if the pair is not the owner's, it waits
    waiting_head : (b : Bool) (o : Request) (l : List Request) → at-client r.client o ≡ b
        → (if b then Some o.timestamp else timestamp_in r.client l) ≡ Some t → is_request old (Some o) ≡ false
        → timestamp_in r.client l ≡ Some t
    waiting_head true o l a e f = let z : true ≡ false = sym (its-pair r.client t o true a refl cc) ∙ f in cc
    waiting_head false o l a e f = e

    waiting : (o : Option Request) (l : List Request) → timestamp_in r.client (candidates (record { owner = o; queue = l })) ≡ Some t
        → is_request old o ≡ false → timestamp_in r.client l ≡ Some t
    unfolding timestamp_in
    waiting None l e f = e
    waiting (Some o) l e f = waiting_head (at-client r.client o) o l refl e f

    pub renewed_fits : (q : State) → timestamp_in r.client (candidates q) ≡ Some t
        → length (act j tag r (delete j old q).state).state.queue ≤ length q.queue
    unfolding delete
    renewed_fits q e = renewed_head (is_request old q.owner) q (λ f. without_standing r.client t q.queue (waiting q.owner q.queue e f))
