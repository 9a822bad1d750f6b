-- Where a client stands: as the owner, or at the place of the row that a search found.
use Rattle.ids.specs.declared.Timestamp.{Timestamp}
use Rattle.std.specs.Prelude.{Some, None, Option}
use Prim.Native.Nat.{ℕ, ◌<◌, ◌≤◌}
use native.Mathlib.Omega.{arith}
use mathlib.Core.Path.{◌≡◌}
use mathlib.Core.Bool.{Bool, true, false}
use mathlib.Core.List.{List}
use lib.ListN.{get_or}
use lib.Seq.{get_or-take}
use lib.Dec.{eqb}
use Rattle.ids.specs.Requests.{no_request}
use Rattle.ids.specs.declared.ClientId.{ClientId}
use Rattle.ids.specs.declared.Request.{Request}
use Rattle.rows.specs.Rows.{requests_in, queue_of, Padded}
use Rattle.rows.specs.Queue.{timestamp_in}
use Rattle.rows.specs.Queues.{is_client, first}
use Rattle.rows.proofs.QueueLaws.{length-queue}
use Rattle.server_votes.specs.declared.Votes.{Votes}
use Rattle.server_votes.specs.Figure1.{candidates}
use Rattle.server_votes.specs.Queues.{view}
use Rattle.server_votes.proofs.ListLaws.{timestamp-first, timestamp-none}

module _ (row : List ℕ) (len : ℕ) (good : Padded row len) (k : ClientId) (at : ℕ) (e : at ≡ first (is_client k) (queue_of row len)) where
  pub waits : (x : Request) → at < len → x ≡ get_or (requests_in row) at no_request → Some x.timestamp ≡ timestamp_in k (queue_of row len)
  waits x h p =
      let n = length-queue row len good in
      rw (timestamp-first k (queue_of row len) (omega arith), ← e, get_or-take len (requests_in row) at no_request h, p)

  pub waits_not : len ≤ at → None ≡ timestamp_in k (queue_of row len)
  waits_not h =
      let n = length-queue row len good in
      rw (timestamp-none k (queue_of row len) (omega arith))

-- line 27, by the owner
module _ (k : ClientId) (v : Votes) (row : List ℕ) where
  module _ (o : Request) (e : v.owner ≡ Some o) (a : Bool) (m : a ≡ eqb o.client.0 k.0) where
    pub stands_as_owner : a ≡ true → Some o.timestamp ≡ timestamp_in k (candidates (view v row))
    unfolding timestamp_in
    stands_as_owner t = let h : eqb o.client.0 k.0 ≡ true = cc in rw (e, h)

    pub stands_behind : (s : Option Timestamp) → a ≡ false → s ≡ timestamp_in k (queue_of row v.len)
        → s ≡ timestamp_in k (candidates (view v row))
    unfolding timestamp_in
    stands_behind s t p = let h : eqb o.client.0 k.0 ≡ false = cc in rw (e, h) p
