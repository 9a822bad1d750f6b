-- A message of one client never takes the vote from another: only the owner's own message, or its being suspected, moves it.
use Rattle.std.specs.Prelude.{Some, None, Option}
use mathlib.Core.Path.{◌≡◌, ap, ◌∙◌}
use mathlib.Core.Bool.{true, false}
use mathlib.Core.Logic.{⊎_elim}
use lib.Dec.{eqb, ltb}
use Rattle.ids.specs.Choice.{maybe}
use Rattle.ids.specs.Requests.{same}
use Rattle.ids.specs.declared.ServerId.{ServerId}
use Rattle.ids.specs.declared.Request.{Request}
use Rattle.ids.specs.declared.Timestamp.{Timestamp}
use Rattle.ids.proofs.Choice.{decided}
use Rattle.rows.specs.Queue.{timestamp_in}
use Rattle.server_votes.specs.declared.Tag.{Tag}
use Rattle.server_votes.specs.declared.Tag.TheVariants.{Request as REQUEST, Yield as YIELD, Release as RELEASE, Inquiry as INQUIRY}
use Rattle.server_votes.specs.Figure1.{State, candidates, delete, act, compare, receive}
use Rattle.server_votes.proofs.RoomLaws.{informed-state}

module _ (j : ServerId) (r o : Request) (other : eqb o.client.0 r.client.0 ≡ false) where
  not_its_pair : (t : Timestamp) → same o (record { client = r.client; timestamp = t }) ≡ false
  unfolding same
  not_its_pair t = rw other

  delete_leaves : (t : Timestamp) (q : State) → q.owner ≡ Some o → (delete j (record { client = r.client; timestamp = t }) q).state.owner ≡ Some o
  unfolding delete
  delete_leaves t q e = rw (e, not_its_pair t)

  act_leaves : (tag : Tag) (q : State) → q.owner ≡ Some o → (act j tag r q).state.owner ≡ Some o
  unfolding act
  act_leaves REQUEST q e = rw (e, other)
  act_leaves YIELD q e = ap (λ (x : State). x.owner) (informed-state j r.client _) ∙ rw (e, not_its_pair r.timestamp)
  act_leaves RELEASE q e = delete_leaves r.timestamp q e
  act_leaves INQUIRY q e = rw e (ap (λ (x : State). x.owner) (informed-state j r.client (record { owner = Some o; queue = q.queue })))

  compare_leaves : (tag : Tag) (q : State) (t : Timestamp) → q.owner ≡ Some o → (compare j tag r q t).state.owner ≡ Some o
  compare_leaves tag q t e =
      ⊎_elim
      (λ (a : ltb r.timestamp.0 t.0 ≡ true). rw a e)
      (λ (a : ltb r.timestamp.0 t.0 ≡ false).
      ⊎_elim
      (λ (b : ltb t.0 r.timestamp.0 ≡ true). rw (a, b) (act_leaves tag _ (delete_leaves t q e)))
      (λ (b : ltb t.0 r.timestamp.0 ≡ false). rw (a, b) (act_leaves tag q e))
      (decided (ltb t.0 r.timestamp.0)))
      (decided (ltb r.timestamp.0 t.0))

  by_standing : (s : Option Timestamp) (tag : Tag) (q : State) → q.owner ≡ Some o → (maybe s (act j tag r q) (compare j tag r q)).state.owner ≡ Some o
  by_standing None tag q e = act_leaves tag q e
  by_standing (Some t) tag q e = compare_leaves tag q t e

  pub other_owner_stays : (tag : Tag) (q : State) → q.owner ≡ Some o → (receive j tag r q).state.owner ≡ Some o
  unfolding receive
  other_owner_stays tag q e = by_standing (timestamp_in r.client (candidates q)) tag q e
