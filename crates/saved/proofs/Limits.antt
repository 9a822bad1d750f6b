-- A lower limit asks more: a number is within it exactly if it is within a higher one and not above the lower; a record that is valid up to it is valid up to
-- the higher one.
use Prim.Native.Nat.{ℕ, ◌≤◌}
use native.Mathlib.Omega.{arith}
use mathlib.Core.Path.{◌≡◌}
use mathlib.Core.Bool.{true, false, ◌&&◌, and-false}
use mathlib.Core.Logic.{⊎_elim}
use lib.Dec.{leb}
use borrow.Author.Tests.{le-leb, leb-true}
use Rattle.ids.specs.Limits.{within}
use Rattle.ids.proofs.Choice.{decided, both, and_true}
use Rattle.ids.proofs.LimitsLaws.{within-range}
use Rattle.rows.specs.Good.{good_row}
use Rattle.server.specs.Record as server
use Rattle.server.specs.declared.Server.{Server}
use Rattle.client.specs.Record as client
use Rattle.client.specs.declared.Client.{Client}
use Rattle.client.proofs.ValidLaws.{known_up_to, valid_up_to_lem}

module _ (limit more : ℕ) (h : limit ≤ more) where
  pub within-below : (x : ℕ) → within x limit ≡ within x more && leb x limit
  within-below x =
      ⊎_elim
      (λ (e : leb x limit ≡ true). rw (e, le-leb x more (omega (arith, leb-true x limit e, h)), and_true (leb 1 x), and_true (leb 1 x)))
      (λ (e : leb x limit ≡ false). rw (e, and-false (leb 1 x), and-false (within x more)))
      (decided (leb x limit))

  -- so a record that is valid up to it is valid up to the higher one
  sizes_below : (n x : ℕ) → within n limit && within x n ≡ true → within n more && within x n ≡ true
  sizes_below n x e =
      let (a, b) = both (within n limit) (within x n) e in
      let (l, r) = within-range n limit a in
      rw (le-leb 1 n l, le-leb n more (omega (arith, r, h)), b)

  pub server-below : (s : Server) → server.valid_up_to limit s ≡ true → server.valid_up_to more s ≡ true
  unfolding server.valid_up_to
  server-below s e =
      let (a, b) = both (server.valid_sizes_up_to limit s.head.n s.head.id && good_row s.row s.head.votes.len) (server.valid_state (server.view s)) e in
      let (z, g) = both (server.valid_sizes_up_to limit s.head.n s.head.id) (good_row s.row s.head.votes.len) a in
      rw (sizes_below s.head.n s.head.id.0 z, g, b)

  pub client-below : (c : Client) → client.valid_up_to limit c ≡ true → client.valid_up_to more c ≡ true
  client-below c e =
      let K = known_up_to limit c e in
      valid_up_to_lem more c (
      record {
        some = K.some;
        few = omega (arith, K.few, h);
        threshold = K.threshold;
        reached = K.reached;
        client = K.client;
        timestamp = K.timestamp;
        row = K.row;
        owners = K.owners;
        own = K.own;
        section = K.section;
        more = K.more;
      })
