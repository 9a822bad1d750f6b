-- The messages in transit are lent with their index, and come back changed: the simulation differs in them alone.
use mathlib.Core.Path.{◌≡◌, refl, ap, ◌∙◌}
use Prim.Native.Nat.{ℕ, ◌-◌, ◌≤◌}
use native.Mathlib.Omega.{arith}
use mathlib.Core.Bool.{true}
use mathlib.Core.List.{List, map}
use lib.ListN.{length, set, take, drop}
use lib.Seq.{sets, length-sets}
use borrow.Rule.Slice.PartMut.{put_mid}
use Rattle.ids.specs.declared.ServerId.{ServerId}
use Rattle.system.specs.Limits.{system_messages}
use Rattle.system.specs.Transit.{replaced, keeping, gone, again}
use Rattle.sim_indexed.specs.Indexed.{indexed_size, in_transit, slot_in}
use Rattle.sim_indexed.specs.Calls.{Valid, Place, Marks, Removes, Restarts}
use Rattle.sim_indexed.proofs.IndexedLaws.{parts}
use Rattle.sim_layout.specs.Layout.{setting_of, length_of, sent_of, transit_words, view, valid, transit_from, simulation_size}
use Rattle.sim_layout.proofs.ValidLaws.{facts}
use Rattle.sim_layout.proofs.ReadLaws.{lent-sized, few_servers}
use Rattle.sim_layout.proofs.EntryLaws.{few, lent-valid}
use Rattle.sim_layout.proofs.LendLaws.{came_back}
use Rattle.sim_changes.specs.Changes.{Becomes, HasServer, with_transit}
use Rattle.sim_changes.proofs.Becoming.{transit-becomes, length-becomes}

pub server-place : (w : List ℕ) (j : ServerId) → HasServer w j → Place j
server-place w j H = record { first = H.first; last = omega (arith, H.last, few_servers w H.valid) }

module _ (w : List ℕ) (ok : valid w ≡ true) where
  pub transit-count : length_of w ≤ system_messages
  transit-count = (lent-sized w ok).few

  abbrev lent : List ℕ
  lent = take indexed_size (drop transit_from w)

  old : Valid (setting_of w).n (setting_of w).clients (sent_of w) (length_of w) lent
  old = lent-valid w ok

  its-transit : in_transit (length_of w) lent ≡ (view w).transit
  unfolding view transit_words
  its-transit = refl

  its-slot : (i : ℕ) → (slot_in lent i).number ≡ (slot_in (transit_words w) i).number
  unfolding transit_words
  its-slot i = refl

  -- t came back, as so many messages
  stored : (t : List ℕ) (len : ℕ) → Valid (setting_of w).n (setting_of w).clients (sent_of w) len t → put_mid transit_from indexed_size w t ≡ sets w transit_from t
  stored t len ok' = came_back w transit_from indexed_size t (parts (setting_of w).n (setting_of w).clients (sent_of w) len t ok').size
      (omega (arith, (facts w ok).long))

  pub restart-becomes : (j : ServerId) (t : List ℕ) → Restarts (length_of w) j lent t
      → Becomes w (put_mid transit_from indexed_size w t) (with_transit (view w) (map (again j) (view w).transit))
  restart-becomes j t R =
      let ok' = R.valid (setting_of w).n (setting_of w).clients (sent_of w) (few w ok) old in
      let e = R.after (setting_of w).n (setting_of w).clients (sent_of w) (few w ok) old in
      rw (stored t (length_of w) ok', ← its-transit, ← e) (transit-becomes w ok t ok')

  pub mark-becomes : (i : ℕ) (t : List ℕ) → Marks (length_of w) i lent t
      → Becomes w (put_mid transit_from indexed_size w t) (with_transit (view w) (replaced (slot_in (transit_words w) i).number keeping (view w).transit))
  mark-becomes i t M =
      let ok' = M.valid (setting_of w).n (setting_of w).clients (sent_of w) (few w ok) old in
      let e = M.after (setting_of w).n (setting_of w).clients (sent_of w) (few w ok) old in
      rw (stored t (length_of w) ok', ← its-slot i, ← its-transit, ← e) (transit-becomes w ok t ok')

  module _ (i : ℕ) (t : List ℕ) (R : Removes (length_of w) i lent t) where
    fewer : Valid (setting_of w).n (setting_of w).clients (sent_of w) (length_of w - 1) t
    fewer = R.valid (setting_of w).n (setting_of w).clients (sent_of w) (few w ok) old

    pub remove_becomes : Becomes w (set (put_mid transit_from indexed_size w t) 4 (length_of w - 1))
        (with_transit (view w) (replaced (slot_in (transit_words w) i).number gone (view w).transit))
    remove_becomes =
        let e = R.after (setting_of w).n (setting_of w).clients (sent_of w) (few w ok) old in
        rw (stored t (length_of w - 1) fewer, ← its-slot i, ← its-transit, ← e) (length-becomes w ok t (length_of w - 1) fewer)

    pub removed-long : length (put_mid transit_from indexed_size w t) ≡ simulation_size
    removed-long = ap length (stored t (length_of w - 1) fewer) ∙ (length-sets w transit_from t ∙ (facts w ok).long)
