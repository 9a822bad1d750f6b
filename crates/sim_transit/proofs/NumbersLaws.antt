-- Messages whose numbers ascend: a number stands at most once among them, so that replacing a message by its number is replacing it where it stands.
use Prim.Native.Nat.{ℕ, suc, ◌+◌, ◌<◌, ◌≤◌}
use native.Mathlib.Omega.{arith}
use mathlib.Core.Path.{◌≡◌, refl}
use mathlib.Core.Bool.{true, ◌&&◌}
use mathlib.Core.List.{List, [], ◌∷◌, ◌++◌}
use lib.Dec.{ltb, leb}
use lib.ListN.{length}
use borrow.Author.Tests.{lt-ltb, le-leb, ltb-true, leb-true, ne_eqb, eq-eqb}
use Rattle.ids.proofs.Choice.{both}
use Rattle.wire.specs.declared.Message.{Message}
use Rattle.system.specs.Transit.{InTransit, numbered, replaced}
use Rattle.sim_transit.specs.Slots.{ascending}

module _ (sent : ℕ) where
  -- what the test says of the first message and the others
  pub record Rising (last : ℕ) (x : InTransit) (l : List InTransit) : Type 0 where
    pub above : last < x.number
    pub sent_by : x.number ≤ sent
    pub others : ascending x.number sent l ≡ true

  pub rising : (last : ℕ) (x : InTransit) (l : List InTransit) → ascending last sent (x ∷ l) ≡ true → Rising last x l
  unfolding ascending
  rising last x l e =
      let (a, r) = both (ltb last x.number) (leb x.number sent && ascending x.number sent l) e in
      let (b, c) = both (leb x.number sent) (ascending x.number sent l) r in
      record { above = ltb-true _ _ a; sent_by = leb-true _ _ b; others = c }

  pub ascends : (last : ℕ) (x : InTransit) (l : List InTransit) → last < x.number → x.number ≤ sent → ascending x.number sent l ≡ true
      → ascending last sent (x ∷ l) ≡ true
  unfolding ascending
  ascends last x l a b c = rw (lt-ltb last x.number a, le-leb x.number sent b) c

  -- numbers above a number are above a lower one
  pub ascends_lower : (low last : ℕ) (l : List InTransit) → low ≤ last → ascending last sent l ≡ true → ascending low sent l ≡ true
  unfolding ascending
  ascends_lower low last [] h e = refl
  ascends_lower low last (x ∷ l) h e = let r = rising last x l e in ascends low x l (omega (arith, r.above)) r.sent_by r.others

  pub ascends_past : (last : ℕ) (a : List InTransit) (x : InTransit) (b : List InTransit) → ascending last sent (a ++ x ∷ b) ≡ true → last < x.number
  ascends_past last [] x b e = (rising last x b e).above
  ascends_past last (y ∷ a) x b e = let r = rising last y (a ++ x ∷ b) e in omega (arith, r.above, ascends_past y.number a x b r.others)

  -- one of them is left out, or another with the same number stands for it
  pub ascends_without : (last : ℕ) (a : List InTransit) (x : InTransit) (b : List InTransit) → ascending last sent (a ++ x ∷ b) ≡ true
      → ascending last sent (a ++ b) ≡ true
  ascends_without last [] x b e = let r = rising last x b e in ascends_lower last x.number b (omega (arith, r.above)) r.others
  ascends_without last (y ∷ a) x b e =
      let r = rising last y (a ++ x ∷ b) e in
      ascends last y (a ++ b) r.above r.sent_by (ascends_without y.number a x b r.others)

  pub ascends_changed : (last : ℕ) (a : List InTransit) (x y : InTransit) (b : List InTransit) → y.number ≡ x.number
      → ascending last sent (a ++ x ∷ b) ≡ true → ascending last sent (a ++ y ∷ b) ≡ true
  ascends_changed last [] x y b n e =
      let r = rising last x b e in
      ascends last y b (omega (arith, r.above)) (omega (arith, r.sent_by)) (rw (← n) at r.others)
  ascends_changed last (z ∷ a) x y b n e =
      let r = rising last z (a ++ x ∷ b) e in
      ascends last z (a ++ y ∷ b) r.above r.sent_by (ascends_changed z.number a x y b n r.others)

  -- by its number a message is replaced where it stands
  module _ (f : InTransit → List InTransit) where
    replaced-none : (i last : ℕ) (l : List InTransit) → i ≤ last → ascending last sent l ≡ true → replaced i f l ≡ l
    unfolding replaced
    replaced-none i last [] h e = refl
    replaced-none i last (x ∷ l) h e =
        let r = rising last x l e in
        let n : x.number ≡ i → ⊥ = omega (arith, r.above) in
        rw (ne_eqb x.number i n, replaced-none i x.number l (omega (arith, r.above)) r.others)

    pub replaced-there : (last : ℕ) (a : List InTransit) (x : InTransit) (b : List InTransit) → ascending last sent (a ++ x ∷ b) ≡ true
        → replaced x.number f (a ++ x ∷ b) ≡ a ++ (f x ++ b)
    unfolding replaced
    replaced-there last [] x b e =
        let r = rising last x b e in
        rw (eq-eqb x.number x.number refl, replaced-none x.number x.number b (omega arith) r.others)
    replaced-there last (y ∷ a) x b e =
        let r = rising last y (a ++ x ∷ b) e in
        let p : y.number < x.number = ascends_past y.number a x b r.others in
        let n : y.number ≡ x.number → ⊥ = omega arith in
        rw (ne_eqb y.number x.number n, replaced-there y.number a x b r.others)

-- more were sent meanwhile
pub ascends_later : (sent sent' last : ℕ) (l : List InTransit) → sent ≤ sent' → ascending last sent l ≡ true → ascending last sent' l ≡ true
unfolding ascending
ascends_later sent sent' last [] h e = refl
ascends_later sent sent' last (x ∷ l) h e =
    let r = rising sent last x l e in
    ascends sent' last x l r.above (omega (arith, r.sent_by)) (ascends_later sent sent' x.number l h r.others)

pub ascends_append : (sent sent' last : ℕ) (a b : List InTransit) → last ≤ sent → sent ≤ sent' → ascending last sent a ≡ true
    → ascending sent sent' b ≡ true → ascending last sent' (a ++ b) ≡ true
ascends_append sent sent' last [] b h g e f = ascends_lower sent' last sent b h f
ascends_append sent sent' last (x ∷ a) b h g e f =
    let r = rising sent last x a e in
    ascends sent' last x (a ++ b) r.above (omega (arith, r.sent_by)) (ascends_append sent sent' x.number a b r.sent_by g r.others f)

pub ascends_numbered : (sent : ℕ) (l : List Message) → ascending sent (sent + length l) (numbered sent l) ≡ true
unfolding ascending numbered
ascends_numbered sent [] = refl
ascends_numbered sent (m ∷ l) =
    let z : sent + suc (length l) ≡ suc sent + length l = omega arith in
    let p : sent < suc sent = omega arith in
    let q : suc sent ≤ suc sent + length l = omega arith in
    rw (z, lt-ltb sent (suc sent) p, le-leb (suc sent) (suc sent + length l) q) (ascends_numbered (suc sent) l)
