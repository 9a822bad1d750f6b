-- The margin in the machine's signed numbers, and its sign: at most 0 exactly if 2 m ≤ n + f.
use mathlib.Core.Path.{◌≡◌, refl, ap, ◌∙◌}
use Prim.Native.Nat.{ℕ, zero, suc, ◌+◌, ◌-◌, ◌*◌, ◌≤◌, ◌<◌}
use native.Mathlib.Omega.{arith}
use mathlib.Core.Bool.{true, false, ◌&&◌}
use mathlib.Core.Logic.{inl, inr}
use lib.Dec.{leb, ltb}
use lib.IntN.{ℤ, pos, negsuc, sub_ℕ, ◌-ℤ◌}
use lib.Signed.{le_z, mag}
use mir.Syntax.{w32}
use mir.Val.{SFits, to_z, of_z}
use mir.Facts.{to_z-of_z}
use borrow.Author.Tests.{lt-ltb, le-ltb, le-leb, lt-leb, leb-true, leb-false, ltb-true, ltb-false}
use Rattle.ids.specs.Limits.{within, max_servers}
use Rattle.ids.proofs.Choice.{decided, both, Test}
use Rattle.quorum.specs.Check.{in_range_up_to, margin, is_unsafe}

-- a setting in range, up to a limit of servers
pub record Range (limit n m f : ℕ) : Type 0 where
  pub some : 0 < n
  pub servers : n ≤ limit
  pub positive : 0 < m
  pub threshold : m ≤ n
  pub faults : f ≤ n

pub range : (limit n m f : ℕ) → in_range_up_to limit n m f ≡ true → Range limit n m f
unfolding in_range_up_to
range limit n m f e =
    let a = both (within n limit) (within m n && leb f n) e in
    let b = both (within m n) (leb f n) a.1 in
    let c = both (leb 1 n) (leb n limit) a.0 in
    let d = both (leb 1 m) (leb m n) b.0 in
    record {
      some = leb-true 1 n c.0;
      servers = leb-true n limit c.1;
      positive = leb-true 1 m d.0;
      threshold = leb-true m n d.1;
      faults = leb-true f n b.1;
    }

-- differences of small numbers
mag_sub_pos : (a b : ℕ) → mag (sub_ℕ a b) ≤ a + b
mag_sub_pos a b = go (decided (ltb a b))
  where
    go : Test (ltb a b) → mag (sub_ℕ a b) ≤ a + b
    go (inl e) = rw e (omega arith)
    go (inr e) = rw e (omega arith)

pub mag_sub : (z : ℤ) (c : ℕ) → mag (z -ℤ pos c) ≤ mag z + c
mag_sub (pos a) zero = omega arith
mag_sub (pos a) (suc c) = mag_sub_pos a (suc c)
mag_sub (negsuc a) zero = rw (lt-ltb 0 (suc a) (omega arith)) (omega arith)
mag_sub (negsuc a) (suc c) = omega arith

bound : {z : ℤ} → mag z ≤ 4 * max_servers → SFits w32 z
bound h = record { sfits = omega (arith, h) }

bits : (a : ℕ) → a ≤ 4 * max_servers → to_z w32 a ≡ pos a
bits a h = to_z-of_z (bound h)

-- the two differences as the machine makes them
pub first_fits : (a b : ℕ) → a ≤ 2 * max_servers → b ≤ max_servers → SFits w32 (to_z w32 a -ℤ to_z w32 b)
first_fits a b p q = rw (bits a (omega arith), bits b (omega arith)) (bound (omega (arith, mag_sub (pos a) b)))

first_read : (a b : ℕ) → a ≤ 2 * max_servers → b ≤ max_servers → to_z w32 (of_z w32 (to_z w32 a -ℤ to_z w32 b)) ≡ pos a -ℤ pos b
first_read a b p q = to_z-of_z (first_fits a b p q) ∙ rw (bits a (omega arith), bits b (omega arith))

pub second_fits : (a b c : ℕ) → a ≤ 2 * max_servers → b ≤ max_servers → c ≤ max_servers → SFits w32 (to_z w32 (of_z w32 (to_z w32 a -ℤ to_z w32 b)) -ℤ to_z w32 c)
second_fits a b c p q r = rw (first_read a b p q, bits c (omega arith)) (bound (omega (arith, mag_sub (pos a -ℤ pos b) c, mag_sub (pos a) b)))

pub margin-read : (n m f : ℕ) → n ≤ max_servers → m ≤ max_servers → f ≤ max_servers →
    to_z w32 (of_z w32 (to_z w32 (of_z w32 (to_z w32 (2 * m) -ℤ to_z w32 n)) -ℤ to_z w32 f)) ≡ margin n m f
unfolding margin
margin-read n m f p q r =
    to_z-of_z (second_fits (2 * m) n f (omega arith) p r) ∙ rw (first_read (2 * m) n (omega arith) p, bits f (omega arith))

-- the margin as it is handed on, in 32 bits
pub margin-kept : (n m f : ℕ) (by : ℤ) → (n ≤ max_servers) × (m ≤ n) × (f ≤ n) → by ≡ margin n m f → to_z w32 (of_z w32 by) ≡ margin n m f
unfolding margin
margin-kept n m f by r e = rw e (to_z-of_z (bound (omega (arith, mag_sub (pos (2 * m) -ℤ pos n) f, mag_sub (pos (2 * m)) n, r.0, r.1, r.2))))

-- the margin's sign
sub_sign : (a b : ℕ) → (pos a -ℤ pos b) ≡ sub_ℕ a b
sub_sign a zero = rw (le-ltb a 0 (omega arith)) (let z : a + 0 ≡ a - 0 = omega arith in ap pos z)
sub_sign a (suc b) = refl

sub_more : (a b c : ℕ) → sub_ℕ a b -ℤ pos c ≡ sub_ℕ a (b + c)
sub_more a b zero = go (decided (ltb a b))
  where
    go : Test (ltb a b) → sub_ℕ a b -ℤ pos zero ≡ sub_ℕ a (b + zero)
    go (inl e) =
        let lt = ltb-true a b e in
        let y : suc (b - suc a) - 1 ≡ b - suc a = omega arith in
        let z : b ≡ b + 0 = omega arith in
        rw (e, lt-ltb 0 (suc (b - suc a)) (omega arith), y, ← z, e)
    go (inr e) =
        let y : a - b + 0 ≡ a - b = omega arith in
        let z : b ≡ b + 0 = omega arith in
        rw (e, y, ← z, e)
sub_more a b (suc c) = go (decided (ltb a b))
  where
    go : Test (ltb a b) → sub_ℕ a b -ℤ pos (suc c) ≡ sub_ℕ a (b + suc c)
    go (inl e) =
        let lt = ltb-true a b e in
        let y : suc (b - suc a + c) ≡ b + suc c - suc a = omega arith in
        rw (e, lt-ltb a (b + suc c) (omega arith), y)
    go (inr e) = here (decided (ltb (a - b) (suc c)))
      where
        here : Test (ltb (a - b) (suc c)) → sub_ℕ a b -ℤ pos (suc c) ≡ sub_ℕ a (b + suc c)
        here (inl g) =
            let ge = ltb-false a b e in
            let lt = ltb-true (a - b) (suc c) g in
            let y : suc c - suc (a - b) ≡ b + suc c - suc a = omega arith in
            rw (e, g, lt-ltb a (b + suc c) (omega arith), y)
        here (inr g) =
            let ge = ltb-false a b e in
            let le = ltb-false (a - b) (suc c) g in
            let y : a - b - suc c ≡ a - (b + suc c) = omega arith in
            rw (e, g, le-ltb a (b + suc c) (omega arith), y)

at_most : (a b : ℕ) → le_z (sub_ℕ a b) (pos 0) ≡ leb a b
at_most a b = go (decided (ltb a b))
  where
    go : Test (ltb a b) → le_z (sub_ℕ a b) (pos 0) ≡ leb a b
    go (inl e) = let lt = ltb-true a b e in rw (e, le-leb a b (omega arith))
    go (inr e) = here (decided (leb a b))
      where
        here : Test (leb a b) → le_z (sub_ℕ a b) (pos 0) ≡ leb a b
        here (inl g) = let ge = ltb-false a b e in let le = leb-true a b g in rw (e, g, le-leb (a - b) 0 (omega arith))
        here (inr g) = let gt = leb-false a b g in rw (e, g, lt-leb (a - b) 0 (omega arith))

pub margin_difference : (n m f : ℕ) → margin n m f ≡ sub_ℕ (2 * m) (n + f)
unfolding margin
margin_difference n m f = rw (sub_sign (2 * m) n) (sub_more (2 * m) n f)

pub unsafe_test : (n m f : ℕ) → is_unsafe n m f ≡ leb (2 * m) (n + f)
unfolding is_unsafe
unsafe_test n m f = rw (margin_difference n m f) (at_most (2 * m) (n + f))

pub is-unsafe : (n m f : ℕ) → 2 * m ≤ n + f → is_unsafe n m f ≡ true
is-unsafe n m f h = unsafe_test n m f ∙ le-leb (2 * m) (n + f) h

pub is_safe : (n m f : ℕ) → n + f < 2 * m → is_unsafe n m f ≡ false
is_safe n m f h = unsafe_test n m f ∙ lt-leb (2 * m) (n + f) h
