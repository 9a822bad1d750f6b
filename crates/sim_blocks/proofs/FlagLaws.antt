-- The flags that are set: how many, and what setting one adds.
use Prim.Native.Nat.{ℕ, zero, suc, ◌+◌, ◌≤◌, ◌<◌}
use native.Mathlib.Numerals.{add-one}
use native.Mathlib.Omega.{arith}
use mathlib.Core.Path.{◌≡◌, refl, sym, ap, ◌∙◌}
use mathlib.Core.Bool.{Bool, true, false}
use mathlib.Core.List.{List, [], ◌∷◌, ◌++◌, map}
use mathlib.Core.Logic.{⊎_elim}
use lib.Dec.{eqb}
use lib.ListN.{length, get_or, take, drop, set}
use lib.Seq.{take-suc, take_all}
use Rattle.std.specs.Prelude.{if◌then◌else◌}
use Rattle.std.specs.Int.{from_bool}
use Rattle.std.specs.List.{count_by}
use Rattle.std.proofs.Common.{not, cond}
use Rattle.std.proofs.lemmas.List.Sums.{sum_by-cons}
use borrow.Author.Tests.{eq-eqb, ne_eqb, lt-ltb, le-ltb}
use Rattle.ids.specs.Lists.{every}
use Rattle.ids.proofs.Choice.{decided, both}
use Rattle.system.specs.Numbered.{added}
use Rattle.system.specs.Places.{ServerPlace, down_from}
use Rattle.sim_blocks.specs.Blocks.{flagged, client_place, zero_word, flags_from}
use Rattle.system.specs.Limits.{system_servers}

-- the library's count of the words that are not 0 is how many flags are set
pub count-flagged : (j : ℕ) (l : List ℕ) → count_by (λ x. not (eqb x 0)) l ≡ length (flagged j l)
unfolding flagged
count-flagged j [] = refl
count-flagged j (x ∷ l) =
    ⊎_elim
    (λ (t : eqb x 0 ≡ true). rw (sum_by-cons (λ (x : ℕ). cond (not (eqb x 0)) 1 0) x l, t) (omega (arith, count-flagged (suc j) l)))
    (λ (t : eqb x 0 ≡ false). rw (sum_by-cons (λ (x : ℕ). cond (not (eqb x 0)) 1 0) x l, t) (omega (arith, count-flagged (suc j) l)))
    (decided (eqb x 0))

-- how many words are not 0
abbrev pub ones : List ℕ → ℕ
ones [] = 0
ones (x ∷ l) = (if eqb x 0 then 0 else 1) + ones l

length-flagged : (j : ℕ) (l : List ℕ) → length (flagged j l) ≡ ones l
unfolding flagged
length-flagged j [] = refl
length-flagged j (x ∷ l) =
    ⊎_elim
    (λ (t : eqb x 0 ≡ true). rw t (omega (arith, length-flagged (suc j) l)))
    (λ (t : eqb x 0 ≡ false). rw t (omega (arith, length-flagged (suc j) l)))
    (decided (eqb x 0))

ones-append : (a b : List ℕ) → ones (a ++ b) ≡ ones a + ones b
ones-append [] b = omega arith
ones-append (x ∷ a) b = omega (arith, ones-append a b)

pub one_at_most : (x r : ℕ) → r ≡ (if eqb x 0 then 0 else 1) → r ≤ 1
one_at_most x r e = rw e (by_test (eqb x 0)) where
  by_test : (b : Bool) → (if b then 0 else 1) ≤ 1
  by_test true = omega arith
  by_test false = omega arith

-- a test that fails as a number
bit : (b : Bool) → from_bool (not b) ≡ (if b then 0 else 1)
bit true = refl
bit false = refl

-- what `flags_set` knows before flag i
pub record Counting (l : List ℕ) (count i : ℕ) : Type 0 where
  pub few : count ≤ i
  pub done : count ≡ ones (take i l)

pub counting_none : (l : List ℕ) → Counting l 0 0
counting_none l = record { few = omega arith; done = refl }

module _ (l : List ℕ) (size : length l ≡ system_servers) (count i : ℕ) (S : Counting l count i) where
  pub counting_more : (r : ℕ) → i < system_servers → r ≡ from_bool (not (eqb (get_or l i 0) 0)) → Counting l (count + r) (i + 1)
  counting_more r h p =
      let e : r ≡ (if eqb (get_or l i 0) 0 then 0 else 1) = p ∙ bit (eqb (get_or l i 0) 0) in
      let a : take (i + 1) l ≡ take i l ++ (get_or l i 0 ∷ []) = rw add-one (take-suc l i 0 (omega (arith, size))) in
      let o = ones-append (take i l) (get_or l i 0 ∷ []) in
      record { few = omega (arith, S.few, one_at_most (get_or l i 0) r e); done = rw a (omega (arith, o, S.done)) }

  pub counting_all : system_servers ≤ i → count ≡ length (flagged 1 l)
  counting_all h = S.done ∙ ap ones (take_all i l (omega (arith, size))) ∙ sym (length-flagged 1 l)

pub downs-counted : (b : List ℕ) (r : ℕ) → r ≡ length (flagged 1 (take system_servers (drop flags_from b))) → r ≡ length (client_place b).downs
unfolding client_place
downs-counted b r e = e

-- setting the flag at place d, of server i + d where the places are numbered from i, adds that server
added-front : (i j : ℕ) (l : List ℕ) → i < j → added i (flagged j l) ≡ i ∷ flagged j l
unfolding added flagged
added-front i j [] h = refl
added-front i j (x ∷ l) h =
    ⊎_elim
    (λ (t : eqb x 0 ≡ true). rw t (added-front i (suc j) l (omega arith)))
    (λ (t : eqb x 0 ≡ false). rw (t, ne_eqb i j (λ e. omega arith), lt-ltb i j h))
    (decided (eqb x 0))

pub flag_adds : (i d : ℕ) (l : List ℕ) → d < length l → flagged i (set l d 1) ≡ added (i + d) (flagged i l)
unfolding added flagged
flag_adds i d [] h = absurd (omega arith)
flag_adds i zero (x ∷ l) h =
    let z : i + 0 ≡ i = omega arith in
    ⊎_elim
    (λ (t : eqb x 0 ≡ true). rw (z, t) (sym (added-front i (suc i) l (omega arith))))
    (λ (t : eqb x 0 ≡ false). rw (z, t, eq-eqb i i refl))
    (decided (eqb x 0))
flag_adds i (suc d) (x ∷ l) h =
    let z : i + suc d ≡ suc i + d = omega arith in
    let s = flag_adds (suc i) d l (omega arith) in
    ⊎_elim
    (λ (t : eqb x 0 ≡ true). rw (t, z) s)
    (λ (t : eqb x 0 ≡ false). rw (t, z, ne_eqb (suc i + d) i (λ e. omega arith), le-ltb (suc i + d) i (omega arith)) (ap (λ (r : List ℕ). i ∷ r) (s ∙ ap (λ (q : ℕ). added q (flagged (suc i) l)) (sym z))))
    (decided (eqb x 0))

-- the flag of a server when an epoch begins: 1 for one that is down
abbrev pub down_bit : ServerPlace → ℕ
down_bit q = if q.up then 0 else 1

pub none-flagged : (j : ℕ) (l : List ℕ) → every zero_word l ≡ true → flagged j l ≡ []
unfolding flagged
none-flagged j [] h = refl
none-flagged j (x ∷ l) h = let (a, g) = both (zero_word x) (every zero_word l) h in rw a (none-flagged (suc j) l g)

pub down-flagged : (j : ℕ) (qs : List ServerPlace) (l : List ℕ) → every zero_word l ≡ true → flagged j (map down_bit qs ++ l) ≡ down_from j qs
unfolding flagged down_from
down-flagged j [] l h = none-flagged j l h
down-flagged j (q ∷ qs) l h =
    ⊎_elim
    (λ (t : q.up ≡ true). rw t (down-flagged (suc j) qs l h))
    (λ (t : q.up ≡ false). rw t (ap (λ (r : List ℕ). j ∷ r) (down-flagged (suc j) qs l h)))
    (decided q.up)
