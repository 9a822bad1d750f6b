-- The cards receiver by receiver. One more card stands behind those of its own place that came before it, and the other places' cards do not
-- change: so all cards in their order are those before it, it, and those behind it.
use Prim.Native.Nat.{ℕ, zero, suc, ◌+◌, ◌-◌, ◌<◌, ◌≤◌}
use native.Mathlib.Omega.{arith}
use mathlib.Core.Path.{◌≡◌, refl, sym, ap, ◌∙◌}
use mathlib.Core.Bool.{Bool, true, false}
use mathlib.Core.List.{List, [], ◌∷◌, ◌++◌, append_assoc, append-nil}
use mathlib.Core.Logic.{inl, inr}
use lib.Dec.{eqb}
use lib.ListN.{length, get_or, set, take, length-append, length-set}
use lib.Seq.{take_all, take-append-le, get_or-take, get_or_at, ext_get_or, get_or-set_same, get_or-set_other, set-set, set-get_or}
use borrow.Author.Tests.{eq-eqb, ne_eqb, eqb-true, eqb-false}
use Rattle.ids.specs.Lists.{every}
use Rattle.ids.proofs.Choice.{both, decided, Test}
use Rattle.sim_index.specs.declared.Card.{Card}
use Rattle.sim_index.specs.Index.{of_place, sorted, counts}
use Rattle.sim_index.specs.Calls.{sum}
use Rattle.sim_index.proofs.LoopLaws.{sum-append}

pub length_more : (a : List Card) (c : Card) (b : List Card) → length (a ++ (c ∷ b)) ≡ suc (length (a ++ b))
length_more a c b = omega (arith, length-append a (c ∷ b), length-append a b)

-- the cards of one place -------------------------------------------------------------------------------------------------------------------

pub of_append : (p : ℕ) (a b : List Card) → of_place p (a ++ b) ≡ of_place p a ++ of_place p b
unfolding of_place
of_append p [] b = refl
of_append p (c ∷ a) b = by_test (decided (eqb c.place p)) (of_append p a b)
  where
    by_test : Test (eqb c.place p) → of_place p (a ++ b) ≡ of_place p a ++ of_place p b
        → of_place p (c ∷ (a ++ b)) ≡ of_place p (c ∷ a) ++ of_place p b
    by_test (inl e) h = rw e (ap (λ (l : List Card). c ∷ l) h)
    by_test (inr e) h = rw e h

module _ (a : List Card) (c : Card) (b : List Card) where
  pub of_own : of_place c.place (a ++ (c ∷ b)) ≡ of_place c.place a ++ (c ∷ of_place c.place b)
  unfolding of_place
  of_own = let e : eqb c.place c.place ≡ true = eq-eqb c.place c.place refl in of_append c.place a (c ∷ b) ∙ rw e

  pub of_other : (p : ℕ) → (c.place ≡ p → ⊥) → of_place p (a ++ (c ∷ b)) ≡ of_place p (a ++ b)
  unfolding of_place
  of_other p n = let e : eqb c.place p ≡ false = ne_eqb c.place p n in of_append p a (c ∷ b) ∙ rw e (sym (of_append p a b))

  pub of_longer : length (of_place c.place (a ++ (c ∷ b))) ≡ suc (length (of_place c.place (a ++ b)))
  of_longer = rw (of_own, of_append c.place a b) (length_more (of_place c.place a) c (of_place c.place b))

pub of_every : (f : Card → Bool) (p : ℕ) (l : List Card) → every f l ≡ true → every f (of_place p l) ≡ true
unfolding of_place
of_every f p [] h = refl
of_every f p (c ∷ l) h =
    let (x, r) = both (f c) (every f l) h in
    by_test (decided (eqb c.place p)) x (of_every f p l r)
  where
    by_test : Test (eqb c.place p) → f c ≡ true → every f (of_place p l) ≡ true → every f (of_place p (c ∷ l)) ≡ true
    by_test (inl e) x h = rw (e, x) h
    by_test (inr e) x h = rw e h

-- the cards of all places below n ----------------------------------------------------------------------------------------------------------

-- of the k places behind place p
unfoldable pub beyond : ℕ → ℕ → List Card → List Card
beyond p zero l = []
beyond p (suc k) l = beyond p k l ++ of_place (suc p + k) l

sorted_on : (p k : ℕ) (l : List Card) → sorted (suc p + k) l ≡ sorted p l ++ (of_place p l ++ beyond p k l)
unfolding beyond sorted
sorted_on p zero l = let z : suc p + 0 ≡ suc p = omega arith in rw (z, append-nil)
sorted_on p (suc k) l =
    let z : suc p + suc k ≡ suc (suc p + k) = omega arith in
    rw (z, sorted_on p k l) (simp append_assoc)

pub sorted_around : (n p : ℕ) (l : List Card) → p < n → sorted n l ≡ sorted p l ++ (of_place p l ++ beyond p (n - suc p) l)
sorted_around n p l h = let z : suc p + (n - suc p) ≡ n = omega arith in rw z at (sorted_on p (n - suc p) l)

pub sorted_none : (n : ℕ) → sorted n [] ≡ []
unfolding sorted of_place
sorted_none zero = refl
sorted_none (suc n) = rw (sorted_none n)

module _ (a : List Card) (c : Card) (b : List Card) where
  pub sorted-below : (n : ℕ) → n ≤ c.place → sorted n (a ++ (c ∷ b)) ≡ sorted n (a ++ b)
  unfolding sorted
  sorted-below zero h = refl
  sorted-below (suc n) h = rw (sorted-below n (omega arith), of_other a c b n (λ e. omega (arith, e)))

  beyond-same : (k : ℕ) → beyond c.place k (a ++ (c ∷ b)) ≡ beyond c.place k (a ++ b)
  unfolding beyond
  beyond-same zero = refl
  beyond-same (suc k) = rw (beyond-same k, of_other a c b (suc c.place + k) (λ e. omega (arith, e)))

-- the cards before and behind one of place p that stands between a and b
abbrev pub before : ℕ → List Card → List Card → List Card
before p a b = sorted p (a ++ b) ++ of_place p a

abbrev pub behind : ℕ → ℕ → List Card → List Card → List Card
behind n p a b = of_place p b ++ beyond p (n - suc p) (a ++ b)

pub sorted-without : (n p : ℕ) (a b : List Card) → p < n → sorted n (a ++ b) ≡ before p a b ++ behind n p a b
sorted-without n p a b h = sorted_around n p (a ++ b) h ∙ rw (of_append p a b) (simp append_assoc)

module _ (n : ℕ) (a : List Card) (c : Card) (b : List Card) (h : c.place < n) where
  pub sorted-with : sorted n (a ++ (c ∷ b)) ≡ before c.place a b ++ (c ∷ behind n c.place a b)
  sorted-with =
      let same = beyond-same a c b (n - suc c.place) in
      sorted_around n c.place (a ++ (c ∷ b)) h ∙ rw (of_own a c b, sorted-below a c b c.place (omega arith), same) (simp append_assoc)

  pub sorted-longer : length (sorted n (a ++ (c ∷ b))) ≡ suc (length (sorted n (a ++ b)))
  sorted-longer =
      rw (sorted-with, sorted-without n c.place a b h) (length_more (before c.place a b) c (behind n c.place a b))

-- how many each place has ------------------------------------------------------------------------------------------------------------------

pub length-counts : (n : ℕ) (l : List Card) → length (counts n l) ≡ n
unfolding counts
length-counts zero l = refl
length-counts (suc n) l = omega (arith, length-append (counts n l) (length (of_place n l) ∷ []), length-counts n l)

counts-first : (p k : ℕ) (l : List Card) → take p (counts (p + k) l) ≡ counts p l
unfolding counts
counts-first p zero l =
    let z : p + 0 ≡ p = omega arith in
    rw z (take_all p (counts p l) (omega (arith, length-counts p l)))
counts-first p (suc k) l =
    let z : p + suc k ≡ suc (p + k) = omega arith in
    rw z (take-append-le p (counts (p + k) l) _ (omega (arith, length-counts (p + k) l)) ∙ counts-first p k l)

pub counts-below : (n p : ℕ) (l : List Card) → p ≤ n → take p (counts n l) ≡ counts p l
counts-below n p l h = let z : p + (n - p) ≡ n = omega arith in rw z at (counts-first p (n - p) l)

pub counts-at : (n p : ℕ) (l : List Card) → p < n → get_or (counts n l) p 0 ≡ length (of_place p l)
unfolding counts
counts-at n p l h =
    sym (get_or-take (suc p) (counts n l) p 0 (omega arith)) ∙
    rw (counts-below n (suc p) l h) (get_or_at (counts p l) (length (of_place p l)) [] 0 p (length-counts p l))

pub counts-sum : (p : ℕ) (l : List Card) → sum (counts p l) ≡ length (sorted p l)
unfolding counts sorted sum
counts-sum zero l = refl
counts-sum (suc p) l =
    omega (
      arith,
      sum-append (counts p l) (length (of_place p l) ∷ []),
      length-append (sorted p l) (of_place p l),
      counts-sum p l,
    )

module _ (n : ℕ) (a : List Card) (c : Card) (b : List Card) (h : c.place < n) where
  abbrev grown : List ℕ
  grown = set (counts n (a ++ b)) c.place (suc (length (of_place c.place (a ++ b))))

  at_place : (i : ℕ) → i < n → Test (eqb i c.place) → get_or (counts n (a ++ (c ∷ b))) i 0 ≡ get_or grown i 0
  at_place i lt (inl e) =
      let z : i ≡ c.place = eqb-true i c.place e in
      let room : c.place < length (counts n (a ++ b)) = omega (arith, length-counts n (a ++ b)) in
      rw (z, get_or-set_same (counts n (a ++ b)) c.place (suc (length (of_place c.place (a ++ b)))) 0 room)
      (counts-at n c.place (a ++ (c ∷ b)) h ∙ of_longer a c b)
  at_place i lt (inr e) =
      let ne = eqb-false i c.place e in
      let v : ℕ = suc (length (of_place c.place (a ++ b))) in
      counts-at n i (a ++ (c ∷ b)) lt ∙
      (ap length (of_other a c b i (λ q. ne (sym q))) ∙
      (sym (counts-at n i (a ++ b) lt) ∙ sym (get_or-set_other (counts n (a ++ b)) c.place i v 0 ne)))

  pub counts_with : counts n (a ++ (c ∷ b)) ≡ set (counts n (a ++ b)) c.place (suc (length (of_place c.place (a ++ b))))
  counts_with =
      let l = length-counts n (a ++ (c ∷ b)) in
      let m = length-set (counts n (a ++ b)) c.place (suc (length (of_place c.place (a ++ b)))) ∙ length-counts n (a ++ b) in
      ext_get_or 0 (counts n (a ++ (c ∷ b))) grown (l ∙ sym m) (λ i lt. at_place i (omega (arith, lt, l)) (decided (eqb i c.place)))

  pub counts-without : set (counts n (a ++ (c ∷ b))) c.place (length (of_place c.place (a ++ (c ∷ b))) - 1) ≡ counts n (a ++ b)
  counts-without =
      let m : ℕ = length (of_place c.place (a ++ b)) in
      let z : length (of_place c.place (a ++ (c ∷ b))) - 1 ≡ get_or (counts n (a ++ b)) c.place 0 =
      omega (arith, of_longer a c b, counts-at n c.place (a ++ b) h) in
      rw (z, counts_with)
      (set-set (counts n (a ++ b)) c.place (suc m) (get_or (counts n (a ++ b)) c.place 0) ∙ set-get_or (counts n (a ++ b)) c.place 0)
