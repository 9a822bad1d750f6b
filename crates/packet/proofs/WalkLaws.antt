-- The walk: one part at a time, whatever the count of parts that `cut_into` is given, and where it stops.
use Rattle.std.specs.Prelude.{Some, None, Option}
use Prim.Native.Nat.{ℕ, zero, suc, ◌+◌, ◌*◌, ◌-◌, ◌<◌, ◌≤◌}
use native.Mathlib.Omega.{arith}
use mathlib.Core.Path.{◌≡◌, refl, sym, ◌∙◌}
use mathlib.Core.Bool.{true, false}
use mathlib.Core.List.{List, []}
use mathlib.Core.Logic.{⊎_elim}
use lib.Dec.{eqb}
use lib.ListN.{length, get_or, take, drop, length-drop}
use lib.Seq.{drop-drop}
use borrow.Author.Tests.{eqb-true, eqb-false, eq-eqb, ne_eqb, leb-true, le-leb}
use Rattle.ids.specs.Choice.{maybe}
use Rattle.ids.proofs.Choice.{both, decided, clash}
use Rattle.wire.specs.Format.{length_in}
use Rattle.wire.proofs.BytesLaws.{number-two}
use Rattle.wire.proofs.FormatLaws.{length_in_lem}
use Rattle.packet.specs.Packet.{least_length, fits, with_first, cut_into, cut}
use Rattle.packet.specs.Inner.{size_in, walked}

-- a length field that fits: it is 4 at least, and s has at least so many bytes
pub record Fitting (s : List ℕ) : Type 0 where
  pub least : least_length ≤ length_in s
  pub within : length_in s ≤ length s

pub fitting : (s : List ℕ) → fits s ≡ true → Fitting s
unfolding fits
fitting s h = let (a, b) = both _ _ h in record { least = leb-true _ _ a; within = leb-true _ _ b }

pub fitted : (s : List ℕ) → least_length ≤ length_in s → length_in s ≤ length s → fits s ≡ true
unfolding fits
fitted s a b = rw (le-leb _ _ a, le-leb _ _ b)

-- the size of the part that stands first: its length field where that fits, else 0
size_fits : (s : List ℕ) → fits s ≡ true → size_in s ≡ length_in s
unfolding size_in
size_fits s h = rw h

size_none : (s : List ℕ) → (Fitting s → ⊥) → size_in s ≡ 0
unfolding size_in
size_none s n = ⊎_elim (λ (h : fits s ≡ true). absurd (n (fitting s h))) (λ (h : fits s ≡ false). rw h) (decided (fits s))

pub record Sized (s : List ℕ) (size : ℕ) : Type 0 where
  pub fit : fits s ≡ true
  pub is : length_in s ≡ size
  pub least : least_length ≤ size
  pub within : size ≤ length s

pub sized : (s : List ℕ) (size : ℕ) → size ≡ size_in s → (size ≡ 0 → ⊥) → Sized s size
sized s size e n =
    ⊎_elim
    (λ (h : fits s ≡ true).
    let f = fitting s h in
    let i : length_in s ≡ size = sym (e ∙ size_fits s h) in
    record { fit = h; is = i; least = rw i at f.least; within = rw i at f.within })
    (λ (h : fits s ≡ false). absurd (n (e ∙ size_none s (λ f. clash (fits s) (fitted s f.least f.within) h))))
    (decided (fits s))

pub unfit : (s : List ℕ) → 0 ≡ size_in s → fits s ≡ false
unfolding size_in
unfit s e =
    ⊎_elim (λ (h : fits s ≡ true). absurd (omega (arith, size_fits s h, (fitting s h).least))) (λ (h : fits s ≡ false). h) (decided (fits s))

-- a part is within the bytes, wherever it stands
pub size-within : (s : List ℕ) (at size : ℕ) → at ≤ length s → size ≡ size_in (drop at s) → at + size ≤ length s
size-within s at size h e =
    ⊎_elim (λ (f : fits (drop at s) ≡ true). omega (arith, size_fits (drop at s) f, (fitting (drop at s) f).within, length-drop at s))
    (λ (f : fits (drop at s) ≡ false).
    omega (arith, size_none (drop at s) (λ g. clash (fits (drop at s)) (fitted (drop at s) g.least g.within) f)))
    (decided (fits (drop at s)))

-- what `size_at` returns
module _ (s : List ℕ) (at : ℕ) where
  left : length (drop at s) ≡ length s - at
  left = length-drop at s

  pub size_few : length s - at < least_length → 0 ≡ size_in (drop at s)
  size_few h = sym (size_none (drop at s) (λ f. omega (arith, f.least, f.within, left)))

  module _ (size : ℕ) (four : least_length ≤ length s - at) (read : size ≡ get_or s at 0 + 256 * get_or s (at + 1) 0) where
    field : size ≡ length_in (drop at s)
    field = number-two s at size (omega arith) read ∙ length_in_lem (drop at s)

    pub size_small : size < least_length → 0 ≡ size_in (drop at s)
    size_small h = sym (size_none (drop at s) (λ f. omega (arith, f.least, field)))

    pub size_past : length s - at < size → 0 ≡ size_in (drop at s)
    size_past h = sym (size_none (drop at s) (λ f. omega (arith, f.within, left, field)))

    pub size-found : least_length ≤ size → size ≤ length s - at → size ≡ size_in (drop at s)
    size-found a b = field ∙ sym (size_fits (drop at s) (fitted (drop at s) (omega (arith, field)) (omega (arith, field, left))))

-- the count of parts makes no difference where it is above the count of bytes
same-cut : (c d : ℕ) (s : List ℕ) → length s < c → length s < d → cut_into c s ≡ cut_into d s
unfolding cut_into
same-cut zero d s a b = absurd (omega arith)
same-cut (suc c) zero s a b = absurd (omega arith)
same-cut (suc c) (suc d) s a b =
    ⊎_elim
    (λ (h : eqb (length s) 0 ≡ true). simp h)
    (λ (h : eqb (length s) 0 ≡ false).
    ⊎_elim
    (λ (f : fits s ≡ true).
    let g = fitting s f in
    let l = length-drop (length_in s) s in
    let r : cut_into c (drop (length_in s) s) ≡ cut_into d (drop (length_in s) s) = same-cut c d (drop (length_in s) s) (omega arith) (omega arith) in
    simp (h, f, r))
    (λ (f : fits s ≡ false). simp (h, f))
    (decided (fits s)))
    (decided (eqb (length s) 0))

pub cut-empty : (s : List ℕ) → length s ≡ 0 → cut s ≡ Some []
unfolding cut_into
cut-empty s h = simp (eq-eqb (length s) 0 h)

pub cut-next : (s : List ℕ) → fits s ≡ true → cut s ≡ with_first (take (length_in s) s) (cut (drop (length_in s) s))
unfolding cut_into
cut-next s f =
    let g = fitting s f in
    let l = length-drop (length_in s) s in
    let r = same-cut (length s) (suc (length (drop (length_in s) s))) (drop (length_in s) s) (omega arith) (omega arith) in
    simp (ne_eqb (length s) 0 (λ e. omega arith), f, r)

pub cut_stuck : (s : List ℕ) → (length s ≡ 0 → ⊥) → fits s ≡ false → cut s ≡ None
unfolding cut_into
cut_stuck s n f = simp (ne_eqb (length s) 0 n, f)

-- whether the walk ends with the bytes, part by part
with_first_lem : (p : List ℕ) (o : Option (List (List ℕ))) → maybe (with_first p o) false (λ ps. true) ≡ maybe o false (λ ps. true)
with_first_lem p None = refl
with_first_lem p (Some ps) = refl

pub walked_empty : (s : List ℕ) → length s ≡ 0 → walked s ≡ true
unfolding walked
walked_empty s h = rw (cut-empty s h)

pub walked_next : (s : List ℕ) → fits s ≡ true → walked s ≡ walked (drop (length_in s) s)
unfolding walked
walked_next s f = rw (cut-next s f) (with_first_lem (take (length_in s) s) (cut (drop (length_in s) s)))

pub walked_stuck : (s : List ℕ) → (length s ≡ 0 → ⊥) → fits s ≡ false → walked s ≡ false
unfolding walked
walked_stuck s n f = rw (cut_stuck s n f)

-- what `walks` knows at its loop's head: the size of the part at `at`, and that the walk ends there as it does from `from` on
pub record Walking (s : List ℕ) (from at size : ℕ) : Type 0 where
  pub within : at ≤ length s
  pub next : size ≡ size_in (drop at s)
  pub same : walked (drop at s) ≡ walked (drop from s)

module _ (s : List ℕ) (from : ℕ) where
  pub walking_start : (size : ℕ) → from ≤ length s → size ≡ size_in (drop from s) → Walking s from from size
  walking_start size h e = record { within = h; next = e; same = refl }

  module _ (at size : ℕ) (inv : Walking s from at size) where
    pub past : (size ≡ 0 → ⊥) → (at < at + size) × (at + size ≤ length s)
    past n = let z = sized (drop at s) size inv.next n in (omega (arith, z.least), omega (arith, z.within, length-drop at s, inv.within))

    pub walking_more : (size' : ℕ) → (size ≡ 0 → ⊥) → size' ≡ size_in (drop (at + size) s) → Walking s from (at + size) size'
    walking_more size' n e =
        let z = sized (drop at s) size inv.next n in
        let w : walked (drop at s) ≡ walked (drop (at + size) s) = rw (z.is, drop-drop) at (walked_next (drop at s) z.fit) in
        record { within = (past n).1; next = e; same = sym w ∙ inv.same }

    pub walking_done : size ≡ 0 → eqb at (length s) ≡ walked (drop from s)
    walking_done z =
        ⊎_elim
        (λ (h : eqb at (length s) ≡ true). h ∙ (sym (walked_empty (drop at s) (omega (arith, eqb-true at (length s) h, length-drop at s))) ∙ inv.same))
        (λ (h : eqb at (length s) ≡ false).
        let n : length (drop at s) ≡ 0 → ⊥ = λ l. eqb-false at (length s) h (omega (arith, length-drop at s, inv.within)) in
        h ∙ (sym (walked_stuck (drop at s) n (unfit (drop at s) (sym z ∙ inv.next))) ∙ inv.same))
        (decided (eqb at (length s)))
