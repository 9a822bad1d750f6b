-- Reading looks at no byte behind the message: unless it finds too few bytes, more of them change nothing.
use Rattle.std.specs.Prelude.{Err}
use Prim.Native.Nat.{ℕ, ◌≤◌}
use native.Mathlib.Omega.{arith}
use mathlib.Core.Path.{◌≡◌, refl}
use mathlib.Core.Bool.{Bool, true, false, not}
use mathlib.Core.List.{List, [], ◌∷◌, ◌++◌}
use mathlib.Core.Logic.{⊎_elim}
use lib.Dec.{eqb, ltb}
use lib.ListN.{length, drop, length-append, length-drop}
use lib.Seq.{take-append-le, drop-append-le}
use borrow.Author.Tests.{le-ltb, ltb-false}
use Rattle.ids.specs.declared.Refusal.TheVariants.{HeaderShort, MessageCut}
use Rattle.ids.proofs.Choice.{decided}
use Rattle.wire.specs.Bytes.{decode, total}
use Rattle.wire.specs.Format.{known, widths, header, length_of, length_in, kind_in, field_in, fields_in}
use Rattle.wire.specs.Calls.{read_up_to}

decode_prefix : (ws s t : List ℕ) → total ws ≤ length s → decode ws (s ++ t) ≡ decode ws s
unfolding decode
decode_prefix [] s t h = refl
decode_prefix (w ∷ ws) s t h =
    let l : w ≤ length s = omega arith in
    let d : total ws ≤ length (drop w s) = omega (arith, length-drop w s) in
    rw (take-append-le w s t, drop-append-le w s t, decode_prefix ws (drop w s) t d)

module _ (s t : List ℕ) (four : 4 ≤ length s) where
  length-same : length_in (s ++ t) ≡ length_in s
  unfolding length_in
  length-same = rw (decode_prefix header s t four)

  kind-same : kind_in (s ++ t) ≡ kind_in s
  unfolding kind_in
  kind-same = rw (decode_prefix header s t four)

  fields_same : length_of (kind_in s) ≤ length s → fields_in (s ++ t) ≡ fields_in s
  unfolding fields_in field_in length_of
  fields_same w = rw (kind-same, decode_prefix (widths (kind_in s)) s t w)

  longer : (n : ℕ) → n ≤ length s → n ≤ length (s ++ t)
  longer n h = omega (arith, length-append s t)

pub read_prefix : (limit : ℕ) (s t : List ℕ) → (read_up_to limit s ≡ Err HeaderShort → ⊥) → (read_up_to limit s ≡ Err MessageCut → ⊥)
    → read_up_to limit (s ++ t) ≡ read_up_to limit s
unfolding read_up_to
read_prefix limit s t short cut =
    let too_few : Bool = ltb (length s) 4 in
    let unknown : Bool = not (known (kind_in s)) in
    let wrong : Bool = not (eqb (length_in s) (length_of (kind_in s))) in
    let ends : Bool = ltb (length s) (length_of (kind_in s)) in
    ⊎_elim (λ (h : too_few ≡ true). absurd (short (simp h))) (λ (h : too_few ≡ false).
    let four : 4 ≤ length s = ltb-false _ _ h in
    let k = kind-same s t four in
    let l = length-same s t four in
    let f = le-ltb _ _ (longer s t four 4 four) in
    ⊎_elim (λ (u : unknown ≡ true). simp (h, f, k, u)) (λ (u : unknown ≡ false).
    ⊎_elim (λ (n : wrong ≡ true). simp (h, f, k, u, l, n)) (λ (n : wrong ≡ false).
    ⊎_elim (λ (c : ends ≡ true). absurd (cut (simp (h, u, n, c)))) (λ (c : ends ≡ false).
    let w : length_of (kind_in s) ≤ length s = ltb-false _ _ c in
    simp (h, f, k, u, l, n, c, le-ltb _ _ (longer s t four _ w), fields_same s t four w))
    (decided ends)) (decided wrong)) (decided unknown)) (decided too_few)
