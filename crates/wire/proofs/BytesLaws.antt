-- Laws of numbers as bytes, over every width: what is laid out is read back, and what is read is laid out as it stood.
use Prim.Native.Nat.{ℕ, zero, suc, ◌+◌, ◌*◌, ◌/◌, ◌%◌, ◌^◌, ◌<◌, ◌≤◌, ◌-◌}
use native.Mathlib.Nat.{pow-suc}
use native.Mathlib.Numerals.{add-one, add-two}
use native.Mathlib.Omega.{arith}
use mathlib.Core.Path.{◌≡◌, refl, sym, ap, ◌∙◌}
use mathlib.Core.List.{List, [], ◌∷◌, ◌++◌, append_assoc}
use lib.ListN.{length, get_or, take, drop, set, length-drop}
use lib.Seq.{drop-cons, sets, sets-eq, take_at, drop_at, take-add}
use borrow.Rule.Slice.PartMut.{put_mid}
use Rattle.std.specs.Int.{w32, to_le_bytes}
use Rattle.std.proofs.lemmas.List.Edits.{paste_all}
use Rattle.std.proofs.lemmas.Slice.{put_mid-paste}
use Rattle.wire.specs.Bytes.{little_endian, number, encode, decode, total}

-- every element is a byte
pub data AllBytes : List ℕ → Type 0 where
  none : AllBytes []
  more : {b : ℕ} {bs : List ℕ} → b < 256 → AllBytes bs → AllBytes (b ∷ bs)

pub bytes_drop : (n : ℕ) {s : List ℕ} → AllBytes s → AllBytes (drop n s)
bytes_drop zero h = h
bytes_drop (suc n) none = none
bytes_drop (suc n) (more b h) = bytes_drop n h

pub length-little_endian : (w x : ℕ) → length (little_endian w x) ≡ w
length-little_endian zero x = refl
length-little_endian (suc w) x = ap suc (length-little_endian w (x / 256))

pub number-little_endian : (w x : ℕ) → x < 256 ^ w → number (little_endian w x) ≡ x
number-little_endian zero x h = omega arith
number-little_endian (suc w) x h =
    let p : 256 ^ suc w ≡ 256 ^ w * 256 = pow-suc 256 w in
    let ih : number (little_endian w (x / 256)) ≡ x / 256 = number-little_endian w (x / 256) (omega arith) in
    omega arith

-- in w bytes, where s has that many
pub little_endian-number : (w : ℕ) {s : List ℕ} → AllBytes s → w ≤ length s → little_endian w (number (take w s)) ≡ take w s
little_endian-number zero h l = refl
little_endian-number (suc w) none l = absurd (omega arith)
little_endian-number (suc w) (more {b} {bs} hb h) l =
    let n : ℕ = number (take w bs) in
    let low : (b + 256 * n) % 256 ≡ b = omega arith in
    let high : (b + 256 * n) / 256 ≡ n = omega arith in
    rw (low, high, little_endian-number w h (omega arith))

-- each number is below 256 to its width; numbers past the last width are free
pub data Fit : List ℕ → List ℕ → Type 0 where
  done : {xs : List ℕ} → Fit [] xs
  next : {w x : ℕ} {ws xs : List ℕ} → x < 256 ^ w → Fit ws xs → Fit (w ∷ ws) (x ∷ xs)

pub decode-encode : {ws xs : List ℕ} (rest : List ℕ) → Fit ws xs → decode ws (encode ws xs ++ rest) ≡ take (length ws) xs
unfolding encode decode
decode-encode rest done = refl
decode-encode rest (next {w} {x} {ws} {xs} h r) =
    let t : List ℕ = encode ws xs ++ rest in
    rw (
      append_assoc,
      take_at (little_endian w x) t w (length-little_endian w x),
      drop_at (little_endian w x) t w (length-little_endian w x),
      number-little_endian w x h,
      decode-encode rest r,
    )

pub encode-decode : (ws : List ℕ) {s : List ℕ} → AllBytes s → total ws ≤ length s → encode ws (decode ws s) ≡ take (total ws) s
unfolding encode decode
encode-decode [] h l = refl
encode-decode (w ∷ ws) {s} h l =
    let d : length (drop w s) ≡ length s - w = length-drop w s in
    rw (little_endian-number w h (omega arith), encode-decode ws (bytes_drop w h) (omega arith), take-add w (total ws) s)

-- stores one after another are one run of stores
pub sets-append : (l : List ℕ) (i : ℕ) (xs ys : List ℕ) → sets (sets l i xs) (i + length xs) ys ≡ sets l i (xs ++ ys)
sets-append l i [] ys = let e : i + 0 ≡ i = omega arith in rw e
sets-append l i (x ∷ xs) ys = let e : i + suc (length xs) ≡ suc i + length xs = omega arith in rw e (sets-append (set l i x) (suc i) xs ys)

-- the same at a return: ys were stored from j on, where a's stores ended
pub stored_on : (o a b xs ys : List ℕ) (i j : ℕ) → a ≡ sets o i xs → b ≡ sets a j ys → j ≡ i + length xs → b ≡ sets o i (xs ++ ys)
stored_on o a b xs ys i j p q e = rw (q, p, e, sets-append)

-- the number in the w + 1 bytes from place `at` on
number_more : (s : List ℕ) (at w : ℕ) → at < length s → number (take (suc w) (drop at s)) ≡ get_or s at 0 + 256 * number (take w (drop (suc at) s))
number_more s at w h = rw (drop-cons s at 0 h)

pub number-two : (s : List ℕ) (at r : ℕ) → at + 2 ≤ length s → r ≡ get_or s at 0 + 256 * get_or s (at + 1) 0 → r ≡ number (take 2 (drop at s))
number-two s at r h e =
    let a = number_more s at 1 (omega arith) in
    let b = number_more s (suc at) 0 (omega arith) in
    let n : at + 1 ≡ suc at = add-one at in
    rw n at e ∙ omega arith

-- four bytes are two and two
pub number_four : (s : List ℕ) (at r lo hi : ℕ) → at + 4 ≤ length s → lo ≡ number (take 2 (drop at s))
    → hi ≡ number (take 2 (drop (at + 2) s)) → r ≡ lo + 65536 * hi → r ≡ number (take 4 (drop at s))
number_four s at r lo hi h p q e =
    let n : at + 2 ≡ suc (suc at) = add-two at in
    let hi' : hi ≡ number (take 2 (drop (suc (suc at)) s)) = rw n at q in
    omega (
      arith,
      number_more s at 3 (omega arith),
      number_more s (suc at) 2 (omega arith),
      number_more s (suc (suc at)) 1 (omega arith),
      number_more s (suc (suc (suc at))) 0 (omega arith),
      number_more s at 1 (omega arith),
      number_more s (suc at) 0 (omega arith),
    )

-- four bytes of the library's
pub four_bytes : (x : ℕ) → to_le_bytes w32 x ≡ little_endian 4 x
four_bytes x =
    let two : x / 65536 ≡ x / 256 / 256 = omega arith in
    let three : x / 16777216 ≡ x / 256 / 256 / 256 = omega arith in
    rw (two, three)

-- what is copied over the k places from place `at` on is a run of stores
pub copied : (o ys xs : List ℕ) (at k : ℕ) → k ≡ length xs → ys ≡ xs → at + length xs ≤ length o → put_mid at k o ys ≡ sets o at xs
copied o ys xs at k n p room =
    put_mid-paste at k o ys xs (length xs) p (sym n) refl ∙
    paste_all o at xs (length xs) refl ∙
    sym (append_assoc (take at o) xs (drop (at + length xs) o)) ∙
    sym (sets-eq xs o at room)
