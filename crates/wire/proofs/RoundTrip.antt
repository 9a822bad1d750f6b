-- The format is one to one: what is written is read as the same message, whatever stands behind it, and what is read is written as the same bytes.
use Prim.Native.Nat.{ℕ, ◌<◌, ◌≤◌}
use native.Mathlib.Omega.{arith}
use mathlib.Core.Path.{◌≡◌, refl, sym, ap, ◌∙◌}
use mathlib.Core.Bool.{Bool, true, false, not}
use mathlib.Core.List.{List, [], ◌∷◌, ◌++◌}
use mathlib.Core.Logic.{⊎_elim}
use lib.Dec.{eqb, ltb}
use lib.ListN.{length, take, drop, get_or, length-append}
use borrow.Author.Tests.{le-ltb, eq-eqb, eqb-true, eqb-false, not-false, ltb-false}
use Rattle.std.specs.Prelude.{if◌then◌else◌, Result, Ok, Err}
use Rattle.ids.specs.Limits.{max_servers}
use Rattle.ids.specs.declared.Refusal.{Refusal}
use Rattle.ids.specs.declared.Refusal.TheVariants.{HeaderShort, KindUnknown, LengthWrong, MessageCut, NumberOutOfRange}
use Rattle.ids.proofs.Choice.{decided, passed}
use Rattle.ids.proofs.LimitsLaws.{within-range}
use Rattle.wire.specs.Bytes.{encode, decode}
use Rattle.wire.specs.Format.{known, widths, length_of, words, fields_of, message_of, bytes_of, bytes_of_fields, size_of, valid, valid_up_to, length_in, kind_in, field_in, fields_in}
use Rattle.wire.specs.Calls.{read_of, read_up_to}
use Rattle.wire.specs.declared.Fields.{Fields}
use Rattle.wire.specs.declared.Message.{Message}
use Rattle.wire.proofs.BytesLaws.{AllBytes, Fit, done, next, decode-encode, encode-decode}
use Rattle.wire.proofs.FormatLaws.{at_least, kind_in_lem, length_fields}
use Rattle.wire.proofs.NumbersLaws.{Sound, valid_sound, message_fields, kind_of, fields_of-message}

pub short : (kind : ℕ) → length_of kind < 65536
unfolding length_of
short kind = ⊎_elim (λ e. rw e (omega arith)) (λ e. rw e (omega arith)) (decided (eqb kind 5))

module _ (f : Fields) (sound : Sound f) (rest : List ℕ) where
  numbers : List ℕ
  numbers = length_of f.kind ∷ words f

  owner-fits : (b : Bool) → Fit (if b then 2 ∷ [] else []) (f.owner ∷ [])
  owner-fits true = next sound.owner done
  owner-fits false = done

  fits : Fit (widths f.kind) numbers
  unfolding numbers
  fits =
      let small : f.kind < 65536 = omega (arith, within-range f.kind 6 sound.kind) in
      next (short f.kind) (next small (next sound.client (next sound.server (next sound.timestamp (owner-fits (eqb f.kind 5))))))

  all_read : decode (widths f.kind) (bytes_of_fields f ++ rest) ≡ take (length (widths f.kind)) numbers
  unfolding bytes_of_fields numbers
  all_read = decode-encode rest fits

  pub length-read : length_in (bytes_of_fields f ++ rest) ≡ length_of f.kind
  unfolding length_in decode numbers
  length-read = ap (λ (l : List ℕ). get_or l 0 0) all_read

  pub kind-read : kind_in (bytes_of_fields f ++ rest) ≡ f.kind
  unfolding kind_in decode numbers
  kind-read = ap (λ (l : List ℕ). get_or l 1 0) all_read

  field_read : (i : ℕ) → field_in (bytes_of_fields f ++ rest) i ≡ get_or (take (length (widths f.kind)) numbers) i 0
  unfolding field_in
  field_read i = rw (kind-read, all_read)

  owner-read : (b : Bool) → eqb f.kind 5 ≡ b → get_or (take (length {A = ℕ} (if b then 2 ∷ [] else [])) (f.owner ∷ [])) 0 0 ≡ f.owner
  owner-read true e = refl
  owner-read false e = sym (sound.alone (eqb-false _ _ e))

  pub fields_read : fields_in (bytes_of_fields f ++ rest) ≡ f
  unfolding fields_in numbers
  fields_read =
      let owner : field_in (bytes_of_fields f ++ rest) 5 ≡ f.owner = field_read 5 ∙ owner-read (eqb f.kind 5) refl in
      λ i. record { kind = kind-read i; client = field_read 2 i; server = field_read 3 i; timestamp = field_read 4 i; owner = owner i }

-- what is written is read as the same message, with the same count, whatever stands behind it
pub written_is_read : (m : Message) (rest : List ℕ) → valid m ≡ true → read_of (bytes_of m ++ rest) ≡ Ok (m, size_of m)
unfolding read_up_to bytes_of size_of
written_is_read m rest v =
    let f = fields_of m in
    let s = valid_sound m v in
    let enough : length_of f.kind ≤ length (bytes_of_fields f ++ rest) = omega (arith, length-append (bytes_of_fields f) rest, length_fields f) in
    let four : 4 ≤ length (bytes_of_fields f ++ rest) = omega (arith, at_least f.kind) in
    simp (
      le-ltb _ _ four,
      kind-read f s rest,
      s.kind,
      length-read f s rest,
      eq-eqb (length_of f.kind) (length_of f.kind) refl,
      le-ltb _ _ enough,
      fields_read f s rest,
      message_fields max_servers m v,
      v,
    )

-- no two different messages have the same bytes, nor does one begin with another's
pub bytes_differ : (m m' : Message) (s s' : List ℕ) → valid m ≡ true → valid m' ≡ true → bytes_of m ++ s ≡ bytes_of m' ++ s' → m ≡ m'
bytes_differ m m' s s' v v' e =
    let a = written_is_read m s v in
    let b = written_is_read m' s' v' in
    let p : read_of (bytes_of m ++ s) ≡ read_of (bytes_of m' ++ s') = ap read_of e in
    let q : ◌≡◌ {A = Message × ℕ} (m, size_of m) (m', size_of m') = cc in
    ap (λ (x : Message × ℕ). x.0) q

accepted_not_refused : (e : Refusal) (m : Message) (n : ℕ) → ◌≡◌ {A = Result (Message × ℕ) Refusal} (Err e) (Ok (m, n)) → ⊥
accepted_not_refused e m n h = let z : ◌≡◌ {A = ℕ} 0 1 = cc in omega arith

-- the tests of `read_up_to` that an accepted message has passed
pub record Took (limit : ℕ) (s : List ℕ) (m : Message) (n : ℕ) : Type 0 where
  pub kind : known (kind_in s) ≡ true
  pub claimed : length_in s ≡ length_of (kind_in s)
  pub whole : length_of (kind_in s) ≤ length s
  pub message : message_of (fields_in s) ≡ m
  pub used : length_of (kind_in s) ≡ n
  pub range : valid_up_to limit m ≡ true

pub took : (limit : ℕ) (s : List ℕ) (m : Message) (n : ℕ) → read_up_to limit s ≡ Ok (m, n) → Took limit s m n
unfolding read_up_to
took limit s m n e =
    let r₁ = passed (ltb (length s) 4) (accepted_not_refused HeaderShort m n) e in
    let r₂ = passed (not (known (kind_in s))) (accepted_not_refused KindUnknown m n) r₁.1 in
    let r₃ = passed (not (eqb (length_in s) (length_of (kind_in s)))) (accepted_not_refused LengthWrong m n) r₂.1 in
    let r₄ = passed (ltb (length s) (length_of (kind_in s))) (accepted_not_refused MessageCut m n) r₃.1 in
    let r₅ = passed (not (valid_up_to limit (message_of (fields_in s)))) (accepted_not_refused NumberOutOfRange m n) r₄.1 in
    let both : ◌≡◌ {A = Message × ℕ} (message_of (fields_in s), length_of (kind_in s)) (m, n) = cc r₅.1 in
    let same : message_of (fields_in s) ≡ m = ap (λ (x : Message × ℕ). x.0) both in
    record {
      kind = not-false _ r₂.0;
      claimed = eqb-true _ _ (not-false _ r₃.0);
      whole = ltb-false _ _ r₄.0;
      message = same;
      used = ap (λ (x : Message × ℕ). x.1) both;
      range = let v : valid_up_to limit (message_of (fields_in s)) ≡ true = not-false _ r₅.0 in rw same at v;
    }

-- the numbers that are laid out again are those that were read; past a plain message's fifth number nothing is laid out
tail_again : (b : Bool) (t : List ℕ) → let ws : List ℕ = if b then 2 ∷ [] else [] in encode ws (get_or (decode ws t) 0 0 ∷ []) ≡ encode ws (decode ws t)
unfolding encode decode
tail_again true t = refl
tail_again false t = refl

numbers-again : (s : List ℕ) → length_in s ≡ length_of (kind_in s)
    → encode (widths (kind_in s)) (length_of (kind_in s) ∷ words (fields_in s)) ≡ encode (widths (kind_in s)) (decode (widths (kind_in s)) s)
unfolding encode decode length_in field_in fields_in
numbers-again s l = rw (← l, tail_again (eqb (kind_in s) 5) (drop 4 (drop 2 (drop 2 (drop 2 (drop 2 s))))), kind_in_lem s)

bytes_of_fields_lem : (s : List ℕ) → AllBytes s → length_in s ≡ length_of (kind_in s) → length_of (kind_in s) ≤ length s
    → bytes_of_fields (fields_in s) ≡ take (length_of (kind_in s)) s
unfolding bytes_of_fields fields_in length_of
bytes_of_fields_lem s a l w = numbers-again s l ∙ encode-decode (widths (kind_in s)) a w

-- an accepted message is in range, and is written again as the bytes it was read from
pub read_is_written : (limit : ℕ) (s : List ℕ) (m : Message) (n : ℕ) → AllBytes s → read_up_to limit s ≡ Ok (m, n)
    → (valid_up_to limit m ≡ true) × (size_of m ≡ n) × (bytes_of m ≡ take n s)
unfolding bytes_of size_of
read_is_written limit s m n a e =
    let r = took limit s m n e in
    let f : fields_of m ≡ fields_in s = rw r.message at (fields_of-message s r.kind) in
    let k : (fields_in s).kind ≡ kind_in s = kind_of s in
    (r.range, rw (f, k) r.used, rw (f, ← r.used) (bytes_of_fields_lem s a r.claimed r.whole))

-- bytes behind the message make no difference to it
pub read_looks_no_further : (s t : List ℕ) (m : Message) (n : ℕ) → AllBytes s → read_of s ≡ Ok (m, n) → read_of (take n s ++ t) ≡ Ok (m, n)
read_looks_no_further s t m n a e =
    let (v, z, b) = read_is_written max_servers s m n a e in
    rw (z, b) at (written_is_read m t v)
