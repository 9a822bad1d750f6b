-- Laws of the format's definitions, one for each way in which the code decides them.
use Prim.Native.Nat.{ℕ, ◌+◌, ◌≤◌}
use native.Mathlib.Omega.{arith}
use mathlib.Core.Path.{◌≡◌, refl}
use mathlib.Core.Bool.{Bool, true, false}
use mathlib.Core.List.{List, [], ◌∷◌, ◌++◌}
use lib.Dec.{eqb}
use lib.ListN.{length, take, drop}
use lib.Seq.{drop-drop, sets}
use borrow.Author.Tests.{eq-eqb, ne_eqb}
use Rattle.std.specs.Prelude.{if◌then◌else◌}
use Rattle.wire.proofs.BytesLaws.{stored_on}
use Rattle.wire.specs.Bytes.{little_endian, number, encode, decode, total}
use Rattle.wire.specs.Format.{length_of, bytes_of_fields, bytes_of, size_of, fields_of, length_in, kind_in, field_in, fields_in, message_bytes, response_bytes}
use Rattle.wire.specs.Inner.{front}
use Rattle.wire.specs.declared.Message.{Message}
use Rattle.wire.specs.declared.Fields.{Fields}

pub length-plain : (kind : ℕ) → (kind ≡ 5 → ⊥) → message_bytes ≡ length_of kind
unfolding length_of
length-plain kind e = simp (ne_eqb kind 5 e)

pub length-response : (kind : ℕ) → kind ≡ 5 → response_bytes ≡ length_of kind
unfolding length_of
length-response kind e = rw e

pub at_least : (kind : ℕ) → message_bytes ≤ length_of kind
unfolding length_of
at_least kind = omega arith

-- where each number stands
module _ (s : List ℕ) where
  pub length_in_lem : number (take 2 (drop 0 s)) ≡ length_in s
  unfolding length_in decode
  length_in_lem = refl

  pub kind_in_lem : number (take 2 (drop 2 s)) ≡ kind_in s
  unfolding kind_in decode
  kind_in_lem = refl

  pub client_in_lem : number (take 2 (drop 4 s)) ≡ field_in s 2
  unfolding field_in decode
  client_in_lem = rw (drop-drop 2 2 s)

  pub server_in_lem : number (take 2 (drop 6 s)) ≡ field_in s 3
  unfolding field_in decode
  server_in_lem = rw (drop-drop 2 2 s, drop-drop 2 4 s)

  pub timestamp_in_lem : number (take 4 (drop 8 s)) ≡ field_in s 4
  unfolding field_in decode
  timestamp_in_lem = rw (drop-drop 2 2 s, drop-drop 2 4 s, drop-drop 2 6 s)

  pub owner_in : (kind o : ℕ) → kind ≡ kind_in s → kind ≡ 5 → o ≡ number (take 2 (drop message_bytes s)) → o ≡ field_in s 5
  unfolding field_in decode
  owner_in kind o k e p =
      let f : kind_in s ≡ 5 = cc in
      rw (p, drop-drop 2 2 s, drop-drop 2 4 s, drop-drop 2 6 s, drop-drop 4 8 s, f)

  pub no_owner_in : (kind : ℕ) → kind ≡ kind_in s → (kind ≡ 5 → ⊥) → 0 ≡ field_in s 5
  unfolding field_in decode
  no_owner_in kind k e = rw (← k) (simp (ne_eqb kind 5 e))

  pub fields_in_lem : (kind k j t o : ℕ) → kind ≡ kind_in s → k ≡ number (take 2 (drop 4 s)) → j ≡ number (take 2 (drop 6 s))
      → t ≡ number (take 4 (drop 8 s)) → o ≡ field_in s 5
      → ◌≡◌ {A = Fields} (record { kind = kind; client = k; server = j; timestamp = t; owner = o }) (fields_in s)
  unfolding fields_in
  fields_in_lem kind k j t o a b c d e = rw (a, b, c, d, e, client_in_lem, server_in_lem, timestamp_in_lem)

-- all bytes of a kind's message: the front, and a RESPONSE's owner behind it
pub front-plain : (f : Fields) → (f.kind ≡ 5 → ⊥) → front f ≡ bytes_of_fields f
unfolding front bytes_of_fields encode
front-plain f e = simp (ne_eqb f.kind 5 e)

pub front-response : (f : Fields) → f.kind ≡ 5 → front f ++ little_endian 2 f.owner ≡ bytes_of_fields f
unfolding front bytes_of_fields encode
front-response f e = simp (eq-eqb f.kind 5 e)

-- its five numbers stored one after another from place `at` on
pub front-stored : (f : Fields) (at n : ℕ) (l₀ l₁ l₂ l₃ l₄ l₅ : List ℕ) → n ≡ length_of f.kind → l₁ ≡ sets l₀ at (little_endian 2 n)
    → l₂ ≡ sets l₁ (at + 2) (little_endian 2 f.kind)
    → l₃ ≡ sets l₂ (at + 4) (little_endian 2 f.client) → l₄ ≡ sets l₃ (at + 6) (little_endian 2 f.server)
    → l₅ ≡ sets l₄ (at + 8) (little_endian 4 f.timestamp) → l₅ ≡ sets l₀ at (front f)
unfolding front encode
front-stored f at n l₀ l₁ l₂ l₃ l₄ l₅ h p₁ p₂ p₃ p₄ p₅ =
    let n₁ : List ℕ = little_endian 2 (length_of f.kind) in
    let n₂ : List ℕ = n₁ ++ little_endian 2 f.kind in
    let n₃ : List ℕ = n₂ ++ little_endian 2 f.client in
    let n₄ : List ℕ = n₃ ++ little_endian 2 f.server in
    let q₁ : l₁ ≡ sets l₀ at n₁ = rw h at p₁ in
    let q₂ : l₂ ≡ sets l₀ at n₂ = stored_on l₀ l₁ l₂ n₁ (little_endian 2 f.kind) at (at + 2) q₁ p₂ refl in
    let q₃ : l₃ ≡ sets l₀ at n₃ = stored_on l₀ l₂ l₃ n₂ (little_endian 2 f.client) at (at + 4) q₂ p₃ refl in
    let q₄ : l₄ ≡ sets l₀ at n₄ = stored_on l₀ l₃ l₄ n₃ (little_endian 2 f.server) at (at + 6) q₃ p₄ refl in
    stored_on l₀ l₄ l₅ n₄ (little_endian 4 f.timestamp) at (at + 8) q₄ p₅ refl

pub stored-plain : (f : Fields) (at : ℕ) (o l : List ℕ) → (f.kind ≡ 5 → ⊥) → l ≡ sets o at (front f) → l ≡ sets o at (bytes_of_fields f)
stored-plain f at o l e p = rw (front-plain f e) at p

length_front : (f : Fields) → length (front f) ≡ message_bytes
unfolding front encode
length_front f = refl

pub stored-response : (f : Fields) (at : ℕ) (o l l' : List ℕ) → f.kind ≡ 5 → l ≡ sets o at (front f)
    → l' ≡ sets l (at + message_bytes) (little_endian 2 f.owner) → l' ≡ sets o at (bytes_of_fields f)
stored-response f at o l l' e p q =
    rw (front-response f e) at (stored_on o l l' (front f) (little_endian 2 f.owner) at (at + message_bytes) p q (omega (arith, length_front f)))

length_tail : (b : Bool) (o : ℕ) → let ws : List ℕ = if b then 2 ∷ [] else [] in length (encode ws (o ∷ [])) ≡ total ws
unfolding encode
length_tail true o = refl
length_tail false o = refl

pub length_fields : (f : Fields) → length (bytes_of_fields f) ≡ length_of f.kind
unfolding bytes_of_fields length_of encode
length_fields f = omega (arith, length_tail (eqb f.kind 5) f.owner)

pub length-bytes_of : (m : Message) → length (bytes_of m) ≡ size_of m
unfolding bytes_of size_of
length-bytes_of m = length_fields (fields_of m)
