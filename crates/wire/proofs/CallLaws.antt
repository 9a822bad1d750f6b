-- What reading a message's numbers, `read` and `write` answer at each of their returns, by the facts that led there.
use Rattle.std.specs.Prelude.{Ok, Err, Result}
use Prim.Native.Nat.{ℕ, ◌+◌, ◌<◌, ◌≤◌}
use native.Mathlib.Omega.{arith}
use mathlib.Core.Path.{refl, ◌≡◌, sym, ap, ◌∙◌}
use mathlib.Core.Bool.{Bool, true, false}
use mathlib.Core.List.{List}
use lib.ListN.{length, take, drop}
use lib.Seq.{sets}
use borrow.Author.Tests.{lt-ltb, le-ltb, eq-eqb, ne_eqb, le-leb, lt-leb}
use Rattle.ids.specs.Limits.{max_servers}
use Rattle.ids.specs.declared.Refusal.{Refusal}
use Rattle.ids.specs.declared.Refusal.TheVariants.{HeaderShort, KindUnknown, LengthWrong, MessageCut, NumberOutOfRange, RoomShort}
use Rattle.wire.specs.Bytes.{number}
use Rattle.wire.specs.Format.{known, fields_of, length_of, message_of, length_in, kind_in, fields_in, valid, valid_fields, valid_fields_up_to, size_of, bytes_of, bytes_of_fields}
use Rattle.wire.specs.Calls.{read_of, read_up_to, numbers_of, write_of, write_up_to, buffer_after, buffer_after_up_to, lay_of, laid_in, write_numbers, numbers_after}
use Rattle.wire.specs.declared.Fields.{Fields}
use Rattle.wire.specs.declared.Message.{Message}
use Rattle.wire.proofs.NumbersLaws.{fields_again, fields_valid, message_fields, valid-message, alone_in, fields_of-message}
use Rattle.wire.proofs.RoundTrip.{took}
use Rattle.wire.proofs.FormatLaws.{length_in_lem, kind_in_lem}

-- reading, by its tests in their order: the bytes hold a header, it names a kind, the length is the kind's, the message is whole, its numbers
-- are in range
module _ (s : List ℕ) where
  pub read_short : length s < 4 → Err HeaderShort ≡ numbers_of (read_of s)
  unfolding read_up_to
  read_short h = simp (lt-ltb _ _ h)

  module _ (kind : ℕ) (ok : Bool) (header : 4 ≤ length s) (its : kind ≡ number (take 2 (drop 2 s))) (tested : ok ≡ known kind) where
    its-kind : kind_in s ≡ kind
    its-kind = sym (kind_in_lem s) ∙ sym its

    pub read_unknown : ok ≡ false → Err KindUnknown ≡ numbers_of (read_of s)
    unfolding read_up_to
    read_unknown f = let e : known kind ≡ false = sym tested ∙ f in simp (le-ltb _ _ header, its-kind, e)

    module _ (size len : ℕ) (passed : ok ≡ true) (full : size ≡ length_of kind) (said : len ≡ number (take 2 (drop 0 s))) where
      is_known : known kind ≡ true
      is_known = sym tested ∙ passed

      its-length : length_in s ≡ len
      its-length = sym (length_in_lem s) ∙ sym said

      pub read-wrong : (len ≡ size → ⊥) → Err LengthWrong ≡ numbers_of (read_of s)
      unfolding read_up_to
      read-wrong n = simp (le-ltb _ _ header, its-kind, is_known, its-length, ← full, ne_eqb _ _ n)

      module _ (right : len ≡ size) where
        pub read-cut : length s < size → Err MessageCut ≡ numbers_of (read_of s)
        unfolding read_up_to
        read-cut c = simp (le-ltb _ _ header, its-kind, is_known, its-length, ← full, eq-eqb _ _ right, lt-ltb _ _ c)

        module _ (f : Fields) (valid-numbers : Bool) (whole : size ≤ length s) (held : f ≡ fields_in s) (judged : valid-numbers ≡ valid_fields f) where
          known_in : known (kind_in s) ≡ true
          known_in = rw its-kind is_known

          in_range_lem : valid-numbers ≡ valid (message_of (fields_in s))
          unfolding valid_fields_up_to fields_in
          in_range_lem = rw (held, known_in) at judged ∙ valid-message (fields_in s) max_servers known_in (alone_in s)

          pub read_invalid : valid-numbers ≡ false → Err NumberOutOfRange ≡ numbers_of (read_of s)
          unfolding read_up_to
          read_invalid b =
              let i : valid (message_of (fields_in s)) ≡ false = sym in_range_lem ∙ b in
              simp (le-ltb _ _ header, its-kind, is_known, its-length, ← full, eq-eqb _ _ right, le-ltb _ _ whole, i)

          accepted : valid-numbers ≡ true → read_of s ≡ Ok (message_of (fields_in s), size)
          unfolding read_up_to
          accepted b =
              let i : valid (message_of (fields_in s)) ≡ true = sym in_range_lem ∙ b in
              simp (le-ltb _ _ header, its-kind, is_known, its-length, ← full, eq-eqb _ _ right, le-ltb _ _ whole, i)

          pub read-accepted : valid-numbers ≡ true → Ok (f, size) ≡ numbers_of (read_of s)
          read-accepted b = rw (accepted b, fields_of-message s known_in, held)

-- what `read` makes of the numbers
module _ (s : List ℕ) (p : Result (Fields × ℕ) Refusal) where
  again : (q : Result (Message × ℕ) Refusal) (f : Fields) (m : Message) (n : ℕ) → read_of s ≡ q → p ≡ numbers_of q → p ≡ Ok (f, n) → m ≡ message_of f → Ok (m, n) ≡ q
  again (Err e) f m n a b c d = let z : ◌≡◌ {A = ℕ} 0 1 = cc in absurd (omega arith)
  again (Ok (m', n')) f m n a b c d =
      let g : message_of (fields_of m') ≡ m' = message_fields max_servers m' (took max_servers s m' n' a).range in
      let both : ◌≡◌ {A = Fields × ℕ} (fields_of m', n') (f, n) = cc in
      let h : fields_of m' ≡ f = ap (λ (x : Fields × ℕ). x.0) both in
      let k : n' ≡ n = ap (λ (x : Fields × ℕ). x.1) both in
      let l : message_of f ≡ m' = rw h at g in
      cc

  pub read-message : (f : Fields) (m : Message) (n : ℕ) → p ≡ numbers_of (read_of s) → p ≡ Ok (f, n) → m ≡ message_of f → Ok (m, n) ≡ read_of s
  read-message f m n a b c = again (read_of s) f m n refl a b c

  none : (q : Result (Message × ℕ) Refusal) (e : Refusal) → p ≡ numbers_of q → p ≡ Err e → Err e ≡ q
  none (Err e') e b c = let h : e' ≡ e = cc in cc
  none (Ok (m, n)) e b c = let z : ◌≡◌ {A = ℕ} 0 1 = cc in absurd (omega arith)

  pub read-refused : (e : Refusal) → p ≡ numbers_of (read_of s) → p ≡ Err e → Err e ≡ read_of s
  read-refused e a b = none (read_of s) e a b

module _ (f : Fields) (o : List ℕ) (size : ℕ) (z : size ≡ length_of f.kind) where
  pub lay_short : length o < size → (Err RoomShort ≡ lay_of f (length o)) × (o ≡ laid_in f o)
  unfolding lay_of laid_in
  lay_short h = (simp (← z, lt-ltb _ _ h), simp (← z, lt-leb _ _ h))

  pub lay_done : (n : ℕ) (l : List ℕ) → size ≤ length o → n ≡ 0 + length_of f.kind → l ≡ sets o 0 (bytes_of_fields f)
      → (Ok n ≡ lay_of f (length o)) × (l ≡ laid_in f o)
  unfolding lay_of laid_in
  lay_done n l h e p = let s : n ≡ size = omega arith in (simp (← z, le-ltb _ _ h, s), simp (← z, le-leb _ _ h, p))

module _ (m : Message) (o : List ℕ) (v : Bool) (w : v ≡ valid m) where
  pub write_invalid : v ≡ false → (Err NumberOutOfRange ≡ write_of m (length o)) × (o ≡ buffer_after m o)
  unfolding write_up_to buffer_after_up_to
  write_invalid b = let i : valid m ≡ false = cc in (simp i, simp i)

  pub write_laid : v ≡ true → (f : Fields) (r : Result ℕ Refusal) (l : List ℕ) → f ≡ fields_of m → r ≡ lay_of f (length o) → l ≡ laid_in f o
      → (r ≡ write_of m (length o)) × (l ≡ buffer_after m o)
  unfolding write_up_to buffer_after_up_to lay_of laid_in size_of bytes_of
  write_laid t f r l e p q = let i : valid m ≡ true = cc in (simp i (rw e at p), simp i (rw e at q))

module _ (f : Fields) (o : List ℕ) (v : Bool) (w : v ≡ valid_fields f) where
  pub numbers_invalid : v ≡ false → (Err NumberOutOfRange ≡ write_numbers f (length o)) × (o ≡ numbers_after f o)
  numbers_invalid b = let i : valid_fields f ≡ false = cc in (rw i, rw i)

  pub numbers_laid : v ≡ true → (r : Result ℕ Refusal) (l : List ℕ) → r ≡ lay_of f (length o) → l ≡ laid_in f o → (r ≡ write_numbers f (length o)) × (l ≡ numbers_after f o)
  numbers_laid t r l p q = let i : valid_fields f ≡ true = cc in (rw i p, rw i q)

-- what is written of numbers in range is what is written of their message
module _ (f : Fields) (o : List ℕ) (v : valid_fields f ≡ true) where
  message-written : (write_numbers f (length o) ≡ write_of (message_of f) (length o)) × (numbers_after f o ≡ buffer_after (message_of f) o)
  message-written = rw v (write_laid (message_of f) o true (sym (fields_valid max_servers f v)) refl f _ _ (sym (fields_again max_servers f v)) refl refl)

  pub written_as_message : write_of (message_of f) (length o) ≡ write_numbers f (length o)
  written_as_message = sym message-written.0

  pub buffer_as_message : buffer_after (message_of f) o ≡ numbers_after f o
  buffer_as_message = sym message-written.1
