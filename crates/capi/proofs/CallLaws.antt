-- What reading and writing a message return and leave, in each case.
use Rattle.std.specs.Prelude.{Ok, Err, Result, Some, None, Option}
use Prim.Native.Nat.{ℕ, ◌<◌, ◌≤◌}
use native.Mathlib.Omega.{arith}
use mathlib.Core.Path.{ap, ◌≡◌, refl}
use mathlib.Core.Bool.{true, false}
use mathlib.Core.List.{List, [], ◌∷◌, ◌++◌}
use mathlib.Core.Logic.{⊎_elim}
use lib.ListN.{length}
use lib.Seq.{sets}
use borrow.Author.Tests.{lt-ltb, le-ltb}
use Rattle.ids.specs.Limits.{max_servers}
use Rattle.ids.specs.Refusals.{code}
use Rattle.ids.specs.declared.Refusal.{Refusal}
use Rattle.ids.specs.declared.Refusal.TheVariants.{NumberOutOfRange, RoomShort}
use Rattle.ids.proofs.Choice.{decided}
use Rattle.wire.specs.Format.{words, fields_of, kind_in, valid_fields}
use Rattle.wire.specs.Calls.{read_of, numbers_of, write_numbers, numbers_after}
use Rattle.wire.specs.declared.Fields.{Fields}
use Rattle.wire.specs.declared.Message.{Message}
use Rattle.wire.proofs.RoundTrip.{took, short}
use Rattle.wire.proofs.CallLaws.{written_as_message, buffer_as_message}
use Rattle.words.specs.Messages.{crossing, message_in}
use Rattle.capi.specs.Calls.{read_size, read_code, read_words, written_code, write_code, write_buffer}

-- what `sigma_read` returns and leaves, from the numbers that were read
module _ (s ws : List ℕ) (p : Result (Fields × ℕ) Refusal) (e : p ≡ numbers_of (read_of s)) where
  -- the message that was read
  record From (f : Fields) (n : ℕ) : Type 0 where
    message : Message
    accepted : read_of s ≡ Ok (message, n)
    numbers : fields_of message ≡ f

  from : (q : Result (Message × ℕ) Refusal) (f : Fields) (n : ℕ) → read_of s ≡ q → p ≡ numbers_of q → p ≡ Ok (f, n) → From f n
  from (Err x) f n a b c = let z : ◌≡◌ {A = ℕ} 0 1 = cc in absurd (omega arith)
  from (Ok (m, n')) f n a b c =
      let both : ◌≡◌ {A = Fields × ℕ} (fields_of m, n') (f, n) = cc in
      record { message = m; accepted = rw (ap (λ (x : Fields × ℕ). x.1) both) at a; numbers = ap (λ (x : Fields × ℕ). x.0) both }

  module _ (f : Fields) (n : ℕ) (a : p ≡ Ok (f, n)) where
    read-from : From f n
    read-from = from (read_of s) f n refl e a

    pub used-small : n < 65536
    used-small = let m = read-from in let k = took max_servers s m.message n m.accepted in rw k.used at (short (kind_in s))

    pub read-room : (r : ℕ) → length ws < read_size → r ≡ code RoomShort → (r ≡ read_code (read_of s) (length ws)) × (ws ≡ read_words (read_of s) ws)
    read-room r h c = let m = read-from in (rw (m.accepted, lt-ltb _ _ h, c), rw (m.accepted, lt-ltb _ _ h))

    pub read_done : (l : List ℕ) → read_size ≤ length ws → l ≡ sets ws 0 (words f ++ n ∷ []) → (0 ≡ read_code (read_of s) (length ws)) × (l ≡ read_words (read_of s) ws)
    read_done l h c = let m = read-from in (rw (m.accepted, le-ltb _ _ h), rw (m.accepted, le-ltb _ _ h, m.numbers) c)

  refused : (q : Result (Message × ℕ) Refusal) (x : Refusal) → p ≡ numbers_of q → p ≡ Err x → q ≡ Err x
  refused (Err y) x b c = let h : y ≡ x = cc in cc
  refused (Ok (m, n)) x b c = let z : ◌≡◌ {A = ℕ} 0 1 = cc in absurd (omega arith)

  pub read-refused : (x : Refusal) (r : ℕ) → p ≡ Err x → r ≡ code x → (r ≡ read_code (read_of s) (length ws)) × (ws ≡ read_words (read_of s) ws)
  read-refused x r a c = let q : read_of s ≡ Err x = refused (read_of s) x e a in (rw (q, c), rw q)

-- the same of `sigma_write`, from the numbers that crossed
module _ (ws out : List ℕ) (g : Option Fields) (e : g ≡ crossing ws) where
  pub write_large : (r : ℕ) → g ≡ None → r ≡ code NumberOutOfRange → (r ≡ write_code (message_in ws) (length out)) × (out ≡ write_buffer (message_in ws) out)
  write_large r a c = let q : crossing ws ≡ None = cc in (rw (q, c), rw q)

  pub write_numbers_lem : (f : Fields) (w : Result ℕ Refusal) (r : ℕ) (l : List ℕ) → g ≡ Some f → w ≡ write_numbers f (length out)
      → l ≡ numbers_after f out → r ≡ written_code w
      → (r ≡ write_code (message_in ws) (length out)) × (l ≡ write_buffer (message_in ws) out)
  write_numbers_lem f w r l a b c d =
      let q : crossing ws ≡ Some f = cc in
      ⊎_elim
      (λ (v : valid_fields f ≡ true). (rw (q, v, d, b, written_as_message f out v, v), rw (q, v, c, buffer_as_message f out v, v)))
      (λ (v : valid_fields f ≡ false). (rw (q, v, d, b, v), rw (q, v, c, v)))
      (decided (valid_fields f))
