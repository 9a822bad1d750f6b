-- The messages of a step: at most three, one after another.
use Rattle.std.specs.Prelude.{Ok, Err, Some, None, Option}
use Prim.Native.Nat.{ℕ, ◌+◌, ◌<◌, ◌≤◌}
use native.Mathlib.Omega.{arith}
use mathlib.Core.Path.{◌≡◌, refl}
use mathlib.Core.List.{List, [], ◌++◌}
use lib.ListN.{length, length-append}
use lib.Seq.{sets}
use borrow.Author.Tests.{lt-ltb, le-ltb}
use Rattle.ids.specs.declared.Refusal.TheVariants.{RoomShort}
use Rattle.wire.specs.Format.{bytes_of, size_of, bytes_of_all, size_of_all, fields_of}
use Rattle.wire.specs.declared.Message.{Message}
use Rattle.wire.proofs.BytesLaws.{stored_on}
use Rattle.wire.proofs.RoundTrip.{short}
use Rattle.wire.proofs.Sequence.{bytes_of_all-one, size_of_all-one, bytes_of_all-append, size_of_all-append, length-bytes_of_all}
use Rattle.server_votes.specs.Places.{mails}
use Rattle.server.specs.Parts.{three_mails, sent_answer, sent_buffer}

pub nothing-size : 0 ≡ size_of_all []
unfolding size_of_all
nothing-size = refl

pub nothing-bytes : [] ≡ bytes_of_all []
unfolding bytes_of_all
nothing-bytes = refl

module _ (m : Option Message) where
  pub no_size : m ≡ None → 0 ≡ size_of_all (mails m)
  no_size e = rw e nothing-size

  pub one_size : (x : Message) (n : ℕ) → m ≡ Some x → n ≡ size_of x → n ≡ size_of_all (mails m)
  one_size x n e p = rw (e, size_of_all-one) p

  pub no_put : (o : List ℕ) (at : ℕ) → m ≡ None → (at ≡ at + size_of_all (mails m)) × (o ≡ sets o at (bytes_of_all (mails m)))
  no_put o at e = rw (e, ← nothing-size, ← nothing-bytes) (omega arith, refl)

  pub one-room : (x : Message) (at n : ℕ) → m ≡ Some x → at + size_of_all (mails m) ≤ n → at + size_of x ≤ n
  one-room x at n e h = rw (e, size_of_all-one) at h

  pub one-put : (x : Message) (o l : List ℕ) (at r : ℕ) → m ≡ Some x → (r ≡ at + size_of x) × (l ≡ sets o at (bytes_of x))
      → (r ≡ at + size_of_all (mails m)) × (l ≡ sets o at (bytes_of_all (mails m)))
  one-put x o l at r e p = rw (e, size_of_all-one, bytes_of_all-one) p

pub mail_small : (m : Option Message) → size_of_all (mails m) < 65536
unfolding size_of
mail_small None = rw (← nothing-size) (omega arith)
mail_small (Some x) = rw size_of_all-one (short (fields_of x).kind)

pub mail_few : (m : Option Message) → length (mails m) ≤ 1
mail_few None = omega arith
mail_few (Some x) = omega arith

module _ (a b c : Option Message) where
  pub three_size : size_of_all (mails a) + size_of_all (mails b) + size_of_all (mails c) ≡ size_of_all (three_mails a b c)
  unfolding three_mails
  three_size = rw (size_of_all-append, size_of_all-append)

  pub three_count : length (mails a) + length (mails b) + length (mails c) ≡ length (three_mails a b c)
  unfolding three_mails
  three_count = simp length-append

  pub three_put : (o l₁ l₂ l₃ : List ℕ) (x y : ℕ) → (x ≡ 0 + size_of_all (mails a)) × (l₁ ≡ sets o 0 (bytes_of_all (mails a)))
      → (y ≡ x + size_of_all (mails b)) × (l₂ ≡ sets l₁ x (bytes_of_all (mails b)))
      → l₃ ≡ sets l₂ y (bytes_of_all (mails c)) → l₃ ≡ sets o 0 (bytes_of_all (three_mails a b c))
  unfolding three_mails
  three_put o l₁ l₂ l₃ x y p q r =
      let i = length-bytes_of_all (mails a) in
      let k = length-bytes_of_all (mails b) in
      let s : l₂ ≡ sets o 0 (bytes_of_all (mails a) ++ bytes_of_all (mails b)) = stored_on o l₁ l₂ (bytes_of_all (mails a)) (bytes_of_all (mails b))
      0 x p.1 q.1 (omega arith) in
      let n : length (bytes_of_all (mails a) ++ bytes_of_all (mails b)) ≡ y = simp length-append (omega arith) in
      rw (bytes_of_all-append, bytes_of_all-append) (stored_on o l₂ l₃ (bytes_of_all (mails a) ++ bytes_of_all (mails b)) (bytes_of_all (mails c)) 0 y s r (omega arith))

module _ (ms : List Message) (o : List ℕ) (n : ℕ) (e : n ≡ size_of_all ms) where
  pub send_short : length o < n → (Err RoomShort ≡ sent_answer ms (length o)) × (o ≡ sent_buffer ms o)
  unfolding sent_answer sent_buffer
  send_short h = (rw (← e, lt-ltb _ _ h), rw (← e, lt-ltb _ _ h))

  pub send_done : (k : ℕ) (l : List ℕ) → n ≤ length o → k ≡ length ms → l ≡ sets o 0 (bytes_of_all ms)
      → (Ok (record { messages = k; bytes = n }) ≡ sent_answer ms (length o)) × (l ≡ sent_buffer ms o)
  unfolding sent_answer sent_buffer
  send_done k l h p q = (rw (← e, le-ltb _ _ h, p), rw (← e, le-ltb _ _ h, q))
