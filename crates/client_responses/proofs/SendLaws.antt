-- A message to each of the servers 1 to n: how many they are, their bytes, and what a loop that writes them knows before server j + 1.
use Prim.Native.Nat.{ℕ, zero, suc, ◌+◌, ◌*◌}
use native.Mathlib.Numerals.{add-one}
use native.Mathlib.Omega.{arith}
use mathlib.Core.Path.{◌≡◌, refl}
use mathlib.Core.List.{List}
use lib.ListN.{length, length-append}
use lib.Seq.{sets}
use Rattle.ids.specs.declared.ClientId.{ClientId}
use Rattle.ids.specs.declared.ServerId.{ServerId}
use Rattle.ids.specs.declared.Timestamp.{Timestamp}
use Rattle.wire.specs.Format.{length_of, fields_of, bytes_of, size_of, bytes_of_all, size_of_all, message_bytes}
use Rattle.wire.specs.declared.Message.{Message}
use Rattle.wire.specs.declared.Message.TheVariants.{Request, Yield, Release, Inquiry}
use Rattle.wire.proofs.Sequence.{size_of_all-append, size_of_all-one, put_next}
use Rattle.client_responses.specs.Figure1.{to_all}

module _ (f : ServerId → Message) where
  pub length-to_all : (n : ℕ) → length (to_all f n) ≡ n
  unfolding to_all
  length-to_all zero = refl
  length-to_all (suc n) = rw length-append (omega (arith, length-to_all n))

  module _ (plain : (j : ServerId) → size_of (f j) ≡ message_bytes) where
    pub size-to_all : (n : ℕ) → size_of_all (to_all f n) ≡ message_bytes * n
    unfolding to_all size_of_all
    size-to_all zero = refl
    size-to_all (suc n) = rw (size_of_all-append, size_of_all-one) (omega (arith, size-to_all n, plain (record { 0 = suc n })))

-- the messages to the servers 1 to j stand in l, which was o
pub record Sending (f : ServerId → Message) (o l : List ℕ) (at j : ℕ) : Type 0 where
  pub behind : at ≡ size_of_all (to_all f j)
  pub done : l ≡ sets o 0 (bytes_of_all (to_all f j))

module _ (f : ServerId → Message) (o : List ℕ) where
  pub sending-none : Sending f o o 0 0
  unfolding to_all size_of_all bytes_of_all
  sending-none = record { behind = refl; done = refl }

  pub sending-more : (l : List ℕ) (at j : ℕ) → Sending f o l at j → (l' : List ℕ) (r : ℕ) (m : Message) → m ≡ f (record { 0 = j + 1 })
      → (r ≡ at + size_of m) × (l' ≡ sets l at (bytes_of m)) → Sending f o l' r (j + 1)
  unfolding to_all
  sending-more l at j S l' r m e p =
      let k : j + 1 ≡ suc j = add-one j in
      let m' : m ≡ f (record { 0 = suc j }) = rw k at e in
      record {
        behind = rw (add-one, size_of_all-append, size_of_all-one, ← m') (omega (arith, p.0, S.behind));
        done = rw (add-one, ← m') (put_next o l l' 0 at (to_all f j) m S.done (omega (arith, S.behind)) p.1);
      }

-- all that a client sends has 12 bytes
pub request-plain : (k : ClientId) (t : Timestamp) (j : ServerId) → size_of (Request k j t) ≡ message_bytes
unfolding size_of fields_of length_of
request-plain k t j = refl

pub yield_plain : (k : ClientId) (t : Timestamp) (j : ServerId) → size_of (Yield k j t) ≡ message_bytes
unfolding size_of fields_of length_of
yield_plain k t j = refl

pub release_plain : (k : ClientId) (t : Timestamp) (j : ServerId) → size_of (Release k j t) ≡ message_bytes
unfolding size_of fields_of length_of
release_plain k t j = refl

pub inquiry_plain : (k : ClientId) (t : Timestamp) (j : ServerId) → size_of (Inquiry k j t) ≡ message_bytes
unfolding size_of fields_of length_of
inquiry_plain k t j = refl
