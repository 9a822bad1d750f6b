-- Messages one after another: a step that has written some and writes one more has written the longer list.
use Prim.Native.Nat.{ℕ, ◌+◌}
use native.Mathlib.Omega.{arith}
use mathlib.Core.Path.{◌≡◌, refl}
use mathlib.Core.List.{List, [], ◌∷◌, ◌++◌, append_assoc, append-nil}
use lib.ListN.{length, length-append}
use lib.Seq.{sets}
use Rattle.wire.specs.Format.{bytes_of, size_of, bytes_of_all, size_of_all}
use Rattle.wire.specs.declared.Message.{Message}
use Rattle.wire.proofs.BytesLaws.{stored_on}
use Rattle.wire.proofs.FormatLaws.{length-bytes_of}

pub length-bytes_of_all : (ms : List Message) → length (bytes_of_all ms) ≡ size_of_all ms
unfolding bytes_of_all size_of_all
length-bytes_of_all [] = refl
length-bytes_of_all (m ∷ ms) = simp (length-append, length-bytes_of, length-bytes_of_all ms)

pub bytes_of_all-append : (ms ns : List Message) → bytes_of_all (ms ++ ns) ≡ bytes_of_all ms ++ bytes_of_all ns
unfolding bytes_of_all
bytes_of_all-append [] ns = refl
bytes_of_all-append (m ∷ ms) ns = rw (bytes_of_all-append ms ns, append_assoc)

pub size_of_all-append : (ms ns : List Message) → size_of_all (ms ++ ns) ≡ size_of_all ms + size_of_all ns
unfolding size_of_all
size_of_all-append [] ns = omega arith
size_of_all-append (m ∷ ms) ns = omega (arith, size_of_all-append ms ns)

pub bytes_of_all-one : (m : Message) → bytes_of_all (m ∷ []) ≡ bytes_of m
unfolding bytes_of_all
bytes_of_all-one m = append-nil (bytes_of m)

pub size_of_all-one : (m : Message) → size_of_all (m ∷ []) ≡ size_of m
unfolding size_of_all
size_of_all-one m = omega arith

-- a buffer o with the messages ms from place i on, and then m behind them
pub put_next : (o l l' : List ℕ) (i j : ℕ) (ms : List Message) (m : Message) → l ≡ sets o i (bytes_of_all ms) → j ≡ i + size_of_all ms → l' ≡ sets l j (bytes_of m)
    → l' ≡ sets o i (bytes_of_all (ms ++ m ∷ []))
put_next o l l' i j ms m p e q =
    rw (bytes_of_all-append, bytes_of_all-one) (stored_on o l l' (bytes_of_all ms) (bytes_of m) i j p q (omega (arith, length-bytes_of_all ms)))
