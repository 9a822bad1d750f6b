-- An entry found, put in and taken out: from what the loops leave to the words that the definitions say. The receivers' counts stand before all
-- entries, so that no move of entries reaches them.
use Prim.Native.Nat.{ℕ, suc, ◌+◌, ◌-◌, ◌<◌, ◌≤◌}
use native.Mathlib.Numerals.{add-one}
use native.Mathlib.Omega.{arith}
use mathlib.Core.Path.{◌≡◌, ◌∙◌}
use mathlib.Core.List.{List, ◌∷◌, ◌++◌}
use lib.ListN.{length, get_or, set, take, drop, length-drop, length-append, get_or-append}
use lib.Seq.{length-take-le, get_or-take}
use Rattle.system.specs.Limits.{system_messages}
use Rattle.sim_index.specs.declared.Card.{Card}
use Rattle.sim_index.specs.Index.{receivers, numbers_from, marks_from, index_size}
use Rattle.sim_index.specs.Calls.{start_of, first_of, inserted, deleted, entry_of, added, withdrawn, Sized}
use Rattle.sim_index.proofs.LoopLaws.{start-next}

-- what a move of words leaves: how many there are, and the word at a place before it
pub record Left (p : ℕ) (x y : List ℕ) : Type 0 where
  pub size : length y ≡ length x
  pub count : get_or y p 0 ≡ get_or x p 0

left_twice : (p : ℕ) (x y z : List ℕ) → Left p x y → Left p y z → Left p x z
left_twice p x y z a b = record { size = b.size ∙ a.size; count = b.count ∙ a.count }

module _ (p at : ℕ) (x : List ℕ) (h : p < at) where
  front : (l : List ℕ) → at ≤ length x → get_or (take at x ++ l) p 0 ≡ get_or x p 0
  front l room =
      let lt : p < length (take at x) = omega (arith, length-take-le at x room) in
      get_or-append (take at x) l 0 p lt ∙ get_or-take at x p 0 h

  inserted-left : (end v : ℕ) → at ≤ end → end < length x → Left p x (inserted at end v x)
  inserted-left end v le room =
      let moved : List ℕ = take (end - at) (drop at x) in
      record {
        size = omega (
          arith,
          length-append (take at x) (v ∷ (moved ++ drop (suc end) x)),
          length-append moved (drop (suc end) x),
          length-take-le at x (omega arith),
          length-take-le (end - at) (drop at x) (simp length-drop (omega arith)),
          length-drop (suc end) x,
        );
        count = front (v ∷ (moved ++ drop (suc end) x)) (omega arith);
      }

  deleted-left : (last : ℕ) → at ≤ last → last < length x → Left p x (deleted at last x)
  deleted-left last le room =
      let moved : List ℕ = take (last - at) (drop (suc at) x) in
      record {
        size = omega (
          arith,
          length-append (take at x) (moved ++ (0 ∷ drop (suc last) x)),
          length-append moved (0 ∷ drop (suc last) x),
          length-take-le at x (omega arith),
          length-take-le (last - at) (drop (suc at) x) (simp length-drop (omega arith)),
          length-drop (suc last) x,
        );
        count = front (moved ++ (0 ∷ drop (suc last) x)) (omega arith);
      }

module _ (len p : ℕ) (x : List ℕ) (S : Sized len p x) where
  pub entries_few : start_of p x + get_or x p 0 ≤ len
  entries_few = omega (arith, start-next x p (omega (arith, S.size, S.place)), S.within)

  pub start-asked : (length x ≡ index_size) × (p ≤ receivers) × (start_of p x ≤ system_messages)
  start-asked = (S.size, omega (arith, S.place), omega (arith, entries_few, S.few))

  pub next-asked : (length x ≡ index_size) × (p + 1 ≤ receivers) × (start_of (p + 1) x ≤ system_messages)
  next-asked = (S.size, omega (arith, S.place), rw add-one (omega (arith, S.within, S.few)))

  pub next-within : (at : ℕ) → at ≡ start_of (p + 1) x → at ≤ len
  next-within at e = let f : at ≡ start_of (suc p) x = rw add-one at e in omega (arith, f, S.within)

  -- the number looked for among the receiver's
  pub entry_found : (number from at : ℕ) → from ≡ start_of p x
      → at ≡ numbers_from + from + first_of number (take (numbers_from + from + get_or x p 0 - (numbers_from + from)) (drop (numbers_from + from) x))
      → at - numbers_from ≡ entry_of p number x
  unfolding entry_of
  entry_found number from at e f =
      let z : numbers_from + from + get_or x p 0 - (numbers_from + from) ≡ get_or x p 0 = omega arith in
      let g : at ≡ numbers_from + start_of p x + first_of number (take (get_or x p 0) (drop (numbers_from + start_of p x) x)) = rw (z, e) at f in
      omega (arith, g)

  -- a number and a mark put in, or taken out
  module _ (at : ℕ) (z : List ℕ) where
    pub put-left : (number mark : ℕ) → at ≤ len → len < system_messages
        → z ≡ inserted (marks_from + at) (marks_from + len) mark (inserted (numbers_from + at) (numbers_from + len) number x) → Left p x z
    put-left number mark le few g =
        let place = S.place in
        let y : List ℕ = inserted (numbers_from + at) (numbers_from + len) number x in
        let fits : numbers_from + len < length x = omega (arith, S.size) in
        let a : Left p x y = inserted-left p (numbers_from + at) x (omega arith) (numbers_from + len) number (omega arith) fits in
        let room : marks_from + len < length y = omega (arith, a.size, S.size) in
        let b : Left p y z = rw g (inserted-left p (marks_from + at) y (omega arith) (marks_from + len) mark (omega arith) room) in
        left_twice p x y z a b

    pub taken-left : at < len
        → z ≡ deleted (marks_from + at) (marks_from + (len - 1)) (deleted (numbers_from + at) (numbers_from + (len - 1)) x) → Left p x z
    taken-left lt g =
        let place = S.place in
        let few = S.few in
        let y : List ℕ = deleted (numbers_from + at) (numbers_from + (len - 1)) x in
        let fits : numbers_from + (len - 1) < length x = omega (arith, S.size) in
        let a : Left p x y = deleted-left p (numbers_from + at) x (omega arith) (numbers_from + (len - 1)) (omega arith) fits in
        let room : marks_from + (len - 1) < length y = omega (arith, a.size, S.size) in
        let b : Left p y z = rw g (deleted-left p (marks_from + at) y (omega arith) (marks_from + (len - 1)) (omega arith) room) in
        left_twice p x y z a b

pub added_is : (len : ℕ) (c : Card) (at : ℕ) (x z : List ℕ) → at ≡ start_of (c.place + 1) x
    → z ≡ inserted (marks_from + at) (marks_from + len) c.mark (inserted (numbers_from + at) (numbers_from + len) c.number x)
    → set z c.place (get_or z c.place 0 + 1) ≡ added len c x
unfolding added
added_is len c at x z e g = let e' : at ≡ start_of (suc c.place) x = rw add-one at e in rw (g, e', add-one)

pub withdrawn-is : (len p number at : ℕ) (x z : List ℕ) → at ≡ entry_of p number x
    → z ≡ deleted (marks_from + at) (marks_from + (len - 1)) (deleted (numbers_from + at) (numbers_from + (len - 1)) x)
    → set z p (get_or z p 0 - 1) ≡ withdrawn len p number x
unfolding withdrawn
withdrawn-is len p number at x z e g = rw (g, e)
