-- A queue in a row: what moving its places leaves.
use Prim.Native.Nat.{ℕ, suc, ◌+◌, ◌*◌, ◌-◌, ◌<◌, ◌≤◌}
use native.Mathlib.Nat.{zero-add}
use native.Mathlib.Omega.{arith}
use mathlib.Core.Path.{◌≡◌, refl, sym, ap, subst, ◌∙◌}
use mathlib.Core.List.{List, ◌∷◌, ◌++◌, append_assoc}
use lib.ListN.{length, get_or, set, take, drop, replicate, length-append, length-drop, length-replicate, take-append-drop}
use lib.Seq.{length-take-le, split_at, take_at, drop_at, get_or_at, drop-drop}
use Rattle.std.proofs.lemmas.List.{drop-replicate}
use native.Mathlib.Numerals.{add-one}
use Rattle.std.specs.List.{copy_within}
use Rattle.ids.specs.Order.{before}
use Rattle.ids.specs.Requests.{no_request, same}
use Rattle.ids.specs.declared.Request.{Request}
use Rattle.rows.specs.Rows.{request_words, requests_in, row_of, queue_of, fits_place, Places, Padded, Put}
use Rattle.rows.specs.Queue.{insert, without}
use Rattle.rows.specs.Queues.{matching, first, Holds}
use Rattle.rows.specs.declared.Wanted.TheVariants.{Pair, Later}
use Rattle.rows.proofs.WordLaws.{requests_moved, row-again, words_append, words-empty, put-requests, put-size}
use Rattle.rows.proofs.GoodLaws.{length-requests}
use Rattle.rows.proofs.ShiftLaws.{moved-back, moved-up, every_moved, Shifted, shifted, rise_start, rise_on, rise_end, sink_start, sink_on, sink_end}
use Rattle.rows.proofs.ListLaws.{first-within, insert-first, without-first, without-none}

-- n empty places
abbrev empties : ℕ → List Request
empties n = replicate n no_request

-- a row whose places hold the list l and then empty ones
pub holding : (row after : List ℕ) (len k : ℕ) (l : List Request) → length after ≡ length row → Places after
    → requests_in after ≡ l ++ empties k → length l ≡ len → Holds row after len l
holding row after len k l size good e n =
    let all : length (requests_in after) ≡ length l + k = ap length e ∙ simp (length-append, length-replicate) in
    let z : length (requests_in after) - len ≡ k = omega arith in
    record {
      size = size;
      good = record { places = good; within = omega arith; rest = rw (z, e) (drop_at l (empties k) len n) };
      list = rw e (take_at l (empties k) len n);
    }

module _ (row : List ℕ) (len : ℕ) (good : Padded row len) where
  pub length-queue : length (queue_of row len) ≡ len
  length-queue = length-take-le len (requests_in row) good.within

  row_split : requests_in row ≡ queue_of row len ++ empties (length (requests_in row) - len)
  row_split = sym (take-append-drop len (requests_in row)) ∙ ap (λ (l : List Request). queue_of row len ++ l) good.rest

  pub holds-still : Holds row row len (queue_of row len)
  holds-still = record { size = refl; good = good; list = refl }

-- places moved within a row, and one put
module _ (row : List ℕ) (len : ℕ) (good : Padded row len) (at : ℕ) (mid after : List ℕ) where
  still : (i j to : ℕ) → i ≤ j → j ≤ len → 2 * (to + (j - i)) ≤ length row → mid ≡ copy_within row (2 * i) (2 * j) (2 * to) → length mid ≡ length row
      → (requests_in mid ≡ copy_within (requests_in row) i j to) × Places mid
  still i j to h g room e n =
      let p = good.places in
      let m : requests_in mid ≡ copy_within (requests_in row) i j to = rw e (requests_moved row i j to h (omega (arith, good.within, p.even)) room) in
      (m, record { even = n ∙ p.even ∙ ap (λ (k : ℕ). 2 * k) (sym (length-requests mid (length (requests_in row)) (n ∙ p.even))); small = rw m (every_moved fits_place (requests_in row) p.small i j to) })

  pub inserted : (r : Request) → at ≤ len → 2 * (len + 1) ≤ length row → mid ≡ copy_within row (2 * at) (2 * len) (2 * (at + 1)) → length mid ≡ length row
      → Put mid after at r
      → Holds row after (len + 1) (take at (queue_of row len) ++ r ∷ drop at (queue_of row len))
  inserted r h room e n P =
      let q = length-queue row len good in
      let (m, p) = still at len (at + 1) h (omega arith) (omega arith) e n in
      let l : length (take at (queue_of row len) ++ r ∷ drop at (queue_of row len)) ≡ len + 1 = simp (
        length-append,
        length-take-le at (queue_of row len) (omega arith),
        length-drop,
      ) (omega arith) in
      let k : length (requests_in row) - len - 1 ≡ length (requests_in row) - suc len = omega arith in
      let g : drop (suc len) (requests_in row) ≡ empties (length (requests_in row) - suc len) = rw add-one at (sym (drop-drop 1 len (requests_in row))) ∙ ap (drop 1) good.rest ∙ drop-replicate 1 (length (requests_in row) - len) no_request ∙ rw k in
      holding row after (len + 1) (length (requests_in row) - suc len) _ (put-size mid after at r P ∙ n) (P.places p)
      (put-requests mid after at r P ∙ rw (m, ← g) (moved-back no_request (requests_in row) len at good.within r h (omega (arith, good.places.even)))) l

  pub removed : (r : Request) → at < len → mid ≡ copy_within row (2 * (at + 1)) (2 * len) (2 * at) → length mid ≡ length row
      → Put mid after (len - 1) r → r ≡ no_request
      → Holds row after (len - 1) (take at (queue_of row len) ++ drop (suc at) (queue_of row len))
  removed r h e n P z =
      let q = length-queue row len good in
      let (m, p) = still (at + 1) len at (omega arith) (omega arith) (omega (arith, good.within, good.places.even)) e n in
      let l : length (take at (queue_of row len) ++ drop (suc at) (queue_of row len)) ≡ len - 1 = simp (
        length-append,
        length-take-le at (queue_of row len) (omega arith),
        length-drop,
      ) (omega arith) in
      holding row after (len - 1) (suc (length (requests_in row) - len)) _ (put-size mid after (len - 1) r P ∙ n) (P.places p)
      (put-requests mid after (len - 1) r P ∙ rw (m, ← good.rest, ← z) (moved-up no_request (requests_in row) len at good.within r h)) l

-- the places of the row without the one at `at`, and with r there
unfoldable pub places_removed : List ℕ → ℕ → ℕ → List Request
places_removed row len at = (take at (queue_of row len) ++ drop (suc at) (queue_of row len)) ++ (no_request ∷ empties (length (requests_in row) - len))

unfoldable pub places_inserted : List ℕ → ℕ → ℕ → Request → List Request
places_inserted row len at r = (take at (queue_of row len) ++ r ∷ drop at (queue_of row len)) ++ empties (length (requests_in row) - suc len)

module _ (row : List ℕ) (len : ℕ) (good : Padded row len) (at : ℕ) where
  pub removal : at < len → Shifted no_request (requests_in row) (places_removed row len at) at (len - 1)
  unfolding places_removed
  removal h =
      let n = length-queue row len good in
      let p : length (take at (queue_of row len)) ≡ at = length-take-le at (queue_of row len) (omega arith) in
      let q : length (take at (queue_of row len)) + length (drop (suc at) (queue_of row len)) ≡ len - 1 = simp length-drop (omega arith) in
      let u : requests_in row ≡ take at (queue_of row len) ++ get_or (queue_of row len) at no_request ∷ (drop (suc at) (queue_of row len) ++ empties
      (length (requests_in row) - len)) =
      row_split row len good ∙
      ap (λ (x : List Request). x ++ empties (length (requests_in row) - len)) (split_at (queue_of row len) at no_request (omega arith)) ∙
      append_assoc (take at (queue_of row len)) _ _ in
      rw (append_assoc) (subst (λ (x : List Request). Shifted no_request x
      (take at (queue_of row len) ++ (drop (suc at) (queue_of row len) ++ no_request ∷ empties (length (requests_in row) - len))) at
      (len - 1)) (sym u)
      (shifted no_request (take at (queue_of row len)) (drop (suc at) (queue_of row len)) (empties (length (requests_in row) - len))
      (get_or (queue_of row len) at no_request) no_request at (len - 1) p q))

  pub insertion : (r : Request) → at ≤ len → 2 * (len + 1) ≤ length row → Shifted no_request (places_inserted row len at r) (requests_in row) at len
  unfolding places_inserted
  insertion r h room =
      let n = length-queue row len good in
      let k : length (requests_in row) - len ≡ suc (length (requests_in row) - suc len) = omega (arith, good.places.even) in
      let p : length (take at (queue_of row len)) ≡ at = length-take-le at (queue_of row len) (omega arith) in
      let q : length (take at (queue_of row len)) + length (drop at (queue_of row len)) ≡ len = simp length-drop (omega arith) in
      let u : requests_in row ≡ take at (queue_of row len) ++ (drop at (queue_of row len) ++ no_request ∷ empties (length (requests_in row) - suc len)) =
      row_split row len good ∙
      rw k (ap (λ (x : List Request). x ++ (no_request ∷ empties (length (requests_in row) - suc len))) (sym (take-append-drop at (queue_of row len))) ∙
      append_assoc (take at (queue_of row len)) _ _) in
      rw (append_assoc) (subst (λ (x : List Request). Shifted no_request
      (take at (queue_of row len) ++ (r ∷ (drop at (queue_of row len) ++ empties (length (requests_in row) - suc len)))) x at len) (sym u)
      (shifted no_request (take at (queue_of row len)) (drop at (queue_of row len)) (empties (length (requests_in row) - suc len)) r no_request at len p q))

-- a row whose places are being moved: now they are `held`
pub record Moving (held : List Request) (row : List ℕ) : Type 0 where
  pub places : Places row
  pub done : requests_in row ≡ held

-- up from lo: before place i stands Y, from there on X; down from hi: up to place i stands Y, behind it X
abbrev pub Rising : List Request → List Request → List ℕ → ℕ → Type 0
Rising X Y row i = Moving (take i Y ++ drop i X) row

abbrev pub Sinking : List Request → List Request → List ℕ → ℕ → Type 0
Sinking X Y row i = Moving (take (suc i) Y ++ drop (suc i) X) row

module _ (X Y : List Request) (lo hi : ℕ) (S : Shifted no_request X Y lo hi) (row : List ℕ) where
  pub rising_start : Places row → requests_in row ≡ X → Rising X Y row lo
  rising_start p e = record { places = p; done = e ∙ rise_start no_request X Y lo hi S }

  pub sinking_start : Places row → requests_in row ≡ Y → Sinking X Y row hi
  sinking_start p e = record { places = p; done = e ∙ sink_start no_request X Y lo hi S }

  module _ (i : ℕ) (after : List ℕ) where
    -- a place is put, and `next` is what the row holds then
    moved_on : (held next : List Request) (k : ℕ) (q : Request) → Moving held row → Put row after k q → set held k q ≡ next → Moving next after
    moved_on held next k q M P e =
        record { places = P.places M.places; done = put-requests row after k q P ∙ ap (λ (x : List Request). set x k q) M.done ∙ e }

    pub rising_on : Rising X Y row i → lo ≤ i → i < hi → Put row after i (get_or (requests_in row) (i + 1) no_request) → Rising X Y after (i + 1)
    rising_on M l h P = moved_on _ _ i _ M P (rw M.done (rise_on no_request X Y lo hi S i (take i Y ++ drop i X) refl l h))

    pub sinking_on : Sinking X Y row i → lo < i → i ≤ hi → Put row after (i - 1 + 1) (get_or (requests_in row) (i - 1) no_request)
        → Sinking X Y after (i - 1)
    sinking_on M l h P =
        let n : i - 1 + 1 ≡ i = omega arith in
        moved_on _ _ i _ M (rw n at P) (rw M.done (sink_on no_request X Y lo hi S i (take (suc i) Y ++ drop (suc i) X) refl l h))

module _ (row : List ℕ) (len : ℕ) (good : Padded row len) (at : ℕ) where
  pub removing : at < len → Rising (requests_in row) (places_removed row len at) row at
  removing h = rising_start _ _ _ _ (removal row len good at h) row good.places refl

  pub inserting : (r : Request) → at ≤ len → 2 * (len + 1) ≤ length row → Sinking (places_inserted row len at r) (requests_in row) row len
  inserting r h room = sinking_start _ _ _ _ (insertion row len good at r h room) row good.places refl

  -- what the two loops leave, once the last place is put
  module _ (mid after : List ℕ) (size : length mid ≡ length row) (i : ℕ) where
    pub removed_by_loop : (x : Request) → at < len → i ≤ len - 1 → len - 1 ≤ i → Rising (requests_in row) (places_removed row len at) mid i
        → Put mid after (len - 1) x → x ≡ no_request
        → Holds row after (len - 1) (take at (queue_of row len) ++ drop (suc at) (queue_of row len))
    unfolding places_removed
    removed_by_loop x h u g M P e =
        let n = length-queue row len good in
        let l : length (take at (queue_of row len) ++ drop (suc at) (queue_of row len)) ≡ len - 1 = simp (
          length-append,
          length-take-le at (queue_of row len) (omega arith),
          length-drop,
        ) (omega arith) in
        let last : get_or (places_removed row len at) (len - 1) no_request ≡ x = get_or_at
        (take at (queue_of row len) ++ drop (suc at) (queue_of row len)) no_request _ no_request (len - 1) l ∙ sym e in
        let all : requests_in after ≡ places_removed row len at =
        put-requests mid after (len - 1) x P ∙
        rw last at (rise_end no_request _ _ _ _ (removal row len good at h) i (requests_in mid) M.done (omega arith)) in
        holding row after (len - 1) (suc (length (requests_in row) - len)) _ (put-size mid after (len - 1) x P ∙ size) (P.places M.places) all l

    pub inserted_by_loop : (r : Request) → at ≤ len → 2 * (len + 1) ≤ length row → at ≤ i → i ≤ at
        → Sinking (places_inserted row len at r) (requests_in row) mid i → Put mid after at r
        → Holds row after (len + 1) (take at (queue_of row len) ++ r ∷ drop at (queue_of row len))
    unfolding places_inserted
    inserted_by_loop r h room u g M P =
        let n = length-queue row len good in
        let p : length (take at (queue_of row len)) ≡ at = length-take-le at (queue_of row len) (omega arith) in
        let l : length (take at (queue_of row len) ++ r ∷ drop at (queue_of row len)) ≡ len + 1 = simp (length-append, length-drop) (omega arith) in
        let here : get_or (places_inserted row len at r) at no_request ≡ r = rw append_assoc (get_or_at (take at (queue_of row len)) r _ no_request at p) in
        let all : requests_in after ≡ places_inserted row len at r =
        put-requests mid after at r P ∙
        rw here at (sink_end no_request _ _ _ _ (insertion row len good at r h room) i (requests_in mid) M.done (omega arith)) in
        holding row after (len + 1) (length (requests_in row) - suc len) _ (put-size mid after at r P ∙ size) (P.places M.places) all l

-- insertion by order, and removal, by the place that a search found
module _ (row : List ℕ) (len : ℕ) (good : Padded row len) (r : Request) (at : ℕ) where
  pub slot-within : at ≡ 0 + first (matching Later r) (queue_of row len) → at ≤ len
  slot-within e = omega (arith, first-within (before r) (queue_of row len), length-queue row len good)

  pub inserted_at_slot : (after : List ℕ) → at ≡ 0 + first (matching Later r) (queue_of row len)
      → Holds row after (len + 1) (take at (queue_of row len) ++ r ∷ drop at (queue_of row len))
      → Holds row after (len + 1) (insert r (queue_of row len))
  inserted_at_slot after e H =
      let a : at ≡ first (before r) (queue_of row len) = e ∙ zero-add _ in
      rw (insert-first r (queue_of row len), ← a) H

  module _ (e : at ≡ 0 + first (matching Pair r) (queue_of row len)) where
    pub removed_where_found : (after : List ℕ) → at < len
        → Holds row after (len - 1) (take at (queue_of row len) ++ drop (suc at) (queue_of row len))
        → Holds row after (len - 1) (without r (queue_of row len))
    removed_where_found after h H =
        let n = length-queue row len good in
        let a : at ≡ first (λ x. same x r) (queue_of row len) = e ∙ zero-add _ in
        rw (without-first r (queue_of row len) (omega arith), ← a) H

    pub unremoved : len ≤ at → Holds row row len (without r (queue_of row len))
    unremoved h =
        let n = length-queue row len good in
        let a : at ≡ first (λ x. same x r) (queue_of row len) = e ∙ zero-add _ in
        rw (without-none r (queue_of row len) (omega arith)) (holds-still row len good)

-- what holds of a row that holds a list: the list's length, its room, and every word
module _ (row after : List ℕ) (len : ℕ) (l : List Request) (H : Holds row after len l) where
  pub holds-length : length l ≡ len
  holds-length = ap length (sym H.list) ∙ length-queue after len H.good

  pub holds_fits : 2 * length l ≤ length row
  holds_fits = omega (arith, holds-length, H.size, H.good.within, H.good.places.even)

  pub holds-words : after ≡ request_words l ++ replicate (length row - 2 * len) 0
  holds-words =
      let g = H.good in
      let k : 2 * (length (requests_in after) - len) ≡ length row - 2 * len = omega (arith, H.size, g.places.even) in
      sym (row-again after g.places.even) ∙ ap request_words (row_split after len g)
      ∙ rw (words_append, words-empty, H.list, k)

  pub holds_row : after ≡ row_of (length row) l
  unfolding row_of
  holds_row = rw holds-length holds-words

-- one change after another: what the first leaves is what the second finds
module _ (row mid after : List ℕ) where
  pub holds-again : (n : ℕ) (l : List Request) → length mid ≡ length row → Holds mid after n l → Holds row after n l
  holds-again n l s H = record { size = H.size ∙ s; good = H.good; list = H.list }

  pub holds_then : (n k : ℕ) (l : List Request) (f : List Request → List Request) → Holds row mid n l
      → Holds mid after k (f (queue_of mid n)) → Holds row after k (f l)
  holds_then n k l f G H = holds-again k (f l) G.size (record { size = H.size; good = H.good; list = H.list ∙ ap f G.list })
