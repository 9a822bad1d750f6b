-- The line so far: a byte joins it while there is room for it, and its words are copied out as its bytes.
use mathlib.Core.Path.{◌≡◌, refl, sym, ap, ◌∙◌}
use Prim.Native.Nat.{ℕ, zero, suc, ◌+◌, ◌≤◌, ◌<◌}
use native.Mathlib.Numerals.{add-one}
use native.Mathlib.Omega.{arith}
use mathlib.Core.Bool.{true}
use mathlib.Core.List.{List, [], ◌∷◌, ◌++◌}
use lib.ListN.{length, get_or, set, take, drop, replicate, length-take, length-set, length-replicate}
use lib.Seq.{sets, sets-eq, take_all, take-suc, take-set-le, get_or-set_same, get_or-take, get_or-drop, length-take-le, drop-set-lt, drop-drop}
use borrow.Author.Tests.{eqb-true, le-leb, leb-true}
use Rattle.ids.specs.Lists.{every}
use Rattle.ids.proofs.ListLaws.{every_set, every-at, every_drop, every_append, every-same}
use Rattle.ids.proofs.Choice.{both}
use lib.Dec.{eqb}
use Rattle.sim_layout.specs.Layout.{blank}
use Rattle.script_lines.proofs.PutLaws.{Copied, copied_more, copied_all}
use Rattle.script_output.specs.Reader.{max_kept, behind}
use Rattle.script.specs.State.{length_at, line_from, state_size, Head, head_in, kept_in, simulation_in, stage_of, view, valid_run, valid_idle, byte_word, valid_parts, valid}
use Rattle.script.specs.Inner.{Sound, without_line}
use Rattle.script.proofs.StateLaws.{Is, itself-is, kept-long, view-is, valid-is, store_kept, store-front, store_length, LineFacts, Facts, facts, from-facts}

-- what a valid state is handed on as
valid-sized : (w : List ℕ) → valid w ≡ true → (length w ≡ state_size) × (valid_parts (head_in w) (kept_in w) (simulation_in w) ≡ true)
unfolding valid
valid-sized w e = let (a, b) = both (eqb (length w) state_size) (valid_parts (head_in w) (kept_in w) (simulation_in w)) e in (eqb-true (length w) state_size a, b)

pub known : (w : List ℕ) → valid w ≡ true → Facts (head_in w) (kept_in w) (simulation_in w)
known w e = facts (head_in w) (kept_in w) (simulation_in w) (valid-sized w e).1

pub sound : (w : List ℕ) → valid w ≡ true → Sound w
unfolding head_in
sound w e = record { valid = e; long = (valid-sized w e).0; short = (known w e).line.few }

-- a validity that only the line's part changes
pub still-valid : (w w' : List ℕ) (h' : Head) (l' : List ℕ) → valid w ≡ true → Is w' h' l' (simulation_in w) → h'.stage ≡ (head_in w).stage
    → valid_run h' (simulation_in w) ≡ valid_run (head_in w) (simulation_in w) → valid_idle h' (simulation_in w) ≡ valid_idle (head_in w) (simulation_in w)
    → LineFacts h'.length l' → valid w' ≡ true
still-valid w w' h' l' v p e r i line =
    let f = known w v in
    valid-is p ∙ from-facts h' l' (simulation_in w)
    (record {
      stage = omega (arith, e, f.stage);
      line = line;
      runs = λ q. r ∙ f.runs (sym e ∙ q);
      idles = λ q. i ∙ f.idles (λ z. q (e ∙ z));
    })

-- a full line keeps no more
take_left : (n : ℕ) (a r : List ℕ) → n ≤ length a → take n (a ++ r) ≡ take n a
take_left zero a r h = refl
take_left (suc n) [] r h = absurd (omega arith)
take_left (suc n) (x ∷ a) r h = ap (λ (y : List ℕ). x ∷ y) (take_left n a r (omega arith))

behind-full : (l : List ℕ) (b : ℕ) → length l ≡ max_kept → behind (take max_kept l) b ≡ take max_kept l
behind-full l b e =
    let z : take max_kept l ≡ l = take_all max_kept l (omega arith) in
    ap (λ (x : List ℕ). take max_kept (x ++ (b ∷ []))) z ∙ take_left max_kept l (b ∷ []) (omega arith)

behind_more : (l : List ℕ) (i b : ℕ) → i < max_kept → length l ≡ max_kept → take (i + 1) (set l i b) ≡ behind (take i l) b
behind_more l i b lt e =
    let a : take (suc i) (set l i b) ≡ take i l ++ (b ∷ []) = rw
    (take-suc (set l i b) i 0 (omega (arith, length-set l i b)), get_or-set_same l i b 0 (omega arith), take-set-le i l i b (omega arith)) in
    ap (λ (n : ℕ). take n (set l i b)) (add-one i) ∙
    (a ∙ sym (take_all max_kept (take i l ++ (b ∷ [])) (omega (arith, ap length (sym a), length-take (suc i) (set l i b)))))

-- one more byte: behind it all is 0 as before
line-longer : (l : List ℕ) (i b : ℕ) → LineFacts i l → i < max_kept → b ≤ 255 → LineFacts (i + 1) (set l i b)
line-longer l i b F lt small =
    let z : drop (i + 1) (set l i b) ≡ drop 1 (drop i l) = drop-set-lt (i + 1) l i b (omega arith) ∙ sym (drop-drop 1 i l) in
    record {
      few = omega arith;
      bytes = every_set byte_word l i b F.bytes (le-leb b 255 small);
      behind = rw z (every_drop (eqb 0) 1 (drop i l) F.behind);
    }

-- and none: all is 0
blank-bytes : (l : List ℕ) → blank l ≡ true → every byte_word l ≡ true
blank-bytes [] e = refl
blank-bytes (x ∷ l) e = let (a, b) = both (eqb 0 x) (blank l) e in rw (← eqb-true 0 x a, blank-bytes l b)

pub line-none : (l : List ℕ) → blank l ≡ true → LineFacts 0 l
line-none l e = record { few = omega arith; bytes = blank-bytes l e; behind = e }

line-cleared : (l : List ℕ) (i : ℕ) → LineFacts i l → length l ≡ max_kept → blank (sets l 0 (replicate i 0)) ≡ true
line-cleared l i F e =
    let z : 0 + length (replicate {A = ℕ} i 0) ≡ i = omega (arith, length-replicate {A = ℕ} i 0) in
    rw (sets-eq (replicate i 0) l 0 (omega (arith, e, F.few, z)), z) (every_append (eqb 0) (replicate i 0) (drop i l) (every-same (eqb 0) i 0 refl) F.behind)

-- the line is done with
pub line-gone : (w : List ℕ) (S : Sound w) → (view (without_line w) ≡ record { stage = (view w).stage; line = [] }) × (valid (without_line w) ≡ true)
unfolding view head_in stage_of valid_run valid_idle
line-gone w S =
    let i : ℕ = get_or w length_at 0 in
    let few : length (replicate {A = ℕ} i 0) ≤ max_kept = omega (arith, length-replicate {A = ℕ} i 0, S.short) in
    let p = store_length (store-front (itself-is w S.long) (replicate i 0) few) 0 in
    let F = (known w S.valid).line in (
      view-is p,
      still-valid w _ _ _ S.valid p refl refl refl (line-none _ (line-cleared (kept_in w) i F (kept-long w S.long))),
    )

module _ (w : List ℕ) (b : ℕ) (S : Sound w) where
  abbrev Keeps : List ℕ → Type 0
  Keeps w' = (view w' ≡ record { stage = (view w).stage; line = behind (view w).line b }) × (valid w' ≡ true)

  pub keep_full : max_kept ≤ get_or w length_at 0 → Keeps w
  unfolding view head_in
  keep_full h =
      let e : get_or w length_at 0 ≡ max_kept = omega (arith, S.short) in
      let l : List ℕ = kept_in w in
      let z : behind (take (get_or w length_at 0) l) b ≡ take (get_or w length_at 0) l = rw e (behind-full l b (kept-long w S.long)) in
      ((λ i. record { stage = stage_of (head_in w) (simulation_in w); line = sym z i }), S.valid)

  pub keep_more : get_or w length_at 0 < max_kept → b ≤ 255 → Keeps (set (set w (line_from + get_or w length_at 0) b) length_at (get_or w length_at 0 + 1))
  unfolding view head_in stage_of valid_run valid_idle
  keep_more h small =
      let i : ℕ = get_or w length_at 0 in
      let p = store_length (store_kept (itself-is w S.long) i b (omega (arith, h))) (i + 1) in
      let z : take (i + 1) (set (kept_in w) i b) ≡ behind (take i (kept_in w)) b = behind_more (kept_in w) i b (omega (arith, h)) (kept-long w S.long) in (
        view-is p ∙ (λ j. record { stage = stage_of (head_in w) (simulation_in w); line = z j }),
        still-valid w _ _ _ S.valid p refl refl refl (line-longer (kept_in w) i b (known w S.valid).line (omega (arith, h)) small),
      )

-- the line's words, copied out
module _ (w : List ℕ) (S : Sound w) where
  pub line-long : length (view w).line ≡ get_or w length_at 0
  unfolding view head_in
  line-long = length-take-le (get_or w length_at 0) (kept_in w) (omega (arith, S.short, kept-long w S.long))

  line_word : (i : ℕ) → i < get_or w length_at 0 → get_or (view w).line i 0 ≡ get_or w (line_from + i) 0
  unfolding view head_in kept_in
  line_word i lt =
      get_or-take (get_or w length_at 0) (take max_kept (drop line_from w)) i 0 lt ∙
      (get_or-take max_kept (drop line_from w) i 0 (omega (arith, lt, S.short)) ∙ get_or-drop line_from w i 0)

  pub word_small : (i : ℕ) → i < get_or w length_at 0 → get_or w (line_from + i) 0 ≤ 255
  unfolding kept_in
  word_small i lt =
      let e : get_or (take max_kept (drop line_from w)) i 0 ≡ get_or w (line_from + i) 0 = get_or-take max_kept (drop line_from w) i 0
      (omega (arith, lt, S.short)) ∙ get_or-drop line_from w i 0 in
      let t : byte_word (get_or (take max_kept (drop line_from w)) i 0) ≡ true = every-at byte_word 0 (take max_kept (drop line_from w)) i
      (known w S.valid).line.bytes (omega (arith, lt, S.short, kept-long w S.long)) in
      leb-true (get_or w (line_from + i) 0) 255 (rw e at t)

  pub copy_more : (o l : List ℕ) (i : ℕ) → Copied o l 0 (view w).line i → i < get_or w length_at 0
      → Copied o (set l i (get_or w (line_from + i) 0)) 0 (view w).line (i + 1)
  copy_more o l i C lt =
      let z : 0 + i ≡ i = omega arith in
      let d = copied_more o l 0 (view w).line i C (omega (arith, lt, line-long)) in
      rw (z, line_word i lt) at d

  -- all of them, as the bytes that are parsed
  pub copy_all : (o l : List ℕ) (i : ℕ) → length o ≡ max_kept → Copied o l 0 (view w).line i → get_or w length_at 0 ≤ i
      → take (get_or w length_at 0) l ≡ (view w).line
  copy_all o l i e C h =
      let z : get_or w length_at 0 ≡ length (view w).line = omega (arith, line-long) in
      let q = (copied_all o l 0 (view w).line i C (omega (arith, line-long))).1 in
      let f = sets-eq (view w).line o 0 (omega (arith, line-long, S.short)) in
      rw (z, q, f) (take_left (length (view w).line) (view w).line (drop (0 + length (view w).line) o) (omega arith) ∙ take_all
      (length (view w).line) (view w).line (omega arith))
