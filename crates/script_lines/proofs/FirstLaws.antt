-- The first line, a number at a time: what each number that was found says of the line from its place on, and then of the whole line.
use Rattle.std.specs.Prelude.{Some, None, Option}
use Prim.Native.Nat.{ℕ, ◌+◌, ◌-◌, ◌≤◌, ◌<◌}
use native.Mathlib.Omega.{arith}
use mathlib.Core.Path.{◌≡◌, refl, ap, ◌∙◌, sym}
use mathlib.Core.Bool.{Bool, true, false}
use mathlib.Core.Logic.{⊎_elim}
use mathlib.Core.List.{List}
use lib.Dec.{ltb}
use lib.ListN.{length, take, drop, length-drop}
use lib.Seq.{take_all}
use borrow.Author.Tests.{le-leb, lt-leb, ltb-true, ltb-false}
use Rattle.ids.specs.Choice.{maybe}
use Rattle.ids.proofs.Choice.{decided}
use Rattle.script_numbers.specs.Decimals.{number}
use Rattle.script_lines.specs.Words.{text, same, word, rest}
use Rattle.script_lines.specs.Lines.{next, four_in, setting_in, max_line}
use Rattle.script_lines.specs.Inner.{field_at}
use Rattle.system.specs.declared.Setting.{Setting}
use Rattle.script_lines.proofs.WordLaws.{cut_word, cut-none, cut_some, word_shorter, no, yes}

-- how a field is decided: there is no space, or a number before it, or none
unended : (s : List ℕ) (at : ℕ) → rest (drop at s) ≡ None → (o : Option ℕ) → number (word (drop at s)) ≡ o → None ≡ field_at s at
unfolding field_at
unended s at e None n = rw n
unended s at e (Some x) n = simp (n, e)

module _ (s : List ℕ) (at p : ℕ) (ends : (p ≡ at + length (word (drop at s))) × (p ≤ length s)) where
  pub field_unended : p ≡ length s → None ≡ field_at s at
  field_unended e = unended s at (cut-none s at p ends.0 e) (number (word (drop at s))) refl

  module _ (n : p ≡ length s → ⊥) (r : Option ℕ) (read : r ≡ number (take (p - at) (drop at s))) where
    read_word : r ≡ number (word (drop at s))
    read_word = rw (cut_word s at p ends.0) at read

    pub field_found : (x : ℕ) → r ≡ Some x → Some (x, p + 1) ≡ field_at s at
    unfolding field_at
    field_found x e =
        let o : number (word (drop at s)) ≡ Some x = sym read_word ∙ e in
        let b : rest (drop at s) ≡ Some (drop (p + 1) s) = cut_some s at p ends.0 (omega (arith, ends.1)) in
        simp (o, b, ← ends.0)

    pub field_unread : r ≡ None → None ≡ field_at s at
    unfolding field_at
    field_unread e = let o : number (word (drop at s)) ≡ None = sym read_word ∙ e in rw o

-- x stands before the first space from place `at` on, and a is the place behind that space
pub record Found (s : List ℕ) (at x a : ℕ) : Type 0 where
  pub value : number (word (drop at s)) ≡ Some x
  pub behind : rest (drop at s) ≡ Some (drop a s)
  pub within : a ≤ length s

module _ (s : List ℕ) (at : ℕ) where
  found-space : (x a : ℕ) → rest (drop at s) ≡ Some (drop (at + length (word (drop at s)) + 1) s) → at + length (word (drop at s)) < length s
      → (o : Option ℕ) → number (word (drop at s)) ≡ o → field_at s at ≡ Some (x, a) → Found s at x a
  unfolding field_at
  found-space x a b h None n e =
      let f : ◌≡◌ {A = Option (ℕ × ℕ)} None (Some (x, a)) = rw n at e in
      let z : ◌≡◌ {A = ℕ} 0 1 = cc in absurd (omega arith)
  found-space x a b h (Some y) n e =
      let f : ◌≡◌ {A = Option (ℕ × ℕ)} (Some (y, at + length (word (drop at s)) + 1)) (Some (x, a)) = rw (n, b) at e in
      let both : ◌≡◌ {A = ℕ × ℕ} (y, at + length (word (drop at s)) + 1) (x, a) = cc in
      let p : y ≡ x = ap (λ (z : ℕ × ℕ). z.0) both in
      let q : at + length (word (drop at s)) + 1 ≡ a = ap (λ (z : ℕ × ℕ). z.1) both in
      record { value = rw p at n; behind = rw q at b; within = omega arith }

  pub found : (x a : ℕ) (r : Option (ℕ × ℕ)) → at ≤ length s → r ≡ field_at s at → r ≡ Some (x, a) → Found s at x a
  found x a r h told e =
      let p : ℕ = at + length (word (drop at s)) in
      let w : p ≤ length s = omega (arith, word_shorter (drop at s), length-drop at s) in
      ⊎_elim
      (λ (t : ltb p (length s) ≡ true).
      let l : p < length s = ltb-true p (length s) t in
      found-space x a (cut_some s at p refl l) l (number (word (drop at s))) refl (sym told ∙ e))
      (λ (t : ltb p (length s) ≡ false).
      let l : p ≡ length s = omega (arith, ltb-false p (length s) t) in
      let f : None ≡ field_at s at = unended s at (cut-none s at p refl l) (number (word (drop at s))) refl in
      let z : ◌≡◌ {A = ℕ} 0 1 = cc in absurd (omega arith))
      (decided (ltb p (length s)))

  missing_by : {A : Type 0} (f : ℕ → List ℕ → Option A) (o : Option ℕ) (q : Option (List ℕ)) → number (word (drop at s)) ≡ o → rest (drop at s) ≡ q
      → field_at s at ≡ None → next (drop at s) f ≡ None
  unfolding field_at
  missing_by f None q n b e = rw n
  missing_by f (Some x) None n b e = simp (n, b)
  missing_by f (Some x) (Some l) n b e =
      let g : ◌≡◌ {A = Option (ℕ × ℕ)} (Some (x, at + length (word (drop at s)) + 1)) None = rw (n, b) at e in
      let z : ◌≡◌ {A = ℕ} 0 1 = cc in absurd (omega arith)

  missing : {A : Type 0} (f : ℕ → List ℕ → Option A) (r : Option (ℕ × ℕ)) → r ≡ field_at s at → r ≡ None → next (drop at s) f ≡ None
  missing f r told e = missing_by f (number (word (drop at s))) (rest (drop at s)) refl refl (sym told ∙ e)

-- four numbers from place `at` on, or which of them is missing
abbrev pub fourth : ℕ → ℕ → ℕ → List ℕ → Option Setting
fourth n m f l = maybe (number l) None (λ k. Some (record { n = n; m = m; f = f; clients = k }))

abbrev pub third : ℕ → ℕ → List ℕ → Option Setting
third n m l = next l (fourth n m)

abbrev pub second : ℕ → List ℕ → Option Setting
second n l = next l (third n)

module _ (s : List ℕ) (at : ℕ) where
  pub no_first : (r : Option (ℕ × ℕ)) → r ≡ field_at s at → r ≡ None → None ≡ four_in (drop at s)
  unfolding four_in
  no_first r told e = rw (missing s at second r told e)

  module _ (n a : ℕ) (g₁ : Found s at n a) where
    pub no_second : (r : Option (ℕ × ℕ)) → r ≡ field_at s a → r ≡ None → None ≡ four_in (drop at s)
    unfolding four_in
    no_second r told e = simp (g₁.value, g₁.behind, missing s a (third n) r told e)

    module _ (m b : ℕ) (g₂ : Found s a m b) where
      pub no_third : (r : Option (ℕ × ℕ)) → r ≡ field_at s b → r ≡ None → None ≡ four_in (drop at s)
      unfolding four_in
      no_third r told e = simp (g₁.value, g₁.behind, g₂.value, g₂.behind, missing s b (fourth n m) r told e)

      module _ (f c : ℕ) (g₃ : Found s b f c) (r : Option ℕ) (read : r ≡ number (take (length s - c) (drop c s))) where
        read-rest : r ≡ number (drop c s)
        read-rest =
            let t : take (length s - c) (drop c s) ≡ drop c s = take_all (length s - c) (drop c s) (omega (arith, length-drop c s)) in
            rw t at read

        pub no_fourth : r ≡ None → None ≡ four_in (drop at s)
        unfolding four_in
        no_fourth e =
            let o : number (drop c s) ≡ None = sym read-rest ∙ e in
            simp (g₁.value, g₁.behind, g₂.value, g₂.behind, g₃.value, g₃.behind, o)

        pub all_four : (k : ℕ) → r ≡ Some k → Some (record { n = n; m = m; f = f; clients = k }) ≡ four_in (drop at s)
        unfolding four_in
        all_four k e =
            let o : number (drop c s) ≡ Some k = sym read-rest ∙ e in
            simp (g₁.value, g₁.behind, g₂.value, g₂.behind, g₃.value, g₃.behind, o)

-- the whole line
pub setting-long : (s : List ℕ) → max_line < length s → None ≡ setting_in s
unfolding setting_in
setting-long s h = simp (lt-leb (length s) max_line h)

one_word : (s : List ℕ) → rest s ≡ None → (b : Bool) → same (word s) (text "setting") ≡ b → length s ≤ max_line → None ≡ setting_in s
unfolding setting_in
one_word s e true t h = simp (le-leb (length s) max_line h, t, e)
one_word s e false t h = simp (le-leb (length s) max_line h, t)

module _ (s : List ℕ) (p : ℕ) (short : length s ≤ max_line) (ends : (p ≡ 0 + length (word (drop 0 s))) × (p ≤ length s)) where
  pub setting_one_word : p ≡ length s → None ≡ setting_in s
  setting_one_word e = one_word s (cut-none s 0 p ends.0 e) (same (word s) (text "setting")) refl short

  module _ (n : p ≡ length s → ⊥) (r : Bool) (told : r ≡ same (take (p - 0) (drop 0 s)) (text "setting")) where
    told-word : r ≡ same (word s) (text "setting")
    told-word = rw (cut_word s 0 p ends.0) at told

    pub setting-other : r ≡ false → None ≡ setting_in s
    unfolding setting_in
    setting-other e = simp (le-leb (length s) max_line short, no told-word e)

    pub setting-numbers : (l : Option Setting) → r ≡ true → l ≡ four_in (drop (p + 1) s) → l ≡ setting_in s
    unfolding setting_in
    setting-numbers l e f =
        let b : rest s ≡ Some (drop (p + 1) s) = cut_some s 0 p ends.0 (omega (arith, ends.1)) in
        simp (le-leb (length s) max_line short, yes told-word e, b) f
