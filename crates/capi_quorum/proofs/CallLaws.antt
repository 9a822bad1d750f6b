-- Each return of the exported calls is one case of its definition.
use Rattle.std.specs.Prelude.{Ok, Err, Result, Some, None, Option}
use mathlib.Core.Path.{◌≡◌, refl, ap, ◌∙◌}
use Prim.Native.Nat.{ℕ, ◌≤◌, ◌<◌}
use mathlib.Core.List.{List, [], ◌∷◌}
use lib.IntN.{ℤ, pos}
use mathlib.Core.Bool.{true}
use mathlib.Core.Logic.{inl, inr}
use mir.Syntax.{w32}
use mir.Val.{to_z, of_z}
use lib.ListN.{length, set}
use borrow.Author.Tests.{lt-ltb, le-ltb}
use Rattle.ids.specs.Limits.{max_servers}
use Rattle.ids.specs.Refusals.{code}
use Rattle.ids.specs.declared.Refusal.{Refusal}
use Rattle.ids.specs.declared.Refusal.TheVariants.{RoomShort, ParameterOutOfRange, Unsafe as NotSafe, Stalls as Stalling}
use Rattle.system.specs.declared.Event.{Event}
use Rattle.system.specs.declared.Event.TheVariants.{Try, Exit, Fall, Down, Up, Take, Drop, Miss, Check}
use Rattle.script_lines.specs.Printed.{number_of}
use Rattle.quorum.specs.declared.Verdict.{Verdict}
use Rattle.quorum.specs.declared.Verdict.TheVariants.{Accepted, Unsafe, Stalls, OutOfRange}
use Rattle.quorum.specs.Check.{in_range, margin, is_unsafe, is_stalling, judged, verdict, Demand3}
use Rattle.quorum.proofs.CheckLaws.{range, margin-kept}
use Rattle.ids.proofs.Choice.{Test, decided}
use Rattle.quorum.specs.Run.{run_event}
use Rattle.quorum.specs.Threshold.{threshold_of}
use Rattle.capi_quorum.specs.Calls.{signed_word, with_words, given, setting_code, setting_words, event_kind, event_number, event_code, event_words, threshold_code, threshold_words}

module _ (ws : List ℕ) (a b number : ℕ) where
  pub two-short : (x : ℕ) → length ws < 2 → x ≡ code RoomShort → (x ≡ with_words 2 ws number) × (ws ≡ given ws (a ∷ b ∷ []))
  two-short x h e = (rw (lt-ltb (length ws) 2 h) e, rw (lt-ltb (length ws) 2 h))

  pub two-done : 2 ≤ length ws → (number ≡ with_words 2 ws number) × (set (set ws 0 a) 1 b ≡ given ws (a ∷ b ∷ []))
  two-done h = (rw (le-ltb (length ws) 2 h), rw (le-ltb (length ws) 2 h))

-- the number that an event names is the same in a script's line
same-number : (e : Event) → number_of e ≡ event_number e
same-number (Try k) = refl
same-number (Exit k) = refl
same-number (Fall k) = refl
same-number (Down j) = refl
same-number (Up j) = refl
same-number (Take i) = refl
same-number (Drop i) = refl
same-number (Miss j) = refl
same-number (Check j) = refl

-- the margin that an answer carries is a number of 32 bits
abbrev margin_in : Verdict → ℤ
margin_in (Accepted x) = x
margin_in (Unsafe x k) = x
margin_in (Stalls x) = x
margin_in OutOfRange = pos 0

carried : (n m f : ℕ) → to_z w32 (of_z w32 (margin_in (verdict n m f))) ≡ margin_in (verdict n m f)
unfolding verdict judged
carried n m f = go (decided (in_range n m f)) (decided (is_unsafe n m f)) (decided (is_stalling n m f))
  where
    kept : in_range n m f ≡ true → to_z w32 (of_z w32 (margin n m f)) ≡ margin n m f
    kept i = let r = range max_servers n m f i in margin-kept n m f (margin n m f) (r.servers, r.threshold, r.faults) refl

    go : Test (in_range n m f) → Test (is_unsafe n m f) → Test (is_stalling n m f) → to_z w32 (of_z w32 (margin_in (verdict n m f))) ≡ margin_in (verdict n m f)
    go (inr i) u s = rw i refl
    go (inl i) (inl u) s = rw (i, u) (kept i)
    go (inl i) (inr u) (inl s) = rw (i, u, s) (kept i)
    go (inl i) (inr u) (inr s) = rw (i, u, s) (kept i)

-- what `sigma_setting` leaves
abbrev pub Tells : ℕ → ℕ → ℕ → List ℕ → ℕ → List ℕ → Type 0
Tells n m f ws r new = (r ≡ setting_code (verdict n m f) ws) × (new ≡ setting_words (verdict n m f) ws) × Demand3 n m f (verdict n m f)

module _ (n m f : ℕ) (ws new : List ℕ) (r : ℕ) (v : Verdict) (e : (v ≡ verdict n m f) × Demand3 n m f v) where
  read : to_z w32 (of_z w32 (margin_in v)) ≡ margin_in v
  read = rw e.0 (carried n m f)

  pub setting-accepted : (x : ℤ) (w : ℕ) → v ≡ Accepted x → w ≡ signed_word (to_z w32 (of_z w32 x))
      → (r ≡ with_words 2 ws 0) × (new ≡ given ws (w ∷ 0 ∷ [])) → Tells n m f ws r new
  setting-accepted x w a s p = rw (← e.0, a) (p.0, rw (← (s ∙ ap signed_word (rw a at read))) p.1, rw a at e.1)

  pub setting-unsafe : (x : ℤ) (k w c : ℕ) → v ≡ Unsafe x k → w ≡ signed_word (to_z w32 (of_z w32 x)) → c ≡ code NotSafe
      → (r ≡ with_words 2 ws c) × (new ≡ given ws (w ∷ k ∷ [])) → Tells n m f ws r new
  setting-unsafe x k w c a s q p = rw (← e.0, a) (rw q at p.0, rw (← (s ∙ ap signed_word (rw a at read))) p.1, rw a at e.1)

  pub setting-stalls : (x : ℤ) (w c : ℕ) → v ≡ Stalls x → w ≡ signed_word (to_z w32 (of_z w32 x)) → c ≡ code Stalling
      → (r ≡ with_words 2 ws c) × (new ≡ given ws (w ∷ 0 ∷ [])) → Tells n m f ws r new
  setting-stalls x w c a s q p = rw (← e.0, a) (rw q at p.0, rw (← (s ∙ ap signed_word (rw a at read))) p.1, rw a at e.1)

  pub setting-refused : v ≡ OutOfRange → r ≡ code ParameterOutOfRange → Tells n m f ws r ws
  setting-refused a p = rw (← e.0, a) (p, refl, rw a at e.1)

module _ (n m f i : ℕ) (ws new : List ℕ) (r : ℕ) (v : Result Event Refusal) (e : v ≡ run_event n m f i) where
  pub event-given : (x : Event) (k j : ℕ) → v ≡ Ok x → k ≡ event_kind x → j ≡ number_of x → (r ≡ with_words 2 ws 0) × (new ≡ given ws (k ∷ j ∷ [])) →
      (r ≡ event_code (run_event n m f i) ws) × (new ≡ event_words (run_event n m f i) ws)
  event-given x k j a s q p = rw (← e, a) (p.0, rw (← s, ← (q ∙ same-number x)) p.1)

  pub event-refused : (x : Refusal) → v ≡ Err x → r ≡ code x → (r ≡ event_code (run_event n m f i) ws) × (ws ≡ event_words (run_event n m f i) ws)
  event-refused x a p = rw (← e, a) (p, refl)

module _ (n : ℕ) (ws : List ℕ) (v : Option ℕ) (e : v ≡ threshold_of n) where
  pub threshold_short : (x r : ℕ) → v ≡ Some x → length ws < 1 → r ≡ code RoomShort
      → (r ≡ threshold_code (threshold_of n) ws) × (ws ≡ threshold_words (threshold_of n) ws)
  threshold_short x r a h p = rw (← e, a, lt-ltb (length ws) 1 h) (p, refl)

  pub threshold_given : (x : ℕ) → v ≡ Some x → 1 ≤ length ws → (0 ≡ threshold_code (threshold_of n) ws) × (set ws 0 x ≡ threshold_words (threshold_of n) ws)
  threshold_given x a h = rw (← e, a, le-ltb (length ws) 1 h) (refl, refl)

  pub threshold_refused : (r : ℕ) → v ≡ None → r ≡ code ParameterOutOfRange
      → (r ≡ threshold_code (threshold_of n) ws) × (ws ≡ threshold_words (threshold_of n) ws)
  threshold_refused r a p = rw (← e, a) (p, refl)
