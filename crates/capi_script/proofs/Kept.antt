-- A refused call changes nothing that it was lent.
use Rattle.script.specs.declared.Progress.{Progress}
use Rattle.std.specs.Prelude.{Ok, Err, Result}
use mathlib.Core.Path.{◌≡◌, ap, ◌∙◌}
use Prim.Native.Nat.{ℕ, ◌≤◌}
use native.Mathlib.Omega.{arith}
use mathlib.Core.Bool.{false, ◌&&◌}
use mathlib.Core.List.{List}
use mathlib.Core.Logic.{inl, inr}
use lib.Dec.{ltb, leb}
use lib.ListN.{length}
use borrow.Author.Tests.{ltb-true, ltb-false, lt-leb, le-ltb}
use Rattle.ids.proofs.Choice.{decided, Test}
use Rattle.ids.specs.declared.Refusal.{Refusal}
use Rattle.script.specs.State.{valid}
use Rattle.script.specs.Calls.{feed_answer, FeedLeaves, finish_answer, FinishLeaves, max_ending}
use Rattle.capi_script.specs.Calls.{counts_of, fed, ended, Leaves}
use Rattle.script_output.specs.Reader.{max_printed}

module _ (w out counts w' out' counts' : List ℕ) (x : Refusal) where
  took_refused : (u k : ℕ) → ◌≡◌ {A = Result Progress Refusal} (Ok (record { used = u; wrote = k })) (Err x) → ⊥
  took_refused u k e = let z : ◌≡◌ {A = ℕ} 0 1 = cc in omega arith

  kept : (L : Type 0) (p : Result Progress Refusal) → Leaves L p w out counts w' out' counts' → p ≡ Err x → (2 ≤ length counts → L → (w' ≡ w) × (out' ≡ out)) →
      (w' ≡ w) × (out' ≡ out) × (counts' ≡ counts)
  kept L p l e f = by_words (decided (ltb (length counts) 2))
    where
      same : counts' ≡ counts
      same = l.counted ∙ ap (counts_of counts) e

      by_words : Test (ltb (length counts) 2) → (w' ≡ w) × (out' ≡ out) × (counts' ≡ counts)
      by_words (inl t) = let s = l.short (ltb-true (length counts) 2 t) in (s.0, s.1, same)
      by_words (inr t) = let h = ltb-false (length counts) 2 t in let s = f h (l.lent h) in (s.0, s.1, same)

  unfed : (input : List ℕ) → feed_answer w input (length out) ≡ Err x → valid w && leb max_printed (length out) ≡ false
  unfolding feed_answer
  unfed input e = by_state (decided (valid w)) (decided (ltb (length out) max_printed))
    where
      by_state : Test (valid w) → Test (ltb (length out) max_printed) → valid w && leb max_printed (length out) ≡ false
      by_state (inr v) t = rw v
      by_state (inl v) (inl t) = rw (v, lt-leb max_printed (length out) (ltb-true (length out) max_printed t))
      by_state (inl v) (inr t) = absurd (took_refused _ _ (rw (v, t) at e))

  unended : finish_answer w (length out) ≡ Err x → valid w && leb max_ending (length out) ≡ false
  unfolding finish_answer
  unended e = by_state (decided (valid w)) (decided (ltb (length out) max_ending))
    where
      by_state : Test (valid w) → Test (ltb (length out) max_ending) → valid w && leb max_ending (length out) ≡ false
      by_state (inr v) t = rw v
      by_state (inl v) (inl t) = rw (v, lt-leb max_ending (length out) (ltb-true (length out) max_ending t))
      by_state (inl v) (inr t) = absurd (took_refused _ _ (rw (v, t) at e))

  pub feed_kept : (input : List ℕ) → Leaves (FeedLeaves w input out w' out') (fed w input out counts) w out counts w' out' counts'
      → fed w input out counts ≡ Err x →
      (w' ≡ w) × (out' ≡ out) × (counts' ≡ counts)
  feed_kept input l e =
      kept (FeedLeaves w input out w' out') (fed w input out counts) l e (λ h f. f.kept (unfed input (rw (le-ltb (length counts) 2 h) at e)))

  pub finish_kept : Leaves (FinishLeaves w out w' out') (ended w out counts) w out counts w' out' counts' → ended w out counts ≡ Err x
      → (w' ≡ w) × (out' ≡ out) × (counts' ≡ counts)
  finish_kept l e =
      kept (FinishLeaves w out w' out') (ended w out counts) l e (λ h f. f.kept (unended (rw (le-ltb (length counts) 2 h) at e)))
