-- Each return of the exported calls is one case of its definition: without two words for the counts a call is one without room, and else
-- it gives and leaves what the script's call does.
use Rattle.script.specs.declared.Progress.{Progress}
use Rattle.std.specs.Prelude.{Ok, Err, Result}
use mathlib.Core.Path.{◌≡◌, refl}
use Prim.Native.Nat.{ℕ, ◌≤◌, ◌<◌}
use native.Mathlib.Omega.{arith}
use mathlib.Core.Bool.{Bool, true, false}
use mathlib.Core.List.{List}
use mathlib.Core.Logic.{inl, inr}
use lib.ListN.{length, set}
use borrow.Author.Tests.{lt-ltb, le-ltb}
use Rattle.ids.proofs.Choice.{decided, Test}
use Rattle.ids.specs.Refusals.{code}
use Rattle.ids.specs.declared.Refusal.{Refusal}
use Rattle.ids.specs.declared.Refusal.TheVariants.{RoomShort, InvalidRecord}
use Rattle.script.specs.State.{valid}
use Rattle.script.specs.Calls.{new_answer, new_words, feed_answer, FeedLeaves, finish_answer, FinishLeaves}
use Rattle.capi_script.specs.Calls.{code_of, counts_of, room_of, fed, ended, Leaves}
use Rattle.capi_script.specs.Inner.{short_of}

pub refused-code : (p : Result Progress Refusal) (x : Refusal) (r : ℕ) → p ≡ Err x → r ≡ code x → r ≡ code_of p
refused-code p x r e q = rw e q

pub took_counts : (counts : List ℕ) (p : Result Progress Refusal) (used wrote : ℕ) → p ≡ Ok (record { used = used; wrote = wrote }) → set (set counts 0 used) 1 wrote ≡ counts_of counts p
took_counts counts p used wrote e = rw e

module _ (w : List ℕ) (v : Bool) (e : v ≡ valid w) (r : ℕ) where
  pub short-valid : v ≡ true → r ≡ code RoomShort → r ≡ code (short_of (valid w))
  short-valid t q = rw (← e, t) q

  pub short_invalid : v ≡ false → r ≡ code InvalidRecord → r ≡ code (short_of (valid w))
  short_invalid t q = rw (← e, t) q

pub new_done : (w w' : List ℕ) (p : Result Progress Refusal) (r : ℕ) → (p ≡ new_answer w) × (w' ≡ new_words w) → r ≡ code_of p → (r ≡ code_of (new_answer w)) × (w' ≡ new_words w)
new_done w w' p r f q = (rw (← f.0) q, f.1)

-- without room
feed_roomless : (w input : List ℕ) → feed_answer w input 0 ≡ Err (short_of (valid w))
unfolding feed_answer
feed_roomless w input = by_state (decided (valid w))
  where
    by_state : Test (valid w) → feed_answer w input 0 ≡ Err (short_of (valid w))
    by_state (inl e) = rw e
    by_state (inr e) = rw e

finish_roomless : (w : List ℕ) → finish_answer w 0 ≡ Err (short_of (valid w))
unfolding finish_answer
finish_roomless w = by_state (decided (valid w))
  where
    by_state : Test (valid w) → finish_answer w 0 ≡ Err (short_of (valid w))
    by_state (inl e) = rw e
    by_state (inr e) = rw e

-- a call that gives p, in general
abbrev Gives : Type 0 → Result Progress Refusal → List ℕ → List ℕ → List ℕ → ℕ → List ℕ → List ℕ → List ℕ → Type 0
Gives L p w out counts r w' out' counts' = (r ≡ code_of p) × Leaves L p w out counts w' out' counts'

module _ (w out counts : List ℕ) (r : ℕ) where
  refuses : (L : Type 0) (p : Result Progress Refusal) → p ≡ Err (short_of (valid w)) → length counts < 2 → r ≡ code (short_of (valid w))
      → Gives L p w out counts r w out counts
  refuses L p e h q = (rw e q, record { lent = λ l. absurd (omega (arith, l, h)); short = λ s. (refl, refl); counted = rw e })

  gives : (L : Type 0) (p : Result Progress Refusal) (w' out' counts' : List ℕ) → 2 ≤ length counts → L → counts' ≡ counts_of counts p → r ≡ code_of p
      → Gives L p w out counts r w' out' counts'
  gives L p w' out' counts' h l k q = (q, record { lent = λ s. l; short = λ s. absurd (omega (arith, s, h)); counted = k })

  no_room : length counts < 2 → room_of out counts ≡ 0
  no_room h = rw (lt-ltb (length counts) 2 h)

  its-room : 2 ≤ length counts → length out ≡ room_of out counts
  its-room h = rw (le-ltb (length counts) 2 h)

  pub feed_short : (input : List ℕ) → length counts < 2 → r ≡ code (short_of (valid w))
      → Gives (FeedLeaves w input out w out) (fed w input out counts) w out counts r w out counts
  feed_short input h q =
      let a : fed w input out counts ≡ Err (short_of (valid w)) = rw (no_room h) (feed_roomless w input) in
      refuses (FeedLeaves w input out w out) (fed w input out counts) a h q

  pub finish_short : length counts < 2 → r ≡ code (short_of (valid w)) → Gives (FinishLeaves w out w out) (ended w out counts) w out counts r w out counts
  finish_short h q =
      let a : ended w out counts ≡ Err (short_of (valid w)) = rw (no_room h) (finish_roomless w) in
      refuses (FinishLeaves w out w out) (ended w out counts) a h q

  module _ (h : 2 ≤ length counts) (p : Result Progress Refusal) (w' out' counts' : List ℕ) (k : counts' ≡ counts_of counts p) (q : r ≡ code_of p) where
    pub feed_lent : (input : List ℕ) → (p ≡ feed_answer w input (length out)) × FeedLeaves w input out w' out'
        → Gives (FeedLeaves w input out w' out') (fed w input out counts) w out counts r w' out' counts'
    feed_lent input f =
        let a : p ≡ fed w input out counts = rw (← (its-room h)) f.0 in
        gives (FeedLeaves w input out w' out') (fed w input out counts) w' out' counts' h f.1 (rw (← a) k) (rw (← a) q)

    pub finish_lent : (p ≡ finish_answer w (length out)) × FinishLeaves w out w' out'
        → Gives (FinishLeaves w out w' out') (ended w out counts) w out counts r w' out' counts'
    finish_lent f =
        let a : p ≡ ended w out counts = rw (← (its-room h)) f.0 in
        gives (FinishLeaves w out w' out') (ended w out counts) w' out' counts' h f.1 (rw (← a) k) (rw (← a) q)
