-- On a valid state and with room the script's calls are not refused: what they used and wrote lies within what they were lent.
use Rattle.script.specs.declared.Progress.{Progress}
use Rattle.ids.specs.declared.Refusal.{Refusal}
use Rattle.std.specs.Prelude.{Ok, Result}
use mathlib.Core.Path.{◌≡◌, refl, sym, ap, ◌∙◌}
use Prim.Native.Nat.{ℕ, ◌≤◌}
use native.Mathlib.Omega.{arith}
use mathlib.Core.Bool.{true, ◌&&◌}
use mathlib.Core.List.{List}
use lib.Dec.{leb}
use lib.ListN.{length}
use lib.Seq.{length-sets}
use borrow.Author.Tests.{le-ltb, le-leb}
use Rattle.script_output.specs.Reader.{Fed, fed_within, finished, max_printed}
use Rattle.script_output.proofs.Cuts.{used-few}
use Rattle.script.specs.State.{view, valid, state_size}
use Rattle.script.specs.Calls.{new_answer, new_words, feed_answer, FeedLeaves, finish_answer, FinishLeaves, max_ending}
use Rattle.script.proofs.NewLaws.{new_valid}

pub begun : (w w' : List ℕ) (p : Result Progress Refusal) → state_size ≡ length w → (p ≡ new_answer w) × (w' ≡ new_words w) → valid w' ≡ true
begun w w' p e f = rw f.1 (new_valid w (sym e))

module _ (w input out w' out' : List ℕ) (p : Result Progress Refusal) (v : valid w ≡ true) (room : max_printed ≤ length out)
    (f : (p ≡ feed_answer w input (length out)) × FeedLeaves w input out w' out') where
  abbrev pub fed-all : Fed
  fed-all = fed_within (length out) (view w) input

  pub fed_took : p ≡ Ok (record { used = fed-all.used; wrote = length fed-all.out })
  unfolding feed_answer
  fed_took = f.0 ∙ rw (v, le-ltb (length out) max_printed room) refl

  pub feeds : valid w && leb max_printed (length out) ≡ true
  feeds = rw (v, le-leb max_printed (length out) room)

  pub fed-valid : valid w' ≡ true
  fed-valid = f.1.again feeds

  module _ (u k : ℕ) (t : p ≡ Ok (record { used = u; wrote = k })) where
    took : ◌≡◌ {A = Progress} (record { used = u; wrote = k }) (record { used = fed-all.used; wrote = length fed-all.out })
    took = cc (sym t ∙ fed_took)

    pub took_used : u ≡ fed-all.used
    took_used = ap (λ (x : Progress). x.used) took

    pub fed-used : u ≤ length input
    fed-used = omega (arith, took_used, used-few (length out) (view w) input)

    pub fed_wrote : k ≤ length out'
    fed_wrote =
        let e : k ≡ length fed-all.out = ap (λ (x : Progress). x.wrote) took in
        omega (arith, e, f.1.within feeds, ap length (f.1.bytes feeds), length-sets out 0 fed-all.out)

module _ (w out w' out' : List ℕ) (p : Result Progress Refusal) (v : valid w ≡ true) (room : max_ending ≤ length out)
    (f : (p ≡ finish_answer w (length out)) × FinishLeaves w out w' out') where
  end_took : p ≡ Ok (record { used = 0; wrote = length (finished (view w)) })
  unfolding finish_answer
  end_took = f.0 ∙ rw (v, le-ltb (length out) max_ending room) refl

  finishes : valid w && leb max_ending (length out) ≡ true
  finishes = rw (v, le-leb max_ending (length out) room)

  pub end_wrote : (u k : ℕ) → p ≡ Ok (record { used = u; wrote = k }) → k ≤ length out'
  end_wrote u k t =
      let same : ◌≡◌ {A = Progress} (record { used = u; wrote = k }) (record { used = 0; wrote = length (finished (view w)) }) = cc (sym t ∙ end_took) in
      let e : k ≡ length (finished (view w)) = ap (λ (x : Progress). x.wrote) same in
      omega (arith, e, f.1.within finishes, ap length (f.1.bytes finishes), length-sets out 0 (finished (view w)))
