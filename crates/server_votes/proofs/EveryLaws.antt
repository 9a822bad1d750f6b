-- A test that every request in a queue passes is passed after an insertion and after a removal.
use mathlib.Core.Path.{◌≡◌, refl}
use mathlib.Core.Bool.{Bool, true, false}
use mathlib.Core.List.{List, [], ◌∷◌}
use mathlib.Core.Logic.{⊎_elim}
use Rattle.ids.specs.Lists.{every}
use Rattle.ids.specs.Order.{before}
use Rattle.ids.specs.Requests.{same}
use Rattle.ids.specs.declared.Request.{Request}
use Rattle.ids.proofs.Choice.{both, decided}
use Rattle.rows.specs.Queue.{insert, without}

module _ (g : Request → Bool) (r : Request) where
  pub every-insert : (l : List Request) → g r ≡ true → every g l ≡ true → every g (insert r l) ≡ true
  unfolding insert
  every-insert [] a h = rw a
  every-insert (x ∷ l) a h =
      let (b, t) = both (g x) (every g l) h in
      let rest = every-insert l a t in
      ⊎_elim (λ (e : before r x ≡ true). rw (e, a) h) (λ (e : before r x ≡ false). rw (e, b) rest) (decided (before r x))

  pub every-without : (l : List Request) → every g l ≡ true → every g (without r l) ≡ true
  unfolding without
  every-without [] h = refl
  every-without (x ∷ l) h =
      let (b, t) = both (g x) (every g l) h in
      let rest = every-without l t in
      ⊎_elim (λ (e : same x r ≡ true). rw e t) (λ (e : same x r ≡ false). rw (e, b) rest) (decided (same x r))
