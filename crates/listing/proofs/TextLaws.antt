-- Laws of `each`, and a run's line as its events with a comma before each, without the first comma.
use Prim.Native.Nat.{ℕ, ◌*◌, ◌≤◌, zero-le}
use native.Mathlib.Nat.{suc-mul}
use native.Mathlib.Omega.{arith}
use mathlib.Core.Path.{◌≡◌, refl}
use mathlib.Core.List.{List, [], ◌∷◌, ◌++◌, map, append-nil, append_assoc}
use lib.ListN.{length, drop, length-append}
use Rattle.system.specs.declared.Event.{Event}
use Rattle.system.proofs.Tokens.{All, empty, more}
use Rattle.script_lines.specs.Words.{newline}
use Rattle.script_lines.specs.Printed.{event_line}
use Rattle.listing.specs.Listing.{each}
use Rattle.listing.specs.Text.{comma, commaed, run_line}
use Rattle.listing.specs.Inner.{marked}

module _ {A B : Type 0} where
  pub each_append : (f : A → List B) (a b : List A) → each f (a ++ b) ≡ each f a ++ each f b
  each_append f [] b = refl
  each_append f (x ∷ a) b = rw (each_append f a b, append_assoc)

  pub each_map : {C : Type 0} (f : A → List B) (g : C → A) (l : List C) → each f (map g l) ≡ each (λ x. f (g x)) l
  each_map f g [] = refl
  each_map f g (x ∷ l) = rw (each_map f g l)

  pub each_same : {f g : A → List B} → ((x : A) → f x ≡ g x) → (l : List A) → each f l ≡ each g l
  each_same h [] = refl
  each_same h (x ∷ l) = rw (h x, each_same h l)

  pub length-each-≤ : (f : A → List B) (b : ℕ) {l : List A} → All (λ x. length (f x) ≤ b) l → length (each f l) ≤ length l * b
  length-each-≤ f b empty = zero-le
  length-each-≤ f b (more {x = x} {l = l} h g) = omega (arith, length-append (f x) (each f l), length-each-≤ f b g, suc-mul (length l) b)

-- a comma before each but the first
commaed-marked : (e : Event) (es : List Event) → comma ∷ commaed (map event_line (e ∷ es)) ≡ marked (e ∷ es)
unfolding commaed
commaed-marked e [] = rw append-nil
commaed-marked e (d ∷ es) = rw (commaed-marked d es)

pub line_marked : (es : List Event) → run_line es ≡ drop 1 (marked es) ++ (newline ∷ [])
unfolding run_line commaed
line_marked [] = refl
line_marked (e ∷ es) = rw (← commaed-marked e es)
