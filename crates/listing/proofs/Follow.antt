-- What can follow a system, an event at a time; and what stands in it.
use mathlib.Core.Path.{◌≡◌, refl, sym}
use mathlib.Core.Logic.{⊎_elim}
use Prim.Native.Nat.{ℕ}
use mathlib.Core.Bool.{true}
use mathlib.Core.List.Memᴰ.{append_cases}
use mathlib.Core.List.Memᴰ.{append_left}
use mathlib.Core.List.Memᴰ.{append_right}
use mathlib.Core.List.Memᴰ.{cast}
use mathlib.Core.List.Memᴰ.{head as first}
use mathlib.Core.List.Memᴰ.{map as map-among}
use mathlib.Core.List.Memᴰ.{not-nil as none-among}
use mathlib.Core.List.Memᴰ.{of_map}
use mathlib.Core.List.Memᴰ.{tail as later}
use mathlib.Core.List.{List, [], ◌∷◌, map, Memᴰ as Among}
use Rattle.std.specs.Prelude.{if◌then◌else◌}
use Rattle.system.specs.declared.Event.{Event}
use Rattle.system.specs.Places.{System}
use Rattle.system.specs.Events.{EventOutcome}
use Rattle.system.specs.Runs.{after}
use Rattle.system.proofs.Branch.{branch}
use Rattle.listing.specs.Listing.{each, goes_on, follow}
use Rattle.listing.specs.Order.{Stands, here, behind}

-- to stand among lists of events is the library's membership
pub stands_among : {es : List Event} {rs : List (List Event)} → Stands es rs → Among es rs
stands_among here = first refl
stands_among (behind s) = later (stands_among s)

pub among_stands : {es : List Event} {rs : List (List Event)} → Among es rs → Stands es rs
among_stands {es} (first {x = x} {xs = rs} e) = rw e here
among_stands (later m) = behind (among_stands m)

module _ {A B : Type 0} (f : A → List B) where
  pub among-each : {x : A} {y : B} {l : List A} → Among x l → Among y (f x) → Among y (each f l)
  among-each {y = y} (first {x = z} {xs = l} e) m = append_left (each f l) (rw e at m)
  among-each (later {x = z} n) m = append_right (f z) (among-each n m)

  pub each-among : {y : B} (l : List A) → Among y (each f l) → (x : A) × Among x l × Among y (f x)
  each-among [] m = absurd (none-among m)
  each-among {y} (x ∷ l) m =
      ⊎_elim (λ (n : Among y (f x)). (x, first refl, n))
      (λ (n : Among y (each f l)). let (z, a, b) = each-among l n in (z, later a, b))
      (append_cases (f x) m)

module _ (step : System → Event → EventOutcome) (f left : ℕ) (w : System) where
  -- what follows with e as the next event
  abbrev pub onward : Event → List (List Event)
  onward e = if goes_on step f w e then map (λ es. e ∷ es) ([] ∷ follow step f left (after w (step w e))) else []

  -- the list goes on with e, and with what can follow then
  pub record GoesOn (e : Event) (es : List Event) : Type 0 where
    pub goes : goes_on step f w e ≡ true
    pub rest : List Event
    pub begins : e ∷ rest ≡ es
    pub follows : Among rest ([] ∷ follow step f left (after w (step w e)))

  pub onward-goes : (e : Event) {es : List Event} → Among es (onward e) → GoesOn e es
  onward-goes e {es} =
      branch (λ rs. Among es rs → GoesOn e es) (goes_on step f w e)
      (λ h m. let (xs, a, b) = of_map (λ ys. e ∷ ys) ([] ∷ follow step f left (after w (step w e))) m in record { goes = h; rest = xs; begins = b; follows = a })
      (λ _ m. absurd (none-among m))

  pub goes-onward : {e : Event} {es : List Event} → GoesOn e es → Among es (onward e)
  goes-onward {e} {es} g = rw g.goes (cast (sym g.begins) (map-among (λ ys. e ∷ ys) g.follows))
