-- The unsafe run is nine stretches of events; so its length, and which event has number i, in closed form.
use mathlib.Core.Path.{◌≡◌, refl, ap, ◌∙◌}
use Prim.Native.Nat.{ℕ, zero, suc, ◌+◌, ◌-◌, ◌*◌, ◌≤◌, ◌<◌}
use native.Mathlib.Omega.{arith}
use mathlib.Core.List.{List, [], ◌∷◌, ◌++◌, map, append_assoc, append-nil, map-append}
use lib.ListN.{length, length-append, length-map, take, get_or}
use lib.Dec.{leb}
use borrow.Author.Tests.{leb-true, leb-false}
use Rattle.std.specs.Prelude.{if◌then◌else◌}
use Rattle.system.specs.declared.Event.{Event}
use Rattle.system.specs.declared.Event.TheVariants.{Try, Down, Up}
use Rattle.system.specs.Numbered.{at, span, client_no, server_no}
use Rattle.system.specs.Setting.{takes, lost, unsafe_run}
use Rattle.system.proofs.Branch.{branch}
use Rattle.system.proofs.Restarts.{length-span}
use Rattle.quorum.specs.Inner.{run_length, first_entry, restart, second_entry, event_at}

-- the events f (a + 1) to f (a + c)
record Part : Type 0 where
  event : ℕ → Event
  after : ℕ
  size : ℕ

abbrev total : List Part → ℕ
total [] = 0
total (p ∷ l) = p.size + total l

abbrev joined : List Part → List Event
joined [] = []
joined (p ∷ l) = map p.event (span p.after p.size) ++ joined l

length-joined : (l : List Part) → length (joined l) ≡ total l
length-joined [] = refl
length-joined (p ∷ l) = simp (length-append, length-map, length-span) (omega (arith, length-joined l))

at-span : (d : Event) (f : ℕ → Event) (a c i : ℕ) → 0 < i → i ≤ c → (l : List Event) → at d (map f (span a c) ++ l) i ≡ f (a + i)
at-span d f a c zero p q l = absurd (omega arith)
at-span d f a zero (suc i) p q l = absurd (omega arith)
at-span d f a (suc c) (suc zero) p q l = ap f (omega arith)
at-span d f a (suc c) (suc (suc i)) p q l = at-span d f (suc a) c (suc i) (omega arith) (omega arith) l ∙ ap f (omega arith)

past_span : (d : Event) (f : ℕ → Event) (a c i : ℕ) → c < i → (l : List Event) → at d (map f (span a c) ++ l) i ≡ at d l (i - c)
past_span d f a zero i p l = let z : i ≡ i - 0 = omega arith in ap (λ (x : ℕ). at d l x) z
past_span d f a (suc c) zero p l = absurd (omega arith)
past_span d f a (suc c) (suc zero) p l = absurd (omega arith)
past_span d f a (suc c) (suc (suc i)) p l = past_span d f (suc a) c (suc i) (omega arith) l ∙
    (let z : suc i - c ≡ suc (suc i) - suc c = omega arith in ap (λ (x : ℕ). at d l x) z)

-- event number i stands in part c, from 0
hit : (d : Event) (none : Part) (l : List Part) (c i : ℕ) → total (take c l) < i → i ≤ total (take (suc c) l) →
    at d (joined l) i ≡ (get_or l c none).event ((get_or l c none).after + (i - total (take c l)))
hit d none [] zero i p q = absurd (omega arith)
hit d none [] (suc c) i p q = absurd (omega arith)
hit d none (x ∷ l) zero i p q = at-span d x.event x.after x.size i p (omega arith) (joined l) ∙ ap x.event (omega arith)
hit d none (x ∷ l) (suc c) i p q =
    past_span d x.event x.after x.size i (omega arith) (joined l) ∙
    (hit d none l c (i - x.size) (omega arith) (omega arith) ∙ ap (get_or l c none).event (omega arith))

by_order : {A : Type 0} {x y : A} (P : A → Type 0) (i c : ℕ) → (i ≤ c → P x) → (c < i → P y) → P (if leb i c then x else y)
by_order P i c f g = branch P (leb i c) (λ e. f (leb-true i c e)) (λ e. g (leb-false i c e))

module _ (n m : ℕ) (le : m ≤ n) where
  abbrev part : (ℕ → Event) → ℕ → ℕ → Part
  part e a c = record { event = e; after = a; size = c }

  abbrev tries : ℕ → Event
  tries k = Try (client_no k)

  abbrev down : ℕ → Event
  down j = Down (server_no j)

  abbrev up : ℕ → Event
  up j = Up (server_no j)

  abbrev parts : List Part
  parts =
      part tries 0 1 ∷ (part (λ j. takes (0 + j)) 0 m ∷ (part takes (0 + n) m ∷ (part down 0 (lost n m) ∷ (part up 0 (lost n m) ∷
      (part tries 1 1 ∷ (part (λ j. takes (n + m + j)) 0 (lost n m) ∷ (part (λ j. takes (n + m + j)) m (m - lost n m) ∷ (part takes (n + m + n) m ∷ []))))))))

  in_parts : unsafe_run n m ≡ joined parts
  in_parts =
      let z : lost n m + (m - lost n m) ≡ m = omega arith in
      simp (length-span, length-append, z, append_assoc, map-append, append-nil)

  pub unsafe-length : length (unsafe_run n m) ≡ run_length n m
  unsafe-length = ap length in_parts ∙ (length-joined parts ∙ omega arith)

  pub unsafe-at : (d : Event) (i : ℕ) → 0 < i → i ≤ run_length n m → at d (unsafe_run n m) i ≡ event_at n m i
  unfolding event_at first_entry restart second_entry
  unsafe-at d i pos last =
      let G : Event → Type 0 = λ e. at d (joined parts) i ≡ e in
      let h = hit d (part tries 0 0) parts in
      ap (λ (l : List Event). at d l i) in_parts ∙ (
      by_order G i (1 + 2 * m)
      (λ x. by_order G i 1 (λ y. h 0 i (omega arith) (omega arith) ∙ ap tries (omega arith))
      (λ x₁. by_order G i (1 + m) (λ y. h 1 i (omega arith) (omega arith) ∙ ap takes (omega arith))
      (λ x₂. h 2 i (omega arith) (omega arith) ∙ ap takes (omega arith))))
      (λ x. by_order G i (1 + 2 * m + 2 * lost n m)
      (λ y. by_order G (i - (1 + 2 * m)) (lost n m) (λ z. h 3 i (omega arith) (omega arith) ∙ ap down (omega arith))
      (λ z. h 4 i (omega arith) (omega arith) ∙ ap up (omega arith)))
      (λ y. by_order G (i - (1 + 2 * m + 2 * lost n m)) 1 (λ z. h 5 i (omega arith) (omega arith) ∙ ap tries (omega arith))
      (λ x₁. by_order G (i - (1 + 2 * m + 2 * lost n m)) (1 + lost n m) (λ z. h 6 i (omega arith) (omega arith) ∙ ap takes (omega arith))
      (λ x₂. by_order G (i - (1 + 2 * m + 2 * lost n m)) (1 + m) (λ z. h 7 i (omega arith) (omega arith) ∙ ap takes (omega arith))
      (λ x₃. h 8 i (omega arith) (omega arith) ∙ ap takes (omega arith)))))))
