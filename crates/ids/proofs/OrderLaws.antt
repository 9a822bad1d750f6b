-- The order of requests is a strict total order. The test is turned into an order of numbers, once each way, and arithmetic does the rest.
use Prim.Native.Nat.{ℕ, ◌<◌}
use native.Mathlib.Omega.{arith}
use mathlib.Core.Path.{◌≡◌, refl}
use mathlib.Core.Bool.{Bool, true, false}
use mathlib.Core.Logic.{◌⊎◌, inl, inr, ⊎_elim}
use lib.Dec.{eqb, ltb}
use borrow.Author.Tests.{eqb-true, ltb-true, ltb-false, lt-ltb, le-ltb, eq-eqb, ne_eqb}
use Rattle.std.specs.Prelude.{if◌then◌else◌}
use Rattle.ids.specs.Order.{before, StrictTotalOrder}
use Rattle.ids.specs.declared.Request.{Request}
use Rattle.ids.proofs.Choice.{decided}

-- what the test says of the two requests' numbers
abbrev pub Earlier : Request → Request → Type 0
Earlier a b =
    (a.timestamp.0 < b.timestamp.0) ⊎ ((a.timestamp.0 ≡ b.timestamp.0) × (a.client.0 < b.client.0))

earlier : (a b : Request) (e : Bool) → eqb a.timestamp.0 b.timestamp.0 ≡ e
    → (if e then ltb a.client.0 b.client.0 else ltb a.timestamp.0 b.timestamp.0) ≡ true → Earlier a b
earlier a b true e t = inr (eqb-true _ _ e, ltb-true _ _ t)
earlier a b false e t = inl (ltb-true _ _ t)

pub before_earlier : (a b : Request) → before a b ≡ true → Earlier a b
unfolding before
before_earlier a b t = earlier a b _ refl t

pub earlier_before : (a b : Request) → Earlier a b → before a b ≡ true
unfolding before
earlier_before a b h =
    ⊎_elim (λ l. simp (ne_eqb a.timestamp.0 b.timestamp.0 (omega arith), lt-ltb _ _ l)) (λ s. simp (eq-eqb _ _ s.0, lt-ltb _ _ s.1)) h

transitive : (a b c : Request) → Earlier a b → Earlier b c → Earlier a c
transitive a b c (inl p) (inl q) = inl (omega arith)
transitive a b c (inl p) (inr q) = inl (omega arith)
transitive a b c (inr p) (inl q) = inl (omega arith)
transitive a b c (inr p) (inr q) = inr (omega arith)

pub compared : (m n : ℕ) → (m < n) ⊎ ((m ≡ n) ⊎ (n < m))
compared m n =
    ⊎_elim (λ l. inl (ltb-true m n l)) (λ g.
    ⊎_elim (λ l. inr (inr (ltb-true n m l))) (λ h. inr (inl (omega (arith, ltb-false m n g, ltb-false n m h)))) (decided (ltb n m))) (decided (ltb m n))

same_numbers : (a b : Request) → a.timestamp.0 ≡ b.timestamp.0 → a.client.0 ≡ b.client.0 → a ≡ b
same_numbers a b t k = λ i. record { client = record { 0 = k i }; timestamp = record { 0 = t i } }

total : (a b : Request) → Earlier a b ⊎ ((a ≡ b) ⊎ Earlier b a)
total a b =
    ⊎_elim (λ l. inl (inl l))
    (⊎_elim
    (λ t. ⊎_elim (λ l. inl (inr (t, l))) (⊎_elim (λ k. inr (inl (same_numbers a b t k))) (λ g. inr (inr (inr (omega arith)))))
    (compared a.client.0 b.client.0))
    (λ g. inr (inr (inl g))))
    (compared a.timestamp.0 b.timestamp.0)

pub before_order : StrictTotalOrder before
unfolding before
before_order =
    record {
      irreflexive = λ a. simp (eq-eqb a.timestamp.0 a.timestamp.0 refl, le-ltb a.client.0 a.client.0 (omega arith));
      transitive = λ a b c p q. earlier_before a c (transitive a b c (before_earlier a b p) (before_earlier b c q));
      total = λ a b. ⊎_elim (λ l. inl (earlier_before a b l)) (λ r. inr (⊎_elim inl (λ g. inr (earlier_before b a g)) r)) (total a b);
    }
