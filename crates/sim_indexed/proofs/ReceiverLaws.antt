-- A receiver's place is its own: of a system's messages those at its place are those to it. And no message goes to a receiver that the setting lacks.
use Prim.Native.Nat.{ℕ, ◌+◌, ◌-◌, ◌≤◌}
use native.Mathlib.Omega.{arith}
use mathlib.Core.Path.{◌≡◌, refl, sym, ◌∙◌}
use mathlib.Core.Logic.{inl, inr}
use mathlib.Core.Bool.{true, false}
use mathlib.Core.List.{List, []}
use lib.Dec.{eqb}
use borrow.Author.Tests.{eqb-true, eq-eqb, ne_eqb, eqb-false, le-leb}
use Rattle.ids.specs.Limits.{within}
use Rattle.ids.proofs.Choice.{decided, Test, clash}
use Rattle.wire.specs.Format.{fields_of}
use Rattle.wire.specs.declared.Message.{Message}
use Rattle.system.specs.Limits.{system_servers}
use Rattle.system.specs.Transit.{InTransit}
use Rattle.system.specs.Index.{receiver_of, same_receiver, is_to, index_of}
use Rattle.system.specs.declared.Receiver.{Receiver}
use Rattle.system.specs.declared.Receiver.TheVariants.{Client, Server}
use Rattle.system.proofs.Tokens.{All, empty, more}
use Rattle.sim_transit.proofs.Kept.{Kept, Named, names-named}
use Rattle.sim_indexed.specs.Indexed.{place_of, entries_at}
use Rattle.sim_indexed.specs.Calls.{Few}
use Rattle.sim_indexed.proofs.CardLaws.{Inside, receiver-inside}

same_test : (a b c d : ℕ) → (a ≡ b → c ≡ d) → (c ≡ d → a ≡ b) → eqb a b ≡ eqb c d
same_test a b c d f g = go (decided (eqb a b))
  where
    go : Test (eqb a b) → eqb a b ≡ eqb c d
    go (inl e) = e ∙ sym (eq-eqb c d (f (eqb-true a b e)))
    go (inr e) = e ∙ sym (ne_eqb c d (λ z. eqb-false a b e (g z)))

-- a receiver that has a place
abbrev pub Placed : Receiver → Type 0
Placed (Client k) = 1 ≤ k.0
Placed (Server j) = (1 ≤ j.0) × (j.0 ≤ system_servers)

module _ (n clients : ℕ) (F : Few n clients) where
  own-place : (s r : Receiver) → Inside n clients s → Placed r → same_receiver s r ≡ eqb (place_of s) (place_of r)
  own-place (Server i) (Server j) (some, h) (a, b) =
      same_test i.0 j.0 (i.0 - 1) (j.0 - 1) (λ z. omega (arith, z)) (λ z. omega (arith, some, a, z))
  own-place (Server i) (Client k) (some, h) a = sym (ne_eqb (i.0 - 1) (system_servers + (k.0 - 1)) (λ z. omega (arith, F.few_servers, some, h, z)))
  own-place (Client i) (Client k) (some, h) a =
      same_test i.0 k.0 (system_servers + (i.0 - 1)) (system_servers + (k.0 - 1)) (λ z. omega (arith, z)) (λ z. omega (arith, some, a, z))
  own-place (Client i) (Server j) (some, h) (a, b) = sym (ne_eqb (system_servers + (i.0 - 1)) (j.0 - 1) (λ z. omega (arith, a, b, z)))

  pub to_place : (r : Receiver) → Placed r → (m : Message) → Named n clients (fields_of m) → is_to r m ≡ eqb (place_of (receiver_of m)) (place_of r)
  to_place r p m N = own-place (receiver_of m) r (receiver-inside n clients m N) p

  -- the entries at its place are its own
  pub entries_to : (r : Receiver) → Placed r → {sent : ℕ} {l : List InTransit} → All (Kept n clients sent) l → entries_at (place_of r) l ≡ index_of r l
  unfolding entries_at index_of
  entries_to r p empty = refl
  entries_to r p (more {x = x} {l = l} h g) =
      let e = to_place r p x.message (names-named n clients x.message h.named) in
      rw (e, entries_to r p g)

-- a receiver that the setting lacks
abbrev pub Lacking : ℕ → ℕ → Receiver → Type 0
Lacking n clients (Client k) = within k.0 clients ≡ false
Lacking n clients (Server j) = within j.0 n ≡ false

module _ (n clients : ℕ) where
  other : (i k limit : ℕ) → 1 ≤ i → i ≤ limit → within k limit ≡ false → eqb i k ≡ false
  other i k limit p q h = go (decided (eqb i k))
    where
      go : Test (eqb i k) → eqb i k ≡ false
      go (inl e) =
          let z = eqb-true i k e in
          let y : within k limit ≡ true = rw (← z, le-leb 1 i p, le-leb i limit q) in
          clash (within k limit) y h
      go (inr e) = e

  to_lacking : (s r : Receiver) → Inside n clients s → Lacking n clients r → same_receiver s r ≡ false
  to_lacking (Server i) (Server j) (some, h) l = other i.0 j.0 n some h l
  to_lacking (Server i) (Client k) (some, h) l = refl
  to_lacking (Client i) (Client k) (some, h) l = other i.0 k.0 clients some h l
  to_lacking (Client i) (Server j) (some, h) l = refl

  pub none_to : (r : Receiver) → Lacking n clients r → {sent : ℕ} {l : List InTransit} → All (Kept n clients sent) l → index_of r l ≡ []
  unfolding index_of
  none_to r p empty = refl
  none_to r p (more {x = x} {l = l} h g) =
      let i = receiver-inside n clients x.message (names-named n clients x.message h.named) in
      rw (to_lacking (receiver_of x.message) r i p, none_to r p g)
