-- A token of request p at server j: a pending RESPONSE of j that tells p's client that p is owner, or p's pending YIELD to j.
use mathlib.Core.Path.{◌≡◌, refl}
use Prim.Native.Nat.{ℕ, zero, suc, ◌+◌}
use native.Mathlib.Omega.{arith}
use mathlib.Core.Bool.{Bool, true, ◌&&◌}
use mathlib.Core.List.{List, [], ◌∷◌, ◌++◌}
use lib.Dec.{eqb}
use lib.ListN.{length, set, length-set}
use Rattle.std.specs.Prelude.{if◌then◌else◌, Some, None}
use Rattle.ids.specs.Lists.{every}
use Rattle.ids.specs.Requests.{same}
use Rattle.ids.specs.declared.ServerId.{ServerId}
use Rattle.ids.specs.declared.Request.{Request}
use Rattle.ids.proofs.Choice.{both}
use Rattle.wire.specs.declared.Message.{Message}
use Rattle.wire.specs.declared.Message.TheVariants.{Request as REQUEST, Yield as YIELD, Release as RELEASE, Inquiry as INQUIRY, Response as RESPONSE, Check as CHECK}
use Rattle.server_votes.specs.declared.Tag.{Tag}
use Rattle.server_votes.specs.declared.Tag.TheVariants.{Request as Asks, Yield as Yields, Release as Releases, Inquiry as Inquires}
use Rattle.system.specs.Numbered.{put}
use Rattle.system.proofs.Branch.{bit}

-- how much older than the client's last timestamp a message's timestamp is at least
abbrev pub age : Tag → ℕ
age Asks = 0
age Yields = 0
age Releases = 1
age Inquires = 0

-- what the message is worth to p, whatever its server
abbrev pub worth : Request → Message → ℕ
worth p (REQUEST k j t) = 0
worth p (YIELD k j t) = bit (same (record { client = k; timestamp = t }) p)
worth p (RELEASE k j t) = 0
worth p (INQUIRY k j t) = 0
worth p (RESPONSE k j None) = 0
worth p (RESPONSE k j (Some o)) = bit (eqb p.client.0 k.0 && same o p)
worth p (CHECK k j t) = 0

abbrev pub server_of : Message → ServerId
server_of (REQUEST k j t) = j
server_of (YIELD k j t) = j
server_of (RELEASE k j t) = j
server_of (INQUIRY k j t) = j
server_of (RESPONSE k j o) = j
server_of (CHECK k j t) = j

abbrev pub token : Request → ℕ → Message → ℕ
token p j m = if eqb (server_of m).0 j then worth p m else 0

-- the sum of f over a list
module _ {A : Type 0} where
  abbrev pub sum : (A → ℕ) → List A → ℕ
  sum f [] = 0
  sum f (x ∷ l) = f x + sum f l

  pub sum-append : (f : A → ℕ) (a b : List A) → sum f (a ++ b) ≡ sum f a + sum f b
  sum-append f [] b = omega arith
  sum-append f (x ∷ a) b = omega (arith, sum-append f a b)

-- P holds of every element
pub data All {A : Type 0} (P : A → Type 0) : List A → Type 0 where
  empty : All P []
  more : {x : A} {l : List A} → P x → All P l → All P (x ∷ l)

module _ {A : Type 0} {P : A → Type 0} where
  pub all_head : {x : A} {l : List A} → All P (x ∷ l) → P x
  all_head (more h g) = h

  pub all_tail : {x : A} {l : List A} → All P (x ∷ l) → All P l
  all_tail (more h g) = g

  pub all_append : {a b : List A} → All P a → All P b → All P (a ++ b)
  all_append empty g = g
  all_append (more h t) g = more h (all_append t g)

  pub all_map : {Q : A → Type 0} {l : List A} → ((x : A) → P x → Q x) → All P l → All Q l
  all_map f empty = empty
  all_map f (more {x = x} h t) = more (f x h) (all_map f t)

  pub all_set : {l : List A} (i : ℕ) (v : A) → P v → All P l → All P (set l i v)
  all_set i v h empty = empty
  all_set zero v h (more a t) = more h t
  all_set (suc i) v h (more a t) = more a (all_set i v h t)

  pub all-put : {l : List A} (i : ℕ) (v : A) → P v → All P l → All P (put l i v)
  all-put zero v h g = g
  all-put (suc i) v h g = all_set i v h g

-- a test that every element passes
module _ {A : Type 0} (f : A → Bool) where
  pub every-all : (l : List A) → every f l ≡ true → All (λ x. f x ≡ true) l
  every-all [] h = empty
  every-all (x ∷ l) h = let (a, g) = both (f x) (every f l) h in more a (every-all l g)

  pub all-every : {l : List A} → All (λ x. f x ≡ true) l → every f l ≡ true
  all-every empty = refl
  all-every (more a g) = rw a (all-every g)

module _ {A : Type 0} where
  pub length-put : (l : List A) (i : ℕ) (v : A) → length (put l i v) ≡ length l
  length-put l zero v = refl
  length-put l (suc i) v = length-set l i v
