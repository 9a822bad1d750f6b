-- A client's timestamp in a queue: it stands where the client is found, and without that pair the queue is shorter by one.
use Prim.Native.Nat.{ℕ, suc, ◌<◌, ◌≤◌}
use native.Mathlib.Omega.{arith}
use mathlib.Core.Path.{◌≡◌, refl, ap}
use mathlib.Core.Bool.{Bool, true, false, false≢true}
use mathlib.Core.List.{List, [], ◌∷◌}
use lib.ListN.{length, get_or}
use borrow.Author.Tests.{eq-eqb}
use Rattle.std.specs.Prelude.{if◌then◌else◌, Some, None, Option}
use Rattle.ids.specs.Requests.{same, no_request}
use Rattle.ids.specs.declared.ClientId.{ClientId}
use Rattle.ids.specs.declared.Request.{Request}
use Rattle.ids.specs.declared.Timestamp.{Timestamp}
use Rattle.rows.specs.Queue.{timestamp_in, without}
use Rattle.rows.specs.Queues.{is_client, first}

found-head : (b : Bool) (x : Request) (l : List Request) (m : Option Timestamp) (n : ℕ) → (n < length l → m ≡ Some (get_or l n no_request).timestamp)
    → (if b then 0 else suc n) < suc (length l) → (if b then Some x.timestamp else m) ≡ Some (get_or (x ∷ l) (if b then 0 else suc n) no_request).timestamp
found-head true x l m n e h = refl
found-head false x l m n e h = e (omega arith)

pub timestamp-first : (k : ClientId) (l : List Request) → first (is_client k) l < length l
    → timestamp_in k l ≡ Some (get_or l (first (is_client k) l) no_request).timestamp
unfolding timestamp_in first
timestamp-first k [] h = absurd (omega arith)
timestamp-first k (x ∷ l) h = found-head (is_client k x) x l (timestamp_in k l) (first (is_client k) l) (timestamp-first k l) h

missing_head : (b : Bool) (x : Request) (l : List Request) (m : Option Timestamp) (n : ℕ) → (length l ≤ n → m ≡ None)
    → suc (length l) ≤ (if b then 0 else suc n) → (if b then Some x.timestamp else m) ≡ None
missing_head true x l m n e h = absurd (omega arith)
missing_head false x l m n e h = e (omega arith)

pub timestamp-none : (k : ClientId) (l : List Request) → length l ≤ first (is_client k) l → timestamp_in k l ≡ None
unfolding timestamp_in first
timestamp-none k [] h = refl
timestamp-none k (x ∷ l) h = missing_head (is_client k x) x l (timestamp_in k l) (first (is_client k) l) (timestamp-none k l) h

-- the pair of client k and timestamp t is the client's place
pub its-pair : (k : ClientId) (t : Timestamp) (x : Request) (b : Bool) → is_client k x ≡ b → b ≡ true → x.timestamp ≡ t
    → same x (record { client = k; timestamp = t }) ≡ true
unfolding same
its-pair k t x b e y s = rw (e, y, eq-eqb _ _ (ap (λ (u : Timestamp). u.0) s))

gone-head : (b c : Bool) (x : Request) (l m : List Request) (u : Option Timestamp) (t : Timestamp)
    → (b ≡ true → x.timestamp ≡ t → c ≡ true) → (u ≡ Some t → length m < length l)
    → (if b then Some x.timestamp else u) ≡ Some t → length (if c then l else x ∷ m) < suc (length l)
gone-head b true x l m u t y n e = omega arith
gone-head true false x l m u t y n e = absurd (false≢true (y refl cc))
gone-head false false x l m u t y n e = omega (arith, n e)

pub without_standing : (k : ClientId) (t : Timestamp) (l : List Request) → timestamp_in k l ≡ Some t
    → length (without (record { client = k; timestamp = t }) l) < length l
unfolding timestamp_in without
without_standing k t [] e = let z : ◌≡◌ {A = ℕ} 0 1 = cc in absurd (omega arith)
without_standing k t (x ∷ l) e =
    gone-head (is_client k x) (same x (record { client = k; timestamp = t })) x l (without (record { client = k; timestamp = t }) l) (timestamp_in k l) t
    (λ a s. its-pair k t x (is_client k x) refl a s) (without_standing k t l) e
