-- A record and the state it holds: what is stored with no response, and that storing a valid record's state gives the record again.
use Prim.Native.Nat.{ℕ, zero, suc, ◌*◌, ◌≤◌}
use mathlib.Core.Path.{◌≡◌, refl, ap, ◌∙◌, sym}
use mathlib.Core.Bool.{Bool, true, false}
use mathlib.Core.List.{List, [], ◌∷◌, map}
use native.Mathlib.Omega.{arith}
use lib.ListN.{length, take, replicate}
use Rattle.std.specs.Prelude.{if◌then◌else◌, Some, None}
use Rattle.ids.specs.Requests.{same, no_request}
use Rattle.ids.specs.declared.ClientId.{ClientId}
use Rattle.ids.specs.declared.Request.{Request}
use Rattle.ids.proofs.RequestLaws.{same_true}
use Rattle.rows.specs.Rows.{requests_in, row_of, Padded}
use Rattle.rows.proofs.RowLaws.{row_kept, row_of-none}
use Rattle.client_responses.specs.Figure1.{fresh}
use Rattle.client_responses.specs.Row.{shown, place, responses_in}
use Rattle.client.specs.declared.Client.{Client}
use Rattle.client.specs.declared.Head.{Head}
use Rattle.client.specs.Record.{client_of, head_in, view, store_in}

map-replicate : {A B : Type 0} (f : A → B) (n : ℕ) (x : A) → map f (replicate n x) ≡ replicate n (f x)
map-replicate f zero x = refl
map-replicate f (suc n) x = rw (map-replicate f n x)

-- the row of a state without responses
pub row-without : (size n : ℕ) → 2 * n ≤ size → row_of size (map place (replicate n None)) ≡ replicate size 0
row-without size n h = rw (map-replicate place n None) (row_of-none size n h)

-- a record, by its head
pub with-head : (row : List ℕ) (h d : Head) → h ≡ d → client_of h row ≡ client_of d row
with-head row h d e = rw e

-- the record of a new client
pub fresh-stored : (places n m : ℕ) (k : ClientId) → n ≤ places
    → client_of (head_in n m k (fresh n)) (replicate (2 * places) 0) ≡ store_in places n m k (fresh n)
unfolding store_in
fresh-stored places n m k h = ap (client_of (head_in n m k (fresh n))) (sym (row-without (2 * places) n (omega (arith, h))))

-- a place that shows nobody is the empty one
placed : (b : Bool) (q : Request) → same q no_request ≡ b → place (if b then None else Some q) ≡ q
placed true q e = sym (same_true q no_request e)
placed false q e = refl

pub place-shown : (q : Request) → place (shown q) ≡ q
place-shown q = placed (same q no_request) q refl

pub places-shown : (l : List Request) → map place (map shown l) ≡ l
places-shown [] = refl
places-shown (q ∷ l) = rw (place-shown q, places-shown l)

-- the row of the responses that a row shows is the row
pub row-again : (row : List ℕ) (n : ℕ) → Padded row n → row_of (length row) (map place (responses_in row n)) ≡ row
row-again row n good = ap (row_of (length row)) (places-shown (take n (requests_in row))) ∙ row_kept row n good

-- storing what a record shows gives the record again
pub store_view : (places : ℕ) (c : Client) → length c.row ≡ 2 * places → Padded c.row c.head.n
    → store_in places c.head.n c.head.m c.head.id (view c) ≡ c
unfolding store_in view
store_view places c long good = ap (client_of c.head) (ap (λ (k : ℕ). row_of k (map place (responses_in c.row c.head.n))) (sym long) ∙
    row-again c.row c.head.n good)
