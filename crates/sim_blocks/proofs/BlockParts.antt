-- The parts of a block: what the code's loops and tests say of them, and what a store in one leaves of the others.
use Prim.Native.Nat.{ℕ, zero, suc, ◌+◌, ◌-◌, ◌*◌, ◌≤◌}
use native.Mathlib.Omega.{arith}
use mathlib.Core.Path.{◌≡◌, refl, sym, ap, ◌∙◌}
use mathlib.Core.Bool.{Bool, true, false}
use mathlib.Core.List.{List, [], ◌∷◌, ◌++◌, append-nil, append_assoc}
use lib.Dec.{leb}
use lib.ListN.{length, get_or, take, drop, set, length-drop, length-take, replicate, take-append-drop}
use lib.Seq.{sets, get_or-set_other, length-sets, sets-eq, drop-length, drop-drop, take_all, length-take-le, drop-append-le, drop-cons}
use Rattle.std.specs.Prelude.{if◌then◌else◌, Some, None}
use Rattle.server.specs.Record as server
use Rattle.server.specs.declared.Server.{Server}
use Rattle.client.specs.Record as client
use Rattle.client.specs.declared.Client.{Client}
use Rattle.system.specs.Places.{in_epoch}
use Rattle.words.specs.Records.{client_words, server_words, server_from, server_head, client_head, client_head_words, server_head_words, server_head_from, max_word}
use Rattle.sim_blocks.specs.Blocks.{named_pair, cleared, server_record, client_place, emptied, flags_from, client_block, server_block, client_record_size, server_record_size, response_words, queue_words}
use Rattle.ids.specs.Lists.{every}
use Rattle.std.specs.List.{list_all, range_with_len}
use Rattle.server.specs.Calls.{empty_head}
use Rattle.system.specs.Limits.{system_servers}
use Rattle.rows.specs.Rows.{requests_in}
use Rattle.rows.proofs.CopyLaws.{part-whole}
use Rattle.wire.proofs.BytesLaws.{stored_on}
use Rattle.client.specs.declared.Head.{Head as ClientHead}
use Rattle.server.specs.declared.Head.{Head as ServerHead}

-- a test of the requests in words by their places, from request i on
pub named-all : (ws : List ℕ) (clients head i k : ℕ) → head + 2 * (i + k) ≤ length ws
    → list_all (λ (i : ℕ). leb (get_or ws (head + 2 * i) 0) clients) (range_with_len i k)
    ≡ every (named_pair clients) (take k (requests_in (drop (head + 2 * i) ws)))
unfolding requests_in
named-all ws clients head i zero h = refl
named-all ws clients head i (suc k) h =
    let z : suc (suc (head + 2 * i)) ≡ head + 2 * (i + 1) = omega arith in
    rw (drop-cons ws (head + 2 * i) 0 (omega arith), drop-cons ws (suc (head + 2 * i)) 0 (omega arith), z, named-all ws clients head (i + 1) k (omega arith))

-- the words of a record are read back as that record
pub read_in : {A : Type 0} (x : Bool) (y z : A) → (if x then Some y else None) ≡ Some z → (x ≡ true) × (y ≡ z)
read_in true y z e = (refl, (cc))
read_in false y z e = let w : ◌≡◌ {A = ℕ} 0 1 = cc in absurd (omega arith)

-- a part of a list, written over whole
pub covered : (ws vs : List ℕ) → length vs ≡ length ws → sets ws 0 vs ≡ vs
covered ws vs e =
    let z : 0 + length vs ≡ length ws = omega arith in
    sets-eq vs ws 0 (omega arith) ∙ rw (z, drop-length ws) (append-nil vs)

-- a store behind the first word
pub first-kept : (b : List ℕ) (a : ℕ) (vs : List ℕ) → get_or (sets b (suc a) vs) 0 0 ≡ get_or b 0 0
first-kept b a [] = refl
first-kept b a (v ∷ vs) = first-kept (set b (suc a) v) (suc a) vs ∙ get_or-set_other b (suc a) 0 v 0 (λ h. omega arith)

pub part-stored : (b ys vs : List ℕ) (a k : ℕ) → a + k ≤ length b → length vs ≡ k → ys ≡ sets (take k (drop a b)) 0 vs
    → take a b ++ (ys ++ drop k (drop a b)) ≡ sets b a vs
part-stored b ys vs a k h e p =
    let l : length vs ≡ length (take k (drop a b)) = omega (arith, length-take k (drop a b), length-drop a b) in
    rw (p, covered (take k (drop a b)) vs l, drop-drop k a b, ← e) (sym (append_assoc (take a b) vs (drop (a + length vs) b)) ∙
    sym (sets-eq vs b a (omega arith)))

-- the front of a part is written
pub part-front : (b ys vs : List ℕ) (a k : ℕ) → a + k ≤ length b → length vs ≤ k → ys ≡ sets (take k (drop a b)) 0 vs
    → take a b ++ (ys ++ drop k (drop a b)) ≡ sets b a vs
part-front b ys vs a k h e p =
    let l : length (take k (drop a b)) ≡ k = length-take-le k (drop a b) (omega (arith, length-drop a b)) in
    let q : sets (take k (drop a b)) 0 vs ≡ vs ++ drop (length vs) (take k (drop a b)) = let z : 0 + length vs ≡ length vs = omega arith in
    rw z at (sets-eq vs (take k (drop a b)) 0 (omega arith)) in
    let d : drop (length vs) (take k (drop a b)) ++ drop k (drop a b) ≡ drop (a + length vs) b =
    sym (drop-append-le (length vs) (take k (drop a b)) (drop k (drop a b)) (omega arith)) ∙
    (ap (drop (length vs)) (take-append-drop k (drop a b)) ∙ drop-drop (length vs) a b) in
    ap (λ (l : List ℕ). take a b ++ (l ++ drop k (drop a b))) (p ∙ q)
    ∙ (ap (λ (l : List ℕ). take a b ++ l) (append_assoc vs (drop (length vs) (take k (drop a b))) (drop k (drop a b)) ∙ ap (λ (l : List ℕ). vs ++ l) d)
    ∙ (sym (append_assoc (take a b) vs (drop (a + length vs) b)) ∙ sym (sets-eq vs b a (omega arith))))

-- dropping in a part that is taken
pub drop-take : (x y : ℕ) (l : List ℕ) → drop x (take (x + y) l) ≡ take y (drop x l)
drop-take zero y l = let z : 0 + y ≡ y = omega arith in ap (λ (x : ℕ). take x l) z
drop-take (suc x) y [] = let z : suc x + y ≡ suc (x + y) = omega arith in ap (λ (i : ℕ). drop (suc x) (take {A = ℕ} i [])) z ∙ sym (take_none y)
  where
    take_none : (n : ℕ) → ◌≡◌ {A = List ℕ} (take n []) []
    take_none zero = refl
    take_none (suc n) = refl
drop-take (suc x) y (a ∷ l) = let z : suc x + y ≡ suc (x + y) = omega arith in ap (λ (i : ℕ). drop (suc x) (take i (a ∷ l))) z ∙ drop-take x y l

-- a record's row in its block, as it is lent
pub row-lent : (b : List ℕ) (head size : ℕ) → drop head (take (head + size) (drop 1 b)) ≡ take size (drop (1 + head) b)
row-lent b head size = drop-take head size (drop 1 b) ∙ ap (take size) (drop-drop head 1 b)

-- head and row are written one after another
pub client-put : (b b₁ b₂ : List ℕ) (h : ClientHead) (row : List ℕ) → b₁ ≡ sets b 1 (client_head_words h) → b₂ ≡ sets b₁ (1 + client_head) row
    → b₂ ≡ sets b 1 (client_words (client.client_of h row))
unfolding client_words client_head_words
client-put b b₁ b₂ h row p q = stored_on b b₁ b₂ (client_head_words h) row 1 (1 + client_head) p q refl

pub server-put : (b b₁ b₂ : List ℕ) (h : ServerHead) (row : List ℕ) → b₁ ≡ sets b 1 (server_head_words h) → b₂ ≡ sets b₁ (1 + server_head) row
    → b₂ ≡ sets b 1 (server_words (server.server_of h row))
unfolding server_words server_head_words
server-put b b₁ b₂ h row p q = stored_on b b₁ b₂ (server_head_words h) row 1 (1 + server_head) p q refl

-- a part put back
abbrev pub back : ℕ → ℕ → List ℕ → List ℕ → List ℕ
back a k b x = take a b ++ (x ++ drop k (drop a b))

pub client_head-long : (h : ClientHead) → length (client_head_words h) ≡ client_head
unfolding client_head_words
client_head-long h = refl

pub server_head-long : (h : ServerHead) → length (server_head_words h) ≡ server_head
unfolding server_head_words
server_head-long h = refl

pub length-cleared : (b : List ℕ) → length (cleared b) ≡ length b
unfolding cleared
length-cleared b = length-sets b flags_from (replicate system_servers 0)

-- the flags behind those of n servers
pub rest_of : (l : List ℕ) (n : ℕ) (y : Bool) → length l ≡ system_servers → y ≡ every (λ x. leb x 0) (take (system_servers - n) (drop n l))
    → y ≡ every (λ x. leb x 0) (drop n l)
rest_of l n y e q = q ∙ ap (every (λ (x : ℕ). leb x 0)) (take_all (system_servers - n) (drop n l) (omega (arith, length-drop n l)))

pub client-long : (c : Client) → length c.row ≡ response_words → length (client_words c) ≡ client_record_size
unfolding client_words client_head_words
client-long c e = omega (arith, e)

pub server-long : (s : Server) → length s.row ≡ queue_words → length (server_words s) ≡ server_record_size
unfolding server_words server_head_words
server-long s e = omega (arith, e)

-- a flag is set in an epoch only
module _ (b : List ℕ) (at : ℕ) (x : Bool) (e : x ≡ in_epoch (client_place b)) where
  pub marked : (l : List ℕ) → x ≡ true → l ≡ set b at 1 → l ≡ (if in_epoch (client_place b) then set b at 1 else b)
  marked l t p = rw (← e, t) p

  pub unmarked : x ≡ false → b ≡ (if in_epoch (client_place b) then set b at 1 else b)
  unmarked t = rw (← e, t)

-- a server that forgets
pub sunk : (b l : List ℕ) (h e : ServerHead) → h ≡ server_head_from (server_record b)
    → e ≡ empty_head h.n h.id
    → l ≡ sets b 1 (server_words (server.server_of e (replicate queue_words 0)))
    → set l 0 0 ≡ set (sets b 1 (server_words (emptied (server_from (server_record b))))) 0 0
sunk b l h e p q r = rw (r, q, p)

pub forgotten_short : (h e : ServerHead) → e ≡ empty_head h.n h.id → e.votes.len ≤ max_word
forgotten_short h e p = rw p (omega arith)

-- what the two stores of `put_client` leave, and those of `put_server`
pub client_put_back : (b x : List ℕ) (h : ClientHead) (row ys : List ℕ) → length b ≡ client_block → length row ≡ response_words
    → x ≡ sets (take client_record_size (drop 1 b)) 0 (client_head_words h) → ys ≡ row
    → back (1 + client_head) response_words (back 1 client_record_size b x) ys ≡ sets b 1 (client_words (client.client_of h row))
client_put_back b x h row ys l m p q =
    let e : back 1 client_record_size b x ≡ sets b 1 (client_head_words h) = part-front b x (client_head_words h) 1 client_record_size (omega arith)
    (omega (arith, client_head-long h)) p in
    let n : length (back 1 client_record_size b x) ≡ client_block = ap length e ∙ (length-sets b 1 (client_head_words h) ∙ l) in
    client-put b _ _ h row e (part-whole (back 1 client_record_size b x) ys row (1 + client_head) response_words (omega arith) m q)

pub server_put_back : (b x : List ℕ) (h : ServerHead) (row ys : List ℕ) → length b ≡ server_block → length row ≡ queue_words
    → x ≡ sets (take server_record_size (drop 1 b)) 0 (server_head_words h) → ys ≡ row
    → back (1 + server_head) queue_words (back 1 server_record_size b x) ys ≡ sets b 1 (server_words (server.server_of h row))
server_put_back b x h row ys l m p q =
    let e : back 1 server_record_size b x ≡ sets b 1 (server_head_words h) = part-front b x (server_head_words h) 1 server_record_size (omega arith)
    (omega (arith, server_head-long h)) p in
    let n : length (back 1 server_record_size b x) ≡ server_block = ap length e ∙ (length-sets b 1 (server_head_words h) ∙ l) in
    server-put b _ _ h row e (part-whole (back 1 server_record_size b x) ys row (1 + server_head) queue_words (omega arith) m q)
