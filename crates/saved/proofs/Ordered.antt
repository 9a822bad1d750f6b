-- Words of a client's record from before L4 in today's order: one word more, which says that nothing was seen. The number of words still tells the form,
-- and a record of form 1 becomes the same whether it gets its empty places first or that word.
use Prim.Native.Nat.{ℕ, zero, suc, ◌+◌, ◌-◌, ◌≤◌, ◌<◌}
use native.Mathlib.Omega.{arith}
use mathlib.Core.Path.{◌≡◌, refl, sym, ap, ◌∙◌}
use mathlib.Core.Bool.{Bool, true, false}
use mathlib.Core.Logic.{⊎_elim}
use mathlib.Core.List.{List, [], ◌∷◌, ◌++◌, append_assoc}
use lib.ListN.{length, get_or, set, take, drop, replicate, length-take, length-drop, length-append, length-replicate}
use lib.Seq.{sets, sets-eq, take_at, length-sets, length-take-le, take-append-le, drop-append-le, get_or_at}
use borrow.Author.Tests.{eq-eqb, ne_eqb}
use Rattle.ids.specs.Limits.{max_servers, earlier_servers}
use Rattle.wire.proofs.BytesLaws.{stored_on}
use Rattle.rows.proofs.CopyLaws.{part-whole}
use Rattle.client.specs.Record as client
use Rattle.words.specs.Records.{client_head, client_size_of, client_size, client_head_from}
use Rattle.saved.specs.Forms.{earlier_head, earlier_size_of, earlier_responses, sound_client, ordered_client, saved_client, unseen, ordered, wider_client, client_now}
use Rattle.saved.specs.Taken.{saved_as}
use Rattle.saved.proofs.FormLaws.{rest, clients, no_form, form, short, filled, first-now, second-now, now-long}

module _ (ws : List ℕ) where
  -- words of today's form stand in today's order, and others get a word more
  pub ordered_same : length ws ≡ client_size → ordered ws ≡ ws
  unfolding ordered
  ordered_same l = rw (eq-eqb (length ws) client_size l)

  pub ordered_earlier : (length ws ≡ client_size → ⊥) → ordered ws ≡ unseen ws
  unfolding ordered
  ordered_earlier n = rw (ne_eqb (length ws) client_size n)

  pub unseen-long : length (unseen ws) ≡ suc (length ws)
  unseen-long =
      omega (arith, length-append (take earlier_head ws) (0 ∷ drop earlier_head ws), length-take earlier_head ws, length-drop earlier_head ws)

  -- nothing was seen
  pub seen_nothing : earlier_head ≤ length ws → (length ws ≡ client_size → ⊥) → (client.view (saved_as ws)).seen.0 ≡ 0
  unfolding client.view client_head_from
  seen_nothing h n =
      ap (λ (l : List ℕ). get_or l earlier_head 0) (ordered_earlier n) ∙
      get_or_at (take earlier_head ws) 0 (drop earlier_head ws) 0 earlier_head (length-take-le earlier_head ws h)

  -- form 1, taken over through form 2
  wider_unseen : (k : ℕ) → earlier_head ≤ length ws → unseen (ws ++ replicate k 0) ≡ unseen ws ++ replicate k 0
  wider_unseen k h =
      rw (take-append-le earlier_head ws (replicate k 0) h, drop-append-le earlier_head ws (replicate k 0) h)
      (sym (append_assoc (take earlier_head ws) (0 ∷ drop earlier_head ws) (replicate k 0)))

pub by_steps : (ws : List ℕ) → length ws ≡ earlier_size_of earlier_responses
    → client_now (ws ++ replicate (client.row_words - earlier_responses) 0) ≡ client_now ws
by_steps ws l =
    let k : ℕ = client.row_words - earlier_responses in
    let second : List ℕ = ws ++ replicate k 0 in
    let a : length second ≡ earlier_size_of client.row_words = omega (arith, length-append ws (replicate k 0), length-replicate {A = ℕ} k 0, l) in
    let b : ordered second ≡ unseen ws ++ replicate k 0 = ordered_earlier second (omega (arith, a)) ∙ wider_unseen ws k (omega (arith, l)) in
    let c : wider_client (ordered second) ≡ ordered second =
    second-now clients (ordered second) (ap length (ordered_earlier second (omega (arith, a))) ∙ omega (arith, unseen-long second, a)) in
    let d : wider_client (unseen ws) ≡ unseen ws ++ replicate k 0 = first-now clients (unseen ws) (omega (arith, unseen-long ws, l)) in
    c ∙ b ∙ sym d ∙ ap (λ (x : List ℕ). wider_client x) (sym (ordered_earlier ws (omega (arith, l))))

-- `put_unseen`: the part before the new word is copied, the word written, and the part behind it copied
module _ (ws o : List ℕ) (h : earlier_head ≤ length ws) (r : length ws < length o) where
  head-long : length (take earlier_head ws) ≡ earlier_head
  head-long = length-take-le earlier_head ws h

  module _ (ys : List ℕ) (e : ys ≡ take earlier_head ws) where
    abbrev front : List ℕ
    front = set (ys ++ drop earlier_head o) earlier_head 0

    front-is : front ≡ sets o 0 (take earlier_head ws ++ (0 ∷ []))
    front-is =
        stored_on o (ys ++ drop earlier_head o) front (take earlier_head ws) (0 ∷ []) 0 earlier_head
        (part-whole o ys (take earlier_head ws) 0 earlier_head (omega (arith, h, r)) head-long e) refl (omega (arith, head-long))

    front_long : length front ≡ length o
    front_long = ap length front-is ∙ length-sets o 0 (take earlier_head ws ++ (0 ∷ []))

    pub rest-inside : length ws + 1 ≤ length (set (ys ++ drop earlier_head o) earlier_head 0)
    rest-inside = omega (arith, front_long, r)

    pub rest-fits : length (take (length ws - earlier_head) (drop earlier_head ws))
        ≡ length (take (length ws + 1 - client_head) (drop client_head (set (ys ++ drop earlier_head o) earlier_head 0)))
    rest-fits =
        let a : length (take (length ws + 1 - client_head) (drop client_head front)) ≡ length ws + 1 - client_head =
        length-take-le (length ws + 1 - client_head) (drop client_head front) (omega (arith, length-drop client_head front, front_long, r)) in
        ap length (rest earlier_head ws) ∙ omega (arith, length-drop earlier_head ws, a)

    pub rest_put : (zs : List ℕ) → zs ≡ take (length ws - earlier_head) (drop earlier_head ws)
        → take client_head (set (ys ++ drop earlier_head o) earlier_head 0)
        ++ (zs ++ drop (length ws + 1 - client_head) (drop client_head (set (ys ++ drop earlier_head o) earlier_head 0)))
        ≡ sets o 0 (unseen ws)
    rest_put zs p =
        let q = part-whole front zs (drop earlier_head ws) client_head (length ws + 1 - client_head) (omega (arith, front_long, r, h))
        (omega (arith, length-drop earlier_head ws)) (p ∙ rest earlier_head ws) in
        let l : client_head ≡ 0 + length (take earlier_head ws ++ (0 ∷ [])) = omega (arith, length-append (take earlier_head ws) (0 ∷ []), head-long) in
        stored_on o front _ (take earlier_head ws ++ (0 ∷ [])) (drop earlier_head ws) 0 client_head front-is q l ∙
        ap (λ (x : List ℕ). sets o 0 x) (append_assoc (take earlier_head ws) (0 ∷ []) (drop earlier_head ws))

    pub rest-kept : (zs : List ℕ) → zs ≡ take (length ws - earlier_head) (drop earlier_head ws)
        → length
        (take client_head (set (ys ++ drop earlier_head o) earlier_head 0)
        ++ (zs ++ drop (length ws + 1 - client_head) (drop client_head (set (ys ++ drop earlier_head o) earlier_head 0))))
        ≡ length o
    rest-kept zs p = ap length (rest_put zs p) ∙ length-sets o 0 (unseen ws)

-- an empty record in which words were put in front
drop-zeros : (i n : ℕ) → i ≤ n → drop {A = ℕ} i (replicate n 0) ≡ replicate (n - i) 0
drop-zeros zero n h = let z : n - 0 ≡ n = omega arith in rw z
drop-zeros (suc i) zero h = absurd (omega arith)
drop-zeros (suc i) (suc n) h = let z : suc n - suc i ≡ n - i = omega arith in drop-zeros i n (omega arith) ∙ rw z

zeros-behind : (xs : List ℕ) (n : ℕ) → length xs ≤ n → sets (replicate n 0) 0 xs ≡ xs ++ replicate (n - length xs) 0
zeros-behind xs n h =
    let k : 0 + length xs ≡ length xs = omega arith in
    sets-eq xs (replicate n 0) 0 (omega (arith, h, length-replicate {A = ℕ} n 0)) ∙ rw (k, drop-zeros (length xs) n h)

-- `valid_client`: words of today's form as they stand, and others in today's order; so many words that no form has are not judged
module _ (ws : List ℕ) where
  pub today_judged : (y : Bool) → length ws ≡ client_size → y ≡ ordered_client ws → y ≡ saved_client ws
  today_judged y l p = p ∙ ap (λ (x : List ℕ). ordered_client x) (sym (ordered_same ws l))

  module _ (n : length ws ≡ client_size → ⊥) where
    pub as_unseen : saved_client ws ≡ ordered_client (unseen ws)
    as_unseen = ap (λ (x : List ℕ). ordered_client x) (ordered_earlier ws n)

    pub no_form_so_long : (length ws ≡ earlier_size_of earlier_responses → ⊥) → (length ws ≡ earlier_size_of client.row_words → ⊥) → saved_client ws ≡ false
    no_form_so_long a b =
        as_unseen ∙ no_form clients (unseen ws) (λ e. a (omega (arith, e, unseen-long ws))) (λ e. b (omega (arith, e, unseen-long ws)))

    pub too_short : length ws < earlier_head → false ≡ saved_client ws
    too_short h = sym (no_form_so_long (omega (arith, h)) (omega (arith, h)))

    pub too_long : client_size < length ws → false ≡ saved_client ws
    too_long h = sym (no_form_so_long (omega (arith, h)) (omega (arith, h)))

    pub earlier_judged : (z : List ℕ) (y : Bool) → length ws ≤ client_size → z ≡ sets (replicate client_size 0) 0 (unseen ws)
        → y ≡ ordered_client (take (length ws + 1 - 0) z) → y ≡ saved_client ws
    earlier_judged z y r p q =
        let k : length ws + 1 - 0 ≡ length (unseen ws) = omega (arith, unseen-long ws) in
        let t : take (length ws + 1 - 0) z ≡ unseen ws =
        rw (k, p ∙ zeros-behind (unseen ws) client_size (omega (arith, n, r, unseen-long ws)))
        (take_at (unseen ws) (replicate (client_size - length (unseen ws)) 0) (length (unseen ws)) refl) in
        q ∙ ap (λ (x : List ℕ). ordered_client x) t ∙ sym as_unseen

-- `take_client`: a saved record as it stands, or what an empty record becomes when its words in today's order are put in front
module _ (ws : List ℕ) (v : saved_client ws ≡ true) where
  pub now-put : (s ys us : List ℕ) → client_size ≤ length s → us ≡ client_now ws → ys ≡ us → ys ++ drop client_size s ≡ sets s 0 (client_now ws)
  now-put s ys us h e p = part-whole s ys (client_now ws) 0 client_size (omega (arith, h)) (now-long clients (ordered ws) v) (p ∙ e)

  pub today_now : length ws ≡ client_size → ws ≡ client_now ws
  today_now l = sym (ap (λ (x : List ℕ). wider_client x) (ordered_same ws l) ∙ second-now clients ws l)

  module _ (n : length ws ≡ client_size → ⊥) where
    long : length (ordered ws) ≡ suc (length ws)
    long = ap length (ordered_earlier ws n) ∙ unseen-long ws

    pub earlier_head_lem : earlier_head ≤ length ws
    earlier_head_lem =
        ⊎_elim
        (λ (f : (sound_client earlier_responses earlier_servers (ordered ws) ≡ true) × (length (ordered ws) ≡ client_size_of earlier_responses)). omega (arith, f.1, long))
        (λ (f : (sound_client client.row_words max_servers (ordered ws) ≡ true) × (length (ordered ws) ≡ client_size)). omega (arith, f.1, long))
        (form clients (ordered ws) v)

    pub earlier_room : length ws < client_size
    earlier_room = omega (arith, short clients (ordered ws) v, long)

    pub earlier_now : (z : List ℕ) → z ≡ sets (replicate client_size 0) 0 (unseen ws) → z ≡ client_now ws
    earlier_now z p =
        p ∙ zeros-behind (unseen ws) client_size (omega (arith, unseen-long ws, earlier_room)) ∙
        (rw (ordered_earlier ws n) at (filled clients (ordered ws) v) ∙ ap (λ (x : List ℕ). wider_client x) (sym (ordered_earlier ws n)))
