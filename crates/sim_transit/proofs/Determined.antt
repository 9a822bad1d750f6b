-- The messages determine the words: a valid slot's words are those of its message, and behind the used slots there is only 0. So what a call leaves
-- is told whole by the messages it leaves.
use Prim.Native.Nat.{ℕ, zero, suc, ◌+◌, ◌*◌, ◌≤◌}
use native.Mathlib.Omega.{arith}
use mathlib.Core.Path.{◌≡◌, refl, sym, ap, ◌∙◌}
use mathlib.Core.Bool.{true}
use mathlib.Core.List.{List, [], ◌∷◌, ◌++◌, map, append_assoc}
use lib.Dec.{eqb}
use lib.ListN.{length, take, drop, length-drop, length-map, take-append-drop}
use lib.Seq.{drop-drop, length-take-le}
use borrow.Author.Tests.{eqb-true}
use Rattle.ids.specs.Limits.{max_servers}
use Rattle.std.specs.Prelude.{if◌then◌else◌}
use Rattle.ids.proofs.Choice.{both}
use Rattle.wire.specs.declared.Fields.{Fields}
use Rattle.wire.proofs.NumbersLaws.{fields_again}
use Rattle.ids.specs.Lists.{every}
use Rattle.sim_transit.specs.Slots.{slot_of, rows, slots, valid_slot, slot_size}
use Rattle.sim_transit.specs.Calls.{Valid, slot_words}
use Rattle.sim_transit.proofs.SlotLaws.{Seven, seven, sevens, slot_fitting}
use Rattle.sim_transit.proofs.RowsLaws.{length-rows}
use Rattle.sim_transit.proofs.ValidLaws.{known}

flag_again : (b : ℕ) → b ≤ 1 → (if eqb b 1 then 1 else 0) ≡ b
flag_again zero h = refl
flag_again (suc zero) h = refl
flag_again (suc (suc b)) h = absurd (omega arith)

row-again : (n clients : ℕ) {ws : List ℕ} → Seven ws → valid_slot n clients ws ≡ true → slot_words (slot_of ws) ≡ ws
unfolding slot_of slot_words
row-again n clients (seven a b c d e f g) v =
    let F = slot_fitting n clients (a ∷ (b ∷ (c ∷ (d ∷ (e ∷ (f ∷ (g ∷ []))))))) v in
    let its : Fields = record { kind = c; client = d; server = e; timestamp = f; owner = g } in
    rw (flag_again b F.flag, fields_again max_servers its F.range)

rows-again : (n clients k : ℕ) (t : List ℕ) → slot_size * k ≤ length t → every (valid_slot n clients) (rows k t) ≡ true → map slot_words (slots k t) ≡ rows k t
unfolding rows slots
rows-again n clients zero t h v = refl
rows-again n clients (suc k) t h v =
    let (a, b) = both (valid_slot n clients (take slot_size t)) (every (valid_slot n clients) (rows k (drop slot_size t))) v in
    let s = sevens (take slot_size t) (length-take-le slot_size t (omega arith)) in
    rw (row-again n clients s a, rows-again n clients k (drop slot_size t) (simp length-drop (omega arith)) b)

joined : List (List ℕ) → List ℕ
joined [] = []
joined (r ∷ l) = r ++ joined l

rows-joined : (k : ℕ) (t : List ℕ) → joined (rows k t) ++ drop (slot_size * k) t ≡ t
unfolding rows joined
rows-joined zero t = refl
rows-joined (suc k) t =
    let z : slot_size * suc k ≡ slot_size + slot_size * k = omega arith in
    let e : joined (rows k (drop slot_size t)) ++ drop (slot_size + slot_size * k) t ≡ drop slot_size t = rw
    (← drop-drop (slot_size * k) slot_size t) (rows-joined k (drop slot_size t)) in
    rw (z, append_assoc (take slot_size t) (joined (rows k (drop slot_size t))) (drop (slot_size + slot_size * k) t), e) (take-append-drop slot_size t)

pub zeros-same : (a b : List ℕ) → length a ≡ length b → every (eqb 0) a ≡ true → every (eqb 0) b ≡ true → a ≡ b
zeros-same [] [] l p q = refl
zeros-same [] (y ∷ b) l p q = absurd (omega arith)
zeros-same (x ∷ a) [] l p q = absurd (omega arith)
zeros-same (x ∷ a) (y ∷ b) l p q =
    let (u, v) = both (eqb 0 x) (every (eqb 0) a) p in
    let (w, z) = both (eqb 0 y) (every (eqb 0) b) q in
    rw (← eqb-true 0 x u, ← eqb-true 0 y w, zeros-same a b (omega arith) v z)

-- the same messages are as many
pub same_count : (len len' : ℕ) (s t : List ℕ) → slots len s ≡ slots len' t → len ≡ len'
unfolding slots
same_count len len' s t e =
    let counted : (k : ℕ) (ws : List ℕ) → length (map slot_of (rows k ws)) ≡ k = λ k ws. length-map (rows k ws) slot_of ∙ length-rows k ws in
    sym (counted len s) ∙ (ap length e ∙ counted len' t)

pub same-words : (n clients sent n' clients' sent' len : ℕ) (s t : List ℕ) → Valid n clients sent len s → Valid n' clients' sent' len t
    → slots len s ≡ slots len t → s ≡ t
same-words n clients sent n' clients' sent' len s t ok ok' e =
    let K = known n clients sent len s ok in
    let L = known n' clients' sent' len t ok' in
    let a = rows-again n clients len s (omega (arith, K.size, K.few)) K.fit in
    let b = rows-again n' clients' len t (omega (arith, L.size, L.few)) L.fit in
    let r : rows len s ≡ rows len t = sym a ∙ (ap (map slot_words) e ∙ b) in
    let d : drop (slot_size * len) s ≡ drop (slot_size * len) t = zeros-same (drop (slot_size * len) s) (drop (slot_size * len) t)
    (omega (arith, length-drop (slot_size * len) s, length-drop (slot_size * len) t, K.size, L.size)) K.rest L.rest in
    sym (rows-joined len s) ∙ (rw (r, d) (rows-joined len t))
