-- The place that a valid block is determines its words: the first word is a bit, the record is the one that the place's state is stored as, and the
-- flags are bits of which the place names those that are set.
use Prim.Native.Nat.{ℕ, zero, suc, ◌≤◌, ◌<◌}
use native.Mathlib.Omega.{arith}
use mathlib.Core.Path.{◌≡◌, refl, sym, ap, ◌∙◌}
use mathlib.Core.Bool.{true}
use mathlib.Core.List.{List, [], ◌∷◌, ◌++◌}
use lib.Dec.{eqb}
use lib.ListN.{length, get_or, drop, length-take, length-drop, take-append-drop}
use lib.Seq.{drop-cons, drop-drop, take_all}
use borrow.Author.Tests.{leb-true, ne_eqb}
use Rattle.ids.specs.Lists.{every}
use Rattle.ids.specs.Limits.{max_servers}
use Rattle.ids.proofs.Choice.{both}
use Rattle.client.specs.Record as client
use Rattle.client.specs.declared.Client.{Client}
use Rattle.client.proofs.KeepsValid.{stored-again}
use Rattle.server.specs.Record as server
use Rattle.server.specs.declared.Server.{Server}
use Rattle.server.proofs.RecordLaws as server_laws
use Rattle.words.specs.Records.{client_words, server_words, client_from, server_from}
use Rattle.words.proofs.RecordsLaws.{client-row, server-row}
use Rattle.words.proofs.RoundTrip.{client_words-again, server_words-again}
use Rattle.system.specs.Limits.{system_servers, system_clients}
use Rattle.system.specs.Numbered.{client_no, server_no}
use Rattle.system.specs.Places.{ClientPlace, ServerPlace}
use Rattle.sim_blocks.specs.Blocks.{client_record, server_record, flags, flagged, client_place, server_place, bit_word, valid_client_block, valid_server_block, client_block, server_block, flags_from, client_record_size, server_record_size, response_words, queue_words}
use Rattle.sim_blocks.proofs.Facts.{client-facts, server-facts}

-- bits, one and many
same_bit : (x y : ℕ) → x ≤ 1 → y ≤ 1 → eqb x 1 ≡ eqb y 1 → x ≡ y
same_bit zero zero g h e = refl
same_bit (suc zero) (suc zero) g h e = refl
same_bit zero (suc zero) g h e = let z : ◌≡◌ {A = ℕ} 0 1 = cc in absurd (omega arith)
same_bit (suc zero) zero g h e = let z : ◌≡◌ {A = ℕ} 0 1 = cc in absurd (omega arith)
same_bit zero (suc (suc y)) g h e = absurd (omega arith)
same_bit (suc zero) (suc (suc y)) g h e = absurd (omega arith)
same_bit (suc (suc x)) y g h e = absurd (omega arith)

set_flag : (j x : ℕ) (l : List ℕ) → flagged j (suc x ∷ l) ≡ j ∷ flagged (suc j) l
unfolding flagged
set_flag j x l = rw (ne_eqb (suc x) 0 (λ e. omega arith))

-- no number below j is named by the flags from j on
none_below : (i j : ℕ) (l r : List ℕ) → i < j → flagged j l ≡ i ∷ r → ⊥
unfolding flagged
none_below i j [] r h e = let z : ◌≡◌ {A = ℕ} 0 1 = cc in omega arith
none_below i j (zero ∷ l) r h e = none_below i (suc j) l r (omega arith) e
none_below i j (suc x ∷ l) r h e = let p = sym (set_flag j x l) ∙ e in let z : j ≡ i = cc in omega arith

same_flags : (j : ℕ) (l l' : List ℕ) → length l ≡ length l' → every bit_word l ≡ true → every bit_word l' ≡ true → flagged j l ≡ flagged j l' → l ≡ l'
unfolding flagged
same_flags j [] [] s p q e = refl
same_flags j [] (y ∷ l') s p q e = absurd (omega arith)
same_flags j (x ∷ l) [] s p q e = absurd (omega arith)
same_flags j (zero ∷ l) (zero ∷ l') s p q e = ap (λ (r : List ℕ). 0 ∷ r) (same_flags (suc j) l l' (omega arith) p q e)
same_flags j (zero ∷ l) (suc y ∷ l') s p q e = absurd (none_below j (suc j) l (flagged (suc j) l') (omega arith) (e ∙ set_flag j y l'))
same_flags j (suc x ∷ l) (zero ∷ l') s p q e = absurd (none_below j (suc j) l' (flagged (suc j) l) (omega arith) (sym e ∙ set_flag j x l))
same_flags j (suc x ∷ l) (suc y ∷ l') s p q e =
    let (a, p') = both (bit_word (suc x)) (every bit_word l) p in
    let (b, q') = both (bit_word (suc y)) (every bit_word l') q in
    let first : suc x ≡ suc y = omega (arith, leb-true (suc x) 1 a, leb-true (suc y) 1 b) in
    let f = sym (set_flag j x l) ∙ (e ∙ set_flag j y l') in
    let rest = same_flags (suc j) l l' (omega arith) p' q' (cc) in
    λ i. first i ∷ rest i

-- the parts of a block are all of it
client-parts : (b : List ℕ) → length b ≡ client_block → get_or b 0 0 ∷ (client_record b ++ flags b) ≡ b
client-parts b l =
    rw (take_all system_servers (drop flags_from b) (omega (arith, length-drop flags_from b)), ← drop-drop client_record_size 1 b, take-append-drop client_record_size (drop 1 b))
    (sym (drop-cons b 0 0 (omega arith)))

server-parts : (b : List ℕ) → length b ≡ server_block → get_or b 0 0 ∷ server_record b ≡ b
server-parts b l =
    rw (take_all server_record_size (drop 1 b) (omega (arith, length-drop 1 b)))
    (sym (drop-cons b 0 0 (omega arith)))

-- a block's record is the one that its place's state is stored as
module _ (n m clients k : ℕ) (b : List ℕ) (ok : valid_client_block n m clients (client_no k) b ≡ true) where
  client_record_lem : client_record b ≡ client_words (client.store_in system_servers n m (client_no k) (client_place b).state)
  unfolding client_place
  client_record_lem =
      let B = client-facts n m clients k b ok in
      let c : Client = client_from (client_record b) in
      let long : length c.row ≡ response_words = client-row response_words (client_record b) B.held in
      let again = stored-again system_servers c B.valid long in
      sym (client_words-again response_words (client_record b) B.held) ∙ ap client_words
      (sym again ∙ (λ i. client.store_in system_servers (B.servers i) (B.threshold i) (B.number i) (client.view c)))

module _ (n clients j : ℕ) (b : List ℕ) (ok : valid_server_block n clients (server_no j) b ≡ true) where
  server_record_lem : server_record b ≡ server_words (server.store_in system_clients n (server_no j) (server_place b).state)
  unfolding server_place
  server_record_lem =
      let B = server-facts n clients j b ok in
      let s : Server = server_from (server_record b) in
      let long : length s.row ≡ queue_words = server-row queue_words (server_record b) B.held in
      let again = server_laws.store_view system_clients s long (server_laws.valid-padded max_servers s B.valid) in
      sym (server_words-again queue_words (server_record b) B.held) ∙ ap server_words
      (sym again ∙ (λ i. server.store_in system_clients (B.servers i) (B.number i) (server.view s)))

-- two valid blocks that are the same place are the same words
pub same-client : (n m clients k : ℕ) (b b' : List ℕ) → valid_client_block n m clients (client_no k) b ≡ true → valid_client_block n m clients (client_no k) b' ≡ true
    → client_place b ≡ client_place b' → b ≡ b'
unfolding client_place
same-client n m clients k b b' ok ok' e =
    let B = client-facts n m clients k b ok in
    let B' = client-facts n m clients k b' ok' in
    let first : get_or b 0 0 ≡ get_or b' 0 0 = same_bit (get_or b 0 0) (get_or b' 0 0) B.bit B'.bit (ap (λ (p : ClientPlace). p.living) e) in
    let body : client_record b ≡ client_record b' = client_record_lem n m clients k b ok ∙
    (ap (λ (p : ClientPlace). client_words (client.store_in system_servers n m (client_no k) p.state)) e ∙ sym (client_record_lem n m clients k b' ok')) in
    let size : length (flags b) ≡ length (flags b') = simp (length-take, length-drop) (rw (B.size, B'.size)) in
    let last : flags b ≡ flags b' = same_flags 1 (flags b) (flags b') size B.bits B'.bits (ap (λ (p : ClientPlace). p.downs) e) in
    sym (client-parts b B.size) ∙ ((λ i. first i ∷ (body i ++ last i)) ∙ client-parts b' B'.size)

pub same-server : (n clients j : ℕ) (b b' : List ℕ) → valid_server_block n clients (server_no j) b ≡ true → valid_server_block n clients (server_no j) b' ≡ true
    → server_place b ≡ server_place b' → b ≡ b'
unfolding server_place
same-server n clients j b b' ok ok' e =
    let B = server-facts n clients j b ok in
    let B' = server-facts n clients j b' ok' in
    let first : get_or b 0 0 ≡ get_or b' 0 0 = same_bit (get_or b 0 0) (get_or b' 0 0) B.bit B'.bit (ap (λ (p : ServerPlace). p.up) e) in
    let body : server_record b ≡ server_record b' = server_record_lem n clients j b ok ∙
    (ap (λ (p : ServerPlace). server_words (server.store_in system_clients n (server_no j) p.state)) e ∙ sym (server_record_lem n clients j b' ok')) in
    sym (server-parts b B.size) ∙ ((λ i. first i ∷ body i) ∙ server-parts b' B'.size)
