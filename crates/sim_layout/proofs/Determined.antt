-- A simulation's setting and system determine its words: of the head's seven words four are the setting, one counts the messages in transit and
-- two are the system's; each block is determined by its place, the messages by what is in transit, and behind them every word is 0.
use Prim.Native.Nat.{ℕ, zero, suc, ◌+◌, ◌*◌, ◌<◌}
use native.Mathlib.Omega.{arith}
use mathlib.Core.Path.{◌≡◌, sym, ap, ◌∙◌}
use mathlib.Core.Bool.{Bool, true}
use mathlib.Core.List.{List, ◌++◌}
use lib.ListN.{length, get_or, take, drop, length-drop, take-append-drop}
use lib.Seq.{drop-drop, length-take-le, get_or-take, ext_get_or, take_all}
use Rattle.ids.proofs.Choice.{both}
use Rattle.system.specs.declared.Setting.{Setting}
use Rattle.system.specs.Numbered.{client_no, server_no}
use Rattle.system.specs.Places.{System}
use Rattle.sim_blocks.specs.Regions.{blocks}
use Rattle.sim_blocks.specs.Blocks.{client_block, server_block, client_place, server_place, valid_client_block, valid_server_block}
use Rattle.sim_blocks.proofs.Determined.{same-client, same-server}
use Rattle.sim_transit.proofs.Determined.{zeros-same}
use Rattle.sim_indexed.specs.Indexed.{indexed_size, in_transit}
use Rattle.sim_indexed.proofs.Determined as indexed
use Rattle.sim_layout.specs.Layout.{clients_from, clients_size, servers_from, servers_size, transit_from, simulation_size, setting_of, client_words, server_words, transit_words, length_of, sent_of, view, valid_from, blank, itself, valid}
use Rattle.sim_layout.proofs.ValidLaws.{Facts, facts}

-- blocks that are the same, one after another, and the same words behind them
module _ {A : Type 0} (size : ℕ) (f : List ℕ → A) (ok : ℕ → List ℕ → Bool) (same : (i : ℕ) (b b' : List ℕ) → ok i b ≡ true → ok i b' ≡ true → f b ≡ f b' → b ≡ b') where
  same_blocks : (count i : ℕ) (l l' : List ℕ) → valid_from ok i (blocks size itself count l) ≡ true → valid_from ok i (blocks size itself count l') ≡ true
      → blocks size f count l ≡ blocks size f count l' → drop (count * size) l ≡ drop (count * size) l' → l ≡ l'
  unfolding valid_from blocks
  same_blocks zero i l l' v v' e d = let z : 0 * size ≡ 0 = omega arith in rw z at d
  same_blocks (suc count) i l l' v v' e d =
      let (a, r) = both (ok i (take size l)) (valid_from ok (suc i) (blocks size itself count (drop size l))) v in
      let (a', r') = both (ok i (take size l')) (valid_from ok (suc i) (blocks size itself count (drop size l'))) v' in
      let first : take size l ≡ take size l' = same i (take size l) (take size l') a a' (cc) in
      let z : suc count * size ≡ size + count * size = omega arith in
      let behind : (ws : List ℕ) → drop (count * size) (drop size ws) ≡ drop (suc count * size) ws = λ ws. drop-drop (count * size) size ws ∙
      ap (λ (x : ℕ). drop x ws) (sym z) in
      let rest : drop size l ≡ drop size l' = same_blocks count (suc i) (drop size l) (drop size l') r r' (cc) (behind l ∙ (d ∙ sym (behind l'))) in
      sym (take-append-drop size l) ∙ ((λ j. first j ++ rest j) ∙ take-append-drop size l')

-- the parts are all the words
parts : (w : List ℕ) → length w ≡ simulation_size → take clients_from w ++ (client_words w ++ (server_words w ++ transit_words w)) ≡ w
unfolding client_words server_words transit_words
parts w l =
    rw (
      take_all indexed_size (drop transit_from w) (omega (arith, length-drop transit_from w)),
      ← drop-drop servers_size servers_from w,
      take-append-drop servers_size (drop servers_from w),
      ← drop-drop clients_size clients_from w,
      take-append-drop clients_size (drop clients_from w),
    ) (take-append-drop clients_from w)

module _ (w : List ℕ) (l : length w ≡ simulation_size) where
  clients-long : length (client_words w) ≡ clients_size
  unfolding client_words
  clients-long = length-take-le clients_size (drop clients_from w) (omega (arith, length-drop clients_from w))

  servers-long : length (server_words w) ≡ servers_size
  unfolding server_words
  servers-long = length-take-le servers_size (drop servers_from w) (omega (arith, length-drop servers_from w))

-- words that are 0 to the same place
same-blank : (a b : List ℕ) (k : ℕ) → length a ≡ length b → blank (drop k a) ≡ true → blank (drop k b) ≡ true → drop k a ≡ drop k b
same-blank a b k l p q = zeros-same (drop k a) (drop k b) (omega (arith, length-drop k a, length-drop k b)) p q

module _ (w w' : List ℕ) (ok : valid w ≡ true) (ok' : valid w' ≡ true) (s : setting_of w ≡ setting_of w') (e : view w ≡ view w') where
  abbrev F : Facts w
  F = facts w ok

  abbrev F' : Facts w'
  F' = facts w' ok'

  same-clients : client_words w ≡ client_words w'
  unfolding view
  same-clients =
      let n : ℕ = (setting_of w).n in
      let m : ℕ = (setting_of w).m in
      let k : ℕ = (setting_of w).clients in
      same_blocks client_block client_place (λ (i : ℕ). valid_client_block n m k (client_no i)) (same-client n m k) k 1 (client_words w) (client_words w') F.clients
      (rw (← s) at F'.clients) (rw (← s) at (ap (λ (u : System). u.clients) e))
      (same-blank (client_words w) (client_words w') (k * client_block) (clients-long w F.long ∙ sym (clients-long w' F'.long)) F.no_clients_lem
      (rw (← s) at F'.no_clients_lem))

  same-servers : server_words w ≡ server_words w'
  unfolding view
  same-servers =
      let n : ℕ = (setting_of w).n in
      let k : ℕ = (setting_of w).clients in
      same_blocks server_block server_place (λ (i : ℕ). valid_server_block n k (server_no i)) (same-server n k) n 1 (server_words w) (server_words w') F.servers
      (rw (← s) at F'.servers) (rw (← s) at (ap (λ (u : System). u.servers) e))
      (same-blank (server_words w) (server_words w') (n * server_block) (servers-long w F.long ∙ sym (servers-long w' F'.long)) F.no_servers
      (rw (← s) at F'.no_servers))

  same_length : length_of w ≡ length_of w'
  unfolding view
  same_length = indexed.same_count (length_of w) (length_of w') (transit_words w) (transit_words w') (ap (λ (u : System). u.transit) e)

  same-transit : transit_words w ≡ transit_words w'
  unfolding view
  same-transit =
      let messages : in_transit (length_of w) (transit_words w) ≡ in_transit (length_of w') (transit_words w') = ap (λ (u : System). u.transit) e in
      indexed.same-words (setting_of w).n (setting_of w).clients (sent_of w) (setting_of w').n (setting_of w').clients (sent_of w') (length_of w)
      (transit_words w) (transit_words w') F.transit
      (rw (← same_length) at F'.transit) (rw (← same_length) at messages)

  head-words : (i : ℕ) → i < clients_from → get_or w i 0 ≡ get_or w' i 0
  unfolding setting_of view
  head-words zero h = ap (λ (x : Setting). x.n) s
  head-words (suc zero) h = ap (λ (x : Setting). x.m) s
  head-words (suc (suc zero)) h = ap (λ (x : Setting). x.f) s
  head-words (suc (suc (suc zero))) h = ap (λ (x : Setting). x.clients) s
  head-words (suc (suc (suc (suc zero)))) h = same_length
  head-words (suc (suc (suc (suc (suc zero))))) h = ap (λ (u : System). u.sent) e
  head-words (suc (suc (suc (suc (suc (suc zero)))))) h = ap (λ (u : System). u.most) e
  head-words (suc (suc (suc (suc (suc (suc (suc i))))))) h = absurd (omega arith)

  same_head : take clients_from w ≡ take clients_from w'
  same_head =
      let a = length-take-le clients_from w (omega (arith, F.long)) in
      let b = length-take-le clients_from w' (omega (arith, F'.long)) in
      ext_get_or 0 (take clients_from w) (take clients_from w') (a ∙ sym b) (λ i h.
      let lt : i < clients_from = omega (arith, a) in
      get_or-take clients_from w i 0 lt ∙ (head-words i lt ∙ sym (get_or-take clients_from w' i 0 lt)))

  pub same-words : w ≡ w'
  same-words =
      sym (parts w F.long) ∙ ((λ i. same_head i ++ (same-clients i ++ (same-servers i ++ same-transit i))) ∙ parts w' F'.long)
