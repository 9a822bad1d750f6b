-- The two calls that make a record: what each returns and leaves, in each way out.
use Rattle.std.specs.Prelude.{None}
use Prim.Native.Nat.{ℕ, ◌<◌, ◌≤◌}
use native.Mathlib.Omega.{arith}
use mathlib.Core.Path.{◌≡◌, refl, sym, ◌∙◌}
use mathlib.Core.Bool.{Bool, true, false, ◌&&◌}
use mathlib.Core.List.{List, map}
use mathlib.Core.Logic.{⊎_elim}
use lib.ListN.{length, replicate, length-map, length-replicate}
use borrow.Author.Tests.{le-leb, lt-leb}
use Rattle.ids.specs.Limits.{within, max_servers, valid_client}
use Rattle.ids.specs.Refusals.{code}
use Rattle.ids.specs.declared.ServerId.{ServerId}
use Rattle.ids.specs.declared.ClientId.{ClientId}
use Rattle.ids.specs.declared.Refusal.TheVariants.{ParameterOutOfRange}
use Rattle.ids.proofs.Choice.{both, decided}
use Rattle.ids.proofs.LimitsLaws.{within-range, client-range}
use Rattle.rows.proofs.RowLaws.{length_row_of}
use Rattle.client_responses.specs.Row.{place}
use Rattle.server.specs.Record as server
use Rattle.server.specs.Calls as server_calls
use Rattle.server.specs.declared.Stepped.{Stepped as ServerStepped}
use Rattle.client.specs.Record as client
use Rattle.client.specs.Calls as client_calls
use Rattle.client.specs.declared.Stepped.{Stepped as ClientStepped}
use Rattle.client.proofs.ValidLaws.{sizes_range}
use Rattle.words.specs.Records.{max_word, server_size, client_size, fits_head, server_words, client_words}
use Rattle.words.proofs.RecordsLaws.{head-fits}
use Rattle.capi.specs.Steps.{code_of, record_into, server_new, client_new}
use Rattle.capi.specs.Inner.{answer_code, answer_record}

module _ (n j : ℕ) (ws : List ℕ) where
  abbrev pub ServerMade : ℕ → List ℕ → Type 0
  ServerMade r ws' = (r ≡ code_of (server_new n j (length ws))) × (ws' ≡ record_into ws (server_new n j (length ws)))

  pub server_new-room : (r : ℕ) → length ws < server_size → r ≡ code ParameterOutOfRange → ServerMade r ws
  unfolding server_new
  server_new-room r h c = rw (lt-leb _ _ h) (c, refl)

  server_sizes_small : server.valid_sizes n (record { 0 = j }) ≡ true → fits_head n j 0 ≡ true
  server_sizes_small v =
      let (a, b) = both (within n max_servers) (within j n) v in
      let (l, h) = within-range n max_servers a in
      let (k, m) = within-range j n b in
      head-fits n j 0 (omega arith) (omega arith) (omega arith)

  module _ (room : server_size ≤ length ws) where
    server_new_not : (r : ℕ) → server.valid_sizes n (record { 0 = j }) ≡ false → r ≡ code ParameterOutOfRange → ServerMade r ws
    unfolding server_new
    server_new_not r v c = rw (le-leb _ _ room, v) (c, refl)

    pub server_new-wide : (r : ℕ) (x : Bool) → x ≡ fits_head n j 0 → x ≡ false → r ≡ code ParameterOutOfRange → ServerMade r ws
    server_new-wide r x e m c =
        ⊎_elim
        (λ (v : server.valid_sizes n (record { 0 = j }) ≡ true). let z : true ≡ false = sym (server_sizes_small v) ∙ sym e ∙
        m in let y : ◌≡◌ {A = ℕ} 0 1 = cc in absurd (omega arith))
        (λ (v : server.valid_sizes n (record { 0 = j }) ≡ false). server_new_not r v c)
        (decided (server.valid_sizes n (record { 0 = j })))

    pub server_new-done : (x : ServerStepped) (r : ℕ) (ws' : List ℕ) → x ≡ server_calls.new_result n (record { 0 = j })
        → r ≡ answer_code x.answer → ws' ≡ answer_record (server_words x.server) ws x.answer → ServerMade r ws'
    unfolding server_new server_calls.new_result
    server_new-done x r ws' e c p =
        ⊎_elim
        (λ (v : server.valid_sizes n (record { 0 = j }) ≡ true). rw (le-leb _ _ room, v) (rw (e, v) at c, rw (e, v) at p))
        (λ (v : server.valid_sizes n (record { 0 = j }) ≡ false). rw (le-leb _ _ room, v) (rw (e, v) at c, rw (e, v) at p))
        (decided (server.valid_sizes n (record { 0 = j })))

-- a new server's record has its whole row, and nobody waits
pub server_new-whole : (n : ℕ) (j : ServerId) (x : ServerStepped) → x ≡ server_calls.new_result n j
    → (length x.server.row ≡ server.row_words) × (x.server.head.votes.len ≤ max_word)
unfolding server_calls.new_result
server_new-whole n j x e =
    ⊎_elim (λ (v : server.valid_sizes n j ≡ true). rw (e, v) (refl, omega arith))
    (λ (v : server.valid_sizes n j ≡ false). rw (e, v) (refl, omega arith)) (decided (server.valid_sizes n j))

module _ (n m k : ℕ) (ws : List ℕ) where
  abbrev pub ClientMade : ℕ → List ℕ → Type 0
  ClientMade r ws' = (r ≡ code_of (client_new n m k (length ws))) × (ws' ≡ record_into ws (client_new n m k (length ws)))

  pub client_new-room : (r : ℕ) → length ws < client_size → r ≡ code ParameterOutOfRange → ClientMade r ws
  unfolding client_new
  client_new-room r h c = rw (lt-leb _ _ h) (c, refl)

  client_sizes_small : client.valid_sizes n m && valid_client (record { 0 = k }) ≡ true → fits_head n m k ≡ true
  client_sizes_small v =
      let (a, b) = both (client.valid_sizes n m) (valid_client (record { 0 = k })) v in
      let (p, q, s, t) = sizes_range n m a in
      let (g, h) = client-range (record { 0 = k }) b in
      head-fits n m k (omega arith) (omega arith) (omega arith)

  module _ (room : client_size ≤ length ws) where
    client_new_not : (r : ℕ) → client.valid_sizes n m && valid_client (record { 0 = k }) ≡ false → r ≡ code ParameterOutOfRange → ClientMade r ws
    unfolding client_new
    client_new_not r v c = rw (le-leb _ _ room, v) (c, refl)

    pub client_new-wide : (r : ℕ) (x : Bool) → x ≡ fits_head n m k → x ≡ false → r ≡ code ParameterOutOfRange → ClientMade r ws
    client_new-wide r x e u c =
        ⊎_elim
        (λ (v : client.valid_sizes n m && valid_client (record { 0 = k }) ≡ true). let z : true ≡ false = sym (client_sizes_small v) ∙ sym e ∙
        u in let y : ◌≡◌ {A = ℕ} 0 1 = cc in absurd (omega arith))
        (λ (v : client.valid_sizes n m && valid_client (record { 0 = k }) ≡ false). client_new_not r v c)
        (decided (client.valid_sizes n m && valid_client (record { 0 = k })))

    pub client_new-done : (x : ClientStepped) (r : ℕ) (ws' : List ℕ) → x ≡ client_calls.new_result n m (record { 0 = k })
        → r ≡ answer_code x.answer → ws' ≡ answer_record (client_words x.client) ws x.answer → ClientMade r ws'
    unfolding client_new client_calls.new_result
    client_new-done x r ws' e c p =
        ⊎_elim
        (λ (v : client.valid_sizes n m && valid_client (record { 0 = k }) ≡ true). rw (le-leb _ _ room, v) (rw (e, v) at c, rw (e, v) at p))
        (λ (v : client.valid_sizes n m && valid_client (record { 0 = k }) ≡ false). rw (le-leb _ _ room, v) (rw (e, v) at c, rw (e, v) at p))
        (decided (client.valid_sizes n m && valid_client (record { 0 = k })))

-- and so a new client's
pub client_new-whole : (n m : ℕ) (k : ClientId) (x : ClientStepped) → x ≡ client_calls.new_result n m k → length x.client.row ≡ client.row_words
unfolding client_calls.new_result client.store_in
client_new-whole n m k x e =
    ⊎_elim
    (λ (v : client.valid_sizes n m && valid_client k ≡ true).
    let (p, q) = both (client.valid_sizes n m) (valid_client k) v in
    let (a, b, c, d) = sizes_range n m p in
    rw (e, v) (length_row_of client.row_words (map place (replicate n None)) (simp (length-map, length-replicate) (omega arith))))
    (λ (v : client.valid_sizes n m && valid_client k ≡ false). rw (e, v))
    (decided (client.valid_sizes n m && valid_client k))
