-- The texts of a list, one element more; and what a valid simulation says of its blocks.
use mathlib.Core.Path.{◌≡◌, refl, sym, ap, ◌∙◌}
use Prim.Native.Nat.{ℕ, zero, suc, ◌+◌, ◌≤◌, ◌<◌}
use native.Mathlib.Omega.{arith}
use native.Mathlib.Numerals.{add-one}
use mathlib.Core.Logic.{◌⊎◌, inl, inr}
use mathlib.Core.Bool.{Bool, true, false}
use mathlib.Core.List.{List, [], ◌∷◌, ◌++◌, map, map-append, append_assoc}
use lib.ListN.{length, get_or, take, length-take, length-map}
use lib.Seq.{take-suc}
use Rattle.std.specs.Prelude.{if◌then◌else◌, Option}
use Rattle.ids.specs.Requests.{no_request, is_request}
use Rattle.ids.specs.declared.ClientId.{ClientId}
use Rattle.ids.specs.declared.ServerId.{ServerId}
use Rattle.ids.specs.declared.Request.{Request}
use Rattle.script_numbers.specs.Decimals.{decimal}
use Rattle.script_lines.specs.Words.{text}
use Rattle.rows.specs.Rows.{requests_in, queue_of, Padded}
use Rattle.client_responses.specs.Row.{shown, responses_in}
use Rattle.client.specs.Record as client
use Rattle.client.specs.Record.{client_of}
use Rattle.client.specs.declared.Head as client-head
use Rattle.client.proofs.ValidLaws.{valid-padded}
use Rattle.client_responses.specs.declared.Section.{Section}
use Rattle.client_responses.specs.declared.Section.TheVariants.{Remainder, Trying, Critical}
use Rattle.server.specs.Record as server
use Rattle.server.specs.Record.{server_of}
use Rattle.server.specs.declared.Head as server-head
use Rattle.server.proofs.RecordLaws.{server-padded}
use Rattle.words.specs.Records.{server_from, client_from}
use Rattle.sim_blocks.specs.Blocks.{client_record, server_record, client_place, server_place, holds_server_record, holds_client_record}
use Rattle.sim_blocks.proofs.Facts.{ClientBlock, client-facts, ServerBlock, server-facts}
use Rattle.sim_layout.specs.Layout.{setting_of, view}
use Rattle.sim_layout.specs.Parts.{client_block_of, server_block_of}
use Rattle.sim_changes.specs.Changes.{HasClient, HasServer}
use Rattle.sim_changes.proofs.Storing.{server-block, server-is, client-block, client-is}
use Rattle.system.specs.Places.{System, client_at, server_at}
use Rattle.text_sheet.specs.Sheet.{Sheet, puts, ends}
use Rattle.text_sheet.proofs.SheetLaws.{then as behind}
use Rattle.server_votes.specs.Queues as votes
use Rattle.text_knowledge.specs.Knowledge.{request_text, requests_text, queue_text, votes_text, server_text, support_text, supporters_text, state_text, client_text, servers_text, clients_text}
use Rattle.system.specs.Numbered.{client_no, server_no}

-- those who wait
requests-append : (a b : List Request) → requests_text (a ++ b) ≡ requests_text a ++ requests_text b
unfolding requests_text
requests-append [] b = refl
requests-append (r ∷ a) b = rw (requests-append a b, append_assoc (request_text r) (requests_text a) (requests_text b))

pub requests-none : (s : Sheet) → s ≡ puts (requests_text []) s
unfolding requests_text puts
requests-none s = refl

-- the requests in a row of which len are a queue
module _ (row : List ℕ) (len : ℕ) (p : Padded row len) where
  pub requests-more : (i : ℕ) → i < len → (s₀ : Sheet) {s₁ s₂ : Sheet} (q : Request) → q ≡ get_or (requests_in row) i no_request
      → s₁ ≡ puts (requests_text (queue_of row i)) s₀
      → s₂ ≡ puts (requests_text (q ∷ [])) s₁ → s₂ ≡ puts (requests_text (queue_of row (i + 1))) s₀
  requests-more i h s₀ q e f g =
      let l = requests_in row in
      rw (add-one i, take-suc l i no_request (omega (arith, p.within)), requests-append (take i l) (get_or l i no_request ∷ [])) (behind s₀ _ _ f (rw e at g))

pub queue-none : (row : List ℕ) (len : ℕ) → len ≡ 0 → queue_text (queue_of row len) ≡ []
unfolding queue_text
queue-none row len e = rw e

some_text : (l : List Request) (len : ℕ) → len ≤ length l → (len ≡ 0 → ⊥) → queue_text (take len l) ≡ text " line" ∷ requests_text (take len l)
unfolding queue_text
some_text [] len e h = absurd (h (omega arith))
some_text (r ∷ l) zero e h = absurd (h refl)
some_text (r ∷ l) (suc len) e h = refl

pub queue_some : (row : List ℕ) (len : ℕ) → Padded row len → (len ≡ 0 → ⊥) → queue_text (queue_of row len) ≡ text " line" ∷ requests_text (queue_of row len)
queue_some row len p h = some_text (requests_in row) len p.within h

-- the servers whose response is r
support_append : (r : Request) (j : ℕ) (a b : List (Option Request))
    → support_text r (server_no j) (a ++ b) ≡ support_text r (server_no j) a ++ support_text r (server_no (j + length a)) b
unfolding support_text
support_append r j [] b = let z : j + 0 ≡ j = omega arith in rw z
support_append r j (o ∷ a) b =
    let z : j + suc (length a) ≡ suc j + length a = omega arith in
    rw (
      support_append r (suc j) a b,
      z,
      append_assoc (if is_request r o then text " " ∷ decimal j ∷ [] else []) (support_text r (server_no (suc j)) a)
          (support_text r (server_no (suc j + length a)) b),
    )

pub support_none : (r : Request) (s : Sheet) → s ≡ puts (support_text r (server_no 1) []) s
unfolding support_text puts
support_none r s = refl

pub support_more : (r : Request) (row : List ℕ) (n : ℕ) → Padded row n → (i : ℕ) → i < n → (s₀ : Sheet) {s₁ s₂ : Sheet} (q : Request)
    → q ≡ get_or (requests_in row) i no_request
    → s₁ ≡ puts (support_text r (server_no 1) (responses_in row i)) s₀ → s₂ ≡ puts (support_text r (server_no (i + 1)) (shown q ∷ [])) s₁
    → s₂ ≡ puts (support_text r (server_no 1) (responses_in row (i + 1))) s₀
support_more r row n p i h s₀ q e f g =
    let l = requests_in row in
    let m : length (map shown (take i l)) ≡ i = length-map (take i l) shown ∙ (length-take i l ∙ omega (arith, p.within)) in
    let z : 1 + length (map shown (take i l)) ≡ i + 1 = omega (arith, m) in
    rw (
      add-one i,
      take-suc l i no_request (omega (arith, p.within)),
      map-append shown (take i l) (get_or l i no_request ∷ []),
      support_append r 1
          (map shown (take i l)) (shown (get_or l i no_request) ∷ []),
      z,
    ) (behind s₀ _ _ f (rw e at g))

module _ (r : Request) (j : ServerId) (q : Request) (b : Bool) (e : b ≡ is_request r (shown q)) where
  pub support_own : b ≡ true → support_text r j (shown q ∷ []) ≡ text " " ∷ decimal j.0 ∷ []
  unfolding support_text
  support_own h = rw (sym (sym h ∙ e))

  pub support_other : b ≡ false → support_text r j (shown q ∷ []) ≡ []
  unfolding support_text
  support_other h = rw (sym (sym h ∙ e))

-- the supporting servers, by the section
module _ (x : Section) (l : List (List ℕ)) (s₀ : Sheet) where
  pub supporters_none : x ≡ Remainder → s₀ ≡ puts (supporters_text x l) s₀
  unfolding puts
  supporters_none e = rw e

  pub supporters_some : {s₁ : Sheet} → s₁ ≡ puts (text " keepers" ∷ l) s₀ → (x ≡ Trying) ⊎ (x ≡ Critical) → s₁ ≡ puts (supporters_text x l) s₀
  supporters_some p (inl e) = rw e p
  supporters_some p (inr e) = rw e p

-- the places of a valid simulation, of which head and row were read
module _ (w : List ℕ) (j : ServerId) (H : HasServer w j) where
  its-facts : ServerBlock (setting_of w).n (setting_of w).clients j.0 (server_block_of w j)
  its-facts = server-facts (setting_of w).n (setting_of w).clients j.0 (server_block_of w j) (server-block w j.0 H)

  pub server-held : holds_server_record (server_record (server_block_of w j)) ≡ true
  server-held = its-facts.held

  module _ (h : server-head.Head) (row : List ℕ) (e : server_of h row ≡ server_from (server_record (server_block_of w j))) where
    pub queue-padded : Padded row h.votes.len
    queue-padded = server-padded (server_of h row) true (sym (rw e its-facts.valid)) refl

    pub server-text : (b : Bool) → b ≡ (server_place (server_block_of w j)).up
        → server_text j (server_at (view w) j) ≡ text "keeper " ∷ decimal j.0 ∷
        ((if b then votes_text (votes.view h.votes row) else text " down" ∷ []) ++ ends)
    unfolding server_text server_place
    server-text b f =
        let g : server.view (server_of h row) ≡ server.view (server_from (server_record (server_block_of w j))) = ap server.view e in
        rw (server-is w j.0 H, f, g)

module _ (w : List ℕ) (k : ClientId) (H : HasClient w k) where
  facts : ClientBlock (setting_of w).n (setting_of w).m (setting_of w).clients k.0 (client_block_of w k)
  facts = client-facts (setting_of w).n (setting_of w).m (setting_of w).clients k.0 (client_block_of w k) (client-block w k.0 H)

  pub client-held : holds_client_record (client_record (client_block_of w k)) ≡ true
  client-held = facts.held

  module _ (h : client-head.Head) (row : List ℕ) (e : client_of h row ≡ client_from (client_record (client_block_of w k))) where
    pub responses-padded : Padded row h.n
    responses-padded = valid-padded (client_of h row) (rw e facts.valid)

    pub client-text : (b : Bool) → b ≡ (client_place (client_block_of w k)).living
        → client_text k (client_at (view w) k) ≡ text "kiosk " ∷ decimal k.0 ∷
        ((if b then state_text k (client.view (client_of h row)) else text " fallen" ∷ []) ++ ends)
    unfolding client_text client_place
    client-text b f = rw (client-is w k.0 H, f, e)

-- places 1 to n, one place more
module _ (u : System) where
  pub servers-none : (s : Sheet) → s ≡ puts (servers_text u 0) s
  unfolding servers_text puts
  servers-none s = refl

  pub servers-more : (j : ℕ) (s₀ : Sheet) {s₁ s₂ : Sheet} → s₁ ≡ puts (servers_text u j) s₀
      → s₂ ≡ puts (server_text (server_no (j + 1)) (server_at u (server_no (j + 1)))) s₁
      → s₂ ≡ puts (servers_text u (j + 1)) s₀
  unfolding servers_text
  servers-more j s₀ p q = rw (add-one j) (behind s₀ _ _ p (rw (add-one j) at q))

  pub clients-none : (s : Sheet) → s ≡ puts (clients_text u 0) s
  unfolding clients_text puts
  clients-none s = refl

  pub clients-more : (k : ℕ) (s₀ : Sheet) {s₁ s₂ : Sheet} → s₁ ≡ puts (clients_text u k) s₀
      → s₂ ≡ puts (client_text (client_no (k + 1)) (client_at u (client_no (k + 1)))) s₁
      → s₂ ≡ puts (clients_text u (k + 1)) s₀
  unfolding clients_text
  clients-more k s₀ p q = rw (add-one k) (behind s₀ _ _ p (rw (add-one k) at q))
