-- The tests of a record's words, one after another; what a passed test tells of them; and a head read from its words and written in them.
use Rattle.ids.specs.declared.Request.{Request}
use Rattle.std.specs.Prelude.{Option}
use Prim.Native.Nat.{ℕ, ◌+◌, ◌≤◌, ◌<◌}
use native.Mathlib.Omega.{arith}
use mathlib.Core.Path.{◌≡◌, refl, sym, ◌∙◌}
use mathlib.Core.Bool.{Bool, true, false, ◌&&◌}
use mathlib.Core.List.{List, [], ◌∷◌}
use lib.Dec.{leb, eqb}
use lib.ListN.{length, get_or, set, drop, length-drop}
use lib.Seq.{sets}
use borrow.Author.Tests.{le-leb, lt-leb, leb-true, eqb-true}
use Rattle.ids.specs.Limits.{max_short}
use Rattle.ids.proofs.Choice.{both}
use Rattle.wire.specs.Format.{owner_of, owner_client, owner_timestamp}
use Rattle.wire.proofs.BytesLaws.{stored_on}
use Rattle.server.specs.declared.Head.{Head as ServerHead}
use Rattle.server.specs.declared.Server.{Server}
use Rattle.client.specs.declared.Head.{Head as ClientHead}
use Rattle.client.specs.declared.Client.{Client}
use Rattle.client_responses.specs.declared.Section.{Section}
use Rattle.words.specs.Records.{server_head, client_head, server_size_of, client_size_of, fits_head, head_fits, holds_server_of, holds_client_of, Headed, server_head_from, server_head_words, server_words, client_head_from, client_head_words, client_words, section_of, section_word}

module _ (a b c : ℕ) where
  pub head_1 : max_short < a → false ≡ fits_head a b c
  unfolding fits_head
  head_1 h = rw (lt-leb _ _ h)

  pub head_2 : a ≤ max_short → max_short < b → false ≡ fits_head a b c
  unfolding fits_head
  head_2 g h = rw (le-leb _ _ g, lt-leb _ _ h)

  pub head_3 : a ≤ max_short → b ≤ max_short → leb c max_short ≡ fits_head a b c
  unfolding fits_head
  head_3 g h = rw (le-leb _ _ g, le-leb _ _ h)

  pub head-fits : a ≤ max_short → b ≤ max_short → c ≤ max_short → fits_head a b c ≡ true
  head-fits f g h = sym (head_3 f g) ∙ le-leb _ _ h

  pub head_small : fits_head a b c ≡ true → (a ≤ max_short) × (b ≤ max_short) × (c ≤ max_short)
  unfolding fits_head
  head_small e =
      let (p, r) = both (leb a max_short) (leb b max_short && leb c max_short) e in
      let (q, s) = both (leb b max_short) (leb c max_short) r in
      (leb-true _ _ p, leb-true _ _ q, leb-true _ _ s)

-- a head and a row: so many words
module _ (head row : ℕ) (ws : List ℕ) where
  -- a word of the head can be read
  pub word-there : (x : Bool) → x ≡ eqb (length ws) (head + row) → (i : ℕ) → i < head → x ≡ true → i < length ws
  word-there x is i h n = omega (arith, h, eqb-true (length ws) (head + row) (sym is ∙ n))

module _ (row : ℕ) (ws : List ℕ) (x : Bool) where
  module _ (is : x ≡ eqb (length ws) (server_size_of row)) where
    pub server-length : x ≡ false → x ≡ holds_server_of row ws
    unfolding holds_server_of
    server-length n = rw (sym is ∙ n) n

    pub server-fits : (y : Bool) → x ≡ true → y ≡ head_fits ws → y ≡ holds_server_of row ws
    unfolding holds_server_of
    server-fits y n h = rw (sym is ∙ n) h

  module _ (is : x ≡ eqb (length ws) (client_size_of row)) where
    pub client-length : x ≡ false → false ≡ holds_client_of row ws
    unfolding holds_client_of
    client-length n = rw (sym is ∙ n)

    pub client-section : x ≡ true → 2 < get_or ws 3 0 → false ≡ holds_client_of row ws
    unfolding holds_client_of
    client-section n h = rw (sym is ∙ n, lt-leb _ _ h)

    pub client-fits : (y : Bool) → x ≡ true → get_or ws 3 0 ≤ 2 → y ≡ head_fits ws → y ≡ holds_client_of row ws
    unfolding holds_client_of
    client-fits y n g h = rw (sym is ∙ n, le-leb _ _ g) h

-- what a passed test tells: so many words, and a head can be read from them
pub record Held (head row : ℕ) (ws : List ℕ) : Type 0 where
  pub size : length ws ≡ head + row
  pub headed : Headed head ws

module _ (row : ℕ) (ws : List ℕ) where
  held : (head : ℕ) → eqb (length ws) (head + row) ≡ true → head_fits ws ≡ true → Held head row ws
  held head l f = let z = eqb-true (length ws) (head + row) l in record { size = z; headed = record { long = omega (arith, z); small = f } }

  pub server-held : holds_server_of row ws ≡ true → Held server_head row ws
  unfolding holds_server_of
  server-held e = let (l, f) = both (eqb (length ws) (server_size_of row)) (head_fits ws) e in held server_head l f

  pub client-held : holds_client_of row ws ≡ true → Held client_head row ws
  unfolding holds_client_of
  client-held e =
      let (l, r) = both (eqb (length ws) (client_size_of row)) (leb (get_or ws 3 0) 2 && head_fits ws) e in
      held client_head l (both (leb (get_or ws 3 0) 2) (head_fits ws) r).1

  -- the row behind the head
  pub server-row : holds_server_of row ws ≡ true → length (drop server_head ws) ≡ row
  server-row e = omega (arith, length-drop server_head ws, (server-held e).size)

  pub client-row : holds_client_of row ws ≡ true → length (drop client_head ws) ≡ row
  client-row e = omega (arith, length-drop client_head ws, (client-held e).size)

  pub client_section_small : holds_client_of row ws ≡ true → get_or ws 3 0 ≤ 2
  unfolding holds_client_of
  client_section_small e =
      let (l, r) = both (eqb (length ws) (client_size_of row)) (leb (get_or ws 3 0) 2 && head_fits ws) e in
      leb-true _ _ (both (leb (get_or ws 3 0) 2) (head_fits ws) r).0

module _ (ws : List ℕ) where
  -- each of the first three numbers fits its field
  pub headed-small : {head : ℕ} → Headed head ws → (get_or ws 0 0 ≤ max_short) × (get_or ws 1 0 ≤ max_short) × (get_or ws 2 0 ≤ max_short)
  headed-small H = head_small (get_or ws 0 0) (get_or ws 1 0) (get_or ws 2 0) H.small

  pub server-headed : (o : Option Request) → o ≡ owner_of (record { 0 = get_or ws 2 0 }) (record { 0 = get_or ws 3 0 })
      → record { n = get_or ws 0 0; id = record { 0 = get_or ws 1 0 }; votes = record { owner = o; len = get_or ws 4 0 } } ≡ server_head_from ws
  unfolding server_head_from
  server-headed o e = rw e

  pub client-headed : (s : Section) → s ≡ section_of (get_or ws 3 0)
      → record {
        n = get_or ws 0 0;
        m = get_or ws 1 0;
        id = record { 0 = get_or ws 2 0 };
        section = s;
        timestamp = record { 0 = get_or ws 4 0 };
        seen = record { 0 = get_or ws 5 0 };
      }
      ≡ client_head_from ws
  unfolding client_head_from
  client-headed s e = rw e

-- a head's words, from what the code computes of them
module _ (o a : List ℕ) where
  pub server_head-put : (h : ServerHead) (x y : ℕ) → x ≡ owner_client h.votes.owner → y ≡ owner_timestamp h.votes.owner
      → a ≡ sets o 0 (h.n ∷ h.id.0 ∷ x ∷ y ∷ h.votes.len ∷ []) → a ≡ sets o 0 (server_head_words h)
  unfolding server_head_words
  server_head-put h x y e f p = rw (← e, ← f) p

  pub client_head-put : (h : ClientHead) (x : ℕ) → x ≡ section_word h.section
      → a ≡ sets o 0 (h.n ∷ h.m ∷ h.id.0 ∷ x ∷ h.timestamp.0 ∷ []) → set a 5 h.seen.0 ≡ sets o 0 (client_head_words h)
  unfolding client_head_words
  client_head-put h x e p = rw (p, ← e)

-- a record's words from its head's and its row
module _ (o a b : List ℕ) where
  pub server-stored : (s : Server) → a ≡ sets o 0 (server_head_words s.head) → b ≡ sets a server_head s.row → b ≡ sets o 0 (server_words s)
  unfolding server_words server_head_words
  server-stored s p q = stored_on o a b (server_head_words s.head) s.row 0 server_head p q refl

  pub client-stored : (c : Client) → a ≡ sets o 0 (client_head_words c.head) → b ≡ sets a client_head c.row → b ≡ sets o 0 (client_words c)
  unfolding client_words client_head_words
  client-stored c p q = stored_on o a b (client_head_words c.head) c.row 0 client_head p q refl
