-- The words of a valid record are read back as that record, and words that hold a record are the words of the record read from them: what a
-- record is says every word.
use Rattle.ids.specs.declared.Request.{Request}
use Rattle.std.specs.Prelude.{Some, None, Option}
use Prim.Native.Nat.{ℕ, zero, suc, ◌≤◌}
use native.Mathlib.Omega.{arith}
use mathlib.Core.Path.{◌≡◌, refl, sym, ap, ◌∙◌}
use mathlib.Core.Bool.{true}
use mathlib.Core.List.{List, [], ◌∷◌}
use lib.Dec.{leb}
use lib.ListN.{length, get_or, drop}
use lib.Seq.{drop-cons}
use borrow.Author.Tests.{eq-eqb}
use Rattle.ids.specs.Limits.{within, max_servers, valid_owner, max_short}
use Rattle.ids.proofs.Choice.{both}
use Rattle.ids.proofs.LimitsLaws.{within-range, client-range, request-range}
use Rattle.wire.specs.Format.{owner_client}
use Rattle.wire.proofs.NumbersLaws.{owner-again, owner-numbers}
use Rattle.server.specs.Record as server
use Rattle.server.specs.declared.Server.{Server}
use Rattle.server.proofs.KeepsValid.{view-good}
use Rattle.client.specs.Record as client
use Rattle.client.specs.declared.Client.{Client}
use Rattle.client.proofs.ValidLaws.{valid-known}
use Rattle.client_responses.specs.declared.Section.{Section}
use Rattle.client_responses.specs.declared.Section.TheVariants.{Remainder, Trying, Critical}
use Rattle.words.specs.Records.{server_head, client_head, server_size_of, client_size_of, fits_head, holds_server_of, holds_client_of, server_head_words, server_words, server_head_from, server_from, server_in_of, client_head_words, client_words, client_head_from, client_from, client_in_of, section_of, section_word}
use Rattle.words.proofs.RecordsLaws.{head-fits, server-held, client-held, client_section_small}

owner-small : (o : Option Request) → valid_owner o ≡ true → owner_client o ≤ max_short
unfolding valid_owner
owner-small None v = omega arith
owner-small (Some q) v = (client-range q.client (request-range q v).0).1

-- a server's record
module _ (s : Server) (v : server.valid s ≡ true) where
  server_head-fits : fits_head s.head.n s.head.id.0 (owner_client s.head.votes.owner) ≡ true
  server_head-fits =
      let (a, b) = both (within s.head.n max_servers) (within s.head.id.0 s.head.n) (view-good max_servers s v).0 in
      let (l, h) = within-range s.head.n max_servers a in
      let (k, m) = within-range s.head.id.0 s.head.n b in
      head-fits s.head.n s.head.id.0 (owner_client s.head.votes.owner) (omega arith) (omega arith)
      (owner-small s.head.votes.owner (view-good max_servers s v).1.owner)

  pub server_read_back : (row : ℕ) → length s.row ≡ row → server_in_of row (server_words s) ≡ Some s
  unfolding holds_server_of server_head_from server_head_words server_words
  server_read_back row long =
      let size : length (server_words s) ≡ server_size_of row = omega (arith, long) in
      rw (eq-eqb (length (server_words s)) (server_size_of row) size, server_head-fits, owner-again s.head.votes.owner (view-good max_servers s v).1.owner)

-- a client's record
sections : (s : Section) → section_of (section_word s) ≡ s
sections Remainder = refl
sections Trying = refl
sections Critical = refl

section-small : (s : Section) → leb (section_word s) 2 ≡ true
section-small Remainder = refl
section-small Trying = refl
section-small Critical = refl

module _ (c : Client) (v : client.valid c ≡ true) where
  client_head-fits : fits_head c.head.n c.head.m c.head.id.0 ≡ true
  client_head-fits =
      let K = valid-known c v in
      let r = client-range c.head.id K.client in
      head-fits c.head.n c.head.m c.head.id.0 (omega (arith, K.few)) (omega (arith, K.few, K.reached)) r.1

  pub client_read_back : (row : ℕ) → length c.row ≡ row → client_in_of row (client_words c) ≡ Some c
  unfolding holds_client_of client_head_from client_head_words client_words
  client_read_back row long =
      let size : length (client_words c) ≡ client_size_of row = omega (arith, long) in
      rw (eq-eqb (length (client_words c)) (client_size_of row) size, section-small c.head.section, client_head-fits, sections c.head.section)

-- words that begin with a head are its words and the rest
first_five : (ws : List ℕ) → server_head ≤ length ws
    → get_or ws 0 0 ∷ (get_or ws 1 0 ∷ (get_or ws 2 0 ∷ (get_or ws 3 0 ∷ (get_or ws 4 0 ∷ drop server_head ws)))) ≡ ws
first_five (a ∷ (b ∷ (c ∷ (d ∷ (e ∷ ws))))) h = refl
first_five (a ∷ (b ∷ (c ∷ (d ∷ [])))) h = absurd (omega arith)
first_five (a ∷ (b ∷ (c ∷ []))) h = absurd (omega arith)
first_five (a ∷ (b ∷ [])) h = absurd (omega arith)
first_five (a ∷ []) h = absurd (omega arith)
first_five [] h = absurd (omega arith)

first_six : (ws : List ℕ) → client_head ≤ length ws
    → get_or ws 0 0 ∷ (get_or ws 1 0 ∷ (get_or ws 2 0 ∷ (get_or ws 3 0 ∷ (get_or ws 4 0 ∷ (get_or ws 5 0 ∷ drop client_head ws))))) ≡ ws
first_six ws h = ap (λ (l : List ℕ). get_or ws 0 0 ∷ (get_or ws 1 0 ∷ (get_or ws 2 0 ∷ (get_or ws 3 0 ∷ (get_or ws 4 0 ∷ l))))) (next ws h) ∙ first_five ws (omega (arith, h))
  where
    next : (ws : List ℕ) → client_head ≤ length ws → get_or ws 5 0 ∷ drop client_head ws ≡ drop server_head ws
    next ws h = sym (drop-cons ws server_head 0 h)

pub server_words-again : (row : ℕ) (ws : List ℕ) → holds_server_of row ws ≡ true → server_words (server_from ws) ≡ ws
unfolding server_head_from server_head_words server_words
server_words-again row ws e =
    let (c, t) = owner-numbers (get_or ws 2 0) (get_or ws 3 0) _ refl in
    rw (c, t) (first_five ws (server-held row ws e).headed.long)

section-again : (x : ℕ) → x ≤ 2 → section_word (section_of x) ≡ x
section-again zero h = refl
section-again (suc zero) h = refl
section-again (suc (suc zero)) h = refl
section-again (suc (suc (suc x))) h = absurd (omega arith)

pub client_words-again : (row : ℕ) (ws : List ℕ) → holds_client_of row ws ≡ true → client_words (client_from ws) ≡ ws
unfolding client_head_from client_head_words client_words
client_words-again row ws e =
    rw (section-again (get_or ws 3 0) (client_section_small row ws e)) (first_six ws (client-held row ws e).headed.long)
