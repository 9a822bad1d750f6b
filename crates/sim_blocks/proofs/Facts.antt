-- What a valid block is known to be, and back.
use Prim.Native.Nat.{ℕ, ◌≤◌}
use mathlib.Core.Path.{◌≡◌, ap, subst}
use mathlib.Core.Bool.{true, false, ◌||◌}
use mathlib.Core.List.{List}
use lib.Dec.{eqb}
use native.Mathlib.Omega.{arith}
use lib.ListN.{length, get_or, drop}
use borrow.Author.Tests.{eqb-true, eq-eqb, leb-true, le-leb}
use Rattle.ids.specs.Lists.{every}
use Rattle.ids.specs.declared.ClientId.{ClientId}
use Rattle.ids.specs.declared.ServerId.{ServerId}
use Rattle.ids.proofs.Choice.{both}
use Rattle.server_votes.specs.Figure1.{candidates}
use Rattle.server.specs.Record as server
use Rattle.server.specs.declared.Server.{Server}
use Rattle.server.proofs.KeepsValid.{Good, view-good}
use Rattle.client.specs.Record as client
use Rattle.client_responses.specs.Figure1.{State}
use Rattle.client.specs.declared.Client.{Client}
use Rattle.client.proofs.KeepsValid.{Fits, view-fits}
use Rattle.client.proofs.ValidLaws.{valid-known, valid-padded}
use Rattle.words.specs.Records.{server_from, client_from}
use Rattle.words.proofs.RecordsLaws.{client-row}
use Rattle.system.specs.Places.{in_epoch}
use Rattle.sim_blocks.specs.Blocks.{response_words, client_record, flags, server_record, client_place, server_place, bit_word, zero_word, named, named_pair, fits_client, fits_flags, valid_client_block, fits_server, valid_server_block, client_block, server_block, holds_server_record, holds_client_record}
use Rattle.system.specs.Limits.{system_servers}
use Rattle.system.specs.Numbered.{client_no, server_no}
use Rattle.ids.specs.Limits.{max_servers}

-- block k of a client
pub record ClientBlock (n m clients k : ℕ) (b : List ℕ) : Type 0 where
  pub size : length b ≡ client_block
  pub bit : get_or b 0 0 ≤ 1
  pub held : holds_client_record (client_record b) ≡ true
  pub valid : client.valid (client_from (client_record b)) ≡ true
  pub servers : (client_from (client_record b)).head.n ≡ n
  pub threshold : (client_from (client_record b)).head.m ≡ m
  pub number : (client_from (client_record b)).head.id ≡ record { 0 = k }
  pub names : every (named clients) (client_place b).state.responses ≡ true
  pub bits : every bit_word (flags b) ≡ true
  pub behind : every zero_word (drop n (flags b)) ≡ true
  pub outside : in_epoch (client_place b) || every zero_word (flags b) ≡ true

number_is : (k : ClientId) (i : ℕ) → eqb k.0 i ≡ true → k ≡ record { 0 = i }
number_is k i h = let e : k.0 ≡ i = eqb-true k.0 i h in λ j. record { 0 = e j }

server-is : (k : ServerId) (i : ℕ) → eqb k.0 i ≡ true → k ≡ record { 0 = i }
server-is k i h = let e : k.0 ≡ i = eqb-true k.0 i h in λ j. record { 0 = e j }

fits_as : {n n' m m' : ℕ} {k k' : ClientId} {s : State} → n ≡ n' → m ≡ m' → k ≡ k' → Fits n m k s → Fits n' m' k' s
fits_as {n} {n'} {m} {m'} {k} {k'} {s} p q r F =
    subst (λ (x : ClientId). Fits n' m' x s) r (subst (λ (x : ℕ). Fits n' x k s) q (subst (λ (x : ℕ). Fits x m k s) p F))

-- a valid record has a place for each of its servers
pub few_by_row : (c : Client) → client.valid c ≡ true → length c.row ≡ response_words → c.head.n ≤ system_servers
few_by_row c v long = let P = valid-padded c v in omega (arith, long, P.within, P.places.even)

module _ (n m clients k : ℕ) (b : List ℕ) where
  abbrev its : Client
  its = client_from (client_record b)

  pub client-facts : valid_client_block n m clients (client_no k) b ≡ true → ClientBlock n m clients k b
  unfolding valid_client_block fits_client fits_flags client_place
  client-facts h =
      let (a, h₁) = both _ _ h in
      let (x, h₂) = both _ _ h₁ in
      let (w, h₃) = both _ _ h₂ in
      let (c, f) = both _ _ h₃ in
      let (v, c₁) = both (client.valid its) _ c in
      let (p, c₂) = both (eqb its.head.n n) _ c₁ in
      let (q, c₃) = both (eqb its.head.m m) _ c₂ in
      let (r, s) = both (eqb its.head.id.0 k) _ c₃ in
      let (t, f₁) = both _ _ f in
      let (u, z) = both _ _ f₁ in
      record {
        size = eqb-true _ _ a;
        bit = leb-true _ _ x;
        held = w;
        valid = v;
        servers = eqb-true _ _ p;
        threshold = eqb-true _ _ q;
        number = number_is its.head.id k r;
        names = s;
        bits = t;
        behind = u;
        outside = z;
      }

  module _ (B : ClientBlock n m clients k b) where
    pub client-block : valid_client_block n m clients (client_no k) b ≡ true
    unfolding valid_client_block fits_client fits_flags client_place
    client-block =
        rw (
          eq-eqb _ _ B.size,
          le-leb _ _ B.bit,
          B.held,
          B.valid,
          eq-eqb _ _ B.servers,
          eq-eqb _ _ B.threshold,
          eq-eqb _ _ (ap (λ (i : ClientId). i.0) B.number),
          B.names,
          B.bits,
          B.behind,
          B.outside,
        )

    -- its state fits its numbers
    pub client-fits : Fits n m (record { 0 = k }) (client_place b).state
    unfolding client_place
    client-fits = fits_as B.servers B.threshold B.number (view-fits its (valid-known its B.valid))

    pub client-few : n ≤ system_servers
    client-few = omega (arith, few_by_row its B.valid (client-row response_words (client_record b) B.held), B.servers)

    pub outside_clear : in_epoch (client_place b) ≡ false → every zero_word (flags b) ≡ true
    outside_clear h = rw h at B.outside

-- block j of a server
pub record ServerBlock (n clients j : ℕ) (b : List ℕ) : Type 0 where
  pub size : length b ≡ server_block
  pub bit : get_or b 0 0 ≤ 1
  pub held : holds_server_record (server_record b) ≡ true
  pub valid : server.valid (server_from (server_record b)) ≡ true
  pub servers : (server_from (server_record b)).head.n ≡ n
  pub number : (server_from (server_record b)).head.id ≡ record { 0 = j }
  pub names : every (named_pair clients) (candidates (server_place b).state) ≡ true

module _ (n clients j : ℕ) (b : List ℕ) where
  abbrev own : Server
  own = server_from (server_record b)

  pub server-facts : valid_server_block n clients (server_no j) b ≡ true → ServerBlock n clients j b
  unfolding valid_server_block fits_server server_place
  server-facts h =
      let (a, h₁) = both _ _ h in
      let (x, h₂) = both _ _ h₁ in
      let (w, c) = both _ _ h₂ in
      let (v, c₁) = both (server.valid own) _ c in
      let (p, c₂) = both (eqb own.head.n n) _ c₁ in
      let (q, r) = both (eqb own.head.id.0 j) _ c₂ in
      record {
        size = eqb-true _ _ a;
        bit = leb-true _ _ x;
        held = w;
        valid = v;
        servers = eqb-true _ _ p;
        number = server-is own.head.id j q;
        names = r;
      }

  module _ (B : ServerBlock n clients j b) where
    pub server-block : valid_server_block n clients (server_no j) b ≡ true
    unfolding valid_server_block fits_server server_place
    server-block =
        rw (
          eq-eqb _ _ B.size,
          le-leb _ _ B.bit,
          B.held,
          B.valid,
          eq-eqb _ _ B.servers,
          eq-eqb _ _ (ap (λ (i : ServerId). i.0) B.number),
          B.names,
        )

    -- its numbers are in range, and its state is good
    pub server_sizes : server.valid_sizes n (record { 0 = j }) ≡ true
    server_sizes = rw (B.servers, B.number) at (view-good max_servers own B.valid).0

    pub server-good : Good (server_place b).state
    unfolding server_place
    server-good = (view-good max_servers own B.valid).1
