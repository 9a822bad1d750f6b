-- What the code's tests of a block decide of its validity, one after another.
use Prim.Native.Nat.{ℕ, zero, suc, ◌+◌, ◌-◌, ◌*◌, ◌≤◌, ◌<◌}
use native.Mathlib.Omega.{arith}
use mathlib.Core.Path.{◌≡◌, refl, ap, ◌∙◌}
use mathlib.Core.Bool.{Bool, true, false, ◌&&◌, not}
use mathlib.Core.List.{List, [], ◌∷◌, map}
use mathlib.Core.Logic.{⊎_elim}
use lib.Dec.{eqb, leb}
use lib.ListN.{length, get_or, take, drop, length-drop}
use lib.Seq.{get_or-take, get_or-drop, take_all}
use borrow.Author.Tests.{le-leb, lt-leb, eq-eqb, ne_eqb, eqb-true}
use Rattle.ids.specs.Lists.{every}
use Rattle.ids.specs.Requests.{same, no_request}
use Rattle.ids.specs.declared.ClientId.{ClientId}
use Rattle.ids.specs.declared.ServerId.{ServerId}
use Rattle.ids.specs.declared.Request.{Request}
use Rattle.ids.proofs.Choice.{both, decided, holds, fails}
use Rattle.ids.proofs.RequestLaws.{same_true}
use Rattle.wire.specs.Format.{owner_of}
use Rattle.server_votes.specs.Figure1.{candidates}
use Rattle.server.specs.Record as server
use Rattle.server.specs.declared.Server.{Server}
use Rattle.client_responses.specs.Figure1.{is_remainder, is_critical}
use Rattle.client.specs.Record as client
use Rattle.client_responses.specs.Row.{shown}
use Rattle.client.specs.declared.Client.{Client}
use Rattle.client.specs.declared.Head.{Head as ClientHead}
use Rattle.server.specs.declared.Head.{Head as ServerHead}
use Rattle.words.specs.Records.{server_from, client_from, section_of, server_head, client_head, client_head_from, server_head_from}
use Rattle.words.proofs.RecordsLaws.{server-held, client-held, client-row}
use Rattle.system.specs.Places.{in_epoch, is_inside}
use Rattle.sim_blocks.proofs.Facts.{few_by_row}
use Rattle.sim_blocks.specs.Blocks.{client_record, flags, server_record, client_place, server_place, bit_word, zero_word, named, named_pair, fits_client, fits_flags, valid_client_block, fits_server, valid_server_block, client_block, server_block, holds_server_record, holds_client_record, client_record_size, server_record_size, response_words, queue_words}
use Rattle.system.specs.Limits.{system_servers}
use Rattle.rows.specs.Rows.{requests_in}
use Rattle.server.proofs.RecordLaws.{valid-padded}
use Rattle.ids.specs.Limits.{max_servers}

-- the living and the section
critical_word : (w : ℕ) → is_critical (section_of w) ≡ leb 2 w
critical_word zero = refl
critical_word (suc zero) = refl
critical_word (suc (suc w)) = rw (ne_eqb (suc (suc w)) 0 (λ h. omega arith), ne_eqb (suc (suc w)) 1 (λ h. omega arith), le-leb 2 (suc (suc w)) (omega arith))

remainder_word : (w : ℕ) → is_remainder (section_of w) ≡ eqb w 0
remainder_word zero = refl
remainder_word (suc zero) = refl
remainder_word (suc (suc w)) = rw (ne_eqb (suc (suc w)) 0 (λ h. omega arith), ne_eqb (suc (suc w)) 1 (λ h. omega arith))

module _ (b : List ℕ) where
  section-word : get_or (client_record b) 3 0 ≡ get_or b 4 0
  section-word = get_or-take client_record_size (drop 1 b) 3 0 (omega arith) ∙ get_or-drop 1 b 3 0

  pub living-word : eqb (get_or b 0 0) 1 ≡ (client_place b).living
  unfolding client_place
  living-word = refl

  pub up_word : eqb (get_or b 0 0) 1 ≡ (server_place b).up
  unfolding server_place
  up_word = refl

  pub fallen-outside : (get_or b 0 0 ≡ 1 → ⊥) → false ≡ is_inside (client_place b)
  unfolding client_place
  fallen-outside h = rw (ne_eqb (get_or b 0 0) 1 h)

  pub living-inside : get_or b 0 0 ≡ 1 → leb 2 (get_or b 4 0) ≡ is_inside (client_place b)
  unfolding client_place client.view client_head_from
  living-inside h = rw (h, section-word, critical_word (get_or b 4 0))

  pub fallen-out : (get_or b 0 0 ≡ 1 → ⊥) → false ≡ in_epoch (client_place b)
  unfolding client_place
  fallen-out h = rw (ne_eqb (get_or b 0 0) 1 h)

  pub living_epoch : get_or b 0 0 ≡ 1 → not (eqb (get_or b 4 0) 0) ≡ in_epoch (client_place b)
  unfolding client_place client.view client_head_from
  living_epoch h = rw (h, section-word, remainder_word (get_or b 4 0))

-- the flags
zero_word_lem : (x : ℕ) → leb x 0 ≡ eqb x 0
zero_word_lem zero = refl
zero_word_lem (suc x) = rw (ne_eqb (suc x) 0 (λ h. omega arith), lt-leb (suc x) 0 (omega arith))

zero_words : (l : List ℕ) → every (λ x. leb x 0) l ≡ every zero_word l
zero_words [] = refl
zero_words (x ∷ l) = rw (zero_word_lem x, zero_words l)

module _ (n : ℕ) (l : List ℕ) where
  module _ (r x : Bool) (p : x ≡ every (λ y. leb y 1) l) where
    pub flags_large : x ≡ false → false ≡ fits_flags n r l
    unfolding fits_flags
    flags_large t = rw (fails x (every bit_word l) p t)

    module _ (t : x ≡ true) (y : Bool) (q : y ≡ every (λ z. leb z 0) (drop n l)) where
      pub flags-behind : y ≡ false → false ≡ fits_flags n r l
      unfolding fits_flags
      flags-behind u = rw (holds x (every bit_word l) p t, fails y (every zero_word (drop n l)) (q ∙ zero_words (drop n l)) u)

      pub flags_epoch : y ≡ true → r ≡ true → true ≡ fits_flags n r l
      unfolding fits_flags
      flags_epoch u e = rw (holds x (every bit_word l) p t, holds y (every zero_word (drop n l)) (q ∙ zero_words (drop n l)) u, e)

      pub flags-outside : y ≡ true → r ≡ false → (z : Bool) → z ≡ every (λ w. leb w 0) l → z ≡ fits_flags n r l
      unfolding fits_flags
      flags-outside u e z w =
          rw (holds x (every bit_word l) p t, holds y (every zero_word (drop n l)) (q ∙ zero_words (drop n l)) u, e) (w ∙ zero_words l)

-- a client's record
named-places : (clients : ℕ) (l : List Request) → every (named clients) (map shown l) ≡ every (named_pair clients) l
named-places clients [] = refl
named-places clients (q ∷ l) =
    ⊎_elim
    (λ (t : same q no_request ≡ true). rw (t, same_true q no_request t, le-leb 0 clients (omega arith)) (named-places clients l))
    (λ (t : same q no_request ≡ false). rw (t, named-places clients l))
    (decided (same q no_request))

module _ (n m clients : ℕ) (k : ClientId) (ws : List ℕ) (c : Client) (e : c ≡ client_from ws) (x : Bool) (p : x ≡ client.valid c) where
  its-valid : x ≡ client.valid (client_from ws)
  its-valid = p ∙ ap client.valid e

  pub client_broken : x ≡ false → false ≡ fits_client n m clients k (client_from ws)
  unfolding fits_client
  client_broken t = rw (fails x (client.valid (client_from ws)) its-valid t)

  module _ (t : x ≡ true) where
    good : client.valid (client_from ws) ≡ true
    good = holds x (client.valid (client_from ws)) its-valid t

    pub servers_differ : (get_or ws 0 0 ≡ n → ⊥) → false ≡ fits_client n m clients k (client_from ws)
    unfolding fits_client client_head_from
    servers_differ h = rw (good, ne_eqb (get_or ws 0 0) n h)

    module _ (f : get_or ws 0 0 ≡ n) where
      pub servers-few : length (drop client_head ws) ≡ response_words → n ≤ system_servers
      unfolding client_head_from
      servers-few long = omega (arith, few_by_row (client_from ws) good long, f)

      pub threshold_differs : (get_or ws 1 0 ≡ m → ⊥) → false ≡ fits_client n m clients k (client_from ws)
      unfolding fits_client client_head_from
      threshold_differs h = rw (good, eq-eqb (get_or ws 0 0) n f, ne_eqb (get_or ws 1 0) m h)

      module _ (g : get_or ws 1 0 ≡ m) where
        pub number_differs : (get_or ws 2 0 ≡ k.0 → ⊥) → false ≡ fits_client n m clients k (client_from ws)
        unfolding fits_client client_head_from
        number_differs h = rw (good, eq-eqb (get_or ws 0 0) n f, eq-eqb (get_or ws 1 0) m g, ne_eqb (get_or ws 2 0) k.0 h)

        pub named_decides : get_or ws 2 0 ≡ k.0 → (y : Bool) → y ≡ every (named_pair clients) (take n (requests_in (drop client_head ws)))
            → y ≡ fits_client n m clients k (client_from ws)
        unfolding fits_client client_head_from client.view
        named_decides h y q =
            rw (
              good,
              eq-eqb (get_or ws 0 0) n f,
              eq-eqb (get_or ws 1 0) m g,
              eq-eqb (get_or ws 2 0) k.0 h,
              f,
              named-places clients (take n (requests_in (drop client_head ws))),
            ) q

-- a server's record
named-owner : (clients k t : ℕ) (l : List Request) → every (named_pair clients)
    (candidates (record { owner = owner_of (record { 0 = k }) (record { 0 = t }); queue = l })) ≡ leb k clients && every (named_pair clients)
    l
named-owner clients k t l =
    ⊎_elim
    (λ (e : eqb k 0 && eqb t 0 ≡ true).
    let z : k ≡ 0 = eqb-true k 0 (both (eqb k 0) (eqb t 0) e).0 in
    rw (e, le-leb k clients (omega arith)))
    (λ (e : eqb k 0 && eqb t 0 ≡ false). rw e)
    (decided (eqb k 0 && eqb t 0))

module _ (n clients : ℕ) (j : ServerId) (ws : List ℕ) (s : Server) (e : s ≡ server_from ws) (x : Bool) (p : x ≡ server.valid s) where
  pub server_broken : x ≡ false → false ≡ fits_server n clients j (server_from ws)
  unfolding fits_server
  server_broken t = rw (fails x (server.valid (server_from ws)) (p ∙ ap server.valid e) t)

  module _ (t : x ≡ true) where
    sound : server.valid (server_from ws) ≡ true
    sound = holds x (server.valid (server_from ws)) (p ∙ ap server.valid e) t

    pub length-fits : holds_server_record ws ≡ true → server_head + 2 * get_or ws 4 0 ≤ length ws
    unfolding server_head_from
    length-fits h = let P = valid-padded max_servers (server_from ws) sound in omega (
      arith,
      P.within,
      P.places.even,
      length-drop server_head ws,
      (server-held queue_words ws h).size,
    )

    pub server_count_differs : (get_or ws 0 0 ≡ n → ⊥) → false ≡ fits_server n clients j (server_from ws)
    unfolding fits_server server_head_from
    server_count_differs h = rw (sound, ne_eqb (get_or ws 0 0) n h)

    module _ (f : get_or ws 0 0 ≡ n) where
      pub server_number_differs : (get_or ws 1 0 ≡ j.0 → ⊥) → false ≡ fits_server n clients j (server_from ws)
      unfolding fits_server server_head_from
      server_number_differs h = rw (sound, eq-eqb (get_or ws 0 0) n f, ne_eqb (get_or ws 1 0) j.0 h)

      module _ (g : get_or ws 1 0 ≡ j.0) where
        abbrev queue : List Request
        queue = take (get_or ws 4 0) (requests_in (drop server_head ws))

        pub owner_unknown : clients < get_or ws 2 0 → false ≡ fits_server n clients j (server_from ws)
        unfolding fits_server server_head_from
        owner_unknown h =
            rw (
              sound,
              eq-eqb (get_or ws 0 0) n f,
              eq-eqb (get_or ws 1 0) j.0 g,
              named-owner clients (get_or ws 2 0) (get_or ws 3 0) queue,
              lt-leb (get_or ws 2 0) clients h,
            )

        pub queue_decides : get_or ws 2 0 ≤ clients → (y : Bool)
            → y ≡ every (named_pair clients) (take (get_or ws 4 0) (requests_in (drop server_head ws)))
            → y ≡ fits_server n clients j (server_from ws)
        unfolding fits_server server_head_from
        queue_decides h y q =
            rw (
              sound,
              eq-eqb (get_or ws 0 0) n f,
              eq-eqb (get_or ws 1 0) j.0 g,
              named-owner clients (get_or ws 2 0) (get_or ws 3 0) queue,
              le-leb (get_or ws 2 0) clients h,
            ) q

-- a whole block
pub few_servers : (n m clients : ℕ) (k : ClientId) (c : Client) → length c.row ≡ response_words → fits_client n m clients k c ≡ true → n ≤ system_servers
unfolding fits_client
few_servers n m clients k c long h =
    let (v, r) = both (client.valid c)
    (eqb c.head.n n && (eqb c.head.m m && (eqb c.head.id.0 k.0 && every (named clients) (client.view c).responses)))
    h in
    let e : c.head.n ≡ n = eqb-true c.head.n n
    (both (eqb c.head.n n) (eqb c.head.m m && (eqb c.head.id.0 k.0 && every (named clients) (client.view c).responses)) r).0 in
    omega (arith, few_by_row c v long)

module _ (n m clients : ℕ) (k : ClientId) (b : List ℕ) where
  module _ (x : Bool) (p : x ≡ fits_client n m clients k (client_from (client_record b))) where
    abbrev fits : Bool
    fits = fits_client n m clients k (client_from (client_record b)) && fits_flags n (in_epoch (client_place b)) (flags b)

    pub record_unfit : x ≡ false → false ≡ fits
    record_unfit t = rw (fails x (fits_client n m clients k (client_from (client_record b))) p t)

    pub record_few : holds_client_record (client_record b) ≡ true → x ≡ true → n ≤ system_servers
    record_few h t =
        few_servers n m clients k (client_from (client_record b)) (client-row response_words (client_record b) h)
        (holds x (fits_client n m clients k (client_from (client_record b))) p t)

    pub flags-decide : x ≡ true → (r : Bool) → r ≡ in_epoch (client_place b) → (y : Bool) → y ≡ fits_flags n r (flags b) → y ≡ fits
    flags-decide t r e y q = rw (holds x (fits_client n m clients k (client_from (client_record b))) p t) (q ∙ ap (λ (z : Bool). fits_flags n z (flags b)) e)

  pub client-size : (length b ≡ client_block → ⊥) → false ≡ valid_client_block n m clients k b
  unfolding valid_client_block
  client-size h = rw (ne_eqb (length b) client_block h)

  module _ (l : length b ≡ client_block) where
    pub client-bit : 1 < get_or b 0 0 → false ≡ valid_client_block n m clients k b
    unfolding valid_client_block
    client-bit h = rw (l, lt-leb (get_or b 0 0) 1 h)

    module _ (h : get_or b 0 0 ≤ 1) (x : Bool) (p : x ≡ holds_client_record (client_record b)) where
      pub client-wide : x ≡ false → false ≡ valid_client_block n m clients k b
      unfolding valid_client_block
      client-wide t = rw (l, le-leb (get_or b 0 0) 1 h, fails x (holds_client_record (client_record b)) p t)

      pub client-decided : x ≡ true → (y : Bool)
          → y ≡ fits_client n m clients k (client_from (client_record b)) && fits_flags n (in_epoch (client_place b)) (flags b)
          → y ≡ valid_client_block n m clients k b
      unfolding valid_client_block
      client-decided t y q = rw (l, le-leb (get_or b 0 0) 1 h, holds x (holds_client_record (client_record b)) p t) q

module _ (n clients : ℕ) (j : ServerId) (b : List ℕ) where
  pub server-size : (length b ≡ server_block → ⊥) → false ≡ valid_server_block n clients j b
  unfolding valid_server_block
  server-size h = rw (ne_eqb (length b) server_block h)

  module _ (l : length b ≡ server_block) where
    pub server-bit : 1 < get_or b 0 0 → false ≡ valid_server_block n clients j b
    unfolding valid_server_block
    server-bit h = rw (l, lt-leb (get_or b 0 0) 1 h)

    module _ (h : get_or b 0 0 ≤ 1) (x : Bool) (p : x ≡ holds_server_record (server_record b)) where
      pub server-wide : x ≡ false → false ≡ valid_server_block n clients j b
      unfolding valid_server_block
      server-wide t = rw (l, le-leb (get_or b 0 0) 1 h, fails x (holds_server_record (server_record b)) p t)

      pub server-decided : x ≡ true → (y : Bool) → y ≡ fits_server n clients j (server_from (server_record b)) → y ≡ valid_server_block n clients j b
      unfolding valid_server_block
      server-decided t y q = rw (l, le-leb (get_or b 0 0) 1 h, holds x (holds_server_record (server_record b)) p t) q

-- the record that was read and lent is the record in the words
pub client-lent : (ws : List ℕ) (h : ClientHead) → holds_client_record ws ≡ true → h ≡ client_head_from ws
    → client.client_of h (take (client_record_size - client_head) (drop client_head ws)) ≡ client_from ws
client-lent ws h held e = rw (e, take_all (client_record_size - client_head) (drop client_head ws) (omega (arith, length-drop client_head ws, (client-held response_words ws held).size)))

pub server-lent : (ws : List ℕ) (h : ServerHead) → holds_server_record ws ≡ true → h ≡ server_head_from ws
    → server.server_of h (take (server_record_size - server_head) (drop server_head ws)) ≡ server_from ws
server-lent ws h held e = rw (e, take_all (server_record_size - server_head) (drop server_head ws) (omega (arith, length-drop server_head ws, (server-held queue_words ws held).size)))
