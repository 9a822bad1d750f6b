-- A saved record that is not broken is taken over as the record of today that holds its state: valid, with the same view, and taken over once more as
-- it was. Its words are its head and its row, and its row is that of its queue or responses, in fewer words than today's.
use Prim.Native.Nat.{ℕ, ◌+◌, ◌*◌, ◌-◌, ◌≤◌}
use native.Mathlib.Omega.{arith}
use mathlib.Core.Path.{◌≡◌, refl, sym, ap, ◌∙◌}
use mathlib.Core.Bool.{Bool, true, false}
use mathlib.Core.List.{List, ◌++◌, append_assoc, append-nil, map}
use mathlib.Core.Logic.{⊎_elim}
use lib.ListN.{length, replicate, replicate-append-replicate, length-map}
use Rattle.std.specs.Prelude.{if◌then◌else◌, Some, None}
use Rattle.ids.specs.Limits.{max_servers, earlier_servers}
use Rattle.ids.specs.declared.Request.{Request}
use Rattle.ids.proofs.Choice.{both}
use Rattle.rows.specs.Rows.{row_of, request_words, Padded}
use Rattle.rows.proofs.QueueLaws.{length-queue}
use Rattle.rows.proofs.RowLaws.{row_kept, length_row_of}
use Rattle.server.specs.Record as server
use Rattle.server.specs.declared.Server.{Server}
use Rattle.server.proofs.RecordLaws as server_records
use Rattle.server.proofs.KeepsValid as server_laws
use Rattle.client_responses.specs.Row.{place}
use Rattle.client.specs.Record as client
use Rattle.client.specs.declared.Client.{Client}
use Rattle.client.proofs.RecordLaws as client_records
use Rattle.client.proofs.ValidLaws as client_valid
use Rattle.client.proofs.KeepsValid as client_laws
use Rattle.words.specs.Records.{server_size_of, client_size_of, server_size, client_size, holds_server_of, server_head_words, server_words, server_from, server_in, holds_client_of, client_head_words, client_words, client_from, client_in}
use Rattle.words.proofs.RecordsLaws.{server-row, client-row}
use Rattle.words.proofs.RoundTrip.{server_read_back, client_read_back, server_words-again, client_words-again}
use Rattle.saved.specs.Forms.{earlier_queue, earlier_responses, sound_server, sound_client, saved_server, saved_client, server_now, client_now, ordered_client, ordered, wider_client}
use Rattle.saved.specs.Taken.{server_today, client_today, saved_as, ServerTaken, ClientTaken}
use Rattle.saved.proofs.Ordered.{ordered_same}
use Rattle.saved.proofs.Limits.{server-below, client-below}
use Rattle.saved.proofs.FormLaws.{Saved, servers, clients, form, second-valid, first-now, second-now, now-long}

-- a saved server is valid as it stands, and its row is no longer than today's
pub record Fitting (ws : List ℕ) : Type 0 where
  pub sound : server.valid (server_from ws) ≡ true
  pub fewer : length (server_from ws).row ≤ server.row_words
  pub today : length (server_today (server_from ws)).row ≡ server.row_words

-- a row with more empty places is the row of the same requests
wider_row : (size k : ℕ) (l : List Request) → 2 * length l ≤ size → row_of size l ++ replicate k 0 ≡ row_of (size + k) l
unfolding row_of
wider_row size k l h =
    let z : size - 2 * length l + k ≡ size + k - 2 * length l = omega arith in
    append_assoc (request_words l) (replicate (size - 2 * length l) 0) (replicate k 0) ∙ rw (replicate-append-replicate, z)

-- words that are read as a record hold one
read-holds : {A : Type 0} (b : Bool) (x y : A) → (if b then Some x else None) ≡ Some y → (b ≡ true) × (x ≡ y)
read-holds true x y e = (refl, cc)
read-holds false x y e = (cc, cc)

-- words that are read as a valid record of today are sound
module _ (ws : List ℕ) where
  server_sound : (s : Server) → server_in ws ≡ Some s → server.valid s ≡ true → sound_server server.row_words max_servers ws ≡ true
  unfolding sound_server
  server_sound s r v =
      let (a, b) = read-holds (holds_server_of server.row_words ws) (server_from ws) s r in
      rw a (ap (λ (x : Server). server.valid x) b ∙ v)

  client_sound : (c : Client) → client_in ws ≡ Some c → client.valid c ≡ true → sound_client client.row_words max_servers ws ≡ true
  unfolding sound_client
  client_sound c r v =
      let (a, b) = read-holds (holds_client_of client.row_words ws) (client_from ws) c r in
      rw a (ap (λ (x : Client). client.valid x) b ∙ v)

-- and sound words of today's form are a saved record that stays as it is
again : (S : Saved) (ws : List ℕ) → S.sound S.today max_servers ws ≡ true → (S.valid ws ≡ true) × (S.now ws ≡ ws)
again S ws u = (second-valid S ws u, second-now S ws (S.long S.today max_servers ws u))

-- a server's record with a row of so many words, up to today's
module _ (row k limit : ℕ) (more : row + k ≡ server.row_words) (h : limit ≤ max_servers) (ws : List ℕ) (e : sound_server row limit ws ≡ true) where
  abbrev s : Server
  s = server_from ws

  held : holds_server_of row ws ≡ true
  unfolding sound_server
  held = (both (holds_server_of row ws) (server.valid_up_to limit s) e).0

  sound : server.valid s ≡ true
  unfolding sound_server
  sound = server-below limit max_servers h s (both (holds_server_of row ws) (server.valid_up_to limit s) e).1

  padded : Padded s.row s.head.votes.len
  padded = server_records.valid-padded max_servers s sound

  few : length (server.view s).queue ≡ s.head.votes.len
  few = length-queue s.row s.head.votes.len padded

  short : 2 * length (server.view s).queue ≤ row
  short = omega (arith, few, padded.within, padded.places.even, server-row row ws held)

  -- its row with empty places behind it is today's row of its queue
  wider : s.row ++ replicate k 0 ≡ row_of server.row_words (server.view s).queue
  wider =
      let r : s.row ≡ row_of row (server.view s).queue =
      sym (row_kept s.row s.head.votes.len padded) ∙ ap (λ (x : ℕ). row_of x (server.view s).queue) (server-row row ws held) in
      ap (λ (x : List ℕ). x ++ replicate k 0) r ∙ wider_row row k (server.view s).queue short ∙ ap (λ (x : ℕ). row_of x (server.view s).queue) more

  server-words : ws ++ replicate k 0 ≡ server_words (server_today s)
  unfolding server_words
  server-words =
      ap (λ (x : List ℕ). x ++ replicate k 0) (sym (server_words-again row ws held)) ∙
      append_assoc (server_head_words s.head) s.row (replicate k 0) ∙
      (λ i. server_head_words (record { n = s.head.n; id = s.head.id; votes = record { owner = s.head.votes.owner; len = sym few i } }) ++ wider i)

  server_valid : server.valid (server_today s) ≡ true
  server_valid =
      let (z, g) = server_laws.view-good max_servers s sound in
      server_laws.store-valid server.queue_places s.head.n s.head.id (server.view s) z (omega (arith, short, more)) g

  server-shows : server.view (server_today s) ≡ server.view s
  server-shows = server_records.view-store server.queue_places s.head.n s.head.id (server.view s) (omega (arith, short, more))

  server_read : server_in (ws ++ replicate k 0) ≡ Some (server_today s)
  server_read =
      rw server-words
      (server_read_back (server_today s) server_valid server.row_words (length_row_of server.row_words (server.view s).queue (omega (arith, short, more))))

  server_taken_as : server_now ws ≡ ws ++ replicate k 0 → ServerTaken ws
  server_taken_as now =
      let r : server_in (server_now ws) ≡ Some (server_today s) = rw now server_read in
      let (a, b) = again servers (server_now ws) (server_sound (server_now ws) (server_today s) r server_valid) in
      record { read = r; valid = server_valid; shows = server-shows; saved = a; again = b }

  server-fits : Fitting ws
  server-fits =
      record {
        sound = sound;
        fewer = omega (arith, server-row row ws held, more);
        today = length_row_of server.row_words (server.view s).queue (omega (arith, short, more));
      }

-- A SERVER'S RECORD, in one form or the other
pub server_taken_over : (ws : List ℕ) → saved_server ws ≡ true → ServerTaken ws
server_taken_over ws v =
    ⊎_elim
    (λ (f : (sound_server earlier_queue earlier_servers ws ≡ true) × (length ws ≡ server_size_of earlier_queue)).
    server_taken_as earlier_queue (server.row_words - earlier_queue) earlier_servers refl (omega arith) ws f.0 (first-now servers ws f.1))
    (λ (f : (sound_server server.row_words max_servers ws ≡ true) × (length ws ≡ server_size)).
    server_taken_as server.row_words 0 max_servers refl (omega arith) ws f.0 (second-now servers ws f.1 ∙ sym (append-nil ws)))
    (form servers ws v)

pub server_fitting : (ws : List ℕ) → saved_server ws ≡ true → Fitting ws
server_fitting ws v =
    ⊎_elim
    (λ (f : (sound_server earlier_queue earlier_servers ws ≡ true) × (length ws ≡ server_size_of earlier_queue)).
    server-fits earlier_queue (server.row_words - earlier_queue) earlier_servers refl (omega arith) ws f.0)
    (λ (f : (sound_server server.row_words max_servers ws ≡ true) × (length ws ≡ server_size)).
    server-fits server.row_words 0 max_servers refl (omega arith) ws f.0)
    (form servers ws v)

-- what is known of a client's words in today's order
record Renewed (ws : List ℕ) : Type 0 where
  read : client_in (wider_client ws) ≡ Some (client_today (client_from ws))
  valid : client.valid (client_today (client_from ws)) ≡ true
  shows : client.view (client_today (client_from ws)) ≡ client.view (client_from ws)

-- a client's record, in the same way
module _ (row k limit : ℕ) (more : row + k ≡ client.row_words) (h : limit ≤ max_servers) (ws : List ℕ) (e : sound_client row limit ws ≡ true) where
  abbrev c : Client
  c = client_from ws

  client_held_here : holds_client_of row ws ≡ true
  unfolding sound_client
  client_held_here = (both (holds_client_of row ws) (client.valid_up_to limit c) e).0

  client-good : client.valid c ≡ true
  unfolding sound_client
  client-good = client-below limit max_servers h c (both (holds_client_of row ws) (client.valid_up_to limit c) e).1

  abbrev places : List Request
  places = map place (client.view c).responses

  client-padded : Padded c.row c.head.n
  client-padded = client_valid.valid-padded c client-good

  fits : client_laws.Fits c.head.n c.head.m c.head.id (client.view c)
  fits = client_laws.view-fits c (client_valid.valid-known c client-good)

  client-few : length places ≡ c.head.n
  client-few = rw length-map fits.long

  client-short : 2 * c.head.n ≤ row
  client-short = omega (arith, client-padded.within, client-padded.places.even, client-row row ws client_held_here)

  client_wider : c.row ++ replicate k 0 ≡ row_of client.row_words places
  unfolding client.view
  client_wider =
      let r : c.row ≡ row_of row places =
      sym (client_records.row-again c.row c.head.n client-padded) ∙ ap (λ (x : ℕ). row_of x places) (client-row row ws client_held_here) in
      ap (λ (x : List ℕ). x ++ replicate k 0) r ∙ wider_row row k places (omega (arith, client-few, client-short)) ∙
      ap (λ (x : ℕ). row_of x places) more

  client-words : ws ++ replicate k 0 ≡ client_words (client_today c)
  unfolding client_words client.store_in client.view
  client-words =
      ap (λ (x : List ℕ). x ++ replicate k 0) (sym (client_words-again row ws client_held_here)) ∙
      append_assoc (client_head_words c.head) c.row (replicate k 0) ∙ ap (λ (x : List ℕ). client_head_words c.head ++ x) client_wider

  client_stays : client.valid (client_today c) ≡ true
  client_stays = client_laws.store-valid client.max_places c.head.n c.head.m c.head.id (client.view c) fits fits.ranges.few

  client-shows : client.view (client_today c) ≡ client.view c
  client-shows = client_laws.view-store client.max_places c.head.n c.head.m c.head.id (client.view c) fits fits.ranges.few

  client_read : client_in (ws ++ replicate k 0) ≡ Some (client_today c)
  unfolding client.store_in
  client_read =
      rw client-words
      (client_read_back (client_today c) client_stays client.row_words (length_row_of client.row_words places (omega (arith, client-few, client-short, more))))

  renewed_as : wider_client ws ≡ ws ++ replicate k 0 → Renewed ws
  renewed_as now = record { read = rw now client_read; valid = client_stays; shows = client-shows }

renewed : (ws : List ℕ) → ordered_client ws ≡ true → Renewed ws
renewed ws v =
    ⊎_elim
    (λ (f : (sound_client earlier_responses earlier_servers ws ≡ true) × (length ws ≡ client_size_of earlier_responses)).
    renewed_as earlier_responses (client.row_words - earlier_responses) earlier_servers refl (omega arith) ws f.0 (first-now clients ws f.1))
    (λ (f : (sound_client client.row_words max_servers ws ≡ true) × (length ws ≡ client_size)).
    renewed_as client.row_words 0 max_servers refl (omega arith) ws f.0 (second-now clients ws f.1 ∙ sym (append-nil ws)))
    (form clients ws v)

-- A CLIENT'S RECORD, in one of its forms
pub client_taken_over : (ws : List ℕ) → saved_client ws ≡ true → ClientTaken ws
client_taken_over ws v =
    let R = renewed (ordered ws) v in
    let o = ordered_same (client_now ws) (now-long clients (ordered ws) v) in
    let (a, b) = again clients (client_now ws) (client_sound (client_now ws) (client_today (saved_as ws)) R.read R.valid) in
    record {
      read = R.read;
      valid = R.valid;
      shows = R.shows;
      saved = ap (λ (l : List ℕ). ordered_client l) o ∙ a;
      again = ap (λ (l : List ℕ). wider_client l) o ∙ b;
    }

was_valid : (ws : List ℕ) → ordered_client ws ≡ true → client.valid (client_from ws) ≡ true
was_valid ws v =
    ⊎_elim
    (λ (f : (sound_client earlier_responses earlier_servers ws ≡ true) × (length ws ≡ client_size_of earlier_responses)).
    client-good earlier_responses (client.row_words - earlier_responses) earlier_servers refl (omega arith) ws f.0)
    (λ (f : (sound_client client.row_words max_servers ws ≡ true) × (length ws ≡ client_size)).
    client-good client.row_words 0 max_servers refl (omega arith) ws f.0)
    (form clients ws v)

pub client_was_valid : (ws : List ℕ) → saved_client ws ≡ true → client.valid (saved_as ws) ≡ true
client_was_valid ws v = was_valid (ordered ws) v

pub client_today-long : (ws : List ℕ) → saved_client ws ≡ true → length (client_today (saved_as ws)).row ≡ client.row_words
unfolding client.store_in
client_today-long ws v =
    let c = saved_as ws in
    let K = client_valid.valid-known c (client_was_valid ws v) in
    length_row_of client.row_words (map place (client.view c).responses) (rw (length-map, (client_laws.view-fits c K).long) (omega (arith, K.few)))
