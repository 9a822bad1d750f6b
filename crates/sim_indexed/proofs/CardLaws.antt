-- The cards of messages in transit: a slot's words give its message's card, and each receiver that a system's message names has a place.
use Prim.Native.Nat.{ℕ, zero, suc, ◌+◌, ◌-◌, ◌*◌, ◌<◌, ◌≤◌}
use native.Mathlib.Omega.{arith}
use mathlib.Core.Path.{◌≡◌, refl, sym}
use mathlib.Core.Bool.{true}
use mathlib.Core.List.{List, [], ◌∷◌, map}
use lib.Dec.{eqb}
use lib.ListN.{length, get_or, take, drop}
use borrow.Author.Tests.{le-leb, lt-leb, lt-ltb}
use Rattle.std.specs.Prelude.{if◌then◌else◌}
use Rattle.ids.specs.Limits.{max_servers}
use Rattle.ids.proofs.LimitsLaws.{within-range}
use Rattle.wire.specs.Format.{known, fields_of, message_of}
use Rattle.wire.specs.declared.Fields.{Fields}
use Rattle.wire.specs.declared.Message.{Message}
use Rattle.wire.specs.declared.Message.TheVariants.{Request, Yield, Release, Inquiry, Response, Check}
use Rattle.wire.proofs.NumbersLaws.{fields_again}
use Rattle.system.specs.Limits.{system_servers, system_messages}
use Rattle.system.specs.Transit.{InTransit}
use Rattle.system.specs.Index.{receiver_of}
use Rattle.system.specs.declared.Receiver.{Receiver}
use Rattle.system.specs.declared.Receiver.TheVariants.{Client, Server}
use Rattle.system.proofs.Tokens.{All, empty, more}
use Rattle.sim_transit.specs.Slots.{transit_size, slot_size, slot_of, slot_at, slots, valid_slot, valid_slots}
use Rattle.sim_transit.specs.Calls.{Sized}
use Rattle.sim_transit.proofs.SlotLaws.{Seven, seven, slot_fitting, known-kind, row_seven, word_at}
use Rattle.sim_transit.proofs.ValidLaws.{slot_valid_at}
use Rattle.sim_transit.proofs.Kept.{Kept, Named, names-named, valid-kept, valid-sized}
use Rattle.sim_index.specs.Index.{receivers}
use Rattle.sim_index.proofs.Means.{Placed}
use Rattle.sim_indexed.specs.Indexed.{place_of, card_of}
use Rattle.sim_indexed.specs.Calls.{Few}
use Rattle.sim_indexed.specs.Inner.{place_by, Readable}

pub place-server : (kind client server : ℕ) → kind ≤ 4 → server - 1 ≡ place_by kind client server
unfolding place_by
place-server kind client server h = rw (le-leb kind 4 h)

pub place-client : (kind client server : ℕ) → 4 < kind → system_servers + (client - 1) ≡ place_by kind client server
unfolding place_by
place-client kind client server h = rw (lt-leb kind 4 h)

-- by its kind a message goes to its server or its client
receiver-place : (kind client server timestamp owner : ℕ) → known kind ≡ true
    → place_of (receiver_of (message_of (record { kind = kind; client = client; server = server; timestamp = timestamp; owner = owner })))
    ≡ place_by kind client server
unfolding message_of place_by
receiver-place zero k s t o h = absurd (omega (arith, within-range 0 6 h))
receiver-place (suc zero) k s t o h = refl
receiver-place (suc (suc zero)) k s t o h = refl
receiver-place (suc (suc (suc zero))) k s t o h = refl
receiver-place (suc (suc (suc (suc zero)))) k s t o h = refl
receiver-place (suc (suc (suc (suc (suc zero))))) k s t o h = refl
receiver-place (suc (suc (suc (suc (suc (suc zero)))))) k s t o h = refl
receiver-place (suc (suc (suc (suc (suc (suc (suc n))))))) k s t o h =
    absurd (omega (arith, within-range (suc (suc (suc (suc (suc (suc (suc n))))))) 6 h))

-- seven words that are a slot
module _ (n clients : ℕ) where
  card_words : {ws : List ℕ} → Seven ws → valid_slot n clients ws ≡ true
      → card_of (slot_of ws) ≡ record { place = place_by (get_or ws 2 0) (get_or ws 3 0) (get_or ws 4 0); number = get_or ws 0 0; mark = get_or ws 1 0 }
  unfolding slot_of
  card_words (seven a b c d e f g) h =
      let F = slot_fitting n clients (a ∷ (b ∷ (c ∷ (d ∷ (e ∷ (f ∷ (g ∷ []))))))) h in
      let p = receiver-place c d e f g (known-kind (record { kind = c; client = d; server = e; timestamp = f; owner = g }) F.range) in
      let m = flag b F.flag in
      λ i. record { place = p i; number = a; mark = m i }
    where
      flag : (b : ℕ) → b ≤ 1 → (if eqb b 1 then 1 else 0) ≡ b
      flag zero h = refl
      flag (suc zero) h = refl
      flag (suc (suc b)) h = absurd (omega arith)

  named-words : {ws : List ℕ} → Seven ws → valid_slot n clients ws ≡ true → (1 ≤ get_or ws 3 0) × (1 ≤ get_or ws 4 0)
  named-words (seven a b c d e f g) h =
      let F = slot_fitting n clients (a ∷ (b ∷ (c ∷ (d ∷ (e ∷ (f ∷ (g ∷ []))))))) h in
      let its : Fields = record { kind = c; client = d; server = e; timestamp = f; owner = g } in
      let N = names-named n clients (message_of its) F.named in
      let s : fields_of (message_of its) ≡ its = fields_again max_servers its F.range in
      let N' : Named n clients its = rw s at N in
      (N'.some_client, N'.some_server)

-- the words of slot i, as the code reads them
module _ (i : ℕ) (t : List ℕ) (R : Readable i t) where
  abbrev row : List ℕ
  row = take slot_size (drop (slot_size * i) t)

  its-sized : Sized R.len t
  its-sized = valid-sized R.n R.clients R.sent R.len t R.valid

  pub card_may : Readable i t × (length t ≡ transit_size) × (i < system_messages)
  card_may = (R, its-sized.size, omega (arith, its-sized.few, R.used))

  its_seven : Seven row
  its_seven = row_seven t i its-sized.size card_may.2

  its-slot : valid_slot R.n R.clients row ≡ true
  its-slot = slot_valid_at R.n R.clients R.sent R.len t R.valid i R.used

  pub read_named : (1 ≤ get_or t (slot_size * i + 3) 0) × (1 ≤ get_or t (slot_size * i + 4) 0)
  read_named = rw (← word_at t i 3 (omega arith), ← word_at t i 4 (omega arith)) (named-words R.n R.clients its_seven its-slot)

  pub card_read : (p : ℕ) → p ≡ place_by (get_or t (slot_size * i + 2) 0) (get_or t (slot_size * i + 3) 0) (get_or t (slot_size * i + 4) 0)
      → record { place = p; number = get_or t (slot_size * i) 0; mark = get_or t (slot_size * i + 1) 0 } ≡ card_of (slot_at t i)
  card_read p e =
      let z : slot_size * i + 0 ≡ slot_size * i = omega arith in
      let w : (k : ℕ) → k < slot_size → get_or row k 0 ≡ get_or t (slot_size * i + k) 0 = word_at t i in
      let c = card_words R.n R.clients its_seven its-slot in
      let c' = rw (w 0 (omega arith), w 1 (omega arith), w 2 (omega arith), w 3 (omega arith), w 4 (omega arith), z) at c in
      rw e (sym c')

-- a receiver that the setting has: each message's is one, and each has its place
abbrev pub Inside : ℕ → ℕ → Receiver → Type 0
Inside n clients (Client k) = (1 ≤ k.0) × (k.0 ≤ clients)
Inside n clients (Server j) = (1 ≤ j.0) × (j.0 ≤ n)

module _ (n clients : ℕ) where
  pub receiver-inside : (m : Message) → Named n clients (fields_of m) → Inside n clients (receiver_of m)
  unfolding fields_of
  receiver-inside (Request k j t) N = (N.some_server, N.server)
  receiver-inside (Yield k j t) N = (N.some_server, N.server)
  receiver-inside (Release k j t) N = (N.some_server, N.server)
  receiver-inside (Inquiry k j t) N = (N.some_server, N.server)
  receiver-inside (Response k j o) N = (N.some_client, N.client)
  receiver-inside (Check k j t) N = (N.some_client, N.client)

  place-within : (r : Receiver) → Few n clients → Inside n clients r → place_of r < receivers
  place-within (Client k) F (a, b) = omega (arith, F.few_clients, a, b)
  place-within (Server j) F (a, b) = omega (arith, F.few_servers, a, b)

pub kept-placed : (n clients sent : ℕ) (x : InTransit) → Few n clients → Kept n clients sent x → (card_of x).place < receivers
kept-placed n clients sent x F K =
    place-within n clients (receiver_of x.message) F (receiver-inside n clients x.message (names-named n clients x.message K.named))

all_placed : {n clients sent : ℕ} {l : List InTransit} → Few n clients → All (Kept n clients sent) l → Placed (map card_of l)
all_placed F empty = refl
all_placed {n} {clients} {sent} F (more {x = x} h g) = rw (lt-ltb (card_of x).place receivers (kept-placed n clients sent x F h)) (all_placed F g)

pub slots-placed : (n clients sent len : ℕ) (t : List ℕ) → Few n clients → valid_slots n clients sent len t ≡ true
    → Placed (map card_of (slots len t))
slots-placed n clients sent len t F ok = all_placed F (valid-kept n clients sent len t ok)
