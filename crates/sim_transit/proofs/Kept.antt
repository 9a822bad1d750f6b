-- What valid words say of the messages they hold, for the layer above.
use Prim.Native.Nat.{ℕ, zero, suc, ◌+◌, ◌-◌, ◌*◌, ◌<◌, ◌≤◌}
use native.Mathlib.Omega.{arith}
use mathlib.Core.Path.{◌≡◌, refl, ◌∙◌}
use mathlib.Core.Bool.{true, ◌&&◌}
use mathlib.Core.List.{List, [], ◌∷◌, ◌++◌}
use lib.Dec.{eqb, leb}
use lib.ListN.{length, take, drop, length-map}
use borrow.Author.Tests.{leb-true, le-leb}
use Rattle.ids.specs.Limits.{max_servers, within}
use Rattle.ids.proofs.Choice.{both}
use Rattle.ids.proofs.LimitsLaws.{within-range}
use Rattle.wire.specs.Format.{fields_of, valid}
use Rattle.wire.specs.declared.Fields.{Fields}
use Rattle.wire.specs.declared.Message.{Message}
use Rattle.wire.proofs.NumbersLaws.{fields_valid}
use Rattle.words.specs.Messages.{fields_from}
use Rattle.ids.specs.Lists.{every}
use Rattle.system.specs.Transit.{InTransit}
use Rattle.system.proofs.Tokens.{All, empty, more}
use Rattle.sim_transit.specs.Slots.{slot_of, slot_at, rows, slots, names, valid_slot, ascending, slot_size, transit_size}
use Rattle.sim_transit.specs.Calls.{Sized, Valid}
use Rattle.sim_transit.proofs.RowsLaws.{length-rows}
use Rattle.sim_transit.proofs.NumbersLaws.{rising, ascends_later}
use Rattle.sim_transit.proofs.SlotLaws.{slot_fitting, number_at}
use Rattle.sim_transit.proofs.ValidLaws.{known, known-valid, slots_around}
use Rattle.sim_transit.proofs.FindLaws.{valid-ordered}

-- a message in transit of a system with n servers and so many clients, that has sent `sent` messages
pub record Kept (n clients sent : ℕ) (x : InTransit) : Type 0 where
  pub range : valid x.message ≡ true
  pub named : names n clients x.message ≡ true
  pub first : 1 ≤ x.number
  pub last : x.number ≤ sent

-- whom a message names, by its numbers
pub record Named (n clients : ℕ) (f : Fields) : Type 0 where
  pub some_client : 1 ≤ f.client
  pub client : f.client ≤ clients
  pub some_server : 1 ≤ f.server
  pub server : f.server ≤ n
  pub owner : f.owner ≤ clients

module _ (n clients : ℕ) (m : Message) where
  pub names-named : names n clients m ≡ true → Named n clients (fields_of m)
  unfolding names
  names-named e =
      let f : Fields = fields_of m in
      let (a, r) = both (within f.client clients) (within f.server n && leb f.owner clients) e in
      let (b, c) = both (within f.server n) (leb f.owner clients) r in
      let (k, k') = within-range f.client clients a in
      let (j, j') = within-range f.server n b in
      record { some_client = k; client = k'; some_server = j; server = j'; owner = leb-true f.owner clients c }

  pub named-names : Named n clients (fields_of m) → names n clients m ≡ true
  unfolding names
  named-names d =
      let f : Fields = fields_of m in
      rw (
        le-leb 1 f.client d.some_client,
        le-leb f.client clients d.client,
        le-leb 1 f.server d.some_server,
        le-leb f.server n d.server,
        le-leb f.owner clients d.owner,
      )

row_kept : (n clients sent : ℕ) (ws : List ℕ) → valid_slot n clients ws ≡ true → 1 ≤ (slot_of ws).number → (slot_of ws).number ≤ sent
    → Kept n clients sent (slot_of ws)
unfolding slot_of
row_kept n clients sent ws v a b =
    let F = slot_fitting n clients ws v in
    record { range = fields_valid max_servers (fields_from (drop 2 ws)) F.range; named = F.named; first = a; last = b }

kept_from : (n clients sent last k : ℕ) (t : List ℕ) → every (valid_slot n clients) (rows k t) ≡ true
    → ascending last sent (slots k t) ≡ true → All (Kept n clients sent) (slots k t)
unfolding rows slots
kept_from n clients sent last zero t v e = empty
kept_from n clients sent last (suc k) t v e =
    let (a, b) = both (valid_slot n clients (take slot_size t)) (every (valid_slot n clients) (rows k (drop slot_size t))) v in
    let r = rising sent last (slot_of (take slot_size t)) (slots k (drop slot_size t)) e in
    more {x = slot_of (take slot_size t)} (row_kept n clients sent (take slot_size t) a (omega (arith, r.above)) r.sent_by)
    (kept_from n clients sent (slot_of (take slot_size t)).number k (drop slot_size t) b r.others)

all_middle : {P : InTransit → Type 0} (a : List InTransit) (x : InTransit) (b : List InTransit) → All P (a ++ x ∷ b) → P x
all_middle [] x b (more h g) = h
all_middle (y ∷ a) x b (more h g) = all_middle a x b g

pub length-slots : (len : ℕ) (t : List ℕ) → length (slots len t) ≡ len
unfolding slots
length-slots len t = length-map (rows len t) slot_of ∙ length-rows len t

-- no message is in transit
pub slots-none : (t : List ℕ) → slots 0 t ≡ []
unfolding slots rows
slots-none t = refl

-- words that are all 0
pub valid-none : (n clients sent : ℕ) (t : List ℕ) → length t ≡ transit_size → every (eqb 0) t ≡ true → Valid n clients sent 0 t
unfolding rows slots ascending
valid-none n clients sent t l z = known-valid n clients sent 0 t (record { size = l; few = omega arith; fit = refl; ordered = refl; rest = z })

module _ (n clients sent len : ℕ) (t : List ℕ) (ok : Valid n clients sent len t) where
  -- the calls' `requires`
  pub valid-sized : Sized len t
  valid-sized = let K = known n clients sent len t ok in record { size = K.size; few = K.few }

  pub valid-kept : All (Kept n clients sent) (slots len t)
  valid-kept = let K = known n clients sent len t ok in kept_from n clients sent 0 len t K.fit K.ordered

  pub slot_kept : (i : ℕ) → i < len → Kept n clients sent (slot_at t i)
  slot_kept i h =
      let z : i + suc (len - suc i) ≡ len = omega arith in
      let a : All (Kept n clients sent) (slots (i + suc (len - suc i)) t) = rw z valid-kept in
      all_middle (slots i t) (slot_at t i) (slots (len - suc i) (drop (slot_size * suc i) t)) (rw (slots_around i (len - suc i) t) at a)

  -- more messages were sent meanwhile
  pub valid-later : (sent' : ℕ) → sent ≤ sent' → Valid n clients sent' len t
  valid-later sent' h =
      let K = known n clients sent len t ok in
      known-valid n clients sent' len t
      (record { size = K.size; few = K.few; fit = K.fit; ordered = ascends_later sent sent' 0 (slots len t) h K.ordered; rest = K.rest })

  -- no number stands twice
  pub valid_unique : (i k : ℕ) → i < k → k < len → (slot_at t i).number < (slot_at t k).number
  valid_unique i k h g = omega (arith, valid-ordered n clients sent len t ok i k h g, number_at t i, number_at t k)
