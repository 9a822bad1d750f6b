-- What other crates ask of a valid simulation: its words are all there, its counts are in range, and the slots that are lent are its messages in transit.
use Prim.Native.Nat.{ℕ, ◌<◌, ◌≤◌}
use native.Mathlib.Omega.{arith}
use mathlib.Core.Path.{◌≡◌, refl, sym, ◌∙◌}
use mathlib.Core.Bool.{Bool, true}
use mathlib.Core.List.{List, map}
use lib.ListN.{length, get_or, take, drop}
use lib.Seq.{take-take}
use Rattle.ids.proofs.LimitsLaws.{within-range}
use Rattle.client_responses.specs.Figure1.{count}
use Rattle.wire.specs.declared.Message.{Message}
use Rattle.system.specs.Limits.{system_clients, system_servers, system_messages}
use Rattle.system.specs.Places.{is_inside, holders}
use Rattle.sim_blocks.specs.Regions.{blocks}
use Rattle.sim_blocks.specs.Blocks.{client_block, client_place}
use Rattle.quorum.proofs.CheckLaws.{range}
use Rattle.sim_transit.specs.Slots.{slot_at, slots, transit_size, valid_slots}
use Rattle.sim_transit.specs.Calls.{Sized, Ordered, first_slot, message_at}
use Rattle.sim_indexed.specs.Indexed.{indexed_size, table, slot_in}
use Rattle.sim_indexed.proofs.IndexedLaws.{parts}
use Rattle.sim_transit.proofs.FindLaws.{valid-ordered}
use Rattle.sim_transit.proofs.Kept.{valid-sized}
use Rattle.sim_transit.proofs.ValidLaws.{message-found}
use Rattle.system.specs.Transit.{InTransit}
use Rattle.sim_layout.specs.Layout.{simulation_size, transit_from, setting_of, length_of, sent_of, client_words, transit_words, view, valid}
use Rattle.sim_layout.proofs.ValidLaws.{facts}

-- the words of the head
pub servers-word : (w : List ℕ) → get_or w 0 0 ≡ (setting_of w).n
unfolding setting_of
servers-word w = refl

pub clients-word : (w : List ℕ) → get_or w 3 0 ≡ (setting_of w).clients
unfolding setting_of
clients-word w = refl

pub most-word : (w : List ℕ) → get_or w 6 0 ≡ (view w).most
unfolding view
most-word w = refl

pub sent_word : (w : List ℕ) → get_or w 5 0 ≡ (view w).sent
unfolding view
sent_word w = refl

-- those counted inside among the clients are the system's holders
pub holders-counted : (w : List ℕ) (r clients : ℕ) → clients ≡ (setting_of w).clients
    → r ≡ count (map is_inside (blocks client_block client_place clients (client_words w))) → r ≡ holders (view w)
unfolding view
holders-counted w r clients e p = rw e at p

-- the table is lent without the index behind it
lent-table : (w : List ℕ) → take transit_size (drop transit_from w) ≡ table (transit_words w)
unfolding transit_words
lent-table w = sym (take-take transit_size indexed_size (drop transit_from w) (omega arith))

module _ (w : List ℕ) (ok : valid w ≡ true) where
  pub words_long : length w ≡ simulation_size
  words_long = (facts w ok).long

  pub few_servers : (setting_of w).n ≤ system_servers
  few_servers = (range system_servers (setting_of w).n (setting_of w).m (setting_of w).f (facts w ok).range).servers

  pub few_clients : (setting_of w).clients ≤ system_clients
  few_clients = (within-range (setting_of w).clients system_clients (facts w ok).some).1

  -- the messages in transit, as they are lent
  its-slots : valid_slots (setting_of w).n (setting_of w).clients (sent_of w) (length_of w) (table (transit_words w)) ≡ true
  its-slots = (parts (setting_of w).n (setting_of w).clients (sent_of w) (length_of w) (transit_words w) (facts w ok).transit).fit

  pub lent-sized : Sized (length_of w) (take transit_size (drop transit_from w))
  lent-sized = rw (lent-table w) (valid-sized (setting_of w).n (setting_of w).clients (sent_of w) (length_of w) (table (transit_words w)) its-slots)

  pub slot_lent : (i : ℕ) → i < length_of w → (length (take transit_size (drop transit_from w)) ≡ transit_size) × (i < system_messages)
  slot_lent i h = (lent-sized.size, omega (arith, lent-sized.few))

  pub lent-ordered : Sized (length_of w) (take transit_size (drop transit_from w)) × Ordered (length_of w) (take transit_size (drop transit_from w))
  lent-ordered = (
    lent-sized,
    rw (lent-table w) (valid-ordered (setting_of w).n (setting_of w).clients (sent_of w) (length_of w) (table (transit_words w)) its-slots),
  )

  pub message-read : (i : ℕ) (m : Message) → i < length_of w → m ≡ message_at (take transit_size (drop transit_from w)) i → m ≡ (slot_in (transit_words w) i).message
  message-read i m h e =
      (rw (lent-table w) at e) ∙ message-found (setting_of w).n (setting_of w).clients (sent_of w) (length_of w) (table (transit_words w)) its-slots i h

-- what is found in the words that are lent is found in the messages in transit
pub found-lent : (w : List ℕ) (f : InTransit → Bool) (r : ℕ) → r ≡ first_slot f (slots (length_of w) (take transit_size (drop transit_from w)))
    → r ≡ first_slot f (view w).transit
unfolding view
found-lent w f r e = rw (lent-table w) at e

pub number-said : (w : List ℕ) (i : ℕ) → (slot_at (take transit_size (drop transit_from w)) i).number ≡ (slot_in (transit_words w) i).number
number-said w i = rw (lent-table w)

pub delivered-said : (w : List ℕ) (i : ℕ) → (slot_at (take transit_size (drop transit_from w)) i).delivered ≡ (slot_in (transit_words w) i).delivered
delivered-said w i = rw (lent-table w)
