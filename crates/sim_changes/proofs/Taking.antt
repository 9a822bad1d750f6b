-- The message in a slot is taken: it stays, delivered, or is gone; and what is known of a pending message and its receiver.
use Rattle.ids.specs.declared.Request.{Request}
use Rattle.std.specs.Prelude.{Option}
use mathlib.Core.Path.{◌≡◌, refl, ap, ◌∙◌}
use Prim.Native.Nat.{ℕ, suc, ◌+◌, ◌-◌, ◌*◌, ◌≤◌}
use native.Mathlib.Omega.{arith}
use mathlib.Core.Bool.{Bool, true, false}
use mathlib.Core.List.{List, ◌∷◌, ◌++◌}
use lib.ListN.{length, drop, length-append}
use Rattle.ids.specs.declared.ClientId.{ClientId}
use Rattle.ids.specs.declared.ServerId.{ServerId}
use Rattle.ids.specs.declared.Timestamp.{Timestamp}
use Rattle.ids.specs.declared.Refusal.TheVariants.{PartyDown}
use Rattle.wire.specs.Format as format
use Rattle.wire.specs.Format.{fields_of}
use Rattle.wire.specs.Step.{Step, refused, stepped}
use Rattle.wire.specs.declared.Message.{Message}
use Rattle.wire.specs.declared.Message.TheVariants.{Response, Check}
use Rattle.server_votes.specs.declared.Tag.{Tag}
use Rattle.server_votes.specs.declared.Tag.TheVariants as tag
use Rattle.client_responses.specs.Figure1.{Quorum, enough}
use Rattle.system.specs.declared.Event.TheVariants.{Take}
use Rattle.system.specs.Transit.{InTransit, replaced, gone, keeping}
use Rattle.system.specs.Places.{System, client_at}
use Rattle.system.specs.Events.{event, deliver, to_server, need, response_took, check_took}
use Rattle.server_votes.proofs.Tagged.{message}
use Rattle.sim_transit.specs.Slots.{slots, slot_at, ascending, valid_slots}
use Rattle.sim_indexed.specs.Indexed.{table, slot_in}
use Rattle.sim_indexed.proofs.IndexedLaws.{parts}
use Rattle.sim_transit.proofs.Kept.{Kept, slot_kept, length-slots, Named, names-named}
use Rattle.sim_transit.proofs.NumbersLaws.{replaced-there}
use Rattle.sim_transit.proofs.ValidLaws.{known, slots_around}
use Rattle.sim_layout.specs.Layout.{setting_of, length_of, sent_of, transit_words, view, clients_from}
use Rattle.sim_layout.proofs.ValidLaws.{facts}
use Rattle.sim_changes.specs.Changes.{HasClient, HasServer, HasSlot, Pends, number_at, tagged}
use Rattle.sim_changes.proofs.Answers.{takes}

module _ (w : List ℕ) (i : ℕ) (H : HasSlot w i) where
  abbrev t : List ℕ
  t = table (transit_words w)

  abbrev rest : ℕ
  rest = length_of w - suc i

  fit : valid_slots (setting_of w).n (setting_of w).clients (sent_of w) (length_of w) t ≡ true
  fit = (parts (setting_of w).n (setting_of w).clients (sent_of w) (length_of w) (transit_words w) (facts w H.valid).transit).fit

  around : (view w).transit ≡ slots i t ++ (slot_at t i ∷ slots rest (drop (clients_from * suc i) t))
  unfolding view
  around = let z : length_of w ≡ i + suc rest = omega (arith, H.used) in ap (λ (x : ℕ). slots x t) z ∙ slots_around i rest t

  ordered : ascending 0 (sent_of w) (view w).transit ≡ true
  unfolding view
  ordered = (known (setting_of w).n (setting_of w).clients (sent_of w) (length_of w) t fit).ordered

  length-replaced : (f : InTransit → List InTransit) → length (replaced (slot_at t i).number f (view w).transit) ≡ i + (length (f (slot_at t i)) + rest)
  length-replaced f =
      let e = replaced-there (sent_of w) f 0 (slots i t) (slot_at t i) (slots rest (drop (clients_from * suc i) t)) (rw around at ordered) in
      rw (around, e, length-append, length-append, length-slots, length-slots)

  pub length-kept : length (replaced (slot_in (transit_words w) i).number keeping (view w).transit) ≡ length_of w - 0
  length-kept = omega (arith, length-replaced keeping, H.used)

  pub length-gone : length (replaced (slot_in (transit_words w) i).number gone (view w).transit) ≡ length_of w - 1
  length-gone = omega (arith, length-replaced gone, H.used)

  -- what is known of its message
  pub slot-message : Kept (setting_of w).n (setting_of w).clients (sent_of w) (slot_in (transit_words w) i)
  slot-message = slot_kept (setting_of w).n (setting_of w).clients (sent_of w) (length_of w) t fit i H.used

-- what is known of a pending message
module _ (w : List ℕ) (i : ℕ) (m : Message) (P : Pends w i m) where
  pub in_range_lem : format.valid m ≡ true
  in_range_lem = rw P.holds at (slot-message w i P.slot).range

  pub of_parties : Named (setting_of w).n (setting_of w).clients (fields_of m)
  of_parties = names-named (setting_of w).n (setting_of w).clients m (rw P.holds at (slot-message w i P.slot).named)

  pub delivers : event (setting_of w).n (enough (setting_of w).m) (view w) (Take (number_at w i))
      ≡ deliver (setting_of w).n (enough (setting_of w).m) (view w) (number_at w i).0 m
  delivers = takes (setting_of w).n (enough (setting_of w).m) (view w) (number_at w i) m P.waits

-- a receiver that lives or is up, and one that has fallen or is down
pub needed : (b : Bool) (x : Step System) → b ≡ true → need b PartyDown (stepped x) ≡ stepped x
needed b x e = rw e

pub unmet : (b : Bool) (x : Step System) → b ≡ false → need b PartyDown (stepped x) ≡ refused PartyDown
unmet b x e = rw e

-- a message to a client
module _ (w : List ℕ) (i : ℕ) (k : ClientId) (j : ServerId) (o : Option Request) (P : Pends w i (Response k j o)) where
  pub answered : Named (setting_of w).n (setting_of w).clients (format.answer k j o)
  unfolding fields_of
  answered = of_parties w i (Response k j o) P

  pub response-client : HasClient w k
  response-client = record { valid = P.slot.valid; first = answered.some_client; last = answered.client }

  pub response-goes : event (setting_of w).n (enough (setting_of w).m) (view w) (Take (number_at w i))
      ≡ need (client_at (view w) k).living PartyDown
      (stepped (response_took (setting_of w).n (enough (setting_of w).m) (view w) (number_at w i).0 k j o))
  unfolding deliver
  response-goes = delivers w i (Response k j o) P

module _ (w : List ℕ) (i : ℕ) (k : ClientId) (j : ServerId) (t : Timestamp) (P : Pends w i (Check k j t)) where
  pub told : Named (setting_of w).n (setting_of w).clients (format.plain 6 k j t)
  unfolding fields_of
  told = of_parties w i (Check k j t) P

  pub check-client : HasClient w k
  check-client = record { valid = P.slot.valid; first = told.some_client; last = told.client }

  pub check-goes : event (setting_of w).n (enough (setting_of w).m) (view w) (Take (number_at w i))
      ≡ need (client_at (view w) k).living PartyDown (stepped (check_took (view w) (number_at w i).0 k j t))
  unfolding deliver
  check-goes = delivers w i (Check k j t) P

-- a message to a server
pub tagged_is : (x : Tag) (k : ClientId) (j : ServerId) (t : Timestamp) → tagged x k j t ≡ message x k j t
tagged_is tag.Request k j t = refl
tagged_is tag.Yield k j t = refl
tagged_is tag.Release k j t = refl
tagged_is tag.Inquiry k j t = refl

-- the parties are there
pub record There (n clients : ℕ) (k : ClientId) (j : ServerId) : Type 0 where
  pub some_client : 1 ≤ k.0
  pub client : k.0 ≤ clients
  pub some_server : 1 ≤ j.0
  pub server : j.0 ≤ n

tagged-there : (n clients : ℕ) (x : Tag) (k : ClientId) (j : ServerId) (t : Timestamp) → Named n clients (fields_of (tagged x k j t)) → There n clients k j
unfolding fields_of
tagged-there n clients tag.Request k j t N = record { some_client = N.some_client; client = N.client; some_server = N.some_server; server = N.server }
tagged-there n clients tag.Yield k j t N = record { some_client = N.some_client; client = N.client; some_server = N.some_server; server = N.server }
tagged-there n clients tag.Release k j t N = record { some_client = N.some_client; client = N.client; some_server = N.some_server; server = N.server }
tagged-there n clients tag.Inquiry k j t N = record { some_client = N.some_client; client = N.client; some_server = N.some_server; server = N.server }

deliver-tagged : (n : ℕ) (wins : Quorum) (u : System) (i : ℕ) (x : Tag) (k : ClientId) (j : ServerId) (t : Timestamp)
    → deliver n wins u i (tagged x k j t) ≡ to_server u i x k j t
unfolding deliver
deliver-tagged n wins u i tag.Request k j t = refl
deliver-tagged n wins u i tag.Yield k j t = refl
deliver-tagged n wins u i tag.Release k j t = refl
deliver-tagged n wins u i tag.Inquiry k j t = refl

module _ (w : List ℕ) (i : ℕ) (x : Tag) (k : ClientId) (j : ServerId) (t : Timestamp) (P : Pends w i (tagged x k j t)) where
  pub parties : There (setting_of w).n (setting_of w).clients k j
  parties = tagged-there (setting_of w).n (setting_of w).clients x k j t (of_parties w i (tagged x k j t) P)

  pub taking_server : HasServer w j
  taking_server = record { valid = P.slot.valid; first = parties.some_server; last = parties.server }

  pub ranged : format.valid (message x k j t) ≡ true
  ranged = rw (tagged_is x k j t) at (in_range_lem w i (tagged x k j t) P)

  pub tagged-goes : event (setting_of w).n (enough (setting_of w).m) (view w) (Take (number_at w i)) ≡ to_server (view w) (number_at w i).0 x k j t
  tagged-goes = delivers w i (tagged x k j t) P ∙ deliver-tagged (setting_of w).n (enough (setting_of w).m) (view w) (number_at w i).0 x k j t
