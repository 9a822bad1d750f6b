-- One part of a simulation changed: the words are a simulation of the same setting again, and its system differs in that part alone.
use Rattle.std.specs.Prelude.{◌≡◌, ℕ, ◌≤◌, ◌<◌, max, true, false, List, Some}
use Rattle.ids.specs.declared.ClientId.{ClientId}
use Rattle.ids.specs.declared.ServerId.{ServerId}
use Rattle.ids.specs.declared.Timestamp.{Timestamp}
use Rattle.ids.specs.declared.Request.{Request as Pair}
use Rattle.wire.specs.declared.Message.{Message}
use Rattle.wire.specs.declared.Message.TheVariants.{Request, Yield, Release, Inquiry}
use Rattle.server_votes.specs.declared.Tag.{Tag}
use Rattle.server_votes.specs.declared.Tag.TheVariants as tag
use Rattle.system.specs.declared.MessageNumber.{MessageNumber}
use Rattle.system.specs.Transit.{InTransit, pending}
use Rattle.system.specs.Places.{System, ClientPlace, client_at, server_at, worst}
use Rattle.sim_layout.specs.Layout.{setting_of, length_of, transit_words, view, valid}
use Rattle.sim_indexed.specs.Indexed.{slot_in}

-- w' is a simulation of w's setting, and its system is u
pub record Becomes (w w' : List ℕ) (u : System) : Type 0 where
  pub system : view w' ≡ u
  pub setting : setting_of w' ≡ setting_of w
  pub again : valid w' ≡ true

-- w is a simulation that has a client k, or a server j, or a used slot i
pub record HasClient (w : List ℕ) (k : ClientId) : Type 0 where
  pub valid : valid w ≡ true
  pub first : 1 ≤ k.0
  pub last : k.0 ≤ (setting_of w).clients

pub record HasServer (w : List ℕ) (j : ServerId) : Type 0 where
  pub valid : valid w ≡ true
  pub first : 1 ≤ j.0
  pub last : j.0 ≤ (setting_of w).n

pub record HasSlot (w : List ℕ) (i : ℕ) : Type 0 where
  pub valid : valid w ≡ true
  pub used : i < length_of w

-- server j is up, and its owner has fallen
pub record Missing (w : List ℕ) (j : ServerId) : Type 0 where
  pub there : HasServer w j
  pub up : (server_at (view w) j).up ≡ true
  pub owner : Pair
  pub owns : (server_at (view w) j).state.owner ≡ Some owner
  pub fallen : (client_at (view w) owner.client).living ≡ false

-- the number of the message in slot i
abbrev pub number_at : List ℕ → ℕ → MessageNumber
number_at w i = record { 0 = (slot_in (transit_words w) i).number }

-- m is the message in slot i, and it is pending
pub record Pends (w : List ℕ) (i : ℕ) (m : Message) : Type 0 where
  pub slot : HasSlot w i
  pub holds : (slot_in (transit_words w) i).message ≡ m
  pub waits : pending (slot_in (transit_words w) i).number (view w).transit ≡ Some m

-- the message of client k to server j with this tag
abbrev pub tagged : Tag → ClientId → ServerId → Timestamp → Message
tagged tag.Request k j t = Request k j t
tagged tag.Yield k j t = Yield k j t
tagged tag.Release k j t = Release k j t
tagged tag.Inquiry k j t = Inquiry k j t

abbrev pub with_transit : System → List InTransit → System
with_transit u l = record { clients = u.clients; servers = u.servers; transit = l; sent = u.sent; most = u.most }

-- the clients are these, and the most servers down within one of their epochs is noted
abbrev pub with_clients : System → List ClientPlace → System
with_clients u l = record { clients = l; servers = u.servers; transit = u.transit; sent = u.sent; most = max u.most (worst l) }
