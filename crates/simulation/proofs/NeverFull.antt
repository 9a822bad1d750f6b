-- No event of a simulation is refused because a server's queue is full (14): the definition has no such refusal, and the server's own call, which
-- has it, never gives it (`sim_blocks/proofs` `ServerSteps.receive-outcome`), since at most 16 clients, each once, fill a queue of 16 places.
use Rattle.ids.specs.declared.Request.{Request as Pair}
use mathlib.Core.Path.{◌≡◌}
use Prim.Native.Nat.{ℕ}
use native.Mathlib.Omega.{arith}
use mathlib.Core.Bool.{Bool, true, false, not, ◌&&◌}
use mathlib.Core.List.{List}
use lib.Dec.{leb}
use lib.ListN.{length}
use Rattle.ids.specs.Choice.{maybe}
use Rattle.std.specs.Prelude.{if◌then◌else◌, Some, None, Option}
use Rattle.ids.specs.Requests.{by_owner}
use Rattle.ids.specs.declared.Refusal.{Refusal}
use Rattle.ids.specs.declared.Refusal.TheVariants.{QueueFull, NoSuchParty, PartyDown, NoOwner, OwnerLives, WrongSection, TimestampsSpent, SystemFull}
use Rattle.ids.specs.declared.ServerId.{ServerId}
use Rattle.wire.specs.Step.{Step, refused, stepped}
use Rattle.wire.specs.declared.Message.{Message}
use Rattle.wire.specs.declared.Message.TheVariants.{Request, Yield, Release, Inquiry, Response, Check as CHECK}
use Rattle.client_responses.specs.Figure1.{Quorum, enough, is_remainder, is_critical, may_try}
use Rattle.server_votes.specs.declared.Tag.TheVariants as tag
use Rattle.system.specs.Limits.{last_number, system_messages}
use Rattle.system.specs.declared.Event.{Event}
use Rattle.system.specs.declared.Event.TheVariants.{Try, Exit, Fall, Down, Up, Take, Drop, Miss, Check}
use Rattle.system.specs.Numbered.{has}
use Rattle.system.specs.Transit.{pending, present}
use Rattle.system.specs.Places.{System, client_at, server_at}
use Rattle.system.specs.Events.{EventOutcome, need, tried, exited, fallen, went_down, came_up, server_took, response_took, check_took, dropped, suspected, asked, deliver, event, nothing, with_places}
use Rattle.sim_layout.specs.Layout.{setting_of, view}
use Rattle.sim_changes.specs.Happens.{happens}

abbrev Never : EventOutcome → Type 0
Never o = o ≡ refused QueueFull → ⊥

step_never : (s : Step System) → Never (stepped s)
step_never s e = let z : ◌≡◌ {A = ℕ} 0 1 = cc in omega arith

-- the refusals that an event has
party_never : Never (refused NoSuchParty)
party_never e = let z : ◌≡◌ {A = ℕ} 0 1 = cc in omega arith

down_never : Never (refused PartyDown)
down_never e = let z : ◌≡◌ {A = ℕ} 0 1 = cc in omega arith

nobody_never : Never (refused NoOwner)
nobody_never e = let z : ◌≡◌ {A = ℕ} 0 1 = cc in omega arith

lives_never : Never (refused OwnerLives)
lives_never e = let z : ◌≡◌ {A = ℕ} 0 1 = cc in omega arith

section_never : Never (refused WrongSection)
section_never e = let z : ◌≡◌ {A = ℕ} 0 1 = cc in omega arith

spent_never : Never (refused TimestampsSpent)
spent_never e = let z : ◌≡◌ {A = ℕ} 0 1 = cc in omega arith

places_never : Never (refused SystemFull)
places_never e = let z : ◌≡◌ {A = ℕ} 0 1 = cc in omega arith

need_never : (b : Bool) (x : Refusal) (o : EventOutcome) → Never (refused x) → Never o → Never (need b x o)
need_never true x o f g e = g e
need_never false x o f g e = f e

-- a party that is there, then one that lives or is up, then the rest
party_need : (a b : Bool) (o : EventOutcome) → Never o → Never (need a NoSuchParty (need b PartyDown o))
party_need a b o f = need_never a NoSuchParty (need b PartyDown o) party_never (need_never b PartyDown o down_never f)

up_step : (b : Bool) (s : Step System) → Never (need b PartyDown (stepped s))
up_step b s = need_never b PartyDown (stepped s) down_never (step_never s)

module _ (n : ℕ) (wins : Quorum) (u : System) where
  deliver_never : (i : ℕ) (m : Message) → Never (deliver n wins u i m)
  unfolding deliver
  deliver_never i (Request k j t) = up_step (server_at u j).up (server_took u i tag.Request k j t)
  deliver_never i (Yield k j t) = up_step (server_at u j).up (server_took u i tag.Yield k j t)
  deliver_never i (Release k j t) = up_step (server_at u j).up (server_took u i tag.Release k j t)
  deliver_never i (Inquiry k j t) = up_step (server_at u j).up (server_took u i tag.Inquiry k j t)
  deliver_never i (Response k j o) = up_step (client_at u k).living (response_took n wins u i k j o)
  deliver_never i (CHECK k j t) = up_step (client_at u k).living (check_took u i k j t)

  taken_never : (i : ℕ) (o : Option Message) → Never (maybe o (refused NoSuchParty) (λ m. deliver n wins u i m))
  taken_never i None = party_never
  taken_never i (Some m) = deliver_never i m

  missed_never : (j : ServerId) (o : Option Pair)
      → Never (by_owner o (refused NoOwner) (λ r. need (not (client_at u r.client).living) OwnerLives (stepped (suspected u j))))
  missed_never j None = nobody_never
  missed_never j (Some r) = need_never (not (client_at u r.client).living) OwnerLives (stepped (suspected u j)) lives_never (step_never (suspected u j))

  pub event_never : (e : Event) → Never (event n wins u e)
  unfolding event
  event_never (Try k) =
      party_need (has u.clients k.0) (client_at u k).living _
      (need_never (is_remainder (client_at u k).state.section) WrongSection _ section_never
      (need_never (may_try (client_at u k).state) TimestampsSpent (stepped (tried n u k)) spent_never (step_never (tried n u k))))
  event_never (Exit k) =
      party_need (has u.clients k.0) (client_at u k).living _
      (need_never (is_critical (client_at u k).state.section) WrongSection (stepped (exited n u k)) section_never (step_never (exited n u k)))
  event_never (Fall k) = party_need (has u.clients k.0) (client_at u k).living (stepped (fallen u k)) (step_never (fallen u k))
  event_never (Down j) = party_need (has u.servers j.0) (server_at u j).up (stepped (went_down u j)) (step_never (went_down u j))
  event_never (Up j) = party_need (has u.servers j.0) (not (server_at u j).up) (stepped (came_up u j)) (step_never (came_up u j))
  event_never (Take i) = taken_never i.0 (pending i.0 u.transit)
  event_never (Drop i) = need_never (present i.0 u.transit) NoSuchParty (stepped (dropped u i.0)) party_never (step_never (dropped u i.0))
  event_never (Miss j) = party_need (has u.servers j.0) (server_at u j).up _ (missed_never j (server_at u j).state.owner)
  event_never (Check j) = party_need (has u.servers j.0) (server_at u j).up (stepped (asked u j)) (step_never (asked u j))

if_never : (a b : EventOutcome) (x : Bool) → Never a → Never b → Never (if x then a else b)
if_never a b true f g = f
if_never a b false f g = g

room_never : (places last : ℕ) (o : EventOutcome) → Never o → Never (with_places places last o)
unfolding with_places
room_never places last (refused x) f = f
room_never places last (stepped s) f =
    if_never (stepped s) _ (nothing s.sent) (step_never s)
    (if_never (stepped s) (refused SystemFull) (leb (length s.state.transit) places && leb s.state.sent last) (step_never s) places_never)

-- In a simulation 14 never occurs.
pub never_full : (w : List ℕ) (e : Event) → happens w e ≡ refused QueueFull → ⊥
never_full w e = room_never system_messages last_number _ (event_never (setting_of w).n (enough (setting_of w).m) (view w) e)
