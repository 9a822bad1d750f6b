-- An event changes the index of no receiver but those of messages sent, taken or dropped, and of a server that goes down. For a message that is
-- replaced is of no other receiver, and behind the others stand only those that are sent.
use mathlib.Core.Path.{◌≡◌, refl, sym, ap, ◌∙◌}
use Prim.Native.Nat.{ℕ, suc}
use mathlib.Core.Bool.{Bool, true, false, not, ◌&&◌, ◌||◌, false≢true}
use mathlib.Core.Logic.{inl, inr}
use mathlib.Core.List.{List, [], ◌∷◌, ◌++◌, map, append-nil}
use lib.Dec.{eqb, leb}
use lib.ListN.{length}
use borrow.Author.Tests.{eqb-true}
use Rattle.std.specs.Prelude.{if◌then◌else◌}
use Rattle.ids.specs.declared.Refusal.{Refusal}
use Rattle.ids.specs.declared.Refusal.TheVariants.{NoSuchParty, PartyDown, NoOwner, OwnerLives, WrongSection, TimestampsSpent, SystemFull}
use Rattle.ids.specs.declared.ServerId.{ServerId}
use Rattle.ids.proofs.Choice.{decided, Test}
use Rattle.wire.specs.Step.{Step, refused, stepped}
use Rattle.wire.specs.declared.Message.{Message}
use Rattle.wire.specs.declared.Message.TheVariants.{Request, Yield, Release, Inquiry, Response, Check as CHECK}
use Rattle.client_responses.specs.Figure1.{Quorum, is_remainder, is_critical, may_try}
use Rattle.server_votes.specs.declared.Tag.TheVariants as tag
use Rattle.system.specs.declared.Event.{Event}
use Rattle.system.specs.declared.MessageNumber.{MessageNumber}
use Rattle.system.specs.declared.Event.TheVariants.{Try, Exit, Fall, Down, Up, Take, Drop, Miss, Check}
use Rattle.system.specs.declared.Receiver.{Receiver}
use Rattle.system.specs.declared.Receiver.TheVariants.{Client, Server}
use Rattle.system.specs.Numbered.{has}
use Rattle.system.specs.Transit.{InTransit, numbered, pending, present, replaced, gone, keeping, is_for, again}
use Rattle.system.specs.Places.{System, client_at, server_at}
use Rattle.system.specs.Events.{EventOutcome, need, tried, exited, fallen, went_down, came_up, server_took, response_took, check_took, dropped, suspected, asked, deliver, event, nothing, with_places}
use Rattle.system.specs.Runs.{after}
use Rattle.system.specs.Index.{receiver_of, same_receiver, is_to, entry_of, Entry, index_of, some_to, numbered_to, reaches, touched}
use Rattle.system.proofs.Branch.{perhaps, owned}

neither : (a b : Bool) → a || b ≡ false → (a ≡ false) × (b ≡ false)
neither true b h = absurd (false≢true (sym h))
neither false b h = (refl, h)

pub index-append : (r : Receiver) (a b : List InTransit) → index_of r (a ++ b) ≡ index_of r a ++ index_of r b
unfolding index_of
index-append r [] b = refl
index-append r (x ∷ a) b = go (index-append r a b) (is_to r x.message)
  where
    go : index_of r (a ++ b) ≡ index_of r a ++ index_of r b → (t : Bool)
        → (if t then entry_of x ∷ index_of r (a ++ b) else index_of r (a ++ b)) ≡ (if t then entry_of x ∷ index_of r a else index_of r a) ++ index_of r b
    go h true = ap (λ (l : List Entry). entry_of x ∷ l) h
    go h false = h

-- what is sent to others
sent-others : (r : Receiver) (i : ℕ) (l : List Message) → some_to r l ≡ false → index_of r (numbered i l) ≡ []
unfolding index_of some_to numbered
sent-others r i [] h = refl
sent-others r i (m ∷ l) h = let (p, q) = neither (is_to r m) (some_to r l) h in rw p (sent-others r (suc i) l q)

-- f puts in a message's place none, or one to the same receiver
record Alike (f : InTransit → List InTransit) : Type 0 where
  pub others : (r : Receiver) (x : InTransit) → is_to r x.message ≡ false → index_of r (f x) ≡ []

alike-gone : Alike gone
unfolding index_of
alike-gone = record { others = λ r x h. refl }

alike-keeping : Alike keeping
unfolding index_of
alike-keeping = record { others = λ r x h. rw h }

-- a message to another receiver is replaced
replaced-others : {f : InTransit → List InTransit} → Alike f → (r : Receiver) (i : ℕ) (l : List InTransit) → numbered_to i r l ≡ false
    → index_of r (replaced i f l) ≡ index_of r l
unfolding replaced numbered_to index_of
replaced-others a r i [] h = refl
replaced-others {f} a r i (x ∷ l) h =
    let (p, q) = neither (eqb x.number i && is_to r x.message) (numbered_to i r l) h in
    index-append r (if eqb x.number i then f x else x ∷ []) (replaced i f l) ∙
    (ap (λ (z : List Entry). index_of r (if eqb x.number i then f x else x ∷ []) ++ z) (replaced-others a r i l q) ∙ here p (decided (eqb x.number i)))
  where
    here : eqb x.number i && is_to r x.message ≡ false → Test (eqb x.number i)
        → index_of r (if eqb x.number i then f x else x ∷ []) ++ index_of r l ≡ index_of r (x ∷ l)
    here p (inl e) = let z : is_to r x.message ≡ false = rw e at p in rw (e, a.others r x z, z)
    here p (inr e) = rw e (sym (index-append r (x ∷ []) l))

-- a server's messages are those to it as a receiver
pub for_server : (j : ServerId) (m : Message) → is_for j m ≡ is_to (Server j) m
for_server j (Request k i t) = refl
for_server j (Yield k i t) = refl
for_server j (Release k i t) = refl
for_server j (Inquiry k i t) = refl
for_server j (Response k i o) = refl
for_server j (CHECK k i t) = refl

same-both : (a b c : Receiver) → same_receiver a b ≡ true → same_receiver a c ≡ same_receiver b c
same-both (Client k) (Client i) (Client x) h = let e = eqb-true k.0 i.0 h in rw e
same-both (Client k) (Client i) (Server x) h = refl
same-both (Client k) (Server i) c h = absurd (false≢true h)
same-both (Server k) (Client i) c h = absurd (false≢true h)
same-both (Server k) (Server i) (Client x) h = refl
same-both (Server k) (Server i) (Server x) h = let e = eqb-true k.0 i.0 h in rw e

-- another server goes down
again-others : (r : Receiver) (j : ServerId) (l : List InTransit) → same_receiver (Server j) r ≡ false → index_of r (map (again j) l) ≡ index_of r l
unfolding index_of
again-others r j [] h = refl
again-others r j (x ∷ l) h = rw (again-others r j l h) (go (decided (is_for j x.message)))
  where
    go : Test (is_for j x.message)
        → (if is_to r x.message then entry_of (again j x) ∷ index_of r l else index_of r l) ≡ (if is_to r x.message then entry_of x ∷ index_of r l else index_of r l)
    go (inl f) =
        let z : is_to r x.message ≡ false = same-both (receiver_of x.message) (Server j) r (sym (for_server j x.message) ∙ f) ∙ h in
        rw z
    go (inr f) = rw f

module _ (w : System) (e : Event) (r : Receiver) where
  -- where r is not touched its list stays
  abbrev Keeps : EventOutcome → Type 0
  Keeps o = touched w e o r ≡ false → index_of r (after w o).transit ≡ index_of r w.transit

  keeps-refused : (x : Refusal) → Keeps (refused x)
  unfolding after
  keeps-refused x h = refl

  -- the messages l stay, and what the step sent is behind them
  keeps-step : (s : Step System) (l : List InTransit) (i : ℕ) → s.state.transit ≡ l ++ numbered i s.sent
      → (reaches w e r ≡ false → index_of r l ≡ index_of r w.transit) → Keeps (stepped s)
  unfolding after touched
  keeps-step s l i p g h =
      let (a, b) = neither (some_to r s.sent) (reaches w e r) h in
      ap (index_of r) p ∙ (index-append r l (numbered i s.sent) ∙ (rw (sent-others r i s.sent a) (append-nil (index_of r l) ∙ g b)))

  -- nothing is sent
  keeps_quiet : (s : Step System) → s.sent ≡ [] → (reaches w e r ≡ false → index_of r s.state.transit ≡ index_of r w.transit) → Keeps (stepped s)
  unfolding after touched
  keeps_quiet s p g h = g (neither (some_to r s.sent) (reaches w e r) h).1

  keeps-need : (b : Bool) (x : Refusal) (o : EventOutcome) → Keeps o → Keeps (need b x o)
  keeps-need true x o f = f
  keeps-need false x o f = keeps-refused x

  keeps_party : (a b : Bool) (o : EventOutcome) → Keeps o → Keeps (need a NoSuchParty (need b PartyDown o))
  keeps_party a b o f = keeps-need a NoSuchParty (need b PartyDown o) (keeps-need b PartyDown o f)

module _ (n : ℕ) (wins : Quorum) (w : System) (r : Receiver) where
  module _ (i : MessageNumber) where
    -- the messages without the one taken, or with it delivered
    rest-gone : reaches w (Take i) r ≡ false → index_of r (replaced i.0 gone w.transit) ≡ index_of r w.transit
    unfolding reaches
    rest-gone h = replaced-others alike-gone r i.0 w.transit h

    rest-kept : reaches w (Take i) r ≡ false → index_of r (replaced i.0 keeping w.transit) ≡ index_of r w.transit
    unfolding reaches
    rest-kept h = replaced-others alike-keeping r i.0 w.transit h

    keeps_took : (s : Step System) → s.state.transit ≡ replaced i.0 keeping w.transit ++ numbered w.sent s.sent → (b : Bool)
        → Keeps w (Take i) r (need b PartyDown (stepped s))
    keeps_took s p b = keeps-need w (Take i) r b PartyDown (stepped s) (keeps-step w (Take i) r s _ w.sent p rest-kept)

    keeps-answer : (s : Step System) → s.state.transit ≡ replaced i.0 gone w.transit ++ numbered w.sent s.sent → (b : Bool)
        → Keeps w (Take i) r (need b PartyDown (stepped s))
    keeps-answer s p b = keeps-need w (Take i) r b PartyDown (stepped s) (keeps-step w (Take i) r s _ w.sent p rest-gone)

    keeps-deliver : (m : Message) → Keeps w (Take i) r (deliver n wins w i.0 m)
    unfolding deliver
    keeps-deliver (Request k j t) = keeps_took (server_took w i.0 tag.Request k j t) refl (server_at w j).up
    keeps-deliver (Yield k j t) = keeps_took (server_took w i.0 tag.Yield k j t) refl (server_at w j).up
    keeps-deliver (Release k j t) = keeps_took (server_took w i.0 tag.Release k j t) refl (server_at w j).up
    keeps-deliver (Inquiry k j t) = keeps_took (server_took w i.0 tag.Inquiry k j t) refl (server_at w j).up
    keeps-deliver (Response k j o) = keeps-answer (response_took n wins w i.0 k j o) refl (client_at w k).living
    keeps-deliver (CHECK k j t) = keeps-answer (check_took w i.0 k j t) refl (client_at w k).living

  -- an event in which a party sends, and no message is taken
  keeps-sent : (e : Event) (s : Step System) → s.state.transit ≡ w.transit ++ numbered w.sent s.sent → Keeps w e r (stepped s)
  keeps-sent e s p = keeps-step w e r s w.transit w.sent p (λ h. refl)

  keeps-event : (e : Event) → Keeps w e r (event n wins w e)
  unfolding event reaches
  keeps-event (Try k) =
      keeps_party w (Try k) r (has w.clients k.0) (client_at w k).living _
      (keeps-need w (Try k) r (is_remainder (client_at w k).state.section) WrongSection _
      (keeps-need w (Try k) r (may_try (client_at w k).state) TimestampsSpent (stepped (tried n w k)) (keeps-sent (Try k) (tried n w k) refl)))
  keeps-event (Exit k) =
      keeps_party w (Exit k) r (has w.clients k.0) (client_at w k).living _
      (keeps-need w (Exit k) r (is_critical (client_at w k).state.section) WrongSection (stepped (exited n w k)) (keeps-sent (Exit k) (exited n w k) refl))
  keeps-event (Fall k) =
      keeps_party w (Fall k) r (has w.clients k.0) (client_at w k).living (stepped (fallen w k))
      (keeps_quiet w (Fall k) r (fallen w k) refl (λ h. refl))
  keeps-event (Down j) =
      keeps_party w (Down j) r (has w.servers j.0) (server_at w j).up (stepped (went_down w j))
      (keeps_quiet w (Down j) r (went_down w j) refl (λ h. again-others r j w.transit h))
  keeps-event (Up j) =
      keeps_party w (Up j) r (has w.servers j.0) (not (server_at w j).up) (stepped (came_up w j))
      (keeps_quiet w (Up j) r (came_up w j) refl (λ h. refl))
  keeps-event (Take i) = perhaps (Keeps w (Take i) r) (pending i.0 w.transit) (λ e. keeps-refused w (Take i) r NoSuchParty) (λ m e. keeps-deliver i m)
  keeps-event (Drop i) =
      keeps-need w (Drop i) r (present i.0 w.transit) NoSuchParty (stepped (dropped w i.0))
      (keeps_quiet w (Drop i) r (dropped w i.0) refl (λ h. replaced-others alike-gone r i.0 w.transit h))
  keeps-event (Miss j) =
      keeps_party w (Miss j) r (has w.servers j.0) (server_at w j).up _
      (owned (Keeps w (Miss j) r) (server_at w j).state.owner (λ e. keeps-refused w (Miss j) r NoOwner)
      (λ o e. keeps-need w (Miss j) r (not (client_at w o.client).living) OwnerLives (stepped (suspected w j)) (keeps-sent (Miss j) (suspected w j) refl)))
  keeps-event (Check j) =
      keeps_party w (Check j) r (has w.servers j.0) (server_at w j).up (stepped (asked w j)) (keeps-sent (Check j) (asked w j) refl)

  -- Of every receiver: unless the event touches it, its list is the same afterwards.
  pub untouched : (e : Event) → touched w e (event n wins w e) r ≡ false
      → index_of r (after w (event n wins w e)).transit ≡ index_of r w.transit
  untouched e = keeps-event e

  keeps_if : (e : Event) (b : Bool) (x y : EventOutcome) → Keeps w e r x → Keeps w e r y → Keeps w e r (if b then x else y)
  keeps_if e true x y f g = f
  keeps_if e false x y f g = g

  keeps-places : (e : Event) (places last : ℕ) (o : EventOutcome) → Keeps w e r o → Keeps w e r (with_places places last o)
  unfolding with_places
  keeps-places e places last (refused x) f = f
  keeps-places e places last (stepped s) f =
      keeps_if e (nothing s.sent) (stepped s) _ f
      (keeps_if e (leb (length s.state.transit) places && leb s.state.sent last) (stepped s) (refused SystemFull) f (keeps-refused w e r SystemFull))

  -- The same where there is room for so many messages (19).
  pub untouched_within : (places last : ℕ) (e : Event) → touched w e (with_places places last (event n wins w e)) r ≡ false
      → index_of r (after w (with_places places last (event n wins w e))).transit ≡ index_of r w.transit
  untouched_within places last e = keeps-places e places last (event n wins w e) (keeps-event e)
