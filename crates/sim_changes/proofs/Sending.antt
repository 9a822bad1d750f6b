-- Events that send: an accepted step whose messages have room is what the words become, one whose messages have none is refused 19.
use Rattle.wire.specs.declared.Sent.{Sent}
use mathlib.Core.Path.{◌≡◌, refl, sym, ap, ◌∙◌}
use Prim.Native.Nat.{ℕ, ◌+◌, ◌-◌, ◌≤◌}
use native.Mathlib.Omega.{arith}
use mathlib.Core.Bool.{Bool, true, false, ◌&&◌, ◌||◌}
use mathlib.Core.List.{List, [], ◌∷◌, ◌++◌}
use lib.Dec.{eqb, leb}
use lib.ListN.{length, length-append}
use lib.Seq.{sets}
use borrow.Author.Tests.{ne_eqb, le-ltb}
use Rattle.std.specs.Prelude.{Result, if◌then◌else◌, Ok, Err, ⊤}
use Rattle.ids.specs.declared.Refusal.{Refusal}
use Rattle.ids.specs.declared.Refusal.TheVariants.{SystemFull}
use Rattle.ids.proofs.Choice.{clash}
use Rattle.wire.specs.Format.{bytes_of_all, size_of_all}
use Rattle.wire.specs.Step.{Step, Outcome, refused, stepped, with_room, answer_of, sent_into}
use Rattle.wire.specs.declared.Message.{Message}
use Rattle.client_responses.specs.Figure1.{enough}
use Rattle.system.specs.Limits.{last_number, system_messages, system_servers}
use Rattle.system.specs.declared.Event.{Event}
use Rattle.system.specs.Transit.{InTransit, numbered}
use Rattle.system.specs.Places.{System}
use Rattle.system.specs.Events.{EventOutcome, event, nothing, with_places}
use Rattle.system.specs.Runs.{after}
use Rattle.sim_transit.specs.Slots.{messages_in}
use Rattle.sim_transit.proofs.PostLaws.{messages_read_buffer}
use Rattle.sim_layout.specs.Layout.{setting_of, length_of, sent_of, view, valid}
use Rattle.sim_changes.specs.Happens.{happens, Leaves, moved_of}
use Rattle.sim_changes.specs.Changes.{Becomes}
use Rattle.sim_changes.specs.Inner.{Sendable, has_room, sending, out_bytes, CanSend}
use Rattle.sim_changes.proofs.Leaving.{after_is}
use Rattle.sim_changes.proofs.SentLaws.{Sends}
use Rattle.sim_changes.proofs.Posting.{view-long, view-sent, length-numbered}

-- an event's step s, accepted but for the room, sends l where `gone` messages are gone
pub record Steps (w : List ℕ) (e : Event) (gone : ℕ) (l : List Message) (s : Step System) : Type 0 where
  pub is : event (setting_of w).n (enough (setting_of w).m) (view w) e ≡ stepped s
  pub sent : s.sent ≡ l
  pub long : length s.state.transit ≡ length_of w - gone + length l
  pub last : s.state.sent ≡ sent_of w + length l
  pub sends : Sends (setting_of w).n (setting_of w).clients l

by_list : (l : List Message) (b : Bool) (x y : EventOutcome) → (if nothing l then x else if b then x else y) ≡ (if eqb (length l) 0 || b then x else y)
by_list [] b x y = refl
by_list (m ∷ l) b x y = rw (ne_eqb (length (m ∷ l)) 0 (λ h. omega arith))

pub view-all : (w : List ℕ) → length (view w).transit ≡ length_of w - 0
view-all w = omega (arith, view-long w)

module _ (w : List ℕ) (e : Event) (gone : ℕ) (l : List Message) (s : Step System) (S : Steps w e gone l s) where
  its-room : eqb (length s.sent) 0 || (leb (length s.state.transit) system_messages && leb s.state.sent last_number) ≡ has_room w gone (length l)
  unfolding has_room
  its-room = rw (S.sent, S.long, S.last)

  tested : happens w e ≡ (if has_room w gone (length l) then stepped s else refused SystemFull)
  unfolding with_places
  tested =
      ap (with_places system_messages last_number) S.is ∙
      (by_list s.sent (leb (length s.state.transit) system_messages && leb s.state.sent last_number) (stepped s) (refused SystemFull) ∙
      ap (λ (b : Bool). if b then stepped s else refused SystemFull) its-room)

  pub leaves_full : valid w ≡ true → has_room w gone (length l) ≡ false → Leaves w e w × (Err SystemFull ≡ moved_of (happens w e))
  unfolding after
  leaves_full ok h =
      let r : happens w e ≡ refused SystemFull = rw h at tested in
      (record { system = rw r; setting = refl; again = ok; kept = λ z. refl }, rw r)

  module _ (h : has_room w gone (length l) ≡ true) where
    stepped-is : happens w e ≡ stepped s
    stepped-is = rw h at tested

    pub leaves_sent : (w' : List ℕ) → Becomes w w' (after (view w) (stepped s)) → Leaves w e w' × (Ok (length l) ≡ moved_of (happens w e))
    leaves_sent w' B = (
      record { system = rw stepped-is B.system; setting = B.setting; again = B.again; kept = λ z. clash true refl (rw stepped-is at z) },
      rw (stepped-is, S.sent),
    )

    pub leaves_stepped : s.state.most ≡ (view w).most → (w' : List ℕ) → Becomes w w' s.state → Leaves w e w' × (Ok (length l) ≡ moved_of (happens w e))
    leaves_stepped same w' B = leaves_sent w' (record { system = B.system ∙ after_is w s same w' B; setting = B.setting; again = B.again })

    -- before its messages are sent, in words w₂
    pub sendable : (w₂ : List ℕ) (u : System) → Becomes w w₂ u → length u.transit ≡ length_of w - gone → u.sent ≡ (view w).sent
        → (bytes : List ℕ) → messages_in (length l) bytes ≡ l → Sendable w₂ (length l) bytes
    unfolding has_room
    sendable w₂ u B f g bytes m =
        let a : length_of w₂ - 0 ≡ length_of w - gone = omega (arith, view-long w₂, ap (λ (x : System). length x.transit) B.system) in
        let b : sent_of w₂ ≡ sent_of w = sym (view-sent w₂) ∙ (ap (λ (x : System). x.sent) B.system ∙ (g ∙ view-sent w)) in
        record { valid = B.again; whole = ap length m; room = rw (a, b) h; named = rw (B.setting, m) S.sends.named }

    -- the same of messages that are values
    pub can_send : (w₂ : List ℕ) (u : System) → Becomes w w₂ u → length u.transit ≡ length_of w - gone → u.sent ≡ (view w).sent → CanSend w₂ l
    unfolding has_room
    can_send w₂ u B f g =
        let a : length_of w₂ - 0 ≡ length_of w - gone = omega (arith, view-long w₂, ap (λ (x : System). length x.transit) B.system) in
        let b : sent_of w₂ ≡ sent_of w = sym (view-sent w₂) ∙ (ap (λ (x : System). x.sent) B.system ∙ (g ∙ view-sent w)) in
        record { valid = B.again; room = rw (a, b) h; named = rw B.setting S.sends.named; range = S.sends.range }

-- one change after another
pub and_then : {w w₁ w₂ : List ℕ} {u : System} (f : System → System) → Becomes w w₁ u → Becomes w₁ w₂ (f (view w₁)) → Becomes w w₂ (f u)
and_then f a b = record { system = b.system ∙ ap f a.system; setting = b.setting ∙ a.setting; again = b.again }

-- a call whose outcome is step p, in a buffer of so many bytes as an event's step has
module _ {A : Type 0} (n clients : ℕ) (o : Outcome A) (p : Step A) (is : o ≡ stepped p) (S : Sends n clients p.sent) (bytes : List ℕ)
    (long : length bytes ≡ out_bytes) where
  pub roomy : with_room (length bytes) o ≡ stepped p
  unfolding with_room
  roomy = rw (is, long, le-ltb out_bytes (size_of_all p.sent) S.small)

  sent-bytes : (bytes' : List ℕ) → bytes' ≡ sent_into bytes (with_room (length bytes) o) → messages_in (length p.sent) bytes' ≡ p.sent
  sent-bytes bytes' e =
      let g : bytes' ≡ sets bytes 0 (bytes_of_all p.sent) = e ∙ ap (sent_into bytes) roomy in
      rw g (messages_read_buffer p.sent bytes S.range (omega (arith, S.small)))

-- A call of a party was accepted: its answer counts the messages l of the event's step s, and its bytes hold them.
pub record Call (w : List ℕ) (e : Event) (gone : ℕ) (l : List Message) (s : Step System) (a : Result Sent Refusal) (bytes : List ℕ) : Type 0 where
  pub ok : valid w ≡ true
  pub steps : Steps w e gone l s
  pub answered : a ≡ Ok (record { messages = length l; bytes = size_of_all l })
  pub written : messages_in (length l) bytes ≡ l

module _ {w : List ℕ} {e : Event} {gone : ℕ} {l : List Message} {s : Step System} {a : Result Sent Refusal} {bytes : List ℕ} (C : Call w e gone l s a bytes) where
  pub call_refused : {P : Type 0} (x : Refusal) → a ≡ Err x → P
  call_refused x f =
      let g = C.answered in
      let z : ◌≡◌ {A = ℕ} 0 1 = cc in
      absurd (omega arith)

  module _ (count size : ℕ) (f : a ≡ Ok (record { messages = count; bytes = size })) where
    pub call_count : count ≡ length l
    call_count =
        let g = C.answered in
        let same : ◌≡◌ {A = Sent} (record { messages = count; bytes = size }) (record { messages = length l; bytes = size_of_all l }) = cc in
        ap (λ (x : Sent). x.messages) same

    pub call_few : count ≤ system_servers
    call_few = omega (arith, call_count, C.steps.sends.few)

    module _ (r : Bool) (h : r ≡ has_room w gone count) where
      pub call_full : r ≡ false → Leaves w e w × (Err SystemFull ≡ moved_of (happens w e))
      call_full t =
          let g : has_room w gone (length l) ≡ false = rw call_count at (sym h ∙ t) in
          leaves_full w e gone l s C.steps C.ok g

      module _ (t : r ≡ true) where
        has_room_lem : has_room w gone (length l) ≡ true
        has_room_lem = rw call_count at (sym h ∙ t)

        pub call_sendable : (w₁ : List ℕ) (u : System) → Becomes w w₁ u → length u.transit ≡ length_of w - gone → u.sent ≡ (view w).sent
            → Sendable w₁ count bytes
        call_sendable w₁ u B p q = rw call_count (sendable w e gone l s C.steps has_room_lem w₁ u B p q bytes C.written)

        sent-after : (w₁ w₂ : List ℕ) (u : System) → Becomes w w₁ u → Becomes w₁ w₂ (sending (view w₁) (messages_in count bytes)) → Becomes w w₂ (sending u l)
        sent-after w₁ w₂ u B D = and_then (λ x. sending x l) B (rw (call_count, C.written) at D)

        -- the step's system is u with the messages sent
        pub call_sent : (w₁ w₂ : List ℕ) (u : System) → Becomes w w₁ u → Becomes w₁ w₂ (sending (view w₁) (messages_in count bytes)) → s.state ≡ sending u l
            → u.most ≡ (view w).most
            → Leaves w e w₂ × (Ok count ≡ moved_of (happens w e))
        call_sent w₁ w₂ u B D q m =
            rw call_count (leaves_stepped w e gone l s C.steps has_room_lem (ap (λ (x : System). x.most) q ∙ m) w₂ (rw (← q) at (sent-after w₁ w₂ u B D)))

        -- the same where the most is noted with it
        pub call_noted : (w₁ w₂ : List ℕ) (u : System) → Becomes w w₁ u → Becomes w₁ w₂ (sending (view w₁) (messages_in count bytes))
            → after (view w) (stepped s) ≡ sending u l
            → Leaves w e w₂ × (Ok count ≡ moved_of (happens w e))
        call_noted w₁ w₂ u B D q = rw call_count (leaves_sent w e gone l s C.steps has_room_lem w₂ (rw (← q) at (sent-after w₁ w₂ u B D)))

-- a step of a party whose messages join T
pub steps_by : (w : List ℕ) (e : Event) (gone : ℕ) (T : List InTransit) (l : List Message) (s : Step System)
    → event (setting_of w).n (enough (setting_of w).m) (view w) e ≡ stepped s
    → length T ≡ length_of w - gone → s.sent ≡ l → s.state.transit ≡ T ++ numbered (view w).sent l → s.state.sent ≡ (view w).sent + length l
    → Sends (setting_of w).n (setting_of w).clients l → Steps w e gone l s
steps_by w e gone T l s h t a b c S =
    record {
      is = h;
      sent = a;
      long = ap length b ∙ (length-append T (numbered (view w).sent l) ∙ omega (arith, t, length-numbered (view w).sent l));
      last = c ∙ ap (λ (x : ℕ). x + length l) (view-sent w);
      sends = S;
    }

-- a call's outcome is step p
pub called : {A : Type 0} (w : List ℕ) (e : Event) (gone : ℕ) (o : Outcome A) (p : Step A) (s : Step System) → valid w ≡ true → Steps w e gone p.sent s
    → o ≡ stepped p
    → (a : Result Sent Refusal) (bytes bytes' : List ℕ) → length bytes ≡ out_bytes → a ≡ answer_of (with_room (length bytes) o)
    → bytes' ≡ sent_into bytes (with_room (length bytes) o) → Call w e gone p.sent s a bytes'
called w e gone o p s ok S is a bytes bytes' long f g =
    record {
      ok = ok;
      steps = S;
      answered = f ∙ ap answer_of (roomy (setting_of w).n (setting_of w).clients o p is S.sends bytes long);
      written = sent-bytes (setting_of w).n (setting_of w).clients o p is S.sends bytes long bytes' g;
    }

-- A server's call on a row was accepted: it is done, and its messages ms are those of the event's step s.
pub record Ruled (w : List ℕ) (e : Event) (l : List Message) (s : Step System) (x : Result ⊤ Refusal) (ms : List Message) : Type 0 where
  pub ok : valid w ≡ true
  pub steps : Steps w e 0 l s
  pub done : x ≡ Ok tt
  pub told : ms ≡ l

module _ {w : List ℕ} {e : Event} {l : List Message} {s : Step System} {x : Result ⊤ Refusal} {ms : List Message} (C : Ruled w e l s x ms) where
  pub ruled-refused : {P : Type 0} (y : Refusal) → x ≡ Err y → P
  ruled-refused y f =
      let g = C.done in
      let z : ◌≡◌ {A = ℕ} 0 1 = cc in
      absurd (omega arith)

  module _ (count : ℕ) (f : count ≡ length ms) where
    ruled-count : count ≡ length l
    ruled-count = f ∙ ap length C.told

    pub ruled-few : count ≤ system_servers
    ruled-few = omega (arith, ruled-count, C.steps.sends.few)

    module _ (r : Bool) (h : r ≡ has_room w 0 count) where
      pub ruled-full : r ≡ false → Leaves w e w × (Err SystemFull ≡ moved_of (happens w e))
      ruled-full t =
          let g : has_room w 0 (length l) ≡ false = rw ruled-count at (sym h ∙ t) in
          leaves_full w e 0 l s C.steps C.ok g

      module _ (t : r ≡ true) where
        roomy_for : has_room w 0 (length l) ≡ true
        roomy_for = rw ruled-count at (sym h ∙ t)

        pub ruled_sendable : (w₁ : List ℕ) (u : System) → Becomes w w₁ u → length u.transit ≡ length_of w - 0 → u.sent ≡ (view w).sent → CanSend w₁ ms
        ruled_sendable w₁ u B p q = rw C.told (can_send w e 0 l s C.steps roomy_for w₁ u B p q)

        -- the step's system is u with the messages sent
        pub ruled-sent : (w₁ w₂ : List ℕ) (u : System) → Becomes w w₁ u → Becomes w₁ w₂ (sending (view w₁) ms) → s.state ≡ sending u l → u.most ≡ (view w).most
            → Leaves w e w₂ × (Ok count ≡ moved_of (happens w e))
        ruled-sent w₁ w₂ u B D q m =
            let E : Becomes w w₂ (sending u l) = and_then (λ y. sending y l) B (rw C.told at D) in
            rw ruled-count (leaves_stepped w e 0 l s C.steps roomy_for (ap (λ (y : System). y.most) q ∙ m) w₂ (rw (← q) at E))
