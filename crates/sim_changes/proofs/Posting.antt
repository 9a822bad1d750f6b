-- Messages are sent: whether there is room for them, and what the words become when they are posted.
use Rattle.std.specs.Prelude.{Some, None, Option}
use mathlib.Core.Path.{◌≡◌, refl, sym, ap, ◌∙◌}
use Prim.Native.Nat.{ℕ, suc, ◌+◌, ◌-◌, ◌≤◌, ◌<◌}
use native.Mathlib.Omega.{arith}
use mathlib.Core.Bool.{true, false}
use mathlib.Core.List.{List, [], ◌∷◌, ◌++◌, append_assoc, append-nil}
use mathlib.Core.Logic.{⊎_elim}
use lib.Dec.{eqb, leb}
use lib.ListN.{length, set, take, drop, length-set, length-append}
use lib.Seq.{sets, length-sets}
use borrow.Author.Tests.{eqb-true, eqb-false, ne_eqb, leb-true, leb-false, le-leb, lt-leb}
use borrow.Rule.Slice.PartMut.{put_mid}
use Rattle.ids.specs.Lists.{every}
use Rattle.ids.proofs.Choice.{both, decided}
use Rattle.ids.proofs.ListLaws.{every-parts}
use Rattle.wire.specs.Format as format
use Rattle.wire.specs.declared.Message.{Message}
use Rattle.server_votes.specs.Places.{mails}
use Rattle.server.specs.Parts.{three_mails}
use Rattle.system.specs.Places.{System}
use Rattle.system.specs.Transit.{numbered}
use Rattle.sim_transit.specs.Slots.{names}
use Rattle.sim_transit.proofs.Kept.{length-slots}
use Rattle.sim_indexed.specs.Indexed.{indexed_size, table}
use Rattle.sim_indexed.specs.Calls.{Valid, CanPost, Posts}
use Rattle.sim_indexed.proofs.IndexedLaws.{parts}
use Rattle.sim_layout.specs.Layout.{setting_of, length_of, sent_of, transit_words, view, valid, transit_from, simulation_size}
use Rattle.sim_layout.proofs.ValidLaws.{facts}
use Rattle.sim_layout.proofs.LendLaws.{came_back}
use Rattle.sim_layout.proofs.ReadLaws as layout
use Rattle.sim_layout.proofs.EntryLaws.{few, lent-valid, lent-size}
use Rattle.sim_changes.specs.Changes.{Becomes}
use Rattle.sim_changes.specs.Inner.{CanSend, has_room, sending}
use Rattle.sim_changes.proofs.Becoming.{sent-becomes}
use Rattle.system.specs.Limits.{system_messages, last_number}

-- the room test
last-room : (s c most : ℕ) → c ≤ most → leb s (most - c) ≡ leb (s + c) most
last-room s c most h =
    ⊎_elim
    (λ (t : leb (s + c) most ≡ true). rw (t, le-leb s (most - c) (omega (arith, leb-true (s + c) most t))))
    (λ (t : leb (s + c) most ≡ false). rw (t, lt-leb s (most - c) (omega (arith, leb-false (s + c) most t))))
    (decided (leb (s + c) most))

module _ (w : List ℕ) (gone count : ℕ) where
  pub room-none : count ≡ 0 → true ≡ has_room w gone count
  unfolding has_room
  room-none e = rw e

  module _ (some : count ≡ 0 → ⊥) where
    pub room-short : system_messages < length_of w - gone + count → false ≡ has_room w gone count
    unfolding has_room
    room-short h = rw (ne_eqb count 0 some, lt-leb (length_of w - gone + count) system_messages h)

    pub room-last : length_of w - gone + count ≤ system_messages → count ≤ system_messages → leb (sent_of w) (last_number - count) ≡ has_room w gone count
    unfolding has_room
    room-last h g = rw (ne_eqb count 0 some, le-leb (length_of w - gone + count) system_messages h) (last-room (sent_of w) count last_number (omega arith))

-- what the words that were lent say
pub transit-few : (w : List ℕ) → valid w ≡ true → length_of w ≤ system_messages
transit-few w ok = (layout.lent-sized w ok).few

-- messages are posted
module _ (w : List ℕ) (count : ℕ) (l : List Message) (ok : valid w ≡ true) (whole : length l ≡ count) (room : has_room w 0 count ≡ true)
    (named : every (names (setting_of w).n (setting_of w).clients) l ≡ true) where
  pub room-left : sent_of w ≤ last_number → (length_of w + count ≤ system_messages) × (sent_of w + count ≤ last_number)
  unfolding has_room
  room-left h =
      ⊎_elim
      (λ (t : eqb count 0 ≡ true). (omega (arith, eqb-true count 0 t, transit-few w ok), omega (arith, eqb-true count 0 t)))
      (λ (t : eqb count 0 ≡ false).
      let (a, b) = both (leb (length_of w - 0 + count) system_messages) (leb (sent_of w + count) last_number) (rw t at room) in
      (omega (arith, leb-true (length_of w - 0 + count) system_messages a), leb-true (sent_of w + count) last_number b))
      (decided (eqb count 0))

  pub can_post : (length_of w + count ≤ system_messages) × (sent_of w + count ≤ last_number) → CanPost (length_of w) (sent_of w) l (take indexed_size (drop transit_from w))
  can_post r =
      record {
        n = (setting_of w).n;
        clients = (setting_of w).clients;
        few = few w ok;
        valid = lent-valid w ok;
        named = named;
        size = lent-size w ok;
        room = omega (arith, r, whole);
        numbers = omega (arith, r, whole);
      }

  module _ (t : List ℕ) (P : Posts (length_of w) (sent_of w) l (take indexed_size (drop transit_from w)) t) where
    posted : Valid (setting_of w).n (setting_of w).clients (sent_of w + length l) (length_of w + length l) t
    posted = P.valid (setting_of w).n (setting_of w).clients (few w ok) (lent-valid w ok) named

    back : put_mid transit_from indexed_size w t ≡ sets w transit_from t
    back =
        came_back w transit_from indexed_size t (parts (setting_of w).n (setting_of w).clients (sent_of w + length l) (length_of w + length l) t posted).size
        (omega (arith, (facts w ok).long))

    pub posted-long : length (put_mid transit_from indexed_size w t) ≡ simulation_size
    posted-long = ap length back ∙ (length-sets w transit_from t ∙ (facts w ok).long)

    pub counted-long : (x : ℕ) → length (set (put_mid transit_from indexed_size w t) 4 x) ≡ simulation_size
    counted-long x = length-set (put_mid transit_from indexed_size w t) 4 x ∙ posted-long

    pub send_becomes : Becomes w (set (set (put_mid transit_from indexed_size w t) 4 (length_of w + count)) 5 (sent_of w + count)) (sending (view w) l)
    unfolding transit_words view
    send_becomes =
        let B = sent-becomes w ok t (length_of w + length l) (sent_of w + length l) posted in
        let z : length_of w + count ≡ length_of w + length l = omega (arith, whole) in
        let y : sent_of w + count ≡ sent_of w + length l = omega (arith, whole) in
        let e = P.after (setting_of w).n (setting_of w).clients (few w ok) (lent-valid w ok) named in
        rw (back, z, y) (rw e at B)

-- what can be sent, one part after another
pub length-numbered : (i : ℕ) (l : List Message) → length (numbered i l) ≡ length l
unfolding numbered
length-numbered i [] = refl
length-numbered i (m ∷ l) = ap suc (length-numbered (suc i) l)

numbered-append : (i : ℕ) (a b : List Message) → numbered i (a ++ b) ≡ numbered i a ++ numbered (i + length a) b
unfolding numbered
numbered-append i [] b = let z : i + 0 ≡ i = omega arith in rw z
numbered-append i (m ∷ a) b = let z : i + suc (length a) ≡ suc i + length a = omega arith in rw (z, numbered-append (suc i) a b)

sending-append : (u : System) (a b : List Message) → sending (sending u a) b ≡ sending u (a ++ b)
sending-append u a b =
    let t : (u.transit ++ numbered u.sent a) ++ numbered (u.sent + length a) b ≡ u.transit ++ numbered u.sent (a ++ b) =
    append_assoc u.transit (numbered u.sent a) (numbered (u.sent + length a) b) ∙ rw (numbered-append u.sent a b) in
    let s : u.sent + length a + length b ≡ u.sent + length (a ++ b) = simp length-append (omega arith) in
    λ i. record { clients = u.clients; servers = u.servers; transit = t i; sent = s i; most = u.most }

pub sending-none : (w : List ℕ) → valid w ≡ true → Becomes w w (sending (view w) [])
unfolding numbered
sending-none w ok =
    let t : (view w).transit ++ [] ≡ (view w).transit = append-nil (view w).transit in
    let s : (view w).sent + 0 ≡ (view w).sent = omega arith in
    record {
      system = λ i. record { clients = (view w).clients; servers = (view w).servers; transit = sym t i; sent = sym s i; most = (view w).most };
      setting = refl;
      again = ok;
    }

room_less : (w : List ℕ) (a b : ℕ) → length_of w ≤ system_messages → has_room w 0 (a + b) ≡ true → has_room w 0 a ≡ true
unfolding has_room
room_less w a b h r =
    ⊎_elim
    (λ (t : eqb a 0 ≡ true). rw t)
    (λ (t : eqb a 0 ≡ false).
    let n : eqb (a + b) 0 ≡ false = ne_eqb (a + b) 0 (λ e. eqb-false a 0 t (omega arith)) in
    let (x, y) = both (leb (length_of w - 0 + (a + b)) system_messages) (leb (sent_of w + (a + b)) last_number) (rw n at r) in
    rw (
      t,
      le-leb (length_of w - 0 + a) system_messages (omega (arith, leb-true (length_of w - 0 + (a + b)) system_messages x)),
      le-leb (sent_of w + a) last_number
          (omega (arith, leb-true (sent_of w + (a + b)) last_number y)),
    ))
    (decided (eqb a 0))

room_then : (w w₁ : List ℕ) (a b : ℕ) → length_of w₁ ≡ length_of w + a → sent_of w₁ ≡ sent_of w + a → has_room w 0 (a + b) ≡ true → has_room w₁ 0 b ≡ true
unfolding has_room
room_then w w₁ a b l s r =
    ⊎_elim
    (λ (t : eqb b 0 ≡ true). rw t)
    (λ (t : eqb b 0 ≡ false).
    let n : eqb (a + b) 0 ≡ false = ne_eqb (a + b) 0 (λ e. eqb-false b 0 t (omega arith)) in
    let (x, y) = both (leb (length_of w - 0 + (a + b)) system_messages) (leb (sent_of w + (a + b)) last_number) (rw n at r) in
    rw (
      t,
      le-leb (length_of w₁ - 0 + b) system_messages (omega (arith, leb-true (length_of w - 0 + (a + b)) system_messages x)),
      le-leb (sent_of w₁ + b) last_number
          (omega (arith, leb-true (sent_of w + (a + b)) last_number y)),
    ))
    (decided (eqb b 0))

-- the counts in the words are the system's
pub view-long : (w : List ℕ) → length (view w).transit ≡ length_of w
unfolding view
view-long w = length-slots (length_of w) (table (transit_words w))

pub view-sent : (w : List ℕ) → (view w).sent ≡ sent_of w
unfolding view
view-sent w = refl

module _ (w : List ℕ) (a b : List Message) (C : CanSend w (a ++ b)) where
  pub can_first : CanSend w a
  can_first =
      let n = length-append a b in
      record {
        valid = C.valid;
        room = room_less w (length a) (length b) (transit-few w C.valid) (rw n at C.room);
        named = (every-parts (names (setting_of w).n (setting_of w).clients) a b C.named).0;
        range = (every-parts format.valid a b C.range).0;
      }

  module _ (w₁ : List ℕ) (B : Becomes w w₁ (sending (view w) a)) where
    more : length_of w₁ ≡ length_of w + length a
    more =
        let l = ap (λ (u : System). length u.transit) B.system in
        let k = length-append (view w).transit (numbered (view w).sent a) in
        omega (arith, view-long w₁, view-long w, length-numbered (view w).sent a)

    later : sent_of w₁ ≡ sent_of w + length a
    later = sym (view-sent w₁) ∙ (ap (λ (u : System). u.sent) B.system ∙ ap (λ (x : ℕ). x + length a) (view-sent w))

    pub can_rest : CanSend w₁ b
    can_rest =
        record {
          valid = B.again;
          room = room_then w w₁ (length a) (length b) more later (rw (length-append a b) at C.room);
          named = rw B.setting (every-parts (names (setting_of w).n (setting_of w).clients) a b C.named).1;
          range = (every-parts format.valid a b C.range).1;
        }

    pub sent-both : (w₂ : List ℕ) → Becomes w₁ w₂ (sending (view w₁) b) → Becomes w w₂ (sending (view w) (a ++ b))
    sent-both w₂ D =
        record {
          system = D.system ∙ (ap (λ (u : System). sending u b) B.system ∙ sending-append (view w) a b);
          setting = D.setting ∙ B.setting;
          again = D.again;
        }

-- one mail, or none
module _ (w : List ℕ) (m : Option Message) (C : CanSend w (mails m)) where
  pub mail_asked : (x : Message) → m ≡ Some x → CanSend w (x ∷ [])
  mail_asked x e = rw e at C

  pub mail_sent : (x : Message) → m ≡ Some x → (w₁ : List ℕ) → Becomes w w₁ (sending (view w) (x ∷ [])) → Becomes w w₁ (sending (view w) (mails m))
  mail_sent x e w₁ B = rw e B

  pub mail_none : m ≡ None → Becomes w w (sending (view w) (mails m))
  mail_none e = rw e (sending-none w C.valid)

-- three mails, one after another
module _ (w : List ℕ) (a b c : Option Message) (C : CanSend w (three_mails a b c)) where
  all_three : CanSend w (mails a ++ (mails b ++ mails c))
  unfolding three_mails
  all_three = rw (append_assoc (mails a) (mails b) (mails c)) at C

  pub first-asked : CanSend w (mails a)
  first-asked = can_first w (mails a) (mails b ++ mails c) all_three

  module _ (w₁ : List ℕ) (A : Becomes w w₁ (sending (view w) (mails a))) where
    rest : CanSend w₁ (mails b ++ mails c)
    rest = can_rest w (mails a) (mails b ++ mails c) all_three w₁ A

    pub second-asked : CanSend w₁ (mails b)
    second-asked = can_first w₁ (mails b) (mails c) rest

    module _ (w₂ : List ℕ) (B : Becomes w₁ w₂ (sending (view w₁) (mails b))) where
      pub third-asked : CanSend w₂ (mails c)
      third-asked = can_rest w₁ (mails b) (mails c) rest w₂ B

      pub three_sent : (w₃ : List ℕ) → Becomes w₂ w₃ (sending (view w₂) (mails c)) → Becomes w w₃ (sending (view w) (three_mails a b c))
      unfolding three_mails
      three_sent w₃ D = rw (append_assoc (mails a) (mails b) (mails c))
          (sent-both w (mails a) (mails b ++ mails c) all_three w₁ A w₃ (sent-both w₁ (mails b) (mails c) rest w₂ B w₃ D))
