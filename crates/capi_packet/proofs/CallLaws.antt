-- What the calls on packets return and leave, in each case.
use Prim.Native.Nat.{ℕ, ◌-◌, ◌<◌, ◌≤◌}
use native.Mathlib.Omega.{arith}
use mathlib.Core.Path.{◌≡◌, sym, ◌∙◌}
use mathlib.Core.List.{List}
use lib.Dec.{ltb}
use lib.ListN.{length}
use lib.Seq.{sets}
use borrow.Author.Tests.{lt-ltb, le-ltb}
use Rattle.std.specs.Prelude.{if◌then◌else◌, Ok, Err, Result, Some, None, Option}
use Rattle.ids.specs.Limits.{max_servers, max_short}
use Rattle.ids.specs.Refusals.{code}
use Rattle.ids.specs.declared.Refusal.{Refusal}
use Rattle.ids.specs.declared.Refusal.TheVariants.{RoomShort}
use Rattle.wire.specs.Format.{fields_of, kind_in}
use Rattle.wire.specs.Says.{read_values}
use Rattle.wire.specs.declared.Fields.{Fields}
use Rattle.wire.specs.declared.Message.{Message}
use Rattle.wire.proofs.RoundTrip.{took, short}
use Rattle.packet.specs.Reading.{next_of, part_of}
use Rattle.packet.proofs.Shown.{shows}
use Rattle.capi.specs.Calls.{read_size, written_code}
use Rattle.capi_packet.specs.Calls.{next_code, next_words}

-- `answer`: by the room there is
abbrev Answers : List ℕ → Fields → ℕ → ℕ → List ℕ → Type 0
Answers ws f used r l =
    (r ≡ (if ltb (length ws) read_size then code RoomShort else 0))
    × (l ≡ (if ltb (length ws) read_size then ws else sets ws 0 (read_values f used)))

module _ (ws : List ℕ) (f : Fields) (used : ℕ) where
  pub answer-short : (r : ℕ) → length ws < read_size → r ≡ code RoomShort → Answers ws f used r ws
  answer-short r h e = (rw (lt-ltb _ _ h, e), rw (lt-ltb _ _ h))

  pub answer-put : (l : List ℕ) → read_size ≤ length ws → l ≡ sets ws 0 (read_values f used) → Answers ws f used 0 l
  answer-put l h e = (rw (le-ltb _ _ h), rw (le-ltb _ _ h) e)

-- `sigma_packet_next`, from what the reader answered
module _ (s ws : List ℕ) (at : ℕ) (n : Result (Option (Message × ℕ)) Refusal) (e : n ≡ next_of s at) (r : ℕ) (l : List ℕ) where
  abbrev Goal : Type 0
  Goal = (r ≡ next_code (next_of s at) (length ws)) × (l ≡ next_words (next_of s at) at ws)

  pub next-given : (m : Message) (next : ℕ) (f : Fields) → n ≡ Ok (Some (m, next)) → f ≡ fields_of m → Answers ws f (next - at) r l → Goal
  next-given m next f g h a = let q : next_of s at ≡ Ok (Some (m, next)) = sym e ∙ g in rw q (rw h at a)

  pub next_end : n ≡ Ok None → Answers ws (record { kind = 0; client = 0; server = 0; timestamp = 0; owner = 0 }) 0 r l → Goal
  next_end g a = let q : next_of s at ≡ Ok None = sym e ∙ g in rw q a

  pub next-none : (x : Refusal) → n ≡ Err x → r ≡ code x → l ≡ ws → Goal
  next-none x g c h = let q : next_of s at ≡ Err x = sym e ∙ g in (rw q c, rw q h)

-- a message's bytes are few
module _ (s : List ℕ) (at : ℕ) (m : Message) (next : ℕ) (g : next_of s at ≡ Ok (Some (m, next))) where
  pub place_order : at ≤ next
  place_order = (shows s at m next g).order

  pub used-small : next - at ≤ max_short
  used-small =
      let w = shows s at m next g in
      let t = took max_servers (part_of s at) m (length (part_of s at)) w.read in
      omega (arith, w.long, t.used, short (kind_in (part_of s at)))

-- `sigma_packet_pack`, from what packing answered
module _ (w o : Result ℕ Refusal) (e : w ≡ o) where
  pub pack_done : (n : ℕ) → w ≡ Ok n → 0 ≡ written_code o
  pack_done n h = rw (sym e ∙ h)

  pub pack_refused : (x : Refusal) (r : ℕ) → w ≡ Err x → r ≡ code x → r ≡ written_code o
  pack_refused x r h c = rw (sym e ∙ h) c
