-- No refusal has the number 0, which says that a call is accepted.
use mathlib.Core.Path.{◌≡◌, refl}
use mathlib.Core.Bool.{false}
use lib.Dec.{eqb}
use Rattle.ids.specs.Refusals.{code}
use Rattle.ids.specs.declared.Refusal.{Refusal}
use Rattle.ids.specs.declared.Refusal.TheVariants as refusal

pub some_number : (e : Refusal) → eqb (code e) 0 ≡ false
some_number refusal.HeaderShort = refl
some_number refusal.KindUnknown = refl
some_number refusal.LengthWrong = refl
some_number refusal.MessageCut = refl
some_number refusal.NumberOutOfRange = refl
some_number refusal.RoomShort = refl
some_number refusal.ParameterOutOfRange = refl
some_number refusal.Unsafe = refl
some_number refusal.Stalls = refl
some_number refusal.WrongSection = refl
some_number refusal.TimestampsSpent = refl
some_number refusal.NotForClient = refl
some_number refusal.NotForServer = refl
some_number refusal.QueueFull = refl
some_number refusal.NoOwner = refl
some_number refusal.BadLine = refl
some_number refusal.NoSuchParty = refl
some_number refusal.PartyDown = refl
some_number refusal.SystemFull = refl
some_number refusal.OwnerLives = refl
some_number refusal.InvalidRecord = refl
some_number refusal.PacketMalformed = refl
