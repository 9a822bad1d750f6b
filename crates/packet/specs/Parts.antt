-- What `Packet` says by a walk, said without one: what it is for bytes to be messages one after another.
use Rattle.std.specs.Prelude.{ℕ, ◌≤◌, ◌≡◌, List, [], ◌∷◌, ◌++◌, length, Ok}
use Rattle.wire.specs.Format.{length_in}
use Rattle.wire.specs.Calls.{read_of}
use Rattle.wire.specs.declared.Message.{Message}
use Rattle.packet.specs.Packet.{least_length, Piece}

-- a part that is as long as its length field says, which is 4 at least
pub record Part (p : List ℕ) : Type 0 where
  pub least : least_length ≤ length p
  pub is : length_in p ≡ length p

-- bytes cut into such parts
pub data Cut : List ℕ → List (List ℕ) → Type 0 where
  done : Cut [] []
  next : {p s : List ℕ} {ps : List (List ℕ)} → Part p → Cut s ps → Cut (p ++ s) (p ∷ ps)

-- THE MESSAGES that bytes are, one after another, each read from a part of its own and using all of it
pub data Carries : List ℕ → List Piece → Type 0 where
  done : Carries [] []
  next : {m : Message} {p s : List ℕ} {ps : List Piece} → read_of p ≡ Ok (m, length p) → Carries s ps
      → Carries (p ++ s) (record { message = m; part = p } ∷ ps)
