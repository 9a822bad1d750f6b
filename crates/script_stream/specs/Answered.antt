-- What reading gave is answered: so many bytes of the part are taken in. Where it failed or was at its end, there is no going on.
use Rattle.std.specs.Prelude.{ℕ, List, take}
use Rattle.console.specs.declared.Input.{Input}
use Rattle.console.specs.declared.Input.TheVariants.{Failed, End, Bytes}
use Rattle.script_stream.specs.Taken.{Taken}

abbrev pub Answered : List ℕ → List ℕ → Input → List ℕ → Type 0
Answered w part Failed w' = ⊥
Answered w part End w' = ⊥
Answered w part (Bytes n) w' = Taken w (take n part) w'
