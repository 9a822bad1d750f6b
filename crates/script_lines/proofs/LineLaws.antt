-- Lines decided as the code decides them: too long, no space, no number, or a command with a number.
use Prim.Native.Nat.{ℕ, ◌+◌, ◌-◌, ◌≤◌, ◌<◌}
use Prim.Native.String.{String}
use native.Mathlib.Omega.{arith}
use mathlib.Core.Path.{◌≡◌, refl, ◌∙◌, sym}
use mathlib.Core.Bool.{Bool, true, false}
use mathlib.Core.List.{List, [], ◌∷◌}
use lib.ListN.{length, take, drop}
use borrow.Author.Tests.{le-leb, lt-leb}
use Rattle.std.specs.Prelude.{if◌then◌else◌, Some, None, Option}
use Rattle.script_numbers.specs.Decimals.{number}
use Rattle.script_lines.specs.Words.{text, same, word, rest}
use Rattle.script_lines.specs.Lines.{command_in, event_of, event_in, line_of, max_line}
use Rattle.script_lines.specs.declared.Command.{Command}
use Rattle.script_lines.specs.declared.Command.TheVariants as command
use Rattle.script_lines.specs.declared.Line.{Line}
use Rattle.script_lines.specs.declared.Line.TheVariants.{Bad}
use Rattle.script_lines.proofs.WordLaws.{cut_word, cut-none, cut_some, cut_end}

pub event-long : (s : List ℕ) → max_line < length s → Bad ≡ line_of (event_in s)
unfolding event_in line_of
event-long s h = simp (lt-leb (length s) max_line h)

module _ (s : List ℕ) (p : ℕ) (short : length s ≤ max_line) (ends : (p ≡ 0 + length (word (drop 0 s))) × (p ≤ length s)) where
  pub event_one_word : p ≡ length s → Bad ≡ line_of (event_in s)
  unfolding event_in line_of
  event_one_word e = simp (le-leb (length s) max_line short, cut-none s 0 p ends.0 e)

  module _ (n : p ≡ length s → ⊥) where
    behind : rest s ≡ Some (drop (p + 1) s)
    behind = cut_some s 0 p ends.0 (omega (arith, ends.1))

    module _ (r : Option ℕ) (read : r ≡ number (take (length s - (p + 1)) (drop (p + 1) s))) where
      read_all : r ≡ number (drop (p + 1) s)
      read_all = rw (cut_end s 0 p ends.0) at read

      pub event_no_number : r ≡ None → Bad ≡ line_of (event_in s)
      unfolding event_in line_of
      event_no_number e =
          let o : number (drop (p + 1) s) ≡ None = sym read_all ∙ e in
          simp (le-leb (length s) max_line short, behind, o)

      pub event_command : (x : ℕ) (c : Command) (l : Line) → r ≡ Some x → c ≡ command_in (take (p - 0) (drop 0 s))
          → l ≡ line_of (event_of c x) → l ≡ line_of (event_in s)
      unfolding event_in
      event_command x c l e k f =
          let o : number (drop (p + 1) s) ≡ Some x = sym read_all ∙ e in
          let w : c ≡ command_in (word s) = rw (cut_word s 0 p ends.0) at k in
          simp (le-leb (length s) max_line short, behind, o, ← w) f

-- the commands that a word is tried for, one after another
pub record Named : Type 0 where
  pub name : List ℕ
  pub command : Command

abbrev named : String → Command → Named
named s c = record { name = text s; command = c }

abbrev pub commands : List Named
commands =
    named "try" command.Try ∷ named "exit" command.Exit ∷ named "fall" command.Fall ∷ named "down" command.Down ∷ named "up" command.Up
    ∷ named "take" command.Take ∷ named "drop" command.Drop ∷ named "miss" command.Miss ∷ named "check" command.Check ∷ []

unfoldable pub among : List Named → List ℕ → Command
among [] w = command.Other
among (n ∷ ns) w = if same w n.name then n.command else among ns w

-- w is none of those tried so far
unfoldable pub Left : List ℕ → List Named → Type 0
Left w ns = command_in w ≡ among ns w

module _ (w : List ℕ) where
  pub left-all : Left w commands
  unfolding command_in among Left
  left-all = refl

  pub left-none : Left w [] → command.Other ≡ command_in w
  unfolding among Left
  left-none p = sym p

  module _ (n : Named) (ns : List Named) (p : Left w (n ∷ ns)) (r : Bool) (told : r ≡ same w n.name) where
    pub left_is : r ≡ true → n.command ≡ command_in w
    unfolding among Left
    left_is e = rw (p, ← told, e)

    pub left-more : r ≡ false → Left w ns
    unfolding among Left
    left-more e = p ∙ rw (← told, e)
