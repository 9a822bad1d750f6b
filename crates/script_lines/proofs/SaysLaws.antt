-- The answers to a script's lines, said in document 01's numbers.
use Rattle.std.specs.Prelude.{Some, None, Option}
use mathlib.Core.Path.{◌≡◌, refl, ap, ◌∙◌}
use Prim.Native.Nat.{ℕ}
use mathlib.Core.List.{List}
use Rattle.ids.proofs.Choice.{of_choice}
use Rattle.system.specs.declared.Event.{Event as Happening}
use Rattle.system.specs.declared.Setting.{Setting}
use Rattle.script_lines.specs.Lines.{sixteen_bits, event_in, line_of, setting_in}
use Rattle.script_lines.specs.Says.{line_says, event_says, first_says, setting_says}
use Rattle.script_lines.specs.declared.Line.{Line}
use Rattle.script_lines.specs.declared.Line.TheVariants.{Event, Unknown}

line_row : (o : Option Happening) → line_says (line_of o) ≡ event_says o
unfolding line_of
line_row None = refl
line_row (Some e) = of_choice line_says (sixteen_bits e) (Event e) Unknown refl refl

pub line-said : (l : List ℕ) (r : Line) → r ≡ line_of (event_in l) → (r ≡ line_of (event_in l)) × (line_says r ≡ event_says (event_in l))
line-said l r e = (e, ap line_says e ∙ line_row (event_in l))

first-row : (o : Option Setting) → first_says (o) ≡ setting_says o
first-row None = refl
first-row (Some s) = refl

pub first_said : (l : List ℕ) (r : Option Setting) → r ≡ setting_in l → (r ≡ setting_in l) × (first_says r ≡ setting_says (setting_in l))
first_said l r e = (e, ap first_says e ∙ first-row (setting_in l))
