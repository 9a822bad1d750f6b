-- The lines of a script, without their newline: document 01, 'The gallery script'.
use Rattle.std.specs.Prelude.{ℕ, Bool, true, ◌&&◌, List, leb, length, if◌then◌else◌, Some, None, Option}
use Rattle.ids.specs.Limits.{max_short}
use Rattle.ids.specs.Choice.{maybe}
use Rattle.system.specs.Setting.{takes}
use Rattle.system.specs.declared.Event.{Event}
use Rattle.system.specs.declared.Event.TheVariants.{Try, Exit, Fall, Down, Up, Take, Drop, Miss, Check}
use Rattle.script_numbers.specs.Decimals.{number}
use Rattle.script_lines.specs.Words.{text, same, word, rest}
use Rattle.script_lines.specs.declared.Command.{Command}
use Rattle.script_lines.specs.declared.Command.TheVariants as command
use Rattle.system.specs.declared.Setting.{Setting}
use Rattle.script_lines.specs.declared.Line.{Line}
use Rattle.script_lines.specs.declared.Line.TheVariants.{Event as Says, Unknown, Bad}
use Rattle.system.specs.Numbered.{client_no, server_no}

-- the bytes of the longest line that is read
abbrev pub max_line : ℕ
max_line = 40

abbrev pub short : List ℕ → Bool
short l = leb (length l) max_line

-- event lines -----------------------------------------------------------------------------------------------------------------

unfoldable pub command_in : List ℕ → Command
command_in w =
    if same w (text "try") then command.Try
    else if same w (text "exit") then command.Exit
    else if same w (text "fall") then command.Fall
    else if same w (text "down") then command.Down
    else if same w (text "up") then command.Up
    else if same w (text "take") then command.Take
    else if same w (text "drop") then command.Drop
    else if same w (text "miss") then command.Miss
    else if same w (text "check") then command.Check
    else command.Other

-- the event with this number, whatever the number is
unfoldable pub event_of : Command → ℕ → Option Event
event_of command.Try x = Some (Try (client_no x))
event_of command.Exit x = Some (Exit (client_no x))
event_of command.Fall x = Some (Fall (client_no x))
event_of command.Down x = Some (Down (server_no x))
event_of command.Up x = Some (Up (server_no x))
event_of command.Take x = Some (takes x)
event_of command.Drop x = Some (Drop (record { 0 = x }))
event_of command.Miss x = Some (Miss (server_no x))
event_of command.Check x = Some (Check (server_no x))
event_of command.Other x = None

-- a command, one space, and a number to the line's end
unfoldable pub event_in : List ℕ → Option Event
event_in l =
    if short l then maybe (rest l) None (λ r. maybe (number r) None (λ x. event_of (command_in (word l)) x))
    else None

-- whether the number of the client or server that the event names has 16 bits; with more there is no such party
unfoldable pub sixteen_bits : Event → Bool
sixteen_bits (Try k) = leb k.0 max_short
sixteen_bits (Exit k) = leb k.0 max_short
sixteen_bits (Fall k) = leb k.0 max_short
sixteen_bits (Down j) = leb j.0 max_short
sixteen_bits (Up j) = leb j.0 max_short
sixteen_bits (Take i) = true
sixteen_bits (Drop i) = true
sixteen_bits (Miss j) = leb j.0 max_short
sixteen_bits (Check j) = leb j.0 max_short

-- the answer to an event line
unfoldable pub line_of : Option Event → Line
line_of None = Bad
line_of (Some e) = if sixteen_bits e then Says e else Unknown

-- the first line --------------------------------------------------------------------------------------------------------------

-- a number before the first space, and then what f makes of it and of what stands behind that space
abbrev pub next : {A : Type 0} → List ℕ → (ℕ → List ℕ → Option A) → Option A
next l f = maybe (number (word l)) None (λ x. maybe (rest l) None (λ r. f x r))

-- four numbers, to the line's end
unfoldable pub four_in : List ℕ → Option Setting
four_in l =
    next l (λ n l₁. next l₁ (λ m l₂. next l₂ (λ f l₃. maybe (number l₃) None (λ k.
    Some (record { n = n; m = m; f = f; clients = k })))))

unfoldable pub setting_in : List ℕ → Option Setting
setting_in l = if short l && same (word l) (text "setting") then maybe (rest l) None four_in else None
