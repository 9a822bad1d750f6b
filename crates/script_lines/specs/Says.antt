-- The answers to a script's lines in document 01's numbers: what each case says, and what a line does.
use Rattle.std.specs.Prelude.{[], ◌∷◌, if◌then◌else◌, Some, None, Option}
use Rattle.ids.specs.Choice.{maybe}
use Rattle.ids.specs.Refusals.{code, Says, accepts, refuses}
use Rattle.ids.specs.declared.Refusal.TheVariants.{BadLine, NoSuchParty}
use Rattle.system.specs.declared.Event.{Event as Happening}
use Rattle.system.specs.declared.Setting.{Setting}
use Rattle.script_lines.specs.Lines.{sixteen_bits}
use Rattle.script_lines.specs.declared.Line.{Line}
use Rattle.script_lines.specs.declared.Line.TheVariants.{Event, Unknown, Bad}

-- an event line: its event, 16, or 17 where the number is too large for any client or server
abbrev pub line_says : Line → Says Happening
line_says Bad = refuses (code BadLine)
line_says Unknown = refuses (code NoSuchParty)
line_says (Event e) = accepts (e ∷ [])

abbrev pub event_says : Option Happening → Says Happening
event_says o = maybe o (refuses 16) (λ e. if sixteen_bits e then accepts (e ∷ []) else refuses 17)

-- the first line: its setting, or 16
abbrev pub first_says : Option Setting → Says Setting
first_says None = refuses (code BadLine)
first_says (Some s) = accepts (s ∷ [])

abbrev pub setting_says : Option Setting → Says Setting
setting_says o = maybe o (refuses 16) (λ s. accepts (s ∷ []))
