-- Lines of document 01 and of our readings of it, computed by the definitions: the definitions checked by example.
use Rattle.std.specs.Prelude.{Some}
use mathlib.Core.Path.{◌≡◌, refl}
use mathlib.Core.List.{List, [], ◌∷◌, map}
use Prim.Native.String.{String}
use Rattle.ids.specs.declared.Refusal.TheVariants.{BadLine, NoSuchParty}
use Rattle.system.specs.Setting.{takes}
use Rattle.system.specs.declared.Event.TheVariants.{Try, Drop, Check}
use Rattle.script_numbers.specs.Decimals.{digit_up_to, digits_up_to, number_up_to, last_digits, decimal}
use Rattle.script_lines.specs.Words.{text, same, word, rest, spaced}
use Rattle.script_lines.specs.Lines.{command_in, event_of, event_in, sixteen_bits, line_of, four_in, setting_in}
use Rattle.script_lines.specs.Printed.{header_line, ok_line, no_line, end_line, refused_line}
use Rattle.script_lines.specs.declared.Line.{Line}
use Rattle.script_lines.specs.declared.Line.TheVariants.{Event as Says, Unknown, Bad}
use Rattle.system.specs.Numbered.{client_no, server_no}

abbrev says : String → Line
says s = line_of (event_in (text s))

-- events, whatever their number; a client or server whose number has more than 16 bits
pub event-lines : map says ("try 1" ∷ "check 31" ∷ "take 4294967295" ∷ "drop 0" ∷ "try 65535" ∷ "down 65536" ∷ [])
    ≡ Says (Try (client_no 1)) ∷ Says (Check (server_no 31)) ∷ Says (takes 4294967295) ∷ Says (Drop (record {
      0 =
          0;
    })) ∷ Says (Try (client_no 65535)) ∷ Unknown ∷ []
unfolding event_in line_of sixteen_bits event_of command_in same word rest number_up_to digits_up_to digit_up_to
event-lines = refl

-- no events
abbrev bad_lines : List String
bad_lines =
    "" ∷ "try" ∷ "try " ∷ " try 1" ∷ "try  1" ∷ "try 1 " ∷ "try 1 2" ∷ "try 01" ∷ "take 00" ∷ "Try 1" ∷ "try\t1" ∷ "try -1" ∷ "try k" ∷ "hold 1" ∷
    "take 4294967296" ∷ "take 99999999999999999999999999999999999"
    ∷ "setting 2 1 0 2" ∷ []

pub bad_lines_lem : map says bad_lines ≡ map (λ s. Bad) bad_lines
unfolding event_in line_of sixteen_bits event_of command_in same word rest number_up_to digits_up_to digit_up_to
bad_lines_lem = refl

pub first-line : setting_in (text "setting 2 1 0 2") ≡ Some (record { n = 2; m = 1; f = 0; clients = 2 })
unfolding setting_in four_in same word rest number_up_to digits_up_to digit_up_to
first-line = refl

-- document 01's output, and two refusals
pub printed-lines :
    header_line (record {
      n =
          2;
      m = 1;
      f = 0;
      clients = 2;
    }) ∷ ok_line 1 2 0 ∷ ok_line 6 0 2 ∷ end_line 6 2 0 ∷ no_line 1000000 NoSuchParty ∷ refused_line BadLine ∷ []
    ≡ map text ("gallery 2 1 0 2\n" ∷ "1 ok 2 0\n" ∷ "6 ok 0 2\n" ∷ "end 6 2 0\n" ∷ "1000000 no 17\n" ∷ "no 16\n" ∷ [])
unfolding header_line ok_line end_line no_line refused_line spaced decimal last_digits
printed-lines = refl
