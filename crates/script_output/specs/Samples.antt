-- Scripts and what they print, worked out by hand from document 01: the same as in tests/scripts, whose table says why each is there.
use Rattle.std.specs.Prelude.{◌≡◌, ℕ, List, [], ◌∷◌, ◌++◌}
use Rattle.script_lines.specs.Words.{text, newline}
use Rattle.script_output.specs.Output.{output}

-- lines, each with its newline
unfoldable pub lines : List (List ℕ) → List ℕ
lines [] = []
lines (l ∷ ls) = l ++ (newline ∷ lines ls)

pub record Sample : Type 0 where
  pub input : List ℕ
  pub prints : List ℕ

abbrev pub All : List Sample → Type 0
All [] = Unit {0}
All (s ∷ l) = (output s.input ≡ s.prints) × All l

unfoldable pub example : Sample
example =
    record {
      input =
          lines (text "setting 2 1 0 2" ∷ text "try 1" ∷ text "take 1" ∷ text "take 3" ∷ text "try 2" ∷ text "take 5" ∷
          text "take 6" ∷ []);
      prints =
          lines (text "gallery 2 1 0 2" ∷ text "1 ok 2 0" ∷ text "2 ok 1 0" ∷ text "3 ok 0 1" ∷ text "4 ok 2 1" ∷ text "5 ok 1 1" ∷
          text "6 ok 0 2" ∷ text "end 6 2 0" ∷ []);
    }

unfoldable pub two_holders : Sample
two_holders =
    record {
      input =
          lines (text "setting 3 2 1 2" ∷ text "try 1" ∷ text "take 1" ∷ text "take 2" ∷ text "take 4" ∷ text "take 5" ∷
          text "down 1" ∷ text "up 1" ∷ text "try 2" ∷ text "take 6" ∷ text "take 8" ∷ text "take 9" ∷ text "take 10" ∷ []);
      prints =
          lines (text "gallery 3 2 1 2" ∷ text "1 ok 3 0" ∷ text "2 ok 1 0" ∷ text "3 ok 1 0" ∷ text "4 ok 0 0" ∷ text "5 ok 0 1" ∷
          text "6 ok 0 1" ∷ text "7 ok 0 1" ∷ text "8 ok 3 1" ∷ text "9 ok 1 1" ∷ text "10 ok 1 1" ∷ text "11 ok 0 1" ∷
          text "12 ok 0 2" ∷ text "end 12 2 1" ∷ []);
    }

unfoldable pub yield_round : Sample
yield_round =
    record {
      input =
          lines (text "setting 3 3 0 3" ∷ text "try 1" ∷ text "try 2" ∷ text "try 3" ∷ text "take 1" ∷ text "take 5" ∷
          text "take 9" ∷ text "take 2" ∷ text "take 3" ∷ text "take 4" ∷ text "take 6" ∷ text "take 7" ∷ text "take 8" ∷
          text "take 10" ∷ text "take 13" ∷ text "take 14" ∷ text "take 11" ∷ text "take 15" ∷ text "take 16" ∷ text "take 12" ∷
          text "take 17" ∷ text "take 18" ∷ text "take 19" ∷ text "take 22" ∷ text "take 25" ∷ text "take 23" ∷ text "take 20" ∷
          text "take 26" ∷ text "take 27" ∷ text "take 21" ∷ text "take 24" ∷ text "take 28" ∷ text "take 31" ∷ text "take 34" ∷
          text "exit 1" ∷ text "take 37" ∷ text "take 38" ∷ text "take 39" ∷ text "take 40" ∷ text "take 41" ∷ text "take 42" ∷
          text "take 29" ∷ []);
      prints =
          lines (text "gallery 3 3 0 3" ∷ text "1 ok 3 0" ∷ text "2 ok 3 0" ∷ text "3 ok 3 0" ∷ text "4 ok 1 0" ∷ text "5 ok 1 0" ∷
          text "6 ok 1 0" ∷ text "7 ok 1 0" ∷ text "8 ok 1 0" ∷ text "9 ok 1 0" ∷ text "10 ok 1 0" ∷ text "11 ok 1 0" ∷
          text "12 ok 1 0" ∷ text "13 ok 0 0" ∷ text "14 ok 0 0" ∷ text "15 ok 3 0" ∷ text "16 ok 0 0" ∷ text "17 ok 0 0" ∷
          text "18 ok 3 0" ∷ text "19 ok 0 0" ∷ text "20 ok 0 0" ∷ text "21 ok 3 0" ∷ text "22 ok 1 0" ∷ text "23 ok 1 0" ∷
          text "24 ok 1 0" ∷ text "25 ok 2 0" ∷ text "26 ok 0 0" ∷ text "27 ok 1 0" ∷ text "28 ok 2 0" ∷ text "29 ok 0 0" ∷
          text "30 ok 1 0" ∷ text "31 ok 0 0" ∷ text "32 ok 0 0" ∷ text "33 ok 0 1" ∷ text "34 ok 3 0" ∷ text "35 ok 1 0" ∷
          text "36 ok 1 0" ∷ text "37 ok 1 0" ∷ text "38 ok 0 0" ∷ text "39 ok 0 0" ∷ text "40 ok 0 1" ∷ text "41 ok 0 1" ∷
          text "end 41 1 0" ∷ []);
    }

unfoldable pub redelivery : Sample
redelivery =
    record {
      input =
          lines (text "setting 4 3 1 2" ∷ text "try 1" ∷ text "take 1" ∷ text "take 1" ∷ text "down 1" ∷ text "take 1" ∷
          text "up 1" ∷ text "take 1" ∷ text "take 5" ∷ text "take 6" ∷ text "take 2" ∷ text "take 3" ∷ text "take 7" ∷
          text "take 8" ∷ text "exit 1" ∷ text "take 9" ∷ text "take 10" ∷ text "down 2" ∷ text "up 2" ∷ text "take 2" ∷
          text "check 2" ∷ text "take 14" ∷ text "take 15" ∷ text "check 2" ∷ text "take 13" ∷ text "miss 2" ∷ text "drop 1" ∷
          text "drop 1" ∷ text "down 1" ∷ text "up 1" ∷ text "take 1" ∷ text "take 3" ∷ text "take 9" ∷ []);
      prints =
          lines (text "gallery 4 3 1 2" ∷ text "1 ok 4 0" ∷ text "2 ok 1 0" ∷ text "3 no 17" ∷ text "4 ok 0 0" ∷ text "5 no 18" ∷
          text "6 ok 0 0" ∷ text "7 ok 1 0" ∷ text "8 ok 0 0" ∷ text "9 ok 0 0" ∷ text "10 ok 1 0" ∷ text "11 ok 1 0" ∷
          text "12 ok 0 0" ∷ text "13 ok 0 1" ∷ text "14 ok 4 0" ∷ text "15 ok 0 0" ∷ text "16 ok 0 0" ∷ text "17 ok 0 0" ∷
          text "18 ok 0 0" ∷ text "19 ok 1 0" ∷ text "20 ok 1 0" ∷ text "21 ok 1 0" ∷ text "22 ok 0 0" ∷ text "23 ok 0 0" ∷
          text "24 ok 0 0" ∷ text "25 no 15" ∷ text "26 ok 0 0" ∷ text "27 no 17" ∷ text "28 ok 0 0" ∷ text "29 ok 0 0" ∷
          text "30 no 17" ∷ text "31 no 17" ∷ text "32 ok 0 0" ∷ text "end 26 1 1" ∷ []);
    }

unfoldable pub ownerless_answer : Sample
ownerless_answer =
    record {
      input =
          lines (text "setting 2 2 1 2" ∷ text "try 1" ∷ text "try 2" ∷ text "take 1" ∷ text "take 4" ∷ text "take 2" ∷
          text "take 3" ∷ text "take 6" ∷ text "take 8" ∷ text "take 5" ∷ text "take 7" ∷ text "down 1" ∷ text "up 1" ∷
          text "take 11" ∷ text "take 1" ∷ text "take 14" ∷ text "take 13" ∷ text "take 10" ∷ text "take 12" ∷ text "take 15" ∷
          text "take 16" ∷ text "down 2" ∷ text "up 2" ∷ text "take 10" ∷ text "take 17" ∷ text "take 9" ∷ text "take 18" ∷ []);
      prints =
          lines (text "gallery 2 2 1 2" ∷ text "1 ok 2 0" ∷ text "2 ok 2 0" ∷ text "3 ok 1 0" ∷ text "4 ok 1 0" ∷ text "5 ok 1 0" ∷
          text "6 ok 1 0" ∷ text "7 ok 0 0" ∷ text "8 ok 2 0" ∷ text "9 ok 0 0" ∷ text "10 ok 2 0" ∷ text "11 ok 0 0" ∷
          text "12 ok 0 0" ∷ text "13 ok 1 0" ∷ text "14 ok 1 0" ∷ text "15 ok 0 0" ∷ text "16 ok 0 0" ∷ text "17 ok 2 0" ∷
          text "18 ok 0 0" ∷ text "19 ok 0 1" ∷ text "20 ok 0 1" ∷ text "21 ok 0 1" ∷ text "22 ok 0 1" ∷ text "23 ok 1 1" ∷
          text "24 ok 0 1" ∷ text "25 ok 1 1" ∷ text "26 ok 0 1" ∷ text "end 26 1 2" ∷ []);
    }

unfoldable pub lost_release : Sample
lost_release =
    record {
      input =
          lines (text "setting 1 1 0 2" ∷ text "try 1" ∷ text "take 1" ∷ text "take 2" ∷ text "exit 1" ∷ text "try 2" ∷
          text "take 4" ∷ text "drop 3" ∷ text "try 1" ∷ text "take 6" ∷ text "take 7" ∷ text "take 5" ∷ text "exit 2" ∷
          text "take 9" ∷ text "take 10" ∷ []);
      prints =
          lines (text "gallery 1 1 0 2" ∷ text "1 ok 1 0" ∷ text "2 ok 1 0" ∷ text "3 ok 0 1" ∷ text "4 ok 1 0" ∷ text "5 ok 1 0" ∷
          text "6 ok 1 0" ∷ text "7 ok 0 0" ∷ text "8 ok 1 0" ∷ text "9 ok 2 0" ∷ text "10 ok 0 1" ∷ text "11 ok 0 1" ∷
          text "12 ok 1 0" ∷ text "13 ok 1 0" ∷ text "14 ok 0 1" ∷ text "end 14 1 0" ∷ []);
    }

unfoldable pub fallen_owner : Sample
fallen_owner =
    record {
      input =
          lines (text "setting 1 1 0 3" ∷ text "try 1" ∷ text "take 1" ∷ text "try 2" ∷ text "try 3" ∷ text "take 3" ∷
          text "take 4" ∷ text "miss 1" ∷ text "fall 1" ∷ text "fall 2" ∷ text "take 2" ∷ text "miss 1" ∷ text "take 7" ∷
          text "miss 1" ∷ text "take 8" ∷ text "miss 1" ∷ text "check 1" ∷ text "take 9" ∷ text "fall 3" ∷ text "miss 1" ∷
          text "miss 1" ∷ []);
      prints =
          lines (text "gallery 1 1 0 3" ∷ text "1 ok 1 0" ∷ text "2 ok 1 0" ∷ text "3 ok 1 0" ∷ text "4 ok 1 0" ∷ text "5 ok 1 0" ∷
          text "6 ok 1 0" ∷ text "7 no 20" ∷ text "8 ok 0 0" ∷ text "9 ok 0 0" ∷ text "10 no 18" ∷ text "11 ok 1 0" ∷
          text "12 no 18" ∷ text "13 ok 1 0" ∷ text "14 ok 0 1" ∷ text "15 no 20" ∷ text "16 ok 1 1" ∷ text "17 ok 0 1" ∷
          text "18 ok 0 0" ∷ text "19 ok 0 0" ∷ text "20 no 15" ∷ text "end 15 1 0" ∷ []);
    }

unfoldable pub epochs : Sample
epochs =
    record {
      input =
          lines (text "setting 4 1 0 2" ∷ text "down 1" ∷ text "down 2" ∷ text "up 2" ∷ text "try 1" ∷ text "down 3" ∷
          text "up 3" ∷ text "down 3" ∷ text "take 2" ∷ text "take 5" ∷ text "exit 1" ∷ text "down 4" ∷ text "up 1" ∷ text "up 3" ∷
          text "try 2" ∷ text "fall 2" ∷ text "down 1" ∷ text "down 2" ∷ text "down 3" ∷ []);
      prints =
          lines (text "gallery 4 1 0 2" ∷ text "1 ok 0 0" ∷ text "2 ok 0 0" ∷ text "3 ok 0 0" ∷ text "4 ok 4 0" ∷ text "5 ok 0 0" ∷
          text "6 ok 0 0" ∷ text "7 ok 0 0" ∷ text "8 ok 1 0" ∷ text "9 ok 0 1" ∷ text "10 ok 4 0" ∷ text "11 ok 0 0" ∷
          text "12 ok 0 0" ∷ text "13 ok 0 0" ∷ text "14 ok 4 0" ∷ text "15 ok 0 0" ∷ text "16 ok 0 0" ∷ text "17 ok 0 0" ∷
          text "18 ok 0 0" ∷ text "end 18 1 2" ∷ []);
    }

unfoldable pub refusals : Sample
refusals =
    record {
      input =
          lines (text "setting 2 1 1 2" ∷ text "exit 1" ∷ text "try 1" ∷ text "try 1" ∷ text "exit 1" ∷ text "take 1" ∷
          text "miss 1" ∷ text "miss 2" ∷ text "try 0" ∷ text "exit 3" ∷ text "fall 257" ∷ text "down 0" ∷ text "up 3" ∷
          text "miss 65537" ∷ text "check 3" ∷ text "take 0" ∷ text "take 4" ∷ text "take 4294967295" ∷ text "drop 4" ∷
          text "up 1" ∷ text "down 2" ∷ text "down 2" ∷ text "take 2" ∷ text "miss 2" ∷ text "check 2" ∷ text "fall 1" ∷
          text "fall 1" ∷ text "try 1" ∷ text "exit 1" ∷ text "take 3" ∷ text "take 1" ∷ text "nothing 1" ∷ text "miss 1" ∷
          text "miss 1" ∷ text "drop 3" ∷ text "drop 3" ∷ []);
      prints =
          lines (text "gallery 2 1 1 2" ∷ text "1 no 10" ∷ text "2 ok 2 0" ∷ text "3 no 10" ∷ text "4 no 10" ∷ text "5 ok 1 0" ∷
          text "6 no 20" ∷ text "7 no 15" ∷ text "8 no 17" ∷ text "9 no 17" ∷ text "10 no 17" ∷ text "11 no 17" ∷ text "12 no 17" ∷
          text "13 no 17" ∷ text "14 no 17" ∷ text "15 no 17" ∷ text "16 no 17" ∷ text "17 no 17" ∷ text "18 no 17" ∷
          text "19 no 18" ∷ text "20 ok 0 0" ∷ text "21 no 18" ∷ text "22 no 18" ∷ text "23 no 18" ∷ text "24 no 18" ∷
          text "25 ok 0 0" ∷ text "26 no 18" ∷ text "27 no 18" ∷ text "28 no 18" ∷ text "29 no 18" ∷ text "30 no 17" ∷
          text "31 no 16" ∷ text "32 ok 0 0" ∷ text "33 no 15" ∷ text "34 ok 0 0" ∷ text "35 no 17" ∷ text "end 6 0 1" ∷ []);
    }

unfoldable pub empty : Sample
empty =
    record {
      input =
          lines ([]);
      prints =
          lines (text "no 16" ∷ []);
    }

unfoldable pub first_line_empty : Sample
first_line_empty =
    record {
      input =
          lines (text "" ∷ text "" ∷ text "setting 1 1 0 1" ∷ []);
      prints =
          lines (text "no 16" ∷ []);
    }

unfoldable pub first_line_unknown : Sample
first_line_unknown =
    record {
      input =
          lines (text "try 1" ∷ text "setting 1 1 0 1" ∷ []);
      prints =
          lines (text "no 16" ∷ []);
    }

unfoldable pub first_line_short : Sample
first_line_short =
    record {
      input =
          lines (text "setting 4 3 1" ∷ text "try 1" ∷ []);
      prints =
          lines (text "no 16" ∷ []);
    }

unfoldable pub first_line_zero_led : Sample
first_line_zero_led =
    record {
      input =
          lines (text "setting 4 03 1 2" ∷ text "try 1" ∷ []);
      prints =
          lines (text "no 16" ∷ []);
    }

unfoldable pub first_line_past32_bits : Sample
first_line_past32_bits =
    record {
      input =
          lines (text "setting 4294967300 3 1 2" ∷ []);
      prints =
          lines (text "no 16" ∷ []);
    }

unfoldable pub first_line_of40_bytes : Sample
first_line_of40_bytes =
    record {
      input =
          lines (text "setting 4294967295 4294967295 42949672 1" ∷ []);
      prints =
          lines (text "no 7" ∷ []);
    }

unfoldable pub first_line_of41_bytes : Sample
first_line_of41_bytes =
    record {
      input =
          lines (text "setting 4294967295 4294967295 429496729 1" ∷ []);
      prints =
          lines (text "no 16" ∷ []);
    }

unfoldable pub servers0 : Sample
servers0 =
    record {
      input =
          lines (text "setting 0 0 0 2" ∷ text "try 1" ∷ []);
      prints =
          lines (text "no 7" ∷ []);
    }

unfoldable pub servers32 : Sample
servers32 =
    record {
      input =
          lines (text "setting 32 22 10 2" ∷ text "try 1" ∷ []);
      prints =
          lines (text "no 7" ∷ []);
    }

unfoldable pub threshold0 : Sample
threshold0 =
    record {
      input =
          lines (text "setting 4 0 1 2" ∷ text "try 1" ∷ []);
      prints =
          lines (text "no 7" ∷ []);
    }

unfoldable pub threshold_above_n : Sample
threshold_above_n =
    record {
      input =
          lines (text "setting 4 5 1 2" ∷ text "try 1" ∷ []);
      prints =
          lines (text "no 7" ∷ []);
    }

unfoldable pub faults_above_n : Sample
faults_above_n =
    record {
      input =
          lines (text "setting 4 3 5 2" ∷ text "try 1" ∷ []);
      prints =
          lines (text "no 7" ∷ []);
    }

unfoldable pub clients0 : Sample
clients0 =
    record {
      input =
          lines (text "setting 4 3 1 0" ∷ text "try 1" ∷ []);
      prints =
          lines (text "no 7" ∷ []);
    }

unfoldable pub clients17 : Sample
clients17 =
    record {
      input =
          lines (text "setting 4 3 1 17" ∷ text "try 1" ∷ []);
      prints =
          lines (text "no 7" ∷ []);
    }

unfoldable pub no_last_newline : Sample
no_last_newline =
    record {
      input =
          lines (text "setting 1 1 0 1" ∷ text "try 1" ∷ text "take 1" ∷ []) ++ text "take 2";
      prints =
          lines (text "gallery 1 1 0 1" ∷ text "1 ok 1 0" ∷ text "2 ok 1 0" ∷ text "3 ok 0 1" ∷ text "end 3 1 0" ∷ []);
    }

unfoldable pub empty_last_line : Sample
empty_last_line =
    record {
      input =
          lines (text "setting 1 1 0 1" ∷ text "try 1" ∷ text "" ∷ []);
      prints =
          lines (text "gallery 1 1 0 1" ∷ text "1 ok 1 0" ∷ text "2 no 16" ∷ text "end 1 0 0" ∷ []);
    }

unfoldable pub stalling_setting : Sample
stalling_setting =
    record {
      input =
          lines (text "setting 4 4 1 1" ∷ text "try 1" ∷ text "down 4" ∷ text "take 1" ∷ text "take 2" ∷ text "take 3" ∷
          text "take 4" ∷ text "take 5" ∷ text "take 6" ∷ text "take 7" ∷ text "up 4" ∷ text "take 4" ∷ text "take 8" ∷ []);
      prints =
          lines (text "gallery 4 4 1 1" ∷ text "1 ok 4 0" ∷ text "2 ok 0 0" ∷ text "3 ok 1 0" ∷ text "4 ok 1 0" ∷ text "5 ok 1 0" ∷
          text "6 no 18" ∷ text "7 ok 0 0" ∷ text "8 ok 0 0" ∷ text "9 ok 0 0" ∷ text "10 ok 0 0" ∷ text "11 ok 1 0" ∷
          text "12 ok 0 1" ∷ text "end 11 1 1" ∷ []);
    }

unfoldable pub samples : List Sample
samples = example ∷ two_holders ∷ yield_round ∷ redelivery ∷ ownerless_answer ∷ lost_release ∷ fallen_owner ∷ epochs ∷ refusals ∷ empty ∷ first_line_empty ∷ first_line_unknown ∷ first_line_short ∷ first_line_zero_led ∷ first_line_past32_bits ∷ first_line_of40_bytes ∷ first_line_of41_bytes ∷ servers0 ∷ servers32 ∷ threshold0 ∷ threshold_above_n ∷ faults_above_n ∷ clients0 ∷ clients17 ∷ no_last_newline ∷ empty_last_line ∷ stalling_setting ∷ []
