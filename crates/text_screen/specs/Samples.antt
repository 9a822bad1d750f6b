-- What the screen says of some settings, and of some numbers of servers and faults, worked out by hand from document 01.
use Rattle.std.specs.Prelude.{◌≡◌, ℕ, List, [], ◌∷◌, ◌++◌, map}
use Rattle.script_lines.specs.Words.{text, newline}
use Rattle.text_screen.specs.Screen.{report, proposal}

-- texts, one after another
unfoldable pub joined : List (List ℕ) → List ℕ
joined [] = []
joined (t ∷ ts) = t ++ joined ts

-- the texts are these lines, each with its newline
abbrev pub Tells : List (List ℕ) → List (List ℕ) → Type 0
Tells texts lines = joined texts ≡ joined (map (λ line. line ++ (newline ∷ [])) lines)

pub record Reports : Type 0 where
  pub accepted : Tells (report 4 3 1) (text "ok" ∷ text "margin 1" ∷ text "usual threshold 3 for f up to 1" ∷ [])
  pub unsafe : Tells (report 3 2 1) (text "no 8 unsafe" ∷ text "margin 0" ∷ text "events 12" ∷ text "usual threshold 2 for f up to 0" ∷ [])
  pub below_zero : Tells (report 3 1 3) (text "no 8 unsafe" ∷ text "margin -4" ∷ text "events 6" ∷ text "usual threshold 2 for f up to 0" ∷ [])
  pub stalls : Tells (report 4 4 1) (text "no 9 stalls" ∷ text "margin 3" ∷ text "usual threshold 3 for f up to 1" ∷ [])
  pub outside : Tells (report 4 5 1) (text "no 7 out of range" ∷ text "usual threshold 3 for f up to 1" ∷ [])
  pub no_servers : Tells (report 256 3 1) (text "no 7 out of range" ∷ [])

pub record Proposals : Type 0 where
  pub one : Tells (proposal 4 1) (text "thresholds 3 to 3" ∷ text "usual threshold 3 for f up to 1" ∷ [])
  pub several : Tells (proposal 7 1) (text "thresholds 5 to 6" ∷ text "usual threshold 5 for f up to 2" ∷ [])
  pub no_faults : Tells (proposal 5 0) (text "thresholds 3 to 5" ∷ text "usual threshold 4 for f up to 1" ∷ [])
  pub none : Tells (proposal 3 1) (text "thresholds none" ∷ text "usual threshold 2 for f up to 0" ∷ [])
  pub alone : Tells (proposal 1 0) (text "thresholds 1 to 1" ∷ text "usual threshold 1 for f up to 0" ∷ [])
  pub largest : Tells (proposal 255 84) (text "thresholds 170 to 171" ∷ text "usual threshold 170 for f up to 84" ∷ [])
  pub too_many : Tells (proposal 255 85) (text "thresholds none" ∷ text "usual threshold 170 for f up to 84" ∷ [])
  pub faults_above_n : Tells (proposal 4 5) (text "no 7 out of range" ∷ text "usual threshold 3 for f up to 1" ∷ [])
  pub no_servers : Tells (proposal 0 0) (text "no 7 out of range" ∷ [])
