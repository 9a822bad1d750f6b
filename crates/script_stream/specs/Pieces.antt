-- A part of the script is answered piece by piece. What a piece prints stands at the start of the buffer, and from there it is written: no more
-- and no less, which is the one line `console::write_out(.., &out[0..wrote])` in `answer_some`.
use Rattle.std.specs.Prelude.{◌≡◌, ℕ, Bool, true, List, [], ◌∷◌, ◌++◌, length, drop}
use Rattle.std.proofs.lemmas.List.Edits.{sets}
use Rattle.script_output.specs.Reader.{Reader, fed_within}
use Rattle.script.specs.State.{view, valid}

-- reader, bytes still to come and buffer after these pieces of a part
pub data Pieces (r : Reader) (part out : List ℕ) : List (List ℕ) → Reader → List ℕ → List ℕ → Type 0 where
  no_piece : Pieces r part out [] r part out
  one_more : {ps : List (List ℕ)} {r' : Reader} {rest out' : List ℕ} → Pieces r part out ps r' rest out' →
      Pieces r part out (ps ++ ((fed_within (length out) r' rest).out ∷ [])) (fed_within (length out) r' rest).now
      (drop (fed_within (length out) r' rest).used rest) (sets out' 0 (fed_within (length out) r' rest).out)

-- what they print in all
abbrev pub joined : List (List ℕ) → List ℕ
joined [] = []
joined (p ∷ ps) = p ++ joined ps

-- some pieces of the part are answered, and all of it if `all` says so
pub record Answers (w part out : List ℕ) (all : Bool) (w' out' : List ℕ) : Type 0 where
  pub pieces : List (List ℕ)
  pub rest : List ℕ
  pub answered : Pieces (view w) part out pieces (view w') rest out'
  pub whole : all ≡ true → rest ≡ []
  pub again : valid w' ≡ true
