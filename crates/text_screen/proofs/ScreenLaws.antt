-- The margin as a difference of two numbers, and a run's lines one behind the other.
use mathlib.Core.Path.{◌≡◌}
use Prim.Native.Nat.{ℕ, suc, ◌+◌, ◌-◌, ◌*◌, ◌≤◌, ◌<◌}
use native.Mathlib.Omega.{arith}
use mathlib.Core.Bool.{Bool, true, false}
use mathlib.Core.List.{[], ◌∷◌, ◌++◌}
use lib.IntN.{sub_ℕ}
use lib.ListN.{length}
use borrow.Author.Tests.{lt-ltb, le-ltb, lt-leb, le-leb}
use Rattle.script_numbers.specs.Decimals.{largest32, decimal}
use Rattle.script_lines.specs.Words.{text}
use Rattle.script_lines.specs.Printed.{setting_line}
use Rattle.script_lines.proofs.PrintedLaws.{setting-short}
use Rattle.quorum.specs.Check.{in_range}
use Rattle.quorum.specs.Run.{run_event}
use Rattle.system.specs.Limits.{system_servers}
use Rattle.ids.proofs.Choice.{fails, holds}
use Rattle.quorum.proofs.CheckLaws.{margin_difference}
use Rattle.text_sheet.specs.Sheet.{Sheet, puts, ends}
use Rattle.text_sheet.proofs.SheetLaws.{then}
use Rattle.text_screen.specs.Screen.{signed, margin_text, limit_text, asked_text, run_text, opening}

module _ (a b : ℕ) where
  pub signed_below : a < b → signed (sub_ℕ a b) ≡ text "-" ∷ decimal (b - a) ∷ []
  signed_below h =
      let e : suc (b - suc a) ≡ b - a = omega arith in
      rw (lt-ltb a b h, e)

  pub signed-from : b ≤ a → signed (sub_ℕ a b) ≡ decimal (a - b) ∷ []
  signed-from h = rw (le-ltb a b h)

module _ (n m f : ℕ) where
  pub margin-none : (x : Bool) → x ≡ in_range n m f → x ≡ false → margin_text n m f ≡ []
  unfolding margin_text
  margin-none x e h = rw (fails x (in_range n m f) e h)

  pub margin_some : (x : Bool) → x ≡ in_range n m f → x ≡ true → margin_text n m f ≡ text "margin " ∷ (signed (sub_ℕ (2 * m) (n + f)) ++ ends)
  unfolding margin_text
  margin_some x e h = rw (holds x (in_range n m f) e h, margin_difference n m f)

  -- one event more, event number i
  pub one_more : (i j : ℕ) (s₀ : Sheet) {s₁ s₂ : Sheet} → 1 ≤ i → i ≡ j → s₁ ≡ puts (run_text n m f (i - 1)) s₀
      → s₂ ≡ puts (asked_text (run_event n m f i)) s₁ → s₂ ≡ puts (run_text n m f j) s₀
  unfolding run_text
  one_more i j s₀ h e p q =
      let k : j ≡ suc (i - 1) = omega arith in
      let k' : i ≡ suc (i - 1) = omega arith in
      rw k (then s₀ _ _ p (rw k' at q))

-- the line on servers too many for a simulation
pub limit_none : (n : ℕ) → n ≤ system_servers → limit_text n ≡ []
unfolding limit_text
limit_none n h = rw (le-leb n system_servers h)

pub limit_said : (n : ℕ) → system_servers < n → limit_text n ≡ text "fits no gallery: at most " ∷ decimal system_servers ∷ text " keepers" ∷ ends
unfolding limit_text
limit_said n h = rw (lt-leb n system_servers h)

-- room for the first line
pub opening-short : (n m f : ℕ) → n ≤ largest32 → m ≤ largest32 → f ≤ largest32 → length (setting_line (opening n m f)) ≤ 51
opening-short n m f a b c = setting-short (opening n m f) (record { n = a; m = b; f = c; clients = omega arith })
