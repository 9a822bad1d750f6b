-- `script_lines::put_ok` meets its contract: four words, each put where the last one ended.
use native.Mathlib.Omega.{arith}
use Prim.Native.Nat.{◌+◌, ◌≤◌}
use lib.ListN.{length}
use Rattle.script_numbers.specs.Decimals.{decimal}
use Rattle.script_lines.specs.Words.{text}
use Rattle.script_lines.specs.Printed.{ok_line}
use Rattle.script_lines.proofs.PrintedLaws.{length_ok, puts_none, puts-more, puts-last}
use borrow.Author.Rules.{rules}
use Rattle.script_lines.proofs.put_ok.Statement.{statement}
use Rattle.script_lines.proofs.put_ok.Tie as tie

-- at entry there is room for the line
module _ (c : tie.Start) where
  room : c.args.at + (length (decimal c.args.number) + length (decimal c.args.sent) + length (decimal c.args.holders) + 6)
      ≤ length c.args.out.now
  room = omega (arith, length_ok c.args.number c.args.sent c.args.holders, c.requires)

-- the number is put, the word, the messages sent
module _ (c : tie.After-put_number-p) where
  abbrev entry : tie.Start
  entry = c.before.before.before

module _ (c : tie.After-put_word-q) where
  abbrev one : tie.After-put_number-p
  one = c.before.before.before.before.before.before

module _ (c : tie.After-put_number-t) where
  abbrev two : tie.After-put_word-q
  two = c.before.before.before.before

returns : tie.Need-returns
unfolding ok_line
returns c =
    let a = c.args in
    let e₁ = puts-more (puts_none a.out.now a.at) (decimal a.number) c.put_number-p.ensures in
    let e₂ = puts-more e₁ (text "ok") c.put_word-q.ensures in
    let e₃ = puts-more e₂ (decimal a.sent) c.put_number-t.ensures in
    puts-last e₃ (decimal a.holders) c.put_number.ensures

pub put_ok_spec : {M : Type 1} → statement M
put_ok_spec =
    tie.close
    (tie.spec
    (λ c κs. omega (arith, room c.before.before))
    (λ c κs. omega (arith, room (entry c.before.before.before.before.before)))
    (λ c κs. omega (arith, room (entry (one c.before.before.before))))
    (λ c κs. omega (arith, room (entry (one (two c.before.before.before)))))
    (λ c. search rules)
    returns)
