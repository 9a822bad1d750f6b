-- `script_lines::put_end` meets its contract: four words, each put where the last one ended.
use native.Mathlib.Omega.{arith}
use Prim.Native.Nat.{◌+◌, ◌≤◌}
use lib.ListN.{length}
use Rattle.script_numbers.specs.Decimals.{decimal}
use Rattle.script_lines.specs.Words.{text}
use Rattle.script_lines.specs.Printed.{end_line}
use Rattle.script_lines.proofs.PrintedLaws.{length_end, puts_none, puts-more, puts-last}
use borrow.Author.Rules.{rules}
use Rattle.script_lines.proofs.put_end.Statement.{statement}
use Rattle.script_lines.proofs.put_end.Tie as tie

-- at entry there is room for the line
module _ (c : tie.Start) where
  room : c.args.at + (length (decimal c.args.accepted) + length (decimal c.args.holders) + length (decimal c.args.downs) + 7)
      ≤ length c.args.out.now
  room = omega (arith, length_end c.args.accepted c.args.holders c.args.downs, c.requires)

-- the word is put, the events accepted, the holders
module _ (c : tie.After-put_word-p) where
  abbrev entry : tie.Start
  entry = c.before.before.before.before.before

module _ (c : tie.After-put_number-q) where
  abbrev one : tie.After-put_word-p
  one = c.before.before.before.before

module _ (c : tie.After-put_number-t) where
  abbrev two : tie.After-put_number-q
  two = c.before.before.before.before

returns : tie.Need-returns
unfolding end_line
returns c =
    let a = c.args in
    let e₁ = puts-more (puts_none a.out.now a.at) (text "end") c.put_word-p.ensures in
    let e₂ = puts-more e₁ (decimal a.accepted) c.put_number-q.ensures in
    let e₃ = puts-more e₂ (decimal a.holders) c.put_number-t.ensures in
    puts-last e₃ (decimal a.downs) c.put_number.ensures

pub put_end_spec : {M : Type 1} → statement M
put_end_spec =
    tie.close
    (tie.spec
    (λ c κs. omega (arith, room c.before.before.before.before))
    (λ c κs. omega (arith, room (entry c.before.before.before)))
    (λ c κs. omega (arith, room (entry (one c.before.before.before))))
    (λ c κs. omega (arith, room (entry (one (two c.before.before.before)))))
    (λ c. search rules)
    returns)
