-- `script_lines::put_four` meets its contract: four words, each put where the last one ended.
use native.Mathlib.Omega.{arith}
use Prim.Native.Nat.{◌+◌, ◌≤◌}
use lib.ListN.{length}
use Rattle.script_numbers.specs.Decimals.{decimal}
use Rattle.script_lines.proofs.PrintedLaws.{length_four, puts_none, puts-more, puts_end}
use borrow.Author.Rules.{rules}
use Rattle.script_lines.proofs.put_four.Statement.{statement}
use Rattle.script_lines.proofs.put_four.Tie as tie

-- at entry there is room for all four
module _ (c : tie.Start) where
  room : c.args.at + (length (decimal c.args.s.n) + length (decimal c.args.s.m) + length (decimal c.args.s.f)
      + length (decimal c.args.s.clients) + 3) ≤ length c.args.out.now
  room = omega (arith, length_four c.args.s, c.requires)

-- the first number is put, the second, the third
module _ (c : tie.After-put_number-p) where
  abbrev entry : tie.Start
  entry = c.before.before.before

module _ (c : tie.After-put_number-q) where
  abbrev one : tie.After-put_number-p
  one = c.before.before.before.before

module _ (c : tie.After-put_number-t) where
  abbrev two : tie.After-put_number-q
  two = c.before.before.before.before

returns : tie.Need-returns
returns c =
    let a = c.args in
    let e₁ = puts-more (puts_none a.out.now a.at) (decimal a.s.n) c.put_number-p.ensures in
    let e₂ = puts-more e₁ (decimal a.s.m) c.put_number-q.ensures in
    let e₃ = puts-more e₂ (decimal a.s.f) c.put_number-t.ensures in
    puts_end e₃ (decimal a.s.clients) c.put_decimal.ensures

pub put_four_spec : {M : Type 1} → statement M
put_four_spec =
    tie.close
    (tie.spec
    (λ c κs. omega (arith, room c.before.before))
    (λ c κs. omega (arith, room (entry c.before.before.before)))
    (λ c κs. omega (arith, room (entry (one c.before.before.before))))
    (λ c κs. omega (arith, room (entry (one (two c.before.before.before)))))
    (λ c. search rules)
    returns)
