-- `script_lines::put_event` meets its contract: the event's word is found among the names, and its number stands behind it.
use native.Mathlib.Omega.{arith}
use mathlib.Core.Path.{◌≡◌, ◌∙◌}
use Prim.Native.Nat.{◌-◌}
use lib.ListN.{take, drop}
use Rattle.script_lines.specs.Printed.{word_of}
use Rattle.script_lines.specs.Inner.{names}
use Rattle.script_lines.proofs.WordLaws.{cut_word}
use Rattle.script_lines.proofs.PrintedLaws.{word_room, number-room, put-line}
use borrow.Author.Rules.{rules}
use Rattle.script_lines.proofs.put_event.Statement.{statement}
use Rattle.script_lines.proofs.put_event.Tie as tie

-- the event's word is found
module _ (c : tie.After-word_end-to) where
  named : take (c.word_end-to.result - c.name_at-from.result) (drop c.name_at-from.result names) ≡ word_of c.args.e
  named = cut_word names _ _ c.word_end-to.ensures.0 ∙ c.name_at-from.ensures.1

-- and put
module _ (c : tie.After-put_word-p) where
  abbrev found : tie.After-word_end-to
  found = c.before.before.before

put-word-requires : tie.Need-put_word-p-requires
put-word-requires c κs =
    word_room c.args.e _ (named c.before.before) _ _ c.requires

put-decimal-requires : tie.Need-put_decimal-requires
put-decimal-requires c κs =
    omega (arith, number-room c.args.e _ (named c.before.before.before.before.before.before.before) _ _ _ c.number_of.ensures _ c.put_word-p.ensures.0 c.requires)

returns : tie.Need-returns
returns c =
    let q = c.before.before in
    put-line c.args.e _ (named c.before.before.before.before.before.before.before.before.before.before) _ _ _ q.before.number_of.ensures
    c.args.out.now _ _ _ c.put_word-p.ensures c.put_decimal.ensures

pub put_event_spec : {M : Type 1} → statement M
put_event_spec =
    tie.close
    (tie.spec
    (λ c κs. search rules)
    (λ c κs. search rules)
    (λ c. search rules)
    (λ c. search rules)
    (λ c. search rules)
    put-word-requires
    (λ c κs. search rules)
    put-decimal-requires
    (λ c. search rules)
    returns)
