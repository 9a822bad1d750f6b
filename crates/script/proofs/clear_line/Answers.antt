-- The part that is filled with zeros comes back in its place.
use Rattle.std.proofs.Common.{◌≡◌, ◌+◌, ◌-◌, ℕ, List, ap, get_or, set, replicate, arith, rules}
use Rattle.std.proofs.lemmas.List.{length-replicate}
use Rattle.rows.proofs.CopyLaws.{part-whole}
use Rattle.script.specs.State.{line_from, length_at}
use Rattle.script.proofs.clear_line.Goals as goal

pub returns : goal.returns
returns c =
    let w = c.args.w.now in
    let n = get_or w length_at 0 in
    let e : c.fill.new.self ≡ replicate n 0 = search rules in
    ap (λ (l : List ℕ). set l length_at 0)
    (part-whole w _ (replicate n 0) line_from (line_from + n - line_from) (omega arith) (omega (arith, length-replicate {A = ℕ} n 0)) e)
