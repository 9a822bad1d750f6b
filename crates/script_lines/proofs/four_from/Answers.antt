-- Each number is looked for behind the space that ended the last one.
use Rattle.std.proofs.Common.{◌≡◌, None, rules, arith}
use Rattle.script_lines.proofs.FirstLaws.{found, no_first, no_second, no_third, no_fourth, all_four}
use Rattle.script_lines.proofs.four_from.Goals as goal

pub returns-in_err-n : goal.returns-in_err-n
returns-in_err-n c =
    let e : c.from_residual.result ≡ None = search rules in
    rw e (no_first _ _ _ c.read_field.ensures c.in_err-n.was)

pub read_field-requires-2 : goal.read_field-requires-2
read_field-requires-2 c = (found _ _ _ _ _ c.requires c.read_field.ensures c.in_ok-n.was).within

pub returns-in_err-m : goal.returns-in_err-m
returns-in_err-m c =
    let e : c.from_residual-in_err-m.result ≡ None = search rules in
    let one = found _ _ _ _ _ c.requires c.read_field.ensures c.in_ok-n.was in
    rw e (no_second _ _ _ _ one _ c.read_field-2.ensures c.in_err-m.was)

pub read_field-requires-3 : goal.read_field-requires-3
read_field-requires-3 c =
    let one = found _ _ _ _ _ c.requires c.read_field.ensures c.in_ok-n.was in
    (found _ _ _ _ _ one.within c.read_field-2.ensures c.in_ok-m.was).within

pub returns-in_err-f : goal.returns-in_err-f
returns-in_err-f c =
    let e : c.from_residual-in_err-f.result ≡ None = search rules in
    let one = found _ _ _ _ _ c.requires c.read_field.ensures c.in_ok-n.was in
    let two = found _ _ _ _ _ one.within c.read_field-2.ensures c.in_ok-m.was in
    rw e (no_third _ _ _ _ one _ _ two _ c.read_field-3.ensures c.in_err-f.was)

pub slice_bounds-read_number-count : goal.slice_bounds-read_number-count
slice_bounds-read_number-count c =
    let one = found _ _ _ _ _ c.requires c.read_field.ensures c.in_ok-n.was in
    let two = found _ _ _ _ _ one.within c.read_field-2.ensures c.in_ok-m.was in
    omega (arith, (found _ _ _ _ _ two.within c.read_field-3.ensures c.in_ok-f.was).within)

pub slice_bounds-read_number-start : goal.slice_bounds-read_number-start
slice_bounds-read_number-start c =
    let one = found _ _ _ _ _ c.requires c.read_field.ensures c.in_ok-n.was in
    let two = found _ _ _ _ _ one.within c.read_field-2.ensures c.in_ok-m.was in
    omega (arith, (found _ _ _ _ _ two.within c.read_field-3.ensures c.in_ok-f.was).within)

pub returns-in_err-clients : goal.returns-in_err-clients
returns-in_err-clients c =
    let e : c.from_residual-in_err-clients.result ≡ None = search rules in
    let one = found _ _ _ _ _ c.requires c.read_field.ensures c.in_ok-n.was in
    let two = found _ _ _ _ _ one.within c.read_field-2.ensures c.in_ok-m.was in
    let three = found _ _ _ _ _ two.within c.read_field-3.ensures c.in_ok-f.was in
    rw e (no_fourth _ _ _ _ one _ _ two _ _ three _ c.read_number.ensures.value c.in_err-clients.was)

pub returns : goal.returns
returns c =
    let one = found _ _ _ _ _ c.requires c.read_field.ensures c.in_ok-n.was in
    let two = found _ _ _ _ _ one.within c.read_field-2.ensures c.in_ok-m.was in
    let three = found _ _ _ _ _ two.within c.read_field-3.ensures c.in_ok-f.was in
    all_four _ _ _ _ one _ _ two _ _ three _ c.read_number.ensures.value _ c.in_ok-clients.was
