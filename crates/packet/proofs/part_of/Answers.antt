-- What was given says where the part ends.
use Rattle.std.proofs.Common.{◌≡◌, Ok, Some, None, rules, arith, sym, ◌∙◌}
use Rattle.packet.proofs.Shown.{shows, end_shows, refused-shows}
use Rattle.packet.proofs.part_of.Goals as goal

pub slice_bounds-result-count : goal.slice_bounds-result-count
slice_bounds-result-count c =
    let e : c.args.next ≡ Ok (Some (c.in-Ok-Some.field-0-0-0, c.in-Ok-Some.end)) = search rules in
    omega (arith, (shows _ _ _ _ (sym c.requires ∙ e)).order)

pub slice_bounds-result-start : goal.slice_bounds-result-start
slice_bounds-result-start c =
    let e : c.args.next ≡ Ok (Some (c.in-Ok-Some.field-0-0-0, c.in-Ok-Some.end)) = search rules in
    omega (arith, (shows _ _ _ _ (sym c.requires ∙ e)).order)

pub slice_bounds-result-end : goal.slice_bounds-result-end
slice_bounds-result-end c =
    let e : c.args.next ≡ Ok (Some (c.in-Ok-Some.field-0-0-0, c.in-Ok-Some.end)) = search rules in
    let w = shows _ _ _ _ (sym c.requires ∙ e) in
    omega (arith, w.within, w.lent)

pub returns-in-Ok-Some : goal.returns-in-Ok-Some
returns-in-Ok-Some c =
    let e : c.args.next ≡ Ok (Some (c.in-Ok-Some.field-0-0-0, c.in-Ok-Some.end)) = search rules in
    (shows _ _ _ _ (sym c.requires ∙ e)).shown

pub returns-in-Ok-None : goal.returns-in-Ok-None
returns-in-Ok-None c =
    let e : c.args.next ≡ Ok None = search rules in
    end_shows _ _ _ c.requires e

pub returns-in-Err : goal.returns-in-Err
returns-in-Err c = refused-shows _ _ _ c.requires _ c.in-Err.is
