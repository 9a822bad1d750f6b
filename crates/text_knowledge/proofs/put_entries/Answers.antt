-- Each turn puts one entry, and past the last of them nothing is listed.
use native.Mathlib.Omega.{arith}
use Rattle.std.proofs.Common.{List, sym, ◌∙◌}
use Rattle.sim_layout.specs.Layout.{view}
use Rattle.system.specs.Index.{Entry, index_of}
use Rattle.text_knowledge.proofs.BoxLaws.{entries_few, none_past, entries_none, entries_more, entries_all}
use Rattle.text_knowledge.proofs.put_entries.Goals as goal

pub loop-i-init : goal.loop-i-init
loop-i-init c = entries_none (index_of c.args.r (view c.args.w.now).transit) _

pub returns-in_default : goal.returns-in_default
returns-in_default c =
    let l : List Entry = index_of c.args.r (view c.args.w.now).transit in
    entries_all l _ c.loop-i.i (none_past _ _ (sym c.in_default.is ∙ c.entry_of.ensures)) c.loop-i.invariant

pub loop-i-preserved : goal.loop-i-preserved
loop-i-preserved c =
    let l : List Entry = index_of c.args.r (view c.args.w.now).transit in
    entries_more l _ c.loop-i.i _ _ (sym c.in-Some.is ∙ c.entry_of.ensures) c.loop-i.invariant c.put_entry-end.ensures

pub returns : goal.returns
returns c =
    let w = c.args.w.now in
    let l : List Entry = index_of c.args.r (view w).transit in
    entries_all l _ c.loop-i.i (omega (arith, entries_few w c.args.r)) c.loop-i.invariant
