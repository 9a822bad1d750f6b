-- `text_knowledge::put_in_transit` meets its contract: the three calls read the slot, and its number, message and mark are put one after
-- another.
use mathlib.Core.Path.{◌≡◌, sym}
use Rattle.sim_layout.specs.Layout.{transit_words}
use Rattle.text_sheet.proofs.SheetLaws.{then}
use Rattle.sim_indexed.specs.Indexed.{slot_in}
use Rattle.text_knowledge.specs.Mail.{in_transit_text}
use borrow.Author.Rules.{rules}
use Rattle.text_knowledge.proofs.put_in_transit.Statement.{statement}
use Rattle.text_knowledge.proofs.put_in_transit.Tie as tie

-- the slot is read
module _ (c : tie.After-message_at-m) where
  its-slot : slot_in (transit_words c.args.w.now) c.args.i
      ≡ record { number = c.number_at-number.result.0; delivered = c.is_delivered-delivered.result; message = c.message_at-m.result }
  its-slot =
      let e = c.number_at-number.ensures in
      let f = c.is_delivered-delivered.ensures in
      let g = c.message_at-m.ensures in
      λ j. record { number = sym e j; delivered = sym f j; message = sym g j }

returns : tie.Need-returns
unfolding in_transit_text
returns c =
    let marked = then _ _ _ c.put_standing-e.ensures c.put.ensures in
    rw (its-slot c.before.before.before.before.before.before.before.before.before.before.before.before.before.before.before.before.before.before.before.before) (then _ _ _ c.put_with-p.ensures (then _ _ _ c.put_message-q.ensures marked))

pub put_in_transit_spec : {M : Type 1} → statement M
put_in_transit_spec =
    tie.close
    (tie.spec
    (λ c κs. search rules)
    (λ c κs. search rules)
    (λ c κs. search rules)
    (λ c κs. search rules)
    (λ c κs. search rules)
    (λ c κs. search rules)
    (λ c κs. search rules)
    (λ c. search rules)
    returns)
