-- Each turn puts one message.
use Rattle.std.proofs.Common.{◌≡◌, arith}
use Rattle.sim_layout.specs.Layout.{length_of}
use Rattle.text_knowledge.proofs.MailLaws.{its-transit, mail_none, mail_more}
use Rattle.text_knowledge.proofs.put_mail.Goals as goal

pub loop-i-init : goal.loop-i-init
loop-i-init c = mail_none _ _

pub loop-i-preserved : goal.loop-i-preserved
loop-i-preserved c = mail_more _ c.loop-i.i _ c.loop-i.invariant c.put_in_transit-end.ensures

pub returns : goal.returns
returns c =
    let w = c.args.w.now in
    let e : c.loop-i.i ≡ length_of w = omega arith in
    rw (← its-transit w, ← e) c.loop-i.invariant
