-- `sim_changes::send_mails` meets its contract: what one mail leaves is what the next one finds.
use Rattle.sim_changes.proofs.Posting.{first-asked, second-asked, third-asked, three_sent}
use borrow.Author.Rules.{rules}
use Rattle.sim_changes.proofs.send_mails.Statement.{statement}
use Rattle.sim_changes.proofs.send_mails.Tie as tie

send-mail-requires : tie.Need-send_mail-requires
send-mail-requires c κs = first-asked c.args.w.now c.args.first c.args.second c.args.third c.requires

send-mail-requires-2 : tie.Need-send_mail-requires-2
send-mail-requires-2 c κs =
    second-asked c.args.w.now c.args.first c.args.second c.args.third c.requires _ c.send_mail.ensures

send-mail-requires-3 : tie.Need-send_mail-requires-3
send-mail-requires-3 c κs =
    third-asked c.args.w.now c.args.first c.args.second c.args.third c.requires _ c.send_mail.ensures _ c.send_mail-2.ensures

returns : tie.Need-returns
returns c =
    three_sent c.args.w.now c.args.first c.args.second c.args.third c.requires _ c.send_mail.ensures _ c.send_mail-2.ensures _
    c.send_mail-3.ensures

pub send_mails_spec : {M : Type 1} → statement M
send_mails_spec =
    tie.close
    (tie.spec
    send-mail-requires
    send-mail-requires-2
    send-mail-requires-3
    (λ c. search rules)
    returns)
