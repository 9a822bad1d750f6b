-- After i turns the messages of the first i slots stand there.
use Rattle.std.proofs.Common.{◌≡◌}
use Rattle.sim_layout.specs.Layout.{transit_words}
use Rattle.sim_indexed.specs.Indexed.{in_transit}
use Rattle.text_knowledge.specs.Mail.{mail_text}
use Rattle.text_sheet.specs.Sheet.{sheet, puts}
use Rattle.text_knowledge.proofs.put_mail.Given as goal

abbrev pub invariant-loop-i : goal.invariant-loop-i
invariant-loop-i l = sheet l.out l.end ≡ puts (mail_text (in_transit l.i (transit_words l.w))) (sheet l.initial.out l.initial.end)
