-- `script_lines::parse_event` meets its contract: the line is cut at its first space, and what stands behind it is the number.
use Rattle.script_lines.proofs.LineLaws.{event-long, event_one_word, event_no_number, event_command}
use Rattle.script_lines.proofs.SaysLaws.{line-said}
use borrow.Author.Rules.{rules}
use Rattle.script_lines.proofs.parse_event.Statement.{statement}
use Rattle.script_lines.proofs.parse_event.Tie as tie

returns-3 : tie.Need-returns-in-Some
returns-3 c =
    line-said _ _ (event_command _ _ c.if-n-gt-MAX_LINE.false c.word_end-p.ensures c.if-p-n.false _ c.read_number.ensures.0
    _ _ _ c.in-Some.is c.command_in.ensures c.line_of.ensures)

returns-4 : tie.Need-returns-in-None
returns-4 c =
    line-said _ _ (event_no_number _ _ c.if-n-gt-MAX_LINE.false c.word_end-p.ensures c.if-p-n.false _ c.read_number.ensures.0
    c.in-None.is)

pub parse_event_spec : {M : Type 1} → statement M
parse_event_spec =
    tie.close
    (tie.spec
    (λ c. line-said _ _ (event-long _ c.if-n-gt-MAX_LINE.true))
    (λ c κs. search rules)
    (λ c. line-said _ _ (event_one_word _ _ c.if-n-gt-MAX_LINE.false c.word_end-p.ensures c.if-p-n.true))
    (λ c. search rules)
    (λ c. search rules)
    (λ c. search rules)
    (λ c. search rules)
    (λ c κs. search rules)
    (λ c. search rules)
    (λ c. search rules)
    (λ c. search rules)
    (λ c. search rules)
    (λ c κs. search rules)
    (λ c κs. search rules)
    (λ c. search rules)
    returns-3
    returns-4)
