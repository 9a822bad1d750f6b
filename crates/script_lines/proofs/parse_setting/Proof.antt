-- `script_lines::parse_setting` meets its contract: the first word is `setting`, and four numbers stand behind it.
use Rattle.script_lines.proofs.FirstLaws.{setting-long, setting_one_word, setting-other, setting-numbers}
use Rattle.script_lines.proofs.SaysLaws.{first_said}
use borrow.Author.Rules.{rules}
use Rattle.script_lines.proofs.parse_setting.Statement.{statement}
use Rattle.script_lines.proofs.parse_setting.Tie as tie

returns-3 : tie.Need-returns-then-not-equal
returns-3 c =
    first_said _ _ (setting-other _ _ c.if-line-gt-MAX_LINE.false c.word_end-p.ensures c.if-p-line.false _ c.equal.ensures c.if-not-equal.true)

returns-4 : tie.Need-returns
returns-4 c =
    first_said _ _ (setting-numbers _ _ c.if-line-gt-MAX_LINE.false c.word_end-p.ensures c.if-p-line.false _ c.equal.ensures
    _ c.if-not-equal.false c.four_from.ensures)

pub parse_setting_spec : {M : Type 1} → statement M
parse_setting_spec =
    tie.close
    (tie.spec
    (λ c. first_said _ _ (setting-long _ c.if-line-gt-MAX_LINE.true))
    (λ c κs. search rules)
    (λ c. first_said _ _ (setting_one_word _ _ c.if-line-gt-MAX_LINE.false c.word_end-p.ensures c.if-p-line.true))
    (λ c. search rules)
    (λ c. search rules)
    (λ c. search rules)
    (λ c κs. search rules)
    returns-3
    (λ c. search rules)
    (λ c κs. search rules)
    returns-4)
