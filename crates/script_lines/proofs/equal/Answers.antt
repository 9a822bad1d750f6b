-- The library's test of two words is ours.
use Rattle.std.proofs.Common.{◌∙◌}
use Rattle.script_lines.proofs.WordLaws.{equal_words}
use Rattle.script_lines.proofs.equal.Goals as goal

pub returns : goal.returns
returns c = c.eq.ensures ∙ equal_words _ _
