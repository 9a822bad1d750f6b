-- `script::answer` meets its contract: what the parser said of the line decides, and after a million lines nothing is done.
use mathlib.Core.Path.{sym, ◌∙◌}
use Rattle.script.specs.Inner.{Ready, Reads}
use Rattle.script.proofs.StepLaws.{unread_does, reading, bad_does, unknown_does, event_does}
use borrow.Author.Rules.{rules}
use Rattle.script.proofs.answer.Statement.{statement}
use Rattle.script.proofs.answer.Tie as tie

-- there is a line to be read
module _ (c : tie.Else-w-ge-MAX_LINES) where
  abbrev entry : tie.Start
  entry = c.before.before.before.before

  ready : Ready c.args.w.now c.args.out.now c.args.at × Reads c.args.w.now
  ready = (c.requires.0, reading _ c.args.out.now c.args.at c.requires.0 c.requires.1 c.if-w-ge-MAX_LINES.false)

-- it is read
module _ (c : tie.After-read_event-line) where
  abbrev more : tie.Else-w-ge-MAX_LINES
  more = c.before

returns : tie.Need-returns-then-w-ge-MAX_LINES
returns c =
    unread_does c.args.w.now c.args.out.now c.args.at c.requires.0 c.requires.1 c.if-w-ge-MAX_LINES.true

returns-2 : tie.Need-returns-in-Bad
returns-2 c =
    bad_does c.args.w.now c.args.out.now c.args.at c.requires.0 _ _ _ c.requires.1 c.if-w-ge-MAX_LINES.false
    (sym c.in-Bad.is ∙ c.read_event-line.ensures) c.pass.ensures

returns-3 : tie.Need-returns-in-Unknown
returns-3 c =
    unknown_does c.args.w.now c.args.out.now c.args.at c.requires.0 _ _ _ c.requires.1 c.if-w-ge-MAX_LINES.false
    (sym c.in-Unknown.is ∙ c.read_event-line.ensures) c.pass-in-Unknown.ensures

returns-4 : tie.Need-returns-in-Event
returns-4 c =
    event_does c.args.w.now c.args.out.now c.args.at c.requires.0 _ _ _ c.requires.1 c.if-w-ge-MAX_LINES.false
    _ (sym c.in-Event.is ∙ c.read_event-line.ensures) c.happen.ensures

pub answer_spec : {M : Type 1} → statement M
answer_spec =
    tie.close
    (tie.spec
    (λ c. search rules)
    returns
    (λ c κs. search rules)
    (λ c. search rules)
    (λ c κs. ready (more c.before.before.before))
    (λ c. search rules)
    (λ c κs. ready (more c.before.before.before))
    (λ c. search rules)
    (λ c κs. ready (more c.before.before.before))
    (λ c. search rules)
    (λ c. search rules)
    returns-2
    (λ c. search rules)
    (λ c. search rules)
    returns-3
    (λ c. search rules)
    (λ c. search rules)
    returns-4)
