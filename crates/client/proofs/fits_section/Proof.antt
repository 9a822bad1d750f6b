-- `client::fits_section` meets its contract, section by section.
use Rattle.ids.specs.declared.Request.{Request}
use Rattle.std.specs.Prelude.{Option}
use mathlib.Core.List.{List}
use Rattle.client_responses.specs.Row.{responses_in}
use Rattle.client.proofs.ValidLaws.{section_remainder, section-trying, section_critical, section-few}
use borrow.Author.Rules.{rules}
use Rattle.client.proofs.fits_section.Statement.{statement}
use Rattle.client.proofs.fits_section.Tie as tie

-- the filled places are counted
module _ (c : tie.After-filled_count-found) where
  abbrev heard : List (Option Request)
  heard = responses_in c.args.row.now c.args.n

returns : tie.Need-returns-in-Remainder
returns c = rw c.in-Remainder.is
    (section_remainder c.args.m c.args.r (heard c.before) _ c.filled_count-found.ensures)

returns-2 : tie.Need-returns-in-Trying
returns-2 c = rw c.in-Trying.is
    (section-trying c.args.m c.args.r (heard c.before) _ c.filled_count-found.ensures)

returns-3 : tie.Need-returns-then-enough_own
returns-3 c =
    rw c.in-Critical.is
    (section_critical c.args.m c.args.r (heard c.before.before.before) _ c.filled_count-found.ensures _ c.enough_own.ensures c.if-enough_own.true)

returns-4 : tie.Need-returns-else-enough_own
returns-4 c =
    rw c.in-Critical.is
    (section-few c.args.m c.args.r (heard c.before.before.before) _ c.filled_count-found.ensures _ c.enough_own.ensures c.if-enough_own.false)

pub fits_section_spec : {M : Type 1} → statement M
fits_section_spec =
    tie.close
    (tie.spec
    (λ c κs. search rules)
    (λ c. search rules)
    (λ c. search rules)
    (λ c. search rules)
    (λ c κs. search rules)
    returns
    returns-2
    returns-3
    returns-4)
