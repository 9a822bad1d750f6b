-- `script::close` meets its contract: the last line and the end are a line each at most, so that there is room for both; the end is that of the
-- stage which the last line left.
use Rattle.script.specs.Inner.{Sound}
use Rattle.script.proofs.LineLaws.{sound}
use Rattle.script.proofs.FeedLaws.{closing_ready, ending_ready, closing}
use borrow.Author.Rules.{rules}
use Rattle.script.proofs.close.Statement.{statement}
use Rattle.script.proofs.close.Tie as tie

-- the last line is done
module _ (c : tie.After-last-at) where
  abbrev entry : tie.Start
  entry = c.before.before.before.before.before

  whole : Sound c.last-at.new.w
  whole = sound _ c.last-at.ensures.again

-- the end is printed, which leaves the words
module _ (c : tie.After-end-wrote) where
  abbrev done : tie.After-last-at
  done = c.before.before.before.before.before.before

last-requires : tie.Need-last-at-requires
last-requires c κs =
    closing_ready c.args.w.now c.args.out.now c.requires.0 c.requires.1

end-requires : tie.Need-end-wrote-requires
end-requires c κs =
    ending_ready c.args.w.now c.args.out.now c.requires.0 c.requires.1 _ _ _ c.last-at.ensures

seal-requires : tie.Need-seal-requires
seal-requires c κs = (whole (done c.before.before.before)).long

returns : tie.Need-returns
returns c =
    closing c.args.w.now c.args.out.now c.requires.0 c.requires.1 _ _ _ c.last-at.ensures _ _ c.end-wrote.ensures _ c.seal.ensures

pub close_spec : {M : Type 1} → statement M
close_spec =
    tie.close
    (tie.spec
    last-requires
    end-requires
    seal-requires
    (λ c. search rules)
    (λ c. search rules)
    returns)
