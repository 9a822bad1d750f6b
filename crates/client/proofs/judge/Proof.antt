-- `client::judge` meets its contract: the counts are the quorum's verdicts.
use Rattle.client.proofs.ValidLaws.{padded-words}
use Rattle.client.proofs.StepLaws.{verdicts}
use borrow.Author.Rules.{rules}
use Rattle.client.proofs.judge.Statement.{statement}
use Rattle.client.proofs.judge.Tie as tie

returns : tie.Need-returns
returns c =
    rw (verdicts c.args.h c.args.row.now _ _ _ c.filled_count.ensures c.request_of.ensures c.own_count.ensures) c.decide.ensures

pub judge_spec : {M : Type 1} → statement M
judge_spec =
    tie.close
    (tie.spec
    (λ c. search rules)
    (λ c. search rules)
    (λ c κs. search padded-words)
    (λ c κs. search rules)
    (λ c κs. search padded-words)
    (λ c κs. search rules)
    (λ c. search rules)
    (λ c. search rules)
    returns)
