-- What a call leaves behind, refused or not: the record, the answer and every byte of the buffer, from the outcome that the server's definitions give.
use Rattle.wire.specs.declared.Sent.{Sent}
use Rattle.ids.specs.declared.Refusal.{Refusal}
use Rattle.std.specs.Prelude.{ℕ, List, ◌≡◌, Result}
use Rattle.wire.specs.Step.{Outcome, answer_of, sent_into}
use Rattle.wire.specs.Says.{answer_says, outcome_says}
use Rattle.server_votes.specs.Figure1.{State}
use Rattle.server.specs.declared.Server.{Server}
use Rattle.server.specs.Calls.{server_after}

-- a call with this outcome returns r, and leaves the record s and the buffer out as they are named with a stroke
pub record Leaves (o : Outcome State) (r : Result Sent Refusal) (s s' : Server) (out out' : List ℕ) : Type 0 where
  -- the messages sent and their bytes, or the refusal
  pub answered : r ≡ answer_of o
  -- the same in document 01's numbers
  pub said : answer_says r ≡ outcome_says o
  -- the record after the step, or as it was
  pub stored : s' ≡ server_after s o
  -- the messages from the buffer's start, and the bytes behind them as they were
  pub written : out' ≡ sent_into out o
