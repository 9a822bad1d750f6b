-- `client::yield_round` meets its contract: the room decides, and the row is emptied.
use native.Mathlib.Omega.{arith}
use Prim.Native.Nat.{◌≤◌}
use Rattle.client.proofs.ValidLaws.{padded-words}
use Rattle.client.proofs.StepLaws.{filled-few, yields-short, yields-done}
use borrow.Author.Rules.{rules}
use Rattle.client.proofs.yield_round.Statement.{statement}
use Rattle.client.proofs.yield_round.Tie as tie

-- the filled places are counted
module _ (c : tie.After-filled_count-found) where
  few : c.filled_count-found.result ≤ c.args.h.n
  few = filled-few c.args.row.now _ _ c.requires c.filled_count-found.ensures

send-round-requires : tie.Need-send_round-requires
send-round-requires c κs =
    let p = c.requires in
    (p.places, padded-words _ _ p, rw c.filled_count-found.ensures at c.if-out-size.false)

pub yield_round_spec : {M : Type 1} → statement M
yield_round_spec =
    tie.close
    (tie.spec
    (λ c. search rules)
    (λ c κs. search padded-words)
    (λ c. omega (arith, few c))
    (λ c κs. search rules)
    (λ c. search rules)
    (λ c. search yields-short)
    (λ c κs. search rules)
    send-round-requires
    (λ c κs. search rules)
    (λ c κs. search rules)
    (λ c. search rules)
    (λ c. search rules)
    (λ c. search yields-done))
