-- The state of Figure 1 in a server's votes and its row.
use Rattle.std.specs.Prelude.{ℕ, List}
use Rattle.rows.specs.Rows.{queue_of}
use Rattle.server_votes.specs.declared.Votes.{Votes}
use Rattle.server_votes.specs.Figure1.{State}

abbrev pub view : Votes → List ℕ → State
view v row = record { owner = v.owner; queue = queue_of row v.len }
