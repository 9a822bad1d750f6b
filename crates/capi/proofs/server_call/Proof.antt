-- `capi::server_call` meets its contract: the row is the words behind the head, and the step on it is the outcome on the words.
use Rattle.std.specs.Prelude.{Ok}
use mathlib.Core.Path.{◌≡◌}
use Prim.Native.Nat.{◌≤◌}
use native.Mathlib.Omega.{arith}
use lib.ListN.{length}
use Rattle.server.specs.Record as server
use Rattle.words.specs.Records.{max_word, server_size}
use Rattle.words.proofs.RecordsLaws.{server-held}
use Rattle.capi.proofs.StepLaws.{refused_leaves, no_server_lem, is-server, server-long, server-kept, server-short, server_leaves}
use borrow.Author.Rules.{rules}
use Rattle.capi.proofs.server_call.Statement.{statement}
use Rattle.capi.proofs.server_call.Tie as tie

-- the words are a server's record
module _ (c : tie.Else-not-holds_server) where
  long : length c.args.state.now ≡ server_size
  long = server-long _ _ c.holds_server.ensures c.if-not-holds_server.false

-- the step is made
module _ (c : tie.After-server_step-t) where
  abbrev tested : tie.Else-not-holds_server
  tested = c.before.before.before.before.before.before.before

  kept : length c.server_step-t.new.row ≡ server.row_words
  kept = server-kept _ _ c.holds_server.ensures c.if-not-holds_server.false _ _ c.server_head-h.ensures
      c.copy.ensures c.args.call _ _ c.server_step-t.ensures

  short : c.server_step-t.result.ruling ≡ Ok tt → c.server_step-t.result.head.votes.len ≤ max_word
  short = server-short _ _ c.holds_server.ensures c.if-not-holds_server.false _ _ c.server_head-h.ensures
      c.copy.ensures c.args.call _ _ c.server_step-t.ensures

server-head-requires : tie.Need-server_head-h-requires
server-head-requires c κs = (server-held _ _ (is-server _ _ c.holds_server.ensures c.if-not-holds_server.false)).headed

part-copy-end : tie.Need-slice_bounds-copy-end
part-copy-end c = omega (arith, long c.before)

server-finish-requires : tie.Need-server_finish-requires
server-finish-requires c κs = (omega (arith, long (tested c.before.before.before.before.before), kept c.before.before.before.before.before), short c.before.before.before.before.before)

pub server_call_spec : {M : Type 1} → statement M
server_call_spec =
    tie.close
    (tie.spec
    (λ c κs. search rules)
    (λ c κs. search rules)
    (λ c. search rules)
    (λ c. search (refused_leaves, no_server_lem))
    server-head-requires
    (λ c. search rules)
    (λ c. search rules)
    part-copy-end
    (λ c. search rules)
    (λ c κs. search rules)
    (λ c. search rules)
    (λ c κs. search rules)
    (λ c. search rules)
    server-finish-requires
    (λ c. search rules)
    (λ c. search rules)
    (λ c. search rules)
    (λ c. search server_leaves))
