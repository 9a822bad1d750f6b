-- `capi::client_call` meets its contract: the step is made on the words behind the head, and the head then stored before them.
use mathlib.Core.Path.{◌≡◌}
use native.Mathlib.Omega.{arith}
use lib.ListN.{length}
use Rattle.words.specs.Records.{client_size}
use Rattle.words.proofs.RecordsLaws.{client-held}
use Rattle.capi.specs.Inner.{Storable}
use Rattle.capi.proofs.StepLaws.{refused_leaves, no_client_lem, is-client, client-long, client_row_long, client_short_leaves, client_storable, client_done_leaves}
use borrow.Author.Rules.{rules}
use Rattle.capi.proofs.client_call.Statement.{statement}
use Rattle.capi.proofs.client_call.Tie as tie

-- the words are a client's record
module _ (c : tie.Else-not-holds_client) where
  long : length c.args.state.now ≡ client_size
  long = client-long _ _ c.holds_client.ensures c.if-not-holds_client.false

-- its head is read
module _ (c : tie.After-client_head-h) where
  abbrev tested : tie.Else-not-holds_client
  tested = c.before

  abbrev entry : tie.Start
  entry = c.before.before.before.before.before.before

-- the step is made
module _ (c : tie.After-client_step-t) where
  abbrev loaded : tie.After-client_head-h
  loaded = c.before.before.before.before

  storable : Storable c.client_step-t.result.answer
  storable =
      let t = tested loaded in
      let e = entry loaded in
      client_storable _ _ t.holds_client.ensures t.if-not-holds_client.false _ c.client_head-h.ensures e.args.call
      e.args.out.now e.args.sent.now _ _ _ c.client_step-t.ensures

client-head-requires : tie.Need-client_head-h-requires
client-head-requires c κs = (client-held _ _ (is-client _ _ c.holds_client.ensures c.if-not-holds_client.false)).headed

client-finish-requires : tie.Need-client_finish-requires
client-finish-requires c κs =
    (omega (arith, long (tested c.before.before.before.before.before.before.before.before.before.before)), c.if-sent-lt2.false, storable c.before.before.before.before.before.before)

pub client_call_spec : {M : Type 1} → statement M
client_call_spec =
    tie.close
    (tie.spec
    (λ c κs. search rules)
    (λ c κs. search rules)
    (λ c. search rules)
    (λ c. search (refused_leaves, no_client_lem))
    client-head-requires
    (λ c. search rules)
    (λ c. search rules)
    (λ c. omega (arith, long (tested c.before)))
    (λ c κs. search client_row_long)
    (λ c. search rules)
    (λ c. search client_short_leaves)
    (λ c. search rules)
    (λ c. search rules)
    (λ c. omega (arith, long (tested c.before)))
    (λ c κs. search rules)
    client-finish-requires
    (λ c. search rules)
    (λ c. search rules)
    (λ c. search rules)
    (λ c. search client_done_leaves))
