-- `client::take_response` meets its contract: whom the message is for decides.
use Rattle.ids.specs.Limits.{max_servers}
use Rattle.client.proofs.StepLaws.{answers-refused, response_elsewhere, response-range, its-server, response-taken}
use borrow.Author.Rules.{rules}
use Rattle.client.proofs.take_response.Statement.{statement}
use Rattle.client.proofs.take_response.Tie as tie

-- whom the message is for is tested
module _ (c : tie.After-for_client) where
  abbrev entry : tie.Start
  entry = c.before.before.before

respond-row-requires : tie.Need-respond_row-requires
respond-row-requires c κs =
    let s = entry c.before.before.before in
    let v = response-range max_servers c.args.k c.args.j c.args.o c.requires.1 in
    (c.requires.0, v.0, its-server c.args.h c.args.row.now c.args.k c.args.j _ c.for_client.ensures c.if-not-for_client.false, v.1)

returns-2 : tie.Need-returns
returns-2 c =
    let a = c.args in
    rw (response-taken a.h _ a.k a.j _ c.for_client.ensures c.if-not-for_client.false a.o) c.respond_row.ensures

pub take_response_spec : {M : Type 1} → statement M
take_response_spec =
    tie.close
    (tie.spec
    (λ c κs. search rules)
    (λ c κs. search rules)
    (λ c. search (answers-refused, response_elsewhere))
    respond-row-requires
    (λ c. search rules)
    (λ c. search rules)
    returns-2)
