-- `quorum::propose` meets its contract: each return is one case of the definition.
use native.Mathlib.Omega.{arith}
use Rattle.ids.specs.Limits.{within, max_servers}
use Rattle.ids.proofs.Choice.{holds}
use Rattle.quorum.proofs.ReturnLaws.{few_servers}
use Rattle.quorum.proofs.ProposalLaws.{proposes_no_servers, proposes_no_faults, proposes_none, proposes_some}
use Rattle.quorum.proofs.propose.Goals as goal

pub returns-then-not-within_limit : goal.returns-then-not-within_limit
returns-then-not-within_limit c = let said = let a = c.args in
    proposes_no_servers a.n a.f _ c.within_limit.ensures c.if-not-within_limit.true in record { value = said.0; numbers = said.1 }

pub returns-then-n-f : goal.returns-then-n-f
returns-then-n-f c = let said = let servers = holds _ (within c.args.n max_servers) c.within_limit.ensures c.if-not-within_limit.false in
    let a = c.args in
    proposes_no_faults a.n a.f servers c.if-n-f.true in record { value = said.0; numbers = said.1 }

pub overflow_add-n : goal.overflow_add-n
overflow_add-n c =
    let few = few_servers c.args.n _ c.within_limit.ensures c.if-not-within_limit.false in
    record { fits = omega (arith, few) }

pub overflow_add-least : goal.overflow_add-least
overflow_add-least c =
    let few = few_servers c.args.n _ c.within_limit.ensures c.if-not-within_limit.false in
    record { fits = omega (arith, few) }

pub returns-then-n-least : goal.returns-then-n-least
returns-then-n-least c = let said = let servers = holds _ (within c.args.n max_servers) c.within_limit.ensures c.if-not-within_limit.false in
    let a = c.args in
    proposes_none a.n a.f servers c.if-n-f.false _ c.above_half-least.ensures c.if-n-least.true in record { value = said.0; numbers = said.1 }

pub returns : goal.returns
returns c = let said = let servers = holds _ (within c.args.n max_servers) c.within_limit.ensures c.if-not-within_limit.false in
    let a = c.args in
    proposes_some a.n a.f servers c.if-n-f.false _ c.above_half-least.ensures c.if-n-least.false in record { value = said.0; numbers = said.1 }
