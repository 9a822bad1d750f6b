-- `sim_changes::restart_messages` meets its contract: the messages and their index come back changed, and the words around them stay.
use native.Mathlib.Omega.{arith}
use Rattle.sim_changes.proofs.Parties.{words_long}
use Rattle.sim_layout.proofs.EntryLaws.{held-lent}
use Rattle.sim_changes.proofs.Messages.{transit-count, server-place, restart-becomes}
use borrow.Author.Rules.{rules}
use Rattle.sim_changes.proofs.restart_messages.Statement.{statement}
use Rattle.sim_changes.proofs.restart_messages.Tie as tie

slice-read-len : tie.Need-bounds-w-4
slice-read-len c =
    let a = c.args in
    omega (arith, words_long a.w.now c.requires.valid)

cast-len : tie.Need-overflow_cast-len
cast-len c =
    let a = c.args in
    record { fits = omega (arith, transit-count a.w.now c.requires.valid) }

part-restart-end : tie.Need-slice_bounds-restart-end
part-restart-end c =
    let a = c.args in
    omega (arith, words_long a.w.now c.requires.valid)

restart-requires : tie.Need-restart-requires
restart-requires c κs =
    let a = c.args in
    (held-lent a.w.now c.requires.valid, server-place a.w.now a.j c.requires)

returns : tie.Need-returns
returns c =
    let a = c.args in
    restart-becomes a.w.now c.requires.valid a.j _ c.restart.ensures

pub restart_messages_spec : {M : Type 1} → statement M
restart_messages_spec =
    tie.close
    (tie.spec
    slice-read-len
    cast-len
    (λ c. search rules)
    (λ c. search rules)
    part-restart-end
    restart-requires
    (λ c. search rules)
    returns)
