-- `sim_changes::remove_message` meets its contract: the messages and their index come back changed, and the words around them stay.
use native.Mathlib.Omega.{arith}
use Rattle.sim_changes.proofs.Parties.{words_long}
use Rattle.sim_layout.proofs.EntryLaws.{held-lent}
use Rattle.sim_changes.proofs.Messages.{transit-count, removed-long, remove_becomes}
use borrow.Author.Rules.{rules}
use Rattle.sim_changes.proofs.remove_message.Statement.{statement}
use Rattle.sim_changes.proofs.remove_message.Tie as tie

slice-read-len : tie.Need-bounds-w-4
slice-read-len c =
    let a = c.args in
    omega (arith, words_long a.w.now c.requires.valid)

cast-len : tie.Need-overflow_cast-len
cast-len c =
    let a = c.args in
    record { fits = omega (arith, transit-count a.w.now c.requires.valid) }

part-remove-end : tie.Need-slice_bounds-remove-end
part-remove-end c =
    let a = c.args in
    omega (arith, words_long a.w.now c.requires.valid)

remove-requires : tie.Need-remove-requires
remove-requires c κs =
    let a = c.args in
    (held-lent a.w.now c.requires.valid, c.requires.used)

cast-w : tie.Need-overflow_cast-w
cast-w c =
    let a = c.args in
    record { fits = omega (arith, transit-count a.w.now c.requires.valid) }

slice-write-w : tie.Need-bounds-w-4-2
slice-write-w c =
    let a = c.args in
    omega (arith, removed-long a.w.now c.requires.valid a.i _ c.remove.ensures)

returns : tie.Need-returns
returns c =
    let a = c.args in
    remove_becomes a.w.now c.requires.valid a.i _ c.remove.ensures

pub remove_message_spec : {M : Type 1} → statement M
remove_message_spec =
    tie.close
    (tie.spec
    slice-read-len
    cast-len
    (λ c. search rules)
    (λ c. search rules)
    part-remove-end
    remove-requires
    (λ c. search rules)
    cast-w
    slice-write-w
    (λ c. search rules)
    returns)
