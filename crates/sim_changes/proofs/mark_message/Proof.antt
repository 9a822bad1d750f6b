-- `sim_changes::mark_message` meets its contract: the messages and their index come back changed, and the words around them stay.
use native.Mathlib.Omega.{arith}
use Rattle.sim_layout.proofs.EntryLaws.{held-lent}
use Rattle.sim_changes.proofs.Parties.{words_long}
use Rattle.sim_changes.proofs.Messages.{transit-count, mark-becomes}
use borrow.Author.Rules.{rules}
use Rattle.sim_changes.proofs.mark_message.Statement.{statement}
use Rattle.sim_changes.proofs.mark_message.Tie as tie

slice-read-len : tie.Need-bounds-w-4
slice-read-len c =
    omega (arith, words_long c.args.w.now c.requires.valid)

cast-len : tie.Need-overflow_cast-len
cast-len c =
    record { fits = omega (arith, transit-count c.args.w.now c.requires.valid) }

part-mark-end : tie.Need-slice_bounds-mark-end
part-mark-end c =
    omega (arith, words_long c.args.w.now c.requires.valid)

mark-requires : tie.Need-mark-requires
mark-requires c κs =
    (held-lent c.args.w.now c.requires.valid, c.requires.used)

returns : tie.Need-returns
returns c =
    mark-becomes c.args.w.now c.requires.valid c.args.i _ c.mark.ensures

pub mark_message_spec : {M : Type 1} → statement M
mark_message_spec =
    tie.close
    (tie.spec
    slice-read-len
    cast-len
    (λ c. search rules)
    (λ c. search rules)
    part-mark-end
    mark-requires
    (λ c. search rules)
    returns)
