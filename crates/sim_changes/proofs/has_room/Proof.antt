-- `sim_changes::has_room_lem` meets its contract: each return is one case of the test.
use native.Mathlib.Omega.{arith}
use Rattle.sim_changes.proofs.Parties.{words_long}
use Rattle.sim_changes.proofs.Posting.{transit-few, room-none, room-short, room-last}
use borrow.Author.Rules.{rules}
use Rattle.sim_changes.proofs.has_room.Statement.{statement}
use Rattle.sim_changes.proofs.has_room.Tie as tie

returns : tie.Need-returns-then-count-eq0
returns c =
    room-none c.args.w.now c.args.gone c.args.count c.if-count-eq0.true

shared-slice-read-if2 : tie.Need-bounds-w-4
shared-slice-read-if2 c =
    omega (arith, words_long c.args.w.now c.requires.0)

add-if2 : tie.Need-overflow_add-w
add-if2 c =
    record { fits = omega (arith, transit-few c.args.w.now c.requires.0) }

returns-2 : tie.Need-returns-then-w-gone-gt-MAX_MESSAGES
returns-2 c =
    room-short c.args.w.now c.args.gone c.args.count c.if-count-eq0.false c.if-w-gone-gt-MAX_MESSAGES.true

shared-slice-read-result : tie.Need-bounds-w-5
shared-slice-read-result c =
    omega (arith, words_long c.args.w.now c.requires.0)

returns-3 : tie.Need-returns
returns-3 c =
    room-last c.args.w.now c.args.gone c.args.count c.if-count-eq0.false c.if-w-gone-gt-MAX_MESSAGES.false c.requires.2

pub has_room_spec : {M : Type 1} → statement M
has_room_spec =
    tie.close
    (tie.spec
    returns
    (λ c. search rules)
    shared-slice-read-if2
    (λ c. search rules)
    add-if2
    returns-2
    shared-slice-read-result
    (λ c. search rules)
    returns-3)
