-- `sim_changes::send_message` meets its contract: the slots and the index come back with the message, and the two words that count them are stored.
-- A section for each place on the way says what holds there; the needs below it cite these.
use native.Mathlib.Omega.{arith}
use Prim.Native.Nat.{ℕ, ◌+◌, ◌≤◌}
use mathlib.Core.Path.{◌≡◌, refl}
use mathlib.Core.Bool.{true}
use mathlib.Core.List.{List, [], ◌∷◌}
use lib.ListN.{length, take, drop}
use Rattle.ids.proofs.Choice.{both}
use Rattle.wire.specs.Format as format
use Rattle.wire.specs.declared.Message.{Message}
use Rattle.system.specs.Limits.{system_messages, last_number}
use Rattle.sim_indexed.specs.Indexed.{indexed_size}
use Rattle.sim_indexed.specs.Calls.{Posts}
use Rattle.sim_layout.specs.Layout.{length_of, sent_of, transit_from, simulation_size}
use Rattle.sim_changes.proofs.Parties.{words_long}
use Rattle.sim_changes.proofs.Posting.{transit-few, room-left, posted-long, counted-long, send_becomes, can_post}
use borrow.Author.Rules.{rules}
use Rattle.sim_changes.proofs.send_message.Statement.{statement}
use Rattle.sim_changes.proofs.send_message.Tie as tie

-- at entry
module _ (d : tie.Start) where
  abbrev words : List ℕ
  words = d.args.w.now

  abbrev new : List Message
  new = d.args.m ∷ []

  long : length words ≡ simulation_size
  long = words_long words d.requires.valid

-- the two counts are read
module _ (c : tie.After-slice_known-3-1) where
  abbrev entry : tie.Start
  entry = c.before.before.before

  room : (length_of (words entry) + 1 ≤ system_messages) × (sent_of (words entry) + 1 ≤ last_number)
  room =
      let p = c.requires in
      room-left (words entry) 1 (new entry) p.valid refl p.room p.named
      (omega (arith, c.slice_known-1.given 5))

-- the message is posted
module _ (c : tie.After-slice_known-4-1) where
  abbrev read : tie.After-slice_known-3-1
  read = c.before.before.before.before

  done : Posts (length_of (words (entry read))) (sent_of (words (entry read))) (new (entry read)) (take indexed_size (drop transit_from (words (entry read))))
      c.post_message.new.t
  done = c.post_message.ensures

slice-read-len : tie.Need-bounds-w-4
slice-read-len c = omega (arith, long c.before.before)

cast-len : tie.Need-overflow_cast-len
cast-len c = let d = c.before.before in record { fits = omega (arith, transit-few (words d) c.requires.valid) }

post-message-requires : tie.Need-post_message-requires
post-message-requires c κs =
    let d = entry c.before in
    let p = c.requires in
    let r = room c.before in
    (can_post (words d) 1 (new d) p.valid refl p.room p.named r, (both (format.valid c.args.m) true p.range).0)

add-w : tie.Need-overflow_add-w
add-w c = let r = room (read c) in record { fits = omega (arith, r.0, r.1) }

cast-w : tie.Need-overflow_cast-w
cast-w c = let r = room (read c) in record { fits = omega (arith, r.0, r.1) }

slice-write-w : tie.Need-bounds-w-4-2
slice-write-w c =
    let d = entry (read c) in
    let p = c.requires in
    omega (arith, posted-long (words d) 1 (new d) p.valid refl p.room p.named _ (done c))

add-w-2 : tie.Need-overflow_add-w-2
add-w-2 c = let r = room (read c) in record { fits = omega (arith, r.0, r.1) }

slice-write-w-2 : tie.Need-bounds-w-5-2
slice-write-w-2 c =
    let d = entry (read c) in
    let p = c.requires in
    omega (
      arith,
      counted-long (words d) 1 (new d) p.valid refl p.room p.named _ (done c)
          (length_of (words d) + 1),
    )

returns : tie.Need-returns
returns c =
    let d = entry (read c) in
    let p = c.requires in
    send_becomes (words d) 1 (new d) p.valid refl p.room p.named _ (done c)

pub send_message_spec : {M : Type 1} → statement M
send_message_spec =
    tie.close
    (tie.spec
    slice-read-len
    cast-len
    (λ c. omega (arith, words_long c.args.w.now c.requires.valid))
    (λ c. search rules)
    (λ c. search rules)
    (λ c. omega (arith, long (entry c)))
    post-message-requires
    add-w
    cast-w
    slice-write-w
    add-w-2
    slice-write-w-2
    (λ c. search rules)
    returns)
