-- `sim_indexed::post` meets its contract: the messages stand in the slots, and then in the index.
use native.Mathlib.Omega.{arith}
use Rattle.sim_transit.proofs.PostLaws.{posts_read}
use Rattle.sim_indexed.proofs.ListingLaws.{post_may, post_unlisted, posts_both, posts_same}
use Rattle.sim_indexed.proofs.post.Goals as goal

pub post-requires : goal.post-requires
post-requires c = let m = post_may _ _ _ _ c.requires.0 in
    (rw c.requires.1 at m.0, rw c.requires.1 at m.1, c.requires.1)

pub overflow_add-len : goal.overflow_add-len
overflow_add-len c = record { fits = omega (arith, c.requires.0.room, c.requires.1) }

pub list_slots-requires : goal.list_slots-requires
list_slots-requires c =
    let posted = let p = c.requires in let m = post_may _ _ _ _ p.0 in posts_read _ _ _ _ _ _ (rw p.1 at m.0) p.1 c.post.ensures in
    rw c.requires.1 at (post_unlisted _ _ _ _ c.requires.0 _ posted)

pub shape_of-t : goal.shape_of-t
shape_of-t c =
    let posted = let p = c.requires in let m = post_may _ _ _ _ p.0 in posts_read _ _ _ _ _ _ (rw p.1 at m.0) p.1 c.post.ensures in
    posts_same _ _ _ _ c.requires.0 _ posted c.list_slots.new.t (rw c.requires.1 c.list_slots.ensures)

pub returns : goal.returns
returns c =
    let posted = let p = c.requires in let m = post_may _ _ _ _ p.0 in posts_read _ _ _ _ _ _ (rw p.1 at m.0) p.1 c.post.ensures in
    posts_both _ _ _ _ c.requires.0 _ posted c.list_slots.new.t (rw c.requires.1 c.list_slots.ensures)
