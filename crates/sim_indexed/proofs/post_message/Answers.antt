-- `sim_indexed::post_message` meets its contract: the message stands in a slot, and then in the index.
use native.Mathlib.Omega.{arith}
use Rattle.sim_transit.proofs.PostLaws.{posts_one}
use Rattle.sim_indexed.proofs.ListingLaws.{joining-none, joining-slot, post_may, post_unlisted, posts_both, posts_same}
use Rattle.sim_indexed.proofs.post_message.Goals as goal

pub post_message-requires : goal.post_message-requires
post_message-requires c = let p = c.requires in let m = post_may _ _ _ _ p.0 in (m.0, m.1, p.1)

pub list_slot-requires : goal.list_slot-requires
list_slot-requires c =
    let posted = let p = c.requires in posts_one _ _ _ _ _ (post_may _ _ _ _ p.0).0 p.1 c.post_message.ensures in
    joining-slot _ _ _ _ _ (joining-none _ _ _ (post_unlisted _ _ _ _ c.requires.0 _ posted)) (omega arith)

pub shape_of-t : goal.shape_of-t
shape_of-t c =
    let posted = let p = c.requires in posts_one _ _ _ _ _ (post_may _ _ _ _ p.0).0 p.1 c.post_message.ensures in
    posts_same _ _ _ _ c.requires.0 _ posted _ c.list_slot.ensures

pub returns : goal.returns
returns c =
    let posted = let p = c.requires in posts_one _ _ _ _ _ (post_may _ _ _ _ p.0).0 p.1 c.post_message.ensures in
    posts_both _ _ _ _ c.requires.0 _ posted _ c.list_slot.ensures
