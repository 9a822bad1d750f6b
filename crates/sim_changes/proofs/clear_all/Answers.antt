-- Zeros are blank.
use Rattle.std.proofs.Common.{◌≡◌, length, replicate, refl, eqb, rules}
use Rattle.ids.proofs.ListLaws.{every-same}
use Rattle.sim_changes.proofs.clear_all.Goals as goal

pub returns : goal.returns
returns c =
    let e : c.fill.new.self ≡ replicate (length c.args.w.now) 0 = search rules in
    record { same = c.fill.ensures.len; zeros = rw e (every-same (eqb 0) (length c.args.w.now) 0 refl) }
