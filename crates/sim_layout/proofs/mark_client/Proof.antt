-- `sim_layout::mark_client` meets its contract: the block is lent, and what the callee says of it is said of the simulation's block.
use Rattle.sim_layout.proofs.LendLaws.{client-written}
use mathlib.Core.Path.{◌≡◌, refl}
use Prim.Native.Nat.{ℕ, ◌+◌}
use mathlib.Core.Bool.{Bool, true, false}
use mathlib.Core.List.{List}
use lib.ListN.{length, set, length-set}
use Rattle.std.specs.Prelude.{if◌then◌else◌}
use Rattle.system.specs.Places.{in_epoch}
use Rattle.sim_blocks.specs.Blocks.{client_place, client_record_size}
use borrow.Author.Rules.{rules}
use Rattle.sim_layout.proofs.mark_client.Statement.{statement}
use Rattle.sim_layout.proofs.mark_client.Tie as tie

length-either : (x : Bool) (b : List ℕ) (i : ℕ) → length (if x then set b i 1 else b) ≡ length b
length-either true b i = length-set b i 1
length-either false b i = refl

returns : tie.Need-returns
returns c =
    let a = c.args in
    client-written a.w.now a.k c.requires.0 (λ b. if in_epoch (client_place b) then set b (client_record_size + a.j.0) 1 else b) _
    (λ l. length-either (in_epoch (client_place l)) l (client_record_size + a.j.0)) c.mark_down.ensures

pub mark_client_spec : {M : Type 1} → statement M
mark_client_spec =
    tie.close
    (tie.spec
    (λ c. search rules)
    (λ c. search rules)
    (λ c. search rules)
    (λ c. search rules)
    (λ c. search rules)
    (λ c. search rules)
    (λ c. search rules)
    (λ c. search rules)
    (λ c. search rules)
    (λ c κs. search rules)
    (λ c. search rules)
    returns)
