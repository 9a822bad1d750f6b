-- `sim_takes::take` meets its contract: the message is found, and handed on.
use mathlib.Core.Path.{◌≡◌, refl, sym, ◌∙◌}
use mathlib.Core.List.{List}
use Prim.Native.Nat.{ℕ}
use Rattle.sim_layout.specs.Layout.{length_of}
use Rattle.sim_takes.proofs.TakeEvents.{take-nothing, take-used, take_pends, take_leaves}
use borrow.Author.Rules.{rules}
use Rattle.sim_takes.proofs.take.Statement.{statement}
use Rattle.sim_takes.proofs.take.Tie as tie

-- the message is found
module _ (c : tie.Else-i-in_transit) where
  abbrev words : List ℕ
  words = c.args.w.now

  found : c.find_pending-i.result ≡ length_of words → ⊥
  found e = c.if-i-in_transit.false (e ∙ sym c.before.in_transit.ensures)

returns : tie.Need-returns-then-i-in_transit
returns c =
    take-nothing c.args.w.now c.args.number c.requires _ c.find_pending-i.ensures
    (c.if-i-in_transit.true ∙ c.before.in_transit.ensures)

message-at-requires : tie.Need-message_at-m-requires
message-at-requires c κs =
    (c.requires, take-used (words c) c.args.number c.requires _ c.find_pending-i.ensures (found c))

deliver-requires : tie.Need-deliver-requires
deliver-requires c κs =
    take_pends (words c.before.before) c.args.number c.requires _ c.find_pending-i.ensures (found c.before.before) _
    c.message_at-m.ensures _ refl

returns-2 : tie.Need-returns
returns-2 c =
    take_leaves (words c.before.before.before.before.before) c.args.number c.requires _ c.find_pending-i.ensures (found c.before.before.before.before.before) _ _
    c.deliver.ensures

pub take_spec : {M : Type 1} → statement M
take_spec =
    tie.close
    (tie.spec
    (λ c κs. search rules)
    (λ c κs. search rules)
    (λ c. search rules)
    returns
    message-at-requires
    deliver-requires
    (λ c. search rules)
    returns-2)
