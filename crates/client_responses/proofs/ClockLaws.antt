-- Figure 1's lines pass on what the client has seen, so that a RESPONSE or a CHECK raises it to the timestamp told, whatever else comes of it.
use Rattle.ids.specs.declared.Request.{Request}
use Rattle.std.specs.Prelude.{Option}
use mathlib.Core.Path.{◌≡◌, refl, ap}
use Prim.Native.Nat.{ℕ, max}
use mathlib.Core.Bool.{Bool, true, false}
use mathlib.Core.List.{List, map}
use mathlib.Core.Logic.{⊎_elim}
use lib.Dec.{eqb}
use Rattle.ids.specs.declared.ClientId.{ClientId}
use Rattle.ids.specs.declared.ServerId.{ServerId}
use Rattle.ids.specs.declared.Timestamp.{Timestamp}
use Rattle.ids.proofs.Choice.{decided}
use Rattle.client_responses.specs.Figure1.{State, Quorum, request, filled, own, is_trying, saw, heard, decide, judge, told, upon_response, upon_check, responds, checked}

module _ (n : ℕ) (wins : Quorum) (k : ClientId) (j : ServerId) where
  decide-keeps : (a b : Bool) (c : State) (l : List (Option Request)) → (decide a b n k c l).state.seen ≡ c.seen
  decide-keeps true true c l = refl
  decide-keeps true false c l = refl
  decide-keeps false b c l = refl

  response-keeps : (o : Option Request) (c : State) → (upon_response wins n k j o c).state.seen ≡ c.seen
  unfolding upon_response judge
  response-keeps o c =
      let l = heard (request k c) c.responses j o in
      ⊎_elim
      (λ (e : is_trying c.section ≡ true). rw e (decide-keeps (wins (map filled l)) (wins (own (request k c) l)) c l))
      (λ (e : is_trying c.section ≡ false). rw e)
      (decided (is_trying c.section))

  check-keeps : (t : Timestamp) (c : State) → (upon_check k j t c).state.seen ≡ c.seen
  unfolding upon_check
  check-keeps t c =
      ⊎_elim
      (λ (e : eqb t.0 c.timestamp.0 ≡ true). rw e)
      (λ (e : eqb t.0 c.timestamp.0 ≡ false). rw e)
      (decided (eqb t.0 c.timestamp.0))

  pub responds_sees : (o : Option Request) (c : State) → (responds wins n k j o c).state.seen.0 ≡ max c.seen.0 (told o).0
  responds_sees o c = ap (λ (t : Timestamp). t.0) (response-keeps o (saw (told o) c))

  pub checked_sees : (t : Timestamp) (c : State) → (checked k j t c).state.seen.0 ≡ max c.seen.0 t.0
  checked_sees t c = ap (λ (s : Timestamp). s.0) (check-keeps t (saw t c))
