-- The bytes of a part one after another: what is left of the part prints behind what is printed, as the definition has it.
use Rattle.script.specs.declared.Progress.{Progress}
use Rattle.ids.specs.declared.Refusal.{Refusal}
use Rattle.std.specs.Prelude.{Ok, Err, Result}
use mathlib.Core.Path.{◌≡◌, refl, sym, ap, ◌∙◌}
use Prim.Native.Nat.{ℕ, suc, ◌+◌, ◌-◌, ◌≤◌, ◌<◌}
use native.Mathlib.Numerals.{add-one}
use native.Mathlib.Omega.{arith}
use mathlib.Core.Bool.{Bool, true, false, ◌&&◌}
use mathlib.Core.List.{List, [], ◌∷◌, ◌++◌, append-nil, append_assoc}
use lib.Dec.{leb}
use lib.ListN.{length, get_or, set, drop, replicate, length-append}
use lib.Seq.{sets, drop-cons, drop-length, length-sets}
use borrow.Author.Tests.{lt-ltb, le-ltb, le-leb, lt-leb}
use Rattle.ids.proofs.Choice.{clash, fails, holds}
use Rattle.ids.specs.declared.Refusal.TheVariants.{RoomShort, InvalidRecord}
use Rattle.wire.proofs.BytesLaws.{stored_on}
use Rattle.script_output.specs.Reader.{Reader, Printed, taken, Fed, max_printed, followed, fed_within, ended, last_line, finished, max_kept}
use Rattle.script.specs.State.{stage_closed, stage_at, length_at, view, valid, state_size}
use Rattle.script.specs.Calls.{feed_answer, Leaves, FeedLeaves, finish_answer, FinishLeaves, max_ending}
use Rattle.script.specs.Inner.{Sound, Ready, Prints, Does, Takes, FedAs, Closes}
use Rattle.script.proofs.LineLaws.{sound}
use Rattle.script.proofs.NewLaws.{closed-reader, closed-valid}

-- behind what is printed and used so far
abbrev follows : List ℕ → ℕ → Fed → Fed
follows o used q = record { now = q.now; out = o ++ q.out; used = used + q.used }

-- nothing more is taken in where nothing is left, or no room
stop_end : (room : ℕ) (r : Reader) → fed_within room r [] ≡ record { now = r; out = []; used = 0 }
unfolding fed_within
stop_end room r = refl

stop_room : (room : ℕ) (r : Reader) (s : List ℕ) → room < max_printed → fed_within room r s ≡ record { now = r; out = []; used = 0 }
unfolding fed_within
stop_room room r [] h = refl
stop_room room r (b ∷ s) h = rw (lt-ltb room max_printed h)

one_more : (room : ℕ) (r : Reader) (b : ℕ) (s : List ℕ) → max_printed ≤ room
    → fed_within room r (b ∷ s) ≡ followed (taken r b) (fed_within (room - length (taken r b).out) (taken r b).now s)
unfolding fed_within
one_more room r b s h = rw (le-ltb room max_printed h)

-- what the loop knows before byte `used`
pub record Feeding (w₀ input out₀ w out : List ℕ) (used at : ℕ) : Type 0 where
  pub valid : valid w ≡ true
  pub long : length w ≡ state_size
  pub begun : length w₀ ≡ state_size
  pub short : get_or w length_at 0 ≤ max_kept
  pub within : used ≤ length input
  pub fits : at ≤ length out
  pub size : length out ≡ length out₀
  pub printed : List ℕ
  pub place : at ≡ length printed
  pub bytes : out ≡ sets out₀ 0 printed
  pub rest : fed_within (length out₀) (view w₀) input ≡ follows printed used (fed_within (length out₀ - at) (view w) (drop used input))

module _ {w₀ input out₀ w out : List ℕ} {used at : ℕ} (F : Feeding w₀ input out₀ w out used at) where
  pub feeding_more : used < length input → max_printed ≤ length out - at → (w' out' : List ℕ) (r : ℕ)
      → Takes out at (taken (view w) (get_or input used 0)) w' out' r → Feeding w₀ input out₀ w' out' (used + 1) r
  feeding_more lt room w' out' r T =
      let S = sound w' T.again in
      let b : ℕ = get_or input used 0 in
      let p : Printed Reader = taken (view w) b in
      let P = T.prints in
      record {
        valid = T.again;
        long = S.long;
        begun = F.begun;
        short = S.short;
        within = omega arith;
        fits = omega (arith, P.place, F.size, F.fits, P.few, ap length P.bytes, length-sets out at p.out);
        size = ap length P.bytes ∙ (length-sets out at p.out ∙ F.size);
        printed = F.printed ++ p.out;
        place = omega (arith, P.place, F.place, length-append F.printed p.out);
        bytes = stored_on out₀ out out' F.printed p.out 0 at F.bytes P.bytes (omega (arith, F.place));
        rest = F.rest ∙ (ap (follows F.printed used) (next T) ∙ regroup T);
      }
    where
      next : (T : Takes out at (taken (view w) (get_or input used 0)) w' out' r) →
          fed_within (length out₀ - at) (view w) (drop used input) ≡ followed (taken (view w) (get_or input used 0))
          (fed_within (length out₀ - r) (view w') (drop (used + 1) input))
      next T =
          let z : length out₀ - at - length (taken (view w) (get_or input used 0)).out ≡ length out₀ - r = omega (arith, T.prints.place) in
          ap (fed_within (length out₀ - at) (view w)) (drop-cons input used 0 lt) ∙
          (one_more (length out₀ - at) (view w) (get_or input used 0) (drop (suc used) input) (omega (arith, room, F.size)) ∙
          rw (z, T.reader, add-one used))

      regroup : (T : Takes out at (taken (view w) (get_or input used 0)) w' out' r) →
          follows F.printed used (followed (taken (view w) (get_or input used 0)) (fed_within (length out₀ - r) (view w') (drop (used + 1) input))) ≡
          follows (F.printed ++ (taken (view w) (get_or input used 0)).out) (used + 1) (fed_within (length out₀ - r) (view w') (drop (used + 1) input))
      regroup T =
          let q : Fed = fed_within (length out₀ - r) (view w') (drop (used + 1) input) in
          let a = sym (append_assoc F.printed (taken (view w) (get_or input used 0)).out q.out) in
          let z : used + suc q.used ≡ used + 1 + q.used = omega arith in
          λ i. record { now = q.now; out = a i; used = z i }

  -- nothing more is taken in
  stopped : fed_within (length out₀ - at) (view w) (drop used input) ≡ record { now = view w; out = []; used = 0 } → FedAs w₀ input out₀ w out (Ok (record { used = used; wrote = at }))
  stopped e =
      let f : fed_within (length out₀) (view w₀) input ≡ record { now = view w; out = F.printed ++ []; used = used + 0 } = F.rest ∙ ap
      (follows F.printed used) e in
      let z : used + 0 ≡ used = omega arith in
      let g : fed_within (length out₀) (view w₀) input ≡ record { now = view w; out = F.printed; used = used } = f ∙
      (λ i. record { now = view w; out = append-nil F.printed i; used = z i }) in
      record { answer = rw (g, F.place); reader = rw g; again = F.valid; bytes = rw g F.bytes; within = rw g (omega (arith, F.place, F.fits, F.size)) }

  pub feeding_short : length out - at < max_printed → FedAs w₀ input out₀ w out (Ok (record { used = used; wrote = at }))
  feeding_short h = stopped (stop_room (length out₀ - at) (view w) (drop used input) (omega (arith, h, F.size)))

  pub feeding_all : length input ≤ used → FedAs w₀ input out₀ w out (Ok (record { used = used; wrote = at }))
  feeding_all h =
      let z : used ≡ length input = omega (arith, F.within) in
      stopped (ap (fed_within (length out₀ - at) (view w)) (ap (λ (n : ℕ). drop n input) z ∙ drop-length input) ∙ stop_end (length out₀ - at) (view w))

-- the calls ----------------------------------------------------------------------------------------------------------------------------

-- a call on a state that is valid or not, with so much room or not
module _ (w out : List ℕ) (most : ℕ) (r : Reader) (printed : List ℕ) where
  abbrev Left : List ℕ → List ℕ → Type 0
  Left w' out' = Leaves (valid w && leb most (length out)) r printed w out w' out'

  refused_leaves : valid w && leb most (length out) ≡ false → Left w out
  refused_leaves f =
      record { reader = never; again = never; bytes = never; within = never; kept = λ t. (refl, refl) }
    where
      never : {A : Type 0} → valid w && leb most (length out) ≡ true → A
      never t = clash (valid w && leb most (length out)) t f

  invalid_leaves : valid w ≡ false → Left w out
  invalid_leaves f = refused_leaves (rw f)

  short_leaves : valid w ≡ true → length out < most → Left w out
  short_leaves v h = refused_leaves (rw (v, lt-leb most (length out) h))

  done_leaves : valid w ≡ true → most ≤ length out → (w' out' : List ℕ) → view w' ≡ r → valid w' ≡ true → out' ≡ sets out 0 printed
      → length printed ≤ length out → Left w' out'
  done_leaves v h w' out' p q b n =
      let t : valid w && leb most (length out) ≡ true = rw (v, le-leb most (length out) h) in
      record { reader = λ e. p; again = λ e. q; bytes = λ e. b; within = λ e. n; kept = clash (valid w && leb most (length out)) t }

module _ (w input out : List ℕ) (x : Bool) (e : x ≡ valid w) where
  abbrev Feeds : List ℕ → List ℕ → Result Progress Refusal → Type 0
  Feeds w' out' r = (r ≡ feed_answer w input (length out)) × FeedLeaves w input out w' out'

  pub feed_invalid : x ≡ false → Feeds w out (Err InvalidRecord)
  unfolding feed_answer
  feed_invalid n = let f = fails x (valid w) e n in (rw f, invalid_leaves w out max_printed _ _ f)

  module _ (n : x ≡ true) where
    good : valid w ≡ true
    good = holds x (valid w) e n

    pub feed_sound : Sound w
    feed_sound = sound w good

    pub feed_short : length out < max_printed → Feeds w out (Err RoomShort)
    unfolding feed_answer
    feed_short h = (rw (good, lt-ltb (length out) max_printed h), short_leaves w out max_printed _ _ good h)

    pub feed_done : max_printed ≤ length out → (w' out' : List ℕ) (r : Result Progress Refusal) → FedAs w input out w' out' r → Feeds w' out' r
    unfolding feed_answer
    feed_done h w' out' r A = (
      rw (good, le-ltb (length out) max_printed h) A.answer,
      done_leaves w out max_printed _ _ good h w' out' A.reader A.again A.bytes A.within,
    )

module _ (w out : List ℕ) (S : Sound w) (room : max_ending ≤ length out) where
  pub closing_ready : Ready w out 0
  closing_ready = record { valid = S.valid; long = S.long; short = S.short; room = omega arith }

  module _ (w₁ out₁ : List ℕ) (at : ℕ) (D : Does w out 0 (last_line (view w)) w₁ out₁ at) where
    its-place : at ≡ length (last_line (view w)).out
    its-place = D.prints.place ∙ (omega arith)

    pub ending_ready : Ready w₁ out₁ at
    ending_ready =
        let K = sound w₁ D.again in
        record {
          valid = D.again;
          long = K.long;
          short = K.short;
          room = omega
              (arith, its-place, D.prints.few, ap length D.prints.bytes, length-sets out 0 (last_line (view w)).out);
        }

    -- what the end printed, and the words closed
    pub closing : (out₂ : List ℕ) (r : ℕ) → Prints out₁ at (ended (view w₁).stage) out₂ r → (w₂ : List ℕ)
        → w₂ ≡ set (replicate state_size 0) stage_at stage_closed → Closes w out w₂ out₂ r
    unfolding finished
    closing out₂ r P w₂ p =
        let last : List ℕ = (last_line (view w)).out in
        let end : List ℕ = ended (last_line (view w)).now in
        let E : Prints out₁ at end out₂ r = rw D.stage at P in
        record {
          reader = ap view p ∙ closed-reader;
          again = ap valid p ∙ closed-valid;
          place = omega (arith, E.place, its-place, length-append last end);
          bytes = stored_on out out₁ out₂ last end 0 at D.prints.bytes E.bytes D.prints.place;
          within = omega (arith, room, D.prints.few, E.few, length-append last end);
        }

module _ (w out : List ℕ) (x : Bool) (e : x ≡ valid w) where
  abbrev Finishes : List ℕ → List ℕ → Result Progress Refusal → Type 0
  Finishes w' out' r = (r ≡ finish_answer w (length out)) × FinishLeaves w out w' out'

  pub finish_invalid : x ≡ false → Finishes w out (Err InvalidRecord)
  unfolding finish_answer
  finish_invalid n = let f = fails x (valid w) e n in (rw f, invalid_leaves w out max_ending _ _ f)

  module _ (n : x ≡ true) where
    fine : valid w ≡ true
    fine = holds x (valid w) e n

    pub finish_sound : Sound w
    finish_sound = sound w fine

    pub finish_short : length out < max_ending → Finishes w out (Err RoomShort)
    unfolding finish_answer
    finish_short h = (rw (fine, lt-ltb (length out) max_ending h), short_leaves w out max_ending _ _ fine h)

    pub finish_done : max_ending ≤ length out → (w' out' : List ℕ) (r : ℕ) → Closes w out w' out' r → Finishes w' out' (Ok (record { used = 0; wrote = r }))
    unfolding finish_answer
    finish_done h w' out' r A = (
      rw (fine, le-ltb (length out) max_ending h, A.place),
      done_leaves w out max_ending _ _ fine h w' out' A.reader A.again A.bytes A.within,
    )
