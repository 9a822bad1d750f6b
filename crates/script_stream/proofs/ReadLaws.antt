-- A new script has taken in nothing; the bytes that a call of the script's used are taken in, one part behind the other.
use Rattle.script.specs.declared.Progress.{Progress}
use Rattle.ids.specs.declared.Refusal.{Refusal}
use Rattle.std.specs.Prelude.{Result}
use mathlib.Core.Path.{◌≡◌, refl, sym, ap, ◌∙◌}
use Prim.Native.Nat.{ℕ, ◌+◌, ◌-◌, ◌≤◌}
use native.Mathlib.Omega.{arith}
use mathlib.Core.Bool.{Bool, true, false, ◌&&◌, false≢true}
use mathlib.Core.List.{List, [], ◌∷◌, ◌++◌, append-nil, append_assoc}
use borrow.Author.Tests.{le-leb}
use lib.Dec.{leb}
use lib.ListN.{length, take, drop, length-drop, take-append-drop}
use lib.Seq.{take-add, take_all, drop-drop, drop-length}
use Rattle.script_output.specs.Reader.{Reader, Printed, empty, fed, Fed, fed_within, max_printed}
use Rattle.script.specs.State.{view, valid, state_size}
use Rattle.script.specs.Calls.{new_answer, new_words, FeedLeaves, FinishLeaves, max_ending}
use Rattle.script.proofs.NewLaws.{new_valid, new_reader}
use Rattle.script_output.proofs.Whole.{in_parts}
use Rattle.script_output.proofs.Cuts.{within-fed, used-few}
use Rattle.console.specs.declared.Input.{Input}
use Rattle.console.specs.declared.Input.TheVariants.{Bytes}
use Rattle.script_stream.specs.Answered.{Answered}
use Rattle.script_stream.specs.Ended.{Ended}
use Rattle.script_stream.specs.Taken.{Taken}
use Rattle.script_stream.specs.Pieces.{Pieces, no_piece, one_more, joined, Answers}

pub started : (w w' : List ℕ) (p : Result Progress Refusal) → state_size ≡ length w → (p ≡ new_answer w) × (w' ≡ new_words w) → (valid w' ≡ true) × (view w' ≡ empty)
started w w' p e f = rw f.1 (new_valid w (sym e), new_reader w (sym e))

-- the bytes so far, and some more of what is left
taken_none : (w part : List ℕ) → Taken w (take 0 part) w
unfolding fed
taken_none w part = record { reader = refl }

taken_next : (w w' w'' part : List ℕ) (i k : ℕ) → Taken w (take i part) w' → Taken w' (take k (drop i part)) w'' → Taken w (take (i + k) part) w''
taken_next w w' w'' part i k a b =
    record {
      reader =
          b.reader ∙
          (ap (λ (r : Reader). (fed r (take k (drop i part))).now) a.reader ∙
          sym (ap (λ (l : List ℕ). (fed (view w) l).now) (take-add i k part) ∙ ap (λ (q : Printed Reader). q.now)
          (in_parts (view w) (take i part) (take k (drop i part)))));
    }

-- up to place j, which is not before i
taken_to : (w w' w'' part : List ℕ) (i j : ℕ) → i ≤ j → Taken w (take i part) w' → Taken w' (take (j - i) (drop i part)) w'' → Taken w (take j part) w''
taken_to w w' w'' part i j h a b =
    let z : i + (j - i) ≡ j = omega (arith, h) in
    rw z at (taken_next w w' w'' part i (j - i) a b)

taken-all : (w w' part : List ℕ) (i : ℕ) → Taken w (take i part) w' → length part ≤ i → Taken w part w'
taken-all w w' part i a h = record { reader = a.reader ∙ ap (λ (l : List ℕ). (fed (view w) l).now) (take_all i part h) }

-- while a part is taken in: the bytes before place i are, and the state and the buffer are fit to go on
pub record Taking (w₀ part out₀ w out : List ℕ) (i : ℕ) : Type 0 where
  pub words : length w ≡ length w₀
  pub size : length out ≡ length out₀
  pub within : i ≤ length part
  pub valid : valid w ≡ true
  pub room : max_printed ≤ length out
  pub taken : Taken w₀ (take i part) w

pub taking_none : (w part out : List ℕ) → valid w ≡ true → max_printed ≤ length out → Taking w part out w out 0
taking_none w part out v h = record { words = refl; size = refl; within = omega arith; valid = v; room = h; taken = taken_none w part }

module _ {w₀ part out₀ w out : List ℕ} {i : ℕ} (T : Taking w₀ part out₀ w out i) where
  -- up to place j, which is not before i
  pub taking_to : {w' out' : List ℕ} {j : ℕ} → length w' ≡ length w₀ → length out' ≡ length out₀ → i ≤ j → j ≤ length part → valid w' ≡ true
      → Taken w (take (j - i) (drop i part)) w' → Taking w₀ part out₀ w' out' j
  taking_to {w'} {out'} {j} a b h l v t =
      record {
        words = a;
        size = b;
        within = l;
        valid = v;
        room = omega (arith, b, T.size, T.room);
        taken = taken_to w₀ w w' part i j h T.taken t;
      }

  pub taking_all : length part ≤ i → Taken w₀ part w
  taking_all h = taken-all w₀ w part i T.taken h

-- a part answered piece by piece: what the pieces print, joined, is what the definition prints for the part --------------------------

joined-more : (ps : List (List ℕ)) (p : List ℕ) → joined (ps ++ (p ∷ [])) ≡ joined ps ++ p
joined-more [] p = append-nil p
joined-more (x ∷ ps) p = ap (λ (l : List ℕ). x ++ l) (joined-more ps p) ∙ sym (append_assoc x (joined ps) p)

-- one piece, and then the rest
piece-fed : (room : ℕ) (r : Reader) (s : List ℕ) → fed r s ≡
    record {
      now = (fed (fed_within room r s).now (drop (fed_within room r s).used s)).now;
      out = (fed_within room r s).out ++ (fed (fed_within room r s).now (drop (fed_within room r s).used s)).out;
    }
piece-fed room r s =
    let u : ℕ = (fed_within room r s).used in
    ap (fed r) (sym (take-append-drop u s)) ∙
    (in_parts r (take u s) (drop u s) ∙
    ap (λ (p : Printed Reader). record { now = (fed p.now (drop u s)).now; out = p.out ++ (fed p.now (drop u s)).out }) (within-fed room r s))

pub pieces-fed : {r : Reader} {part out : List ℕ} {ps : List (List ℕ)} {r' : Reader} {rest out' : List ℕ} → Pieces r part out ps r' rest out'
    → fed r part ≡ record { now = (fed r' rest).now; out = joined ps ++ (fed r' rest).out }
pieces-fed no_piece = refl
pieces-fed {out = out} (one_more {ps} {r'} {rest} P) =
    let q = fed_within (length out) r' rest in
    let t : Printed Reader = fed q.now (drop q.used rest) in
    pieces-fed P ∙
    (ap (λ (p : Printed Reader). record { now = p.now; out = joined ps ++ p.out }) (piece-fed (length out) r' rest) ∙
    ap (λ (l : List ℕ). record { now = t.now; out = l })
    (sym (append_assoc (joined ps) q.out t.out) ∙ ap (λ (l : List ℕ). l ++ t.out) (sym (joined-more ps q.out))))

-- a part that is answered whole
module _ {w part out : List ℕ} {all : Bool} {w' out' : List ℕ} (A : Answers w part out all w' out') (e : all ≡ true) where
  whole-fed : fed (view w) part ≡ record { now = view w'; out = joined A.pieces }
  unfolding fed
  whole-fed = pieces-fed A.answered ∙ rw (A.whole e) (ap (λ (l : List ℕ). record { now = view w'; out = l }) (append-nil (joined A.pieces)))

  pub answered-taken : Taken w part w'
  answered-taken = record { reader = sym (ap (λ (p : Printed Reader). p.now) whole-fed) }

  pub answered-prints : joined A.pieces ≡ (fed (view w) part).out
  answered-prints = sym (ap (λ (p : Printed Reader). p.out) whole-fed)

-- while the pieces are answered: byte i is the next to be taken in
pub record Working (w₀ part out₀ w out : List ℕ) (i : ℕ) : Type 0 where
  pub words : length w ≡ length w₀
  pub size : length out ≡ length out₀
  pub within : i ≤ length part
  pub valid : valid w ≡ true
  pub room : max_printed ≤ length out
  pub pieces : List (List ℕ)
  pub works : Pieces (view w₀) part out₀ pieces (view w) (drop i part) out

pub working_none : (w part out : List ℕ) → valid w ≡ true → max_printed ≤ length out → Working w part out w out 0
working_none w part out v room =
    record { words = refl; size = refl; within = omega arith; valid = v; room = room; pieces = []; works = no_piece }

module _ {w₀ part out₀ w out : List ℕ} {i : ℕ} (T : Working w₀ part out₀ w out i) {w' out' : List ℕ}
    (f : FeedLeaves w (take (length part - i) (drop i part)) out w' out') where
  rest-is : take (length part - i) (drop i part) ≡ drop i part
  rest-is = take_all (length part - i) (drop i part) (omega (arith, length-drop i part))

  abbrev piece : Fed
  piece = fed_within (length out) (view w) (drop i part)

  fed_on : FeedLeaves w (drop i part) out w' out'
  fed_on = rw rest-is at f

  done : valid w && leb max_printed (length out) ≡ true
  done = rw (T.valid, le-leb max_printed (length out) T.room)

  -- the piece's end, with what it took in
  pub works_more : Pieces (view w₀) part out₀ (T.pieces ++ (piece.out ∷ [])) (view w') (drop piece.used (drop i part)) out'
  works_more =
      let P = one_more T.works in
      rw (fed_on.reader done, fed_on.bytes done) (rw (sym T.size) at P)

  pub working_more : {k : ℕ} → length w' ≡ length w₀ → length out' ≡ length out₀
      → k ≡ (fed_within (length out) (view w) (take (length part - i) (drop i part))).used → Working w₀ part out₀ w' out' (i + k)
  working_more {k} a b e =
      let u : k ≡ piece.used = rw rest-is at e in
      let l : piece.used ≤ length (drop i part) = used-few (length out) (view w) (drop i part) in
      record {
        words = a;
        size = b;
        within = omega (arith, u, l, length-drop i part, T.within);
        valid = fed_on.again done;
        room = omega (arith, b, T.size, T.room);
        pieces = T.pieces ++ (piece.out ∷ []);
        works = rw (sym (drop-drop k i part), u) works_more;
      }

  -- where it could not be written
  pub working_failed : Answers w₀ part out₀ false w' out'
  working_failed =
      record {
        pieces = T.pieces ++ (piece.out ∷ []);
        rest = drop piece.used (drop i part);
        answered = works_more;
        whole = λ z. absurd (false≢true z);
        again = fed_on.again done;
      }

pub working_all : {w₀ part out₀ w out : List ℕ} {i : ℕ} → Working w₀ part out₀ w out i → length part ≤ i → Answers w₀ part out₀ true w out
working_all {part = part} {i = i} T h =
    let z : i ≡ length part = omega (arith, h, T.within) in
    record { pieces = T.pieces; rest = drop i part; answered = T.works; whole = λ _. ap (λ (k : ℕ). drop k part) z ∙ drop-length part; again = T.valid }

-- the end, with room for its two lines
pub script_ended : (w out w' out' : List ℕ) → valid w ≡ true → max_ending ≤ length out → FinishLeaves w out w' out' → Ended w out w' out'
script_ended w out w' out' v room f =
    let e : valid w && leb max_ending (length out) ≡ true = rw (v, le-leb max_ending (length out) room) in
    record { again = f.again e; reader = f.reader e; bytes = f.bytes e; within = f.within e }

-- the front of a part, as long as reading says
pub answered : (w part w' : List ℕ) (i : Input) (n : ℕ) → i ≡ Bytes n → Taken w (take (n - 0) (drop 0 part)) w' → Answered w part i w'
answered w part w' i n e a =
    let z : n - 0 ≡ n = omega arith in
    rw e (rw z at a)
