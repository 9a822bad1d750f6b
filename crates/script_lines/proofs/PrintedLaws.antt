-- The printed lines, as words with a byte behind each: a space, and behind the last one the newline. So they are put word by word.
-- A number of 32 bits has at most `digits32` digits, and so each line has its most.
use Prim.Native.Nat.{ℕ, ◌+◌, ◌*◌, ◌≤◌}
use native.Mathlib.Omega.{arith}
use mathlib.Core.Path.{◌≡◌, refl, ap}
use mathlib.Core.List.{List, [], ◌∷◌, ◌++◌, append_assoc}
use lib.ListN.{length, set, length-append}
use lib.Seq.{sets}
use Rattle.ids.specs.Refusals.{code}
use Rattle.ids.specs.declared.Refusal.{Refusal}
use Rattle.ids.specs.declared.Refusal.TheVariants as refusal
use Rattle.system.specs.declared.Event.{Event}
use Rattle.wire.proofs.BytesLaws.{stored_on}
use Rattle.script_numbers.specs.Decimals.{largest32, digits32, decimal}
use Rattle.script_lines.specs.Words.{text, spaced}
use Rattle.script_lines.specs.Printed.{printed, four_words, header_line, ok_line, no_line, end_line, refused_line, word_of, number_of, event_line, setting_line}
use Rattle.system.specs.declared.Setting.{Setting}
use Rattle.script_numbers.proofs.PutLaws.{put-behind}
use Rattle.script_numbers.proofs.DecimalLaws.{decimal-short, decimal-below}

-- a space behind each word
unfoldable pub ended : List (List ℕ) → List ℕ
ended [] = []
ended (w ∷ ws) = w ++ (32 ∷ ended ws)

ended-more : (ws : List (List ℕ)) (w : List ℕ) → ended (ws ++ (w ∷ [])) ≡ ended ws ++ (w ++ (32 ∷ []))
unfolding ended
ended-more [] w = refl
ended-more (v ∷ ws) w = rw (ended-more ws w, append_assoc)

ended-spaced : (ws : List (List ℕ)) (w : List ℕ) → spaced (ws ++ (w ∷ [])) ≡ ended ws ++ w
unfolding ended spaced
ended-spaced [] w = refl
ended-spaced (v ∷ []) w = simp append_assoc
ended-spaced (v ∷ u ∷ ws) w = rw (ended-spaced (u ∷ ws) w) (simp append_assoc)

ended-last : (ws : List (List ℕ)) (w : List ℕ) → printed (ws ++ (w ∷ [])) ≡ ended ws ++ (w ++ (10 ∷ []))
ended-last ws w = rw (ended-spaced ws w, append_assoc)

-- the words and the bytes behind them
abbrev total : List (List ℕ) → ℕ
total [] = 0
total (w ∷ ws) = length w + 1 + total ws

pub length-printed : (w : List ℕ) (ws : List (List ℕ)) → length (printed (w ∷ ws)) ≡ total (w ∷ ws)
unfolding spaced
length-printed w [] = simp length-append (omega arith)
length-printed w (v ∷ ws) =
    let e : printed (w ∷ v ∷ ws) ≡ w ++ (32 ∷ printed (v ∷ ws)) = append_assoc w (32 ∷ spaced (v ∷ ws)) (10 ∷ []) in
    rw e (omega (arith, length-append w (32 ∷ printed (v ∷ ws)), length-printed v ws))

-- the words ws are in o from place `at` on, with a space behind each; that is l, and p is the place behind them
pub record Puts (o : List ℕ) (at : ℕ) (ws : List (List ℕ)) (l : List ℕ) (p : ℕ) : Type 0 where
  pub place : p ≡ at + length (ended ws)
  pub bytes : l ≡ sets o at (ended ws)

pub puts_none : (o : List ℕ) (at : ℕ) → Puts o at [] o at
unfolding ended
puts_none o at = record { place = omega arith; bytes = refl }

module _ {o l l' : List ℕ} {at p q : ℕ} {ws : List (List ℕ)} (e : Puts o at ws l p) (w : List ℕ) where
  pub puts-more : (q ≡ p + length w + 1) × (l' ≡ sets l p (w ++ (32 ∷ []))) → Puts o at (ws ++ (w ∷ [])) l' q
  puts-more d =
      record {
        place = rw (ended-more ws w) (omega (arith, e.place, d.0, length-append w (32 ∷ []), length-append (ended ws) (w ++ (32 ∷ []))));
        bytes = rw (ended-more ws w) (stored_on o l l' (ended ws) (w ++ (32 ∷ [])) at p e.bytes d.1 e.place);
      }

  pub puts-last : (q ≡ p + length w + 1) × (l' ≡ sets l p (w ++ (10 ∷ [])))
      → (q ≡ at + length (printed (ws ++ (w ∷ [])))) × (l' ≡ sets o at (printed (ws ++ (w ∷ []))))
  puts-last d = rw (ended-last ws w) (
    omega (arith, e.place, d.0, length-append w (10 ∷ []), length-append (ended ws) (w ++ (10 ∷ []))),
    stored_on o l l' (ended ws) (w ++ (10 ∷ [])) at p e.bytes d.1 e.place,
  )

  pub puts_end : (q ≡ p + length w) × (l' ≡ sets l p w)
      → (q ≡ at + length (spaced (ws ++ (w ∷ [])))) × (l' ≡ sets o at (spaced (ws ++ (w ∷ []))))
  puts_end d = rw (ended-spaced ws w) (
    omega (arith, e.place, d.0, length-append (ended ws) w),
    stored_on o l l' (ended ws) w at p e.bytes d.1 e.place,
  )

-- each line's length, and the most that it can be: a number takes up to `digits32` bytes, a refusal's number 2
code-short : (e : Refusal) → length (decimal (code e)) ≤ 2
code-short refusal.HeaderShort = decimal-below 1 _ (omega arith)
code-short refusal.KindUnknown = decimal-below 1 _ (omega arith)
code-short refusal.LengthWrong = decimal-below 1 _ (omega arith)
code-short refusal.MessageCut = decimal-below 1 _ (omega arith)
code-short refusal.NumberOutOfRange = decimal-below 1 _ (omega arith)
code-short refusal.RoomShort = decimal-below 1 _ (omega arith)
code-short refusal.ParameterOutOfRange = decimal-below 1 _ (omega arith)
code-short refusal.Unsafe = decimal-below 1 _ (omega arith)
code-short refusal.Stalls = decimal-below 1 _ (omega arith)
code-short refusal.WrongSection = decimal-below 1 _ (omega arith)
code-short refusal.TimestampsSpent = decimal-below 1 _ (omega arith)
code-short refusal.NotForClient = decimal-below 1 _ (omega arith)
code-short refusal.NotForServer = decimal-below 1 _ (omega arith)
code-short refusal.QueueFull = decimal-below 1 _ (omega arith)
code-short refusal.NoOwner = decimal-below 1 _ (omega arith)
code-short refusal.BadLine = decimal-below 1 _ (omega arith)
code-short refusal.NoSuchParty = decimal-below 1 _ (omega arith)
code-short refusal.PartyDown = decimal-below 1 _ (omega arith)
code-short refusal.SystemFull = decimal-below 1 _ (omega arith)
code-short refusal.OwnerLives = decimal-below 1 _ (omega arith)
code-short refusal.InvalidRecord = decimal-below 1 _ (omega arith)
code-short refusal.PacketMalformed = decimal-below 1 _ (omega arith)

-- a setting whose numbers have 32 bits
pub record Small (s : Setting) : Type 0 where
  pub n : s.n ≤ largest32
  pub m : s.m ≤ largest32
  pub f : s.f ≤ largest32
  pub clients : s.clients ≤ largest32

module _ (s : Setting) where
  pub length_four : length (spaced (four_words s))
      ≡ length (decimal s.n) + length (decimal s.m) + length (decimal s.f) + length (decimal s.clients) + 3
  length_four =
      omega (
        arith,
        length-printed (decimal s.n) (decimal s.m ∷ decimal s.f ∷ decimal s.clients ∷ []),
        length-append (spaced (four_words s)) (10 ∷ []),
      )

  pub length-header : length (header_line s) ≡ length (spaced (four_words s)) + 9
  unfolding header_line
  length-header = omega (arith, length-printed (text "gallery") (four_words s), length_four)

  pub length-setting : length (setting_line s) ≡ length (spaced (four_words s)) + 8
  unfolding setting_line
  length-setting =
      omega (arith, length-printed (text "setting") (four_words s), length-append (spaced (text "setting" ∷ four_words s)) (10 ∷ []), length_four)

  module _ (small : Small s) where
    four_short : length (spaced (four_words s)) ≤ 4 * digits32 + 3
    four_short =
        omega (
          arith,
          length_four,
          decimal-short s.n small.n,
          decimal-short s.m small.m,
          decimal-short s.f small.f,
          decimal-short s.clients small.clients,
        )

    pub header-short : length (header_line s) ≤ 4 * digits32 + 12
    header-short = omega (arith, length-header, four_short)

    pub setting-short : length (setting_line s) ≤ 4 * digits32 + 11
    setting-short = omega (arith, length-setting, four_short)

module _ (i sent holders : ℕ) where
  pub length_ok : length (ok_line i sent holders) ≡ length (decimal i) + length (decimal sent) + length (decimal holders) + 6
  unfolding ok_line
  length_ok = omega (arith, length-printed (decimal i) (text "ok" ∷ decimal sent ∷ decimal holders ∷ []))

  pub ok_short : i ≤ largest32 → sent ≤ largest32 → holders ≤ largest32 → length (ok_line i sent holders) ≤ 3 * digits32 + 6
  ok_short a b c = omega (arith, length_ok, decimal-short i a, decimal-short sent b, decimal-short holders c)

module _ (i : ℕ) (e : Refusal) where
  pub length_no : length (no_line i e) ≡ length (decimal i) + length (decimal (code e)) + 5
  unfolding no_line
  length_no = omega (arith, length-printed (decimal i) (text "no" ∷ decimal (code e) ∷ []))

  pub no_short : i ≤ largest32 → length (no_line i e) ≤ digits32 + 7
  no_short a = omega (arith, length_no, decimal-short i a, code-short e)

module _ (accepted holders downs : ℕ) where
  pub length_end : length (end_line accepted holders downs)
      ≡ length (decimal accepted) + length (decimal holders) + length (decimal downs) + 7
  unfolding end_line
  length_end = omega (arith, length-printed (text "end") (decimal accepted ∷ decimal holders ∷ decimal downs ∷ []))

  pub end_short : accepted ≤ largest32 → holders ≤ largest32 → downs ≤ largest32
      → length (end_line accepted holders downs) ≤ 3 * digits32 + 7
  end_short a b c = omega (arith, length_end, decimal-short accepted a, decimal-short holders b, decimal-short downs c)

module _ (e : Refusal) where
  pub length-refused : length (refused_line e) ≡ length (decimal (code e)) + 4
  unfolding refused_line
  length-refused = omega (arith, length-printed (text "no") (decimal (code e) ∷ []))

  pub refused-short : length (refused_line e) ≤ 6
  refused-short = omega (arith, length-refused, code-short e)

-- what stands behind a word and its space; and a line that is ended
module _ (o l l' w v : List ℕ) (at p q : ℕ) where
  pub put-pair : (p ≡ at + length w + 1) × (l ≡ sets o at (w ++ (32 ∷ []))) → (q ≡ p + length v) × (l' ≡ sets l p v)
      → (q ≡ at + length w + 1 + length v) × (l' ≡ sets o at (w ++ (32 ∷ v)))
  put-pair d e = (
    omega (arith, d.0, e.0),
    rw append_assoc at (stored_on o l l' (w ++ (32 ∷ [])) v at p d.1 e.1 (omega (arith, d.0, length-append w (32 ∷ [])))),
  )

-- a setting behind its word, in a script and as a run's header
module _ (s : Setting) (o l l' : List ℕ) (at p q : ℕ) (four : (q ≡ p + length (spaced (four_words s))) × (l' ≡ sets l p (spaced (four_words s)))) where
  pub put-opening : (p ≡ at + length (text "setting") + 1) × (l ≡ sets o at (text "setting" ++ (32 ∷ [])))
      → (q ≡ at + length (setting_line s)) × (l' ≡ sets o at (setting_line s))
  unfolding setting_line spaced
  put-opening d = let r = put-pair o l l' (text "setting") (spaced (four_words s)) at p q d four in (omega (arith, r.0, length-setting s), r.1)

  pub put_heading : (p ≡ at + length (text "gallery") + 1) × (l ≡ sets o at (text "gallery" ++ (32 ∷ [])))
      → (q + 1 ≡ at + length (header_line s)) × (set l' q 10 ≡ sets o at (header_line s))
  unfolding header_line spaced
  put_heading d =
      let w : List ℕ = text "gallery" ++ (32 ∷ spaced (four_words s)) in
      let r = put-pair o l l' (text "gallery") (spaced (four_words s)) at p q d four in
      let t = put-behind o l' at q 10 w (omega (arith, r.0, length-append (text "gallery") (32 ∷ spaced (four_words s))), r.1) in
      (omega (arith, r.0, length-header s), t.1)

-- an event's line: its word, found among the names, and its number
pub length-event : (e : Event) → length (event_line e) ≡ length (word_of e) + 1 + length (decimal (number_of e))
unfolding event_line spaced
length-event e = omega (arith, length-append (word_of e) (32 ∷ decimal (number_of e)))

module _ (e : Event) (w : List ℕ) (is : w ≡ word_of e) (at : ℕ) where
  pub word_room : (n : ℕ) → at + length (event_line e) ≤ n → at + length w + 1 ≤ n
  word_room n h = omega (arith, ap length is, length-event e)

  module _ (p x : ℕ) (named : x ≡ number_of e) where
    pub number-room : (n : ℕ) → p ≡ at + length w + 1 → at + length (event_line e) ≤ n → p + length (decimal x) ≤ n
    number-room n d h = omega (arith, d, ap length is, ap (λ (y : ℕ). length (decimal y)) named, length-event e)

    pub put-line : (o l l' : List ℕ) (q : ℕ) → (p ≡ at + length w + 1) × (l ≡ sets o at (w ++ (32 ∷ [])))
        → (q ≡ p + length (decimal x)) × (l' ≡ sets l p (decimal x)) → (q ≡ at + length (event_line e)) × (l' ≡ sets o at (event_line e))
    unfolding event_line spaced
    put-line o l l' q d f =
        let r = put-pair o l l' w (decimal x) at p q d f in
        (omega (arith, r.0, ap length is, ap (λ (y : ℕ). length (decimal y)) named, length-event e), rw (is, named) at r.1)
