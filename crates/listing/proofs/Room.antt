-- Within the sizes that are listed, everything has room: at most three messages more with each of at most six events, so that no event is refused for
-- want of room; and after i events at most 18 + 6 i can be next, so that the runs are few and so are their bytes.
use Prim.Native.Nat.{ℕ, zero, suc, ◌+◌, ◌*◌, ◌≤◌, ◌<◌, zero-le}
use native.Mathlib.Nat.{le_refl, mul-le-mul}
use native.Mathlib.Omega.{arith}
use mathlib.Core.Path.{◌≡◌, refl}
use mathlib.Core.Bool.{Bool, true, false, ◌&&◌}
use mathlib.Core.List.{List, [], ◌∷◌, map}
use lib.Dec.{leb}
use lib.ListN.{length, length-append, length-map, length-drop}
use borrow.Author.Tests.{leb-true, le-leb}
use Rattle.std.specs.Prelude.{if◌then◌else◌}
use Rattle.ids.proofs.Choice.{both}
use Rattle.wire.specs.Step.{refused, stepped}
use Rattle.client_responses.specs.Figure1.{enough, count}
use Rattle.system.specs.declared.Event.{Event}
use Rattle.system.specs.declared.Event.TheVariants.{Try, Exit, Fall, Down, Up, Drop, Miss, Check}
use Rattle.system.specs.declared.Setting.{Setting}
use Rattle.system.specs.Numbered.{client_no, server_no, span}
use Rattle.system.specs.Setting.{takes}
use Rattle.system.specs.Limits.{system_messages, last_number}
use Rattle.system.specs.Places.{System}
use Rattle.system.specs.Events.{EventOutcome, nothing, with_places}
use Rattle.system.specs.Runs.{after, run_from}
use Rattle.system.proofs.Branch.{branch, bit-one}
use Rattle.system.proofs.Restarts.{length-span}
use Rattle.system.proofs.Tokens.{All, empty, more, all_append, all_map}
use Rattle.script_numbers.specs.Decimals.{largest32, digits32, decimal}
use Rattle.script_numbers.proofs.DecimalLaws.{decimal-below, decimal-short}
use Rattle.script_lines.specs.Printed.{event_line, word_of, number_of}
use Rattle.script_lines.proofs.PrintedLaws.{length-event, length-printed}
use Rattle.listing.specs.Listing.{listed_servers, listed_clients, listed_events, small, each, events_of, candidates, goes_on, follow, step, fresh, runs, meetings, meets}
use Rattle.listing.specs.Text.{comma, run_line, counts_line, listing}
use Rattle.listing.specs.Inner.{marked}
use Rattle.listing.proofs.TextLaws.{each_same, length-each-≤, line_marked}
use Rattle.listing.proofs.Follow.{onward}
use Rattle.listing.proofs.Growth.{Led, led_start, led_next, led_from, event_sends}

-- the sizes -----------------------------------------------------------------------------------------------------------------

record Sizes (s : Setting) (events : ℕ) : Type 0 where
  servers : s.n ≤ listed_servers
  clients : s.clients ≤ listed_clients
  short : events ≤ listed_events

sizes : (s : Setting) (events : ℕ) → small s events ≡ true → Sizes s events
unfolding small
sizes s events h =
    let (g, c) = both (leb s.n listed_servers && leb s.clients listed_clients) (leb events listed_events) h in
    let (a, b) = both (leb s.n listed_servers) (leb s.clients listed_clients) g in
    record {
      servers = leb-true s.n listed_servers a;
      clients = leb-true s.clients listed_clients b;
      short = leb-true events listed_events c;
    }

-- a system after i events of a setting
abbrev After : Setting → ℕ → System → Type 0
After s i w = Led s.n (enough s.m) s.clients i w

module _ (s : Setting) (servers : s.n ≤ listed_servers) where
  sent-few : {i : ℕ} {w : System} → After s i w → w.sent ≤ i * event_sends listed_servers
  sent-few {i} {w} l = let n : event_sends s.n ≡ event_sends listed_servers = omega arith in rw n at l.sent

-- room for messages ---------------------------------------------------------------------------------------------------------

same-both : {A : Type 0} (x : A) (b : Bool) → (if b then x else x) ≡ x
same-both x true = refl
same-both x false = refl

room-enough : (places last : ℕ) (w : System) (o : EventOutcome) → length (after w o).transit ≤ places → (after w o).sent ≤ last → with_places places last o ≡ o
unfolding after with_places
room-enough places last w (refused x) a b = refl
room-enough places last w (stepped v) a b =
    rw (le-leb (length v.state.transit) places a, le-leb v.state.sent last b) (same-both (stepped v) (nothing v.sent))

abbrev bounded : Setting → System → Event → EventOutcome
bounded s w e = with_places system_messages last_number (step s w e)

module _ (s : Setting) (servers : s.n ≤ listed_servers) where
  has_room_lem : (i : ℕ) {w : System} → i < listed_events → After s i w → (e : Event) → bounded s w e ≡ step s w e
  has_room_lem i {w} h l e =
      let l' = led_next e l in
      let sent = sent-few s servers l' in
      room-enough system_messages last_number w (step s w e) (omega (arith, l'.tidy.few)) (omega arith)

  follow-same : (left i : ℕ) {w : System} → i + left ≤ listed_events → After s i w → follow (bounded s) s.f left w ≡ follow (step s) s.f left w
  unfolding follow
  follow-same zero i h l = refl
  follow-same (suc left) i {w} h l =
      each_same {f = onward (bounded s) s.f left w} {g = onward (step s) s.f left w}
      (λ e. rw (has_room_lem i (omega arith) l e, follow-same left (suc i) (omega arith) (led_next e l))) (candidates w)

pub never_full : (s : Setting) (events : ℕ) → small s events ≡ true → (es : List Event) → length es < events → (e : Event)
    → with_places system_messages last_number (step s (run_from s.n (enough s.m) (fresh s) es) e) ≡ step s (run_from s.n (enough s.m) (fresh s) es) e
never_full s events h es few e =
    let z = sizes s events h in
    has_room_lem s z.servers (0 + length es) (omega (arith, z.short)) (led_from es led_start) e

pub bounded-same : (s : Setting) (events : ℕ) → small s events ≡ true
    → follow (λ w e. with_places system_messages last_number (step s w e)) s.f events (fresh s) ≡ follow (step s) s.f events (fresh s)
bounded-same s events h = let z = sizes s events h in follow-same s z.servers events 0 (omega (arith, z.short)) led_start

-- how many runs -------------------------------------------------------------------------------------------------------------

length-events : (clients servers messages : ℕ) → length (events_of clients servers messages) ≡ 3 * clients + 4 * servers + 2 * messages
unfolding events_of
length-events clients servers messages = simp (length-append, length-map, length-span) (omega arith)

-- the most events that can be next after i of them
abbrev most_next : ℕ → ℕ
most_next i = 3 * listed_clients + 4 * listed_servers + 2 * (i * event_sends listed_servers)

-- the most lists of 1 to `left` events that can follow i of them
unfoldable most_after : ℕ → ℕ → ℕ
most_after zero i = 0
most_after (suc left) i = most_next i * suc (most_after left (suc i))

all_same : {A : Type 0} {P : A → Type 0} → ((x : A) → P x) → (l : List A) → All P l
all_same h [] = empty
all_same h (x ∷ l) = more (h x) (all_same h l)

module _ (s : Setting) (servers : s.n ≤ listed_servers) (clients : s.clients ≤ listed_clients) where
  next-few : (i : ℕ) {w : System} → After s i w → length (candidates w) ≤ most_next i
  next-few i {w} l =
      let c = l.sized.counts in
      omega (arith, length-events (length w.clients) (length w.servers) w.sent, c.places, c.servers, sent-few s servers l)

  follow-few : (left most i : ℕ) {w : System} → left ≤ most → After s i w → length (follow (step s) s.f left w) ≤ most_after most i
  unfolding follow most_after
  follow-few zero most i h l = zero-le
  follow-few (suc left) zero i h l = absurd (omega arith)
  follow-few (suc left) (suc most) i {w} h l =
      let rest : ℕ = suc (most_after most (suc i)) in
      let onward-few : (e : Event) → length (onward (step s) s.f left w e) ≤ rest = λ e.
      branch (λ (rs : List (List Event)). length rs ≤ rest) (goes_on (step s) s.f w e)
      (λ _. omega (
        arith,
        length-map (follow (step s) s.f left (after w (step s w e))) (λ es. e ∷ es),
        follow-few left most (suc i) (omega arith) (led_next e l),
      ))
      (λ _. zero-le) in
      omega (arith, length-each-≤ (onward (step s) s.f left w) rest (all_same onward-few (candidates w)), mul-le-mul (next-few i l) (le_refl rest))

-- with the empty one: 1 + 18 (1 + 24 (1 + 30 (1 + 36 (1 + 42 (1 + 48)))))
abbrev pub most_runs : ℕ
most_runs = 960660451

pub most-runs : (s : Setting) (events : ℕ) → small s events ≡ true → length (runs s events) ≤ most_runs
unfolding most_after
most-runs s events h =
    let z = sizes s events h in
    let few = follow-few s z.servers z.clients events listed_events 0 z.short led_start in
    omega arith

pub few-runs : (s : Setting) (events : ℕ) → small s events ≡ true → length (runs s events) ≤ largest32
few-runs s events h = omega (arith, most-runs s events h)

-- how many bytes ------------------------------------------------------------------------------------------------------------

-- an event: a word of up to five letters, a space and two digits
abbrev pub event_bytes : ℕ
event_bytes = 8

abbrev Brief : Event → Type 0
Brief e = length (event_line e) ≤ event_bytes

-- events of one name
module _ (f : ℕ → Event) (word : (i : ℕ) → length (word_of (f i)) ≤ 5) (number : (i : ℕ) → number_of (f i) ≡ i) where
  brief_span : (a c : ℕ) → a + c < 100 → All Brief (map f (span a c))
  brief_span a zero h = empty
  brief_span a (suc c) h =
      more {x = f (suc a)}
      (omega (arith, length-event (f (suc a)), word (suc a), decimal-below 1 (number_of (f (suc a))) (rw (number (suc a)) (omega arith))))
      (brief_span (suc a) c (omega arith))

brief_events : (clients servers messages : ℕ) → clients < 100 → servers < 100 → messages < 100 → All Brief (events_of clients servers messages)
unfolding events_of
brief_events clients servers messages a b c =
    all_append (brief_span (λ k. Try (client_no k)) (λ i. omega arith) (λ i. refl) 0 clients (omega arith))
    (all_append (brief_span (λ k. Exit (client_no k)) (λ i. omega arith) (λ i. refl) 0 clients (omega arith))
    (all_append (brief_span (λ k. Fall (client_no k)) (λ i. omega arith) (λ i. refl) 0 clients (omega arith))
    (all_append (brief_span (λ j. Down (server_no j)) (λ i. omega arith) (λ i. refl) 0 servers (omega arith))
    (all_append (brief_span (λ j. Up (server_no j)) (λ i. omega arith) (λ i. refl) 0 servers (omega arith))
    (all_append (brief_span takes (λ i. omega arith) (λ i. refl) 0 messages (omega arith))
    (all_append (brief_span (λ i. Drop (record { 0 = i })) (λ i. omega arith) (λ i. refl) 0 messages (omega arith))
    (all_append (brief_span (λ j. Miss (server_no j)) (λ i. omega arith) (λ i. refl) 0 servers (omega arith))
    (brief_span (λ j. Check (server_no j)) (λ i. omega arith) (λ i. refl) 0 servers (omega arith)))))))))

-- a list of at most so many events, each of them brief
record Brisk (left : ℕ) (es : List Event) : Type 0 where
  few : length es ≤ left
  brief : All Brief es

-- a run's line: an event and a byte behind it, a comma or the newline
abbrev pub line_bytes : ℕ
line_bytes = listed_events * suc event_bytes

brisk_line : (es : List Event) → Brisk listed_events es → length (run_line es) ≤ line_bytes
brisk_line es b =
    let bytes : length (marked es) ≤ length es * suc event_bytes =
    length-each-≤ (λ e. comma ∷ event_line e) (suc event_bytes) (all_map (λ e h. omega arith) b.brief) in
    rw (line_marked es, length-append, length-drop) (omega (arith, b.few))

module _ {P : List Event → Type 0} where
  all-each : {g : Event → List (List Event)} {l : List Event} → All (λ e. All P (g e)) l → All P (each g l)
  all-each empty = empty
  all-each (more h t) = all_append h (all-each t)

  all_mapped : (e : Event) {l : List (List Event)} → All (λ es. P (e ∷ es)) l → All P (map (λ es. e ∷ es) l)
  all_mapped e empty = empty
  all_mapped e (more h t) = more h (all_mapped e t)

module _ (s : Setting) (servers : s.n ≤ listed_servers) (clients : s.clients ≤ listed_clients) where
  next_brief : (i : ℕ) {w : System} → i ≤ listed_events → After s i w → All Brief (candidates w)
  next_brief i {w} h l =
      let c = l.sized.counts in
      brief_events (length w.clients) (length w.servers) w.sent (omega (arith, c.places)) (omega (arith, c.servers)) (omega (arith, sent-few s servers l))

  follow_brisk : (left i : ℕ) {w : System} → i + left ≤ listed_events → After s i w → All (Brisk left) (follow (step s) s.f left w)
  unfolding follow
  follow_brisk zero i h l = empty
  follow_brisk (suc left) i {w} h l =
      all-each {g = onward (step s) s.f left w} (all_map (λ e brief.
      branch (All (Brisk (suc left))) (goes_on (step s) s.f w e)
      (λ _. all_mapped e (more {x = []} (record { few = omega arith; brief = more brief empty })
      (all_map (λ es b. record { few = omega (arith, b.few); brief = more brief b.brief }) (follow_brisk left (suc i) (omega arith) (led_next e l)))))
      (λ _. empty)) (next_brief i (omega arith) l))

count-few : {A : Type 0} (f : A → Bool) (l : List A) → count (map f l) ≤ length l
count-few f [] = zero-le
count-few f (x ∷ l) = omega (arith, bit-one (f x), count-few f l)

-- the last line: two numbers and two bytes behind them
counts_brief : (all two : ℕ) → all ≤ largest32 → two ≤ largest32 → length (counts_line all two) ≤ 2 * digits32 + 2
unfolding counts_line
counts_brief all two a b = omega (arith, length-printed (decimal all) (decimal two ∷ []), decimal-short all a, decimal-short two b)

-- about 52 thousand million
abbrev pub listing_bytes : ℕ
listing_bytes = most_runs * line_bytes + 2 * digits32 + 2

pub short-text : (s : Setting) (events : ℕ) → small s events ≡ true → length (listing s events) ≤ listing_bytes
unfolding listing
short-text s events h =
    let z = sizes s events h in
    let rs : List (List Event) = runs s events in
    let few = few-runs s events h in
    let lines : All (λ es. length (run_line es) ≤ line_bytes) rs =
    more (brisk_line [] (record { few = zero-le; brief = empty }))
    (all_map (λ es b. brisk_line es (record { few = omega (arith, b.few, z.short); brief = b.brief }))
    (follow_brisk s z.servers z.clients events 0 (omega (arith, z.short)) led_start)) in
    rw length-append (omega (
      arith,
      length-each-≤ run_line line_bytes lines,
      mul-le-mul (most-runs s events h) (le_refl line_bytes),
      counts_brief (length rs) (meetings s events) few (omega (arith, few, count-few (meets s) rs)),
    ))
