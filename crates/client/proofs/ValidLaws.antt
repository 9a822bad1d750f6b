-- Validity, test by test: what the code's tests decide of it, and what a valid record is known to be.
use Rattle.std.specs.Prelude.{Option}
use Prim.Native.Nat.{ℕ, ◌*◌, ◌≤◌, ◌<◌}
use native.Mathlib.Omega.{arith}
use mathlib.Core.Path.{◌≡◌, refl, sym, ◌∙◌, ap}
use mathlib.Core.List.{List, map}
use mathlib.Core.Bool.{Bool, true, false, true≢false, ◌&&◌, not}
use mathlib.Core.Logic.{⊎_elim}
use lib.Dec.{eqb, leb, ltb}
use lib.ListN.{length}
use borrow.Author.Tests.{eq-eqb, ne_eqb, leb-true, leb-false, ltb-true, le-leb, le-ltb, lt-ltb}
use Rattle.ids.specs.Limits.{within, max_servers, max_timestamp, valid_client, valid_owner}
use Rattle.ids.specs.Lists.{every}
use Rattle.ids.specs.declared.Timestamp.{Timestamp}
use Rattle.ids.specs.declared.Request.{Request}
use Rattle.ids.proofs.Choice.{fails, holds, both, and_true, and_goes_on, and_stops, decided}
use Rattle.ids.proofs.LimitsLaws.{within-range}
use Rattle.rows.specs.Rows.{Padded}
use Rattle.rows.specs.Good.{good_row}
use Rattle.rows.proofs.GoodLaws.{good-padded}
use Rattle.client_responses.specs.declared.Section.{Section}
use Rattle.client_responses.specs.declared.Section.TheVariants.{Remainder, Trying, Critical}
use Rattle.client_responses.specs.Figure1.{is_critical, filled, count, enough}
use Rattle.client_responses.specs.Row.{responses_in, own_is_current, misfit}
use Rattle.client_responses.proofs.CountLaws.{no_misfit}
use Rattle.client.specs.declared.Client.{Client}
use Rattle.client.specs.declared.Head.{Head}
use Rattle.client.specs.Record.{client_of, view, valid_sizes_up_to, valid_sizes, fits_section, no_more, fits_timestamp, valid_up_to, valid}
use Rattle.client.specs.Inner.{request, valid_places}

-- the tests of a section, by the count of the filled places
below : (a b : ℕ) → ltb a b ≡ not (leb b a)
below a b =
    ⊎_elim (λ t. le-ltb a b (leb-true b a t) ∙ sym (ap not t)) (λ f. lt-ltb a b (leb-false b a f) ∙ sym (ap not f)) (decided (leb b a))

module _ (m : ℕ) (r : Request) (l : List (Option Request)) (found : ℕ) (f : found ≡ count (map filled l)) where
  pub section_remainder : eqb found 0 ≡ fits_section (enough m) Remainder r l && no_more Remainder m l
  section_remainder = rw (← f) (sym (and_true (eqb found 0)))

  pub section-trying : ltb found m ≡ fits_section (enough m) Trying r l && no_more Trying m l
  unfolding enough
  section-trying = rw (← f) (below found m ∙ sym (and_true (not (leb m found))))

  module _ (x : Bool) (p : x ≡ fits_section (enough m) Critical r l) where
    pub section_critical : x ≡ true → leb found m ≡ fits_section (enough m) Critical r l && no_more Critical m l
    section_critical t = and_goes_on t p (ap (λ (k : ℕ). leb k m) f)

    pub section-few : x ≡ false → x ≡ fits_section (enough m) Critical r l && no_more Critical m l
    section-few t = and_stops (no_more Critical m l) t p

-- those of the places
module _ (h : Head) (row : List ℕ) (r : Request) (e : r ≡ request h) (k : ℕ) (p : k ≡ count (map (misfit r) (responses_in row h.n))) where
  fit : eqb k 0 ≡ every valid_owner (responses_in row h.n) && every (own_is_current (request h)) (responses_in row h.n)
  fit = rw (p, e) (no_misfit (request h) (responses_in row h.n))

  pub places_fail : (k ≡ 0 → ⊥) → false ≡ valid_places h row
  unfolding valid_places
  places_fail n = rw (← fit, ne_eqb k 0 n)

  pub section_decides : (b : Bool) → k ≡ 0
      → b ≡ fits_section (enough h.m) h.section r (responses_in row h.n) && no_more h.section h.m (responses_in row h.n)
      → b ≡ valid_places h row
  unfolding valid_places
  section_decides b z q = rw (← fit, eq-eqb k 0 z) (rw e at q)

-- and all of them, in their order
further : (x a b d e : Bool) → x && a && b && d && e ≡ x && ((a && b) && (d && e))
further true true true d e = refl
further true true false d e = refl
further true false b d e = refl
further false a b d e = refl

pub valid_split : (limit : ℕ) (c : Client)
    → valid_up_to limit c ≡ valid_sizes_up_to limit c.head.n c.head.m && valid_client c.head.id && fits_timestamp c.head.section
    c.head.timestamp && good_row c.row c.head.n && valid_places c.head c.row
unfolding valid_up_to valid_places view
valid_split limit c =
    further (valid_sizes_up_to limit c.head.n c.head.m && valid_client c.head.id && fits_timestamp c.head.section
    c.head.timestamp && good_row c.row c.head.n)
    (every valid_owner (responses_in c.row c.head.n)) (every (own_is_current (request c.head)) (responses_in c.row c.head.n))
    (fits_section (enough c.head.m) c.head.section (request c.head) (responses_in c.row c.head.n))
    (no_more c.head.section c.head.m (responses_in c.row c.head.n))

module _ (limit : ℕ) (h : Head) (row : List ℕ) (x : Bool) (p : x ≡ valid_sizes_up_to limit h.n h.m) where
  pub sizes_fail : x ≡ false → false ≡ valid_up_to limit (client_of h row)
  sizes_fail t = rw (valid_split, fails x (valid_sizes_up_to limit h.n h.m) p t)

  module _ (y : Bool) (t : x ≡ true) (q : y ≡ valid_client h.id) where
    pub id_fails : y ≡ false → false ≡ valid_up_to limit (client_of h row)
    id_fails u = rw (valid_split, holds x (valid_sizes_up_to limit h.n h.m) p t, fails y (valid_client h.id) q u)

    module _ (z : Bool) (u : y ≡ true) (w : z ≡ fits_timestamp h.section h.timestamp) where
      pub timestamp_fails : z ≡ false → false ≡ valid_up_to limit (client_of h row)
      timestamp_fails v = rw (
        valid_split,
        holds x (valid_sizes_up_to limit h.n h.m) p t,
        holds y (valid_client h.id) q u,
        fails z (fits_timestamp h.section h.timestamp) w v,
      )

      module _ (g : Bool) (v : z ≡ true) (d : g ≡ good_row row h.n) where
        pub row_fails : g ≡ false → false ≡ valid_up_to limit (client_of h row)
        row_fails s = rw (
          valid_split,
          holds x (valid_sizes_up_to limit h.n h.m) p t,
          holds y (valid_client h.id) q u,
          holds z (fits_timestamp h.section h.timestamp) w v,
          fails g (good_row row h.n) d s,
        )

        pub places-decide : (b : Bool) → g ≡ true → b ≡ valid_places h row → b ≡ valid_up_to limit (client_of h row)
        places-decide b s f =
            rw (
              valid_split,
              holds x (valid_sizes_up_to limit h.n h.m) p t,
              holds y (valid_client h.id) q u,
              holds z (fits_timestamp h.section h.timestamp) w v,
              holds g (good_row row h.n) d s,
            ) f

pub sizes_up_to : (limit n m : ℕ) → valid_sizes_up_to limit n m ≡ true → (1 ≤ n) × (n ≤ limit) × (1 ≤ m) × (m ≤ n)
sizes_up_to limit n m h =
    let (a, b) = both (within n limit) (within m n) h in
    let (a₁, a₂) = within-range n limit a in
    let (b₁, b₂) = within-range m n b in
    (a₁, a₂, b₁, b₂)

pub sizes_range : (n m : ℕ) → valid_sizes n m ≡ true → (1 ≤ n) × (n ≤ max_servers) × (1 ≤ m) × (m ≤ n)
sizes_range n m h = sizes_up_to max_servers n m h

-- what is known of a valid record
pub record KnownUpTo (limit : ℕ) (c : Client) : Type 0 where
  pub some : 1 ≤ c.head.n
  pub few : c.head.n ≤ limit
  pub threshold : 1 ≤ c.head.m
  pub reached : c.head.m ≤ c.head.n
  pub client : valid_client c.head.id ≡ true
  pub timestamp : fits_timestamp c.head.section c.head.timestamp ≡ true
  pub row : good_row c.row c.head.n ≡ true
  pub owners : every valid_owner (view c).responses ≡ true
  pub own : every (own_is_current (request c.head)) (view c).responses ≡ true
  pub section : fits_section (enough c.head.m) c.head.section (request c.head) (view c).responses ≡ true
  pub more : no_more c.head.section c.head.m (view c).responses ≡ true

abbrev pub Known : Client → Type 0
Known = KnownUpTo max_servers

module _ (limit : ℕ) (c : Client) where
  pub known_up_to : valid_up_to limit c ≡ true → KnownUpTo limit c
  unfolding valid_places view
  known_up_to h =
      let l = responses_in c.row c.head.n in
      let (h₁, h₂) = both (valid_sizes_up_to limit c.head.n c.head.m && valid_client c.head.id && fits_timestamp c.head.section
      c.head.timestamp && good_row c.row c.head.n) (valid_places c.head c.row) (rw valid_split at h) in
      let (h₃, g) = both
      (valid_sizes_up_to limit c.head.n c.head.m && valid_client c.head.id && fits_timestamp c.head.section c.head.timestamp)
      (good_row c.row c.head.n) h₁ in
      let (
        h₄,
        t,
      ) = both (valid_sizes_up_to limit c.head.n c.head.m && valid_client c.head.id) (fits_timestamp c.head.section c.head.timestamp) h₃ in
      let (z, k) = both (valid_sizes_up_to limit c.head.n c.head.m) (valid_client c.head.id) h₄ in
      let (n₁, n₂, m₁, m₂) = sizes_up_to limit c.head.n c.head.m z in
      let (h₅, h₆) = both (every valid_owner l && every (own_is_current (request c.head)) l)
      (fits_section (enough c.head.m) c.head.section (request c.head) l && no_more c.head.section c.head.m l) h₂ in
      let (v, o) = both (every valid_owner l) (every (own_is_current (request c.head)) l) h₅ in
      let (s, b) = both (fits_section (enough c.head.m) c.head.section (request c.head) l) (no_more c.head.section c.head.m l) h₆ in
      record {
        some = n₁;
        few = n₂;
        threshold = m₁;
        reached = m₂;
        client = k;
        timestamp = t;
        row = g;
        owners = v;
        own = o;
        section = s;
        more = b;
      }

  pub valid_up_to_lem : KnownUpTo limit c → valid_up_to limit c ≡ true
  unfolding valid_places view
  valid_up_to_lem K =
      rw (
        valid_split limit c,
        le-leb 1 c.head.n K.some,
        le-leb c.head.n limit K.few,
        le-leb 1 c.head.m K.threshold,
        le-leb c.head.m c.head.n K.reached,
        K.client,
        K.timestamp,
        K.row,
        K.owners,
        K.own,
        K.section,
      ) K.more

pub valid-known : (c : Client) → valid c ≡ true → Known c
valid-known c h = known_up_to max_servers c h

-- its row is in good order, and has a place for each server
module _ (limit : ℕ) (c : Client) (K : KnownUpTo limit c) where
  pub known-padded : Padded c.row c.head.n
  known-padded = good-padded c.row c.head.n K.row

  pub known-words : 2 * c.head.n ≤ length c.row
  known-words = let g = known-padded in omega (arith, g.within, g.places.even)

pub valid-padded : (c : Client) → valid c ≡ true → Padded c.row c.head.n
valid-padded c v = known-padded max_servers c (valid-known c v)

pub padded-words : (row : List ℕ) (n : ℕ) → Padded row n → 2 * n ≤ length row
padded-words row n g = omega (arith, g.within, g.places.even)

pub trying-range : (t : Timestamp) → fits_timestamp Trying t ≡ true → (1 ≤ t.0) × (t.0 < max_timestamp)
trying-range t h =
    let (a, b) = both (leb 1 t.0) (ltb t.0 max_timestamp) h in
    (leb-true 1 t.0 a, ltb-true t.0 max_timestamp b)

pub critical_below : (s : Section) (t : Timestamp) → is_critical s ≡ true → fits_timestamp s t ≡ true → t.0 < max_timestamp
critical_below Remainder t e h = let z : true ≡ false = cc in absurd (true≢false z)
critical_below Trying t e h = let z : true ≡ false = cc in absurd (true≢false z)
critical_below Critical t e h = (trying-range t h).1
