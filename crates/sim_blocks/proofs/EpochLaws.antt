-- Where an epoch begins, goes on and ends, in a client's block: its record stays, and the flags are put, set or cleared.
use Prim.Native.Nat.{ℕ, suc, ◌+◌, ◌-◌, ◌≤◌, ◌<◌}
use native.Mathlib.Numerals.{add-one}
use native.Mathlib.Omega.{arith}
use mathlib.Core.Path.{◌≡◌, refl, ap, ◌∙◌}
use mathlib.Core.Bool.{Bool, true, false, ◌&&◌, ◌||◌, not}
use mathlib.Core.List.{List, [], ◌∷◌, ◌++◌, map}
use mathlib.Core.Logic.{⊎_elim}
use lib.Dec.{eqb}
use lib.ListN.{length, get_or, take, drop, set, replicate, length-map, length-set, length-take, length-drop}
use lib.Seq.{sets, sets-eq, length-sets, drop-set-lt, get_or-set_same, take-suc, drop_at, length-take-le}
use borrow.Author.Tests.{le-leb, eqb-true}
use Rattle.std.specs.Prelude.{if◌then◌else◌}
use Rattle.ids.specs.Lists.{every}
use Rattle.ids.specs.declared.ServerId.{ServerId}
use Rattle.ids.proofs.Choice.{both, decided}
use Rattle.wire.proofs.BytesLaws.{stored_on}
use Rattle.client_responses.specs.Figure1.{tries, exits, is_remainder, may_try}
use Rattle.client.specs.Record as client
use Rattle.words.specs.Records.{client_from}
use Rattle.sim_blocks.proofs.RegionLaws.{region-inside, region-behind}
use Rattle.system.specs.Numbered.{added, client_no}
use Rattle.system.specs.Places.{ServerPlace, in_epoch, downed, down_from}
use Rattle.sim_blocks.specs.Blocks.{client_record, flags, flagged, cleared, client_place, bit_word, zero_word, valid_client_block, client_block, flags_from, client_record_size}
use Rattle.ids.proofs.ListLaws.{every_append, every_drop, every_set}
use Rattle.sim_blocks.proofs.BlockParts.{covered, first-kept, length-cleared}
use Rattle.sim_blocks.proofs.Facts.{ClientBlock, client-facts, client-block, client-few}
use Rattle.sim_blocks.proofs.FlagLaws.{none-flagged, flag_adds, down_bit, down-flagged}
use Rattle.sim_blocks.proofs.ClientLaws.{ClientIs}
use Rattle.sim_blocks.proofs.ClientSteps.{written, tries-block, exits-block}
use Rattle.system.specs.Limits.{system_servers}

-- a block with the record of a valid one, and flags that fit
module _ (n m clients k : ℕ) (b b' : List ℕ) (ok : valid_client_block n m clients (client_no k) b ≡ true) where
  abbrev B : ClientBlock n m clients k b
  B = client-facts n m clients k b ok

  module _ (e : client_record b' ≡ client_record b) where
    moved-place : client_place b' ≡ record { living = eqb (get_or b' 0 0) 1; state = (client_place b).state; downs = flagged 1 (flags b') }
    unfolding client_place
    moved-place = ap (λ (l : List ℕ). record { living = eqb (get_or b' 0 0) 1; state = client.view (client_from l); downs = flagged 1 (flags b') }) e

    moved : length b' ≡ client_block → get_or b' 0 0 ≤ 1 → every bit_word (flags b') ≡ true → every zero_word (drop n (flags b')) ≡ true
        → (in_epoch (record { living = eqb (get_or b' 0 0) 1; state = (client_place b).state; downs = flagged 1 (flags b') }) || every zero_word (flags b')) ≡ true
        → ClientIs n m clients k b' (record { living = eqb (get_or b' 0 0) 1; state = (client_place b).state; downs = flagged 1 (flags b') })
    moved l f p q r =
        record {
          place = moved-place;
          valid = client-block n m clients k b' (record {
            size = l;
            bit = f;
            held = rw e B.held;
            valid = rw e B.valid;
            servers = rw e B.servers;
            threshold = rw e B.threshold;
            number = rw e B.number;
            names = rw moved-place B.names;
            bits = p;
            behind = q;
            outside = rw moved-place r;
          });
        }

or_true : (a : Bool) → a || true ≡ true
or_true true = refl
or_true false = refl

-- the flags cleared
module _ (b : List ℕ) (l : length b ≡ client_block) where
  cleared-flags : flags (cleared b) ≡ replicate system_servers 0
  unfolding cleared
  cleared-flags = region-inside flags_from system_servers b 0 (replicate system_servers 0) (omega arith) ∙
      covered (flags b) (replicate system_servers 0) (simp (length-take, length-drop) (omega arith))

  cleared_zero : every zero_word (flags (cleared b)) ≡ true
  cleared_zero = ap (every zero_word) cleared-flags

  cleared_record : client_record (cleared b) ≡ client_record b
  unfolding cleared
  cleared_record = region-behind 1 client_record_size b 0 (replicate system_servers 0)

  cleared-first : get_or (cleared b) 0 0 ≡ get_or b 0 0
  unfolding cleared
  cleared-first = first-kept b client_record_size (replicate system_servers 0)

zero_bits : (l : List ℕ) → every zero_word l ≡ true → every bit_word l ≡ true
zero_bits [] h = refl
zero_bits (x ∷ l) h =
    let (a, g) = both (zero_word x) (every zero_word l) h in
    let z : x ≡ 0 = eqb-true x 0 a in
    rw (le-leb x 1 (omega arith)) (zero_bits l g)

module _ (n m clients k : ℕ) (b b' : List ℕ) (ok : valid_client_block n m clients (client_no k) b ≡ true)
    (e : client_record b' ≡ client_record b) (z : every zero_word (flags b') ≡ true) where
  no_flags : length b' ≡ client_block → get_or b' 0 0 ≤ 1
      → ClientIs n m clients k b' (record { living = eqb (get_or b' 0 0) 1; state = (client_place b).state; downs = [] })
  no_flags l f =
      let M = moved n m clients k b b' ok e l f (zero_bits (flags b') z) (every_drop zero_word n (flags b') z)
      (rw z (or_true (eqb (get_or b' 0 0) 1 && not (is_remainder (client_place b).state.section)))) in
      record {
        place = M.place ∙
            ap (λ (d : List ℕ). record { living = eqb (get_or b' 0 0) 1; state = (client_place b).state; downs = d }) (none-flagged 1 (flags b') z);
        valid = M.valid;
      }

module _ (n m clients k : ℕ) (b : List ℕ) (ok : valid_client_block n m clients (client_no k) b ≡ true) where
  abbrev C : ClientBlock n m clients k b
  C = client-facts n m clients k b ok

  living-is : eqb (get_or b 0 0) 1 ≡ (client_place b).living
  unfolding client_place
  living-is = refl

  downs_are : flagged 1 (flags b) ≡ (client_place b).downs
  unfolding client_place
  downs_are = refl

  -- what `clear_flags` leaves
  pub cleared-block : ClientIs n m clients k (cleared b) (record { living = (client_place b).living; state = (client_place b).state; downs = [] })
  cleared-block =
      let f = cleared-first b C.size in
      let M = no_flags n m clients k b (cleared b) ok (cleared_record b C.size) (cleared_zero b C.size) (length-cleared b ∙ C.size) (rw f C.bit) in
      record { place = M.place ∙ rw (f, living-is); valid = M.valid }

  -- what `fall` leaves
  pub fall_block : ClientIs n m clients k (cleared (set b 0 0)) (record { living = false; state = (client_place b).state; downs = [] })
  fall_block =
      let l : length (set b 0 0) ≡ client_block = length-set b 0 0 ∙ C.size in
      let r : client_record (set b 0 0) ≡ client_record b = ap (take client_record_size) (drop-set-lt 1 b 0 0 (omega arith)) in
      let f : get_or (cleared (set b 0 0)) 0 0 ≡ 0 = cleared-first (set b 0 0) l ∙ get_or-set_same b 0 0 0 (omega (arith, C.size)) in
      let M = no_flags n m clients k b (cleared (set b 0 0)) ok (cleared_record (set b 0 0) l ∙
      r) (cleared_zero (set b 0 0) l) (length-cleared (set b 0 0) ∙ l) (rw f (omega arith)) in
      record { place = M.place ∙ rw f; valid = M.valid }

  -- what `put_flag` with 1 leaves, in an epoch
  module _ (j : ℕ) (first : 1 ≤ j) (last : j ≤ n) (epoch : in_epoch (client_place b) ≡ true) where
    few : n ≤ system_servers
    few = client-few n m clients k b C

    long : length (flags b) ≡ system_servers
    long = simp (length-take, length-drop) (omega (arith, C.size))

    set-flags : flags (set b (client_record_size + j) 1) ≡ set (flags b) (j - 1) 1
    set-flags =
        let z : client_record_size + j ≡ flags_from + (j - 1) = omega arith in
        rw z (region-inside flags_from system_servers b (j - 1) (1 ∷ []) (omega (arith, few)))

    set_record : client_record (set b (client_record_size + j) 1) ≡ client_record b
    set_record =
        let z : client_record_size + j ≡ 1 + client_record_size + (j - 1) = omega arith in
        rw z (region-behind 1 client_record_size b (j - 1) (1 ∷ []))

    set_first : get_or (set b (client_record_size + j) 1) 0 0 ≡ get_or b 0 0
    set_first =
        let z : client_record_size + j ≡ suc (client_record_size - 1 + j) = omega arith in
        rw z (first-kept b (client_record_size - 1 + j) (1 ∷ []))

    flag_downs : flagged 1 (flags (set b (client_record_size + j) 1)) ≡ added j (flagged 1 (flags b))
    flag_downs =
        let z : 1 + (j - 1) ≡ j = omega arith in
        ap (flagged 1) set-flags ∙ flag_adds 1 (j - 1) (flags b) (omega (arith, long, few)) ∙ ap (λ (x : ℕ). added x (flagged 1 (flags b))) z

    pub flag_block : ClientIs n m clients k (set b (client_record_size + j) 1)
        (record { living = (client_place b).living; state = (client_place b).state; downs = added j (client_place b).downs })
    flag_block =
        let M =
        moved n m clients k b (set b (client_record_size + j) 1) ok set_record (length-set b (client_record_size + j) 1 ∙
        C.size) (rw set_first C.bit) (rw set-flags (every_set bit_word (flags b) (j - 1) 1 C.bits refl))
        (rw (set-flags, drop-set-lt n (flags b) (j - 1) 1 (omega arith)) C.behind)
        (rw (set_first, living-is, epoch)) in
        record { place = M.place ∙ rw (set_first, living-is, flag_downs, downs_are); valid = M.valid }

  -- what `mark_down` leaves
  pub mark-block : (j : ServerId) → 1 ≤ j.0 → j.0 ≤ n
      → ClientIs n m clients k (if in_epoch (client_place b) then set b (client_record_size + j.0) 1 else b) (downed j (client_place b))
  mark-block j h g =
      ⊎_elim
      (λ (t : in_epoch (client_place b) ≡ true). rw t (flag_block j.0 h g t))
      (λ (t : in_epoch (client_place b) ≡ false). rw t (record { place = refl; valid = ok }))
      (decided (in_epoch (client_place b)))

  -- the epoch ends, and the exit's record is written
  pub exited-block : ClientIs n m clients k (written n m k (cleared b) (exits n (record { 0 = k }) (client_place b).state).state)
      (record { living = (client_place b).living; state = (exits n (record { 0 = k }) (client_place b).state).state; downs = [] })
  exited-block =
      let D = cleared-block in
      let E = exits-block n m clients k (cleared b) D.valid (cleared_zero b C.size) in
      rw D.place at E

-- an epoch begins: the flags of the servers, put one after another
pub flag_next : (b vs : List ℕ) (i : ℕ) → i < length vs
    → set (sets b flags_from (take i vs)) (client_record_size + (i + 1)) (get_or vs i 0) ≡ sets b flags_from (take (i + 1) vs)
flag_next b vs i h =
    let z : client_record_size + (i + 1) ≡ flags_from + i = omega arith in
    let t : take (i + 1) vs ≡ take i vs ++ (get_or vs i 0 ∷ []) = rw add-one (take-suc vs i 0 h) in
    rw (z, t) (stored_on b (sets b flags_from (take i vs)) (set (sets b flags_from (take i vs)) (flags_from + i) (get_or vs i 0)) (take i vs)
    (get_or vs i 0 ∷ []) flags_from (flags_from + i) refl refl (omega (arith, length-take-le i vs (omega arith))))

down-bits : (qs : List ServerPlace) → every bit_word (map down_bit qs) ≡ true
down-bits [] = refl
down-bits (q ∷ qs) =
    ⊎_elim (λ (t : q.up ≡ true). rw t (down-bits qs)) (λ (t : q.up ≡ false). rw t (down-bits qs)) (decided q.up)

module _ (n m clients k : ℕ) (b : List ℕ) (ok : valid_client_block n m clients (client_no k) b ≡ true) (qs : List ServerPlace) (all : length qs ≡ n) where
  abbrev D : ClientBlock n m clients k b
  D = client-facts n m clients k b ok

  abbrev bits : List ℕ
  bits = map down_bit qs

  few_servers : n ≤ system_servers
  few_servers = client-few n m clients k b D

  count : length bits ≡ n
  count = length-map qs down_bit ∙ all

  put-flags : flags (sets b flags_from bits) ≡ bits ++ drop n (flags b)
  put-flags =
      let l : length (flags b) ≡ system_servers = simp (length-take, length-drop) (omega (arith, D.size)) in
      let z : 0 + length bits ≡ n = omega (arith, count, few_servers) in
      region-inside flags_from system_servers b 0 bits (omega (arith, count, few_servers)) ∙
      sets-eq bits (flags b) 0 (omega (arith, count, few_servers)) ∙ ap (λ (x : ℕ). bits ++ drop x (flags b)) z

  put_record : client_record (sets b flags_from bits) ≡ client_record b
  put_record = region-behind 1 client_record_size b 0 bits

  put_first : get_or (sets b flags_from bits) 0 0 ≡ get_or b 0 0
  put_first = first-kept b client_record_size bits

  pub put-block : in_epoch (client_place b) ≡ true → ClientIs n m clients k (sets b flags_from (map down_bit qs))
      (record { living = (client_place b).living; state = (client_place b).state; downs = down_from 1 qs })
  put-block epoch =
      let p : every bit_word (flags (sets b flags_from bits)) ≡ true = rw put-flags
      (every_append bit_word bits (drop n (flags b)) (down-bits qs) (every_drop bit_word n (flags b) D.bits)) in
      let r : every zero_word (drop n (flags (sets b flags_from bits))) ≡ true = rw (put-flags, drop_at bits (drop n (flags b)) n count) D.behind in
      let M = moved n m clients k b (sets b flags_from bits) ok put_record (length-sets b flags_from bits ∙
      D.size) (rw put_first D.bit) p r (rw (put_first, living-is n m clients k b ok, epoch)) in
      record { place = M.place ∙ rw (put_first, living-is n m clients k b ok, put-flags, down-flagged 1 qs (drop n (flags b)) D.behind); valid = M.valid }

-- the record of a try is written, and the flags of the servers are put
pub tried-block : (n m clients k : ℕ) (b : List ℕ) → valid_client_block n m clients (client_no k) b ≡ true → (client_place b).living ≡ true
    → is_remainder (client_place b).state.section ≡ true
    → may_try (client_place b).state ≡ true → (qs : List ServerPlace) → length qs ≡ n
    → ClientIs n m clients k (sets (written n m k b (tries n (record { 0 = k }) (client_place b).state).state) flags_from (map down_bit qs))
    (record { living = true; state = (tries n (record { 0 = k }) (client_place b).state).state; downs = down_from 1 qs })
unfolding tries
tried-block n m clients k b ok alive h g qs all =
    let T = tries-block n m clients k b ok h g in
    let P = put-block n m clients k (written n m k b (tries n (record { 0 = k }) (client_place b).state).state) T.valid qs all (rw (T.place, alive)) in
    rw (T.place, alive) at P
