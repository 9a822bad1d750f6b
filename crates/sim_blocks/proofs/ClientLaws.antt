-- What a client's block becomes where a step's record is written in it: the same place with the step's state, and valid again.
use Prim.Native.Nat.{ℕ, ◌≤◌}
use native.Mathlib.Omega.{arith}
use mathlib.Core.Logic.{◌⊎◌, inl, inr}
use mathlib.Core.Path.{◌≡◌, refl, sym, ap, ◌∙◌}
use mathlib.Core.Bool.{Bool, true, false, ◌&&◌, ◌||◌, not}
use mathlib.Core.List.{List, map}
use lib.Dec.{eqb}
use lib.ListN.{length, get_or, drop, length-map, length-take, length-drop}
use lib.Seq.{sets, length-sets}
use Rattle.ids.specs.Lists.{every}
use Rattle.ids.specs.declared.ClientId.{ClientId}
use Rattle.client.specs.declared.Client.{Client}
use Rattle.client_responses.specs.Figure1.{State, is_remainder}
use Rattle.client.specs.Record as client
use Rattle.client.proofs.KeepsValid.{Fits, view-store, store-valid}
use Rattle.words.specs.Records.{client_from, client_words}
use Rattle.words.proofs.RoundTrip.{client_read_back}
use Rattle.sim_blocks.proofs.RegionLaws.{region-inside, region-before}
use Rattle.system.specs.Places.{ClientPlace, in_epoch}
use Rattle.sim_blocks.specs.Blocks.{client_record, flags, flagged, client_place, bit_word, zero_word, named, valid_client_block, client_block, flags_from, holds_client_record, client_record_size, response_words}
use Rattle.sim_blocks.proofs.BlockParts.{read_in, covered, client-long, first-kept}
use Rattle.sim_blocks.proofs.Facts.{ClientBlock, client-facts, client-block, client-few, outside_clear}
use Rattle.system.specs.Limits.{system_servers}
use Rattle.system.specs.Numbered.{client_no}
use Rattle.rows.proofs.RowLaws.{length_row_of}
use Rattle.client_responses.specs.Row.{place}

-- these words are a valid block, which is place p
pub record ClientIs (n m clients k : ℕ) (b : List ℕ) (p : ClientPlace) : Type 0 where
  pub place : client_place b ≡ p
  pub valid : valid_client_block n m clients (client_no k) b ≡ true

-- a store of a record, seen through the parts
module _ (b ws : List ℕ) (l : length b ≡ client_block) (w : length ws ≡ client_record_size) where
  pub record_stored : client_record (sets b 1 ws) ≡ ws
  record_stored =
      region-inside 1 client_record_size b 0 ws (omega arith) ∙ covered (client_record b) ws (simp (length-take, length-drop) (omega arith))

  pub flags-kept : flags (sets b 1 ws) ≡ flags b
  flags-kept = region-before flags_from system_servers b 1 ws (omega arith)

-- what a block has beside its record: a fallen client has no flag
pub record Frame (n : ℕ) (b : List ℕ) : Type 0 where
  pub size : length b ≡ client_block
  pub bit : get_or b 0 0 ≤ 1
  pub bits : every bit_word (flags b) ≡ true
  pub behind : every zero_word (drop n (flags b)) ≡ true
  pub fallen : (client_place b).living ≡ false → every zero_word (flags b) ≡ true

module _ (n m clients k : ℕ) (b : List ℕ) (B : Frame n b) (few : n ≤ system_servers) where
  abbrev me : ClientId
  me = record { 0 = k }

  -- the block with the record of state s
  abbrev with : State → List ℕ
  with s = sets b 1 (client_words (client.store_in system_servers n m (record { 0 = k }) s))

  module _ (s : State) (F : Fits n m (record { 0 = k }) s) (names : every (named clients) s.responses ≡ true) (clear : is_remainder s.section ≡ true
      → every zero_word (flags b) ≡ true) where
    abbrev kept : Client
    kept = client.store_in system_servers n m (record { 0 = k }) s

    kept_row : length kept.row ≡ response_words
    unfolding client.store_in
    kept_row = length_row_of response_words (map place s.responses) (simp length-map (omega (arith, F.long, few)))

    kept-valid : client.valid kept ≡ true
    kept-valid = store-valid system_servers n m me s F few

    words-held : (holds_client_record (client_words kept) ≡ true) × (client_from (client_words kept) ≡ kept)
    words-held = read_in (holds_client_record (client_words kept)) (client_from (client_words kept)) kept (client_read_back kept kept-valid response_words kept_row)

    its_record : client_record (with s) ≡ client_words kept
    its_record = record_stored b (client_words kept) B.size (client-long kept kept_row)

    its-flags : flags (with s) ≡ flags b
    its-flags = flags-kept b (client_words kept) B.size (client-long kept kept_row)

    its-client : client_from (client_record (with s)) ≡ kept
    its-client = ap client_from its_record ∙ words-held.1

    stored-place : client_place (with s) ≡ record { living = (client_place b).living; state = s; downs = (client_place b).downs }
    unfolding client_place
    stored-place =
        let a : get_or (with s) 0 0 ≡ get_or b 0 0 = first-kept b 0 (client_words kept) in
        let v : client.view (client_from (client_record (with s))) ≡ s = ap client.view its-client ∙ view-store system_servers n m me s F few in
        let f : flagged 1 (flags (with s)) ≡ flagged 1 (flags b) = ap (flagged 1) its-flags in
        λ i. record { living = eqb (a i) 1; state = v i; downs = f i }

    still-outside : in_epoch (client_place (with s)) || every zero_word (flags (with s)) ≡ true
    still-outside =
        rw (stored-place, its-flags)
        (by_tests (client_place b).living (is_remainder s.section) (every zero_word (flags b)) clear B.fallen)
      where
        by_tests : (x y z : Bool) → (y ≡ true → z ≡ true) → (x ≡ false → z ≡ true) → (x && not y) || z ≡ true
        by_tests true true z h g = h refl
        by_tests true false z h g = refl
        by_tests false y z h g = g refl

    stored-facts : ClientBlock n m clients k (with s)
    unfolding client.store_in
    stored-facts =
        record {
          size = length-sets b 1 (client_words kept) ∙ B.size;
          bit = rw (first-kept b 0 (client_words kept)) B.bit;
          held = rw its_record words-held.0;
          valid = rw its-client kept-valid;
          servers = ap (λ (c : Client). c.head.n) its-client;
          threshold = ap (λ (c : Client). c.head.m) its-client;
          number = ap (λ (c : Client). c.head.id) its-client;
          names = rw stored-place names;
          bits = rw its-flags B.bits;
          behind = rw its-flags B.behind;
          outside = still-outside;
        }

    pub stored_frame : ClientIs n m clients k (with s) (record { living = (client_place b).living; state = s; downs = (client_place b).downs })
    stored_frame = record { place = stored-place; valid = client-block n m clients k (with s) stored-facts }

module _ (n m clients k : ℕ) (b : List ℕ) (ok : valid_client_block n m clients (client_no k) b ≡ true) where
  abbrev facts : ClientBlock n m clients k b
  facts = client-facts n m clients k b ok

  outside : (x y : Bool) → (x ≡ false) ⊎ (y ≡ true) → x && not y ≡ false
  outside true true e = refl
  outside false y e = refl
  outside true false (inl e) = e
  outside true false (inr e) = sym e

  pub remainder_clear : is_remainder (client_place b).state.section ≡ true → every zero_word (flags b) ≡ true
  remainder_clear h = outside_clear n m clients k b facts (outside (client_place b).living (is_remainder (client_place b).state.section) (inr h))

  frame : Frame n b
  frame =
      record {
        size = facts.size;
        bit = facts.bit;
        bits = facts.bits;
        behind = facts.behind;
        fallen = λ h. outside_clear n m clients k b facts (outside (client_place b).living (is_remainder (client_place b).state.section) (inl h));
      }

  pub stored-client : (s : State) → Fits n m (record { 0 = k }) s → every (named clients) s.responses ≡ true
      → (is_remainder s.section ≡ true → every zero_word (flags b) ≡ true)
      → ClientIs n m clients k (sets b 1 (client_words (client.store_in system_servers n m (record { 0 = k }) s)))
      (record { living = (client_place b).living; state = s; downs = (client_place b).downs })
  stored-client s F names clear = stored_frame n m clients k b frame (client-few n m clients k b facts) s F names clear
