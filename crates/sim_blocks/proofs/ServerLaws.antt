-- What a server's block becomes where a record is written in it: the same place with the record's state, and valid again.
use Rattle.std.specs.Prelude.{None}
use Prim.Native.Nat.{ℕ, ◌≤◌}
use native.Mathlib.Omega.{arith}
use mathlib.Core.Path.{◌≡◌, refl, ap, ◌∙◌, sym}
use mathlib.Core.Bool.{true, false}
use mathlib.Core.List.{List}
use lib.Dec.{eqb}
use lib.ListN.{length, get_or, take, set, length-take, length-drop, length-set}
use lib.Seq.{sets, length-sets, drop-set-lt, get_or-set_same}
use Rattle.ids.specs.Lists.{every}
use Rattle.ids.specs.Limits.{valid_owner}
use Rattle.rows.proofs.RowLaws.{length_row_of, row_of-none}
use Rattle.server_votes.specs.Figure1.{State, candidates, idle}
use Rattle.server.specs.Record as server
use Rattle.server.specs.declared.Server.{Server}
use Rattle.server.proofs.KeepsValid.{Good, store-valid}
use Rattle.server.proofs.RecordLaws.{view-store}
use Rattle.words.specs.Records.{server_from, server_words}
use Rattle.words.proofs.RoundTrip.{server_read_back}
use Rattle.system.specs.Limits.{system_clients}
use Rattle.sim_blocks.proofs.RegionLaws.{region-inside}
use Rattle.system.specs.Places.{ServerPlace}
use Rattle.sim_blocks.specs.Blocks.{server_record, server_place, named_pair, valid_server_block, emptied, server_block, holds_server_record, server_record_size, queue_words}
use Rattle.sim_blocks.proofs.BlockParts.{read_in, covered, server-long, first-kept}
use Rattle.sim_blocks.proofs.Facts.{ServerBlock, server-facts, server-block, server_sizes}
use Rattle.system.specs.Numbered.{server_no}
use Rattle.server.specs.Calls.{empty_server_in}

-- these words are a valid block, which is place p
pub record ServerIs (n clients j : ℕ) (b : List ℕ) (p : ServerPlace) : Type 0 where
  pub place : server_place b ≡ p
  pub valid : valid_server_block n clients (server_no j) b ≡ true

-- the record of server j of n in state q, and the block with it
abbrev pub server_of : ℕ → ℕ → State → Server
server_of n j q = server.store_in system_clients n (server_no j) q

abbrev pub server-written : ℕ → ℕ → List ℕ → State → List ℕ
server-written n j b q = sets b 1 (server_words (server_of n j q))

-- the record of a new server, and of one that forgot
pub empty-row : (n j : ℕ) → empty_server_in queue_words n (server_no j) ≡ server_of n j idle
empty-row n j = let e = row_of-none queue_words 0 (omega arith) in λ i. server.server_of
    (record { n = n; id = server_no j; votes = record { owner = None; len = 0 } }) (sym e i)

module _ (n clients j : ℕ) (b : List ℕ) (size : length b ≡ server_block) (bit : get_or b 0 0 ≤ 1) (sizes : server.valid_sizes n (record { 0 = j }) ≡ true) where
  module _ (q : State) (g : Good q) (names : every (named_pair clients) (candidates q) ≡ true) (short : length q.queue ≤ system_clients) where
    abbrev kept : Server
    kept = server_of n j q

    kept_row : length kept.row ≡ queue_words
    kept_row = length_row_of queue_words q.queue (omega arith)

    kept-valid : server.valid kept ≡ true
    kept-valid = store-valid system_clients n (server_no j) q sizes short g

    words-held : (holds_server_record (server_words kept) ≡ true) × (server_from (server_words kept) ≡ kept)
    words-held = read_in (holds_server_record (server_words kept)) (server_from (server_words kept)) kept (server_read_back kept kept-valid queue_words kept_row)

    its_record : server_record (server-written n j b q) ≡ server_words kept
    its_record =
        let w = server-long kept kept_row in
        region-inside 1 server_record_size b 0 (server_words kept) (omega arith) ∙
        covered (server_record b) (server_words kept) (simp (length-take, length-drop) (omega arith))

    its-server : server_from (server_record (server-written n j b q)) ≡ kept
    its-server = ap server_from its_record ∙ words-held.1

    stored-place : server_place (server-written n j b q) ≡ record { up = (server_place b).up; state = q }
    unfolding server_place
    stored-place =
        let a : get_or (server-written n j b q) 0 0 ≡ get_or b 0 0 = first-kept b 0 (server_words kept) in
        let v : server.view (server_from (server_record (server-written n j b q))) ≡ q = ap (λ (s : Server). server.view s) its-server ∙ view-store system_clients n (server_no j) q short in
        λ i. record { up = eqb (a i) 1; state = v i }

    pub stored_record : ServerIs n clients j (server-written n j b q) (record { up = (server_place b).up; state = q })
    stored_record =
        record {
          place = stored-place;
          valid = server-block n clients j (server-written n j b q) (record {
            size = length-sets b 1 (server_words kept) ∙ size;
            bit = rw (first-kept b 0 (server_words kept)) bit;
            held = rw its_record words-held.0;
            valid = rw its-server kept-valid;
            servers = ap (λ (s : Server). s.head.n) its-server;
            number = ap (λ (s : Server). s.head.id) its-server;
            names = rw stored-place names;
          });
        }

pub stored-server : (n clients j : ℕ) (b : List ℕ) → valid_server_block n clients (server_no j) b ≡ true → (q : State) → Good q
    → every (named_pair clients) (candidates q) ≡ true → length q.queue ≤ system_clients
    → ServerIs n clients j (server-written n j b q) (record { up = (server_place b).up; state = q })
stored-server n clients j b ok q g names short =
    let B = server-facts n clients j b ok in
    stored_record n clients j b B.size B.bit (server_sizes n clients j b B) q g names short

-- the first word says whether the server is up
module _ (n clients j : ℕ) (b : List ℕ) (ok : valid_server_block n clients (server_no j) b ≡ true) (x : ℕ) (small : x ≤ 1) where
  abbrev facts : ServerBlock n clients j b
  facts = server-facts n clients j b ok

  same_record : server_record (set b 0 x) ≡ server_record b
  same_record = ap (take server_record_size) (drop-set-lt 1 b 0 x (omega arith))

  first-set : get_or (set b 0 x) 0 0 ≡ x
  first-set = get_or-set_same b 0 x 0 (omega (arith, facts.size))

  set-place : server_place (set b 0 x) ≡ record { up = eqb x 1; state = (server_place b).state }
  unfolding server_place
  set-place =
      let v : server.view (server_from (server_record (set b 0 x))) ≡ server.view (server_from (server_record b)) = ap
      (λ (l : List ℕ). server.view (server_from l)) same_record in
      λ i. record { up = eqb (first-set i) 1; state = v i }

  set-up : ServerIs n clients j (set b 0 x) (record { up = eqb x 1; state = (server_place b).state })
  set-up =
      record {
        place = set-place;
        valid = server-block n clients j (set b 0 x) (record {
          size = length-set b 0 x ∙ facts.size;
          bit = rw first-set small;
          held = rw same_record facts.held;
          valid = rw same_record facts.valid;
          servers = rw same_record facts.servers;
          number = rw same_record facts.number;
          names = rw set-place facts.names;
        });
      }

idle-good : Good idle
unfolding valid_owner
idle-good = record { owner = refl; all = refl; behind = refl; sorted = tt; single = tt }

-- a new server's record
pub idle-block : (n clients j : ℕ) (b : List ℕ) → length b ≡ server_block → get_or b 0 0 ≤ 1 → server.valid_sizes n (record { 0 = j }) ≡ true
    → ServerIs n clients j (server-written n j b idle) (record { up = (server_place b).up; state = idle })
idle-block n clients j b size bit sizes = stored_record n clients j b size bit sizes idle idle-good refl (omega arith)

module _ (n clients j : ℕ) (b : List ℕ) (ok : valid_server_block n clients (server_no j) b ≡ true) where
  pub rise_block : ServerIs n clients j (set b 0 1) (record { up = true; state = (server_place b).state })
  rise_block = set-up n clients j b ok 1 (omega arith)

  -- what `sink` leaves
  pub sink_block : ServerIs n clients j (set (sets b 1 (server_words (emptied (server_from (server_record b))))) 0 0) (record { up = false; state = idle })
  sink_block =
      let F = server-facts n clients j b ok in
      let S = stored-server n clients j b ok idle idle-good refl (omega arith) in
      let D = set-up n clients j (server-written n j b idle) S.valid 0 (omega arith) in
      rw (
        F.servers,
        F.number,
        empty-row n j,
      ) (record { place = D.place ∙ ap (λ (p : ServerPlace). record { up = false; state = p.state }) S.place; valid = D.valid })
