-- What a line does to the state: each store changes one of the counts or the simulation, and the stage is what the definition says.
use Rattle.sim_changes.specs.declared.Effect.{Effect}
use mathlib.Core.Path.{◌≡◌, refl, sym, ap, ◌∙◌}
use Prim.Native.Nat.{ℕ, suc, ◌+◌, ◌≤◌, ◌<◌, max}
use native.Mathlib.Numerals.{add-one}
use native.Mathlib.Omega.{arith}
use mathlib.Core.Bool.{Bool, true, false}
use mathlib.Core.List.{List, [], ◌∷◌, map}
use lib.Dec.{leb}
use lib.ListN.{length, get_or, set, take, drop, replicate, length-map, length-set}
use lib.Seq.{sets, length-sets}
use borrow.Rule.Slice.PartMut.{put_mid, put_same}
use borrow.Author.Tests.{eq-eqb, ne_eqb, le-leb, lt-leb, leb-false, lt-ltb, le-ltb}
use Rattle.std.specs.Prelude.{Result, if◌then◌else◌, Ok, Err, Some, None, Option}
use Rattle.ids.specs.Limits.{within, max_short}
use Rattle.ids.specs.declared.Refusal.{Refusal}
use Rattle.ids.specs.declared.Refusal.TheVariants.{BadLine, ParameterOutOfRange, NoSuchParty}
use Rattle.ids.proofs.Choice.{both}
use Rattle.ids.proofs.LimitsLaws.{within-range}
use Rattle.client_responses.specs.Figure1.{count}
use Rattle.quorum.specs.Check.{in_range_up_to}
use Rattle.quorum.proofs.CheckLaws.{range}
use Rattle.system.specs.declared.Event.{Event}
use Rattle.system.specs.declared.Event.TheVariants.{Try, Exit, Fall, Down, Up, Take, Drop, Miss, Check}
use Rattle.system.specs.Numbered.{has}
use Rattle.system.specs.Places.{System, is_inside, holders}
use Rattle.system.specs.Events.{EventOutcome, with_places}
use Rattle.system.specs.Runs.{after, is_stepped}
use Rattle.sim_blocks.specs.Regions.{blocks}
use Rattle.sim_blocks.proofs.RegionBlocks.{length-blocks}
use Rattle.sim_blocks.specs.Blocks.{client_place, client_block}
use Rattle.wire.specs.Step.{refused, stepped}
use Rattle.system.specs.declared.Setting.{Setting}
use Rattle.script_lines.specs.declared.Line.TheVariants.{Event as Says, Unknown, Bad}
use Rattle.script_numbers.specs.Decimals.{largest32}
use Rattle.script_lines.specs.Words.{newline}
use Rattle.script_lines.specs.Lines.{event_in, sixteen_bits, line_of, setting_in as line-setting}
use Rattle.script_lines.specs.Printed.{header_line, no_line, ok_line, end_line, refused_line}
use Rattle.script_lines.proofs.PrintedLaws.{Small, no_short, ok_short, header-short, end_short, refused-short}
use Rattle.sim_layout.specs.Layout as layout
use Rattle.sim_layout.proofs.ValidLaws as layout_laws
use Rattle.sim_layout.proofs.LendLaws.{came_back}
use Rattle.sim_layout.proofs.PlaceLaws.{client-there, server-there}
use Rattle.sim_changes.proofs.Answers.{no_client-tries, no_client-exits, no_client_falls, no_server-downs, no_server-ups, no_server-misses, no_server_checks}
use Rattle.sim_changes.specs.Happens as bounded
use Rattle.simulation.specs.Opens.{in_range, opens}
use Rattle.sim_run.specs.declared.Counts.{Counts}
use Rattle.sim_run.specs.declared.Went.{Went}
use Rattle.sim_run.specs.Run.{Run, fresh, started, moved, next}
use Rattle.sim_run.specs.Calls.{max_accepted, run_in, counts_of, new_answer, NewLeaves, Goes}
use Rattle.sim_run.proofs.Whole.{moved-system, moved-accepted, moved-holding}
use Rattle.script_output.specs.Output.{max_lines, answer_line}
use Rattle.script_output.specs.Reader.{Script, Stage, opening, running, closed, Reader, Printed, unanswered, opened, onward, line_taken, worked, behind, taken, ended, last_line, max_printed}
use Rattle.script.specs.State.{stage_opening, stage_running, stage_closed, stage_at, answered_at, accepted_at, holding_at, length_at, state_size, Head, head_in, kept_in, simulation_in, counts_in, script_in, stage_of, view, valid_run, valid_idle, valid, state_head}
use Rattle.script.specs.Calls.{new_answer as new_script, new_words}
use Rattle.script.specs.Inner.{Ready, Reads, Prints, Does, Takes, happened, passing, reply_line, with_counts, without_line}
use Rattle.script.proofs.StateLaws.{Is, itself-is, view-is, valid-is, store-stage, store-answered, store-accepted, store-holding, store_simulation, Facts, RunFacts, run-facts, from-run, from-facts}
use Rattle.script.proofs.TestLaws.{few_clients, part-long}
use Rattle.script.proofs.LineLaws.{known, sound, line-long, line-gone}
use Rattle.system.specs.Limits.{system_clients, system_servers}
use Rattle.sim_layout.specs.Layout.{simulation_size}

-- the stage, by its word
pub stage-opening : (w : List ℕ) → get_or w stage_at 0 ≡ stage_opening → (view w).stage ≡ opening
unfolding view stage_of head_in
stage-opening w e = rw e

pub stage-running : (w : List ℕ) → get_or w stage_at 0 ≡ stage_running → (view w).stage ≡ running (script_in (head_in w) (simulation_in w))
unfolding view stage_of head_in
stage-running w e = rw e

pub stage-closed : (w : List ℕ) → (get_or w stage_at 0 ≡ stage_opening → ⊥) → (get_or w stage_at 0 ≡ stage_running → ⊥) → (view w).stage ≡ closed
unfolding view stage_of head_in
stage-closed w a b = rw (ne_eqb (get_or w stage_at 0) stage_opening a, ne_eqb (get_or w stage_at 0) stage_running b)

-- a count of at most one, and the holders of a simulation
one_or_none : (b : Bool) → (if b then 1 else 0) ≤ 1
one_or_none true = omega arith
one_or_none false = omega arith

count-few : (l : List Bool) → count l ≤ length l
count-few [] = omega arith
count-few (b ∷ l) = omega (arith, count-few l, one_or_none b)

few-holders : (s : List ℕ) → layout.valid s ≡ true → holders (layout.view s) ≤ system_clients
unfolding layout.view layout.setting_of
few-holders s v =
    let a = few_clients s v in
    let b = length-blocks client_block client_place (get_or s 3 0) (layout.client_words s) in
    let c = length-map (blocks client_block client_place (get_or s 3 0) (layout.client_words s)) is_inside in
    omega (arith, a, b, c, count-few (map is_inside (blocks client_block client_place (get_or s 3 0) (layout.client_words s))))

-- the line of a reply is the line of the event's outcome
reply-line : (i : ℕ) (u : System) (o : EventOutcome) → reply_line i (bounded.reply_of u o) ≡ answer_line i u o
unfolding bounded.reply_of reply_line answer_line
reply-line i u (refused x) = refl
reply-line i u (stepped s) = refl

-- l stands in out' from place `at` on, and r is the place behind it
abbrev Put : List ℕ → ℕ → List ℕ → List ℕ → ℕ → Type 0
Put out at l out' r = (r ≡ at + length l) × (out' ≡ sets out at l)

pub prints : {out : List ℕ} {at : ℕ} {l out' : List ℕ} {r : ℕ} → Put out at l out' r → length l ≤ max_printed → Prints out at l out' r
prints b h = record { place = b.0; bytes = b.1; few = h }

prints-none : (out : List ℕ) (at : ℕ) → Prints out at [] out at
prints-none out at = record { place = omega arith; bytes = refl; few = omega arith }

module _ (out out' : List ℕ) (at r i : ℕ) (p : Result Effect Refusal) (small : i ≤ largest32) where
  pub replied_no : (x : Refusal) → p ≡ Err x → Put out at (no_line i x) out' r → Prints out at (reply_line i p) out' r
  unfolding reply_line
  replied_no x e b = rw e (prints b (omega (arith, no_short i x small)))

  pub replied_ok : (sent k : ℕ) → sent ≤ largest32 → k ≤ largest32 → p ≡ Ok (record { sent = sent; holders = k }) → Put out at (ok_line i sent k) out' r
      → Prints out at (reply_line i p) out' r
  unfolding reply_line
  replied_ok sent k hs hk e b = rw e (prints b (omega (arith, ok_short i sent k small hs hk)))

-- words that are these parts: the line of w, and a stage and a simulation that are valid
module _ (w out : List ℕ) (at : ℕ) (R : Ready w out at) where
  its : Facts (head_in w) (kept_in w) (simulation_in w)
  its = known w R.valid

  -- the general form: h has the length of w's line
  pub does : (p : Printed Stage) (w' : List ℕ) (h : Head) (s : List ℕ) → Is w' h (kept_in w) s → h.length ≡ (head_in w).length → stage_of h s ≡ p.now →
      h.stage ≤ stage_closed → (h.stage ≡ stage_running → valid_run h s ≡ true) → ((h.stage ≡ stage_running → ⊥) → valid_idle h s ≡ true)
      → (out' : List ℕ) (r : ℕ) → Prints out at p.out out' r → Does w out at p w' out' r
  unfolding view
  does p w' h s I e q few run idle out' r b =
      record {
        stage = ap (λ (x : Reader). x.stage) (view-is I) ∙ q;
        line = ap (λ (x : Reader). x.line) (view-is I) ∙ ap (λ (n : ℕ). take n (kept_in w)) e;
        again = valid-is I ∙ from-facts h (kept_in w) s (record { stage = few; line = rw e its.line; runs = run; idles = idle });
        prints = b;
      }

  -- the first line is refused
  pub refused_does : get_or w stage_at 0 ≡ stage_opening → (x : Refusal) (out' : List ℕ) (r : ℕ) → Put out at (refused_line x) out' r →
      Does w out at (record { now = closed; out = refused_line x }) (set w stage_at stage_closed) out' r
  unfolding stage_of valid_idle head_in
  refused_does zeroth x out' r b =
      does (record { now = closed; out = refused_line x }) (set w stage_at stage_closed) _ (simulation_in w)
      (store-stage (itself-is w R.long) stage_closed) refl refl (omega arith) (λ e. absurd (omega (arith, e)))
      (λ _. its.idles (λ e. absurd (omega (arith, zeroth, e)))) out' r (prints b (omega (arith, refused-short x)))

  -- nothing is done and nothing printed
  pub stays : (p : Printed Stage) → p.now ≡ (view w).stage → p.out ≡ [] → Does w out at p w out at
  stays p e q =
      record {
        stage = sym e;
        line = refl;
        again = R.valid;
        prints = rw q (prints-none out at);
      }

  module _ (N : Reads w) where
    run-known : RunFacts (head_in w) (simulation_in w)
    unfolding head_in
    run-known = run-facts (head_in w) (simulation_in w) (its.runs N.runs)

    -- a line that changes nothing
    pub number_small : get_or w answered_at 0 + 1 ≤ largest32
    number_small = omega (arith, N.more)

    pub passing_does : (x : Refusal) (out' : List ℕ) (r : ℕ) → Put out at (no_line (get_or w answered_at 0 + 1) x) out' r →
        Does w out at (passing (script_in (head_in w) (simulation_in w)) x) (set w answered_at (get_or w answered_at 0 + 1)) out' r
    unfolding stage_of head_in
    passing_does x out' r b =
        let F = run-known in
        let z : get_or w answered_at 0 + 1 ≡ suc (get_or w answered_at 0) = add-one (get_or w answered_at 0) in
        let P : Prints out at (no_line (get_or w answered_at 0 + 1) x) out' r =
        prints b (omega (arith, no_short (get_or w answered_at 0 + 1) x number_small)) in
        does (passing (script_in (head_in w) (simulation_in w)) x) (set w answered_at (get_or w answered_at 0 + 1)) _ (simulation_in w)
        (store-answered (itself-is w R.long) (get_or w answered_at 0 + 1)) refl
        (rw (N.runs, z))
        (omega (arith, N.runs))
        (λ e. from-run _ (simulation_in w)
        (record {
          simulation = F.simulation;
          answered = omega (arith, N.more);
          accepted = omega (arith, F.accepted);
          holding = F.holding;
          few = F.few;
        }))
        (λ ne. absurd (ne N.runs)) out' r (rw z at P)

    -- an event, which left the simulation s' and these counts
    module _ (e : Event) (s' : List ℕ) (went : Went) (G : Goes (counts_in (head_in w)) (simulation_in w) e s' went) where
      abbrev before : Run
      before = run_in (counts_in (head_in w)) (simulation_in w)

      abbrev outcome : EventOutcome
      outcome = bounded.happens (simulation_in w) e

      abbrev head : Head
      head =
          record {
            stage = get_or w stage_at 0;
            answered = get_or w answered_at 0 + 1;
            accepted = went.counts.accepted;
            holding = went.counts.holding;
            length = get_or w length_at 0;
          }

      now-holding : holders (layout.view s') ≡ holders (after (layout.view (simulation_in w)) outcome)
      now-holding = ap holders (ap (λ (r : Run). r.system) G.run ∙ moved-system before outcome)

      accepted-is : went.counts.accepted ≡ (head_in w).accepted + (if is_stepped outcome then 1 else 0)
      accepted-is = ap (λ (r : Run). r.accepted) G.run ∙ moved-accepted before outcome

      holding-is : went.counts.holding ≡ max (head_in w).holding (holders (after (layout.view (simulation_in w)) outcome))
      holding-is = ap (λ (r : Run). r.holding) G.run ∙ moved-holding before run-known.holding outcome

      counts_in-range : RunFacts head s'
      unfolding head_in
      counts_in-range =
          let F = run-known in
          record {
            simulation = G.again;
            answered = omega (arith, N.more);
            accepted = omega (arith, accepted-is, F.accepted, one_or_none (is_stepped outcome));
            holding = omega (arith, holding-is, now-holding);
            few = omega (arith, holding-is, now-holding, F.few, few-holders s' G.again);
          }

      went_on : ◌≡◌ {A = Script} (script_in head s') (onward (script_in (head_in w) (simulation_in w)) (next before e))
      unfolding head_in
      went_on =
          let z : get_or w answered_at 0 + 1 ≡ suc (get_or w answered_at 0) = add-one (get_or w answered_at 0) in
          λ i. record { answered = z i; run = G.run i }

      answered-line : reply_line (get_or w answered_at 0 + 1) went.reply ≡ (happened (script_in (head_in w) (simulation_in w)) e).out
      unfolding head_in
      answered-line = rw (G.reply, add-one (get_or w answered_at 0)) (reply-line _ _ _)

      pub happened_does : (w' : List ℕ) → Is w' head (kept_in w) s' → (out' : List ℕ) (r : ℕ) →
          Prints out at (reply_line (get_or w answered_at 0 + 1) went.reply) out' r →
          Does w out at (happened (script_in (head_in w) (simulation_in w)) e) w' out' r
      unfolding stage_of head_in
      happened_does w' I out' r b =
          does (happened (script_in (head_in w) (simulation_in w)) e) w' head s' I refl (rw N.runs (ap running went_on)) (omega (arith, N.runs))
          (λ q. from-run head s' counts_in-range) (λ ne. absurd (ne N.runs)) out' r (rw answered-line at b)

pub end_valid : (w : List ℕ) → valid w ≡ true → get_or w stage_at 0 ≡ stage_running → layout.valid (take simulation_size (drop state_head w)) ≡ true
unfolding simulation_in head_in
end_valid w v one = (run-facts (head_in w) (simulation_in w) ((known w v).runs one)).simulation

-- room for each line
module _ (out : List ℕ) (at : ℕ) (room : at + max_printed ≤ length out) where
  pub no_fits : (i : ℕ) (x : Refusal) → i ≤ largest32 → at + length (no_line i x) ≤ length out
  no_fits i x h = omega (arith, no_short i x h, room)

  pub ok_fits : (i sent k : ℕ) → i ≤ largest32 → sent ≤ largest32 → k ≤ largest32 → at + length (ok_line i sent k) ≤ length out
  ok_fits i sent k a b c = omega (arith, ok_short i sent k a b c, room)

-- what the end prints
module _ (w : List ℕ) (at : ℕ) (o : List ℕ) where
  abbrev Ends : List ℕ → ℕ → Type 0
  Ends o' r = Prints o at (ended (view w).stage) o' r

  pub end_opening : get_or w stage_at 0 ≡ stage_opening → (o' : List ℕ) (r : ℕ) → Put o at (refused_line BadLine) o' r → Ends o' r
  unfolding ended
  end_opening e o' r b = rw (stage-opening w e) (prints b (omega (arith, refused-short BadLine)))

  module _ (v : valid w ≡ true) (e : get_or w stage_at 0 ≡ stage_running) (k : ℕ) (small : k ≤ largest32) where
    end_few : length (end_line (get_or w accepted_at 0) (get_or w holding_at 0) k) ≤ max_printed
    unfolding head_in
    end_few =
        let F = run-facts (head_in w) (simulation_in w) ((known w v).runs e) in
        let a : get_or w accepted_at 0 ≤ largest32 = omega (arith, F.answered, F.accepted) in
        let h : get_or w holding_at 0 ≤ largest32 = omega (arith, F.few) in
        omega (arith, end_short (get_or w accepted_at 0) (get_or w holding_at 0) k a h small)

    pub end_fits : at + max_printed ≤ length o → at + length (end_line (get_or w accepted_at 0) (get_or w holding_at 0) k) ≤ length o
    end_fits room = omega (arith, end_few, room)

    pub end_running : k ≡ (layout.view (take simulation_size (drop state_head w))).most → (o' : List ℕ) (r : ℕ) →
        Put o at (end_line (get_or w accepted_at 0) (get_or w holding_at 0) k) o' r → Ends o' r
    unfolding ended head_in simulation_in
    end_running q o' r b =
        let P : Prints o at (end_line (get_or w accepted_at 0) (get_or w holding_at 0) k) o' r = prints b end_few in
        rw (stage-running w e) (rw q at P)

  pub end_closed : (get_or w stage_at 0 ≡ stage_opening → ⊥) → (get_or w stage_at 0 ≡ stage_running → ⊥) → Ends o at
  unfolding ended
  end_closed a b = rw (stage-closed w a b) (prints-none o at)

-- words set to 0
pub newly : (w w' : List ℕ) → length w ≡ state_size → w' ≡ replicate state_size 0 → w' ≡ new_words w
unfolding new_words
newly w w' e p = rw (eq-eqb (length w) state_size e) p

pub newly_answered : (w : List ℕ) → length w ≡ state_size → Ok (record { used = 0; wrote = 0 }) ≡ new_script w
unfolding new_script
newly_answered w e = rw (eq-eqb (length w) state_size e)

pub not_new : (w : List ℕ) → (length w ≡ state_size → ⊥) → (Err ParameterOutOfRange ≡ new_script w) × (w ≡ new_words w)
unfolding new_script new_words
not_new w ne = (rw (ne_eqb (length w) state_size ne), rw (ne_eqb (length w) state_size ne))

-- the first line ---------------------------------------------------------------------------------------------------------------

-- a setting in range has small numbers, and so a short header
in_range-small : (s : Setting) → in_range s ≡ true → Small s
in_range-small s e =
    let (q, k) = both (in_range_up_to system_servers s.n s.m s.f) (within s.clients system_clients) e in
    let R = range system_servers s.n s.m s.f q in
    record {
      n = omega (arith, R.servers);
      m = omega (arith, R.servers, R.threshold);
      f = omega (arith, R.servers, R.faults);
      clients = omega (arith, (within-range s.clients system_clients k).1);
    }

-- a new run is made or refused as the setting is in range
opens-range : (s : Setting) (l : ℕ) → l ≡ simulation_size → opens l s ≡ in_range s
unfolding opens
opens-range s l e = rw (eq-eqb l simulation_size e)

begun-refused : (b : Bool) (s : Setting) (x : Refusal) → Err x ≡ new_answer b s → (b ≡ false) × (x ≡ ParameterOutOfRange)
unfolding new_answer
begun-refused true s x e = let z : ◌≡◌ {A = ℕ} 0 1 = cc in absurd (omega arith)
begun-refused false s x e = (refl, (cc))

begun-run : (b : Bool) (s : Setting) (c : Counts) → Ok c ≡ new_answer b s → (b ≡ true) × (c ≡ counts_of (started s))
unfolding new_answer
begun-run true s c e = (refl, (cc))
begun-run false s c e = let z : ◌≡◌ {A = ℕ} 0 1 = cc in absurd (omega arith)

module _ (w out : List ℕ) (at : ℕ) (R : Ready w out at) (zeroth : get_or w stage_at 0 ≡ stage_opening) where
  -- the setting is out of range
  pub open_refused : (s : Setting) → in_range s ≡ false → (x : Refusal) → x ≡ ParameterOutOfRange → (w' out' : List ℕ) (r : ℕ) →
      Does w out at (record { now = closed; out = refused_line x }) w' out' r → Does w out at (opened (Some s)) w' out' r
  unfolding opened
  open_refused s out_of_lem x q w' out' r D = rw (out_of_lem, ← q) D

  -- the setting is in range: the script runs
  pub open_running : (s : Setting) (s' : List ℕ) → in_range s ≡ true → run_in (counts_of (started s)) s' ≡ started s → layout.valid s' ≡ true
      → length s' ≡ simulation_size → (out' : List ℕ) (r : ℕ) →
      Put out at (header_line s) out' r
      → Does w out at (opened (Some s)) (with_counts (set (sets w state_head s') stage_at stage_running) 0 (counts_of (started s))) out' r
  unfolding opened stage_of
  open_running s s' in-it u v long out' r b =
      let lent = store_simulation (itself-is w R.long) s' long in
      let I = store-holding (store-accepted (store-answered (store-stage lent stage_running) 0) 0) (holders (fresh s)) in
      let k : holders (layout.view s') ≡ holders (fresh s) = ap (λ (x : Run). holders x.system) u in
      let q : ◌≡◌ {A = Script} (unanswered (run_in (counts_of (started s)) s')) (unanswered (started s)) = ap unanswered u in
      rw in-it
      (does w out at R (record { now = running (unanswered (started s)); out = header_line s }) _ _ s' I refl (ap running q) (omega arith)
      (λ e. from-run _ s' (record {
        simulation = v;
        answered = omega arith;
        accepted = omega arith;
        holding = omega (arith, k);
        few = omega (arith, k, few-holders s' v);
      }))
      (λ ne. absurd (ne refl)) out' r (prints b (omega (arith, header-short s (in_range-small s in-it)))))

-- the line by its stage ----------------------------------------------------------------------------------------------------------

module _ (w : List ℕ) where
  abbrev Line : Printed Stage
  Line = worked (view w).stage (view w).line

  pub opening-line : get_or w stage_at 0 ≡ stage_opening → worked (view w).stage (view w).line ≡ opened (line-setting (view w).line)
  unfolding worked
  opening-line e = rw (stage-opening w e)

  pub closed-line : (get_or w stage_at 0 ≡ stage_opening → ⊥) → (get_or w stage_at 0 ≡ stage_running → ⊥)
      → worked (view w).stage (view w).line ≡ record { now = closed; out = [] }
  unfolding worked
  closed-line a b = rw (stage-closed w a b)

  module _ (one : get_or w stage_at 0 ≡ stage_running) where
    pub unread_line : max_lines ≤ get_or w answered_at 0 → worked (view w).stage (view w).line ≡ record { now = (view w).stage; out = [] }
    unfolding worked line_taken head_in
    unread_line h = rw (stage-running w one, le-ltb (get_or w answered_at 0) max_lines h)

    module _ (more : get_or w answered_at 0 < max_lines) where
      pub bad_line : event_in (view w).line ≡ None → worked (view w).stage (view w).line ≡ passing (script_in (head_in w) (simulation_in w)) BadLine
      unfolding worked line_taken head_in
      bad_line e = rw (stage-running w one, lt-ltb (get_or w answered_at 0) max_lines more, e)

      pub event-line : (e : Event) → event_in (view w).line ≡ Some e → worked (view w).stage (view w).line ≡ happened (script_in (head_in w) (simulation_in w)) e
      unfolding worked line_taken head_in
      event-line e q = rw (stage-running w one, lt-ltb (get_or w answered_at 0) max_lines more, q)

      -- an event of a party whose number is too large for its type
      pub unknown_line : (e : Event) → event_in (view w).line ≡ Some e → bounded.happens (simulation_in w) e ≡ refused NoSuchParty →
          worked (view w).stage (view w).line ≡ passing (script_in (head_in w) (simulation_in w)) NoSuchParty
      unfolding head_in answer_line moved
      unknown_line e q nobody = event-line e q ∙ rw nobody

-- what the parser said of the line
pub parsed_bad : (o : Option Event) → Bad ≡ line_of o → o ≡ None
unfolding line_of
parsed_bad None e = refl
parsed_bad (Some x) e = absurd (by_bits (sixteen_bits x) e)
  where
    by_bits : (b : Bool) → Bad ≡ (if b then Says x else Unknown) → ⊥
    by_bits true e = let z : ◌≡◌ {A = ℕ} 0 1 = cc in omega arith
    by_bits false e = let z : ◌≡◌ {A = ℕ} 0 1 = cc in omega arith

pub parsed_event : (o : Option Event) (x : Event) → Says x ≡ line_of o → o ≡ Some x
unfolding line_of
parsed_event None x e = let z : ◌≡◌ {A = ℕ} 0 1 = cc in absurd (omega arith)
parsed_event (Some y) x e = by_bits (sixteen_bits y) e
  where
    by_bits : (b : Bool) → Says x ≡ (if b then Says y else Unknown) → Some y ≡ Some x
    by_bits true e = let z : y ≡ x = cc in ap Some z
    by_bits false e = let z : ◌≡◌ {A = ℕ} 0 1 = cc in absurd (omega arith)

pub record IsUnknown (o : Option Event) : Type 0 where
  pub event : Event
  pub read : o ≡ Some event
  pub wide : sixteen_bits event ≡ false

pub parsed_unknown : (o : Option Event) → Unknown ≡ line_of o → IsUnknown o
unfolding line_of
parsed_unknown None e = let z : ◌≡◌ {A = ℕ} 0 1 = cc in absurd (omega arith)
parsed_unknown (Some y) e = by_bits (sixteen_bits y) refl e
  where
    by_bits : (b : Bool) → sixteen_bits y ≡ b → Unknown ≡ (if b then Says y else Unknown) → IsUnknown (Some y)
    by_bits true q e = let z : ◌≡◌ {A = ℕ} 0 1 = cc in absurd (omega arith)
    by_bits false q e = record { event = y; read = refl; wide = q }

-- no party of a simulation has such a number
module _ (s : List ℕ) (v : layout.valid s ≡ true) where
  beyond : (k c : ℕ) → leb k max_short ≡ false → c ≤ max_short → within k c ≡ false
  beyond k c e h = rw (le-leb 1 k (omega (arith, leb-false k max_short e)), lt-leb k c (omega (arith, leb-false k max_short e)))

  few_servers : (layout.setting_of s).n ≤ system_servers
  few_servers = (range system_servers _ _ _ (layout_laws.facts s v).range).servers

  no_client_lem : (k : ℕ) → leb k max_short ≡ false → has (layout.view s).clients k ≡ false
  no_client_lem k e =
      client-there s k ∙ beyond k (layout.setting_of s).clients e
      (omega (arith, (within-range (layout.setting_of s).clients system_clients (layout_laws.facts s v).some).1))

  no_server_lem : (j : ℕ) → leb j max_short ≡ false → has (layout.view s).servers j ≡ false
  no_server_lem j e = server-there s j ∙ beyond j (layout.setting_of s).n e (omega (arith, few_servers))

  pub nobody_such : (e : Event) → sixteen_bits e ≡ false → bounded.happens s e ≡ refused NoSuchParty
  unfolding sixteen_bits with_places
  nobody_such (Try k) h = rw (no_client-tries _ _ (layout.view s) k (no_client_lem k.0 h))
  nobody_such (Exit k) h = rw (no_client-exits _ _ (layout.view s) k (no_client_lem k.0 h))
  nobody_such (Fall k) h = rw (no_client_falls _ _ (layout.view s) k (no_client_lem k.0 h))
  nobody_such (Down j) h = rw (no_server-downs _ _ (layout.view s) j (no_server_lem j.0 h))
  nobody_such (Up j) h = rw (no_server-ups _ _ (layout.view s) j (no_server_lem j.0 h))
  nobody_such (Take i) h = let z : ◌≡◌ {A = ℕ} 0 1 = cc in absurd (omega arith)
  nobody_such (Drop i) h = let z : ◌≡◌ {A = ℕ} 0 1 = cc in absurd (omega arith)
  nobody_such (Miss j) h = rw (no_server-misses _ _ (layout.view s) j (no_server_lem j.0 h))
  nobody_such (Check j) h = rw (no_server_checks _ _ (layout.view s) j (no_server_lem j.0 h))

-- the counts stored leave as many words
pub counts_same : (w : List ℕ) (i : ℕ) (c : Counts) → length (with_counts w i c) ≡ length w
counts_same w i c =
    length-set (set (set w answered_at i) accepted_at c.accepted) holding_at c.holding ∙
    (length-set (set w answered_at i) accepted_at c.accepted ∙ length-set w answered_at i)

pub started-same : (w w' : List ℕ) (c : Counts) → w' ≡ with_counts (set w stage_at stage_running) 0 c → length w' ≡ length w
started-same w w' c p = ap length p ∙ (counts_same (set w stage_at stage_running) 0 c ∙ length-set w stage_at stage_running)

-- the simulation, lent and come back -----------------------------------------------------------------------------------------------

pub back : (w s' : List ℕ) → length w ≡ state_size → length s' ≡ simulation_size → put_mid state_head simulation_size w s' ≡ sets w state_head s'
back w s' e l = came_back w state_head simulation_size s' l (omega arith)

pub back_long : (w s' : List ℕ) → length w ≡ state_size → length s' ≡ simulation_size → length (put_mid state_head simulation_size w s') ≡ state_size
back_long w s' e l = ap length (back w s' e l) ∙ (length-sets w state_head s' ∙ e)

pub valid-long : (s : List ℕ) → layout.valid s ≡ true → length s ≡ simulation_size
valid-long s v = (layout_laws.facts s v).long

pub simulation_valid : (w out : List ℕ) (at : ℕ) (R : Ready w out at) → Reads w → layout.valid (take simulation_size (drop state_head w)) ≡ true
unfolding simulation_in
simulation_valid w out at R N = (run-known w out at R N).simulation

-- the counts are small enough to be counted on
pub counts-small : (w : List ℕ) → Reads w → (c : Counts) → c ≡ counts_in (head_in w) → c.accepted < max_accepted
unfolding head_in
counts-small w N c e = omega (arith, ap (λ (x : Counts). x.accepted) e, N.fewer, N.more)

-- an event's end: the simulation is back, and the counts are stored
module _ (w out : List ℕ) (at : ℕ) (R : Ready w out at) (N : Reads w) (e : Event) (s' : List ℕ) (counts : Counts) (c : counts ≡ counts_in (head_in w))
    (went : Went) (L : Goes counts (take simulation_size (drop state_head w)) e s' went) where
  long' : length s' ≡ simulation_size
  long' = valid-long s' L.again

  leaves : Goes (counts_in (head_in w)) (simulation_in w) e s' went
  unfolding simulation_in
  leaves = rw c at L

  pub event-long : length (put_mid state_head simulation_size w s') ≡ state_size
  event-long = back_long w s' R.long long'

  module _ (w' : List ℕ) (p : w' ≡ with_counts (put_mid state_head simulation_size w s') (get_or w answered_at 0 + 1) went.counts) where
    words : Is w' (head w out at R N e s' went leaves) (kept_in w) s'
    unfolding head_in
    words =
        rw (p, back w s' R.long long')
        (store-holding (store-accepted (store-answered (store_simulation (itself-is w R.long) s' long') (get_or w answered_at 0 + 1))
        went.counts.accepted) went.counts.holding)

    pub event-same : length w' ≡ length w
    event-same = words.long ∙ sym R.long

    pub event-happened : (out' : List ℕ) (r : ℕ) →
        Prints out at (reply_line (get_or w answered_at 0 + 1) went.reply) out' r →
        Does w out at (happened (script_in (head_in w) (simulation_in w)) e) w' out' r
    event-happened out' r b = happened_does w out at R N e s' went leaves w' words out' r b

-- a new run's two ends
module _ (w out : List ℕ) (at : ℕ) (R : Ready w out at) (zeroth : get_or w stage_at 0 ≡ stage_opening) (s : Setting) (s' : List ℕ) (made : Result Counts Refusal)
    (N : NewLeaves s (take simulation_size (drop state_head w)) s' × (made ≡ new_answer (opens (length (take simulation_size (drop state_head w))) s) s)) where
  abbrev opens_it : Bool
  opens_it = opens (length (take simulation_size (drop state_head w))) s

  lent-long : length (take simulation_size (drop state_head w)) ≡ simulation_size
  lent-long = part-long w R.long

  as_range : opens_it ≡ in_range s
  as_range = opens-range s (length (take simulation_size (drop state_head w))) lent-long

  module _ (x : Refusal) (e : made ≡ Err x) where
    refusing : (opens_it ≡ false) × (x ≡ ParameterOutOfRange)
    refusing = begun-refused opens_it s x (sym e ∙ N.1)

    -- the words come back as they were lent
    same-words : put_mid state_head simulation_size w s' ≡ w
    same-words =
        ap (put_mid state_head simulation_size w) (N.0.kept refusing.0) ∙
        put_same state_head simulation_size w

    pub begin_ready : Ready (put_mid state_head simulation_size w s') out at × (get_or (put_mid state_head simulation_size w s') stage_at 0 ≡ stage_opening)
    begin_ready = rw same-words (R, zeroth)

    pub begin_refused : (w' out' : List ℕ) (r : ℕ)
        → Does (put_mid state_head simulation_size w s') out at (record { now = closed; out = refused_line x }) w' out' r
        → Does w out at (opened (Some s)) w' out' r
    begin_refused w' out' r D = open_refused w out at R zeroth s (sym as_range ∙ refusing.0) x refusing.1 w' out' r (rw same-words at D)

  module _ (c : Counts) (e : made ≡ Ok c) where
    running_it : (opens_it ≡ true) × (c ≡ counts_of (started s))
    running_it = begun-run opens_it s c (sym e ∙ N.1)

    fresh-long : length s' ≡ simulation_size
    fresh-long = valid-long s' (N.0.again running_it.0)

    pub begin_long : length (put_mid state_head simulation_size w s') ≡ state_size
    begin_long = back_long w s' R.long fresh-long

    pub begin_room : at + length (header_line s) ≤ length out
    begin_room = omega (arith, header-short s (in_range-small s (sym as_range ∙ running_it.0)), R.room)

    module _ (w' : List ℕ) (p : w' ≡ with_counts (set (put_mid state_head simulation_size w s') stage_at stage_running) 0 c) where
      pub begin_same : length w' ≡ length w
      begin_same =
          ap length p ∙ (counts_same (set (put_mid state_head simulation_size w s') stage_at stage_running) 0 c ∙
          (length-set (put_mid state_head simulation_size w s') stage_at stage_running ∙ (begin_long ∙ sym R.long)))

      pub begin_running : (out' : List ℕ) (r : ℕ) → Put out at (header_line s) out' r → Does w out at (opened (Some s)) w' out' r
      begin_running out' r b =
          rw (p, running_it.1, back w s' R.long fresh-long)
          (open_running w out at R zeroth s s' (sym as_range ∙ running_it.0) (N.0.run running_it.0) (N.0.again running_it.0) fresh-long
          out' r b)

-- an event line, by what the parser said of it -------------------------------------------------------------------------------------

module _ (w out : List ℕ) (at : ℕ) (R : Ready w out at) where
  module _ (w' out' : List ℕ) (r : ℕ) where
    pub swapped : (p q : Printed Stage) → p ≡ q → Does w out at q w' out' r → Does w out at p w' out' r
    swapped p q e D = rw e D

    pub bad_first : None ≡ line-setting (view w).line → Does w out at (record { now = closed; out = refused_line BadLine }) w' out' r
        → Does w out at (opened (line-setting (view w).line)) w' out' r
    unfolding opened
    bad_first e D = rw (sym e) D

    pub setting-first : (s : Setting) → Some s ≡ line-setting (view w).line → Does w out at (opened (Some s)) w' out' r
        → Does w out at (opened (line-setting (view w).line)) w' out' r
    setting-first s e D = rw (sym e) D

    pub opening_does : get_or w stage_at 0 ≡ stage_opening → Does w out at (opened (line-setting (view w).line)) w' out' r
        → Does w out at (worked (view w).stage (view w).line) w' out' r
    opening_does e D = rw (opening-line w e) D

    module _ (one : get_or w stage_at 0 ≡ stage_running) (more : get_or w answered_at 0 < max_lines) where
      pub bad_does : Bad ≡ line_of (event_in (view w).line) → Does w out at (passing (script_in (head_in w) (simulation_in w)) BadLine) w' out' r
          → Does w out at (worked (view w).stage (view w).line) w' out' r
      bad_does e D = rw (bad_line w one more (parsed_bad (event_in (view w).line) e)) D

      pub event_does : (x : Event) → Says x ≡ line_of (event_in (view w).line)
          → Does w out at (happened (script_in (head_in w) (simulation_in w)) x) w' out' r
          → Does w out at (worked (view w).stage (view w).line) w' out' r
      event_does x e D = rw (event-line w one more x (parsed_event (event_in (view w).line) x e)) D

      pub unknown_does : Unknown ≡ line_of (event_in (view w).line)
          → Does w out at (passing (script_in (head_in w) (simulation_in w)) NoSuchParty) w' out' r
          → Does w out at (worked (view w).stage (view w).line) w' out' r
      unfolding head_in
      unknown_does e D =
          let K : IsUnknown (event_in (view w).line) = parsed_unknown (event_in (view w).line) e in
          let F = run-facts (head_in w) (simulation_in w) ((known w R.valid).runs one) in
          rw (unknown_line w one more K.event K.read (nobody_such (simulation_in w) F.simulation K.event K.wide)) D

  pub reading : get_or w stage_at 0 ≡ stage_running → get_or w answered_at 0 < max_lines → Reads w
  unfolding head_in
  reading one more = record { runs = one; more = more; fewer = (run-facts (head_in w) (simulation_in w) ((known w R.valid).runs one)).accepted }

  pub unread_does : get_or w stage_at 0 ≡ stage_running → max_lines ≤ get_or w answered_at 0 → Does w out at (worked (view w).stage (view w).line) w out at
  unread_does one h = let e = unread_line w one h in stays w out at R _ (ap (λ (p : Printed Stage). p.now) e) (ap (λ (p : Printed Stage). p.out) e)

  pub closed_does : (get_or w stage_at 0 ≡ stage_opening → ⊥) → (get_or w stage_at 0 ≡ stage_running → ⊥)
      → Does w out at (worked (view w).stage (view w).line) w out at
  closed_does a b =
      let e = closed-line w a b in
      stays w out at R _ (ap (λ (p : Printed Stage). p.now) e ∙ sym (stage-closed w a b)) (ap (λ (p : Printed Stage). p.out) e)

  -- a byte ----------------------------------------------------------------------------------------------------------------------------

  pub line_taken_lem : (b : ℕ) → b ≡ newline → (w' out' : List ℕ) (r : ℕ) → Does w out at (worked (view w).stage (view w).line) w' out' r
      → (w'' : List ℕ) → w'' ≡ without_line w' → Takes out at (taken (view w) b) w'' out' r
  unfolding taken
  line_taken_lem b e w' out' r D w'' p =
      let G = line-gone w' (sound w' D.again) in
      rw (eq-eqb b newline e, p)
      (record { reader = G.0 ∙ (λ i. record { stage = D.stage i; line = [] }); again = G.1; prints = D.prints })

  pub byte_taken : (b : ℕ) → (b ≡ newline → ⊥) → (w' : List ℕ)
      → (view w' ≡ record { stage = (view w).stage; line = behind (view w).line b }) × (valid w' ≡ true) → Takes out at (taken (view w) b) w' out at
  unfolding taken
  byte_taken b ne w' e = rw (ne_eqb b newline ne) (record { reader = e.0; again = e.1; prints = prints-none out at })

  -- the last line
  pub last_none : get_or w length_at 0 ≡ 0 → Does w out at (last_line (view w)) w out at
  last_none e =
      let z : length (view w).line ≡ 0 = line-long w (sound w R.valid) ∙ e in
      rw (eq-eqb (length (view w).line) 0 z) (stays w out at R (record { now = (view w).stage; out = [] }) refl refl)

  pub last_line_lem : (get_or w length_at 0 ≡ 0 → ⊥) → (w' out' : List ℕ) (r : ℕ) → Does w out at (worked (view w).stage (view w).line) w' out' r
      → Does w out at (last_line (view w)) w' out' r
  last_line_lem ne w' out' r D =
      rw (ne_eqb (length (view w).line) 0 (λ z. ne (sym (line-long w (sound w R.valid)) ∙ z))) D
