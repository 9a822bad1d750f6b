-- The test whether words are a script's state: each return is one case of the definition.
use mathlib.Core.Path.{◌≡◌, sym, ap, ◌∙◌}
use Prim.Native.Nat.{ℕ, ◌+◌, ◌-◌, ◌≤◌, ◌<◌}
use native.Mathlib.Omega.{arith}
use mathlib.Core.Bool.{Bool, true, false}
use mathlib.Core.List.{List}
use lib.Dec.{leb}
use lib.Seq.{drop-drop}
use Rattle.sim_blocks.proofs.BlockParts.{drop-take}
use lib.ListN.{length, get_or, take, drop}
use borrow.Author.Tests.{le-leb, lt-leb, eq-eqb, ne_eqb}
use Rattle.ids.specs.Lists.{every}
use Rattle.ids.proofs.LimitsLaws.{within-range}
use Rattle.system.specs.Places.{holders}
use Rattle.sim_layout.specs.Layout as layout
use Rattle.sim_layout.proofs.ValidLaws as layout_laws
use Rattle.script.specs.State.{stage_running, stage_closed, stage_at, answered_at, accepted_at, holding_at, length_at, state_size, head_in, kept_in, simulation_in, valid_run, valid_idle, byte_word, valid_line, valid_parts, valid, state_head, line_from}
use Rattle.script.proofs.StateLaws.{simulation_long}
use Rattle.system.specs.Limits.{system_clients}
use Rattle.sim_layout.specs.Layout.{simulation_size}
use Rattle.script_output.specs.Output.{max_lines}
use Rattle.script_output.specs.Reader.{max_kept}

-- a valid simulation has at most 16 clients
pub few_clients : (s : List ℕ) → layout.valid s ≡ true → get_or s 3 0 ≤ system_clients
unfolding layout.setting_of
few_clients s v = (within-range _ _ (layout_laws.facts s v).some).1

module _ (w : List ℕ) (long : length w ≡ state_size) where
  pub part-long : length (take simulation_size (drop state_head w)) ≡ simulation_size
  unfolding simulation_in
  part-long = simulation_long w long

  module _ (x : Bool) (e : x ≡ layout.valid (take simulation_size (drop state_head w))) where
    pub simulation_bad : x ≡ false → false ≡ valid_run (head_in w) (simulation_in w)
    unfolding valid_run simulation_in
    simulation_bad n = rw (sym e ∙ n)

    module _ (n : x ≡ true) where
      pub simulation_good : layout.valid (take simulation_size (drop state_head w)) ≡ true
      simulation_good = sym e ∙ n

      pub lines-many : max_lines < get_or w answered_at 0 → false ≡ valid_run (head_in w) (simulation_in w)
      unfolding valid_run simulation_in head_in
      lines-many g = rw (simulation_good, lt-leb (get_or w answered_at 0) max_lines g)

      module _ (l : get_or w answered_at 0 ≤ max_lines) where
        pub accepted-many : get_or w answered_at 0 < get_or w accepted_at 0 → false ≡ valid_run (head_in w) (simulation_in w)
        unfolding valid_run simulation_in head_in
        accepted-many g = rw (simulation_good, le-leb (get_or w answered_at 0) max_lines l, lt-leb (get_or w accepted_at 0) (get_or w answered_at 0) g)

        module _ (a : get_or w accepted_at 0 ≤ get_or w answered_at 0) (c : ℕ) (q : c ≡ holders (layout.view (take simulation_size (drop state_head w)))) where
          pub holders-many : get_or w holding_at 0 < c → false ≡ valid_run (head_in w) (simulation_in w)
          unfolding valid_run simulation_in head_in
          holders-many g =
              rw (
                simulation_good,
                le-leb (get_or w answered_at 0) max_lines l,
                le-leb (get_or w accepted_at 0) (get_or w answered_at 0) a,
                lt-leb
                    (holders (layout.view (take simulation_size (drop state_head w)))) (get_or w holding_at 0) (omega (arith, g, q)),
              )

          pub holders-few : c ≤ get_or w holding_at 0 → (r : Bool) → r ≡ leb (get_or w holding_at 0) system_clients → r ≡ valid_run (head_in w) (simulation_in w)
          unfolding valid_run simulation_in head_in
          holders-few g r p =
              rw (
                simulation_good,
                le-leb (get_or w answered_at 0) max_lines l,
                le-leb (get_or w accepted_at 0) (get_or w answered_at 0) a,
                le-leb
                    (holders (layout.view (take simulation_size (drop state_head w)))) (get_or w holding_at 0) (omega (arith, g, q)),
              ) p

-- the words of the line
module _ (w : List ℕ) (long : length w ≡ state_size) where
  abbrev line-says : Bool → Type 0
  line-says r = r ≡ valid_line (get_or w length_at 0) (kept_in w)

  pub line-long : max_kept < get_or w length_at 0 → line-says false
  unfolding valid_line
  line-long g = rw (lt-leb (get_or w length_at 0) max_kept g)

  module _ (b : get_or w length_at 0 ≤ max_kept) (x : Bool) (e : x ≡ every byte_word (kept_in w)) where
    pub bytes-wrong : x ≡ false → line-says false
    unfolding valid_line
    bytes-wrong n = rw (le-leb (get_or w length_at 0) max_kept b, sym e ∙ n)

    -- what is tested behind the line is the rest of its words
    rest_of_line : take (state_head - (line_from + get_or w length_at 0)) (drop (line_from + get_or w length_at 0) w) ≡ drop (get_or w length_at 0) (kept_in w)
    unfolding kept_in
    rest_of_line =
        let i : ℕ = get_or w length_at 0 in
        let z : max_kept ≡ i + (state_head - (line_from + i)) = omega (arith, b) in
        ap (take (state_head - (line_from + i))) (sym (drop-drop i line_from w)) ∙
        (sym (drop-take i (state_head - (line_from + i)) (drop line_from w)) ∙ ap (λ (k : ℕ). drop i (take k (drop line_from w))) (sym z))

    pub rest_decides : x ≡ true → (r : Bool) → r ≡ layout.blank (take (state_head - (line_from + get_or w length_at 0)) (drop (line_from + get_or w length_at 0) w))
        → line-says r
    unfolding valid_line
    rest_decides n r p = rw (le-leb (get_or w length_at 0) max_kept b, sym e ∙ n) (p ∙ ap layout.blank rest_of_line)

-- the words of a script that does not run
module _ (w : List ℕ) where
  abbrev idle-says : Bool → Type 0
  idle-says r = r ≡ valid_idle (head_in w) (simulation_in w)

  pub idle-answered : (get_or w answered_at 0 ≡ 0 → ⊥) → idle-says false
  unfolding valid_idle head_in
  idle-answered ne = rw (ne_eqb (get_or w answered_at 0) 0 ne)

  module _ (a : get_or w answered_at 0 ≡ 0) where
    pub idle-accepted : (get_or w accepted_at 0 ≡ 0 → ⊥) → idle-says false
    unfolding valid_idle head_in
    idle-accepted ne = rw (eq-eqb (get_or w answered_at 0) 0 a, ne_eqb (get_or w accepted_at 0) 0 ne)

    module _ (b : get_or w accepted_at 0 ≡ 0) where
      pub idle-holding : (get_or w holding_at 0 ≡ 0 → ⊥) → idle-says false
      unfolding valid_idle head_in
      idle-holding ne = rw (eq-eqb (get_or w answered_at 0) 0 a, eq-eqb (get_or w accepted_at 0) 0 b, ne_eqb (get_or w holding_at 0) 0 ne)

      pub idle_decides : get_or w holding_at 0 ≡ 0 → (r : Bool) → r ≡ layout.blank (take (state_size - state_head) (drop state_head w)) → idle-says r
      unfolding valid_idle head_in simulation_in
      idle_decides c r p =
          let z : state_size - state_head ≡ simulation_size = omega arith in
          rw (eq-eqb (get_or w answered_at 0) 0 a, eq-eqb (get_or w accepted_at 0) 0 b, eq-eqb (get_or w holding_at 0) 0 c) (p ∙ ap (λ (k : ℕ). layout.blank (take k (drop state_head w))) z)

-- the whole
module _ (w : List ℕ) where
  pub size-wrong : (length w ≡ state_size → ⊥) → false ≡ valid w
  unfolding valid
  size-wrong ne = rw (ne_eqb (length w) state_size ne)

  module _ (long : length w ≡ state_size) where
    pub stage-wrong : stage_closed < get_or w stage_at 0 → false ≡ valid w
    unfolding valid valid_parts head_in
    stage-wrong g = rw (eq-eqb (length w) state_size long, lt-leb (get_or w stage_at 0) stage_closed g)

    module _ (a : get_or w stage_at 0 ≤ stage_closed) (x : Bool) (e : x ≡ valid_line (get_or w length_at 0) (kept_in w)) where
      pub line-wrong : x ≡ false → false ≡ valid w
      unfolding valid valid_parts head_in
      line-wrong n = rw (eq-eqb (length w) state_size long, le-leb (get_or w stage_at 0) stage_closed a, sym e ∙ n)

      module _ (n : x ≡ true) where
        pub run_decides : get_or w stage_at 0 ≡ stage_running → (r : Bool) → r ≡ valid_run (head_in w) (simulation_in w) → r ≡ valid w
        unfolding valid valid_parts head_in
        run_decides q r p =
            rw (
              eq-eqb (length w) state_size long,
              le-leb (get_or w stage_at 0) stage_closed a,
              sym e ∙ n,
              eq-eqb (get_or w stage_at 0) stage_running q,
            ) p

        pub idle_decides_all : (get_or w stage_at 0 ≡ stage_running → ⊥) → (r : Bool) → r ≡ valid_idle (head_in w) (simulation_in w) → r ≡ valid w
        unfolding valid valid_parts head_in
        idle_decides_all q r p =
            rw (
              eq-eqb (length w) state_size long,
              le-leb (get_or w stage_at 0) stage_closed a,
              sym e ∙ n,
              ne_eqb (get_or w stage_at 0) stage_running q,
            ) p
