-- Rule 24: what a machine that passes it has. Assumes nothing.
use Prim.Native.Nat.{ℕ, ◌+◌, ◌*◌, ◌%◌, ◌≤◌, ◌<◌}
use mathlib.Core.Path.{◌≡◌}
use mathlib.Core.Bool.{true, false, ◌||◌, not}
use mathlib.Core.List.{List}
use native.Mathlib.Omega.{arith}
use lib.ListN.{length}
use lib.Dec.{eqb, ltb}
use borrow.Author.Tests.{eqb-true, eqb-false, ltb-true, ltb-false, not-false}
use Rattle.rules.specs.Scan.{every}
use Rattle.rules.proofs.Scanning.{neither, every-at, every-all}
use Rattle.machine.specs.Program.{program_length}
use Rattle.machine.specs.Machine.{most_states, byte_values, move_size, program_size, state_count, move, bad_lengths, good_target, good_record, bad_machine}

-- the lengths of two lists that have them right
pub record Lengths (M P : List ℕ) : Type 0 where
  pub moves : length M ≡ move_size * state_count M
  pub some : 1 ≤ state_count M
  pub most : state_count M ≤ most_states
  pub programs : length P ≡ program_size * state_count M

pub good-lengths : (M P : List ℕ) → bad_lengths M P ≡ false → Lengths M P
unfolding bad_lengths
good-lengths M P e =
    let l = neither (eqb (length M) 0 || ltb (move_size * most_states) (length M) || not (eqb (length M % move_size) 0)) (not (eqb (length P) (program_size * state_count M))) e in
    let z = neither (eqb (length M) 0 || ltb (move_size * most_states) (length M)) (not (eqb (length M % move_size) 0)) l.0 in
    let y = neither (eqb (length M) 0) (ltb (move_size * most_states) (length M)) z.0 in
    let a : length M % move_size ≡ 0 = eqb-true (length M % move_size) 0 (not-false _ z.1) in
    let b : length M ≤ move_size * most_states = ltb-false (move_size * most_states) (length M) y.1 in
    let n : length M ≡ 0 → ⊥ = eqb-false (length M) 0 y.0 in
    record {
      moves = omega arith;
      some = omega arith;
      most = omega arith;
      programs = eqb-true (length P) (program_size * state_count M) (not-false _ l.1);
    }

-- a machine that rule 24 does not refuse
pub record Good (M P : List ℕ) : Type 0 where
  pub lengths : Lengths M P
  pub targets : (q c : ℕ) → q < state_count M → c < byte_values → move M q c < state_count M
  pub records : (i : ℕ) → i < program_length * state_count M → good_record P i ≡ true

pub good-machine : (M P : List ℕ) → bad_machine M P ≡ false → Good M P
unfolding bad_machine
good-machine M P e =
    let n = state_count M in
    let r = neither (bad_lengths M P || not (every (byte_values * n) (good_target M))) (not (every (program_length * n) (good_record P))) e in
    let t = neither (bad_lengths M P) (not (every (byte_values * n) (good_target M))) r.0 in
    record {
      lengths = good-lengths M P t.0;
      targets = λ q c l h. ltb-true (move M q c) (state_count M) (every-at (byte_values * n) (good_target M) (not-false _ t.1) (byte_values * q + c) (omega arith));
      records = every-at (program_length * n) (good_record P) (not-false _ r.1);
    }

-- there the program of each state is there, and its records are good
module _ (M P : List ℕ) (g : Good M P) (q : ℕ) (l : q < state_count M) where
  pub program-there : program_size * q + program_size ≤ length P
  program-there = omega (arith, g.lengths.programs)

  pub program-good : every (program_length * q + program_length) (good_record P) ≡ true
  program-good = every-all (program_length * q + program_length) (good_record P) (λ i h. g.records i (omega arith))
