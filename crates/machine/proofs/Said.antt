-- The rules in a reader's words: what 24, 4, 5, 6 and 15 refuse. Assumes nothing.
use Prim.Native.Nat.{ℕ, zero, suc, ◌+◌, ◌*◌, ◌/◌, ◌%◌, ◌≤◌, ◌<◌}
use mathlib.Core.Path.{◌≡◌, refl, sym, ap, ◌∙◌}
use mathlib.Core.Bool.{Bool, true, false, ◌||◌, not, true≢false}
use mathlib.Core.List.{List}
use mathlib.Core.Logic.{◌⊎◌, inl, inr, ◌↔◌}
use native.Mathlib.Omega.{arith}
use lib.ListN.{length, get_or, take, drop}
use lib.Seq.{drop-drop}
use lib.Dec.{eqb, ltb, leb}
use borrow.Author.Tests.{lt-ltb, ltb-false, le-ltb, leb-false, lt-leb, not-true}
use Rattle.numbers.specs.Number.{num}
use Rattle.sets.specs.Set.{signatures, size}
use Rattle.rules.specs.Scan.{every}
use Rattle.rules.proofs.Scanning.{choose, either-words, differ-words, over-words, length-words, refuses-exactly}
use Rattle.feed.specs.Opening.{no_room}
use Rattle.machine.specs.Program.{counter_count, off, program_length, word, kind_of, which_of, number_of}
use Rattle.machine.specs.Machine.{most_states, byte_values, move_size, program_size, state_count, move, bad_lengths, good_target, which_limits, number_limits, good_instruction, good_record, bad_machine, first_alerts}
use Rattle.machine.specs.Record.{flow_size, state_of, reserved_of, config_at, config_of, wrong_size, good_counters, bad_flow}
use Rattle.machine.specs.Extended.{open_pairs}
use Rattle.machine.specs.Words.{Miscounted, Astray, Instruction, Faulty, four, BadFlow}
use Rattle.machine.proofs.Instructions.{which-below, number-below}
use Rattle.machine.proofs.Records.{fours-at}
use Rattle.machine.proofs.Opening.{open_pairs-long}

-- ---- an instruction

fits : (k w n : ℕ) → w < get_or which_limits k 0 → n < get_or number_limits k 0 → good_instruction k w n ≡ true
unfolding good_instruction
fits k w n a b = rw (lt-ltb w (get_or which_limits k 0) a, lt-ltb n (get_or number_limits k 0) b)

named : (k w n : ℕ) → good_instruction k w n ≡ true → Instruction k w n
named zero w n e = inl (refl, omega (arith, which-below 0 w n e 1 refl), omega (arith, number-below 0 w n e 1 refl))
named (suc zero) w n e = inr (inl (inl refl, which-below 1 w n e 64 refl, omega (arith, number-below 1 w n e 1 refl)))
named (suc (suc zero)) w n e = inr (inl (inr refl, which-below 2 w n e 64 refl, omega (arith, number-below 2 w n e 1 refl)))
named (suc (suc (suc zero))) w n e = inr (inr (inl (refl, which-below 3 w n e 16 refl, number-below 3 w n e 65536 refl)))
named (suc (suc (suc (suc zero)))) w n e = inr (inr (inr (inl (inl refl, which-below 4 w n e 16 refl, omega (arith, number-below 4 w n e 1 refl)))))
named (suc (suc (suc (suc (suc zero))))) w n e = inr (inr (inr (inl (inr refl, which-below 5 w n e 16 refl, omega (arith, number-below 5 w n e 1 refl)))))
named (suc (suc (suc (suc (suc (suc zero)))))) w n e =
    inr (inr (inr (inr (inl (refl, omega (arith, which-below 6 w n e 1 refl), number-below 6 w n e 256 refl)))))
named (suc (suc (suc (suc (suc (suc (suc zero))))))) w n e = inr (inr (inr (inr (inr (inl (refl, which-below 7 w n e 64 refl, number-below 7 w n e 256 refl))))))
named (suc (suc (suc (suc (suc (suc (suc (suc zero)))))))) w n e = inr (inr (inr (inr (inr (inr (refl, which-below 8 w n e 16 refl, number-below 8 w n e 256 refl))))))
named (suc (suc (suc (suc (suc (suc (suc (suc (suc k))))))))) w n e =
    absurd (omega (arith, which-below (suc (suc (suc (suc (suc (suc (suc (suc (suc k))))))))) w n e 0 refl))

unnamed : (k w n : ℕ) → Instruction k w n → good_instruction k w n ≡ true
unnamed k w n s =
    choose s (λ a. rw a.0 (fits 0 w n (omega (arith, a.1)) (omega (arith, a.2))))
    (λ s. choose s
    (λ a. choose a.0 (λ k. rw k (fits 1 w n a.1 (omega (arith, a.2)))) (λ k. rw k (fits 2 w n a.1 (omega (arith, a.2)))))
    (λ s. choose s (λ a. rw a.0 (fits 3 w n a.1 a.2))
    (λ s. choose s
    (λ a. choose a.0 (λ k. rw k (fits 4 w n a.1 (omega (arith, a.2)))) (λ k. rw k (fits 5 w n a.1 (omega (arith, a.2)))))
    (λ s. choose s (λ a. rw a.0 (fits 6 w n (omega (arith, a.1)) a.2))
    (λ s. choose s (λ a. rw a.0 (fits 7 w n a.1 a.2)) (λ a. rw a.0 (fits 8 w n a.1 a.2)))))))

pub instruction-said : (k w n : ℕ) → good_instruction k w n ≡ true ↔ Instruction k w n
instruction-said k w n = (named k w n, unnamed k w n)

fails : (A : Type 0) (b : Bool) → b ≡ true ↔ A → b ≡ false ↔ (A → ⊥)
fails A true f = (λ e. absurd (true≢false e), λ n. absurd (n (f.0 refl)))
fails A false f = (λ e x. true≢false (sym (f.1 x)), λ n. refl)

-- ---- 24

module _ (M P : List ℕ) where
  lengths-said : bad_lengths M P ≡ true ↔ Miscounted M P
  unfolding bad_lengths
  lengths-said =
      either-words (((length M ≡ 0) ⊎ (move_size * most_states < length M)) ⊎ (length M % move_size ≡ 0 → ⊥)) (length P ≡ program_size * state_count M → ⊥)
      (eqb (length M) 0 || ltb (move_size * most_states) (length M) || not (eqb (length M % move_size) 0)) (not (eqb (length P) (program_size * state_count M)))
      (length-words move_size most_states (length M)) (differ-words (length P) (program_size * state_count M))

  targets-said : not (every (byte_values * state_count M) (good_target M)) ≡ true ↔ Astray M
  targets-said = (there, back)
    where
      e : not (every (byte_values * state_count M) (good_target M)) ≡ true ↔ ((i : ℕ) × (i < byte_values * state_count M) × (good_target M i ≡ false))
      e = refuses-exactly (byte_values * state_count M) (good_target M)

      there : not (every (byte_values * state_count M) (good_target M)) ≡ true → Astray M
      there h =
          let w = e.0 h in
          let i = w.0 in
          let q : byte_values * (i / byte_values) + i % byte_values ≡ i = omega arith in
          (i / byte_values, i % byte_values, omega (arith, w.1), omega arith, rw q (ltb-false (word M (2 * i)) (state_count M) w.2))

      back : Astray M → not (every (byte_values * state_count M) (good_target M)) ≡ true
      back w = e.1 (byte_values * w.0 + w.1, omega (arith, w.2, w.3), le-ltb (move M w.0 w.1) (state_count M) w.4)

  programs-said : not (every (program_length * state_count M) (good_record P)) ≡ true ↔ Faulty M P
  programs-said = (there, back)
    where
      e : not (every (program_length * state_count M) (good_record P)) ≡ true ↔ ((i : ℕ) × (i < program_length * state_count M) × (good_record P i ≡ false))
      e = refuses-exactly (program_length * state_count M) (good_record P)

      one : (i : ℕ) → good_record P i ≡ false ↔ (Instruction (kind_of P i) (which_of P i) (number_of P i) → ⊥)
      one i = fails (Instruction (kind_of P i) (which_of P i) (number_of P i)) (good_record P i) (instruction-said (kind_of P i) (which_of P i) (number_of P i))

      there : not (every (program_length * state_count M) (good_record P)) ≡ true → Faulty M P
      there h =
          let w = e.0 h in
          let i = w.0 in
          let q : program_length * (i / program_length) + i % program_length ≡ i = omega arith in
          (i / program_length, i % program_length, omega (arith, w.1), omega arith, rw q ((one i).0 w.2))

      back : Faulty M P → not (every (program_length * state_count M) (good_record P)) ≡ true
      back w = e.1 (program_length * w.0 + w.1, omega (arith, w.2, w.3), (one (program_length * w.0 + w.1)).1 w.4)

  pub machine-said : bad_machine M P ≡ true ↔ ((Miscounted M P ⊎ Astray M) ⊎ Faulty M P)
  unfolding bad_machine
  machine-said =
      either-words (Miscounted M P ⊎ Astray M) (Faulty M P) (bad_lengths M P || not (every (byte_values * state_count M) (good_target M))) (not (every (program_length * state_count M) (good_record P)))
      (either-words (Miscounted M P) (Astray M) (bad_lengths M P) (not (every (byte_values * state_count M) (good_target M))) lengths-said targets-said) programs-said

-- ---- 4 to 6, and 15

module _ (R : List ℕ) where
  -- 4, at opening: the record has not the size of one
  pub size-said : wrong_size R ≡ true ↔ (length R ≡ flow_size → ⊥)
  size-said = differ-words (length R) flow_size

  counter_at : (i : ℕ) → i < counter_count → get_or (config_of R).counters i 0 ≡ four R (16 + 4 * i)
  unfolding config_at
  counter_at i l = fours-at counter_count (drop 16 R) i l ∙ ap (λ (b : List ℕ). num 8 (take 4 b)) (drop-drop (4 * i) 16 R)

  counters-said : not (good_counters (config_of R).counters) ≡ true ↔ ((i : ℕ) × (i < counter_count) × (off < four R (16 + 4 * i)))
  counters-said =
      let e = refuses-exactly counter_count (λ i. leb (get_or (config_of R).counters i 0) off) in (
        λ h. let w = e.0 h in (w.0, w.1, omega (arith, counter_at w.0 w.1, leb-false (get_or (config_of R).counters w.0 0) off w.2)),
        λ w. e.1 (w.0, w.1, lt-leb (get_or (config_of R).counters w.0 0) off (omega (arith, counter_at w.0 w.1, w.2))),
      )

  -- 4, when fed
  pub flow-said : (n : ℕ) → bad_flow n R ≡ true ↔ BadFlow n R
  unfolding bad_flow
  flow-said n =
      either-words (((length R ≡ flow_size → ⊥) ⊎ (n ≤ state_of R)) ⊎ (reserved_of R ≡ 0 → ⊥)) ((i : ℕ) × (i < counter_count) × (off < four R (16 + 4 * i)))
      (wrong_size R || not (ltb (state_of R) n) || not (eqb (reserved_of R) 0)) (not (good_counters (config_of R).counters))
      (either-words ((length R ≡ flow_size → ⊥) ⊎ (n ≤ state_of R)) (reserved_of R ≡ 0 → ⊥) (wrong_size R || not (ltb (state_of R) n)) (not (eqb (reserved_of R) 0))
      (either-words (length R ≡ flow_size → ⊥) (n ≤ state_of R) (wrong_size R) (not (ltb (state_of R) n)) size-said
      (λ e. ltb-false (state_of R) n (not-true (ltb (state_of R) n) e), λ l. ap not (le-ltb (state_of R) n l)))
      (differ-words (reserved_of R) 0))
      counters-said

-- 15: fewer words than two for each signature that the start state's program alerts
pub room-said : (P out : List ℕ) → no_room (open_pairs P) out ≡ true ↔ (length out < 2 * size signatures (first_alerts P))
room-said P out =
    let e = over-words (length out / 2) (length (open_pairs P) / 2) in
    let l = open_pairs-long P in
    (λ h. let m = e.0 h in omega arith, λ h. e.1 (omega arith))
