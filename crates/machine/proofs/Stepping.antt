-- The automaton in words: what the two lists write down, an instruction, a program in order, and a byte. Assumes nothing.
use Prim.Native.Nat.{ℕ, zero, suc, ◌+◌, ◌*◌, ◌≤◌, ◌<◌}
use mathlib.Core.Path.{◌≡◌, refl, sym, ap, ◌∙◌}
use mathlib.Core.Bool.{Bool, true, false, ◌&&◌, ◌||◌, not, false≢true}
use mathlib.Core.List.{List}
use mathlib.Core.Logic.{◌⊎◌, inl, inr}
use native.Mathlib.Omega.{arith}
use native.Mathlib.Decide.{ℕ_discrete}
use lib.ListN.{length, get_or, take, drop}
use lib.Dec.{eqb, ltb}
use borrow.Author.Tests.{eqb-true, eq-eqb, ne_eqb, ltb-true, lt-ltb}
use Rattle.numbers.specs.Number.{num}
use Rattle.sets.specs.Set.{signatures, holds}
use Rattle.numbers.proofs.Bytes.{num-two}
use Rattle.sets.proofs.Sets.{holds-empty}
use Rattle.rules.proofs.Scanning.{both, choose, or_cases, or-true}
use Rattle.machine.specs.declared.Config.{Config}
use Rattle.machine.specs.Program.{bit_count, off, program_length, lower, bits_by, counters_by, alert_now, done, kind_of, which_of, number_of, blank, moved, after, alerted}
use Rattle.machine.specs.Machine.{move, machine}
use Rattle.machine.specs.Words.{Written, Does, Alerts, InOrder, Moving}
use Rattle.machine.proofs.Instructions as kind
use Rattle.machine.proofs.Instructions.{alert-said, lower-off, lower-zero, lower-more}
use Rattle.machine.proofs.Programs.{after-state}

-- ---- the two lists

two_at : (b : List ℕ) (at i j : ℕ) → at ≡ i → at + 1 ≡ j → i + 2 ≤ length b → num 8 (take 2 (drop at b)) ≡ get_or b i 0 + 256 * get_or b j 0
two_at b at i j p q l = num-two b at (omega arith) ∙ rw (q, p)

pub written : Written
written =
    record {
      target = λ M q c l. two_at M (2 * (256 * q + c)) (512 * q + 2 * c) (512 * q + 2 * c + 1) (omega arith) (omega arith) l;
      kind = λ P q j. let e : 4 * (8 * q + j) ≡ 32 * q + 4 * j = omega arith in ap (λ (i : ℕ). get_or P i 0) e;
      which = λ P q j. let e : 4 * (8 * q + j) + 1 ≡ 32 * q + 4 * j + 1 = omega arith in ap (λ (i : ℕ). get_or P i 0) e;
      number = λ P q j l. two_at P (4 * (8 * q + j) + 2) (32 * q + 4 * j + 2) (32 * q + 4 * j + 3) (omega arith) (omega arith) (omega arith);
    }

-- ---- an instruction

module _ (k w n : ℕ) (x : Config) where
  bits-alone : (t : ℕ) → ((k ≡ 1) ⊎ (k ≡ 2) → t ≡ w → ⊥) → holds (bits_by k w x.bits) t ≡ holds x.bits t
  bits-alone t f = elim (ℕ_discrete k 1) [
    | yes e ↦ ap (λ (i : ℕ). holds (bits_by i w x.bits) t) e ∙ kind.sets-bit w n x.bits x.counters 0 t ∙ rw (ne_eqb t w (f (inl e))) (never (holds x.bits t) (ltb w bit_count))
    | no a ↦ elim (ℕ_discrete k 2) [
      | yes e ↦ ap (λ (i : ℕ). holds (bits_by i w x.bits) t) e ∙ kind.clears-bit w n x.bits x.counters 0 t ∙ rw (ne_eqb t w (f (inr e))) (always (holds x.bits t))
      | no b ↦ ap (λ (D : ℕ). holds D t) (sym (kind.bits-other k w x.bits a b))
    ]
  ]
    where
      never : (a b : Bool) → (a || b && false) ≡ a
      never true b = refl
      never false true = refl
      never false false = refl

      always : (a : Bool) → (a && not false) ≡ a
      always true = refl
      always false = refl

  counters-alone : (t : ℕ) → ((k ≡ 3) ⊎ ((k ≡ 4) ⊎ (k ≡ 5)) → t ≡ w → ⊥) → get_or (counters_by k w n x.counters) t 0 ≡ get_or x.counters t 0
  counters-alone t f = elim (ℕ_discrete t w) [
    | yes e ↦ ap (λ (cs : List ℕ). get_or cs t 0) (sym (kind.counters-stay k w n x.counters (λ a. f (inl a) e) (λ a. f (inr (inl a)) e) (λ a. f (inr (inr a)) e)))
    | no d ↦ kind.other-counters w n x.bits x.counters 0 k t d
  ]

  set-bit : k ≡ 1 → w < 64 → holds (bits_by k w x.bits) w ≡ true
  set-bit e l = ap (λ (i : ℕ). holds (bits_by i w x.bits) w) e ∙ kind.sets-bit w n x.bits x.counters 0 w ∙ rw (lt-ltb w bit_count l, eq-eqb w w refl) (or-true (holds x.bits w))

  clear-bit : k ≡ 2 → holds (bits_by k w x.bits) w ≡ false
  clear-bit e = ap (λ (i : ℕ). holds (bits_by i w x.bits) w) e ∙ kind.clears-bit w n x.bits x.counters 0 w ∙ rw (eq-eqb w w refl) (gone (holds x.bits w))
    where
      gone : (a : Bool) → (a && not true) ≡ false
      gone true = refl
      gone false = refl

  module _ (l : w < length x.counters) where
    counter-by : (m : ℕ) → k ≡ m → get_or (counters_by k w n x.counters) w 0 ≡ get_or (counters_by m w n x.counters) w 0
    counter-by m e = ap (λ (i : ℕ). get_or (counters_by i w n x.counters) w 0) e

    lowered_by : k ≡ 5 → (v : ℕ) → get_or x.counters w 0 ≡ v → get_or (counters_by k w n x.counters) w 0 ≡ lower v
    lowered_by e v q = counter-by 5 e ∙ kind.lowers w n x.bits x.counters 0 l ∙ ap lower q

  pub does : Does k w n x (done k w n x)
  does =
      record {
        sets-bit = set-bit;
        clears-bit = clear-bit;
        bits-stay = bits-alone;
        sets-counter = λ e l. counter-by l 3 e ∙ kind.sets-counter w n x.bits x.counters 0 l;
        turns-off = λ e l. counter-by l 4 e ∙ kind.turns-off w n x.bits x.counters 0 l;
        lowers = λ m e l q h. lowered_by l e (suc m) q ∙ lower-more m (omega arith);
        lowers-none = λ e l s. choose s (λ q. lowered_by l e 0 q ∙ lower-zero) (λ q. lowered_by l e off q ∙ lower-off);
        counters-stay = counters-alone;
        state-stays = refl;
      }

-- ---- a program in order

module _ (P : List ℕ) (q : ℕ) (x : Config) where
  -- record j alerts g, at what it meets
  abbrev Tells : ℕ → ℕ → Type 0
  Tells j g = Alerts (kind_of P (program_length * q + j)) (which_of P (program_length * q + j)) (number_of P (program_length * q + j)) (after P q x j) g

  alerts-there : (g n : ℕ) → holds (alerted P q x n) g ≡ true → (j : ℕ) × (j < n) × (g < signatures) × Tells j g
  unfolding alerted
  alerts-there g zero e = absurd (false≢true (sym (holds-empty g) ∙ e))
  alerts-there g (suc n) e =
      let i = program_length * q + n in
      let y = after P q x n in
      choose (or_cases (holds (alerted P q x n) g) _ (sym (kind.alerts-more (which_of P i) (number_of P i) y.bits y.counters (alerted P q x n) (kind_of P i) g) ∙ e))
      (λ h. let r = alerts-there g n h in (r.0, omega (arith, r.1), r.2, r.3))
      (λ h.
      let r = both (alert_now (kind_of P i) (which_of P i) y.bits y.counters) _ h in
      let s = both (ltb (number_of P i) signatures) (eqb g (number_of P i)) r.1 in
      let z : g ≡ number_of P i = eqb-true g (number_of P i) s.1 in
      (n, omega arith, rw z (ltb-true (number_of P i) signatures s.0), ((alert-said (kind_of P i) (which_of P i) y.bits y.counters).0 r.0, sym z)))

  alerts-back : (g n j : ℕ) → j < n → g < signatures → Tells j g → holds (alerted P q x n) g ≡ true
  unfolding alerted
  alerts-back g zero j l h t = absurd (omega arith)
  alerts-back g (suc n) j l h t =
      let i = program_length * q + n in
      let y = after P q x n in
      kind.alerts-more (which_of P i) (number_of P i) y.bits y.counters (alerted P q x n) (kind_of P i) g
      ∙ elim (ℕ_discrete j n) [
        | yes e ↦ last (rw e at t)
        | no d ↦ rw (alerts-back g n j (omega arith) h t)
      ]
    where
      last : Tells n g
          → (holds (alerted P q x n) g || alert_now (kind_of P (program_length * q + n)) (which_of P (program_length * q + n)) (after P q x n).bits (after P q x n).counters
          && (ltb (number_of P (program_length * q + n)) signatures && eqb g (number_of P (program_length * q + n)))) ≡ true
      last (s, z) =
          let i = program_length * q + n in
          rw ((alert-said (kind_of P i) (which_of P i) (after P q x n).bits (after P q x n).counters).1 s, z, lt-ltb g signatures h, eq-eqb g g refl) (or-true (holds (alerted P q x n) g))

  pub in-order : InOrder P q x (after P q x program_length) (alerted P q x program_length)
  unfolding after
  in-order =
      record {
        after = after P q x;
        begins = refl;
        goes = λ j l. does (kind_of P (program_length * q + j)) (which_of P (program_length * q + j)) (number_of P (program_length * q + j)) (after P q x j);
        ends = refl;
        alerts = λ g. (alerts-there g program_length, λ w. alerts-back g program_length w.0 w.1 w.2 w.3);
      }

-- ---- a byte

pub moving : Moving
moving =
    record {
      each-byte = λ M P x c. record { moves = to M P c x; unsteered = λ y e. to M P c y ∙ ap (λ (q : ℕ). move M q c) e ∙ sym (to M P c x); runs = in-order P (move M x.state c) (moved (move M x.state c) x) };
      opening = λ P. in-order P 0 blank;
    }
  where
    to : (M P : List ℕ) (c : ℕ) (x : Config) → ((machine M P).next x c).state ≡ move M x.state c
    to M P c x = after-state P (move M x.state c) (moved (move M x.state c) x) program_length
