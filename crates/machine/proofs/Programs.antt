-- A state's program: its records one after the other, and a program that does nothing. Assumes nothing.
use Prim.Native.Nat.{ℕ, zero, suc, ◌+◌, ◌*◌, ◌/◌, ◌%◌, ◌^◌, ◌≤◌, ◌<◌}
use mathlib.Core.Path.{◌≡◌, refl, sym, ap, ◌∙◌}
use mathlib.Core.Bool.{true}
use mathlib.Core.List.{List, [], ◌∷◌}
use native.Mathlib.Omega.{arith}
use native.Mathlib.Decide.{ℕ_discrete}
use native.Mathlib.Nat.{suc-mul}
use native.Mathlib.Numerals.{add-one}
use lib.ListN.{get_or, take, drop}
use lib.Seq.{get_or-take, get_or-drop}
use lib.Dec.{eqb}
use lib.Pow.{pow_pos}
use borrow.Author.Tests.{eqb-true, eq-eqb, ne_eqb}
use Rattle.numbers.specs.Number.{num}
use Rattle.sets.proofs.Words.{Laid}
use Rattle.rules.specs.Scan.{every}
use Rattle.rules.proofs.Scanning.{every-at, every-all, every-fails}
use Rattle.machine.specs.declared.Config.{Config}
use Rattle.machine.specs.Program.{program_length, bits_by, counters_by, alerts_by, kind_of, which_of, number_of, after, alerted}
use Rattle.machine.specs.Machine.{program_size, idle}
use Rattle.machine.specs.inner.Ran.{Runs}
use Rattle.machine.proofs.Instructions.{nothing}

-- a configuration is its three parts
pub config-one : (x y : Config) → x.state ≡ y.state → x.bits ≡ y.bits → x.counters ≡ y.counters → x ≡ y
config-one x y a b c =
    ap {B = Config} (λ (s : ℕ). record { state = s; bits = x.bits; counters = x.counters }) a
    ∙ ap {B = Config} (λ (s : ℕ). record { state = y.state; bits = s; counters = x.counters }) b
    ∙ ap {B = Config} (λ (s : List ℕ). record { state = y.state; bits = y.bits; counters = s }) c

-- a program leaves the state alone
pub after-state : (P : List ℕ) (q : ℕ) (x : Config) (j : ℕ) → (after P q x j).state ≡ x.state
unfolding after
after-state P q x zero = refl
after-state P q x (suc j) = after-state P q x j

-- ---- record by record

-- the bits, counters and words of alerts that a loop holds are those after the first j records
pub record Running (P : List ℕ) (q : ℕ) (x : Config) (j D : ℕ) (cs ws : List ℕ) : Type 0 where
  pub bits : D ≡ (after P q x j).bits
  pub counters : cs ≡ (after P q x j).counters
  pub alerts : num 64 ws ≡ alerted P q x j

pub running_none : (P : List ℕ) (q : ℕ) (x : Config) (ws : List ℕ) → num 64 ws ≡ 0 → Running P q x 0 x.bits x.counters ws
unfolding after alerted
running_none P q x ws e = record { bits = refl; counters = refl; alerts = e }

pub running_more : {P : List ℕ} {q : ℕ} {x : Config} {j D : ℕ} {cs ws : List ℕ} {E : ℕ} {ds vs : List ℕ}
    → Running P q x j D cs ws → Runs P (program_length * q + j) D cs ws E ds vs → Running P q x (j + 1) E ds vs
unfolding after alerted
running_more {P} {q} {x} {j} {D} {cs} {ws} h r =
    let i = program_length * q + j in
    let y = after P q x j in
    let e : alerts_by (kind_of P i) (which_of P i) (number_of P i) D cs (num 64 ws) ≡ alerts_by (kind_of P i) (which_of P i) (number_of P i) y.bits y.counters (alerted P q x j) =
    ap (λ (d : ℕ). alerts_by (kind_of P i) (which_of P i) (number_of P i) d cs (num 64 ws)) h.bits
    ∙ ap (λ (d : List ℕ). alerts_by (kind_of P i) (which_of P i) (number_of P i) y.bits d (num 64 ws)) h.counters
    ∙ ap (alerts_by (kind_of P i) (which_of P i) (number_of P i) y.bits y.counters) h.alerts in
    rw (add-one j)
    (record {
      bits = r.bits ∙ ap (bits_by (kind_of P i) (which_of P i)) h.bits;
      counters = r.counters ∙ ap (counters_by (kind_of P i) (which_of P i) (number_of P i)) h.counters;
      alerts = r.alerts ∙ e;
    })

-- ---- a program that does nothing

none-times : (a b w : ℕ) → a * b + w ≡ 0 → zero < b → a ≡ 0
none-times zero b w e h = refl
none-times (suc a) b w e h = let f : a * b + b + w ≡ 0 = rw (suc-mul a b) at e in absurd (omega arith)

num-none : (k : ℕ) (ws : List ℕ) → num k ws ≡ 0 → (i : ℕ) → get_or ws i 0 ≡ 0
unfolding num
num-none k [] e i = refl
num-none k (w ∷ ws) e zero = omega arith
num-none k (w ∷ ws) e (suc i) = num-none k ws (none-times (num k ws) (2 ^ k) w e (pow_pos k)) i

-- words laid over one another are 0 exactly when each is
pub laid-every : (f : ℕ → ℕ) (n all : ℕ) → Laid f n all → eqb all 0 ≡ every n (λ k. eqb (f k) 0)
laid-every f n all h = go (ℕ_discrete all 0)
  where
    go : Dec (all ≡ 0) → eqb all 0 ≡ every n (λ k. eqb (f k) 0)
    go (yes e) = eq-eqb all 0 e ∙ sym (every-all n (λ k. eqb (f k) 0) (λ j l. eq-eqb (f j) 0 (h.0 e j l)))
    go (no ne) = let w = h.1 ne in ne_eqb all 0 ne ∙ sym (every-fails n (λ k. eqb (f k) 0) w.0 w.1 (ne_eqb (f w.0) 0 w.2))

module _ (P : List ℕ) (q : ℕ) (h : idle P q ≡ true) where
  -- its bytes are zero
  idle-byte : (t : ℕ) → t < program_size → get_or P (program_size * q + t) 0 ≡ 0
  idle-byte t l =
      let at = program_size * q + 8 * (t / 8) in
      let z = eqb-true (num 8 (take 8 (drop at P))) 0 (every-at 4 (λ k. eqb (num 8 (take 8 (drop (program_size * q + 8 * k) P))) 0) h (t / 8) (omega arith)) in
      let e : program_size * q + t ≡ program_size * q + 8 * (t / 8) + t % 8 = omega arith in
      rw e (sym (get_or-take 8 (drop at P) (t % 8) 0 (omega arith) ∙ get_or-drop at P (t % 8) 0) ∙ num-none 8 (take 8 (drop at P)) z (t % 8))

  idle-kind : (j : ℕ) → j < program_length → kind_of P (program_length * q + j) ≡ 0
  idle-kind j l = let e : 4 * (program_length * q + j) ≡ program_size * q + 4 * j = omega arith in rw e (idle-byte (4 * j) (omega arith))

  module _ (x : Config) where
    pub idle-after : (j : ℕ) → j ≤ program_length → after P q x j ≡ x
    unfolding after
    idle-after zero l = refl
    idle-after (suc j) l =
        let i = program_length * q + j in
        let y = after P q x j in
        let ih = idle-after j (omega arith) in
        let e = idle-kind j (omega arith) in
        let z = nothing (which_of P i) (number_of P i) y.bits y.counters 0 in
        config-one _ x (ap (λ (y : Config). y.state) ih)
        (ap (λ (k : ℕ). bits_by k (which_of P i) y.bits) e ∙ z.0 ∙ ap (λ (y : Config). y.bits) ih)
        (ap (λ (k : ℕ). counters_by k (which_of P i) (number_of P i) y.counters) e ∙ z.1 ∙ ap (λ (y : Config). y.counters) ih)

    pub idle-alerted : (j : ℕ) → j ≤ program_length → alerted P q x j ≡ 0
    unfolding alerted
    idle-alerted zero l = refl
    idle-alerted (suc j) l =
        let i = program_length * q + j in
        let y = after P q x j in
        ap (λ (k : ℕ). alerts_by k (which_of P i) (number_of P i) y.bits y.counters (alerted P q x j)) (idle-kind j (omega arith))
        ∙ (nothing (which_of P i) (number_of P i) y.bits y.counters (alerted P q x j)).2 ∙ idle-alerted j (omega arith)
