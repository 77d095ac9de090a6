-- The list of classes: its length and entries, that each number below the total is a class, and the lowest byte of a class in the code's list. Assumes nothing.
use Prim.Native.Nat.{ℕ, ◌+◌, ◌*◌, ◌<◌}
use mathlib.Core.Path.{◌≡◌, refl, sym, ap, ◌∙◌}
use mathlib.Core.Bool.{true}
use mathlib.Core.List.{List, [], ◌∷◌}
use native.Mathlib.Omega.{arith}
use lib.ListN.{length, get_or}
use lib.Dec.{eqb, lit<}
use Rattle.rules.specs.Scan.{some, first, stack}
use Rattle.rules.proofs.Scanning.{some-intro, some-elim}
use Rattle.rules.proofs.Stacks.{stack-length, stack_at}
use Rattle.table.specs.Table.{byte_values, largest}
use Rattle.table.proofs.Entries.{largest-at, largest-exactly}
use Rattle.table_classes.specs.Classes.{class_of, classes_of, class_total, lowest_of}
use Rattle.table_classes.specs.inner.Loops.{Classed}
use Rattle.table_classes.proofs.Classes.{first-same, class-hit}

module _ (L : List ℕ) where
  pub class-length : length (classes_of L) ≡ byte_values
  unfolding classes_of
  class-length = stack-length (λ c. class_of L c ∷ []) 1 (λ c. refl) byte_values

  pub class-at : (c : ℕ) → c < byte_values → get_or (classes_of L) c 0 ≡ class_of L c
  unfolding classes_of
  class-at c h =
      let e : 1 * c + 0 ≡ c = omega arith in
      ap (λ (k : ℕ). get_or (stack (λ d. class_of L d ∷ []) byte_values) k 0) (sym e) ∙ stack_at (λ d. class_of L d ∷ []) 1 (λ d. refl) byte_values c h 0 (lit< tt)

  pub class-lt : (c : ℕ) → c < byte_values → class_of L c < class_total L
  class-lt c h = omega (arith, largest-at (classes_of L) c, class-at c h)

module _ (L C : List ℕ) (k q : ℕ) (g : Classed L C k) (h : q < k) where
  same : (c : ℕ) → c < byte_values → eqb (get_or C c 0) q ≡ eqb (class_of L c) q
  same c l = ap (λ (x : ℕ). eqb x q) (g.numbers c l)

  pub low-is : first byte_values (λ c. eqb (get_or C c 0) q) ≡ lowest_of L q
  unfolding lowest_of
  low-is = first-same byte_values (λ c. eqb (get_or C c 0) q) (λ c. eqb (class_of L c) q) same

  pub low-there : some byte_values (λ c. eqb (get_or C c 0) q) ≡ true
  low-there =
      let z : 0 < length (classes_of L) = omega (arith, class-length L) in
      let r = ((largest-exactly (classes_of L) z (largest (classes_of L))).0 refl).0 in
      let l : r.0 < byte_values = omega (arith, r.1, class-length L) in
      pick (some-elim byte_values (λ d. eqb (class_of L d) q) (class-hit L r.0 q l (omega (arith, class-at L r.0 l, r.2, g.total))))
    where
      pick : (c : ℕ) × (c < byte_values) × (eqb (class_of L c) q ≡ true) → some byte_values (λ c. eqb (get_or C c 0) q) ≡ true
      pick (c, l, e) = some-intro byte_values (λ c. eqb (get_or C c 0) q) c l (same c l ∙ e)
