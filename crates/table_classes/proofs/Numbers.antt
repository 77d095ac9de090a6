-- The classes of the code, from zeros on: they begin with the list's. Assumes nothing.
use Prim.Native.Nat.{ℕ, suc, ◌-◌, ◌≤◌}
use mathlib.Core.Path.{◌≡◌, sym, ap, ◌∙◌}
use mathlib.Core.List.{List, ◌++◌}
use native.Mathlib.Omega.{arith}
use native.Mathlib.Nat.{lt_of_not-le}
use native.Mathlib.Decide.{dec_lt}
use lib.ListN.{length, get_or, take, replicate, length-replicate, get_or-replicate, get_or-eq_default}
use lib.Seq.{ext_get_or, get_or-take, length-take-le}
use Rattle.table.specs.Table.{byte_values, class_count}
use Rattle.table_classes.specs.Classes.{lowest_like, class_of, classes_of}
use Rattle.table_classes.specs.inner.Loops.{Filled, Lows, Numbered}
use Rattle.table_classes.proofs.Totals.{class-length, class-at}

-- those of the code begin with the list's
pub classes-front : (L C D : List ℕ) → byte_values ≤ length C → Filled C D (class_of L) byte_values → take byte_values D ≡ classes_of L
classes-front L C D h g =
    let n : length (take byte_values D) ≡ byte_values = length-take-le byte_values D (omega (arith, g.long)) in
    ext_get_or 0 (take byte_values D) (classes_of L) (n ∙ sym (class-length L))
    (λ c l. get_or-take byte_values D c 0 (omega arith) ∙ g.below c (omega arith) ∙ sym (class-at L c (omega arith)))

-- a list of zeros
pub zeros-get : (n i : ℕ) → ◌≡◌ {A = ℕ} (get_or (replicate n 0) i 0) 0
zeros-get n i = elim (dec_lt i n) [ yes l ↦ get_or-replicate n i 0 0 l | no g ↦ get_or-eq_default (replicate n 0) 0 {n = i} (omega (arith, length-replicate {A = ℕ} n 0, lt_of_not-le (λ (l : suc i ≤ n). g l))) ]

pub cleared-zeros : (C D : List ℕ) → D ≡ take 0 C ++ replicate (length C - 0) 0 → (c : ℕ) → get_or D c 0 ≡ 0
cleared-zeros C D e c = rw e (zeros-get (length C - 0) c)

pub cleared-length : (C D : List ℕ) → D ≡ take 0 C ++ replicate (length C - 0) 0 → length D ≡ length C
cleared-length C D e = rw e (length-replicate {A = ℕ} (length C - 0) 0 ∙ omega arith)

-- the classes of the code, from zeros on
pub numbered : (L C W C₁ C₂ C₃ W' : List ℕ) (k : ℕ) → byte_values ≤ length C → C₁ ≡ take 0 C ++ replicate (length C - 0) 0 → length W' ≡ length W
    → Filled C₁ C₂ (lowest_like L) byte_values → ((l : List ℕ) → Lows l C₂ → Filled C₂ C₃ (class_of l) byte_values) → k ≡ class_count (take byte_values C₃)
    → Numbered L C W C₃ W' k
numbered L C W C₁ C₂ C₃ W' k h e w f g t =
    let q = g L f.below in
    let n : length C₂ ≡ length C = f.long ∙ cleared-length C C₁ e in
    record {
      long = q.long ∙ n;
      rows_long = w;
      numbers = q.below;
      zeros = λ c l. q.rest c l ∙ f.rest c l ∙ cleared-zeros C C₁ e c;
      total = t ∙ ap class_count (classes-front L C₂ C₃ (omega arith) q);
    }
