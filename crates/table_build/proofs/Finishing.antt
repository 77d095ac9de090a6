-- The lists at the end: the classes, and parts, rows and splits with zeros behind them. Assumes nothing.
use Prim.Native.Nat.{ℕ, suc, ◌+◌, ◌-◌, ◌*◌, ◌/◌, ◌≤◌, ◌<◌}
use mathlib.Core.Path.{◌≡◌, refl, sym, ap, ◌∙◌}
use mathlib.Core.Bool.{Bool, true, false, true≢false}
use mathlib.Core.List.{List, ◌++◌}
use mathlib.Core.Logic.{inl, inr}
use native.Mathlib.Omega.{arith}
use native.Mathlib.Nat.{div-lt_iff_lt-mul, lt_of_not-le}
use native.Mathlib.Decide.{dec_lt}
use lib.ListN.{length, get_or, take, replicate, length-append, length-replicate, get_or-replicate, get_or-append}
use lib.Seq.{ext_get_or, get_or-append-add}
use Rattle.sets.specs.Set.{set_size, set_bytes}
use Rattle.numbers.proofs.Laws.{Small, length_digits}
use Rattle.rules.specs.Scan.{stack}
use Rattle.rules.proofs.Stacks.{stack-length}
use Rattle.list.specs.List.{list_refusal}
use Rattle.table.specs.Table.{most_parts, byte_values, split_size, part}
use Rattle.table.proofs.Entries.{set-bytes}
use Rattle.table_classes.specs.Classes.{most_classes, class_of, classes_of, class_total}
use Rattle.table_build.specs.Build.{parts_of, row_of, rows_of, slot_bytes, splits_of, over}
use Rattle.table_build.specs.inner.Loops.{Laid, sets_of, Searched, Rowed, class_step, Sought}
use Rattle.table_classes.specs.inner.Loops.{Classed, Numbered}
use Rattle.table_build.proofs.Laying.{stack-front}
use Rattle.table_classes.proofs.Totals.{class-length, class-at, class-lt}
use Rattle.table_build.proofs.Exploring.{classes-closed, sets-length, sets-at, reached}
use Rattle.table_build.proofs.Accepts.{split-long}

-- ---- entries, and zeros behind them

pub laid-over : (f g : ℕ → List ℕ) (k m n : ℕ) (b lent : List ℕ) → length b ≡ length lent → ((i : ℕ) → length (g i) ≡ k) → m ≡ n → Laid f k m b → ((i : ℕ) → i < m → f i ≡ g i)
    → take (k * m) b ++ replicate (length b - k * m) 0 ≡ over (stack g n) lent
laid-over f g k m n b lent e size q h same =
    let t : take (k * m) b ≡ stack g n = stack-front g k m b (λ i l. h i l ∙ same i l) ∙ ap (stack g) q in
    rw (t, stack-length g k size n, e, q)

module _ (P : List ℕ) (n : ℕ) where
  at : (i : ℕ) → i < n → part P i ≡ get_or (sets_of P n) i 0
  at i h = sym (sets-at P n i h)

  pub parts-over : Small 8 P → set_size * n ≤ length P → take (set_size * n) P ++ replicate (length P - set_size * n) 0 ≡ over (parts_of (sets_of P n)) P
  unfolding parts_of part
  parts-over s h =
      laid-over (λ i. set_bytes (part P i)) (λ i. set_bytes (get_or (sets_of P n) i 0)) set_size n (length (sets_of P n)) P P refl
      (λ i. length_digits 8 set_size (get_or (sets_of P n) i 0)) (sym (sets-length P n))
      (λ i l. sym (set-bytes P (set_size * i) s (omega arith))) (λ i l. ap set_bytes (at i l))

  pub splits-over : (b lent : List ℕ) → length b ≡ length lent → Laid (λ i. set_bytes (part P i) ++ slot_bytes i) split_size n b
      → take (split_size * n) b ++ replicate (length b - split_size * n) 0 ≡ over (splits_of (sets_of P n)) lent
  unfolding splits_of
  splits-over b lent e h =
      laid-over (λ i. set_bytes (part P i) ++ slot_bytes i) (λ i. set_bytes (get_or (sets_of P n) i 0) ++ slot_bytes i) split_size n (length (sets_of P n)) b lent e
      (λ i. split-long (get_or (sets_of P n) i 0) i) (sym (sets-length P n)) h (λ i l. ap (λ (x : ℕ). set_bytes x ++ slot_bytes i) (at i l))

  pub rows-over : (L b lent : List ℕ) (k : ℕ) → k ≡ class_total L → Small 8 b → set_size * (n * k) ≤ length b → length b ≡ length lent → Rowed (class_step L) b P k (n * k)
      → take (set_size * (n * k)) b ++ replicate (length b - set_size * (n * k)) 0 ≡ over (rows_of L (sets_of P n)) lent
  unfolding rows_of part
  rows-over L b lent k q s room e h =
      laid-over (λ j. set_bytes (part b j)) (λ j. set_bytes (row_of L (sets_of P n) j)) set_size (n * k) (length (sets_of P n) * class_total L) b lent e
      (λ j. length_digits 8 set_size (row_of L (sets_of P n) j)) (rw (sets-length P n, q))
      (λ j l. sym (set-bytes b (set_size * j) s (omega arith)))
      (λ j l. ap set_bytes (h j l ∙ rw (at (j / k) ((div-lt_iff_lt-mul (omega arith)).1 l), ← q)))

-- ---- the classes

-- those of the code, with zeros behind them
pub classes-over : (L C D : List ℕ) → length D ≡ length C → byte_values ≤ length C → ((c : ℕ) → c < byte_values → get_or D c 0 ≡ class_of L c)
    → ((c : ℕ) → byte_values ≤ c → get_or D c 0 ≡ 0) → D ≡ over (classes_of L) C
classes-over L C D e h f z =
    ext_get_or 0 D (over (classes_of L) C)
    (e ∙ sym (length-append (classes_of L) (replicate (length C - length (classes_of L)) 0) ∙ omega (arith, class-length L, length-replicate {A = ℕ} (length C - length (classes_of L)) 0)))
    (λ c l. elim (dec_lt c byte_values) [ yes k ↦ low c k | no g ↦ high c (omega (arith, lt_of_not-le (λ (k : suc c ≤ byte_values). g k))) (omega arith) ])
  where
    low : (c : ℕ) → c < byte_values → get_or D c 0 ≡ get_or (over (classes_of L) C) c 0
    low c k = f c k ∙ sym (get_or-append (classes_of L) (replicate (length C - length (classes_of L)) 0) 0 c (omega (arith, class-length L)) ∙ class-at L c k)

    high : (c : ℕ) → byte_values ≤ c → c < length C → get_or D c 0 ≡ get_or (over (classes_of L) C) c 0
    high c k l =
        let q : c ≡ length (classes_of L) + (c - byte_values) = omega (arith, class-length L) in
        z c k
        ∙ sym (ap (λ (x : ℕ). get_or (over (classes_of L) C) x 0) q
        ∙ get_or-append-add (classes_of L) (replicate (length C - length (classes_of L)) 0) (c - byte_values) 0
        ∙ get_or-replicate (length C - length (classes_of L)) (c - byte_values) 0 0 (omega (arith, class-length L)))

-- ---- the search over these classes

module _ (L C P R W C' R₁ : List ℕ) (k : ℕ) (h : byte_values ≤ length C) (g : Numbered L C R C' R₁ k) where
  pub classed : k ≤ most_classes → Classed L C' k
  classed l = record { long = omega (arith, g.long); numbers = g.numbers; total = g.total; few = l }

  pub sought-classes : most_classes < k → (n : ℕ) → Sought L C P R W C' P R₁ W n k true
  sought-classes l n =
      record {
        long = g.long;
        parts-long = refl;
        rows_long = g.rows_long;
        splits-long = refl;
        many = λ e. inr (rw g.total at l);
        known = λ e. absurd (true≢false e);
        rowed = λ e. absurd (true≢false e);
        classed = λ e. absurd (true≢false e);
        zeros = g.zeros;
        reached = λ e. absurd (true≢false e);
      }

  pub sought : (R' W' P' : List ℕ) (n : ℕ) (full : Bool) → list_refusal L ≡ 0 → k ≤ most_classes → Searched most_parts (class_step L) L W P W' P' n k full → length R' ≡ length R₁
      → (full ≡ false → Rowed (class_step L) R' W' k (n * k)) → Sought L C P R W C' P' R' W' n k full
  sought R' W' P' n full good l s e r =
      record {
        long = g.long;
        parts-long = s.long';
        rows_long = e ∙ g.rows_long;
        splits-long = s.long;
        many = λ z. inl (s.many z);
        known = s.known;
        rowed = r;
        classed = λ z. classed l;
        zeros = g.zeros;
        reached = λ z. reached most_parts L W' P' n (s.known z) (classes-closed L W' P' n good (class-lt L) (rw g.total at (s.closed z)));
      }
