-- What the builder does, in a reader's words: when 17 and 16 are given, what a refusal leaves, and what stands in the lists where none is given. Assumes nothing.
use Prim.Native.Nat.{ℕ, suc, ◌+◌, ◌-◌, ◌*◌, ◌≤◌, ◌<◌}
use mathlib.Core.Path.{◌≡◌, refl, sym, ap, ◌∙◌}
use mathlib.Core.Bool.{Bool, true, false, cond}
use mathlib.Core.List.{List, [], ◌∷◌}
use mathlib.Core.Logic.{◌⊎◌, ◌↔◌}
use native.Mathlib.Omega.{arith}
use native.Mathlib.Nat.{mul-le-mul_left, mul-le-mul_right}
use lib.ListN.{length, get_or, replicate, length-append, length-replicate}
use lib.Seq.{get_or-append-add}
use Rattle.sets.specs.Set.{set_size}
use Rattle.rules.specs.Rules.{verdict}
use Rattle.rules.proofs.Scanning.{either-words, over-words}
use Rattle.rules.proofs.Rules.{verdict-then, passes-front, stop}
use Rattle.list.specs.List.{bad_length, bad_record, no_start, list_rules, list_refusal}
use Rattle.table.specs.Table.{Table, byte_values, most_parts, split_size}
use Rattle.table_classes.specs.Classes.{most_classes, classes_of, class_total}
use Rattle.table_classes.proofs.Totals.{class-length}
use Rattle.table_classes.proofs.Numbers.{zeros-get}
use Rattle.table_build.specs.Build.{most_rows, Many, parts_of, rows_of, splits_of, Building, too_short, early_rules, over, Builds, refuses, passes_limits, builds}
use Rattle.table_build.specs.Words.{fronts, Tabled, unbuilt, Ends, ZerosBehind}
use Rattle.table_build.proofs.Reached.{not-both}
use Rattle.table_build.proofs.Accepts.{tabled, part_length, row-length, split-length}
use Rattle.table_build.proofs.Outcomes.{fronts-of, enough}

pub over-ends : (front lent : List ℕ) → length front ≤ length lent → Ends lent (over front lent) (length front)
over-ends front lent h = (
  length-append front (replicate (length lent - length front) 0) ∙ omega (arith, length-replicate {A = ℕ} (length lent - length front) 0),
  λ i l. let q : i ≡ length front + (i - length front) = omega arith in
      ap (λ (x : ℕ). get_or (over front lent) x 0) q ∙ get_or-append-add front (replicate (length lent - length front) 0) (i - length front) 0 ∙ zeros-get (length lent - length front) (i - length front),
  h,
)

-- the lengths answered are no longer than the lists
pub record Fits (o : Building) : Type 0 where
  pub classes : o.classes ≤ length o.lists.classes
  pub parts : o.parts ≤ length o.lists.parts
  pub rows : o.rows ≤ length o.lists.rows
  pub splits : o.splits ≤ length o.lists.splits

over-long : (front lent : List ℕ) → length front ≤ length (over front lent)
over-long front lent = omega (arith, length-append front (replicate (length lent - length front) 0))

rows-most : (n k : ℕ) → n ≤ most_parts → k ≤ most_classes → n * k ≤ most_rows
rows-most n k h l =
    let a : n * k ≤ n * most_classes = mul-le-mul_left n l in
    let b : n * most_classes ≤ most_parts * most_classes = mul-le-mul_right most_classes h in
    omega arith

-- 17: a lent list is shorter than 256 classes, 1,024 parts, 65,536 rows or 1,024 splits
pub short-exactly : (T : Table) → too_short T ≡ true
    ↔ ((((length T.classes < byte_values) ⊎ (length T.parts < set_size * most_parts)) ⊎ (length T.rows < set_size * most_rows)) ⊎ (length T.splits < split_size * most_parts))
unfolding too_short
short-exactly T =
    either-words _ _ _ _
    (either-words _ _ _ _
    (either-words _ _ _ _ (over-words (length T.classes) byte_values) (over-words (length T.parts) (set_size * most_parts)))
    (over-words (length T.rows) (set_size * most_rows)))
    (over-words (length T.splits) (split_size * most_parts))

-- the four rules before the search
first_of : Bool → Bool → Bool → Bool → ℕ
first_of a b c d = cond a 1 (cond b 2 (cond c 3 (cond d 17 0)))

not_16 : (a b c d : Bool) → first_of a b c d ≡ 16 → ⊥
unfolding first_of
not_16 true b c d e = omega arith
not_16 false true c d e = omega arith
not_16 false false true d e = omega arith
not_16 false false false true e = omega arith
not_16 false false false false e = omega arith

only-17 : (a b c d : Bool) → first_of a b c d ≡ 17 → (first_of a b c false ≡ 0) × (d ≡ true)
unfolding first_of
only-17 true b c d e = absurd (omega arith)
only-17 false true c d e = absurd (omega arith)
only-17 false false true d e = absurd (omega arith)
only-17 false false false true e = (refl, refl)
only-17 false false false false e = absurd (omega arith)

short-17 : (L : List ℕ) (T : Table) → list_refusal L ≡ 0 → too_short T ≡ true → verdict (early_rules L T) ≡ 17
short-17 L T z e = verdict-then (list_rules L) ((17, too_short T) ∷ []) refl z ∙ stop 17 [] e

not_short : (L : List ℕ) (T : Table) → list_refusal L ≡ 0 → verdict (early_rules L T) ≡ 0 → too_short T ≡ false
not_short L T z v = go (too_short T) refl
  where
    go : (b : Bool) → too_short T ≡ b → too_short T ≡ false
    go true e = absurd (omega (arith, sym v ∙ short-17 L T z e))
    go false e = e

module _ (L : List ℕ) (T : Table) (o : Building) where
  -- 16 exactly if no earlier rule refuses, and more sets than the most can be reached or more classes than the most are needed
  pub gives-16 : Builds L T o → (o.refusal ≡ 16) ↔ ((verdict (early_rules L T) ≡ 0) × (Many L (suc most_parts) ⊎ (most_classes < class_total L)))
  unfolding verdict first_of
  gives-16 (refuses n e) =
      (λ z. absurd (not_16 (bad_length L) (bad_record L) (no_start L) (too_short T) (sym (ap (λ (x : Building). x.refusal) e) ∙ z)), λ w. absurd (n w.0))
  gives-16 (passes_limits v m e) = (λ z. (v, m), λ w. ap (λ (x : Building). x.refusal) e)
  gives-16 (builds v c xs n a e) =
      (λ z. absurd (omega (arith, sym (ap (λ (x : Building). x.refusal) e) ∙ z)), λ w. absurd (not-both L xs w.1 c n a))

  -- 17 exactly if the list passes and a lent list is too short; and then nothing has changed
  pub gives-17 : Builds L T o → (o.refusal ≡ 17) ↔ ((list_refusal L ≡ 0) × (too_short T ≡ true))
  unfolding verdict first_of
  gives-17 (refuses n e) = (
    λ z. only-17 (bad_length L) (bad_record L) (no_start L) (too_short T) (sym (ap (λ (x : Building). x.refusal) e) ∙ z),
    λ w. ap (λ (x : Building). x.refusal) e ∙ short-17 L T w.0 w.1,
  )
  gives-17 (passes_limits v m e) =
      (λ z. absurd (omega (arith, sym (ap (λ (x : Building). x.refusal) e) ∙ z)), λ w. absurd (omega (arith, sym v ∙ short-17 L T w.0 w.1)))
  gives-17 (builds v c xs n a e) =
      (λ z. absurd (omega (arith, sym (ap (λ (x : Building). x.refusal) e) ∙ z)), λ w. absurd (omega (arith, sym v ∙ short-17 L T w.0 w.1)))

  -- a refusal other than 16 answers no lengths and leaves the lists as they were
  pub keeps : Builds L T o → (o.refusal ≡ 0 → ⊥) → (o.refusal ≡ 16 → ⊥) → o ≡ unbuilt o.refusal T
  keeps (refuses n e) z y = rw e refl
  keeps (passes_limits v m e) z y = absurd (y (ap (λ (x : Building). x.refusal) e))
  keeps (builds v c xs n a e) z y = absurd (z (ap (λ (x : Building). x.refusal) e))

  -- 16 answers no lengths either, and leaves zeros alone
  pub empties : Builds L T o → o.refusal ≡ 16 → (o ≡ unbuilt 16 o.lists) × ZerosBehind T o
  unfolding verdict first_of
  empties (refuses n e) z = absurd (not_16 (bad_length L) (bad_record L) (no_start L) (too_short T) (sym (ap (λ (x : Building). x.refusal) e) ∙ z))
  empties (passes_limits v m e) z =
      rw e (
        refl,
        record {
          classes = over-ends [] T.classes (omega arith);
          parts = over-ends [] T.parts (omega arith);
          rows = over-ends [] T.rows (omega arith);
          splits = over-ends [] T.splits (omega arith);
        },
      )
  empties (builds v c xs n a e) z = absurd (omega (arith, sym (ap (λ (x : Building). x.refusal) e) ∙ z))

  -- where none is given the fronts are the table, and zeros follow them
  pub fills : Builds L T o → o.refusal ≡ 0 → Tabled L (fronts o) × ZerosBehind T o
  fills (refuses n e) z = absurd (n (sym (ap (λ (x : Building). x.refusal) e) ∙ z))
  fills (passes_limits v m e) z = absurd (omega (arith, sym (ap (λ (x : Building). x.refusal) e) ∙ z))
  fills (builds v c xs n a e) z =
      let good : list_refusal L ≡ 0 = passes-front (list_rules L) ((17, too_short T) ∷ []) v in
      let long = enough T (not_short L T good v) in
      rw e (
        rw (fronts-of (classes_of L) T.classes, fronts-of (parts_of xs) T.parts, fronts-of (rows_of L xs) T.rows, fronts-of (splits_of xs) T.splits) (tabled L good xs a n c),
        record {
          classes = over-ends (classes_of L) T.classes (omega (arith, class-length L, long.classes));
          parts = over-ends (parts_of xs) T.parts (omega (arith, part_length xs, long.parts));
          rows = over-ends (rows_of L xs) T.rows (omega (arith, row-length L xs, rows-most (length xs) (class_total L) n c, long.rows));
          splits = over-ends (splits_of xs) T.splits (omega (arith, split-length xs, long.splits));
        },
      )

  -- the lengths answered are no longer than the lists
  pub fits : Builds L T o → Fits o
  fits (refuses n e) = rw e (record { classes = omega arith; parts = omega arith; rows = omega arith; splits = omega arith })
  fits (passes_limits v m e) = rw e (record { classes = omega arith; parts = omega arith; rows = omega arith; splits = omega arith })
  fits (builds v c xs n a e) =
      rw e
      (record {
        classes = over-long (classes_of L) T.classes;
        parts = over-long (parts_of xs) T.parts;
        rows = over-long (rows_of L xs) T.rows;
        splits = over-long (splits_of xs) T.splits;
      })
