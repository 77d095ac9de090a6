-- What `build` answers at each of its ends, and that the table check accepts what it made. Assumes nothing.
use Prim.Native.Nat.{ℕ, zero, suc, ◌*◌, ◌≤◌, ◌<◌}
use mathlib.Core.Path.{◌≡◌, refl, sym, ap, ◌∙◌}
use mathlib.Core.Bool.{true, false, ◌||◌}
use mathlib.Core.List.{List, []}
use mathlib.Core.Logic.{◌⊎◌}
use native.Mathlib.Omega.{arith}
use lib.ListN.{length, take}
use lib.Seq.{take_at}
use lib.Dec.{ltb}
use borrow.Author.Tests.{ltb-false}
use Rattle.sets.specs.Set.{set_size}
use Rattle.rules.specs.Rules.{verdict}
use Rattle.list.specs.List.{list_rules, list_refusal}
use Rattle.rules.proofs.Scanning.{neither}
use Rattle.rules.proofs.Rules.{verdict-first, verdict-then, passes-front, stop, last}
use Rattle.table.specs.Table.{Table, byte_values, most_parts, split_size, table_refusal}
use Rattle.table_classes.specs.Classes.{most_classes, class_total, classes_of}
use Rattle.table_build.specs.Build.{most_rows, Many, parts_of, rows_of, splits_of, Building, too_short, early_rules, over, Builds, refuses, passes_limits, builds}
use Rattle.table_build.specs.Words.{fronts}
use Rattle.table_build.specs.inner.Loops.{sets_of, Sought}
use Rattle.table_classes.proofs.Totals.{class-length}
use Rattle.table_build.proofs.Exploring.{sets-length}
use Rattle.table_build.proofs.Accepts.{part_length, row-length, split-length, accepted-at-1}
use Rattle.table_build.proofs.Finishing.{classes-over}

-- ---- the rules before the search

module _ (L : List ℕ) (T : Table) where
  refused : (r : ℕ) → r ≡ verdict (early_rules L T) → (r ≡ 0 → ⊥) → Builds L T (record { refusal = r; classes = 0; parts = 0; rows = 0; splits = 0; lists = T })
  refused r e n =
      refuses (λ z. n (e ∙ z)) (ap {B = Building} (λ (x : ℕ). record { refusal = x; classes = 0; parts = 0; rows = 0; splits = 0; lists = T }) e)

  -- 1 to 3
  pub refused-list : (r : ℕ) → r ≡ list_refusal L → (r ≡ 0 → ⊥) → Builds L T (record { refusal = r; classes = 0; parts = 0; rows = 0; splits = 0; lists = T })
  refused-list zero e n = absurd (n refl)
  refused-list (suc r) e n = refused (suc r) (sym (verdict-first (list_rules L) _ r (sym e))) n

  module _ (good : list_refusal L ≡ 0) where
    -- 17
    pub refused-short : too_short T ≡ true → Builds L T (record { refusal = 17; classes = 0; parts = 0; rows = 0; splits = 0; lists = T })
    refused-short e = refused 17 (sym (verdict-then (list_rules L) _ refl good ∙ stop 17 [] e)) (λ z. omega arith)

    passed : too_short T ≡ false → verdict (early_rules L T) ≡ 0
    passed e = verdict-then (list_rules L) _ refl good ∙ last 17 e

    -- 16
    pub refused-limits : too_short T ≡ false → Many L (suc most_parts) ⊎ (most_classes < class_total L) → (C P W S : List ℕ)
        → C ≡ over [] T.classes → P ≡ over [] T.parts → W ≡ over [] T.rows → S ≡ over [] T.splits
        → Builds L T (record { refusal = 16; classes = 0; parts = 0; rows = 0; splits = 0; lists = record { classes = C; parts = P; rows = W; splits = S } })
    refused-limits e m C P W S c p w s = passes_limits (passed e) m (rw (c, p, w, s))

-- ---- the lists are long enough

pub record Enough (T : Table) : Type 0 where
  pub classes : byte_values ≤ length T.classes
  pub parts : set_size * most_parts ≤ length T.parts
  pub rows : set_size * most_rows ≤ length T.rows
  pub splits : split_size * most_parts ≤ length T.splits

pub enough : (T : Table) → too_short T ≡ false → Enough T
unfolding too_short
enough T e =
    let a = neither (ltb (length T.classes) byte_values || ltb (length T.parts) (set_size * most_parts) || ltb (length T.rows) (set_size * most_rows)) (ltb (length T.splits) (split_size * most_parts)) e in
    let b = neither (ltb (length T.classes) byte_values || ltb (length T.parts) (set_size * most_parts)) (ltb (length T.rows) (set_size * most_rows)) a.0 in
    let c = neither (ltb (length T.classes) byte_values) (ltb (length T.parts) (set_size * most_parts)) b.0 in
    record { classes = ltb-false _ _ c.0; parts = ltb-false _ _ c.1; rows = ltb-false _ _ b.1; splits = ltb-false _ _ a.1 }

-- a list that is as long ends like it
pub over-same : (front b c : List ℕ) → length b ≡ length c → over front b ≡ over front c
over-same front b c e = rw e

same-building : (c c' p p' w w' s s' : ℕ) (C C' P P' W W' S S' : List ℕ) → c ≡ c' → p ≡ p' → w ≡ w' → s ≡ s' → C ≡ C' → P ≡ P' → W ≡ W' → S ≡ S'
    → ◌≡◌ {A = Building} (record { refusal = 0; classes = c; parts = p; rows = w; splits = s; lists = record { classes = C; parts = P; rows = W; splits = S } })
    (record { refusal = 0; classes = c'; parts = p'; rows = w'; splits = s'; lists = record { classes = C'; parts = P'; rows = W'; splits = S' } })
same-building c c' p p' w w' s s' C C' P P' W W' S S' e₁ e₂ e₃ e₄ e₅ e₆ e₇ e₈ = rw (e₁, e₂, e₃, e₄, e₅, e₆, e₇, e₈)

-- ---- the table

module _ (L : List ℕ) (T : Table) (C P R W : List ℕ) (n k : ℕ) (good : list_refusal L ≡ 0) (short : too_short T ≡ false) (s : Sought L T.classes T.parts T.rows T.splits C P R W n k false) where
  pub built : (P' W' S' : List ℕ) → P' ≡ over (parts_of (sets_of P n)) P → W' ≡ over (rows_of L (sets_of P n)) R → S' ≡ over (splits_of (sets_of P n)) W
      → Builds L T (record { refusal = 0; classes = byte_values; parts = set_size * n; rows = set_size * (n * k); splits = split_size * n; lists = record { classes = C; parts = P'; rows = W'; splits = S' } })
  built P' W' S' p w z =
      let c = s.classed refl in
      builds (passed L T good short) (rw c.total at c.few) (sets_of P n) (rw (sets-length P n) (s.known refl).few) (s.reached refl)
      (same-building byte_values _ (set_size * n) _ (set_size * (n * k)) _ (split_size * n) _ C _ P' _ W' _ S' _
      (sym (class-length L))
      (sym (part_length (sets_of P n) ∙ ap (λ (m : ℕ). set_size * m) (sets-length P n)))
      (sym (row-length L (sets_of P n) ∙ rw (sets-length P n, c.total)))
      (sym (split-length (sets_of P n) ∙ ap (λ (m : ℕ). split_size * m) (sets-length P n)))
      (classes-over L T.classes C s.long (enough T short).classes c.numbers s.zeros)
      (p ∙ over-same (parts_of (sets_of P n)) P T.parts s.parts-long)
      (w ∙ over-same (rows_of L (sets_of P n)) R T.rows s.rows_long)
      (z ∙ over-same (splits_of (sets_of P n)) W T.splits s.splits-long))

-- ---- the fronts so named are a table that the check accepts

pub fronts-of : (front lent : List ℕ) → take (length front) (over front lent) ≡ front
fronts-of front lent = take_at front _ (length front) refl

pub build-accepted : (L : List ℕ) (T : Table) (o : Building) → Builds L T o → o.refusal ≡ 0 → table_refusal L 1 (fronts o) ≡ 0
build-accepted L T o (refuses n e) z = absurd (n (sym (ap (λ (x : Building). x.refusal) e) ∙ z))
build-accepted L T o (passes_limits v m e) z = absurd (omega (arith, sym (ap (λ (x : Building). x.refusal) e) ∙ z))
build-accepted L T o (builds v c xs n a e) z =
    rw (
      e,
      fronts-of (classes_of L) T.classes,
      fronts-of (parts_of xs) T.parts,
      fronts-of (rows_of L xs) T.rows,
      fronts-of (splits_of xs) T.splits,
    ) (accepted-at-1 L (passes-front (list_rules L) _ v) xs a n c)
