-- Each promise of the public functions determines the outcome: two outcomes that meet it are equal. Assumes nothing.
use Prim.Native.Nat.{ℕ, suc, ◌*◌, ◌≤◌, ◌<◌}
use mathlib.Core.Path.{◌≡◌, refl, sym, ap, ◌∙◌}
use mathlib.Core.Bool.{true}
use mathlib.Core.List.{List}
use native.Mathlib.Omega.{arith}
use native.Mathlib.Nat.{lt_of_not-le}
use native.Mathlib.Decide.{dec_lt}
use Rattle.std.specs.Prelude.{IfSome, IfNone, IfOk, IfErr}
use Rattle.std.specs.declared.option.Option.{Option}
use Rattle.std.specs.declared.option.Option.TheVariants.{Some, None}
use Rattle.std.specs.declared.result.Result.{Result}
use Rattle.std.specs.declared.result.Result.TheVariants.{Ok, Err}
use Rattle.numbers.specs.Number.{before}
use Rattle.numbers.proofs.Order.{before-trans}
use Rattle.numbers.proofs.Halving.{before-other}
use lib.ListN.{get_or}
use Rattle.sets.specs.declared.Set.{Set}
use Rattle.sets.specs.Set.{set_words, set_of, set_bytes, set_at}
use Rattle.sets.proofs.Sets.{Words, set-one}
use Rattle.rules.specs.Rules.{verdict}
use Rattle.table.specs.Table.{Table, class_count, part_count, split_count, row_at, split_set, slots, SetsRise, split_of, size_rules, rising_rules, table_refusal}

one : (i j : ℕ) → (i < j → ⊥) → (j < i → ⊥) → i ≡ j
one i j f g = omega (arith, lt_of_not-le (λ (l : suc i ≤ j). f l), lt_of_not-le (λ (l : suc j ≤ i). g l))

-- ---- the split that is found, or none

pub unique-find-sorted : (S : List ℕ) (F : ℕ) (x y : Option ℕ)
    → IfSome x (λ i. (i ≡ split_of S F) × (i < split_count S)) → IfNone x (split_of S F ≡ split_count S)
    → IfSome y (λ i. (i ≡ split_of S F) × (i < split_count S)) → IfNone y (split_of S F ≡ split_count S) → x ≡ y
unique-find-sorted S F (Some i) (Some j) p n q m = ap Some (p.0 ∙ sym q.0)
unique-find-sorted S F (Some i) None p n q m = absurd (omega (arith, p.0, p.1, m))
unique-find-sorted S F None (Some j) p n q m = absurd (omega (arith, q.0, q.1, n))
unique-find-sorted S F None None p n q m = refl

-- ---- the place of a set among sets that rise, or how many come before it

module _ (b : List ℕ) (size n F : ℕ) where
  abbrev strings : ℕ → List ℕ
  strings j = set_bytes (set_at b (size * j))

  abbrev pub IsThere : ℕ → Type 0
  IsThere i = (i < n) × (set_at b (size * i) ≡ F)

  abbrev pub IsEnd : ℕ → Type 0
  IsEnd i = (i ≤ n) × ((j : ℕ) → j < i → before (strings j) (set_bytes F) ≡ true) × ((j : ℕ) → i ≤ j → j < n → before (set_bytes F) (strings j) ≡ true)

  -- a set that stands there comes neither before itself nor after
  apart : (i e : ℕ) → IsThere i → IsEnd e → ⊥
  apart i e p q =
      elim (dec_lt i e) [
        | yes l ↦ before-other (strings i) (set_bytes F) (q.1 i l) (ap (λ (x : ℕ). set_bytes x) p.1)
        | no g ↦ before-other (set_bytes F) (strings i) (q.2 i (omega (arith, lt_of_not-le (λ (l : suc i ≤ e). g l))) p.0) (ap (λ (x : ℕ). set_bytes x) (sym p.1))
      ]

  -- no place below one end is past another
  below-end : (i e : ℕ) → IsEnd i → IsEnd e → i < e → ⊥
  below-end i e p q l = before-other (strings i) (strings i) (before-trans (strings i) (set_bytes F) (strings i) (q.1 i l) (p.2 i (omega arith) (omega (arith, q.0)))) refl

  -- sets that rise differ
  rising-apart : SetsRise b size n → (i j : ℕ) → IsThere i → IsThere j → i < j → ⊥
  rising-apart r i j p q l = before-other (strings i) (strings j) (r i j l q.0) (ap (λ (x : ℕ). set_bytes x) (p.1 ∙ sym q.1))

  pub unique-seek : SetsRise b size n → (x y : Result ℕ ℕ) → IfOk x IsThere → IfErr x IsEnd → IfOk y IsThere → IfErr y IsEnd → x ≡ y
  unique-seek r (Ok i) (Ok j) p _ q _ = ap Ok (one i j (rising-apart r i j p q) (rising-apart r j i q p))
  unique-seek r (Ok i) (Err j) p _ _ q = absurd (apart i j p q)
  unique-seek r (Err i) (Ok j) _ p q _ = absurd (apart j i q p)
  unique-seek r (Err i) (Err j) _ p _ q = ap Err (one i j (below-end i j p q) (below-end j i q p))

-- ---- numbers and answers

module _ (x y : ℕ) where
  pub unique-check-table : (L : List ℕ) (b : ℕ) (T : Table) → x ≡ table_refusal L b T → y ≡ table_refusal L b T → x ≡ y
  unique-check-table L b T p q = p ∙ sym q

  pub unique-size-refusal : (b : ℕ) (T : Table) → x ≡ verdict (size_rules b T) → y ≡ verdict (size_rules b T) → x ≡ y
  unique-size-refusal b T e f = e ∙ sym f

  pub unique-rising-refusal : (b : ℕ) (T : Table) → x ≡ verdict (rising_rules b T) → y ≡ verdict (rising_rules b T) → x ≡ y
  unique-rising-refusal b T p q = p ∙ sym q

  pub unique-class-count : (C : List ℕ) → x ≡ class_count C → y ≡ class_count C → x ≡ y
  unique-class-count C p q = p ∙ sym q

  pub unique-part-count : (P : List ℕ) → x ≡ part_count P → y ≡ part_count P → x ≡ y
  unique-part-count P p q = p ∙ sym q

  pub unique-split-count : (S : List ℕ) → x ≡ split_count S → y ≡ split_count S → x ≡ y
  unique-split-count S p q = p ∙ sym q

  pub unique-slot : (S : List ℕ) (i j : ℕ) → x ≡ get_or (slots S i) j 0 → y ≡ get_or (slots S i) j 0 → x ≡ y
  unique-slot S i j p q = p ∙ sym q

-- ---- sets that own as many words as their kind has, each of 64 bits

module _ (x y : Set set_words) (vx : Words set_words x.words) (vy : Words set_words y.words) where
  pub unique-split-set : (S : List ℕ) (i : ℕ) → set_of x ≡ split_set S i → set_of y ≡ split_set S i → x ≡ y
  unique-split-set S i p q = set-one x y vx vy (p ∙ sym q)

  pub unique-whole-row : (W : List ℕ) (k i c : ℕ) → set_of x ≡ row_at W k i c → set_of y ≡ row_at W k i c → x ≡ y
  unique-whole-row W k i c p q = set-one x y vx vy (p ∙ sym q)
