-- What the preparation leaves, in words: which number it gives when, and that splits and index at the fronts that it names are right for the list. Assumes nothing.
use Prim.Native.Nat.{ℕ, suc, ◌≤◌}
use mathlib.Core.Path.{◌≡◌, sym, ap, ◌∙◌}
use mathlib.Core.List.{List, []}
use mathlib.Core.Logic.{◌↔◌}
use native.Mathlib.Omega.{arith}
use lib.ListN.{length, take}
use lib.Seq.{take_at}
use Rattle.rules.specs.Rules.{verdict}
use Rattle.rules.proofs.Rules.{passes-front}
use Rattle.list.specs.List.{list_rules, list_refusal}
use Rattle.table.specs.Table.{most_splits}
use Rattle.table_build.specs.Build.{Many, Reached, over}
use Rattle.table_build.proofs.Reached.{many-fit}
use Rattle.index.specs.Right.{Right, Costs}
use Rattle.index.specs.Means.{stand_means}
use Rattle.index_prepare.specs.Prepare.{splits_of, made_index, Preparing, early_rules, Prepares, refuses, passes_limit, prepares}
use Rattle.index_prepare.proofs.Right.{prepared-right, prepared-costs}

module _ (L S X : List ℕ) (o : Preparing) where
  refusal-of : (p : Preparing) → o ≡ p → o.refusal ≡ p.refusal
  refusal-of p e = ap (λ (x : Preparing). x.refusal) e

  front : (f lent : List ℕ) (n : ℕ) (b : List ℕ) → n ≡ length f → b ≡ over f lent → take n b ≡ f
  front f lent n b e d = ap (take n) d ∙ take_at f _ n (sym e)

  -- where nothing is refused, the fronts named are the splits and the index of the sets that can be reached
  pub made_of : Prepares L S X o → o.refusal ≡ 0 → (xs : List ℕ) × Reached L xs × (length xs ≤ most_splits) × (list_refusal L ≡ 0) × (take o.splits o.made ≡ splits_of xs) × (take o.index o.indexed ≡ made_index L xs)
  made_of (refuses n e) z = absurd (n (sym (refusal-of _ e) ∙ z))
  made_of (passes_limit v m e) z = absurd (omega (arith, sym (refusal-of _ e) ∙ z))
  made_of (prepares v xs few a e) z = (
    xs,
    a,
    few,
    passes-front (list_rules L) _ v,
    front (splits_of xs) S o.splits o.made (ap (λ (x : Preparing). x.splits) e) (ap (λ (x : Preparing). x.made) e),
    front (made_index L xs) X o.index o.indexed (ap (λ (x : Preparing). x.index) e) (ap (λ (x : Preparing). x.indexed) e),
  )

  -- so they are right for the list, and a byte costs one row
  pub prepare-right : Prepares L S X o → o.refusal ≡ 0 → Right L (take o.splits o.made) (take o.index o.indexed)
  prepare-right p z = let m = made_of p z in rw (m.4, m.5) (prepared-right L m.3 m.0 m.1 m.2)

  pub prepare-costs : Prepares L S X o → o.refusal ≡ 0 → Costs 1 (λ F. 1) (take o.splits o.made) (take o.index o.indexed)
  prepare-costs p z = let m = made_of p z in rw (m.4, m.5) (prepared-costs L m.3 m.0 m.1 m.2)

  pub prepare-checked : Prepares L S X o → o.refusal ≡ 0 → (h : ℕ) → (stand_means 1 (λ F. 1) (take o.splits o.made) (take o.index o.indexed) h).Checked L
  prepare-checked p z h = (prepare-right p z, prepare-costs p z)

  -- 16 exactly if no earlier rule refuses and more sets can be reached than there may be splits; then both lists are zeros
  pub gives-16 : Prepares L S X o → verdict (early_rules L S X) ≡ 0 → o.refusal ≡ 16 ↔ Many L (suc most_splits)
  gives-16 (refuses n e) v = absurd (n v)
  gives-16 (passes_limit y m e) v = (λ z. m, λ z. refusal-of _ e)
  gives-16 (prepares y xs few a e) v = (
    λ z. absurd (omega (arith, sym (refusal-of _ e) ∙ z)),
    λ m. let k : suc most_splits ≤ length xs = many-fit L xs (suc most_splits) m a in absurd (omega arith),
  )

  pub zeros-on-16 : Prepares L S X o → o.refusal ≡ 16 → verdict (early_rules L S X) ≡ 0 → (o.made ≡ over [] S) × (o.indexed ≡ over [] X)
  zeros-on-16 (refuses n e) z v = absurd (n v)
  zeros-on-16 (passes_limit y m e) z v = (ap (λ (x : Preparing). x.made) e, ap (λ (x : Preparing). x.indexed) e)
  zeros-on-16 (prepares y xs few a e) z v = absurd (omega (arith, sym (refusal-of _ e) ∙ z))

  -- the other refusals change nothing
  pub keeps : Prepares L S X o → (verdict (early_rules L S X) ≡ 0 → ⊥) → (o.refusal ≡ verdict (early_rules L S X)) × (o.made ≡ S) × (o.indexed ≡ X)
  keeps (refuses n e) h = (refusal-of _ e, ap (λ (x : Preparing). x.made) e, ap (λ (x : Preparing). x.indexed) e)
  keeps (passes_limit y m e) h = absurd (h y)
  keeps (prepares y xs few a e) h = absurd (h y)
