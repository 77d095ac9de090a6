-- What is made straight from a list: its refusals in words, and what it leaves. Assumes nothing.
use Prim.Native.Nat.{ℕ, suc, ◌*◌, ◌≤◌, ◌<◌}
use mathlib.Core.Path.{◌≡◌, refl, sym, ap, ◌∙◌}
use mathlib.Core.Bool.{true}
use mathlib.Core.List.{List, [], ◌∷◌, ◌++◌}
use mathlib.Core.Logic.{◌⊎◌, ◌↔◌}
use native.Mathlib.Omega.{arith}
use lib.ListN.{length}
use lib.Dec.{ltb}
use borrow.Author.Tests.{ltb-false}
use Rattle.rules.specs.Rules.{verdict}
use Rattle.rules.specs.Words.{InWords}
use Rattle.rules.proofs.Scanning.{choose, neither, either-words, over-words}
use Rattle.rules.proofs.Rules.{passes, passes-front, verdict-then}
use Rattle.rules.proofs.Saying.{says-append, tells}
use Rattle.list.specs.List.{list_rules}
use Rattle.table.specs.Table.{most_splits, split_size}
use Rattle.table_build.specs.Words.{Ends}
use Rattle.table_build.proofs.Reached.{many-fit}
use Rattle.table_build.proofs.Outcomes.{fronts-of}
use Rattle.table_build.proofs.Words.{over-ends}
use Rattle.index.specs.Entry.{entry_place}
use Rattle.index_fill.proofs.Reading.{index-length}
use Rattle.index_prepare.specs.Prepare.{Preparing, Prepares, refuses, passes_limit, prepares, too_short, early_rules, splits_of, made_index}
use Rattle.index_prepare.proofs.Right.{split-length, prepared-checked}
use Rattle.laws.specs.Words.{list_words, both_words, prepare_words}
use Rattle.laws.specs.Demands.{Prepared, PreparedSwaps}
use Rattle.laws.proofs.Saying.{list-says}
use Rattle.laws.proofs.Building.{words-refused, words-next, words-none}

module _ (L S X : List ℕ) where
  short-exactly : too_short S X ≡ true ↔ ((length S < 557056) ⊎ (length X < 4456576))
  unfolding too_short
  short-exactly =
      either-words (length S < 557056) (length X < 4456576) (ltb (length S) (split_size * most_splits)) (ltb (length X) (entry_place most_splits))
      (over-words (length S) 557056) (over-words (length X) 4456576)

  early-tells : InWords (list_words L ++ both_words S X) (verdict (early_rules L S X))
  early-tells =
      tells (early_rules L S X) (list_words L ++ both_words S X) refl
      (says-append (list_rules L) ((17, too_short S X) ∷ []) (list_words L) (both_words S X) (list-says L) (refl, short-exactly, tt))

  early-passes : verdict (early_rules L S X) ≡ 0 → InWords (list_words L ++ both_words S X) 0
  early-passes v = rw v at early-tells

  -- the rules before any search never give 16
  not_16 : verdict (early_rules L S X) ≡ 16 → ⊥
  not_16 e =
      choose ((early-tells.gives 16 (λ q. omega arith)).0 e) (λ a. omega (arith, a.0))
      (λ f. choose f.1 (λ a. omega (arith, a.0)) (λ g. choose g.1 (λ a. omega (arith, a.0)) (λ h. choose h.1 (λ a. omega (arith, a.0)) (λ i. i.1))))

  -- where they pass, both lists have the bytes for the most splits
  enough : verdict (early_rules L S X) ≡ 0 → (557056 ≤ length S) × (4456576 ≤ length X)
  unfolding too_short
  enough v =
      let p = (passes 16 (too_short S X) [] (sym (verdict-then (list_rules L) ((17, too_short S X) ∷ []) refl (passes-front (list_rules L) ((17, too_short S X) ∷ []) v)) ∙ v)).0 in
      let q = neither (ltb (length S) (split_size * most_splits)) (ltb (length X) (entry_place most_splits)) p in
      (ltb-false (length S) 557056 q.0, ltb-false (length X) 4456576 q.1)

  pub prepare-tells : (o : Preparing) → Prepares L S X o → InWords (prepare_words L S X) o.refusal
  prepare-tells o (refuses n e) = rw e (words-refused (list_words L ++ both_words S X) _ (verdict (early_rules L S X)) early-tells n)
  prepare-tells o (passes_limit v m e) = rw e (words-next (list_words L ++ both_words S X) 16 _ (early-passes v) (λ z. omega arith) m)
  prepare-tells o (prepares v xs n a e) = rw e (words-none (list_words L ++ both_words S X) 16 _ (early-passes v) (λ m. omega (arith, n, many-fit L xs (suc most_splits) m a)))

  pub prepare-keeps : (o : Preparing) → Prepares L S X o → (o.refusal ≡ 0 → ⊥) → (o.refusal ≡ 16 → ⊥) → (o.splits ≡ 0) × (o.index ≡ 0) × (o.made ≡ S) × (o.indexed ≡ X)
  prepare-keeps o (refuses n e) z y = rw e (refl, refl, refl, refl)
  prepare-keeps o (passes_limit v m e) z y = absurd (y (ap (λ (x : Preparing). x.refusal) e))
  prepare-keeps o (prepares v xs n a e) z y = absurd (z (ap (λ (x : Preparing). x.refusal) e))

  pub prepare-empties : (o : Preparing) → Prepares L S X o → o.refusal ≡ 16 → (o.splits ≡ 0) × (o.index ≡ 0) × Ends S o.made 0 × Ends X o.indexed 0
  prepare-empties o (refuses n e) z = absurd (not_16 (sym (ap (λ (x : Preparing). x.refusal) e) ∙ z))
  prepare-empties o (passes_limit v m e) z = rw e (refl, refl, over-ends [] S (omega arith), over-ends [] X (omega arith))
  prepare-empties o (prepares v xs n a e) z = absurd (omega (arith, sym (ap (λ (x : Preparing). x.refusal) e) ∙ z))

  pub prepare-makes : (o : Preparing) → Prepares L S X o → o.refusal ≡ 0 → Prepared L S X o
  prepare-makes o (refuses n e) z = absurd (n (sym (ap (λ (x : Preparing). x.refusal) e) ∙ z))
  prepare-makes o (passes_limit v m e) z = absurd (omega (arith, sym (ap (λ (x : Preparing). x.refusal) e) ∙ z))
  prepare-makes o (prepares v xs n a e) z =
      let long = enough v in
      rw e
      (record {
        sets = xs;
        reached = a;
        splits = fronts-of (splits_of xs) S;
        index = fronts-of (made_index L xs) X;
        behind = over-ends (splits_of xs) S (omega (arith, n, split-length xs, long.0));
        after = over-ends (made_index L xs) X (omega (arith, n, index-length L 1 (splits_of xs) (length xs), long.1));
      })

-- such splits and index a flow may change to, at one row a byte
pub prepared-swaps : PreparedSwaps
prepared-swaps L S X o (refuses n e) z h = absurd (n (sym (ap (λ (x : Preparing). x.refusal) e) ∙ z))
prepared-swaps L S X o (passes_limit v m e) z h = absurd (omega (arith, sym (ap (λ (x : Preparing). x.refusal) e) ∙ z))
prepared-swaps L S X o (prepares v xs n a e) z h =
    rw (e, fronts-of (splits_of xs) S, fronts-of (made_index L xs) X) (prepared-checked L (passes-front (list_rules L) _ v) xs a n h)
