-- What `prepare` answers at each of its ends, and that any two outcomes are equal. Assumes nothing.
use Prim.Native.Nat.{ℕ, zero, suc, ◌*◌, ◌≤◌}
use mathlib.Core.Path.{◌≡◌, refl, sym, ap, ◌∙◌}
use mathlib.Core.Bool.{true, false}
use mathlib.Core.List.{List, []}
use native.Mathlib.Omega.{arith}
use lib.ListN.{length}
use lib.Dec.{ltb}
use borrow.Author.Tests.{ltb-false}
use Rattle.rules.specs.Rules.{verdict}
use Rattle.rules.proofs.Scanning.{neither}
use Rattle.rules.proofs.Rules.{verdict-first, verdict-then, stop, last}
use Rattle.list.specs.List.{list_rules, list_refusal}
use Rattle.table.specs.Table.{most_splits, split_size}
use Rattle.table_build.specs.Build.{Many, Reached, over}
use Rattle.table_build.proofs.Reached.{reached-one, many-fit}
use Rattle.index.specs.Entry.{entry_place}
use Rattle.index_prepare.specs.Prepare.{splits_of, made_index, Preparing, too_short, early_rules, laid, Prepares, refuses, passes_limit, prepares}

module _ (L S X : List ℕ) where
  refused : (r : ℕ) → r ≡ verdict (early_rules L S X) → (r ≡ 0 → ⊥) → Prepares L S X (record { refusal = r; splits = 0; index = 0; made = S; indexed = X })
  refused r e n = refuses (λ z. n (e ∙ z)) (ap {B = Preparing} (λ (x : ℕ). record { refusal = x; splits = 0; index = 0; made = S; indexed = X }) e)

  -- 1 to 3
  pub refused-list : (r : ℕ) → r ≡ list_refusal L → (r ≡ 0 → ⊥) → Prepares L S X (record { refusal = r; splits = 0; index = 0; made = S; indexed = X })
  refused-list zero e n = absurd (n refl)
  refused-list (suc r) e n = refused (suc r) (sym (verdict-first (list_rules L) _ r (sym e))) n

  -- the lists are long enough
  pub enough : too_short S X ≡ false → (split_size * most_splits ≤ length S) × (entry_place most_splits ≤ length X)
  unfolding too_short
  enough e =
      let a = neither (ltb (length S) (split_size * most_splits)) (ltb (length X) (entry_place most_splits)) e in
      (ltb-false _ _ a.0, ltb-false _ _ a.1)

  module _ (good : list_refusal L ≡ 0) where
    -- 17
    pub refused-short : too_short S X ≡ true → Prepares L S X (record { refusal = 17; splits = 0; index = 0; made = S; indexed = X })
    refused-short e = refused 17 (sym (verdict-then (list_rules L) _ refl good ∙ stop 17 [] e)) (λ z. omega arith)

    passed : too_short S X ≡ false → verdict (early_rules L S X) ≡ 0
    passed e = verdict-then (list_rules L) _ refl good ∙ last 17 e

    -- 16
    pub refused-limit : too_short S X ≡ false → Many L (suc most_splits) → (S' X' : List ℕ) → S' ≡ over [] S → X' ≡ over [] X
        → Prepares L S X (record { refusal = 16; splits = 0; index = 0; made = S'; indexed = X' })
    refused-limit e m S' X' s x = passes_limit (passed e) m (rw (s, x))

    same-preparing : (s s' i i' : ℕ) (S₁ S₂ X₁ X₂ : List ℕ) → s ≡ s' → i ≡ i' → S₁ ≡ S₂ → X₁ ≡ X₂
        → ◌≡◌ {A = Preparing} (record { refusal = 0; splits = s; index = i; made = S₁; indexed = X₁ }) (record { refusal = 0; splits = s'; index = i'; made = S₂; indexed = X₂ })
    same-preparing s s' i i' S₁ S₂ X₁ X₂ e₁ e₂ e₃ e₄ = rw (e₁, e₂, e₃, e₄)

    -- 0
    pub prepared : too_short S X ≡ false → (xs : List ℕ) → length xs ≤ most_splits → Reached L xs → (s i : ℕ) → s ≡ length (splits_of xs) → i ≡ length (made_index L xs) → (S' X' : List ℕ)
        → S' ≡ over (splits_of xs) S → X' ≡ over (made_index L xs) X → Prepares L S X (record { refusal = 0; splits = s; index = i; made = S'; indexed = X' })
    prepared e xs few a s i ls li S' X' es ex = prepares (passed e) xs few a (same-preparing s _ i _ S' _ X' _ ls li es ex)

-- ---- any two outcomes are equal

not-both : (L xs : List ℕ) → Many L (suc most_splits) → length xs ≤ most_splits → Reached L xs → ⊥
not-both L xs m n a = let k : suc most_splits ≤ length xs = many-fit L xs (suc most_splits) m a in absurd (omega arith)

pub unique-prepare : (L S X : List ℕ) (o p : Preparing) → Prepares L S X o → Prepares L S X p → o ≡ p
unique-prepare L S X o p (refuses n e) (refuses m d) = e ∙ sym d
unique-prepare L S X o p (passes_limit z l e) (passes_limit y k d) = e ∙ sym d
unique-prepare L S X o p (prepares z xs n a e) (prepares y ys m g d) =
    e ∙ ap {B = Preparing} (λ (zs : List ℕ). laid 0 (splits_of zs) (made_index L zs) S X) (reached-one L xs ys a g) ∙ sym d
unique-prepare L S X o p (refuses n e) (passes_limit y k d) = absurd (n y)
unique-prepare L S X o p (refuses n e) (prepares y ys m g d) = absurd (n y)
unique-prepare L S X o p (passes_limit z l e) (refuses n d) = absurd (n z)
unique-prepare L S X o p (prepares y ys m g d) (refuses n e) = absurd (n y)
unique-prepare L S X o p (passes_limit z l e) (prepares y ys m g d) = absurd (not-both L ys l m g)
unique-prepare L S X o p (prepares y ys m g d) (passes_limit z l e) = absurd (not-both L ys l m g)
