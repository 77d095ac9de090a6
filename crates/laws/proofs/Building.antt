-- The builder: its refusals in words, and what its driver promises. Assumes nothing.
use Prim.Native.Nat.{ℕ, suc, ◌<◌}
use mathlib.Core.Path.{◌≡◌, refl, sym, ◌∙◌}
use mathlib.Core.List.{List, [], ◌∷◌, ◌++◌}
use mathlib.Core.Logic.{◌⊎◌, inl, inr}
use native.Mathlib.Omega.{arith}
use Rattle.rules.specs.Rules.{verdict}
use Rattle.rules.proofs.Scanning.{choose}
use Rattle.rules.proofs.Rules.{passes-front}
use Rattle.list.specs.List.{list_rules, list_refusal}
use Rattle.table.specs.Table.{Table, most_parts, table_refusal}
use Rattle.table_classes.specs.Classes.{most_classes, class_total}
use Rattle.table_classes.specs.Words.{Needs}
use Rattle.table_classes.proofs.Words.{needs-exactly}
use Rattle.table_build.specs.Build.{Many, Building, too_short, early_rules, Builds, refuses, passes_limits, builds}
use Rattle.table_build.proofs.Reached.{not-both}
use Rattle.table_build.specs.Words.{fronts}
use Rattle.table_build.proofs.Outcomes.{build-accepted}
use Rattle.table_build.proofs.Words.{keeps, empties, fills, short-exactly}
use Rattle.rules.specs.Words.{Row, None, First, InWords}
use Rattle.laws.specs.Words.{list_words, build_words}
use Rattle.laws.proofs.Words.{lent_words}
use Rattle.laws.specs.Drivers.{BuildKept}
use Rattle.rules.proofs.Saying.{says-append, tells}
use Rattle.laws.proofs.Saying.{list-says}

-- ---- one table of words behind another

none-front : (ws vs : List Row) → None (ws ++ vs) → None ws
none-front [] vs n = tt
none-front (w ∷ ws) vs n = (n.0, none-front ws vs n.1)

none-back : (ws vs : List Row) → None (ws ++ vs) → None vs
none-back [] vs n = n
none-back (w ∷ ws) vs n = none-back ws vs n.1

none_both : (ws vs : List Row) → None ws → None vs → None (ws ++ vs)
none_both [] vs n m = m
none_both (w ∷ ws) vs n m = (n.0, none_both ws vs n.1 m)

first-front : (ws vs : List Row) (n : ℕ) → First ws n → First (ws ++ vs) n
first-front [] vs n f = absurd f
first-front (w ∷ ws) vs n f = choose f (λ a. inl a) (λ b. inr (b.0, first-front ws vs n b.1))

first_back : (ws vs : List Row) (n : ℕ) → None ws → First vs n → First (ws ++ vs) n
first_back [] vs n z f = f
first_back (w ∷ ws) vs n z f = inr (z.0, first_back ws vs n z.1 f)

first-split : (ws vs : List Row) (n : ℕ) → First (ws ++ vs) n → First ws n ⊎ (None ws × First vs n)
first-split [] vs n f = inr (tt, f)
first-split (w ∷ ws) vs n f =
    choose f (λ a. inl (inl a)) (λ b. choose (first-split ws vs n b.1) (λ g. inl (inr (b.0, g))) (λ g. inr ((b.0, g.0), g.1)))

-- where the first table refuses, the second says nothing
pub words-refused : (ws vs : List Row) (r : ℕ) → InWords ws r → (r ≡ 0 → ⊥) → InWords (ws ++ vs) r
words-refused ws vs r i z =
    record {
      passes = (λ e. absurd (z e), λ n. i.passes.1 (none-front ws vs n));
      gives = λ n m. (
        λ e. first-front ws vs n ((i.gives n m).0 e),
        λ f. choose (first-split ws vs n f) (λ g. (i.gives n m).1 g) (λ g. absurd (z (i.passes.1 g.0))),
      );
    }

-- where it passes, one row more is given, or none
pub words-next : (ws : List Row) (n : ℕ) (A : Type 0) → InWords ws 0 → (n ≡ 0 → ⊥) → A → InWords (ws ++ ((n, A) ∷ [])) n
words-next ws n A i z a =
    record {
      passes = (λ e. absurd (z e), λ m. absurd ((none-back ws ((n, A) ∷ []) m).0 a));
      gives = λ k m. (
        λ e. first_back ws ((n, A) ∷ []) k (i.passes.0 refl) (inl (e, a)),
        λ f. choose (first-split ws ((n, A) ∷ []) k f) (λ g. absurd (m (sym ((i.gives k m).1 g)))) (λ g. choose g.1 (λ x. x.0) (λ x. absurd x.1)),
      );
    }

pub words-none : (ws : List Row) (n : ℕ) (A : Type 0) → InWords ws 0 → (A → ⊥) → InWords (ws ++ ((n, A) ∷ [])) 0
words-none ws n A i b =
    record {
      passes = (λ e. none_both ws ((n, A) ∷ []) (i.passes.0 refl) (b, tt), λ m. refl);
      gives = λ k m. (
        λ e. absurd (m (sym e)),
        λ f. choose (first-split ws ((n, A) ∷ []) k f) (λ g. absurd (m (sym ((i.gives k m).1 g)))) (λ g. choose g.1 (λ x. absurd (b x.1)) (λ x. absurd x.1)),
      );
    }

-- ---- the builder's rows

early-tells : (L : List ℕ) (T : Table) → InWords (list_words L ++ lent_words T) (verdict (early_rules L T))
early-tells L T = tells (early_rules L T) (list_words L ++ lent_words T) refl (says-append (list_rules L) ((17, too_short T) ∷ []) (list_words L) (lent_words T) (list-says L) (refl, short-exactly T, tt))

module _ (L : List ℕ) (T : Table) (o : Building) where
  early-passes : verdict (early_rules L T) ≡ 0 → InWords (list_words L ++ lent_words T) 0
  early-passes v = rw v at (early-tells L T)

  good : verdict (early_rules L T) ≡ 0 → list_refusal L ≡ 0
  good v = passes-front (list_rules L) ((17, too_short T) ∷ []) v

  limit : verdict (early_rules L T) ≡ 0 → Many L (suc most_parts) ⊎ (most_classes < class_total L) → Many L (suc most_parts) ⊎ Needs L (suc most_classes)
  limit v m = choose m (λ a. inl a) (λ b. inr ((needs-exactly L (good v) (suc most_classes)).0 b))

  limit-back : verdict (early_rules L T) ≡ 0 → Many L (suc most_parts) ⊎ Needs L (suc most_classes) → Many L (suc most_parts) ⊎ (most_classes < class_total L)
  limit-back v m = choose m (λ a. inl a) (λ b. inr ((needs-exactly L (good v) (suc most_classes)).1 b))

  pub build-tells : Builds L T o → InWords (build_words L T) o.refusal
  build-tells (refuses n e) = rw e (words-refused (list_words L ++ lent_words T) _ (verdict (early_rules L T)) (early-tells L T) n)
  build-tells (passes_limits v m e) = rw e (words-next (list_words L ++ lent_words T) 16 _ (early-passes v) (λ z. omega arith) (limit v m))
  build-tells (builds v c xs n a e) = rw e (words-none (list_words L ++ lent_words T) 16 _ (early-passes v) (λ m. not-both L xs (limit-back v m) c n a))

  -- what its driver promises
  pub build-kept : (checked : ℕ) → checked ≡ table_refusal L 1 (fronts o) → Builds L T o → BuildKept L T o checked
  build-kept checked e b =
      record {
        refuses = build-tells b;
        unchanged = keeps L T o b;
        emptied = empties L T o b;
        made = fills L T o b;
        accepted = λ z. e ∙ build-accepted L T o b z;
      }
