-- The split that a set takes, and that a set is a split exactly when the search for it ends at one. Assumes nothing.
use Prim.Native.Nat.{ℕ, ◌≤◌, ◌<◌}
use mathlib.Core.Path.{◌≡◌, sym, ◌∙◌}
use mathlib.Core.Bool.{false}
use mathlib.Core.List.{List}
use mathlib.Core.Logic.{◌↔◌}
use native.Mathlib.Omega.{arith}
use lib.Dec.{ltb, eqb}
use borrow.Author.Tests.{eqb-true, eqb-false, eq-eqb, ne_eqb, lt-ltb, le-ltb}
use Rattle.std.specs.Option.{is_some, unwrap_or, IfSome, IfNone}
use Rattle.std.specs.declared.option.Option.{Option}
use Rattle.std.specs.declared.option.Option.TheVariants.{Some, None}
use Rattle.rules.proofs.Scanning.{some_first, first-exactly, first-none-exactly}
use Rattle.table.specs.Table.{split_count, split_set, is_split, split_of}

module _ (S : List ℕ) (F : ℕ) where
  pub is-split : is_split S F ≡ ltb (split_of S F) (split_count S)
  unfolding split_of
  is-split = some_first (split_count S) (λ i. eqb (split_set S i) F)

  -- whether there is one is what the search says
  pub said : (r : Option ℕ) → IfSome r (λ i. (i ≡ split_of S F) × (i < split_count S)) → IfNone r (split_of S F ≡ split_count S) → is_split S F ≡ is_some r
  said (Some i) f n = is-split ∙ lt-ltb (split_of S F) (split_count S) (omega (arith, f.0, f.1))
  said None f n = is-split ∙ le-ltb (split_of S F) (split_count S) (omega (arith, n))

  -- and where it says none, the number of splits stands for it
  pub placed : (r : Option ℕ) (n : ℕ) → IfSome r (λ i. (i ≡ split_of S F) × (i < split_count S)) → IfNone r (split_of S F ≡ split_count S) → n ≡ split_count S
      → unwrap_or r n ≡ split_of S F
  placed (Some i) n f g e = f.0
  placed None n f g e = e ∙ sym g

  -- there is none with that set, where the search gives a place past them
  pub found-no : (n i : ℕ) → n ≡ split_count S → i ≡ split_of S F → n ≤ i → is_split S F ≡ false
  found-no n i e q l = is-split ∙ le-ltb (split_of S F) (split_count S) (omega (arith, e, q))

  -- the split taken is the first whose set equals F
  pub split-exactly : (i : ℕ) → i < split_count S → split_of S F ≡ i ↔ ((split_set S i ≡ F) × ((j : ℕ) → j < i → split_set S j ≡ F → ⊥))
  unfolding split_of
  split-exactly i l =
      let w = first-exactly (split_count S) (λ j. eqb (split_set S j) F) i l in (
        λ e. (eqb-true (split_set S i) F (w.0 e).0, λ j m. eqb-false (split_set S j) F ((w.0 e).1 j m)),
        λ r. w.1 (eq-eqb (split_set S i) F r.0, λ j m. ne_eqb (split_set S j) F (r.1 j m)),
      )

  -- and there is none exactly when no split has that set
  pub split-none : split_of S F ≡ split_count S ↔ ((j : ℕ) → j < split_count S → split_set S j ≡ F → ⊥)
  unfolding split_of
  split-none =
      let w = first-none-exactly (split_count S) (λ j. eqb (split_set S j) F) in (
        λ e j m. eqb-false (split_set S j) F (w.0 e j m),
        λ r. w.1 (λ j m. ne_eqb (split_set S j) F (r j m)),
      )
