-- Where the records that the second list adds stand: each that is not spare at the place of those kept before it, and nothing else. Assumes nothing.
use Prim.Native.Nat.{ℕ, zero, suc, ◌+◌, ◌*◌, ◌<◌}
use mathlib.Core.Path.{◌≡◌, refl, sym, ap, ◌∙◌}
use mathlib.Core.Bool.{Bool, true, false, ◌&&◌, ◌||◌}
use mathlib.Core.List.{List, ◌++◌, append-nil}
use native.Mathlib.Omega.{arith}
use lib.ListN.{length, get_or, take, drop, length-append, get_or-append}
use lib.Dec.{eqb}
use lib.Seq.{get_or-append-add}
use borrow.Author.Tests.{eqb-true, eq-eqb}
use Rattle.numbers.specs.Number.{num}
use Rattle.sets.specs.Set.{states}
use Rattle.numbers.proofs.Laws.{Small}
use Rattle.rules.specs.Scan.{stack}
use Rattle.rules.proofs.Scanning.{both, below_suc, choose}
use Rattle.list.specs.List.{records, is_edge, is_start, from, target}
use Rattle.list.proofs.Listed.{same_truth}
use Rattle.list.proofs.Highest.{word_lt}
use Rattle.list.proofs.Copied.{copied-long}
use Rattle.list_join.specs.inner.Found.{spare_at, spare_by}
use Rattle.list_join.specs.Join.{is_shared, own_state, new_from, new_target, renamed_record, spare, added, kept}
use Rattle.list_join.specs.declared.Naming.{Naming}
use Rattle.list_join.proofs.Marking.{edge-no-start, tail-as}

and_assoc : (a b c : Bool) → ((a && b) && c) ≡ (a && (b && c))
and_assoc true b c = refl
and_assoc false b c = refl

module _ (n : Naming) (B : List ℕ) where
  pub record-long : (i : ℕ) → length (renamed_record n B i) ≡ 8
  unfolding renamed_record
  record-long i = copied-long B i (new_from n B i) (new_target n B i)

  -- a record is spare as it is for the shared state
  spare-as : (i : ℕ) → spare n B i ≡ ((is_shared n) && spare_at B (own_state n) i)
  unfolding spare
  spare-as i = and_assoc (is_shared n) (eqb (target B i) (own_state n)) (is_start B i || is_edge B i && eqb (from B i) (own_state n))

  pub kept_in : (i : ℕ) → spare n B i ≡ false → kept n B (suc i) ≡ suc (kept n B i)
  unfolding kept
  kept_in i e = rw e

  pub kept_out : (i : ℕ) → spare n B i ≡ true → kept n B (suc i) ≡ kept n B i
  unfolding kept
  kept_out i e = rw e

  pub added-in : (i : ℕ) → spare n B i ≡ false → added n B (suc i) ≡ added n B i ++ renamed_record n B i
  unfolding stack
  added-in i e = rw e

  pub added_out : (i : ℕ) → spare n B i ≡ true → added n B (suc i) ≡ added n B i
  unfolding stack
  added_out i e = rw e (append-nil (added n B i))

  pub added-length : (m : ℕ) → length (added n B m) ≡ 8 * kept n B m
  unfolding stack kept
  added-length zero = refl
  added-length (suc m) = go (spare n B m) refl (added-length m)
    where
      go : (b : Bool) → spare n B m ≡ b → length (added n B m) ≡ 8 * kept n B m → length (added n B (suc m)) ≡ 8 * kept n B (suc m)
      go true e ih = rw (added_out m e, kept_out m e) ih
      go false e ih = rw (added-in m e, kept_in m e, length-append) (omega (arith, ih, record-long m))

  -- all records are kept but those that are spare
  pub kept-shared : is_shared n ≡ true → (m : ℕ) → kept n B m + spare_by B (own_state n) m ≡ m
  unfolding kept spare_by
  kept-shared e zero = refl
  kept-shared e (suc m) = go (spare_at B (own_state n) m) refl (kept-shared e m)
    where
      go : (b : Bool) → spare_at B (own_state n) m ≡ b → kept n B m + spare_by B (own_state n) m ≡ m → kept n B (suc m) + spare_by B (own_state n) (suc m) ≡ suc m
      go true q ih = rw (kept_out m (spare-as m ∙ rw (e, q)), q) (omega (arith, ih))
      go false q ih = rw (kept_in m (spare-as m ∙ rw (e, q)), q) (omega (arith, ih))

  pub kept-alone : is_shared n ≡ false → (m : ℕ) → kept n B m ≡ m
  unfolding kept
  kept-alone e zero = refl
  kept-alone e (suc m) = kept_in m (spare-as m ∙ rw e) ∙ rw (kept-alone e m)

  -- an edge is spare where bytes 4 to 7 have the shared state twice
  twice : (f t o : ℕ) → f < 65536 → o < 65536 → (eqb t o && eqb f o) ≡ eqb (f + 65536 * t) (65537 * o)
  twice f t o l h =
      same_truth (eqb t o && eqb f o) (eqb (f + 65536 * t) (65537 * o))
      (λ e. let w = both (eqb t o) (eqb f o) e in eq-eqb (f + 65536 * t) (65537 * o) (omega (arith, eqb-true t o w.0, eqb-true f o w.1)))
      (λ e. let w = eqb-true (f + 65536 * t) (65537 * o) e in rw (eq-eqb t o (omega (arith, w, l, h)), eq-eqb f o (omega (arith, w, l, h))))

  pub spare-edge : Small 8 B → (i : ℕ) → i < records B → is_edge B i ≡ true → own_state n < states → spare n B i ≡ ((is_shared n) && eqb (num 8 (take 4 (drop (8 * i + 4) B))) (65537 * (own_state n)))
  spare-edge m i h e o =
      spare-as i ∙ rw (e, edge-no-start B i e, tail-as B i h) (ap (λ z. (is_shared n) && z) (twice (from B i) (target B i) (own_state n) (word_lt B m (8 * i + 4)) (omega (arith, o))))

  -- another where it starts the shared state
  pub spare-other : (i : ℕ) → is_edge B i ≡ false → spare n B i ≡ ((is_shared n) && is_start B i && eqb (target B i) (own_state n))
  spare-other i e = spare-as i ∙ rw e (go (is_shared n) (is_start B i) (eqb (target B i) (own_state n)))
    where
      go : (a b c : Bool) → (a && (c && (b || false))) ≡ (a && b && c)
      go false b c = refl
      go true true true = refl
      go true true false = refl
      go true false true = refl
      go true false false = refl

  -- record i, if it is kept, stands behind those kept before it
  pub added-at : (m i : ℕ) → i < m → spare n B i ≡ false → (kept n B i < kept n B m) × ((k : ℕ) → k < 8 → get_or (added n B m) (8 * kept n B i + k) 0 ≡ get_or (renamed_record n B i) k 0)
  added-at zero i h e = absurd (omega arith)
  added-at (suc m) i h e = choose (below_suc i m h) (λ l. go (spare n B m) refl (added-at m i l e)) here
    where
      go : (b : Bool) → spare n B m ≡ b → (kept n B i < kept n B m) × ((k : ℕ) → k < 8 → get_or (added n B m) (8 * kept n B i + k) 0 ≡ get_or (renamed_record n B i) k 0)
          → (kept n B i < kept n B (suc m)) × ((k : ℕ) → k < 8 → get_or (added n B (suc m)) (8 * kept n B i + k) 0 ≡ get_or (renamed_record n B i) k 0)
      go true q ih = rw (added_out m q, kept_out m q) ih
      go false q ih = rw (added-in m q, kept_in m q) (omega (arith, ih.0), λ k l. get_or-append (added n B m) (renamed_record n B m) 0 (8 * kept n B i + k) (omega (arith, added-length m, ih.0)) ∙ ih.1 k l)

      last : (j : ℕ) → j ≡ m → spare n B j ≡ false → (kept n B j < kept n B (suc m)) × ((k : ℕ) → k < 8 → get_or (added n B (suc m)) (8 * kept n B j + k) 0 ≡ get_or (renamed_record n B j) k 0)
      last j q f =
          rw q (rw (added-in m (rw q at f), kept_in m (rw q at f)) (
            omega arith,
            λ k l. rw (← added-length m) (get_or-append-add (added n B m) (renamed_record n B m) k 0),
          ))

      here : i ≡ m → (kept n B i < kept n B (suc m)) × ((k : ℕ) → k < 8 → get_or (added n B (suc m)) (8 * kept n B i + k) 0 ≡ get_or (renamed_record n B i) k 0)
      here q = last i q e

  -- and at each place one of them stands
  pub added-from : (m j : ℕ) → j < kept n B m → (i : ℕ) × (i < m) × (spare n B i ≡ false) × (kept n B i ≡ j)
  unfolding kept
  added-from zero j h = absurd (omega arith)
  added-from (suc m) j h = go (spare n B m) refl (added-from m j)
    where
      Found : Type 0
      Found = (i : ℕ) × (i < suc m) × (spare n B i ≡ false) × (kept n B i ≡ j)

      more : (i : ℕ) × (i < m) × (spare n B i ≡ false) × (kept n B i ≡ j) → Found
      more w = (w.0, omega (arith, w.1), w.2, w.3)

      go : (b : Bool) → spare n B m ≡ b → (j < kept n B m → (i : ℕ) × (i < m) × (spare n B i ≡ false) × (kept n B i ≡ j)) → Found
      go true q ih = more (ih (rw (kept_out m q) at h))
      go false q ih =
          choose (below_suc j (kept n B m) (rw (kept_in m q) at h))
          (λ l. more (ih l))
          (λ e. (m, omega arith, q, sym e))
