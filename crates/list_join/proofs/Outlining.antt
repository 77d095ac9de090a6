-- What the walk over a list finds, by the rule that refuses it or by none. Assumes nothing.
use Prim.Native.Nat.{ℕ, ◌*◌, ◌%◌, ◌≤◌, ◌<◌}
use mathlib.Core.Path.{◌≡◌, sym, ap, ◌∙◌}
use mathlib.Core.Bool.{true, false, ◌||◌, not}
use mathlib.Core.List.{List}
use native.Mathlib.Omega.{arith}
use lib.ListN.{length}
use lib.Dec.{eqb, ltb}
use borrow.Author.Tests.{ltb-false}
use Rattle.rules.specs.Scan.{every}
use Rattle.rules.proofs.Scanning.{neither, every-fails}
use Rattle.rules.proofs.Rules.{skip, stop, last}
use Rattle.list.specs.List.{record_size, most_records, records, good_record, bad_length, bad_record, no_start, list_refusal}
use Rattle.list_join.specs.inner.Found.{Outlines}
use Rattle.list_join.specs.declared.Outline.{Outline}

module _ (L : List ℕ) where
  -- of a list that is refused nothing else is said
  pub refused_as : (r : Outline) (k : ℕ) → list_refusal L ≡ k → r.refusal ≡ k → (k ≡ 0 → ⊥) → Outlines L r
  refused_as r k e q n =
      let z : list_refusal L ≡ 0 → ⊥ = λ p. n (sym e ∙ p) in
      record { refusal = q ∙ sym e; top = λ p. absurd (z p); seen = λ p. absurd (z p) }

  pub by_length : bad_length L ≡ true → list_refusal L ≡ 1
  by_length e = stop 1 _ e

  module _ (l : bad_length L ≡ false) where
    -- it has no more records than a list may have
    pub short-length : records L ≤ most_records
    unfolding bad_length
    short-length =
        let t = neither (eqb (length L) 0 || ltb (record_size * most_records) (length L)) (not (eqb (length L % record_size) 0)) l in
        let u = neither (eqb (length L) 0) (ltb (record_size * most_records) (length L)) t.0 in
        omega (arith, ltb-false (record_size * most_records) (length L) u.1)

    pub by-record : (i : ℕ) → i < records L → good_record L i ≡ false → list_refusal L ≡ 2
    unfolding bad_record
    by-record i h e = skip 1 _ l ∙ stop 2 _ (ap not (every-fails (records L) (good_record L) i h e))

    module _ (g : every (records L) (good_record L) ≡ true) where
      good : bad_record L ≡ false
      unfolding bad_record
      good = ap not g

      pub by-start : no_start L ≡ true → list_refusal L ≡ 3
      by-start e = skip 1 _ l ∙ skip 2 _ good ∙ stop 3 _ e

      pub by-none : no_start L ≡ false → list_refusal L ≡ 0
      by-none e = skip 1 _ l ∙ skip 2 _ good ∙ last 3 e
