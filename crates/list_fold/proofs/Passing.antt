-- The folded list passes 1 to 3. Assumes nothing.
use Prim.Native.Nat.{ℕ, zero, suc, ◌*◌, ◌%◌, ◌≤◌, ◌<◌}
use mathlib.Core.Path.{◌≡◌, refl, sym, ◌∙◌}
use mathlib.Core.Bool.{true, false, not, true≢false}
use mathlib.Core.List.{List}
use mathlib.Core.Logic.{◌⊎◌, inl, inr}
use native.Mathlib.Omega.{arith}
use lib.ListN.{length}
use borrow.Author.Tests.{eqb-true, not-false}
use Rattle.rules.specs.Scan.{some}
use Rattle.rules.proofs.Scanning.{choose, some-elim}
use Rattle.rules.proofs.Rules.{passes, skip, last}
use Rattle.list.specs.List.{record_size, most_records, records, byte_of, record_with, is_edge, is_start, is_accept, from, target, good_record, bad_length, bad_record, no_start, list_refusal}
use Rattle.list.specs.Automaton.{names_from}
use Rattle.list.proofs.Listed.{not_so, kinds, short-list, bad-length, bad-record, no-start, good-edge, good-start, good-accept, edge-good, start-good, accept-good, from_bytes}
use Rattle.list.proofs.Steps.{good-at, start-exactly, start-states}
use Rattle.list_fold.specs.Fold.{counted, new_from, new_record, stays, folded_by, Folds}
use Rattle.list_fold.proofs.Folding.{NewRecord, new-byte, new-edge, new-start, new-accept, new-from, new-target, folded-length, folded-records, folded-most, folded-new, folded_from, new-low, edge-names, start-names, accept-names, chief-stays}

module _ (c : ℕ → ℕ) (L : List ℕ) (a : list_refusal L ≡ 0) (f : Folds c L) where
  abbrev J : List ℕ
  J = folded_by c L

  start-from : (i : ℕ) → i < records L → is_start L i ≡ true → new_from c L i ≡ 0
  start-from i h k =
      let g = (start-good L i).0 (sym (good-start L i k) ∙ good-at L a i h) in
      let e : from L i ≡ 0 = from_bytes L i ∙ rw (g.1 4 (omega arith) (omega arith), g.1 5 (omega arith) (omega arith)) in
      let n : names_from L i ≡ false = rw (eqb-true (byte_of L i 0) 2 k) in
      rw n e

  module _ (i : ℕ) (h : i < records L) (p : ℕ) (r : NewRecord c J p L i) where
    new-good : good_record J p ≡ true
    unfolding new_record record_with
    new-good = choose (kinds L i (good-at L a i h)) edges (λ s. choose s starts accepts)
      where
        nb : (k : ℕ) → k < 4 → byte_of J p k ≡ byte_of L i k
        nb = new-byte c J p L i r

        edges : is_edge L i ≡ true → good_record J p ≡ true
        edges k =
            let g = (edge-good L i).0 (sym (good-edge L i k) ∙ good-at L a i h) in
            let q = new-edge c J p L i r ∙ k in
            let e = edge-names c L a f i k in
            let x = new-target c J p L i r (rw e.1 (omega (arith, g.4, new-low c L a f (target L i)))) in
            let y = new-from c J p L i r (rw e.0 (omega (arith, g.3, new-low c L a f (from L i)))) in
            good-edge J p q ∙ (edge-good J p).1 (q, rw (nb 1 (omega arith), nb 2 (omega arith)) g.1, rw (nb 3 (omega arith)) g.2, rw (y ∙ e.0) (omega (arith, g.3, new-low c L a f (from L i))), rw (x ∙ e.1) (omega (arith, g.4, new-low c L a f (target L i))))

        zeros : is_start L i ≡ true → ((x : ℕ) → 1 ≤ x → x ≤ 5 → byte_of L i x ≡ 0) → (x : ℕ) → 1 ≤ x → x ≤ 5 → byte_of J p x ≡ 0
        zeros k z zero l m = absurd (omega arith)
        zeros k z (suc zero) l m = nb 1 (omega arith) ∙ z 1 (omega arith) (omega arith)
        zeros k z (suc (suc zero)) l m = nb 2 (omega arith) ∙ z 2 (omega arith) (omega arith)
        zeros k z (suc (suc (suc zero))) l m = nb 3 (omega arith) ∙ z 3 (omega arith) (omega arith)
        zeros k z (suc (suc (suc (suc zero)))) l m = r 4 (omega arith) ∙ rw (start-from i h k)
        zeros k z (suc (suc (suc (suc (suc zero))))) l m = r 5 (omega arith) ∙ rw (start-from i h k)
        zeros k z (suc (suc (suc (suc (suc (suc x)))))) l m = absurd (omega arith)

        starts : is_start L i ≡ true → good_record J p ≡ true
        starts k =
            let g = (start-good L i).0 (sym (good-start L i k) ∙ good-at L a i h) in
            let q = new-start c J p L i r ∙ k in
            let e = start-names c L a f i k in
            let x = new-target c J p L i r (rw e (omega (arith, g.2, new-low c L a f (target L i)))) in
            good-start J p q ∙ (start-good J p).1 (q, zeros k g.1, rw (x ∙ e) (omega (arith, g.2, new-low c L a f (target L i))))

        accepts : is_accept L i ≡ true → good_record J p ≡ true
        accepts k =
            let g = (accept-good L i).0 (sym (good-accept L i k) ∙ good-at L a i h) in
            let q = new-accept c J p L i r ∙ k in
            let e = accept-names c L a f i k in
            let x = new-target c J p L i r (rw e.1 (omega (arith, g.3))) in
            let y = new-from c J p L i r (rw e.0 (omega (arith, g.2, new-low c L a f (from L i)))) in
            good-accept J p q ∙ (accept-good J p).1 (q, λ z l m. nb z (omega arith) ∙ g.1 z l m, rw (y ∙ e.0) (omega (arith, g.2, new-low c L a f (from L i))), rw (x ∙ e.1) g.3)

  pub folded-passes : list_refusal J ≡ 0
  unfolding no_start
  folded-passes =
      skip 1 _ (not_so (bad_length J) (λ d. length-good ((bad-length J).0 d)))
      ∙ skip 2 _ (not_so (bad_record J) (λ d. let w = (bad-record J).0 d in true≢false (sym (good w.0 w.1) ∙ w.2)))
      ∙ last 3 (not_so (not (some (records J) (is_start J))) (λ d. let s = begins in true≢false (sym s.2 ∙ (no-start J).0 d s.0 s.1)))
    where
      start-L : (i : ℕ) × (i < records L) × (is_start L i ≡ true)
      start-L =
          let r1 = passes 0 (bad_length L) _ a in
          let r2 = passes 1 (bad_record L) _ r1.1 in
          let r3 = passes 2 (no_start L) _ r2.1 in
          some-elim (records L) (is_start L) (not-false (some (records L) (is_start L)) r3.0)

      begins : (i : ℕ) × (i < records J) × (is_start J i ≡ true)
      begins =
          let s = start-L in
          let t = target L s.0 in
          let h = (start-exactly L t).1 (start-states L a s.0 s.1 s.2, (s.0, s.1, s.2, refl)) in
          let w = ((start-exactly L (c t)).0 (sym (f.starts t) ∙ h)).1 in
          let v = folded-new c L w.0 w.1 (chief-stays c L a f w.0 t w.3) in
          (counted (stays c L) w.0, v.0, new-start c J (counted (stays c L) w.0) L w.0 v.1 ∙ w.2)

      good : (p : ℕ) → p < records J → good_record J p ≡ true
      good p h = let v = folded_from c L p h in new-good v.0 v.1 p v.3

      length-good : ((length J ≡ 0) ⊎ (record_size * most_records < length J)) ⊎ (length J % record_size ≡ 0 → ⊥) → ⊥
      length-good (inl (inl z)) = let s = begins in omega (arith, s.1, z)
      length-good (inl (inr z)) = omega (arith, folded-length c L, folded-records c L, folded-most c L, short-list L a, z)
      length-good (inr z) = z (omega (arith, folded-length c L))
