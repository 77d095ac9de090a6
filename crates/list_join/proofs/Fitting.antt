-- The list check passes the joined list exactly when each state that is added is one, and the records are not too many. Assumes nothing.
use Prim.Native.Nat.{ℕ, zero, suc, ◌+◌, ◌*◌, ◌%◌, ◌≤◌, ◌<◌}
use mathlib.Core.Path.{◌≡◌, refl, sym, ◌∙◌}
use mathlib.Core.Bool.{Bool, true, false, ◌&&◌, ◌||◌, not, true≢false}
use mathlib.Core.List.{List}
use mathlib.Core.Logic.{◌⊎◌, inl, inr, ◌↔◌}
use native.Mathlib.Omega.{arith}
use lib.ListN.{length}
use lib.Dec.{eqb, ltb, leb}
use borrow.Author.Tests.{eqb-true, eq-eqb, ltb-true, lt-ltb, leb-true, le-leb, not-false}
use Rattle.sets.specs.Set.{states}
use Rattle.rules.specs.Scan.{every, some}
use Rattle.rules.proofs.Scanning.{both, choose, every-at, every-all, some-elim}
use Rattle.rules.proofs.Rules.{passes, skip, last}
use Rattle.list.specs.List.{record_size, most_records, records, byte_of, record_with, is_edge, is_start, is_accept, from, target, good_record, bad_length, bad_record, no_start, list_refusal}
use Rattle.list.specs.Automaton.{names_from}
use Rattle.list.proofs.Listed.{same_truth, not_so, kinds, whole-records, bad-length, bad-record, no-start, good-edge, good-start, good-accept, edge-good, start-good, accept-good, from_bytes}
use Rattle.list.proofs.Steps.{good-at}
use Rattle.list_join.specs.inner.Found.{fits}
use Rattle.list_join.specs.Join.{naming, new_from, new_target, renamed_record, spare, kept, joined}
use Rattle.list_join.proofs.Fields.{SameRecord, NewRecord, new-byte, new-edge, new-start, new-accept, new-from, new-target, joined_length, joined-records, joined-old, joined-new, joined-from}
use Rattle.list_join.proofs.Union.{small, old-edge, old-start, old-accept, old-from, old-target, edge-B, start-B, accept-B, edge-names, start-names, accept-names}

same_good : (J : List ℕ) (j : ℕ) (L : List ℕ) (i : ℕ) → SameRecord J j L i → good_record L i ≡ true → good_record J j ≡ true
same_good J j L i r e =
    choose (kinds L i e) edges (λ s. choose s starts accepts)
  where
    edges : is_edge L i ≡ true → good_record J j ≡ true
    edges k =
        let g = (edge-good L i).0 (sym (good-edge L i k) ∙ e) in
        let q = old-edge J j L i r ∙ k in
        good-edge J j q ∙ (edge-good J j).1 (q, rw (r 1 (omega arith), r 2 (omega arith)) g.1, rw (r 3 (omega arith)) g.2, rw (old-from J j L i r) g.3, rw (old-target J j L i r) g.4)

    starts : is_start L i ≡ true → good_record J j ≡ true
    starts k =
        let g = (start-good L i).0 (sym (good-start L i k) ∙ e) in
        let q = old-start J j L i r ∙ k in
        good-start J j q ∙ (start-good J j).1 (q, λ x l m. r x (omega arith) ∙ g.1 x l m, rw (old-target J j L i r) g.2)

    accepts : is_accept L i ≡ true → good_record J j ≡ true
    accepts k =
        let g = (accept-good L i).0 (sym (good-accept L i k) ∙ e) in
        let q = old-accept J j L i r ∙ k in
        good-accept J j q ∙ (accept-good J j).1 (q, λ x l m. r x (omega arith) ∙ g.1 x l m, rw (old-from J j L i r) g.2, rw (old-target J j L i r) g.3)

module _ (A B : List ℕ) (a : list_refusal A ≡ 0) (b : list_refusal B ≡ 0) where
  abbrev J : List ℕ
  J = joined A B

  w8 : length A % 8 ≡ 0
  w8 = whole-records A a

  -- a start record leaves no state: its bytes 4 and 5 are zero
  pub start-from : (i : ℕ) → i < records B → is_start B i ≡ true → new_from (naming A B) B i ≡ 0
  start-from i h k =
      let g = (start-good B i).0 (sym (good-start B i k) ∙ good-at B b i h) in
      let e : from B i ≡ 0 = from_bytes B i ∙ rw (g.1 4 (omega arith) (omega arith), g.1 5 (omega arith) (omega arith)) in
      let f : names_from B i ≡ false = rw (eqb-true (byte_of B i 0) 2 k) in
      rw f e

  -- the numbers of a renamed record are written in two bytes each
  in_two : (i : ℕ) → i < records B → (new_from (naming A B) B i < 65536) × (new_target (naming A B) B i < 65536)
  in_two i h =
      choose (kinds B i (good-at B b i h))
      (λ k. let l = edge-B A B a b i h k in let e = edge-names A B a b i k in (rw e.0 (small A B a b (from B i) l.0), rw e.1 (small A B a b (target B i) l.1)))
      (λ s.
      choose s
      (λ k. (rw (start-from i h k) (omega arith), rw (start-names A B a b i k) (small A B a b (target B i) (start-B A B a b i h k))))
      (λ k. let l = accept-B A B a b i h k in let e = accept-names A B a b i k in (rw e.0 (small A B a b (from B i) l.0), rw e.1 (omega (arith, l.1)))))

  -- where it is a good one, its states are states
  module _ (i : ℕ) (h : i < records B) (p : ℕ) (r : NewRecord J p (naming A B) B i) where
    f-is : from J p ≡ new_from (naming A B) B i
    f-is = new-from J p (naming A B) B i r (in_two i h).0

    t-is : target J p ≡ new_target (naming A B) B i
    t-is = new-target J p (naming A B) B i r (in_two i h).1

    good-fits : good_record J p ≡ true → (new_from (naming A B) B i < states) × (new_target (naming A B) B i < states)
    good-fits e =
        choose (kinds B i (good-at B b i h))
        (λ k. let q = new-edge J p (naming A B) B i r ∙ k in let g = (edge-good J p).0 (sym (good-edge J p q) ∙ e) in (rw (← f-is) g.3, rw (← t-is) g.4))
        (λ s.
        choose s
        (λ k. let q = new-start J p (naming A B) B i r ∙ k in let g = (start-good J p).0 (sym (good-start J p q) ∙ e) in (rw (start-from i h k) (omega arith), rw (← t-is) g.2))
        (λ k. let q = new-accept J p (naming A B) B i r ∙ k in let g = (accept-good J p).0 (sym (good-accept J p q) ∙ e) in (rw (← f-is) g.2, rw (← t-is) (omega (arith, g.3)))))

    fits-good : new_from (naming A B) B i < states → new_target (naming A B) B i < states → good_record J p ≡ true
    unfolding renamed_record record_with
    fits-good fl tl = choose (kinds B i (good-at B b i h)) edges (λ s. choose s starts accepts)
      where
        nb : (k : ℕ) → k < 4 → byte_of J p k ≡ byte_of B i k
        nb = new-byte J p (naming A B) B i r

        edges : is_edge B i ≡ true → good_record J p ≡ true
        edges k =
            let g = (edge-good B i).0 (sym (good-edge B i k) ∙ good-at B b i h) in
            let q = new-edge J p (naming A B) B i r ∙ k in
            good-edge J p q ∙ (edge-good J p).1 (q, rw (nb 1 (omega arith), nb 2 (omega arith)) g.1, rw (nb 3 (omega arith)) g.2, rw f-is fl, rw t-is tl)

        zeros : is_start B i ≡ true → ((x : ℕ) → 1 ≤ x → x ≤ 5 → byte_of B i x ≡ 0) → (x : ℕ) → 1 ≤ x → x ≤ 5 → byte_of J p x ≡ 0
        zeros k z zero l m = absurd (omega arith)
        zeros k z (suc zero) l m = nb 1 (omega arith) ∙ z 1 (omega arith) (omega arith)
        zeros k z (suc (suc zero)) l m = nb 2 (omega arith) ∙ z 2 (omega arith) (omega arith)
        zeros k z (suc (suc (suc zero))) l m = nb 3 (omega arith) ∙ z 3 (omega arith) (omega arith)
        zeros k z (suc (suc (suc (suc zero)))) l m = r 4 (omega arith) ∙ rw (start-from i h k)
        zeros k z (suc (suc (suc (suc (suc zero))))) l m = r 5 (omega arith) ∙ rw (start-from i h k)
        zeros k z (suc (suc (suc (suc (suc (suc x)))))) l m = absurd (omega arith)

        starts : is_start B i ≡ true → good_record J p ≡ true
        starts k =
            let g = (start-good B i).0 (sym (good-start B i k) ∙ good-at B b i h) in
            let q = new-start J p (naming A B) B i r ∙ k in
            good-start J p q ∙ (start-good J p).1 (q, zeros k g.1, rw t-is tl)

        accepts : is_accept B i ≡ true → good_record J p ≡ true
        accepts k =
            let g = (accept-good B i).0 (sym (good-accept B i k) ∙ good-at B b i h) in
            let q = new-accept J p (naming A B) B i r ∙ k in
            good-accept J p q
            ∙ (accept-good J p).1 (q, λ x l m. nb x (omega arith) ∙ g.1 x l m, rw f-is fl, rw (t-is ∙ (accept-names A B a b i k).1) g.3)

  -- each record fits in words
  pub fits-exactly : (i : ℕ) → fits (naming A B) B i ≡ true ↔ (spare (naming A B) B i ≡ false → (new_from (naming A B) B i < states) × (new_target (naming A B) B i < states))
  unfolding fits
  fits-exactly i = (there (spare (naming A B) B i) refl, back (spare (naming A B) B i) refl)
    where
      there : (d : Bool) → spare (naming A B) B i ≡ d → (d || ltb (new_from (naming A B) B i) states && ltb (new_target (naming A B) B i) states) ≡ true → d ≡ false → (new_from (naming A B) B i < states) × (new_target (naming A B) B i < states)
      there true q e f = absurd (true≢false f)
      there false q e f = let t = both (ltb (new_from (naming A B) B i) states) (ltb (new_target (naming A B) B i) states) e in (ltb-true _ _ t.0, ltb-true _ _ t.1)

      back : (d : Bool) → spare (naming A B) B i ≡ d → (d ≡ false → (new_from (naming A B) B i < states) × (new_target (naming A B) B i < states)) → (d || ltb (new_from (naming A B) B i) states && ltb (new_target (naming A B) B i) states) ≡ true
      back true q f = refl
      back false q f = rw (lt-ltb _ _ (f refl).0, lt-ltb _ _ (f refl).1)

  long : length J ≡ 8 * (records A + kept (naming A B) B (records B))
  long = joined_length A B w8 ∙ omega (arith, w8)

  passes-fits : list_refusal J ≡ 0 → (every (records B) (fits (naming A B) B) ≡ true) × (records A + kept (naming A B) B (records B) ≤ most_records)
  passes-fits e = (every-all (records B) (fits (naming A B) B) one, count)
    where
      one : (i : ℕ) → i < records B → fits (naming A B) B i ≡ true
      one i h = (fits-exactly i).1 (λ s. let p = joined-new A B w8 i h s in good-fits i h _ p.1 (good-at J e _ p.0))

      short : (8 * most_records < length J) → ⊥
      short l = true≢false (sym ((bad-length J).1 (inl (inr l))) ∙ (passes 0 (bad_length J) _ e).0)

      count : records A + kept (naming A B) B (records B) ≤ most_records
      count = omega (arith, long, short)

  fits-passes : every (records B) (fits (naming A B) B) ≡ true → records A + kept (naming A B) B (records B) ≤ most_records → list_refusal J ≡ 0
  unfolding no_start
  fits-passes f l =
      skip 1 _ (not_so (bad_length J) (λ d. length-good ((bad-length J).0 d)))
      ∙ skip 2 _ (not_so (bad_record J) (λ d. let w = (bad-record J).0 d in true≢false (sym (good w.0 w.1) ∙ w.2)))
      ∙ last 3 (not_so (not (some (records J) (is_start J))) (λ d. let s = begins in true≢false (sym s.2 ∙ (no-start J).0 d s.0 s.1)))
    where
      start-A : (i : ℕ) × (i < records A) × (is_start A i ≡ true)
      start-A =
          let r1 = passes 0 (bad_length A) _ a in
          let r2 = passes 1 (bad_record A) _ r1.1 in
          let r3 = passes 2 (no_start A) _ r2.1 in
          some-elim (records A) (is_start A) (not-false (some (records A) (is_start A)) r3.0)

      begins : (i : ℕ) × (i < records J) × (is_start J i ≡ true)
      begins = let s = start-A in (s.0, rw (joined-records A B w8) (omega (arith, s.1)), old-start J s.0 A s.0 (joined-old A B w8 s.0 s.1) ∙ s.2)

      good : (p : ℕ) → p < records J → good_record J p ≡ true
      good p h =
          choose (joined-from A B w8 p h)
          (λ m. same_good J p A p (joined-old A B w8 p m) (good-at A a p m))
          (λ v.
          let q = joined-new A B w8 v.0 v.1 v.2 in
          let z = (fits-exactly v.0).0 (every-at (records B) (fits (naming A B) B) f v.0 v.1) v.2 in
          rw v.3 (fits-good v.0 v.1 _ q.1 z.0 z.1))

      length-good : ((length J ≡ 0) ⊎ (record_size * most_records < length J)) ⊎ (length J % record_size ≡ 0 → ⊥) → ⊥
      length-good (inl (inl z)) = let s = start-A in omega (arith, long, s.1, z)
      length-good (inl (inr z)) = omega (arith, long, l, z)
      length-good (inr z) = z (omega (arith, long))

  -- the test that the code makes
  pub joined-passes : eqb (list_refusal J) 0 ≡ (every (records B) (fits (naming A B) B) && leb (records A + kept (naming A B) B (records B)) most_records)
  joined-passes =
      same_truth (eqb (list_refusal J) 0) (every (records B) (fits (naming A B) B) && leb (records A + kept (naming A B) B (records B)) most_records)
      (λ e. let t = passes-fits (eqb-true _ _ e) in rw (t.0, le-leb _ _ t.1))
      (λ e. let t = both (every (records B) (fits (naming A B) B)) (leb (records A + kept (naming A B) B (records B)) most_records) e in eq-eqb _ _ (fits-passes t.0 (leb-true _ _ t.1)))
