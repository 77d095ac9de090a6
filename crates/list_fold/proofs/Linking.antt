-- The edges to one state, linked; two pasts followed side by side. Assumes nothing.
use Prim.Native.Nat.{ℕ, zero, suc, ◌+◌, ◌-◌, ◌*◌, ◌≤◌, ◌<◌}
use mathlib.Core.Path.{◌≡◌, refl, sym, ap, ap₂, ◌∙◌}
use mathlib.Core.Bool.{Bool, true, false, ◌&&◌, true≢false}
use mathlib.Core.List.{List, [], ◌∷◌, ◌++◌}
use native.Mathlib.Omega.{arith}
use native.Mathlib.Decide.{dec_lt, ℕ_discrete}
use lib.ListN.{length, get_or, set, length-set, replicate, get_or-replicate, length-replicate}
use lib.Seq.{get_or-set_same, get_or-set_other, ext_get_or}
use lib.Dec.{leb, ltb}
use borrow.Author.Tests.{eq-eqb, le-leb, lt-leb, leb-true, ltb-true, lt-ltb}
use Rattle.sets.specs.Set.{states}
use Rattle.rules.specs.Scan.{some, first, stack}
use Rattle.rules.proofs.Scanning.{and-false, first-none, first_found, first-at, some-none, none-some}
use Rattle.rules.proofs.Scanning as scan
use Rattle.list.specs.List.{most_records, records, is_edge, target}
use Rattle.list_fold.specs.inner.Known.{seek, Linked}
use Rattle.list_fold.specs.Fold.{counted, picked, same, into, mark, past}
use Rattle.list_fold.proofs.Picks.{picked-in, picked-out, picked-length, picked-at}
use Rattle.list.proofs.Listed.{not_so}
use Rattle.list_fold.proofs.Chiefs.{same_true, first-le, into-is, is-into, mark-long}

-- ---- the first

first-before : (n : ℕ) (p : ℕ → Bool) (j : ℕ) → j < first n p → p j ≡ false
first-before n p j h = go (some n p) refl
  where
    go : (b : Bool) → some n p ≡ b → p j ≡ false
    go true e = none-some (first n p) p (first_found n p e).2 j h
    go false e = none-some n p e j (omega (arith, first-none n p e))

first_holds : (n : ℕ) (p : ℕ → Bool) → first n p < n → p (first n p) ≡ true
first_holds n p h = go (some n p) refl
  where
    go : (b : Bool) → some n p ≡ b → p (first n p) ≡ true
    go true e = (first_found n p e).1
    go false e = absurd (omega (arith, first-none n p e))

first-is : (n : ℕ) (p : ℕ → Bool) (x : ℕ) → x ≤ n → (x < n → p x ≡ true) → ((j : ℕ) → j < x → p j ≡ false) → first n p ≡ x
first-is n p x l h b =
    elim (dec_lt x n) [
      | yes k ↦ first-at n p x k (some-none x p b) (h k)
      | no g ↦ let e : n ≡ x = omega arith in first-none n p (some-none n p (λ j k. b j (omega arith))) ∙ e
    ]

-- ---- seeking

module _ (L : List ℕ) (s : ℕ) where
  test : ℕ → ℕ → Bool
  test i k = leb i k && into L s k

  pub seek-le : (i : ℕ) → seek L s i ≤ records L
  unfolding seek
  seek-le i = first-le (records L) (λ k. leb i k && into L s k)

  seek-both : (i : ℕ) → seek L s i < records L → (i ≤ seek L s i) × (into L s (seek L s i) ≡ true)
  unfolding seek
  seek-both i h = let t = scan.both (leb i (seek L s i)) (into L s (seek L s i)) (first_holds (records L) (λ k. leb i k && into L s k) h) in (leb-true _ _ t.0, t.1)

  pub seek-at : (i : ℕ) → seek L s i < records L → into L s (seek L s i) ≡ true
  seek-at i h = (seek-both i h).1

  -- none between
  pub seek-free : (i k : ℕ) → i ≤ k → k < seek L s i → into L s k ≡ false
  unfolding seek
  seek-free i k l h = let e : leb i k ≡ true = le-leb i k l in rw e at (first-before (records L) (λ k. leb i k && into L s k) k h)

  pub seek-from : (i : ℕ) → i ≤ records L → i ≤ seek L s i
  seek-from i l =
      elim (dec_lt (seek L s i) (records L)) [
        | yes h ↦ (seek-both i h).0
        | no g ↦ omega arith
      ]

  seek_is : (i x : ℕ) → x ≤ records L → i ≤ x → (x < records L → into L s x ≡ true) → ((k : ℕ) → i ≤ k → k < x → into L s k ≡ false) → seek L s i ≡ x
  unfolding seek
  seek_is i x l m h b = first-is (records L) (λ k. leb i k && into L s k) x l (λ k. rw (le-leb i x m) (h k)) (λ j k. elim (dec_lt j i) [ yes q ↦ rw (lt-leb i j q) | no g ↦ rw (b j (omega arith) k) (and-false (leb i j)) ])

  pub seek-in : (i : ℕ) → i < records L → into L s i ≡ true → seek L s i ≡ i
  seek-in i h e = seek_is i i (omega arith) (omega arith) (λ k. e) (λ k l m. absurd (omega arith))

  pub seek-out : (i : ℕ) → i < records L → into L s i ≡ false → seek L s i ≡ seek L s (suc i)
  seek-out i h e = seek_is i (seek L s (suc i)) (seek-le (suc i)) (omega (arith, seek-from (suc i) h)) (seek-at (suc i)) free
    where
      free : (k : ℕ) → i ≤ k → k < seek L s (suc i) → into L s k ≡ false
      free k l m = elim (dec_lt i k) [ yes q ↦ seek-free (suc i) k q m | no g ↦ (let q : k ≡ i = omega arith in rw q e) ]

  pub seek-end : seek L s (records L) ≡ records L
  seek-end = seek_is (records L) (records L) (omega arith) (omega arith) (λ k. absurd (omega arith)) (λ k l m. absurd (omega arith))

-- ---- linking

not-into : (L : List ℕ) (s i : ℕ) → is_edge L i ≡ false → into L s i ≡ false
unfolding into
not-into L s i e = rw e

other-into : (L : List ℕ) (s i : ℕ) → (target L i ≡ s → ⊥) → into L s i ≡ false
other-into L s i n = not_so (into L s i) (λ e. n (into-is L s i e).1)

module _ (L H N : List ℕ) (i : ℕ) (h : i < records L) (k : Linked L H N (suc i)) where
  -- a record that leads to no state stays as it is
  skipped : ((s : ℕ) → s < states → into L s i ≡ false) → ((is_edge L i ≡ true) → target L i < states → ⊥) → Linked L H N i
  skipped o n = record { few = k.few; heads = λ s l. k.heads s l ∙ sym (seek-out L s i h (o s l)); nexts = nexts; long-heads = k.long-heads; long-nexts = k.long-nexts }
    where
      nexts : (j : ℕ) → i ≤ j → j < records L → is_edge L j ≡ true → target L j < states → get_or N j 0 ≡ seek L (target L j) (suc j)
      nexts j a b e t = elim (dec_lt i j) [ yes q ↦ k.nexts j q b e t | no g ↦ absurd (n (let q : j ≡ i = omega arith in rw q at e) (let q : j ≡ i = omega arith in rw q at t)) ]

  pub link-other : is_edge L i ≡ false → Linked L H N i
  link-other e = skipped (λ s l. not-into L s i e) (λ t l. true≢false (sym t ∙ e))

  pub link-far : states ≤ target L i → Linked L H N i
  link-far f = skipped (λ s l. other-into L s i (λ e. omega (arith, e, l, f))) (λ t l. omega (arith, l, f))

  pub link-in : (x : ℕ) → x ≡ get_or H (target L i) 0 → is_edge L i ≡ true → target L i < states → Linked L (set H (target L i) i) (set N i x) i
  link-in x q e t = record { few = k.few; heads = heads; nexts = nexts; long-heads = length-set H (target L i) i ∙ k.long-heads; long-nexts = length-set N i x ∙ k.long-nexts }
    where
      heads : (s : ℕ) → s < states → get_or (set H (target L i) i) s 0 ≡ seek L s i
      heads s l =
          elim (ℕ_discrete s (target L i)) [
            | yes z ↦ rw z (get_or-set_same H (target L i) i 0 (omega (arith, k.long-heads)) ∙ sym (seek-in L (target L i) i h (is-into L (target L i) i e refl)))
            | no g ↦ get_or-set_other H (target L i) s i 0 g ∙ k.heads s l ∙ sym (seek-out L s i h (other-into L s i (λ z. g (sym z))))
          ]

      here : (j : ℕ) → j ≡ i → get_or (set N i x) j 0 ≡ seek L (target L j) (suc j)
      here j z = rw z (get_or-set_same N i x 0 (omega (arith, k.few, k.long-nexts)) ∙ q ∙ k.heads (target L i) t)

      nexts : (j : ℕ) → i ≤ j → j < records L → is_edge L j ≡ true → target L j < states → get_or (set N i x) j 0 ≡ seek L (target L j) (suc j)
      nexts j a b f u =
          elim (ℕ_discrete j i) [
            | yes z ↦ here j z
            | no g ↦ get_or-set_other N i j x 0 g ∙ k.nexts j (omega (arith, g, a)) b f u
          ]

pub link-none : (L H N : List ℕ) → records L ≤ most_records → H ≡ replicate states (records L) → length N ≡ most_records → Linked L H N (records L)
link-none L H N f e l =
    record {
      few = f;
      heads = λ s k. ap (λ (x : List ℕ). get_or x s 0) e ∙ get_or-replicate states s (records L) 0 k ∙ sym (seek-end L s);
      nexts = λ j a b. absurd (omega arith);
      long-heads = ap length e ∙ length-replicate states (records L);
      long-nexts = l;
    }

-- ---- pasts side by side

pub same_self : (a : List ℕ) → same a a ≡ true
unfolding same
same_self [] = refl
same_self (x ∷ a) = rw (eq-eqb x x refl) (same_self a)

pub same_not : (a b : List ℕ) → (a ≡ b → ⊥) → same a b ≡ false
same_not a b n = not_so (same a b) (λ e. n (same_true a b e))

skip_by : (p : ℕ → Bool) (f : ℕ → List ℕ) (i d : ℕ) → ((k : ℕ) → i ≤ k → k < d + i → p k ≡ false) → picked p f (d + i) ≡ picked p f i
skip_by p f i zero h = let e : zero + i ≡ i = omega arith in ap (picked p f) e
skip_by p f i (suc d) h =
    let e : suc d + i ≡ suc (d + i) = omega arith in
    ap (picked p f) e ∙ picked-out p f (d + i) (h (d + i) (omega arith) (omega arith)) ∙ skip_by p f i d (λ k l m. h k l (omega arith))

skip : (p : ℕ → Bool) (f : ℕ → List ℕ) (i j : ℕ) → i ≤ j → ((k : ℕ) → i ≤ k → k < j → p k ≡ false) → picked p f j ≡ picked p f i
skip p f i j l h = let e : (j - i) + i ≡ j = omega arith in ap (picked p f) (sym e) ∙ skip_by p f i (j - i) (λ k a b. h k a (omega arith))

-- i and j are at edges to s and to r, or at the end, and the marks before them are the same
pub record Walks (m L : List ℕ) (s r i j : ℕ) : Type 0 where
  pub low-i : i ≤ records L
  pub low-j : j ≤ records L
  pub at_i : i < records L → into L s i ≡ true
  pub at_j : j < records L → into L r j ≡ true
  pub fronts : picked (into L s) (mark m L) i ≡ picked (into L r) (mark m L) j

module _ (m L : List ℕ) where
  -- to the next edge
  sought : (s i : ℕ) → i ≤ records L → picked (into L s) (mark m L) (seek L s i) ≡ picked (into L s) (mark m L) i
  sought s i l = skip (into L s) (mark m L) i (seek L s i) (seek-from L s i l) (seek-free L s i)

  more : (s i : ℕ) → i < records L → into L s i ≡ true → picked (into L s) (mark m L) (seek L s (suc i)) ≡ picked (into L s) (mark m L) i ++ mark m L i
  more s i h e = sought s (suc i) h ∙ picked-in (into L s) (mark m L) i e

  pub walk_start : (s r : ℕ) → Walks m L s r (seek L s 0) (seek L r 0)
  unfolding stack
  walk_start s r = record { low-i = seek-le L s 0; low-j = seek-le L r 0; at_i = seek-at L s 0; at_j = seek-at L r 0; fronts = sought s 0 (omega arith) ∙ sym (sought r 0 (omega arith)) }

  module _ (s r i j : ℕ) (w : Walks m L s r i j) where
    pub walk_more : i < records L → j < records L → same (mark m L i) (mark m L j) ≡ true → Walks m L s r (seek L s (suc i)) (seek L r (suc j))
    walk_more a b e =
        record {
          low-i = seek-le L s (suc i);
          low-j = seek-le L r (suc j);
          at_i = seek-at L s (suc i);
          at_j = seek-at L r (suc j);
          fronts = more s i a (w.at_i a) ∙ ap₂ (λ (x y : List ℕ). x ++ y) w.fronts (same_true (mark m L i) (mark m L j) e) ∙ sym (more r j b (w.at_j b));
        }

    long : (t k : ℕ) → length (picked (into L t) (mark m L) k) ≡ 4 * counted (into L t) k
    long t k = picked-length (into L t) (mark m L) 4 (mark-long m L) k

    counts : counted (into L s) i ≡ counted (into L r) j
    counts = omega (arith, long s i, long r j, ap length w.fronts)

    pub walk-differ : i < records L → j < records L → same (mark m L i) (mark m L j) ≡ false → same (past m L s) (past m L r) ≡ false
    walk-differ a b e = same_not (past m L s) (past m L r) (λ q. true≢false (sym (rw (marks q) (same_self (mark m L j))) ∙ e))
      where
        marks : past m L s ≡ past m L r → mark m L i ≡ mark m L j
        marks q =
            let x = picked-at (into L s) (mark m L) 4 (mark-long m L) (records L) i a (w.at_i a) in
            let y = picked-at (into L r) (mark m L) 4 (mark-long m L) (records L) j b (w.at_j b) in
            ext_get_or 0 (mark m L i) (mark m L j) (mark-long m L i ∙ sym (mark-long m L j))
            (λ k l. let l4 : k < 4 = omega (arith, mark-long m L i, l) in sym (x.1 k l4) ∙ ap₂ (λ (u : List ℕ) (v : ℕ). get_or u (4 * v + k) 0) q counts ∙ y.1 k l4)

    pub walk_end : (i < records L → j < records L → ⊥) → (leb (records L) i && leb (records L) j) ≡ same (past m L s) (past m L r)
    walk_end n =
        elim (dec_lt i (records L)) [
          | yes a ↦ elim (dec_lt j (records L)) [ yes b ↦ absurd (n a b) | no g ↦ rw (lt-leb (records L) i a) (sym (same_not (past m L s) (past m L r) (λ q. shorter a (omega (arith, w.low-j)) q))) ]
          | no f ↦ elim (dec_lt j (records L)) [
            | yes b ↦ rw (lt-leb (records L) j b) (and-false (leb (records L) i) ∙ sym (same_not (past m L s) (past m L r) (λ q. longer b (omega (arith, w.low-i)) q)))
            | no g ↦ ended (omega (arith, w.low-i)) (omega (arith, w.low-j))
          ]
        ]
      where
        shorter : i < records L → j ≡ records L → past m L s ≡ past m L r → ⊥
        shorter a e q = omega (arith, (picked-at (into L s) (mark m L) 4 (mark-long m L) (records L) i a (w.at_i a)).0, long s (records L), long r (records L), ap length q, counts, ap (counted (into L r)) e)

        longer : j < records L → i ≡ records L → past m L s ≡ past m L r → ⊥
        longer b e q = omega (arith, (picked-at (into L r) (mark m L) 4 (mark-long m L) (records L) j b (w.at_j b)).0, long s (records L), long r (records L), ap length q, counts, ap (counted (into L s)) e)

        ended : i ≡ records L → j ≡ records L → (leb (records L) i && leb (records L) j) ≡ same (past m L s) (past m L r)
        ended e f =
            let q : past m L s ≡ past m L r = ap (picked (into L s) (mark m L)) (sym e) ∙ w.fronts ∙ ap (picked (into L r) (mark m L)) f in
            rw (le-leb (records L) i (omega arith), le-leb (records L) j (omega arith)) (sym (rw q (same_self (past m L r))))

-- what the code reads
pub next-is : (L H N : List ℕ) → Linked L H N 0 → (s i : ℕ) → s < states → i < records L → into L s i ≡ true → get_or N i 0 ≡ seek L s (suc i)
next-is L H N k s i l h e = let w = into-is L s i e in rw w.1 at (k.nexts i (omega arith) h w.0 (rw w.1 l))

pub two-low : (i j n : ℕ) → (ltb i n && ltb j n) ≡ true → (i < n) × (j < n)
two-low i j n e = let t = scan.both (ltb i n) (ltb j n) e in (ltb-true _ _ t.0, ltb-true _ _ t.1)

pub two-not : (i j n : ℕ) → (ltb i n && ltb j n) ≡ false → i < n → j < n → ⊥
two-not i j n e a b = true≢false (sym (rw (lt-ltb i n a, lt-ltb j n b)) ∙ e)
