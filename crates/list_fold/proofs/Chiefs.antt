-- The chiefs that the code finds are a good choice. Assumes nothing.
use Prim.Native.Nat.{ℕ, zero, suc, ◌+◌, ◌*◌, ◌≤◌, ◌<◌}
use mathlib.Core.Path.{◌≡◌, refl, sym, ap, ap₂, ◌∙◌}
use mathlib.Core.Bool.{Bool, true, false, false≢true}
use mathlib.Core.List.{List, [], ◌∷◌, ◌++◌}
use mathlib.Core.Logic.{◌⊎◌, inl, inr}
use native.Mathlib.Omega.{arith}
use native.Mathlib.Decide.{dec_lt}
use lib.ListN.{length, get_or, length-append, get_or-append}
use lib.Seq.{get_or-append-add}
use lib.Dec.{eqb}
use borrow.Author.Tests.{eqb-true, eq-eqb}
use Rattle.sets.specs.Set.{holds}
use Rattle.rules.specs.Scan.{some, first}
use Rattle.rules.proofs.Scanning.{choose, first-none, first_found}
use Rattle.rules.proofs.Scanning as scan
use Rattle.list.specs.List.{records, byte_of, is_edge, from, target}
use Rattle.list.specs.Automaton.{start, highest}
use Rattle.list_fold.specs.Fold.{counted, same, chief, into, mark, past, agree, alike, follows, chiefs, chief_of, Carries, Folds}
use Rattle.list_fold.proofs.Picks.{picked-length, picked-at, picked-from}

-- ---- tests

pub same_true : (a b : List ℕ) → same a b ≡ true → a ≡ b
unfolding same
same_true [] [] e = refl
same_true [] (y ∷ b) e = absurd (false≢true e)
same_true (x ∷ a) [] e = absurd (false≢true e)
same_true (x ∷ a) (y ∷ b) e = let t = scan.both (eqb x y) (same a b) e in ap₂ (λ (n : ℕ) (l : List ℕ). n ∷ l) (eqb-true x y t.0) (same_true a b t.1)

pub agree-true : (a b : Bool) → agree a b ≡ true → a ≡ b
agree-true true true e = refl
agree-true true false e = absurd (false≢true e)
agree-true false true e = absurd (false≢true e)
agree-true false false e = refl

pub first-le : (n : ℕ) (p : ℕ → Bool) → first n p ≤ n
first-le n p = go (some n p) refl
  where
    go : (b : Bool) → some n p ≡ b → first n p ≤ n
    go true e = omega (arith, (first_found n p e).0)
    go false e = omega (arith, first-none n p e)

-- ---- pasts

pub into-is : (L : List ℕ) (s i : ℕ) → into L s i ≡ true → (is_edge L i ≡ true) × (target L i ≡ s)
unfolding into
into-is L s i e = let t = scan.both (is_edge L i) (eqb (target L i) s) e in (t.0, eqb-true _ _ t.1)

pub is-into : (L : List ℕ) (s i : ℕ) → is_edge L i ≡ true → target L i ≡ s → into L s i ≡ true
unfolding into
is-into L s i k e = rw (k, eq-eqb (target L i) s e)

module _ (m L : List ℕ) where
  pub mark-long : (i : ℕ) → length (mark m L i) ≡ 4
  unfolding mark
  mark-long i = refl

  -- where two pasts are the same, each edge to s has one to r with its mark
  pub partner : (s r : ℕ) → past m L s ≡ past m L r → (i : ℕ) → i < records L → into L s i ≡ true
      → (j : ℕ) × (j < records L) × (into L r j ≡ true) × ((k : ℕ) → k < 4 → get_or (mark m L j) k 0 ≡ get_or (mark m L i) k 0)
  partner s r e i h t =
      let a = picked-at (into L s) (mark m L) 4 mark-long (records L) i h t in
      let n : counted (into L s) (records L) ≡ counted (into L r) (records L) = omega (arith, picked-length (into L s) (mark m L) 4 mark-long (records L), picked-length (into L r) (mark m L) 4 mark-long (records L), ap length e) in
      let w = picked-from (into L r) (mark m L) 4 mark-long (records L) (counted (into L s) i) (rw n at a.0) in
      let b = picked-at (into L r) (mark m L) 4 mark-long (records L) w.0 w.1 w.2 in
      (w.0, w.1, w.2, λ k l. sym (b.1 k l) ∙ ap₂ (λ (x : List ℕ) (y : ℕ). get_or x (4 * y + k) 0) (sym e) w.3 ∙ a.1 k l)

-- ---- the chiefs of the first n states

module _ (L : List ℕ) where
  pub chiefs-length : (n : ℕ) → length (chiefs L n) ≡ n
  unfolding chiefs
  chiefs-length zero = refl
  chiefs-length (suc n) = length-append (chiefs L n) (first n (follows (chiefs L n) L n) ∷ []) ∙ omega (arith, chiefs-length n)

  past_end : (xs : List ℕ) (i d : ℕ) → length xs ≤ i → get_or xs i d ≡ d
  past_end [] i d h = refl
  past_end (x ∷ xs) zero d h = absurd (omega arith)
  past_end (x ∷ xs) (suc i) d h = past_end xs i d (omega arith)

  -- a state that is not among them is its own chief
  pub chief-past : (n s : ℕ) → n ≤ s → chief (chiefs L n) s ≡ s
  chief-past n s h = past_end (chiefs L n) s s (omega (arith, chiefs-length n))

  pub chief-at : (n s : ℕ) → s < n → chief (chiefs L n) s ≡ first s (follows (chiefs L s) L s)
  unfolding chiefs
  chief-at zero s h = absurd (omega arith)
  chief-at (suc n) s h = choose (scan.below_suc s n h) (λ l. early l (chief-at n s l)) (λ e. last s e)
    where
      early : s < n → chief (chiefs L n) s ≡ first s (follows (chiefs L s) L s) → chief (chiefs L (suc n)) s ≡ first s (follows (chiefs L s) L s)
      early l ih = get_or-append (chiefs L n) (first n (follows (chiefs L n) L n) ∷ []) s s (omega (arith, chiefs-length n)) ∙ ih

      last : (t : ℕ) → t ≡ n → chief (chiefs L (suc n)) t ≡ first t (follows (chiefs L t) L t)
      last t e =
          rw e (ap (λ (x : ℕ). get_or (chiefs L n ++ (first n (follows (chiefs L n) L n) ∷ [])) x n) (omega (arith, chiefs-length n)) ∙ get_or-append-add (chiefs L n) (first n (follows (chiefs L n) L n) ∷ []) 0 n)

  -- more states leave them as they are
  pub chief-more : (k n s : ℕ) → k ≤ n → s < k → chief (chiefs L k) s ≡ chief (chiefs L n) s
  chief-more k n s l h = chief-at k s h ∙ sym (chief-at n s (omega arith))

  module _ (n : ℕ) where
    abbrev c : ℕ → ℕ
    c s = chief (chiefs L n) s

    pub chief-low : (s : ℕ) → c s ≤ s
    chief-low s =
        elim (dec_lt s n) [
          | yes l ↦ rw (chief-at n s l) (first-le s (follows (chiefs L s) L s))
          | no g ↦ rw (chief-past n s (omega arith)) (omega arith)
        ]

    -- a state is its own chief, or joined a lower one
    abbrev Joined : ℕ → Type 0
    Joined s = (c s ≡ s) ⊎ ((s < n) × (c (c s) ≡ c s) × (alike (chiefs L (suc s)) L s (c s) ≡ true))

    joined : (s : ℕ) → Joined s
    unfolding follows chiefs
    joined s = elim (dec_lt s n) [ yes l ↦ go l (some s (follows (chiefs L s) L s)) refl | no g ↦ inl (chief-past n s (omega arith)) ]
      where
        go : s < n → (b : Bool) → some s (follows (chiefs L s) L s) ≡ b → Joined s
        go l false e = inl (chief-at n s l ∙ first-none s (follows (chiefs L s) L s) e)
        go l true e =
            let w = first_found s (follows (chiefs L s) L s) e in
            let q = chief-at n s l in
            let t = scan.both _ _ w.1 in
            let o = eqb-true _ _ t.0 in
            inr (l, rw q (sym (chief-more s n (first s (follows (chiefs L s) L s)) (omega arith) w.0) ∙ o), rw q t.1)

    pub chief-own : (s : ℕ) → c (c s) ≡ c s
    chief-own s = choose (joined s) (λ e. ap c e) (λ w. w.1)

    -- those of fewer states have the same chief
    chief-through : (k p : ℕ) → k ≤ n → c (chief (chiefs L k) p) ≡ c p
    chief-through k p h =
        elim (dec_lt p k) [
          | yes l ↦ ap c (chief-more k n p h l) ∙ chief-own p
          | no g ↦ ap c (chief-past k p (omega arith))
        ]

    itself : (i : ℕ) → i < records L → is_edge L i ≡ true → Carries c L i i
    itself i h k = record { within = h; kind = k; bytes = λ x l m. refl; source = refl }

    -- a mark that is the same is carried
    carried : (k i j : ℕ) → k ≤ n → j < records L → is_edge L j ≡ true → ((x : ℕ) → x < 4 → get_or (mark (chiefs L k) L j) x 0 ≡ get_or (mark (chiefs L k) L i) x 0) → Carries c L i j
    unfolding mark
    carried k i j h l e q = record { within = l; kind = e; bytes = bytes; source = sym (chief-through k (from L j) h) ∙ ap c (q 3 (omega arith)) ∙ chief-through k (from L i) h }
      where
        bytes : (x : ℕ) → 1 ≤ x → x ≤ 3 → byte_of L j x ≡ byte_of L i x
        bytes zero a b = absurd (omega arith)
        bytes (suc zero) a b = q 0 (omega arith)
        bytes (suc (suc zero)) a b = q 1 (omega arith)
        bytes (suc (suc (suc zero))) a b = q 2 (omega arith)
        bytes (suc (suc (suc (suc x)))) a b = absurd (omega arith)

    alike-past : (s : ℕ) → alike (chiefs L (suc s)) L s (c s) ≡ true → (holds (start L) s ≡ holds (start L) (c s)) × (past (chiefs L (suc s)) L s ≡ past (chiefs L (suc s)) L (c s))
    unfolding alike
    alike-past s e = let t = scan.both _ _ e in (agree-true _ _ t.0, same_true _ _ t.1)

    pub chiefs-fold : Folds c L
    chiefs-fold = record { own = chief-own; low = chief-low; starts = starts; up = up; down = down }
      where
        starts : (s : ℕ) → holds (start L) s ≡ holds (start L) (c s)
        starts s = choose (joined s) (λ e. ap (holds (start L)) (sym e)) (λ w. (alike-past s w.2).0)

        over : (s r : ℕ) → s < n → past (chiefs L (suc s)) L r ≡ past (chiefs L (suc s)) L s → (i : ℕ) → i < records L → is_edge L i ≡ true → target L i ≡ r → (j : ℕ) × Carries c L i j × (target L j ≡ s)
        over s r l e i h k t = let w = partner (chiefs L (suc s)) L r s e i h (is-into L r i k t) in let q = into-is L s w.0 w.2 in (w.0, carried (suc s) i w.0 l w.1 q.0 w.3, q.1)

        under : (s r : ℕ) → s < n → past (chiefs L (suc s)) L s ≡ past (chiefs L (suc s)) L r → (i : ℕ) → i < records L → is_edge L i ≡ true → target L i ≡ s → (j : ℕ) × Carries c L i j × (target L j ≡ r)
        under s r l e i h k t = let w = partner (chiefs L (suc s)) L s r e i h (is-into L s i k t) in let q = into-is L r w.0 w.2 in (w.0, carried (suc s) i w.0 l w.1 q.0 w.3, q.1)

        up : (i : ℕ) → i < records L → is_edge L i ≡ true → (j : ℕ) × Carries c L i j × (target L j ≡ c (target L i))
        up i h k = choose (joined (target L i)) (λ e. (i, itself i h k, sym e)) (λ w. under (target L i) (c (target L i)) w.0 (alike-past (target L i) w.2).1 i h k refl)

        down : (s j : ℕ) → j < records L → is_edge L j ≡ true → target L j ≡ c s → (i : ℕ) × Carries c L j i × (target L i ≡ s)
        down s j h k t = choose (joined s) (λ e. (j, itself j h k, t ∙ e)) (λ w. over s (c s) w.0 (sym (alike-past s w.2).1) j h k t)

  -- so they fold the list
  pub folds : Folds (chief_of L) L
  folds = chiefs-fold (suc (highest L))
