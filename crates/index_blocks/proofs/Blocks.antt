-- The first byte met, and the hull of the bytes that leave. Assumes nothing.
use Rattle.std.proofs.Common.{◌≡◌, ℕ, zero, suc, ◌+◌, ◌-◌, ◌%◌, ◌<◌, ◌≤◌, Bool, true, false, cond, not, ◌||◌, eqb, ltb, ◌⊎◌, List, sym, refl, ap, ◌∙◌, inl, inr, arith, ltb-false, ltb-true, eqb-true, leb-false}
use Prim.Native.Nat.{min}
use mathlib.Core.Bool.{false≢true}
use Rattle.rules.proofs.Scanning.{below_suc, choose}
use Rattle.index_blocks.specs.inner.Ranges.{block_size, none, inside, hot, least, met}
use Rattle.index_blocks.specs.Block.{word_at}

-- ---- least

pub least-min : (x y r : ℕ) → r ≡ min x y → r ≡ least x y
least-min x y r h = go (ltb x y) refl
  where
    go : (b : Bool) → ltb x y ≡ b → r ≡ cond b x y
    go true e = omega (arith, h, ltb-true x y e)
    go false e = omega (arith, h, ltb-false x y e)

pub least-left : (x y : ℕ) → least x y ≤ x
least-left x y = go (ltb x y) refl
  where
    go : (b : Bool) → ltb x y ≡ b → cond b x y ≤ x
    go true e = omega arith
    go false e = ltb-false x y e

pub least-right : (x y : ℕ) → least x y ≤ y
least-right x y = go (ltb x y) refl
  where
    go : (b : Bool) → ltb x y ≡ b → cond b x y ≤ y
    go true e = let h = ltb-true x y e in omega arith
    go false e = omega arith

-- ---- the first that is met

pub met-more : (p : ℕ → Bool) (n f r : ℕ) → f ≡ met n p → r ≡ least f (cond (p n) n none) → r ≡ met (n + 1) p
unfolding met
met-more p n f r e h =
    let s : suc n ≡ n + 1 = omega arith in
    h ∙ ap (λ (x : ℕ). least x (cond (p n) n none)) e ∙ ap (λ (m : ℕ). met m p) s

-- in words: of no number before it does p hold
pub met-before : (p : ℕ → Bool) (n : ℕ) → n ≤ none → (j : ℕ) → j < n → j < met n p → p j ≡ false
unfolding met
met-before p zero l j lj h = absurd (omega (arith, lj))
met-before p (suc n) l j lj h =
    choose (below_suc j n lj)
    (λ a. met-before p n (omega arith) j a (omega (arith, least-left (met n p) (cond (p n) n none), h)))
    (λ e. last (p n) refl e)
  where
    last : (b : Bool) → p n ≡ b → j ≡ n → p j ≡ false
    last false pn e = ap p e ∙ pn
    last true pn e =
        let a : least (met n p) (cond (p n) n none) ≤ n = rw pn (least-right (met n p) n) in
        absurd (omega (arith, a, h, e))

-- and where it is a number below n, of it p does
pub met_at : (p : ℕ → Bool) (n : ℕ) → n ≤ none → (met n p ≡ none) ⊎ ((met n p < n) × (p (met n p) ≡ true))
unfolding met
met_at p zero l = inl refl
met_at p (suc n) l = go (p n) refl (ltb (met n p) (cond (p n) n none)) refl (met_at p n (omega arith))
  where
    go : (b : Bool) → p n ≡ b → (t : Bool) → ltb (met n p) (cond (p n) n none) ≡ t → (met n p ≡ none) ⊎ ((met n p < n) × (p (met n p) ≡ true))
        → (cond t (met n p) (cond (p n) n none) ≡ none) ⊎ ((cond t (met n p) (cond (p n) n none) < suc n) × (p (cond t (met n p) (cond (p n) n none)) ≡ true))
    go b pn true lt (inl e) = inl e
    go b pn true lt (inr (q, r)) = inr (omega (arith, q), r)
    go true pn false lt m = rw pn (inr (omega arith, pn))
    go false pn false lt m = rw pn (inl refl)

-- a block in which none is met: every byte of it lies outside
pub none-met : (p : ℕ → Bool) (n : ℕ) → n ≤ none → met n p ≡ none → (j : ℕ) → j < n → p j ≡ false
none-met p n l e j lj = met-before p n l j lj (omega (arith, e))

-- ---- the hull

abbrev pub Covered : List ℕ → ℕ → ℕ → ℕ → ℕ → ℕ → Type 0
Covered X p w low high c = (word_at X p c ≡ w) ⊎ ((low ≤ c) × (c ≤ high))

pub hull-more : (X : List ℕ) (p w from i low high low' high' z : ℕ)
    → low' ≡ least low (cond (not (eqb (word_at X p i) w)) i none) → high ≤ high' → z ≡ cond (not (eqb (word_at X p i) w)) i 0 → z ≤ high'
    → ((c : ℕ) → from ≤ c → c < i → Covered X p w low high c) → (c : ℕ) → from ≤ c → c < i + 1 → Covered X p w low' high' c
hull-more X p w from i low high low' high' z e h ez k old c f l =
    choose (below_suc c i (omega (arith, l))) (λ a. wider (old c f a)) (λ q. rw q (last (eqb (word_at X p i) w) refl))
  where
    wider : Covered X p w low high c → Covered X p w low' high' c
    wider (inl a) = inl a
    wider (inr (a, b)) = inr (omega (arith, e, a, least-left low (cond (not (eqb (word_at X p i) w)) i none)), omega (arith, b, h))

    last : (b : Bool) → eqb (word_at X p i) w ≡ b → Covered X p w low' high' i
    last true s = inl (eqb-true (word_at X p i) w s)
    last false s =
        let a : low' ≤ i = rw (e, s) (least-right low i) in
        let b : i ≤ high' = rw (ez, s) at k in
        inr (a, b)

-- ---- ranges of two hulls

pub outside : (low more c : ℕ) → low < 256 → c < 256 → inside low more c ≡ false → low ≤ c → c ≤ low + more → ⊥
outside low more c l k e a b =
    let h : more < (c + (256 - low)) % 256 = leb-false ((c + (256 - low)) % 256) more e in
    omega (arith, h, a, b, l, k)

pub or_left : (a b : Bool) → a || b ≡ false → a ≡ false
or_left false b e = refl
or_left true b e = absurd (false≢true (sym e))

pub or_right : (a b : Bool) → a || b ≡ false → b ≡ false
or_right false b e = e
or_right true b e = absurd (false≢true (sym e))

pub ranges-cover : (X : List ℕ) (p w a m a' b n b' : ℕ) → a < 256 → b < 256
    → ((c : ℕ) → 0 ≤ c → c < 64 → Covered X p w a a' c) → ((c : ℕ) → a ≤ c → c ≤ a' → c ≤ a + m)
    → ((c : ℕ) → 64 ≤ c → c < 256 → Covered X p w b b' c) → ((c : ℕ) → b ≤ c → c ≤ b' → c ≤ b + n)
    → (c : ℕ) → c < 256 → hot a m b n c ≡ false → word_at X p c ≡ w
ranges-cover X p w a m a' b n b' la lb lo ma hi mb c l e = choose (below_or c 64) (λ h. low (lo c (omega arith) h)) (λ h. high (hi c h l))
  where
    below_or : (i k : ℕ) → (i < k) ⊎ (k ≤ i)
    below_or i k = go (ltb i k) refl
      where
        go : (t : Bool) → ltb i k ≡ t → (i < k) ⊎ (k ≤ i)
        go true q = inl (ltb-true i k q)
        go false q = inr (ltb-false i k q)

    low : Covered X p w a a' c → word_at X p c ≡ w
    low (inl q) = q
    low (inr (q, r)) = absurd (outside a m c la l (or_left (inside a m c) (inside b n c) e) q (ma c q r))

    high : Covered X p w b b' c → word_at X p c ≡ w
    high (inl q) = q
    high (inr (q, r)) = absurd (outside b n c lb l (or_right (inside a m c) (inside b n c) e) q (mb c q r))

-- ---- what a block shows

pub block-hit : (p : ℕ → Bool) (f : ℕ) → f ≡ met block_size p → (f ≡ none → ⊥) → (f < block_size) × ((j : ℕ) → j < f → p j ≡ false)
block-hit p f e n = go (met_at p block_size (omega arith))
  where
    go : (met block_size p ≡ none) ⊎ ((met block_size p < block_size) × (p (met block_size p) ≡ true)) → (f < block_size) × ((j : ℕ) → j < f → p j ≡ false)
    go (inl a) = absurd (n (e ∙ a))
    go (inr (a, b)) = (omega (arith, a, e), λ j l. met-before p block_size (omega arith) j (omega (arith, l, a, e)) (omega (arith, l, e)))

pub block-clear : (p : ℕ → Bool) (f : ℕ) → f ≡ met block_size p → f ≡ none → (j : ℕ) → j < block_size → p j ≡ false
block-clear p f e n = none-met p block_size (omega arith) (sym e ∙ n)
