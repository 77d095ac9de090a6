-- Bytes of one class step alike from every set, and a class is as coarse as the list permits; class numbers have no gaps. Assumes nothing.
use Prim.Native.Nat.{ℕ, zero, suc, ◌+◌, ◌^◌, ◌≤◌, ◌<◌}
use mathlib.Core.Path.{◌≡◌, refl, sym, ap, ◌∙◌}
use mathlib.Core.Bool.{Bool, true, false, cond, true≢false}
use mathlib.Core.List.{List}
use native.Mathlib.Omega.{arith}
use native.Mathlib.Decide.{dec_lt, ℕ_discrete}
use lib.Dec.{eqb}
use borrow.Author.Tests.{eqb-true, eq-eqb}
use Rattle.sets.specs.Set.{states, holds}
use Rattle.sets.proofs.Sets.{holds-pow, set-ext}
use Rattle.rules.specs.Scan.{some, first}
use Rattle.list.specs.List.{records, from, list_refusal}
use Rattle.list.specs.Automaton.{step}
use Rattle.rules.proofs.Scanning.{some-intro, none-some, every-at, every-all, first_found}
use Rattle.list.proofs.Listed.{good-edge, edge-good}
use Rattle.list.specs.Words.{Takes}
use Rattle.list.proofs.Listed.{same_truth}
use Rattle.list.proofs.Steps.{step-checked, good-at}
use Rattle.table.specs.Table.{byte_values}
use Rattle.table_classes.specs.Classes.{alike, count, lowest_like, leads, class_of, lowest_of}

-- ---- alike is as good as equal

alike_at : (L : List ℕ) (c d : ℕ) → alike L c d ≡ true → (s : ℕ) → s < states → step L (2 ^ s) c ≡ step L (2 ^ s) d
unfolding alike
alike_at L c d e s h = eqb-true (step L (2 ^ s) c) (step L (2 ^ s) d) (every-at states (λ u. eqb (step L (2 ^ u) c) (step L (2 ^ u) d)) e s h)

pub at-alike : (L : List ℕ) (c d : ℕ) → ((s : ℕ) → s < states → step L (2 ^ s) c ≡ step L (2 ^ s) d) → alike L c d ≡ true
unfolding alike
at-alike L c d h = every-all states (λ u. eqb (step L (2 ^ u) c) (step L (2 ^ u) d)) (λ s l. eq-eqb _ _ (h s l))

pub alike_refl : (L : List ℕ) (c : ℕ) → alike L c c ≡ true
alike_refl L c = at-alike L c c (λ s h. refl)

pub alike-sym : (L : List ℕ) (a b : ℕ) → alike L a b ≡ true → alike L b a ≡ true
alike-sym L a b p = at-alike L b a (λ s h. sym (alike_at L a b p s h))

pub alike-trans : (L : List ℕ) (a b c : ℕ) → alike L a b ≡ true → alike L b c ≡ true → alike L a c ≡ true
alike-trans L a b c p q = at-alike L a c (λ s h. alike_at L a b p s h ∙ alike_at L b c q s h)

-- ---- bytes on which every state steps alike, every set does

module _ (L : List ℕ) (good : list_refusal L ≡ 0) where
  carry : (F c d : ℕ) → alike L c d ≡ true → (t : ℕ) → holds (step L F c) t ≡ true → holds (step L F d) t ≡ true
  carry F c d e t h =
      let r = (step-checked L good F c t).0 h in
      let s = from L r.0 in
      let l : s < states = source r.0 r.1 r.2 in
      let a : holds (step L (2 ^ s) c) t ≡ true = (step-checked L good (2 ^ s) c t).1 (r.0, r.1, r.2, holds-pow s s ∙ eq-eqb s s refl, r.4) in
      let b : holds (step L (2 ^ s) d) t ≡ true = ap (λ (x : ℕ). holds x t) (sym (alike_at L c d e s l)) ∙ a in
      let q = (step-checked L good (2 ^ s) d t).0 b in
      let z : from L q.0 ≡ s = eqb-true (from L q.0) s (sym (holds-pow s (from L q.0)) ∙ q.3) in
      (step-checked L good F d t).1 (q.0, q.1, q.2, rw z r.3, q.4)
    where
      source : (i : ℕ) → i < records L → Takes L c i → from L i < states
      source i h k = ((edge-good L i).0 (sym (good-edge L i k.kind) ∙ good-at L good i h)).3

  pub alike-step : (c d F : ℕ) → alike L c d ≡ true → step L F c ≡ step L F d
  alike-step c d F e =
      set-ext (step L F c) (step L F d)
      (λ t. same_truth (holds (step L F c) t) (holds (step L F d) t) (carry F c d e t) (carry F d c (alike-sym L c d e) t))

-- ---- counting

count-more : (p : ℕ → Bool) (n m : ℕ) → n ≤ m → count p n ≤ count p m
unfolding count
count-more p n zero h = let e : n ≡ 0 = omega arith in rw e (omega arith)
count-more p n (suc m) h =
    elim (dec_lt n (suc m)) [ yes l ↦ (let r : count p n ≤ count p m = count-more p n m (omega arith) in omega arith) | no g ↦ (let e : n ≡ suc m = omega arith in rw e (omega arith)) ]

pub count-one : (p : ℕ → Bool) (n m : ℕ) → n < m → p n ≡ true → count p n < count p m
unfolding count
count-one p n m h e =
    let a : count p (suc n) ≤ count p m = count-more p (suc n) m h in
    let b : count p (suc n) ≡ count p n + 1 = rw e in
    omega arith

-- no two that pass have one number
count-inj : (p : ℕ → Bool) (n m : ℕ) → p n ≡ true → p m ≡ true → count p n ≡ count p m → n ≡ m
count-inj p n m a b e =
    elim (dec_lt n m) [
      | yes l ↦ (let r : count p n < count p m = count-one p n m l a in absurd (omega arith))
      | no g ↦ elim (dec_lt m n) [ yes l ↦ (let r : count p m < count p n = count-one p m n l b in absurd (omega arith)) | no k ↦ omega arith ]
    ]

-- each number below the count is that of one that passes
count-hit : (p : ℕ → Bool) (n q : ℕ) → q < count p n → (m : ℕ) × (m < n) × (p m ≡ true) × (count p m ≡ q)
unfolding count
count-hit p zero q h = absurd (omega arith)
count-hit p (suc n) q h = elim (dec_lt q (count p n)) [ yes l ↦ (let r = count-hit p n q l in (r.0, omega (arith, r.1), r.2, r.3)) | no g ↦ top (p n) refl g h ]
  where
    top : (b : Bool) → p n ≡ b → (q < count p n → ⊥) → q < count p n + cond b 1 0 → (m : ℕ) × (m < suc n) × (p m ≡ true) × (count p m ≡ q)
    top true e g k = (n, omega arith, e, omega arith)
    top false e g k = absurd (omega arith)

pub count-upto : (p : ℕ → Bool) (n : ℕ) → count p n ≤ n
unfolding count
count-upto p zero = omega arith
count-upto p (suc n) = go (p n) (count-upto p n)
  where
    go : (b : Bool) → count p n ≤ n → count p n + cond b 1 0 ≤ suc n
    go true l = omega arith
    go false l = omega arith

pub count-lead : (p : ℕ → Bool) (n : ℕ) → p n ≡ true → count p (n + 1) ≡ count p n + 1
unfolding count
count-lead p n e = rw (native.Mathlib.Numerals.add-one n, e)

pub count-pass : (p : ℕ → Bool) (n : ℕ) → p n ≡ false → count p (n + 1) ≡ count p n
unfolding count
count-pass p n e = rw (native.Mathlib.Numerals.add-one n, e) (omega arith)

-- ---- the lowest byte of a class

pub lowest-like : (L : List ℕ) (c : ℕ) → c < byte_values → (lowest_like L c < byte_values) × (alike L (lowest_like L c) c ≡ true)
unfolding lowest_like
lowest-like L c h =
    let w = first_found byte_values (λ d. alike L d c) (some-intro byte_values (λ d. alike L d c) c h (alike_refl L c)) in (w.0, w.1)

-- none below it is alike
lowest-least : (L : List ℕ) (c d : ℕ) → c < byte_values → d < lowest_like L c → alike L d c ≡ true → ⊥
unfolding lowest_like
lowest-least L c d h l e =
    let w = first_found byte_values (λ x. alike L x c) (some-intro byte_values (λ x. alike L x c) c h (alike_refl L c)) in
    true≢false (sym e ∙ none-some (first byte_values (λ x. alike L x c)) (λ x. alike L x c) w.2 d l)

pub lowest-upto : (L : List ℕ) (c : ℕ) → c < byte_values → lowest_like L c ≤ c
lowest-upto L c h = elim (dec_lt c (lowest_like L c)) [ yes l ↦ absurd (lowest-least L c c h l (alike_refl L c)) | no g ↦ omega arith ]

-- a class's lowest byte is its own lowest
pub lowest-leads : (L : List ℕ) (c : ℕ) → c < byte_values → leads L (lowest_like L c) ≡ true
lowest-leads L c h =
    let m = lowest_like L c in
    let r = lowest-like L c h in
    let s = lowest-like L m r.0 in
    eq-eqb (lowest_like L m) m
    (elim (dec_lt (lowest_like L m) m) [
      | yes l ↦ absurd (lowest-least L c (lowest_like L m) h l (alike-trans L (lowest_like L m) m c s.1 r.1))
      | no g ↦ (let u : lowest_like L m ≤ m = lowest-upto L m r.0 in omega arith)
    ])

-- ---- class numbers

-- bytes of one class are alike
pub class-alike : (L : List ℕ) (c d : ℕ) → c < byte_values → d < byte_values → class_of L c ≡ class_of L d → alike L c d ≡ true
unfolding class_of
class-alike L c d hc hd e =
    let q : lowest_like L c ≡ lowest_like L d = count-inj (leads L) (lowest_like L c) (lowest_like L d) (lowest-leads L c hc) (lowest-leads L d hd) e in
    alike-trans L c (lowest_like L c) d (alike-sym L (lowest_like L c) c (lowest-like L c hc).1) (rw q (lowest-like L d hd).1)

pub first-same : (n : ℕ) (p q : ℕ → Bool) → ((i : ℕ) → i < n → p i ≡ q i) → first n p ≡ first n q
unfolding first some
first-same zero p q h = refl
first-same (suc n) p q h = rw (some-like n p q (λ i l. h i (omega arith)), h n (omega arith), first-same n p q (λ i l. h i (omega arith)))
  where
    some-like : (n : ℕ) (p q : ℕ → Bool) → ((i : ℕ) → i < n → p i ≡ q i) → some n p ≡ some n q
    some-like zero p q h = refl
    some-like (suc n) p q h = rw (some-like n p q (λ i l. h i (omega arith)), h n (omega arith))

-- and alike bytes are of one class: classes are as coarse as the list permits
pub alike-class : (L : List ℕ) (c d : ℕ) → alike L c d ≡ true → class_of L c ≡ class_of L d
unfolding class_of lowest_like
alike-class L c d e =
    ap (count (leads L))
    (first-same byte_values (λ x. alike L x c) (λ x. alike L x d)
    (λ j h. same_truth (alike L j c) (alike L j d) (λ t. alike-trans L j c d t e) (λ t. alike-trans L j d c t (alike-sym L c d e))))

-- a byte that leads, and one that does not
pub class-lead : (L : List ℕ) (c : ℕ) → leads L c ≡ true → class_of L c ≡ count (leads L) c
unfolding class_of
class-lead L c e = ap (count (leads L)) (eqb-true (lowest_like L c) c e)

pub class_low : (L : List ℕ) (c : ℕ) → c < byte_values → class_of L (lowest_like L c) ≡ class_of L c
class_low L c h = alike-class L (lowest_like L c) c (lowest-like L c h).1

-- and the lowest byte of c's class steps like c, from every set
pub lowest_step : (L : List ℕ) → list_refusal L ≡ 0 → (F c : ℕ) → c < byte_values → step L F (lowest_of L (class_of L c)) ≡ step L F c
unfolding lowest_of
lowest_step L good F c h =
    let p : ℕ → Bool = λ d. eqb (class_of L d) (class_of L c) in
    let w = first_found byte_values p (some-intro byte_values p c h (eq-eqb (class_of L c) (class_of L c) refl)) in
    alike-step L good (first byte_values p) c F (class-alike L (first byte_values p) c w.0 h (eqb-true (class_of L (first byte_values p)) (class_of L c) w.1))

-- ---- no gaps: each number below the total is a class

pub class-hit : (L : List ℕ) (c q : ℕ) → c < byte_values → q ≤ class_of L c → some byte_values (λ d. eqb (class_of L d) q) ≡ true
unfolding class_of
class-hit L c q h l = elim (ℕ_discrete q (class_of L c)) [ yes e ↦ here c h (sym e) | no n ↦ below n ]
  where
    here : (d : ℕ) → d < byte_values → class_of L d ≡ q → some byte_values (λ d. eqb (class_of L d) q) ≡ true
    here d k e = some-intro byte_values (λ d. eqb (class_of L d) q) d k (eq-eqb (class_of L d) q e)

    below : (q ≡ class_of L c → ⊥) → some byte_values (λ d. eqb (class_of L d) q) ≡ true
    below n =
        let r = count-hit (leads L) (lowest_like L c) q (omega arith) in
        here r.0 (omega (arith, r.1, (lowest-like L c h).0)) (class-lead L r.0 r.2 ∙ r.3)
