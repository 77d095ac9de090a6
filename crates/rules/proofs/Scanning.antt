-- Laws of `some`, `every`, `first`, `rising` and `gather`: each says of numbers what its name says. Assumes nothing.
use Prim.Native.Nat.{ℕ, zero, suc, ◌*◌, ◌%◌, ◌^◌, ◌≤◌, ◌<◌}
use mathlib.Core.Path.{◌≡◌, refl, sym, ap, ◌∙◌}
use mathlib.Core.Bool.{Bool, true, false, ◌&&◌, ◌||◌, cond, not, true≢false, false≢true}
use mathlib.Core.List.{List, [], ◌∷◌}
use mathlib.Core.Logic.{⊎_elim, ◌⊎◌, inl, inr, ◌↔◌}
use native.Mathlib.Omega.{arith}
use native.Mathlib.Decide.{dec_lt}
use lib.ListN.{length, get_or}
use lib.Dec.{leb, ltb, eqb}
use lib.Pow.{pow_pos}
use borrow.Author.Tests.{eqb-true, eqb-false, eq-eqb, ne_eqb, ltb-true, lt-ltb, le-ltb, leb-true, le-leb, not-true}
use Rattle.sets.specs.Set.{holds, insert, join}
use Rattle.sets.proofs.Sets.{or-false, holds-empty, holds-insert, holds-join, insert-lt, set-ext}
use Rattle.rules.specs.Scan.{some, every, first, rising, gather}

-- ---- tests

pub below_suc : (i n : ℕ) → i < suc n → (i < n) ⊎ (i ≡ n)
below_suc i n h = elim (dec_lt i n) [ yes l ↦ inl l | no g ↦ inr (omega arith) ]

-- by cases, the sum first, so that the cases' types are known
pub choose : {A B C : Type 0} → A ⊎ B → (A → C) → (B → C) → C
choose s f g = ⊎_elim f g s

pub or-true : (a : Bool) → (a || true) ≡ true
or-true true = refl
or-true false = refl

pub and-false : (a : Bool) → (a && false) ≡ false
and-false true = refl
and-false false = refl

-- both of two tests, one of two tests, neither of them
pub both : (a b : Bool) → (a && b) ≡ true → (a ≡ true) × (b ≡ true)
both true b e = (refl, e)
both false b e = absurd (false≢true e)

pub or_cases : (a b : Bool) → (a || b) ≡ true → (a ≡ true) ⊎ (b ≡ true)
or_cases true b e = inl refl
or_cases false b e = inr e

pub neither : (a b : Bool) → (a || b) ≡ false → (a ≡ false) × (b ≡ false)
neither true b e = absurd (true≢false e)
neither false b e = (refl, e)

-- ---- tests in words

pub either-words : (A B : Type 0) (a b : Bool) → a ≡ true ↔ A → b ≡ true ↔ B → (a || b) ≡ true ↔ (A ⊎ B)
either-words A B a b f g = (there, back)
  where
    there : (a || b) ≡ true → A ⊎ B
    there e = choose (or_cases a b e) (λ p. inl (f.0 p)) (λ q. inr (g.0 q))

    back : A ⊎ B → (a || b) ≡ true
    back s = choose s (λ x. rw (f.1 x)) (λ y. rw (g.1 y) (or-true a))

pub equal_words : (x y : ℕ) → eqb x y ≡ true ↔ (x ≡ y)
equal_words x y = (eqb-true x y, eq-eqb x y)

pub differ-words : (x y : ℕ) → not (eqb x y) ≡ true ↔ (x ≡ y → ⊥)
differ-words x y = (λ e. eqb-false x y (not-true (eqb x y) e), λ n. ap not (ne_eqb x y n))

pub over-words : (x y : ℕ) → ltb x y ≡ true ↔ (x < y)
over-words x y = (ltb-true x y, lt-ltb x y)

-- a length is 0, over that of the most entries, or no multiple of an entry's
pub length-words : (entry most n : ℕ)
    → (eqb n 0 || ltb (entry * most) n || not (eqb (n % entry) 0)) ≡ true ↔ (((n ≡ 0) ⊎ (entry * most < n)) ⊎ (n % entry ≡ 0 → ⊥))
length-words entry most n =
    either-words ((n ≡ 0) ⊎ (entry * most < n)) (n % entry ≡ 0 → ⊥) (eqb n 0 || ltb (entry * most) n) (not (eqb (n % entry) 0))
    (either-words (n ≡ 0) (entry * most < n) (eqb n 0) (ltb (entry * most) n) (equal_words n 0) (over-words (entry * most) n))
    (differ-words (n % entry) 0)

-- ---- some

pub some-intro : (n : ℕ) (p : ℕ → Bool) (i : ℕ) → i < n → p i ≡ true → some n p ≡ true
unfolding some
some-intro zero p i h e = absurd (omega arith)
some-intro (suc n) p i h e =
    ⊎_elim (λ l. rw (some-intro n p i l e)) (λ q. rw (rw q at e) (or-true (some n p))) (below_suc i n h)

pub some-elim : (n : ℕ) (p : ℕ → Bool) → some n p ≡ true → (i : ℕ) × (i < n) × (p i ≡ true)
unfolding some
some-elim zero p h = absurd (false≢true h)
some-elim (suc n) p h = go (some n p) refl (some-elim n p)
  where
    go : (b : Bool) → some n p ≡ b → (some n p ≡ true → (i : ℕ) × (i < n) × (p i ≡ true)) → (i : ℕ) × (i < suc n) × (p i ≡ true)
    go true e ih = let r = ih e in (r.0, omega (arith, r.1), r.2)
    go false e ih = (n, omega arith, rw e at h)

pub some-none : (n : ℕ) (p : ℕ → Bool) → ((i : ℕ) → i < n → p i ≡ false) → some n p ≡ false
unfolding some
some-none zero p h = refl
some-none (suc n) p h = rw (some-none n p (λ i l. h i (omega arith)), h n (omega arith))

pub none-some : (n : ℕ) (p : ℕ → Bool) → some n p ≡ false → (i : ℕ) → i < n → p i ≡ false
unfolding some
none-some zero p e i h = absurd (omega arith)
none-some (suc n) p e i h =
    let r = neither (some n p) (p n) e in
    ⊎_elim (λ l. none-some n p r.0 i l) (λ q. rw q r.1) (below_suc i n h)

or_swap : (a b c d : Bool) → ((a || b) || (c || d)) ≡ ((a || c) || (b || d))
or_swap true b c d = refl
or_swap false b true d = or-true b
or_swap false b false d = refl

pub some_or : (n : ℕ) (p q r : ℕ → Bool) → ((i : ℕ) → r i ≡ (p i || q i)) → some n r ≡ (some n p || some n q)
unfolding some
some_or zero p q r h = refl
some_or (suc n) p q r h = rw (some_or n p q r h, h n) (or_swap (some n p) (some n q) (p n) (q n))

-- ---- every

pub every-at : (n : ℕ) (p : ℕ → Bool) → every n p ≡ true → (i : ℕ) → i < n → p i ≡ true
unfolding every
every-at zero p e i h = absurd (omega arith)
every-at (suc n) p e i h =
    let r = both (every n p) (p n) e in
    ⊎_elim (λ l. every-at n p r.0 i l) (λ q. rw q r.1) (below_suc i n h)

pub every-all : (n : ℕ) (p : ℕ → Bool) → ((i : ℕ) → i < n → p i ≡ true) → every n p ≡ true
unfolding every
every-all zero p h = refl
every-all (suc n) p h = rw (every-all n p (λ i l. h i (omega arith)), h n (omega arith))

-- one that fails
pub every-fails : (n : ℕ) (p : ℕ → Bool) (i : ℕ) → i < n → p i ≡ false → every n p ≡ false
unfolding every
every-fails zero p i h e = absurd (omega arith)
every-fails (suc n) p i h e =
    ⊎_elim (λ l. rw (every-fails n p i l e)) (λ q. rw (rw q at e) (and-false (every n p))) (below_suc i n h)

every-failed : (n : ℕ) (p : ℕ → Bool) → every n p ≡ false → (i : ℕ) × (i < n) × (p i ≡ false)
unfolding every
every-failed zero p e = absurd (true≢false e)
every-failed (suc n) p e = go (every n p) refl (p n) refl (every-failed n p)
  where
    go : (a : Bool) → every n p ≡ a → (b : Bool) → p n ≡ b → (every n p ≡ false → (i : ℕ) × (i < n) × (p i ≡ false)) → (i : ℕ) × (i < suc n) × (p i ≡ false)
    go false q b r ih = let w = ih q in (w.0, omega (arith, w.1), w.2)
    go true q false r ih = (n, omega arith, r)
    go true q true r ih = absurd (true≢false (sym (rw (q, r)) ∙ e))

-- and fails of more where it fails of fewer
pub every-short : (m n : ℕ) (p : ℕ → Bool) → m ≤ n → every m p ≡ false → every n p ≡ false
every-short m n p l e = let w = every-failed m p e in every-fails n p w.0 (omega (arith, w.1, l)) w.2

-- a rule that refuses where not every one passes refuses exactly when there is one that fails
pub refuses-exactly : (n : ℕ) (p : ℕ → Bool) → not (every n p) ≡ true ↔ ((i : ℕ) × (i < n) × (p i ≡ false))
refuses-exactly n p =
    (λ e. every-failed n p (not-true (every n p) e), λ w. ap not (every-fails n p w.0 w.1 w.2))

pub every-same : (n : ℕ) (p q : ℕ → Bool) → ((i : ℕ) → i < n → p i ≡ q i) → every n p ≡ every n q
unfolding every
every-same zero p q h = refl
every-same (suc n) p q h = rw (every-same n p q (λ i l. h i (omega arith)), h n (omega arith))

-- ---- first

-- one step of a search from the front: n + 1 numbers, none of the first n
pub first-none : (n : ℕ) (p : ℕ → Bool) → some n p ≡ false → first n p ≡ n
unfolding first some
first-none zero p e = refl
first-none (suc n) p e = let r = neither (some n p) (p n) e in rw (r.0, r.1)

-- p holds of i and of none before it
pub first-at : (n : ℕ) (p : ℕ → Bool) (i : ℕ) → i < n → some i p ≡ false → p i ≡ true → first n p ≡ i
unfolding first
first-at zero p i h e q = absurd (omega arith)
first-at (suc n) p i h e q =
    choose (below_suc i n h)
    (λ l. rw (some-intro n p i l q) (first-at n p i l e q))
    (λ k. go k)
  where
    go : i ≡ n → cond (some n p) (first n p) (cond (p n) n (suc n)) ≡ i
    go k = rw (rw k at e, rw k at q) (sym k)

-- the first is below n and p holds of it, where p holds of some
pub first_found : (n : ℕ) (p : ℕ → Bool) → some n p ≡ true → (first n p < n) × (p (first n p) ≡ true) × (some (first n p) p ≡ false)
unfolding first some
first_found zero p e = absurd (false≢true e)
first_found (suc n) p e = go (some n p) refl (p n) refl (first_found n p)
  where
    go : (a : Bool) → some n p ≡ a → (b : Bool) → p n ≡ b → (some n p ≡ true → (first n p < n) × (p (first n p) ≡ true) × (some (first n p) p ≡ false))
        → (cond a (first n p) (cond b n (suc n)) < suc n) × (p (cond a (first n p) (cond b n (suc n))) ≡ true) × (some (cond a (first n p) (cond b n (suc n))) p ≡ false)
    go true q b r ih = let w = ih q in (omega (arith, w.0), w.1, w.2)
    go false q true r ih = (omega arith, r, q)
    go false q false r ih = absurd (false≢true (sym (rw (q, r)) ∙ e))

-- p holds of some exactly when the first is below n
pub some_first : (n : ℕ) (p : ℕ → Bool) → some n p ≡ ltb (first n p) n
some_first n p = go (some n p) refl
  where
    go : (b : Bool) → some n p ≡ b → some n p ≡ ltb (first n p) n
    go true e = e ∙ sym (lt-ltb (first n p) n (first_found n p e).0)
    go false e = e ∙ sym (le-ltb (first n p) n (omega (arith, first-none n p e)))

-- the first is i exactly when p holds of i and of none before it, and n exactly when it holds of none
pub first-exactly : (n : ℕ) (p : ℕ → Bool) (i : ℕ) → i < n → first n p ≡ i ↔ ((p i ≡ true) × ((j : ℕ) → j < i → p j ≡ false))
first-exactly n p i l = (there (some n p) refl, λ w. first-at n p i l (some-none i p w.1) w.0)
  where
    there : (b : Bool) → some n p ≡ b → first n p ≡ i → (p i ≡ true) × ((j : ℕ) → j < i → p j ≡ false)
    there true q e = let r = first_found n p q in rw (← e) (r.1, none-some (first n p) p r.2)
    there false q e = absurd (omega (arith, first-none n p q))

pub first-none-exactly : (n : ℕ) (p : ℕ → Bool) → first n p ≡ n ↔ ((j : ℕ) → j < n → p j ≡ false)
first-none-exactly n p = (there (some n p) refl, λ h. first-none n p (some-none n p h))
  where
    there : (b : Bool) → some n p ≡ b → first n p ≡ n → (j : ℕ) → j < n → p j ≡ false
    there true q e = absurd (omega (arith, (first_found n p q).0))
    there false q e = none-some n p q

-- ---- rising

-- a list that rises from `least` on: each number is at least that, and later ones are greater
rising-least : (least : ℕ) (xs : List ℕ) → rising least xs ≡ true → (i : ℕ) → i < length xs → least ≤ get_or xs i 0
unfolding rising
rising-least least [] e i h = absurd (omega arith)
rising-least least (x ∷ xs) e zero h = leb-true least x (both (leb least x) (rising (suc x) xs) e).0
rising-least least (x ∷ xs) e (suc i) h =
    let r = both (leb least x) (rising (suc x) xs) e in
    omega (arith, leb-true least x r.0, rising-least (suc x) xs r.1 i (omega arith))

pub rising-at : (least : ℕ) (xs : List ℕ) → rising least xs ≡ true → (i j : ℕ) → i < j → j < length xs → get_or xs i 0 < get_or xs j 0
unfolding rising
rising-at least [] e i j l h = absurd (omega arith)
rising-at least (x ∷ xs) e i zero l h = absurd (omega arith)
rising-at least (x ∷ xs) e zero (suc j) l h = rising-least (suc x) xs (both (leb least x) (rising (suc x) xs) e).1 j (omega arith)
rising-at least (x ∷ xs) e (suc i) (suc j) l h = rising-at (suc x) xs (both (leb least x) (rising (suc x) xs) e).1 i j (omega arith) (omega arith)

rising-from : (least : ℕ) (xs : List ℕ) → ((i : ℕ) → i < length xs → least ≤ get_or xs i 0) → ((i j : ℕ) → i < j → j < length xs → get_or xs i 0 < get_or xs j 0) → rising least xs ≡ true
unfolding rising
rising-from least [] h r = refl
rising-from least (x ∷ xs) h r =
    rw (le-leb least x (h 0 (omega arith)), rising-from (suc x) xs (λ i l. r 0 (suc i) (omega arith) (omega arith)) (λ i j l k. r (suc i) (suc j) (omega arith) (omega arith)))

pub rising-exactly : (xs : List ℕ) → rising 0 xs ≡ true ↔ ((i j : ℕ) → i < j → j < length xs → get_or xs i 0 < get_or xs j 0)
rising-exactly xs = (rising-at 0 xs, λ r. rising-from 0 xs (λ i l. omega arith) r)

-- ---- gather

-- t is gathered when it is below the limit and some i below n passes and leads to t
pub gather-holds : (m : ℕ) (p : ℕ → Bool) (to : ℕ → ℕ) (n t : ℕ) → holds (gather m p to n) t ≡ some n (λ i. p i && (ltb (to i) m && eqb t (to i)))
unfolding gather some
gather-holds m p to zero t = holds-empty t
gather-holds m p to (suc n) t = go (p n) (gather-holds m p to n t)
  where
    go : (b : Bool) → holds (gather m p to n) t ≡ some n (λ i. p i && (ltb (to i) m && eqb t (to i)))
        → holds (cond b (insert m (gather m p to n) (to n)) (gather m p to n)) t ≡ (some n (λ i. p i && (ltb (to i) m && eqb t (to i))) || (b && (ltb (to n) m && eqb t (to n))))
    go true ih = holds-insert m (gather m p to n) (to n) t ∙ ap (λ (x : Bool). x || ltb (to n) m && eqb t (to n)) ih
    go false ih = ih ∙ sym (or-false (some n (λ i. p i && (ltb (to i) m && eqb t (to i)))))

-- exactly when there is one
pub gather-exactly : (m : ℕ) (p : ℕ → Bool) (to : ℕ → ℕ) (n t : ℕ)
    → holds (gather m p to n) t ≡ true ↔ ((t < m) × ((i : ℕ) × (i < n) × (p i ≡ true) × (to i ≡ t)))
gather-exactly m p to n t = (there, back)
  where
    q : ℕ → Bool
    q i = p i && (ltb (to i) m && eqb t (to i))

    there : holds (gather m p to n) t ≡ true → (t < m) × ((i : ℕ) × (i < n) × (p i ≡ true) × (to i ≡ t))
    there h =
        let r = some-elim n q (sym (gather-holds m p to n t) ∙ h) in
        let a = both (p r.0) (ltb (to r.0) m && eqb t (to r.0)) r.2 in
        let b = both (ltb (to r.0) m) (eqb t (to r.0)) a.1 in
        let e : t ≡ to r.0 = eqb-true t (to r.0) b.1 in
        (rw e (ltb-true (to r.0) m b.0), (r.0, r.1, a.0, sym e))

    back : (t < m) × ((i : ℕ) × (i < n) × (p i ≡ true) × (to i ≡ t)) → holds (gather m p to n) t ≡ true
    back w =
        let i = w.1.0 in
        let e : to i ≡ t = w.1.3 in
        gather-holds m p to n t
        ∙ some-intro n q i w.1.1 (rw (w.1.2, lt-ltb (to i) m (rw e w.0), eq-eqb t (to i) (sym e)))

pub gather-lt : (m : ℕ) (p : ℕ → Bool) (to : ℕ → ℕ) (n : ℕ) → gather m p to n < 2 ^ m
unfolding gather
gather-lt m p to zero = pow_pos m
gather-lt m p to (suc n) = go (p n) (gather-lt m p to n)
  where
    go : (b : Bool) → gather m p to n < 2 ^ m → cond b (insert m (gather m p to n) (to n)) (gather m p to n) < 2 ^ m
    go true ih = insert-lt m (gather m p to n) (to n) ih
    go false ih = ih

pub gather_none : (m : ℕ) (p : ℕ → Bool) (to : ℕ → ℕ) (n : ℕ) → ((i : ℕ) → p i ≡ false) → gather m p to n ≡ 0
unfolding gather
gather_none m p to zero h = refl
gather_none m p to (suc n) h = rw (h n) (gather_none m p to n h)

and-or : (a b c : Bool) → ((a || b) && c) ≡ (a && c || b && c)
and-or true true true = refl
and-or true true false = refl
and-or true false c = sym (or-false c)
and-or false b c = refl

-- where each i passes p or q, what is gathered is the union
pub gather-join : (m : ℕ) (p q r : ℕ → Bool) (to : ℕ → ℕ) (n : ℕ) → ((i : ℕ) → r i ≡ (p i || q i))
    → gather m r to n ≡ join (gather m p to n) (gather m q to n)
gather-join m p q r to n h =
    set-ext (gather m r to n) (join (gather m p to n) (gather m q to n))
    (λ t.
    gather-holds m r to n t
    ∙ some_or n (λ i. p i && (ltb (to i) m && eqb t (to i))) (λ i. q i && (ltb (to i) m && eqb t (to i))) (λ i. r i && (ltb (to i) m && eqb t (to i)))
    (λ i. rw (h i) (and-or (p i) (q i) (ltb (to i) m && eqb t (to i))))
    ∙ sym (holds-join (gather m p to n) (gather m q to n) t ∙ rw (gather-holds m p to n t, gather-holds m q to n t)))
