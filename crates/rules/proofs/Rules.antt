-- A table of rules gives each number exactly when its row applies and no row before it does. Assumes nothing.
use Prim.Native.Nat.{ℕ, zero, suc, ◌<◌}
use mathlib.Core.Path.{◌≡◌, refl, sym, ap, ◌∙◌}
use mathlib.Core.Bool.{Bool, true, false, ◌&&◌, cond, not}
use mathlib.Core.List.{List, [], ◌∷◌, ◌++◌}
use mathlib.Core.Logic.{◌↔◌}
use native.Mathlib.Omega.{arith}
use lib.ListN.{length, get_or}
use lib.Dec.{eqb, ltb}
use borrow.Author.Tests.{eqb-false, ltb-true, not-true}
use Rattle.rules.specs.Scan.{rising}
use Rattle.rules.specs.Rules.{Rule, verdict, number, applies, Given, Rises, Refuses}
use Rattle.rules.proofs.Scanning.{both, rising-at}

-- n is the number of no row
abbrev pub unnumbered : ℕ → List Rule → Bool
unnumbered n [] = true
unnumbered n (r ∷ rs) = not (eqb n r.0) && unnumbered n rs

-- no two rows have one number, and none has 0
abbrev pub distinct : List Rule → Bool
distinct [] = true
distinct (r ∷ rs) = not (eqb r.0 0) && unnumbered r.0 rs && distinct rs

-- what these say of the first row, and of the rest
other : (n : ℕ) (r : Rule) (rs : List Rule) → unnumbered n (r ∷ rs) ≡ true → (n ≡ r.0 → ⊥) × (unnumbered n rs ≡ true)
other n r rs u =
    let w = both (not (eqb n r.0)) (unnumbered n rs) u in (eqb-false n r.0 (not-true _ w.0), w.1)

apart : (r : Rule) (rs : List Rule) → distinct (r ∷ rs) ≡ true → (r.0 ≡ 0 → ⊥) × (unnumbered r.0 rs ≡ true) × (distinct rs ≡ true)
apart r rs d =
    let w = both (not (eqb r.0 0) && unnumbered r.0 rs) (distinct rs) d in
    let v = both (not (eqb r.0 0)) (unnumbered r.0 rs) w.0 in
    (eqb-false r.0 0 (not-true _ v.0), v.1, w.1)

no_such : (n : ℕ) (rs : List Rule) → unnumbered n rs ≡ true → (verdict rs ≡ n) → (n ≡ 0 → ⊥) → ⊥
unfolding verdict
no_such n [] u e z = z (sym e)
no_such n (r ∷ rs) u e z = let w = other n r rs u in go r.1 e w.0 (λ q. no_such n rs w.1 q z)
  where
    go : (b : Bool) → cond b r.0 (verdict rs) ≡ n → (n ≡ r.0 → ⊥) → (verdict rs ≡ n → ⊥) → ⊥
    go true q w ih = w (sym q)
    go false q w ih = ih q

unnumbered-at : (n : ℕ) (rs : List Rule) → unnumbered n rs ≡ true → (i : ℕ) → i < length rs → number rs i ≡ n → ⊥
unnumbered-at n [] u i h e = absurd (omega arith)
unnumbered-at n (r ∷ rs) u zero h e = (other n r rs u).0 (sym e)
unnumbered-at n (r ∷ rs) u (suc i) h e = unnumbered-at n rs (other n r rs u).1 i (omega arith) e

pub numbered : (rs : List Rule) → distinct rs ≡ true → (i : ℕ) → i < length rs → number rs i ≡ 0 → ⊥
numbered [] d i h e = absurd (omega arith)
numbered (r ∷ rs) d zero h e = (apart r rs d).0 e
numbered (r ∷ rs) d (suc i) h e = numbered rs (apart r rs d).2 i (omega arith) e

-- the number of row i is given exactly when row i applies and no row before it does
pub exactly : (rs : List Rule) → distinct rs ≡ true → (i : ℕ) → i < length rs → (verdict rs ≡ number rs i) ↔ Given rs i
unfolding verdict
exactly [] d i h = absurd (omega arith)
exactly (r ∷ rs) d zero h = (λ e. (first r.1 refl e, λ j l. absurd (omega arith)), λ g. rw g.0)
  where
    first : (b : Bool) → r.1 ≡ b → cond r.1 r.0 (verdict rs) ≡ r.0 → r.1 ≡ true
    first true q e = q
    first false q e = let a = apart r rs d in absurd (no_such r.0 rs a.1 (rw q at e) a.0)
exactly (r ∷ rs) d (suc i) h =
    let ih = exactly rs (apart r rs d).2 i (omega arith) in (λ e. there r.1 refl e ih, λ g. back g ih)
  where
    there : (b : Bool) → r.1 ≡ b → cond r.1 r.0 (verdict rs) ≡ number rs i
        → ((verdict rs ≡ number rs i) ↔ ((applies rs i ≡ true) × ((j : ℕ) → j < i → applies rs j ≡ false)))
        → (applies rs i ≡ true) × ((j : ℕ) → j < suc i → applies (r ∷ rs) j ≡ false)
    there true q e ih = absurd (unnumbered-at r.0 rs (apart r rs d).1 i (omega arith) (sym (rw q at e)))
    there false q e ih =
        let g = ih.0 (rw q at e) in
        (g.0, elim [ zero ↦ (λ l. q) | suc j ↦ (λ l. g.1 j (omega arith)) ])

    back : (applies rs i ≡ true) × ((j : ℕ) → j < suc i → applies (r ∷ rs) j ≡ false)
        → ((verdict rs ≡ number rs i) ↔ ((applies rs i ≡ true) × ((j : ℕ) → j < i → applies rs j ≡ false)))
        → cond r.1 r.0 (verdict rs) ≡ number rs i
    back g ih = rw (g.1 0 (omega arith)) (ih.1 (g.0, λ j l. g.1 (suc j) (omega arith)))

-- ---- the numbers rise

-- the numbers of the rows, in their order
abbrev pub numbers : List Rule → List ℕ
numbers [] = []
numbers (r ∷ rs) = r.0 ∷ numbers rs

numbers-length : (rs : List Rule) → length (numbers rs) ≡ length rs
numbers-length [] = refl
numbers-length (r ∷ rs) = ap suc (numbers-length rs)

numbers-at : (rs : List Rule) (i : ℕ) → get_or (numbers rs) i 0 ≡ number rs i
numbers-at [] i = refl
numbers-at (r ∷ rs) zero = refl
numbers-at (r ∷ rs) (suc i) = numbers-at rs i

pub rises : (n : ℕ) (rs : List Rule) → rising n (numbers rs) ≡ true → Rises rs
rises n rs e i j l h =
    rw (← numbers-at rs i, ← numbers-at rs j) (rising-at n (numbers rs) e i j l (omega (arith, numbers-length rs)))

-- ---- what is given

-- 0 is given exactly when no row applies
pub passes-exactly : (rs : List Rule) → distinct rs ≡ true → (verdict rs ≡ 0) ↔ ((i : ℕ) → i < length rs → applies rs i ≡ false)
unfolding verdict
passes-exactly [] d = (λ e i h. absurd (omega arith), λ g. refl)
passes-exactly (r ∷ rs) d =
    let ih = passes-exactly rs (apart r rs d).2 in (λ e. there r.1 refl e ih, λ g. back g ih)
  where
    there : (b : Bool) → r.1 ≡ b → cond r.1 r.0 (verdict rs) ≡ 0
        → ((verdict rs ≡ 0) ↔ ((i : ℕ) → i < length rs → applies rs i ≡ false))
        → (i : ℕ) → i < suc (length rs) → applies (r ∷ rs) i ≡ false
    there true q e ih = absurd ((apart r rs d).0 (rw q at e))
    there false q e ih = elim [ zero ↦ (λ l. q) | suc j ↦ (λ l. ih.0 (rw q at e) j (omega arith)) ]

    back : ((i : ℕ) → i < suc (length rs) → applies (r ∷ rs) i ≡ false)
        → ((verdict rs ≡ 0) ↔ ((i : ℕ) → i < length rs → applies rs i ≡ false)) → cond r.1 r.0 (verdict rs) ≡ 0
    back g ih = rw (g 0 (omega arith)) (ih.1 (λ i l. g (suc i) (omega arith)))

-- so every table with distinct numbers refuses as its rows say
pub refuses : (rs : List Rule) → distinct rs ≡ true → Refuses rs (verdict rs)
refuses rs d = record { passes = passes-exactly rs d; gives = exactly rs d }

-- ---- for code that tests in order

-- where no rule refuses, the first has not, and the rest have not
pub passes : (k : ℕ) (b : Bool) (rs : List Rule) → verdict ((suc k, b) ∷ rs) ≡ 0 → (b ≡ false) × (verdict rs ≡ 0)
unfolding verdict
passes k true rs e = absurd (omega arith)
passes k false rs e = (refl, e)

-- a rule that does not apply is passed over; the first that applies gives its number
pub skip : (k : ℕ) {b : Bool} (rs : List Rule) → b ≡ false → verdict ((k, b) ∷ rs) ≡ verdict rs
unfolding verdict
skip k rs e = rw e

pub stop : (k : ℕ) {b : Bool} (rs : List Rule) → b ≡ true → verdict ((k, b) ∷ rs) ≡ k
unfolding verdict
stop k rs e = rw e

-- and where the last does not apply either, none has
pub last : (k : ℕ) {b : Bool} → b ≡ false → verdict ((k, b) ∷ []) ≡ 0
unfolding verdict
last k e = rw e

-- a rule at the end that does not apply changes nothing
pub verdict-end : (rs : List Rule) (k : ℕ) {b : Bool} → b ≡ false → verdict (rs ++ ((k, b) ∷ [])) ≡ verdict rs
unfolding verdict
verdict-end [] k e = rw e
verdict-end (r ∷ rs) k e = ap (λ (n : ℕ). cond r.1 r.0 n) (verdict-end rs k e)

-- two tables in a row: the first one's refusal, where it has one
pub verdict-first : (xs ys : List Rule) (k : ℕ) → verdict xs ≡ suc k → verdict (xs ++ ys) ≡ suc k
unfolding verdict
verdict-first [] ys k e = absurd (omega arith)
verdict-first (x ∷ xs) ys k e = go x.1 e (verdict-first xs ys k)
  where
    go : (b : Bool) → cond b x.0 (verdict xs) ≡ suc k → (verdict xs ≡ suc k → verdict (xs ++ ys) ≡ suc k) → cond b x.0 (verdict (xs ++ ys)) ≡ suc k
    go true q ih = q
    go false q ih = ih q

-- where the first of two tables refuses, both together refuse so
pub verdict-refused : (xs ys : List Rule) → (verdict xs ≡ 0 → ⊥) → verdict (xs ++ ys) ≡ verdict xs
verdict-refused xs ys r = go (verdict xs) refl
  where
    go : (n : ℕ) → verdict xs ≡ n → verdict (xs ++ ys) ≡ verdict xs
    go zero e = absurd (r e)
    go (suc k) e = verdict-first xs ys k e ∙ sym e

-- and else the second one's
pub verdict-then : (xs ys : List Rule) → distinct xs ≡ true → verdict xs ≡ 0 → verdict (xs ++ ys) ≡ verdict ys
unfolding verdict
verdict-then [] ys d e = refl
verdict-then (x ∷ xs) ys d e = let a = apart x xs d in go x.1 e a.0 (verdict-then xs ys a.2)
  where
    go : (b : Bool) → cond b x.0 (verdict xs) ≡ 0 → (x.0 ≡ 0 → ⊥) → (verdict xs ≡ 0 → verdict (xs ++ ys) ≡ verdict ys) → cond b x.0 (verdict (xs ++ ys)) ≡ verdict ys
    go true q z ih = absurd (z q)
    go false q z ih = ih q

pub passes-front : (xs ys : List Rule) → verdict (xs ++ ys) ≡ 0 → verdict xs ≡ 0
unfolding verdict
passes-front [] ys e = refl
passes-front (x ∷ xs) ys e = go x.1 x.0 e (passes-front xs ys)
  where
    go : (b : Bool) (k : ℕ) → cond b k (verdict (xs ++ ys)) ≡ 0 → (verdict (xs ++ ys) ≡ 0 → verdict xs ≡ 0) → cond b k (verdict xs) ≡ 0
    go true k q ih = q
    go false k q ih = ih q

-- a table that passes still passes where one row is changed and does not apply
pub passes-changed : (xs : List Rule) (k : ℕ) (b c : Bool) (ys : List Rule) → verdict (xs ++ ((suc k, b) ∷ ys)) ≡ 0 → c ≡ false → verdict (xs ++ ((suc k, c) ∷ ys)) ≡ 0
unfolding verdict
passes-changed [] k b c ys e q = rw q (passes k b ys e).1
passes-changed (x ∷ xs) k b c ys e q = go x.1 e (λ r. passes-changed xs k b c ys r q)
  where
    go : (t : Bool) → cond t x.0 (verdict (xs ++ ((suc k, b) ∷ ys))) ≡ 0 → (verdict (xs ++ ((suc k, b) ∷ ys)) ≡ 0 → verdict (xs ++ ((suc k, c) ∷ ys)) ≡ 0)
        → cond t x.0 (verdict (xs ++ ((suc k, c) ∷ ys))) ≡ 0
    go true r ih = r
    go false r ih = ih r

-- numbers below n: a verdict is one of them
abbrev pub numbers_below : ℕ → List Rule → Bool
numbers_below n [] = true
numbers_below n (r ∷ rs) = ltb r.0 n && numbers_below n rs

pub verdict-lt : (n : ℕ) (rs : List Rule) → zero < n → numbers_below n rs ≡ true → verdict rs < n
unfolding verdict
verdict-lt n [] h e = h
verdict-lt n (r ∷ rs) h e = go r.1 (both (ltb r.0 n) (numbers_below n rs) e) (verdict-lt n rs h)
  where
    go : (b : Bool) → (ltb r.0 n ≡ true) × (numbers_below n rs ≡ true) → (numbers_below n rs ≡ true → verdict rs < n) → cond b r.0 (verdict rs) < n
    go true q ih = ltb-true r.0 n q.0
    go false q ih = ih q.1

pub number_lt : (n : ℕ) (rs : List Rule) → numbers_below n rs ≡ true → (i : ℕ) → i < length rs → number rs i < n
number_lt n [] e i h = absurd (omega arith)
number_lt n (r ∷ rs) e zero h = ltb-true r.0 n (both (ltb r.0 n) (numbers_below n rs) e).0
number_lt n (r ∷ rs) e (suc i) h = number_lt n rs (both (ltb r.0 n) (numbers_below n rs) e).1 i (omega arith)

-- rules that do not refuse may stand behind any others
pub verdict-front : (xs ys : List Rule) → distinct xs ≡ true → verdict ys ≡ 0 → verdict (xs ++ ys) ≡ verdict xs
verdict-front xs ys d e = go (verdict xs) refl
  where
    go : (n : ℕ) → verdict xs ≡ n → verdict (xs ++ ys) ≡ verdict xs
    go zero q = verdict-then xs ys d q ∙ e ∙ sym q
    go (suc k) q = verdict-first xs ys k q ∙ sym q
