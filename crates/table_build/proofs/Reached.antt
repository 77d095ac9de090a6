-- Laws of what can be reached: the start and each step; a closed collection has all; the list in order is the only one; one more than the most does not fit. Assumes nothing.
use Prim.Native.Nat.{ℕ, zero, suc, ◌-◌, ◌^◌, ◌≤◌, ◌<◌}
use mathlib.Core.Path.{◌≡◌, refl, sym, ap, ◌∙◌}
use mathlib.Core.Bool.{true, true≢false}
use mathlib.Core.List.{List, [], ◌∷◌, ◌++◌}
use mathlib.Core.Logic.{◌⊎◌, inl, inr}
use native.Mathlib.Omega.{arith}
use lib.ListN.{length, get_or}
use lib.Dec.{eqb}
use borrow.Author.Tests.{eqb-true, eq-eqb}
use Rattle.numbers.specs.Number.{before}
use Rattle.sets.specs.Set.{states, set_bytes}
use Rattle.numbers.proofs.Order.{before-irrefl, before-trans}
use Rattle.rules.specs.Scan.{first}
use Rattle.list.specs.Automaton.{start, step}
use Rattle.rules.proofs.Scanning.{some-intro, first_found}
use Rattle.list.proofs.Steps.{start-lt, step-lt}
use Rattle.feed.specs.Engine.{run}
use Rattle.feed.specs.Calls.{Bytes}
use Rattle.feed.proofs.Runs.{run-append}
use Rattle.list_feed.specs.Plain.{plain}
use Rattle.table.specs.Table.{Table, byte_values, most_parts}
use Rattle.table_classes.specs.Classes.{most_classes, class_total}
use Rattle.table_classes.proofs.Pigeons.{pigeons}
use Rattle.table_build.specs.Build.{Reach, Many, In, lower, Reached, Building, Builds, refuses, passes_limits, builds, laid, table_of}

pub reach-start : (L : List ℕ) → Reach L (start L)
unfolding run
reach-start L = ([], λ i. omega arith, refl)

bytes-more : (w : List ℕ) (c : ℕ) → Bytes w → c < byte_values → Bytes (w ++ (c ∷ []))
bytes-more [] c b h zero = h
bytes-more [] c b h (suc i) = omega arith
bytes-more (x ∷ w) c b h zero = b zero
bytes-more (x ∷ w) c b h (suc i) = bytes-more w c (λ j. b (suc j)) h i

pub reach_step : (L : List ℕ) (S c : ℕ) → c < byte_values → Reach L S → Reach L (step L S c)
unfolding run
reach_step L S c h r =
    (r.0 ++ (c ∷ []), bytes-more r.0 c r.1 h, run-append (plain L) (start L) r.0 (c ∷ []) ∙ ap (λ (F : ℕ). step L F c) r.2)

-- a property that every step keeps holds after any bytes
run-keeps : (L : List ℕ) (P : ℕ → Type 0) → ((F c : ℕ) → c < byte_values → P F → P (step L F c)) → (w : List ℕ) (F : ℕ) → Bytes w → P F → P (run (plain L) F w)
unfolding run
run-keeps L P k [] F b p = p
run-keeps L P k (c ∷ w) F b p = run-keeps L P k w (step L F c) (λ i. b (suc i)) (k F c (b zero) p)

-- so a collection that has the start set, and with each set its steps, has all that can be reached
pub closed_all : (L : List ℕ) (P : ℕ → Type 0) → P (start L) → ((F c : ℕ) → c < byte_values → P F → P (step L F c)) → (S : ℕ) → Reach L S → P S
closed_all L P s k S r = rw (← r.2) (run-keeps L P k r.0 (start L) r.1 s)

pub reach-lt : (L : List ℕ) (S : ℕ) → Reach L S → S < 2 ^ states
reach-lt L = closed_all L (λ S. S < 2 ^ states) (start-lt L) (λ F c h l. step-lt L F c)

-- ---- the list in rising order is the only one

abbrev Rises : List ℕ → Type 0
Rises xs = (i j : ℕ) → i < j → j < length xs → lower (get_or xs i 0) (get_or xs j 0) ≡ true

rises-tail : (x : ℕ) (xs : List ℕ) → Rises (x ∷ xs) → Rises xs
rises-tail x xs r i j l h = r (suc i) (suc j) (omega arith) (omega arith)

pub not-self : (x y : ℕ) → x ≡ y → lower x y ≡ true → ⊥
not-self x y e b = true≢false (sym b ∙ ap (λ (z : ℕ). before (set_bytes x) (set_bytes z)) (sym e) ∙ before-irrefl (set_bytes x))

heads-same : (x y : ℕ) (xs ys : List ℕ) → Rises (x ∷ xs) → Rises (y ∷ ys) → In x (y ∷ ys) → In y (x ∷ xs) → x ≡ y
heads-same x y xs ys rx ry (zero, h, e) q = sym e
heads-same x y xs ys rx ry (suc i, h, e) (zero, g, d) = d
heads-same x y xs ys rx ry (suc i, h, e) (suc j, g, d) =
    let a : lower y x ≡ true = rw e at (ry zero (suc i) (omega arith) h) in
    let b : lower x y ≡ true = rw d at (rx zero (suc j) (omega arith) g) in
    absurd (not-self x x refl (before-trans (set_bytes x) (set_bytes y) (set_bytes x) b a))

tail-in : (x y : ℕ) (xs ys : List ℕ) → Rises (x ∷ xs) → x ≡ y → ((S : ℕ) → In S (x ∷ xs) → In S (y ∷ ys)) → (S : ℕ) → In S xs → In S ys
tail-in x y xs ys r e h S (i, l, d) = go (h S (suc i, omega arith, d))
  where
    go : In S (y ∷ ys) → In S ys
    go (zero, g, k) = absurd (not-self x S (e ∙ k) (rw d at (r zero (suc i) (omega arith) (omega arith))))
    go (suc j, g, k) = (j, omega arith, k)

rising-one : (xs ys : List ℕ) → Rises xs → Rises ys → ((S : ℕ) → In S xs → In S ys) → ((S : ℕ) → In S ys → In S xs) → xs ≡ ys
rising-one [] [] rx ry f g = refl
rising-one [] (y ∷ ys) rx ry f g = let q = g y (zero, omega arith, refl) in absurd (omega (arith, q.1))
rising-one (x ∷ xs) [] rx ry f g = let q = f x (zero, omega arith, refl) in absurd (omega (arith, q.1))
rising-one (x ∷ xs) (y ∷ ys) rx ry f g =
    let e : x ≡ y = heads-same x y xs ys rx ry (f x (zero, omega arith, refl)) (g y (zero, omega arith, refl)) in
    let t : xs ≡ ys = rising-one xs ys (rises-tail x xs rx) (rises-tail y ys ry) (tail-in x y xs ys rx e f) (tail-in y x ys xs ry (sym e) g) in
    cc

pub reached-one : (L xs ys : List ℕ) → Reached L xs → Reached L ys → xs ≡ ys
reached-one L xs ys a b =
    rising-one xs ys a.rises b.rises (λ S i. b.all S (a.sound S i)) (λ S i. a.all S (b.sound S i))

-- ---- how many can be reached

-- as many different sets as can be reached stand in the list
pub many-fit : (L xs : List ℕ) (m : ℕ) → Many L m → Reached L xs → m ≤ length xs
many-fit L xs m (f, r, d) a =
    pigeons (length xs) m at (λ i l. (found i l).0)
    (λ i j l k e. d i j l k (sym (eqb-true _ _ (found i l).1) ∙ ap (λ (z : ℕ). get_or xs z 0) e ∙ eqb-true _ _ (found j k).1))
  where
    at : ℕ → ℕ
    at i = first (length xs) (λ j. eqb (get_or xs j 0) (f i))

    found : (i : ℕ) → i < m → (at i < length xs) × (eqb (get_or xs (at i) 0) (f i) ≡ true)
    found i l =
        let k = a.all (f i) (r i l) in
        let w = first_found (length xs) (λ j. eqb (get_or xs j 0) (f i)) (some-intro (length xs) (λ j. eqb (get_or xs j 0) (f i)) k.0 k.1 (eq-eqb _ _ k.2)) in
        (w.0, w.1)

-- ---- any two outcomes are equal

pub not-both : (L xs : List ℕ) → Many L (suc most_parts) ⊎ (most_classes < class_total L) → class_total L ≤ most_classes → length xs ≤ most_parts → Reached L xs → ⊥
not-both L xs (inl m) c n a = let k : suc most_parts ≤ length xs = many-fit L xs (suc most_parts) m a in absurd (omega arith)
not-both L xs (inr l) c n a = absurd (omega arith)

pub unique-build : (L : List ℕ) (T : Table) (o p : Building) → Builds L T o → Builds L T p → o ≡ p
unique-build L T o p (refuses n e) (refuses m d) = e ∙ sym d
unique-build L T o p (passes_limits z l e) (passes_limits y k d) = e ∙ sym d
unique-build L T o p (builds z c xs n a e) (builds y b ys m g d) =
    e ∙ ap {B = Building} (λ (zs : List ℕ). laid 0 (table_of L zs) T) (reached-one L xs ys a g) ∙ sym d
unique-build L T o p (refuses n e) (passes_limits y k d) = absurd (n y)
unique-build L T o p (refuses n e) (builds y b ys m g d) = absurd (n y)
unique-build L T o p (passes_limits z l e) (refuses n d) = absurd (n z)
unique-build L T o p (builds y b ys m g d) (refuses n e) = absurd (n y)
unique-build L T o p (passes_limits z l e) (builds y b ys m g d) = absurd (not-both L ys l b m g)
unique-build L T o p (builds y b ys m g d) (passes_limits z l e) = absurd (not-both L ys l b m g)
