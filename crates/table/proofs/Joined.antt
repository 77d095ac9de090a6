-- Unions over a list of part numbers, and the slots of a split: those in use and those taken. Assumes nothing.
use Prim.Native.Nat.{ℕ, zero, suc, ◌≤◌, ◌<◌}
use mathlib.Core.Path.{◌≡◌, refl, sym, ap, ◌∙◌}
use mathlib.Core.Bool.{Bool, true, false, ◌||◌, not, cond, false≢true}
use mathlib.Core.List.{List, [], ◌∷◌, ◌++◌}
use mathlib.Core.Logic.{◌⊎◌, inl, inr, ◌↔◌}
use native.Mathlib.Omega.{arith}
use native.Mathlib.Nat.{suc_inj, lt_of_not-le}
use native.Mathlib.Decide.{dec_lt, ℕ_discrete}
use lib.ListN.{length, get_or, take}
use lib.Dec.{ltb}
use borrow.Author.Tests.{ne_eqb, ltb-true, lt-ltb}
use Rattle.sets.specs.Set.{holds, join}
use Rattle.sets.proofs.Sets.{holds-empty, holds-join}
use Rattle.list.specs.Automaton.{step}
use Rattle.rules.proofs.Scanning.{both, choose, or_cases, or-true}
use Rattle.list.proofs.Steps.{step-join, step-empty}
use Rattle.table.specs.Table.{unused_slot, used_slots, taken_slots, all_below, joined}
use Rattle.table.proofs.Entries.{unused-exactly}

-- ---- unions

joined-none : (f : ℕ → ℕ) (s : ℕ) → holds (joined f []) s ≡ false
unfolding joined
joined-none f s = holds-empty s

joined-more : (f : ℕ → ℕ) (x : ℕ) (xs : List ℕ) (s : ℕ) → holds (joined f (x ∷ xs)) s ≡ (holds (f x) s || holds (joined f xs) s)
unfolding joined
joined-more f x xs s = holds-join (f x) (joined f xs) s

-- s is in the union exactly when it is in the set of some number of the list
pub joined-exactly : (f : ℕ → ℕ) (xs : List ℕ) (s : ℕ) → holds (joined f xs) s ≡ true ↔ ((i : ℕ) × (i < length xs) × (holds (f (get_or xs i 0)) s ≡ true))
joined-exactly f xs s = (there xs, λ w. back xs w.0 w.1 w.2)
  where
    there : (xs : List ℕ) → holds (joined f xs) s ≡ true → (i : ℕ) × (i < length xs) × (holds (f (get_or xs i 0)) s ≡ true)
    there [] e = absurd (false≢true (sym (joined-none f s) ∙ e))
    there (x ∷ xs) e =
        choose (or_cases (holds (f x) s) (holds (joined f xs) s) (sym (joined-more f x xs s) ∙ e))
        (λ p. (0, omega arith, p))
        (λ q. let w = there xs q in (suc w.0, omega (arith, w.1), w.2))

    back : (xs : List ℕ) (i : ℕ) → i < length xs → holds (f (get_or xs i 0)) s ≡ true → holds (joined f xs) s ≡ true
    back [] i h e = absurd (omega arith)
    back (x ∷ xs) zero h e = joined-more f x xs s ∙ rw e
    back (x ∷ xs) (suc i) h e = joined-more f x xs s ∙ rw (back xs i (omega arith) e) (or-true (holds (f x) s))

-- the step of a union of parts is the union of their steps
pub step-joined : (L : List ℕ) (f : ℕ → ℕ) (c : ℕ) (xs : List ℕ) → step L (joined f xs) c ≡ joined (λ x. step L (f x) c) xs
unfolding joined
step-joined L f c [] = step-empty L c
step-joined L f c (x ∷ xs) = step-join L (f x) (joined f xs) c ∙ ap (λ (n : ℕ). join (step L (f x) c) n) (step-joined L f c xs)

pub joined_same : (f g : ℕ → ℕ) (n : ℕ) (xs : List ℕ) → all_below n xs ≡ true → ((x : ℕ) → x < n → f x ≡ g x) → joined f xs ≡ joined g xs
unfolding joined all_below
joined_same f g n [] a h = refl
joined_same f g n (x ∷ xs) a h =
    let r = both (ltb x n) (all_below n xs) a in
    rw (h x (ltb-true x n r.0), joined_same f g n xs r.1 h)

-- every number of the list is below n exactly when each is
pub below-head : (n x : ℕ) (xs : List ℕ) → all_below n (x ∷ xs) ≡ true → (x < n) × (all_below n xs ≡ true)
unfolding all_below
below-head n x xs e = let r = both (ltb x n) (all_below n xs) e in (ltb-true x n r.0, r.1)

below_at : (n : ℕ) (xs : List ℕ) → all_below n xs ≡ true → (i : ℕ) → i < length xs → get_or xs i 0 < n
below_at n [] e i h = absurd (omega arith)
below_at n (x ∷ xs) e zero h = (below-head n x xs e).0
below_at n (x ∷ xs) e (suc i) h = below_at n xs (below-head n x xs e).1 i (omega arith)

below_all : (n : ℕ) (xs : List ℕ) → ((i : ℕ) → i < length xs → get_or xs i 0 < n) → all_below n xs ≡ true
unfolding all_below
below_all n [] h = refl
below_all n (x ∷ xs) h = rw (lt-ltb x n (h 0 (omega arith)), below_all n xs (λ i l. h (suc i) (omega arith)))

pub below-exactly : (n : ℕ) (xs : List ℕ) → all_below n xs ≡ true ↔ ((i : ℕ) → i < length xs → get_or xs i 0 < n)
below-exactly n xs = (below_at n xs, below_all n xs)

-- not every number of the list is below n exactly when one is not
below-failed : (n : ℕ) (xs : List ℕ) → not (all_below n xs) ≡ true → (i : ℕ) × (i < length xs) × (n ≤ get_or xs i 0)
unfolding all_below
below-failed n [] e = absurd (false≢true e)
below-failed n (x ∷ xs) e =
    elim (dec_lt x n) [ yes l ↦ later (below-failed n xs (sym (rw (lt-ltb x n l)) ∙ e)) | no g ↦ (0, omega arith, omega (arith, lt_of_not-le (λ (l : suc x ≤ n). g l))) ]
  where
    later : (i : ℕ) × (i < length xs) × (n ≤ get_or xs i 0) → (i : ℕ) × (i < length (x ∷ xs)) × (n ≤ get_or (x ∷ xs) i 0)
    later w = (suc w.0, omega (arith, w.1), w.2)

pub below_fails : (n : ℕ) (xs : List ℕ) → not (all_below n xs) ≡ true ↔ ((i : ℕ) × (i < length xs) × (n ≤ get_or xs i 0))
below_fails n xs = (below-failed n xs, λ w. back (all_below n xs) refl w)
  where
    back : (b : Bool) → all_below n xs ≡ b → (i : ℕ) × (i < length xs) × (n ≤ get_or xs i 0) → not b ≡ true
    back false e w = refl
    back true e w = absurd (omega (arith, w.2, below_at n xs e w.0 w.1))

length-nil : (xs : List ℕ) → length xs ≡ 0 → xs ≡ []
length-nil [] e = refl
length-nil (x ∷ xs) e = absurd (omega arith)

-- no slot in use stands behind an unused one exactly when the slots in use are those taken
pub used-taken : (xs : List ℕ) → length (used_slots xs) ≡ length (taken_slots xs) → taken_slots xs ≡ used_slots xs
unfolding used_slots taken_slots
used-taken [] e = refl
used-taken (x ∷ xs) e = go (unused_slot x) e (used-taken xs)
  where
    go : (b : Bool) → length (cond b (used_slots xs) (x ∷ used_slots xs)) ≡ length (cond b [] (x ∷ taken_slots xs))
        → (length (used_slots xs) ≡ length (taken_slots xs) → taken_slots xs ≡ used_slots xs)
        → cond b [] (x ∷ taken_slots xs) ≡ cond b (used_slots xs) (x ∷ used_slots xs)
    go true q ih = sym (length-nil (used_slots xs) q)
    go false q ih = ap {B = List ℕ} (λ (ys : List ℕ). x ∷ ys) (ih (suc_inj q))

-- ---- the slots in use and the slots taken, place by place

-- y stands at some place of the list
abbrev pub In : ℕ → List ℕ → Type 0
In y xs = (i : ℕ) × (i < length xs) × (get_or xs i 0 ≡ y)

in-later : (y x : ℕ) (xs : List ℕ) → In y xs → In y (x ∷ xs)
in-later y x xs w = (suc w.0, omega (arith, w.1), w.2)

in-cons : (y x : ℕ) (xs : List ℕ) → In y (x ∷ xs) → (x ≡ y) ⊎ In y xs
in-cons y x xs w = go w.0 w.1 w.2
  where
    go : (i : ℕ) → i < suc (length xs) → get_or (x ∷ xs) i 0 ≡ y → (x ≡ y) ⊎ In y xs
    go zero h e = inl e
    go (suc i) h e = inr (i, omega arith, e)

used-none : length (used_slots []) ≡ 0
unfolding used_slots
used-none = refl

-- at the first slot
used-skip : (x : ℕ) (xs : List ℕ) → x ≡ 65535 → used_slots (x ∷ xs) ≡ used_slots xs
unfolding used_slots
used-skip x xs e = rw ((unused-exactly x).1 e)

used-keep : (x : ℕ) (xs : List ℕ) → (x ≡ 65535 → ⊥) → used_slots (x ∷ xs) ≡ x ∷ used_slots xs
unfolding used_slots
used-keep x xs n = rw (ne_eqb x 65535 n)

taken_none : taken_slots [] ≡ []
unfolding taken_slots
taken_none = refl

pub taken-stop : (x : ℕ) (xs : List ℕ) → unused_slot x ≡ true → taken_slots (x ∷ xs) ≡ []
unfolding taken_slots
taken-stop x xs e = rw e

pub taken_more : (x : ℕ) (xs : List ℕ) → unused_slot x ≡ false → taken_slots (x ∷ xs) ≡ x ∷ taken_slots xs
unfolding taken_slots
taken_more x xs e = rw e

-- a slot is in use exactly when it is one of the slots, wherever it stands, and not 65,535
pub used-in : (xs : List ℕ) (y : ℕ) → In y (used_slots xs) ↔ (In y xs × (y ≡ 65535 → ⊥))
used-in xs y = (there xs, λ w. back xs w.0 w.1)
  where
    there : (xs : List ℕ) → In y (used_slots xs) → In y xs × (y ≡ 65535 → ⊥)
    there [] w = absurd (omega (arith, w.1, used-none))
    there (x ∷ xs) w = elim (ℕ_discrete x 65535) [ yes e ↦ skip (there xs (rw (used-skip x xs e) at w)) | no n ↦ keep n (in-cons y x (used_slots xs) (rw (used-keep x xs n) at w)) (there xs) ]
      where
        skip : In y xs × (y ≡ 65535 → ⊥) → In y (x ∷ xs) × (y ≡ 65535 → ⊥)
        skip r = (in-later y x xs r.0, r.1)

        keep : (x ≡ 65535 → ⊥) → (x ≡ y) ⊎ In y (used_slots xs) → (In y (used_slots xs) → In y xs × (y ≡ 65535 → ⊥)) → In y (x ∷ xs) × (y ≡ 65535 → ⊥)
        keep n (inl e) ih = ((0, omega arith, e), λ q. n (e ∙ q))
        keep n (inr v) ih = skip (ih v)

    back : (xs : List ℕ) → In y xs → (y ≡ 65535 → ⊥) → In y (used_slots xs)
    back [] w n = absurd (omega (arith, w.1))
    back (x ∷ xs) w n = go (in-cons y x xs w) (ℕ_discrete x 65535) (λ v. back xs v n)
      where
        go : (x ≡ y) ⊎ In y xs → Dec (x ≡ 65535) → (In y xs → In y (used_slots xs)) → In y (used_slots (x ∷ xs))
        go (inl q) (yes e) ih = absurd (n (sym q ∙ e))
        go (inl q) (no m) ih = rw (used-keep x xs m) (0, omega arith, q)
        go (inr v) (yes e) ih = rw (used-skip x xs e) (ih v)
        go (inr v) (no m) ih = rw (used-keep x xs m) (in-later y x (used_slots xs) (ih v))

-- and they keep their order and number: of one slot that slot or none, of two lists of slots those of the first, then those of the second
pub used-one : (x : ℕ) → ((x ≡ 65535 → ⊥) → used_slots (x ∷ []) ≡ x ∷ []) × (x ≡ 65535 → used_slots (x ∷ []) ≡ [])
unfolding used_slots
used-one x = (used-keep x [], used-skip x [])

pub used-append : (xs ys : List ℕ) → used_slots (xs ++ ys) ≡ used_slots xs ++ used_slots ys
unfolding used_slots
used-append [] ys = refl
used-append (x ∷ xs) ys = go (unused_slot x) (used-append xs ys)
  where
    go : (u : Bool) → used_slots (xs ++ ys) ≡ used_slots xs ++ used_slots ys
        → cond u (used_slots (xs ++ ys)) (x ∷ used_slots (xs ++ ys)) ≡ cond u (used_slots xs) (x ∷ used_slots xs) ++ used_slots ys
    go true ih = ih
    go false ih = ap {B = List ℕ} (λ (zs : List ℕ). x ∷ zs) ih

-- the first n slots are used, and then comes an unused one or the end
abbrev pub Front : List ℕ → ℕ → Type 0
Front xs n = (n ≤ length xs) × ((i : ℕ) → i < n → get_or xs i 0 ≡ 65535 → ⊥) × ((n ≡ length xs) ⊎ (get_or xs n 0 ≡ 65535))

-- the slots taken are those up to the first unused one
pub taken-exactly : (xs : List ℕ) → (n : ℕ) × Front xs n × (taken_slots xs ≡ take n xs)
taken-exactly [] = (0, (omega arith, λ i h. absurd (omega arith), inl refl), taken_none)
taken-exactly (x ∷ xs) = go (ℕ_discrete x 65535) (taken-exactly xs)
  where
    go : Dec (x ≡ 65535) → (n : ℕ) × Front xs n × (taken_slots xs ≡ take n xs) → (n : ℕ) × Front (x ∷ xs) n × (taken_slots (x ∷ xs) ≡ take n (x ∷ xs))
    go (yes e) w = (0, (omega arith, λ i h. absurd (omega arith), inr e), taken-stop x xs ((unused-exactly x).1 e))
    go (no m) w =
        let f = w.1 in
        (suc w.0, (omega (arith, f.0), each, choose f.2 (λ e. inl (ap suc e)) (λ e. inr e)), taken_more x xs (ne_eqb x 65535 m) ∙ rw w.2)
      where
        each : (i : ℕ) → i < suc w.0 → get_or (x ∷ xs) i 0 ≡ 65535 → ⊥
        each zero h = m
        each (suc i) h = w.1.1 i (omega arith)

-- so they are the slots in use exactly when behind an unused slot stands no used one
pub front-exactly : (xs : List ℕ) → (taken_slots xs ≡ used_slots xs) ↔ ((i j : ℕ) → i < j → j < length xs → get_or xs i 0 ≡ 65535 → get_or xs j 0 ≡ 65535)
front-exactly xs = (there xs, back xs)
  where
    -- where nothing is in use, each is unused
    none : (xs : List ℕ) → used_slots xs ≡ [] → (j : ℕ) → j < length xs → get_or xs j 0 ≡ 65535
    none xs e j h = elim (ℕ_discrete (get_or xs j 0) 65535) [ yes q ↦ q | no n ↦ absurd (let w = (used-in xs (get_or xs j 0)).1 ((j, h, refl), n) in omega (arith, w.1, ap length e)) ]

    empty : (us : List ℕ) → ((y : ℕ) → In y us → ⊥) → us ≡ []
    empty [] n = refl
    empty (u ∷ us) n = absurd (n u (0, omega arith, refl))

    there : (xs : List ℕ) → taken_slots xs ≡ used_slots xs → (i j : ℕ) → i < j → j < length xs → get_or xs i 0 ≡ 65535 → get_or xs j 0 ≡ 65535
    there [] e i j l h q = absurd (omega arith)
    there (x ∷ xs) e i zero l h q = absurd (omega arith)
    there (x ∷ xs) e i (suc j) l h q = go i l q (ℕ_discrete x 65535) (there xs)
      where
        go : (i : ℕ) → i < suc j → get_or (x ∷ xs) i 0 ≡ 65535 → Dec (x ≡ 65535)
            → (taken_slots xs ≡ used_slots xs → (i j : ℕ) → i < j → j < length xs → get_or xs i 0 ≡ 65535 → get_or xs j 0 ≡ 65535) → get_or xs j 0 ≡ 65535
        go i l q (yes p) ih = none xs (sym (used-skip x xs p) ∙ sym e ∙ taken-stop x xs ((unused-exactly x).1 p)) j (omega arith)
        go zero l q (no n) ih = absurd (n q)
        go (suc i) l q (no n) ih =
            let r : ◌≡◌ {A = List ℕ} (x ∷ taken_slots xs) (x ∷ used_slots xs) = sym (taken_more x xs (ne_eqb x 65535 n)) ∙ e ∙ used-keep x xs n in
            ih (cc) i j (omega arith) (omega arith) q

    back : (xs : List ℕ) → ((i j : ℕ) → i < j → j < length xs → get_or xs i 0 ≡ 65535 → get_or xs j 0 ≡ 65535) → taken_slots xs ≡ used_slots xs
    back [] f = taken_none ∙ sym (empty (used_slots []) (λ y w. omega (arith, w.1, used-none)))
    back (x ∷ xs) f = go (ℕ_discrete x 65535) (back xs)
      where
        go : Dec (x ≡ 65535) → (((i j : ℕ) → i < j → j < length xs → get_or xs i 0 ≡ 65535 → get_or xs j 0 ≡ 65535) → taken_slots xs ≡ used_slots xs) → taken_slots (x ∷ xs) ≡ used_slots (x ∷ xs)
        go (yes p) ih =
            taken-stop x xs ((unused-exactly x).1 p)
            ∙ sym (used-skip x xs p ∙ empty (used_slots xs) (λ y w. let r = (used-in xs y).0 w in r.1 (sym r.0.2 ∙ f 0 (suc r.0.0) (omega arith) (omega (arith, r.0.1)) p)))
        go (no n) ih =
            taken_more x xs (ne_eqb x 65535 n) ∙ ap {B = List ℕ} (λ (us : List ℕ). x ∷ us) (ih (λ i j l h q. f (suc i) (suc j) (omega arith) (omega arith) q)) ∙ sym (used-keep x xs n)
