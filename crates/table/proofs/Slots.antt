-- A split's slots, walked from the first to the last: what a loop over them tests and joins. Assumes nothing.
use Prim.Native.Nat.{ℕ, zero, suc, ◌+◌, ◌-◌, ◌≤◌, ◌<◌}
use mathlib.Core.Path.{◌≡◌, refl, sym, ap, ◌∙◌}
use mathlib.Core.Bool.{Bool, true, false, ◌&&◌, cond, false≢true}
use mathlib.Core.List.{List, [], ◌∷◌}
use native.Mathlib.Omega.{arith}
use native.Mathlib.Numerals.{add-one}
use lib.ListN.{length, get_or, drop}
use lib.Dec.{ltb, leb, eqb, leb-zero, leb-suc-zero, leb-suc-suc, eqb-suc-suc, eqb-suc-zero}
use borrow.Author.Tests.{ltb-true, lt-ltb}
use Rattle.sets.specs.Set.{join}
use Rattle.sets.proofs.Sets.{join-empty, join-comm, join-assoc}
use Rattle.rules.specs.Scan.{rising}
use Rattle.rules.proofs.Scanning.{and-false, both}
use Rattle.table.specs.Table.{unused_slot, used_slots, taken_slots, all_below, joined, good_slots, slots}
use Rattle.table.proofs.Joined.{below-head}
use Rattle.table.proofs.Entries.{slots_length}

-- ---- rule 9 on the slots as a walk

unfoldable pub none_used : List ℕ → Bool
none_used [] = true
none_used (x ∷ xs) = unused_slot x && none_used xs

-- n parts, b slots left, the next slot at least `least`
unfoldable pub walk : ℕ → ℕ → ℕ → List ℕ → Bool
walk n b least [] = true
walk n b least (x ∷ xs) = cond (unused_slot x) (none_used xs) (leb least x && ltb x n && leb 1 b && walk n (b - 1) (suc x) xs)

none-used : (xs : List ℕ) → none_used xs ≡ eqb (length (used_slots xs)) 0
unfolding none_used used_slots
none-used [] = refl
none-used (x ∷ xs) = go (unused_slot x) (none-used xs)
  where
    go : (u : Bool) → none_used xs ≡ eqb (length (used_slots xs)) 0 → (u && none_used xs) ≡ eqb (length (cond u (used_slots xs) (x ∷ used_slots xs))) 0
    go true ih = ih
    go false ih = sym (eqb-suc-zero (length (used_slots xs)))

-- the slots in use, none of which stands behind an unused one
ended-rest : (n b least : ℕ) (u : List ℕ) → eqb (length u) 0 ≡ (all_below n u && eqb (length u) 0 && rising least u && leb (length u) b)
unfolding all_below rising
ended-rest n b least [] = rw (leb-zero b)
ended-rest n b least (x ∷ u) = rw (eqb-suc-zero (length u), and-false (ltb x n && all_below n u))

shuffle : (p q l A E R M : Bool) → (q && p && l && (A && E && R && M)) ≡ (p && A && E && (q && R) && (l && M))
shuffle true true true A E R M = refl
shuffle true true false A E R M = sym (and-false (A && E && R))
shuffle true false l A E R M = sym (ap (λ (x : Bool). x && (l && M)) (and-false (A && E)))
shuffle false true l A E R M = refl
shuffle false false l A E R M = refl

left_one : (b m : ℕ) → leb (suc m) b ≡ (leb 1 b && leb m (b - 1))
left_one zero m = rw (leb-suc-zero m, leb-suc-zero 0)
left_one (suc b) m =
    let e : suc b - 1 ≡ b = omega arith in
    rw (leb-suc-suc m b, leb-suc-suc 0 b, leb-zero b, e)

walk-good : (n b least : ℕ) (xs : List ℕ)
    → walk n b least xs ≡ (all_below n (used_slots xs) && eqb (length (used_slots xs)) (length (taken_slots xs)) && rising least (used_slots xs) && leb (length (used_slots xs)) b)
unfolding walk used_slots taken_slots all_below rising
walk-good n b least [] = rw (leb-zero b)
walk-good n b least (x ∷ xs) = go (unused_slot x) (walk-good n (b - 1) (suc x) xs)
  where
    go : (u : Bool)
        → walk n (b - 1) (suc x) xs ≡ (all_below n (used_slots xs) && eqb (length (used_slots xs)) (length (taken_slots xs)) && rising (suc x) (used_slots xs) && leb (length (used_slots xs)) (b - 1))
        → cond u (none_used xs) (leb least x && ltb x n && leb 1 b && walk n (b - 1) (suc x) xs)
        ≡ (all_below n (cond u (used_slots xs) (x ∷ used_slots xs))
        && eqb (length (cond u (used_slots xs) (x ∷ used_slots xs))) (length (cond u [] (x ∷ taken_slots xs)))
        && rising least (cond u (used_slots xs) (x ∷ used_slots xs))
        && leb (length (cond u (used_slots xs) (x ∷ used_slots xs))) b)
    go true ih = none-used xs ∙ ended-rest n b least (used_slots xs)
    go false ih =
        rw (ih, left_one b (length (used_slots xs)), eqb-suc-suc (length (used_slots xs)) (length (taken_slots xs)))
        (shuffle (ltb x n) (leb least x) (leb 1 b) (all_below n (used_slots xs)) (eqb (length (used_slots xs)) (length (taken_slots xs))) (rising (suc x) (used_slots xs)) (leb (length (used_slots xs)) (b - 1)))

-- ---- what a loop over the slots has left to test: `going` until the first unused one

unfoldable pub rest : ℕ → ℕ → ℕ → Bool → List ℕ → Bool
rest n b least going xs = cond going (walk n b least xs) (none_used xs)

pub rest-start : (n b : ℕ) (xs : List ℕ) → good_slots n b xs ≡ rest n b 0 true xs
unfolding rest good_slots
rest-start n b xs = sym (walk-good n b 0 xs)

pub rest_end : (n b least : ℕ) (g : Bool) → rest n b least g [] ≡ true
unfolding rest walk none_used
rest_end n b least true = refl
rest_end n b least false = refl

pub rest-unused : (n b least : ℕ) (g : Bool) (x : ℕ) (xs : List ℕ) → unused_slot x ≡ true → rest n b least g (x ∷ xs) ≡ rest n b least false xs
unfolding rest walk none_used
rest-unused n b least true x xs e = rw e
rest-unused n b least false x xs e = rw e

pub rest-bad : (n b least : ℕ) (g : Bool) (x : ℕ) (xs : List ℕ) → unused_slot x ≡ false → (g && leb least x && ltb x n && leb 1 b) ≡ false → rest n b least g (x ∷ xs) ≡ false
unfolding rest walk none_used
rest-bad n b least true x xs e q = rw (e, q)
rest-bad n b least false x xs e q = rw e

pub rest-good : (n b least : ℕ) (g : Bool) (x : ℕ) (xs : List ℕ) → unused_slot x ≡ false → (g && leb least x && ltb x n && leb 1 b) ≡ true
    → rest n b least g (x ∷ xs) ≡ rest n (b - 1) (x + 1) g xs
unfolding rest walk
rest-good n b least true x xs e q = rw (e, q, add-one x)
rest-good n b least false x xs e q = absurd (false≢true q)

-- ---- a union over the slots in use

-- `all` is the union up to slot j, and the rest is still to come
unfoldable pub Joining : (ℕ → ℕ) → List ℕ → ℕ → ℕ → Type 0
Joining f ss all j = joined f (used_slots ss) ≡ join all (joined f (used_slots (drop j ss)))

pub joining-start : (f : ℕ → ℕ) (ss : List ℕ) (all : ℕ) → all ≡ 0 → Joining f ss all 0
unfolding Joining
joining-start f ss all e = rw e (sym (join-empty _))

pub joining-more : (f : ℕ → ℕ) (ss : List ℕ) (all j x all' : ℕ) → Joining f ss all j → drop j ss ≡ x ∷ drop (j + 1) ss
    → all' ≡ cond (unused_slot x) all (join all (f x)) → Joining f ss all' (j + 1)
unfolding Joining joined used_slots
joining-more f ss all j x all' h d e = h ∙ ap (λ (v : List ℕ). join all (joined f (used_slots v))) d ∙ go (unused_slot x) e
  where
    go : (u : Bool) → all' ≡ cond u all (join all (f x))
        → join all (joined f (cond u (used_slots (drop (j + 1) ss)) (x ∷ used_slots (drop (j + 1) ss)))) ≡ join all' (joined f (used_slots (drop (j + 1) ss)))
    go true q = rw q
    go false q = rw q (sym (join-assoc all (f x) (joined f (used_slots (drop (j + 1) ss)))))

pub joining-end : (f : ℕ → ℕ) (ss : List ℕ) (all j : ℕ) → Joining f ss all j → drop j ss ≡ [] → all ≡ joined f (used_slots ss)
unfolding Joining joined used_slots
joining-end f ss all j h d = sym (h ∙ ap (λ (v : List ℕ). join all (joined f (used_slots v))) d ∙ join-comm all 0 ∙ join-empty all)

-- ---- bounds

-- each slot in use is below n
pub used-below : (n : ℕ) (xs : List ℕ) → all_below n (used_slots xs) ≡ true → (j : ℕ) → j < length xs → unused_slot (get_or xs j 0) ≡ false → get_or xs j 0 < n
unfolding used_slots
used-below n [] e j h u = absurd (omega arith)
used-below n (x ∷ xs) e zero h u = (below-head n x (used_slots xs) (rw u at e)).0
used-below n (x ∷ xs) e (suc j) h u = go (unused_slot x) e (λ r. used-below n xs r j (omega arith) u)
  where
    go : (b : Bool) → all_below n (cond b (used_slots xs) (x ∷ used_slots xs)) ≡ true → (all_below n (used_slots xs) ≡ true → get_or xs j 0 < n) → get_or xs j 0 < n
    go true q ih = ih q
    go false q ih = ih (below-head n x (used_slots xs) q).1

pub slot-below : (n : ℕ) (S : List ℕ) (i j x : ℕ) → all_below n (used_slots (slots S i)) ≡ true → j < 4 → x ≡ get_or (slots S i) j 0 → unused_slot x ≡ false → x < n
slot-below n S i j x e h q u =
    rw q (used-below n (slots S i) e j (rw (slots_length S i) h) (ap unused_slot (sym q) ∙ u))

pub below_wider : (n m : ℕ) (xs : List ℕ) → n ≤ m → all_below n xs ≡ true → all_below m xs ≡ true
unfolding all_below
below_wider n m [] h e = refl
below_wider n m (x ∷ xs) h e =
    let r = both (ltb x n) (all_below n xs) e in
    rw (lt-ltb x m (omega (arith, ltb-true x n r.0)), below_wider n m xs h r.1)
