-- The union of the sets of a frontier's states: what is in it, of a union of frontiers, of one state alone. Assumes nothing.
use Prim.Native.Nat.{ℕ, zero, suc, ◌^◌, ◌≤◌, ◌<◌}
use mathlib.Core.Path.{◌≡◌, refl, sym, ap, ◌∙◌}
use mathlib.Core.Bool.{Bool, true, false, ◌&&◌, ◌||◌, cond}
use mathlib.Core.Logic.{◌↔◌}
use native.Mathlib.Omega.{arith}
use native.Mathlib.Nat.{lt_of_not-le}
use native.Mathlib.Decide.{dec_lt}
use lib.Dec.{ltb}
use borrow.Author.Tests.{eq-eqb, ne_eqb, lt-ltb, le-ltb}
use Rattle.sets.specs.Set.{holds, join}
use Rattle.sets.proofs.Sets.{or-false, holds-empty, holds-join, holds-pow, set-ext, join-empty, join-comm, join-assoc}
use Rattle.rules.specs.Scan.{some}
use Rattle.rules.proofs.Scanning.{below_suc, choose, both, some-elim, some-intro, some_or}
use Rattle.matrix.specs.Matrix.{union_over}

union-holds : (f : ℕ → ℕ) (F n t : ℕ) → holds (union_over f F n) t ≡ some n (λ s. holds F s && holds (f s) t)
unfolding union_over some
union-holds f F zero t = holds-empty t
union-holds f F (suc n) t = go (holds F n) (union-holds f F n t)
  where
    go : (b : Bool) → holds (union_over f F n) t ≡ some n (λ s. holds F s && holds (f s) t)
        → holds (cond b (join (union_over f F n) (f n)) (union_over f F n)) t ≡ (some n (λ s. holds F s && holds (f s) t) || (b && holds (f n) t))
    go true ih = holds-join (union_over f F n) (f n) t ∙ ap (λ (x : Bool). x || holds (f n) t) ih
    go false ih = ih ∙ sym (or-false (some n (λ s. holds F s && holds (f s) t)))

-- t is in the union exactly when it is in the set of some state below n that F holds
pub union-exactly : (f : ℕ → ℕ) (F n t : ℕ) → holds (union_over f F n) t ≡ true ↔ ((s : ℕ) × (s < n) × (holds F s ≡ true) × (holds (f s) t ≡ true))
union-exactly f F n t = (
  λ e. let r = some-elim n (λ s. holds F s && holds (f s) t) (sym (union-holds f F n t) ∙ e) in let b = both (holds F r.0) (holds (f r.0) t) r.2 in (r.0, r.1, b.0, b.1),
  λ w. union-holds f F n t ∙ some-intro n (λ s. holds F s && holds (f s) t) w.0 w.1 (rw (w.2, w.3)),
)

pub union-same : (f g : ℕ → ℕ) (F n : ℕ) → ((s : ℕ) → s < n → f s ≡ g s) → union_over f F n ≡ union_over g F n
unfolding union_over
union-same f g F zero h = refl
union-same f g F (suc n) h = rw (union-same f g F n (λ s l. h s (omega arith)), h n (omega arith))

and-or : (a b c : Bool) → ((a || b) && c) ≡ (a && c || b && c)
and-or true true true = refl
and-or true true false = refl
and-or true false c = sym (or-false c)
and-or false b c = refl

pub union-join : (f : ℕ → ℕ) (F G n : ℕ) → union_over f (join F G) n ≡ join (union_over f F n) (union_over f G n)
union-join f F G n =
    set-ext (union_over f (join F G) n) (join (union_over f F n) (union_over f G n))
    (λ t.
    union-holds f (join F G) n t
    ∙ some_or n (λ s. holds F s && holds (f s) t) (λ s. holds G s && holds (f s) t) (λ s. holds (join F G) s && holds (f s) t)
    (λ s. rw (holds-join F G s) (and-or (holds F s) (holds G s) (holds (f s) t)))
    ∙ sym (holds-join (union_over f F n) (union_over f G n) t ∙ rw (union-holds f F n t, union-holds f G n t)))

pub union-none : (f : ℕ → ℕ) (n : ℕ) → union_over f 0 n ≡ 0
unfolding union_over
union-none f zero = refl
union-none f (suc n) = rw (holds-empty n) (union-none f n)

-- of one state: its set, where it is below n; else nothing
pub union-past : (f : ℕ → ℕ) (s n : ℕ) → n ≤ s → union_over f (2 ^ s) n ≡ 0
unfolding union_over
union-past f s zero h = refl
union-past f s (suc n) h = rw (holds-pow s n, ne_eqb n s (λ e. omega arith)) (union-past f s n (omega arith))

pub union-one : (f : ℕ → ℕ) (s n : ℕ) → s < n → union_over f (2 ^ s) n ≡ f s
unfolding union_over
union-one f s zero h = absurd (omega arith)
union-one f s (suc n) h =
    choose (below_suc s n h)
    (λ l. rw (holds-pow s n, ne_eqb n s (λ e. omega arith)) (union-one f s n l))
    (λ e. rw (holds-pow s n, eq-eqb n s (sym e), union-past f s n (omega arith), e) (join-empty (f n)))

-- ---- one state after the other is taken out of what is left, and its set joined to what there is

pub taken_out : (f : ℕ → ℕ) (all rest left s n : ℕ) → rest ≡ join left (2 ^ s)
    → join (cond (ltb s n) (join all (f s)) all) (union_over f left n) ≡ join all (union_over f rest n)
taken_out f all rest left s n e = elim (dec_lt s n) [ yes l ↦ inside l | no g ↦ outside (omega (arith, lt_of_not-le (λ (l : suc s ≤ n). g l))) ]
  where
    parts : union_over f rest n ≡ join (union_over f left n) (union_over f (2 ^ s) n)
    parts = rw e (union-join f left (2 ^ s) n)

    inside : s < n → join (cond (ltb s n) (join all (f s)) all) (union_over f left n) ≡ join all (union_over f rest n)
    inside l =
        rw (lt-ltb s n l)
        (join-assoc all (f s) (union_over f left n)
        ∙ ap (join all) (join-comm (f s) (union_over f left n) ∙ sym (parts ∙ ap (join (union_over f left n)) (union-one f s n l))))

    outside : n ≤ s → join (cond (ltb s n) (join all (f s)) all) (union_over f left n) ≡ join all (union_over f rest n)
    outside l =
        rw (le-ltb s n l)
        (ap (join all) (sym (parts ∙ ap (join (union_over f left n)) (union-past f s n l) ∙ join-comm (union_over f left n) 0 ∙ join-empty (union_over f left n))))

-- nothing is left
pub taken-all : (f : ℕ → ℕ) (all rest n : ℕ) → rest ≡ 0 → join all (union_over f rest n) ≡ all
taken-all f all rest n e = rw e (ap (join all) (union-none f n) ∙ join-comm all 0 ∙ join-empty all)
