-- The expression of a tree stands for what the tree means.
use Prim.Native.Nat.{ℕ, zero, suc}
use mathlib.Core.Path.{◌≡◌}
use mathlib.Core.Bool.{true, ◌&&◌}
use mathlib.Core.List.{List, []}
use mathlib.Core.Logic.{inl, inr}
use lib.Dec.{leb}
use borrow.Author.Tests.{leb-true}
use Rattle.text.specs.Exp.{Exp, one, eps, cat, In, Then, Times}
use Rattle.text.specs.Grammar.{Mark, bare, star, more, maybe, rep, Body, end, bar, leaf, group, leaf_has, number, marked, exp, ok_mark, ok_body, ok_leaf, ok_number}
use Rattle.text.specs.Means.{Byte, Marked, Means}
use Rattle.text.proofs.Places.{both}
use Rattle.text.proofs.Runs.{times-in, in-times}

abbrev To : (List ℕ → Type 0) → (List ℕ → Type 0) → Type 0
To P Q = (w : List ℕ) → P w → Q w

times-map : (P Q : List ℕ → Type 0) → To P Q → (n : ℕ) → To (Times P n) (Times Q n)
times-map P Q f zero w t = t
times-map P Q f (suc n) w (u, v, e, p, t) = (u, v, e, f u p, times-map P Q f n v t)

marked-map : (m : Mark) (P Q : List ℕ → Type 0) → To P Q → To (Marked m P) (Marked m Q)
marked-map bare P Q f w k = f w k
marked-map star P Q f w (n, t) = (n, times-map P Q f n w t)
marked-map more P Q f w (u, v, e, p, (n, t)) = (u, v, e, f u p, (n, times-map P Q f n v t))
marked-map maybe P Q f w (inl k) = inl (f w k)
marked-map maybe P Q f w (inr e) = inr e
marked-map (rep m n) P Q f w (k, a, b, t) = (k, a, b, times-map P Q f k w t)

marked-in : (m : Mark) (e : Exp) → To (Marked m (In e)) (In (marked m e))
unfolding marked
marked-in bare e w k = k
marked-in star e w (zero, t) = inr t
marked-in star e w (suc n, (u, v, p, i, t)) = inl (u, v, p, i, (n, t))
marked-in more e w k = k
marked-in maybe e w k = k
marked-in (rep m n) e w (k, a, b, t) = times-in e (number m) (number n) k w a b t

in-marked : (m : Mark) (e : Exp) → ok_mark m ≡ true → To (In (marked m e)) (Marked m (In e))
unfolding marked ok_mark
in-marked bare e ok w k = k
in-marked star e ok w (inl (u, v, p, i, (n, t))) = (suc n, (u, v, p, i, t))
in-marked star e ok w (inr t) = (0, t)
in-marked more e ok w k = k
in-marked maybe e ok w k = k
in-marked (rep m n) e ok w k =
    in-times e (number m) (number n) w (leb-true (number m) (number n) (both (ok_number m && ok_number n) (leb (number m) (number n)) ok).1) k

then-both : (P Q R S : List ℕ → Type 0) → To P R → To Q S → To (Then P Q) (Then R S)
then-both P Q R S f g w (u, v, e, p, q) = (u, v, e, f u p, g v q)

pub means-in : (b : Body) (P : List ℕ → Type 0) (e : Exp) → To P (In e) → To (Means P b) (In (exp e b))
unfolding exp
means-in end P e f w k = f w k
means-in (bar b) P e f w (inl k) = inl (f w k)
means-in (bar b) P e f w (inr k) = inr (means-in b (λ u. u ≡ []) eps (λ u q. q) w k)
means-in (leaf l m b) P e f w k =
    means-in b (Then P (Marked m (Byte l))) (cat e (marked m (one (leaf_has l))))
    (then-both P (Marked m (Byte l)) (In e) (In (marked m (one (leaf_has l)))) f (marked-in m (one (leaf_has l)))) w k
means-in (group x m b) P e f w k =
    means-in b (Then P (Marked m (Means (λ u. u ≡ []) x))) (cat e (marked m (exp eps x)))
    (then-both P (Marked m (Means (λ u. u ≡ []) x)) (In e) (In (marked m (exp eps x))) f
    (λ u q. marked-in m (exp eps x) u (marked-map m (Means (λ u. u ≡ []) x) (In (exp eps x)) (means-in x (λ u. u ≡ []) eps (λ u q. q)) u q))) w k

pub in-means : (b : Body) (P : List ℕ → Type 0) (e : Exp) → ok_body b ≡ true → To (In e) P → To (In (exp e b)) (Means P b)
unfolding exp ok_body
in-means end P e ok f w k = f w k
in-means (bar b) P e ok f w (inl k) = inl (f w k)
in-means (bar b) P e ok f w (inr k) = inr (in-means b (λ u. u ≡ []) eps ok (λ u q. q) w k)
in-means (leaf l m b) P e ok f w k =
    let q = both (ok_leaf l && ok_mark m) (ok_body b) ok in
    in-means b (Then P (Marked m (Byte l))) (cat e (marked m (one (leaf_has l)))) q.1
    (then-both (In e) (In (marked m (one (leaf_has l)))) P (Marked m (Byte l)) f (in-marked m (one (leaf_has l)) (both (ok_leaf l) (ok_mark m) q.0).1)) w k
in-means (group x m b) P e ok f w k =
    let q = both (ok_body x && ok_mark m) (ok_body b) ok in
    let o = both (ok_body x) (ok_mark m) q.0 in
    in-means b (Then P (Marked m (Means (λ u. u ≡ []) x))) (cat e (marked m (exp eps x))) q.1
    (then-both (In e) (In (marked m (exp eps x))) P (Marked m (Means (λ u. u ≡ []) x)) f
    (λ u j. marked-map m (In (exp eps x)) (Means (λ u. u ≡ []) x) (in-means x (λ u. u ≡ []) eps o.0 (λ u q. q)) u (in-marked m (exp eps x) o.1 u j))) w k
