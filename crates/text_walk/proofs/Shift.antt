-- The same part, d states further on. Assumes nothing.
use Prim.Native.Nat.{ℕ, ◌+◌, ◌-◌, ◌≤◌, ◌<◌}
use mathlib.Core.Path.{◌≡◌, refl, sym, ap, ◌∙◌}
use mathlib.Core.List.{List}
use native.Mathlib.Omega.{arith}
use native.Mathlib.Decide.{ℕ_discrete}
use lib.Dec.{eqb}
use borrow.Author.Tests.{eq-eqb, ne_eqb}
use Rattle.sets.specs.Set.{states, holds, set_of}
use Rattle.text.specs.Exp.{Exp, one, eps, cat, alt, plus, size}
use Rattle.sets_words.proofs.Further.{further-is}
use Rattle.text_walk.specs.declared.Shape.{Shape}
use Rattle.text_walk.specs.inner.Rows.{first_at, last_at, follows_at, letter_at, prior_at, bytes_of, Copied, Known, Sums, Further}
use Rattle.text_walk.proofs.Absolute.{first_out, last_out, follows-from-out}

-- ---- expressions

side : (k d s : ℕ) → k + d + s ≡ k + s + d
side k d s = omega arith

eqb-both : (k d q : ℕ) → eqb (q + d) (k + d) ≡ eqb q k
eqb-both k d q = go (ℕ_discrete q k)
  where
    go : Dec (q ≡ k) → eqb (q + d) (k + d) ≡ eqb q k
    go (yes e) = eq-eqb (q + d) (k + d) (omega arith) ∙ sym (eq-eqb q k e)
    go (no n) = ne_eqb (q + d) (k + d) (λ z. n (omega arith)) ∙ sym (ne_eqb q k n)

module _ (d : ℕ) where
  pub first-shift : (e : Exp) (k q : ℕ) → first_at (k + d) e (q + d) ≡ first_at k e q
  unfolding first_at
  first-shift (one s) k q = eqb-both k d q
  first-shift eps k q = refl
  first-shift (cat a b) k q = rw (side k d (size a), first-shift a k q, first-shift b (k + size a) q)
  first-shift (alt a b) k q = rw (side k d (size a), first-shift a k q, first-shift b (k + size a) q)
  first-shift (plus a) k q = first-shift a k q

  pub last-shift : (e : Exp) (k q : ℕ) → last_at (k + d) e (q + d) ≡ last_at k e q
  unfolding last_at
  last-shift (one s) k q = eqb-both k d q
  last-shift eps k q = refl
  last-shift (cat a b) k q = rw (side k d (size a), last-shift a k q, last-shift b (k + size a) q)
  last-shift (alt a b) k q = rw (side k d (size a), last-shift a k q, last-shift b (k + size a) q)
  last-shift (plus a) k q = last-shift a k q

  pub follows_shift : (e : Exp) (k p q : ℕ) → follows_at (k + d) e (p + d) (q + d) ≡ follows_at k e p q
  unfolding follows_at
  follows_shift (one s) k p q = refl
  follows_shift eps k p q = refl
  follows_shift (cat a b) k p q = rw (side k d (size a), follows_shift a k p q, follows_shift b (k + size a) p q, last-shift a k p, first-shift b (k + size a) q)
  follows_shift (alt a b) k p q = rw (side k d (size a), follows_shift a k p q, follows_shift b (k + size a) p q)
  follows_shift (plus a) k p q = rw (follows_shift a k p q, last-shift a k p, first-shift a k q)

  pub letter-shift : (e : Exp) (k q c : ℕ) → letter_at (k + d) e (q + d) c ≡ letter_at k e q c
  unfolding letter_at
  letter-shift (one s) k q c = rw (eqb-both k d q)
  letter-shift eps k q c = refl
  letter-shift (cat a b) k q c = rw (side k d (size a), letter-shift a k q c, letter-shift b (k + size a) q c)
  letter-shift (alt a b) k q c = rw (side k d (size a), letter-shift a k q c, letter-shift b (k + size a) q c)
  letter-shift (plus a) k q c = letter-shift a k q c

-- ---- the law

pub sum-move : (A B : List ℕ) (k d : ℕ) (e : Exp) (x r : Shape) → k + d + size e ≤ states → x.size ≡ size e → Sums A k e x → Copied k x.size d A B → Further d x r → Sums B (k + d) e r
sum-move A B k d e x r h n s w (z, o, f, l) = record {
  sized = z ∙ s.sized;
  nulls = o ∙ s.nulls;
  known = λ _.
      let u : Known A k e x = s.known (omega arith) in
      record {
        firsts = λ q. ap (λ z. holds z q) f ∙ further-is (set_of x.first) d (first_at k e) (first_at (k + d) e) u.firsts
            (λ q c. first_out e (k + d) q (λ z. omega (arith, z.0))) (λ q c. first_out e (k + d) q (λ z. omega (arith, z.1))) (λ q. first-shift d e k q) q;
        lasts = λ q. ap (λ z. holds z q) l ∙ further-is (set_of x.last) d (last_at k e) (last_at (k + d) e) u.lasts
            (λ q c. last_out e (k + d) q (λ z. omega (arith, z.0))) (λ q c. last_out e (k + d) q (λ z. omega (arith, z.1))) (λ q. last-shift d e k q) q;
        priors = λ t a b q.
            let i : t ≡ (t - d) + d = omega arith in
            let a2 : k ≤ t - d = omega arith in
            let b2 : t - d < k + size e = omega arith in
            ap (λ z. holds (prior_at B z) q) i ∙ ap (λ z. holds z q) (w.prior (t - d) a2 (omega arith))
            ∙ further-is (prior_at A (t - d)) d (λ p. follows_at k e p (t - d)) (λ p. follows_at (k + d) e p (t - d + d)) (u.priors (t - d) a2 b2)
            (λ q c. follows-from-out e (k + d) q (t - d + d) (λ z. omega (arith, z.0))) (λ q c. follows-from-out e (k + d) q (t - d + d) (λ z. omega (arith, z.1))) (λ q. follows_shift d e k q (t - d)) q
            ∙ ap (λ z. follows_at (k + d) e q z) (sym i);
        letters = λ t a b c o.
            let i : t ≡ (t - d) + d = omega arith in
            let a2 : k ≤ t - d = omega arith in
            let b2 : t - d < k + size e = omega arith in
            ap (λ z. holds (bytes_of B z) c) i ∙ ap (λ z. holds z c) (w.bytes (t - d) a2 (omega arith)) ∙ u.letters (t - d) a2 b2 c o ∙ sym (letter-shift d e k (t - d) c) ∙ ap (λ z. letter_at (k + d) e z c) (sym i);
      };
}
