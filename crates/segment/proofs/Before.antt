-- "All its bytes came before", byte by byte. Assumes nothing.
use Rattle.std.proofs.Common.{◌≡◌, ℕ, ◌+◌, ◌-◌, ◌%◌, ◌<◌, ◌≤◌, Bool, true, false, not, ◌||◌, eqb, ◌↔◌, sym, refl, ◌∙◌, subst, true≢false, arith, eqb-true}
use native.Mathlib.Decide.{dec_lt}
use borrow.Author.Tests.{eqb-false}
use Rattle.segment.specs.Resend.{circle, half, ahead, has_next, all_before}
use Rattle.segment.proofs.Circle.{ahead-exactly, has-next-exactly}

-- of n bytes from number p on each is neither the next nor ahead of it
abbrev EachBefore : ℕ → ℕ → ℕ → Type 0
EachBefore next p n = (i : ℕ) → i < n → (((p + i) % circle ≡ next) → ⊥) × (ahead next ((p + i) % circle) ≡ false)

back : (next p n : ℕ) → next < circle → p < circle → n ≤ half → EachBefore next p n → all_before next p n ≡ true
unfolding all_before
back next p n ln lp h f = go (eqb n 0) refl (ahead next p) refl (has_next next p n) refl
  where
    go : (a : Bool) → eqb n 0 ≡ a → (b : Bool) → ahead next p ≡ b → (c : Bool) → has_next next p n ≡ c → (a || not (b || c)) ≡ true
    go true e b q c r = refl
    go false e false q false r = refl
    go false e true q c r =
        let z : 0 < n = omega (arith, eqb-false n 0 e) in
        let s : (p + 0) % circle ≡ p = omega arith in absurd (true≢false (sym q ∙ subst (λ x. ahead next x ≡ false) s (f 0 z).1))
    go false e false q true r = let (i, l, m) = (has-next-exactly next p n ln lp (omega arith)).0 r in absurd ((f i l).0 m)

there : (next p n : ℕ) → next < circle → p < circle → n ≤ half → (eqb n 0 ≡ false) → ahead next p ≡ false → has_next next p n ≡ false → EachBefore next p n
there next p n ln lp h e q r i l = (nexts, aheads (ahead next ((p + i) % circle)) refl)
  where
    nexts : (p + i) % circle ≡ next → ⊥
    nexts m = true≢false (sym ((has-next-exactly next p n ln lp (omega arith)).1 (i, l, m)) ∙ r)

    aheads : (b : Bool) → ahead next ((p + i) % circle) ≡ b → b ≡ false
    aheads false a = refl
    aheads true a =
        let (k, k0, kh, m) = (ahead-exactly next ((p + i) % circle) ln (omega arith)).0 a in
        elim (dec_lt i k) [
          | yes y ↦ absurd (true≢false (sym ((ahead-exactly next p ln lp).1 (k - i, omega arith, omega arith, omega (arith, m))) ∙ q))
          | no y ↦ absurd (true≢false (sym ((has-next-exactly next p n ln lp (omega arith)).1 (i - k, omega arith, omega (arith, m, y))) ∙ r))
        ]

-- a place is free, and a segment has all come before, exactly where each of its bytes has
pub all-before-exactly : (next p n : ℕ) → next < circle → p < circle → n ≤ half
    → all_before next p n ≡ true ↔ ((i : ℕ) → i < n → (((p + i) % circle ≡ next) → ⊥) × (ahead next ((p + i) % circle) ≡ false))
unfolding all_before
all-before-exactly next p n ln lp h = (λ z. go (eqb n 0) refl (ahead next p) refl (has_next next p n) refl z, back next p n ln lp h)
  where
    go : (a : Bool) → eqb n 0 ≡ a → (b : Bool) → ahead next p ≡ b → (c : Bool) → has_next next p n ≡ c → (a || not (b || c)) ≡ true → EachBefore next p n
    go true e b q c r z = λ i l. absurd (omega (arith, eqb-true n 0 e))
    go false e false q false r z = there next p n ln lp h e q r
    go false e true q c r z = absurd (true≢false (sym z))
    go false e false q true r z = absurd (true≢false (sym z))
