-- The quick tests of the frontier step: a range tested at once, and a state's place in its word. Assumes nothing.
use Prim.Native.Nat.{ℕ, suc, ◌+◌, ◌-◌, ◌/◌, ◌%◌, ◌≤◌, ◌<◌}
use mathlib.Core.Path.{◌≡◌, refl, sym, ap, ◌∙◌}
use mathlib.Core.Bool.{Bool, true, false, ◌&&◌, ◌||◌, true≢false}
use mathlib.Core.List.{List}
use native.Mathlib.Omega.{arith}
use native.Mathlib.Nat.{lt_of_not-le}
use native.Mathlib.Decide.{dec_lt}
use lib.ListN.{length, get_or}
use lib.Dec.{leb, ltb, eqb}
use borrow.Author.Tests.{le-leb, lt-leb, lt-ltb, le-ltb}
use Rattle.numbers.specs.Number.{num, bit}
use Rattle.sets.specs.Set.{holds}
use Rattle.sets.proofs.Sets.{Words, word_holds}
use Rattle.rules.specs.Scan.{some}
use Rattle.rules.proofs.Scanning.{and-false, some-intro}
use Rattle.list.proofs.Letters.{between-words, outside}

-- how far c is above a, where 0 follows 255
abbrev pub above : ℕ → ℕ → ℕ
above a c = (c + 256 - a) % 256

-- a is at most b where as far above a as b is does not lie behind 255
pub ordered : (a b : ℕ) → a < 256 → b < 256 → ltb (a + above a b) 256 ≡ leb a b
ordered a b ha hb =
    elim (dec_lt b a) [
      | yes l ↦ rw (lt-leb a b l) (le-ltb (a + above a b) 256 (omega arith))
      | no n ↦
          let g : a ≤ b = omega (arith, lt_of_not-le (λ (h : suc b ≤ a). n h)) in
          rw (le-leb a b g) (lt-ltb (a + above a b) 256 (omega arith))
    ]

-- c is from a to b exactly when a is at most b and c is no further above a than b is
pub nearer : (a c b : ℕ) → a < 256 → c < 256 → b < 256 → (leb (above a c) (above a b) && leb a b) ≡ (leb a c && leb c b)
nearer a c b ha hc hb =
    elim (dec_lt b a) [
      | yes l ↦ rw (lt-leb a b l, outside a b c (λ w. omega (arith, l, w.0, w.1))) (and-false (leb (above a c) (above a b)))
      | no n ↦ let g : a ≤ b = omega (arith, lt_of_not-le (λ (h : suc b ≤ a). n h)) in rw (le-leb a b g) (whole g)
    ]
  where
    whole : a ≤ b → (leb (above a c) (above a b) && true) ≡ (leb a c && leb c b)
    whole g =
        elim (dec_lt (above a b) (above a c)) [
          | yes l ↦ rw (lt-leb (above a c) (above a b) l, outside a b c (λ w. omega (arith, l)))
          | no n ↦ let f : above a c ≤ above a b = omega (arith, lt_of_not-le (λ (h : suc (above a b) ≤ above a c). n h)) in
              rw (le-leb (above a c) (above a b) f, (between-words a b c).1 (omega (arith, f), omega (arith, f)))
        ]

-- the same of two bytes at once, of which the second counts where e holds
pub either-near : (a b c d : ℕ) (e : Bool) → a < 256 → b < 256 → c < 256 → d < 256
    → ((leb (above a c) (above a b) || e && (leb a d && leb (above a d) (above a b))) && leb a b) ≡ (leb a c && leb c b || e && (leb a d && leb d b))
either-near a b c d e ha hb hc hd =
    rw (← nearer a c b ha hc hb, ← second) (spread (leb (above a c) (above a b)) e (leb a d && leb (above a d) (above a b)) (leb a b))
  where
    spread : (n e m o : Bool) → ((n || e && m) && o) ≡ (n && o || e && (m && o))
    spread true e m true = refl
    spread true true true false = refl
    spread true true false false = refl
    spread true false m false = refl
    spread false true m o = refl
    spread false false m o = refl

    twice : (s t : Bool) → (s && (s && t)) ≡ (s && t)
    twice true t = refl
    twice false t = refl

    group : (r s t : Bool) → (r && s && t) ≡ (r && (s && t))
    group true s t = refl
    group false s t = refl

    second : (leb a d && leb (above a d) (above a b) && leb a b) ≡ (leb a d && leb d b)
    second = group (leb a d) (leb (above a d) (above a b)) (leb a b) ∙ ap (λ (t : Bool). leb a d && t) (nearer a d b ha hd hb) ∙ twice (leb a d) (leb d b)

-- a state of the set has its place in the words laid over one another
pub has-place : (m : ℕ) (ws : List ℕ) (p : ℕ) → Words m ws → ((j : ℕ) → holds p j ≡ some (length ws) (λ i. holds (get_or ws i 0) j))
    → (s : ℕ) → holds (num 64 ws) s ≡ true → holds p (s % 64) ≡ true
has-place m ws p v a s e =
    let w = word_holds m ws v s e in
    a (s % 64) ∙ some-intro (length ws) (λ i. holds (get_or ws i 0) (s % 64)) (s / 64) (omega (arith, w.0, v.long)) w.1

-- so one whose place is empty is not in it
pub no_place : (F p s : ℕ) → (holds F s ≡ true → holds p (s % 64) ≡ true) → bit p (s % 64) ≡ 0 → holds F s ≡ false
unfolding holds
no_place F p s h z = go (holds F s) refl
  where
    go : (b : Bool) → holds F s ≡ b → b ≡ false
    go false q = refl
    go true q = absurd (true≢false (sym (h q) ∙ ap (λ (x : ℕ). eqb x 1) z))
