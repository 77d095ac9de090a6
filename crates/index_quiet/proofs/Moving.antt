-- Quiet bytes: from byte i at place p to byte j at place q for n rows, whatever the feed began with and has told. Assumes nothing.
use Prim.Native.Nat.{ℕ, zero, suc, ◌+◌, ◌*◌, ◌-◌, ◌%◌, ◌≤◌, ◌<◌}
use mathlib.Core.Path.{◌≡◌, sym, subst}
use mathlib.Core.Bool.{true, false}
use mathlib.Core.List.{List}
use native.Mathlib.Omega.{arith}
use lib.ListN.{length, get_or}
use lib.Dec.{ltb, eqb}
use borrow.Author.Tests.{lt-ltb, lt-leb, ne_eqb, leb-false}
use Rattle.index_blocks.specs.inner.Ranges.{inside, hot}
use Rattle.index_blocks.specs.Block.{word_at}
use Rattle.index_blocks.proofs.Quiet.{more-quiet}
use Rattle.index_blocks.proofs.Blocks.{or_left}
use Rattle.index.specs.Entry.{limit, telling, place_of, told_of, cost_at}
use Rattle.index_quiet.specs.inner.Moves.{Moves}

pub still : (X P : List ℕ) (i p : ℕ) → Moves X P i p i p 0
still X P i p = record { going = λ S F x₀ k₀ out₀ out w m g. let a : m + 0 ≡ m = omega arith in rw a g }

pub join : {X P : List ℕ} {i p j q k r n m : ℕ} → Moves X P i p j q n → Moves X P j q k r m → (t : ℕ) → t ≡ n + m → Moves X P i p k r t
join {n = n} {m = m} a b t e =
    record {
      going = λ S F x₀ k₀ out₀ out w l g.
          let s : l + t ≡ l + n + m = omega (arith, e) in
          rw s (b.going S F x₀ k₀ out₀ out w (l + n) (a.going S F x₀ k₀ out₀ out w l g));
    }

-- a byte whose word names a place and tells nothing
pub step : (X P : List ℕ) (i p j q : ℕ) → i < length P → p < limit X → word_at X p (get_or P i 0) ≡ q → q < telling → j ≡ i + 1 → Moves X P i p j q (cost_at X p)
unfolding told_of
step X P i p j q l h e t s =
    record {
      going = λ S F x₀ k₀ out₀ out w m g.
          let y : ltb q telling ≡ true = lt-ltb q telling t in
          let z : told_of X (word_at X p (get_or P i 0)) ≡ 0 = rw (e, y) in
          let v : place_of (word_at X p (get_or P i 0)) ≡ q = rw (e, y) in
          let u : j ≡ suc i = omega (arith, s) in
          let nz : eqb j 0 ≡ false = ne_eqb j 0 (λ q. absurd (omega (arith, q, s))) in
          let r = more-quiet g l (lt-leb (limit X) p h) z in
          rw (nz, u) (rw v at r);
    }

-- k bytes whose word at p is p itself
pub stay : (X P : List ℕ) (i p k : ℕ) → i + k ≤ length P → p < limit X → p < telling → ((j : ℕ) → j < k → word_at X p (get_or P (i + j) 0) ≡ p)
    → Moves X P i p (i + k) p (k * cost_at X p)
stay X P i p zero l h t q =
    let a : i + 0 ≡ i = omega arith in
    let b : 0 * cost_at X p ≡ 0 = omega arith in
    rw (a, b) (still X P i p)
stay X P i p (suc k) l h t q =
    let e = q k (omega arith) in
    join (stay X P i p k (omega arith) h t (λ j lj. q j (omega (arith, lj)))) (step X P (i + k) p (i + suc k) p (omega arith) h e t (omega arith)) (suc k * cost_at X p) (omega arith)

-- one byte more
pub on : {X P : List ℕ} {f p₀ i p n : ℕ} → Moves X P f p₀ i p n → (j q t : ℕ) → i < length P → p < limit X → q ≡ word_at X p (get_or P i 0) → q < telling → j ≡ i + 1 → t ≡ n + cost_at X p
    → Moves X P f p₀ j q t
on {X} {P} {i = i} {p = p} a j q t l h e k s r = join a (step X P i p j q l h (sym e) k s) t r

-- k bytes more at a place whose ranges they lie outside of
pub stays_on : (X P : List ℕ) (from place n k a m b q : ℕ) → Moves X P from place (from + n) place (n * cost_at X place) → from + (n + k) ≤ length P → place < limit X → place < telling
    → ((c : ℕ) → c < 256 → hot a m b q c ≡ false → word_at X place c ≡ place) → ((j : ℕ) → get_or P j 0 < 256)
    → ((j : ℕ) → j < k → hot a m b q (get_or P (from + n + j) 0) ≡ false) → Moves X P from place (from + (n + k)) place ((n + k) * cost_at X place)
stays_on X P from place n k a m b q old l h t cover bytes out =
    let e : from + (n + k) ≡ from + n + k = omega arith in
    let d : (n + k) * cost_at X place ≡ n * cost_at X place + k * cost_at X place = omega arith in
    rw e (join old (stay X P (from + n) place k (omega arith) h t (λ j lj. cover (get_or P (from + n + j) 0) (bytes (from + n + j)) (out j lj))) ((n + k) * cost_at X place) d)

pub none_yet : (X P : List ℕ) (from place : ℕ) → Moves X P from place (from + 0) place (0 * cost_at X place)
none_yet X P from place =
    let a : from + 0 ≡ from = omega arith in
    let b : 0 * cost_at X place ≡ 0 = omega arith in
    rw (a, b) (still X P from place)

-- ranges of all bytes leave none outside
pub all-hot : (c : ℕ) → hot 0 255 0 255 c ≡ false → ⊥
all-hot c e =
    let h : 255 < (c + (256 - 0)) % 256 = leb-false ((c + (256 - 0)) % 256) 255 (or_left (inside 0 255 c) (inside 0 255 c) e) in
    omega (arith, h)

pub landed : {X P : List ℕ} {i p j q r n : ℕ} → Moves X P i p j q n → q ≡ r → Moves X P i p j r n
landed {X} {P} {i} {p} {j} {q} {r} {n} m e = subst (λ (x : ℕ). Moves X P i p j x n) e m
