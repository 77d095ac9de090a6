-- What the filler's stores do to the bytes: all made 0, and a state put into a set that stands there. Assumes nothing.
use Prim.Native.Nat.{ℕ, zero, suc, ◌+◌, ◌*◌, ◌/◌, ◌%◌, ◌^◌, ◌≤◌, ◌<◌}
use mathlib.Core.Path.{◌≡◌, refl, sym, ap, ◌∙◌}
use mathlib.Core.List.{List, [], ◌∷◌, ◌++◌, append_assoc}
use native.Mathlib.Omega.{arith}
use native.Mathlib.Nat.{add-zero, mod-lt}
use lib.ListN.{length, get_or, set, take, drop, replicate, take-append-drop, length-drop}
use lib.Seq.{length-take-le}
use lib.Dec.{lit<}
use lib.Bits.{bit_or, or_lt}
use borrow.Author.Tests.{lt-ltb}
use Rattle.numbers.specs.Number.{placed}
use Rattle.sets.specs.Set.{states, set_size, set_bytes, bytes_at, set_at, insert, read_at}
use Rattle.numbers.proofs.Laws.{Small, small-take, small-drop, small-set, num-with, digits-num}
use Rattle.sets.proofs.Sets.{byte-in}
use Rattle.numbers.proofs.Placing.{placed-fits}
use Rattle.matrix.specs.inner.Filling.{joined_at}

-- ---- all bytes 0

pub zeros-long : (i : ℕ) → length (replicate {A = ℕ} i 0) ≡ i
zeros-long zero = refl
zeros-long (suc i) = ap suc (zeros-long i)

-- ---- one byte of a part

take-set : (m : ℕ) (b : List ℕ) (i v : ℕ) → i < m → set (take m b) i v ++ drop m b ≡ set b i v
take-set zero b i v h = absurd (omega arith)
take-set (suc m) [] i v h = refl
take-set (suc m) (x ∷ b) zero v h = ap {B = List ℕ} (λ (xs : List ℕ). v ∷ xs) (take-append-drop m b)
take-set (suc m) (x ∷ b) (suc i) v h = ap {B = List ℕ} (λ (xs : List ℕ). x ∷ xs) (take-set m b i v (omega arith))

part-set : (at m : ℕ) (b : List ℕ) (i v : ℕ) → i < m → at ≤ length b → take at b ++ (set (take m (drop at b)) i v ++ drop (m + at) b) ≡ set b (i + at) v
part-set zero m b i v h l = rw (add-zero m, add-zero i) (take-set m b i v h)
part-set (suc at) m [] i v h l = absurd (omega arith)
part-set (suc at) m (x ∷ b) i v h l =
    let p : m + suc at ≡ suc (m + at) = omega arith in
    let q : i + suc at ≡ suc (i + at) = omega arith in
    rw (p, q) (ap {B = List ℕ} (λ (xs : List ℕ). x ∷ xs) (part-set at m b i v h (omega arith)))

length-set' : (xs : List ℕ) (i v : ℕ) → length (set xs i v) ≡ length xs
length-set' [] i v = refl
length-set' (x ∷ xs) zero v = refl
length-set' (x ∷ xs) (suc i) v = ap suc (length-set' xs i v)

placed-set : (b : List ℕ) (at i v : ℕ) → i < set_size → at + set_size ≤ length b → placed b at (set (bytes_at b at) i v) ≡ set b (at + i) v
placed-set b at i v h l =
    let long : length (set (bytes_at b at) i v) ≡ set_size = length-set' (bytes_at b at) i v ∙ length-take-le set_size (drop at b) (rw length-drop (omega arith)) in
    let e : at + length (set (bytes_at b at) i v) ≡ set_size + at = omega (arith, long) in
    let q : at + i ≡ i + at = omega arith in
    placed-fits b at (set (bytes_at b at) i v) (omega (arith, e))
    ∙ rw (e, q) (append_assoc (take at b) (set (bytes_at b at) i v) (drop (set_size + at) b) ∙ part-set at set_size b i v h (omega arith))

-- a state put into the set that stands at a place
module _ (b : List ℕ) (at t : ℕ) (h : Small 8 b) (l : at + set_size ≤ length b) (k : t < states) where
  abbrev v : ℕ
  v = bit_or (get_or (bytes_at b at) (t / 8) 0) ((1 * 2 ^ (t % 8)) % 2 ^ 8)

  small-ws : Small 8 (bytes_at b at)
  small-ws = small-take 8 set_size (drop at b) (small-drop 8 at b h)

  small-v : v < 2 ^ 8
  small-v = or_lt 8 (get_or (bytes_at b at) (t / 8) 0) ((1 * 2 ^ (t % 8)) % 2 ^ 8) (small-ws (t / 8)) (mod-lt (1 * 2 ^ (t % 8)) (lit< tt))

  long-ws : length (bytes_at b at) ≡ set_size
  long-ws = length-take-le set_size (drop at b) (rw length-drop (omega arith))

  bytes-put : set_bytes (insert states (set_at b at) t) ≡ set (bytes_at b at) (t / 8) v
  unfolding read_at insert
  bytes-put =
      rw (lt-ltb t states k, ← num-with 8 (bytes_at b at) small-ws (lit< tt) t (omega (arith, long-ws)))
      (rw (length-set' (bytes_at b at) (t / 8) v ∙ long-ws) at (digits-num 8 (set (bytes_at b at) (t / 8) v) (small-set 8 (bytes_at b at) (t / 8) v small-ws small-v)))

  pub put-at : set b (at + t / 8) (bit_or (get_or b (at + t / 8) 0) ((1 * 2 ^ (t % 8)) % 2 ^ 8)) ≡ joined_at b at t
  put-at =
      ap (λ (x : ℕ). set b (at + t / 8) (bit_or x ((1 * 2 ^ (t % 8)) % 2 ^ 8))) (sym (byte-in b at (t / 8) (omega arith)))
      ∙ sym (ap (placed b at) bytes-put ∙ placed-set b at (t / 8) v (omega arith) l)
