-- Bytes written at a place of a list: what stands there, and what stays. Assumes nothing.
use Prim.Native.Nat.{ℕ, suc, ◌+◌, ◌-◌, ◌*◌, ◌^◌, ◌≤◌, ◌<◌}
use mathlib.Core.Path.{◌≡◌, sym, ap, ◌∙◌}
use mathlib.Core.List.{List, ◌++◌, append_assoc}
use native.Mathlib.Omega.{arith}
use native.Mathlib.Nat.{lt_of_not-le}
use native.Mathlib.Decide.{dec_lt}
use lib.ListN.{length, take, drop, length-append, length-drop}
use lib.Seq.{take-append-le, drop-append-le, drop-append-add, drop_at, take_at, drop-drop, length-take-le}
use borrow.Author.Tests.{le-leb}
use Rattle.numbers.specs.Number.{num, placed}
use Rattle.sets.specs.Set.{states, set_size, set_bytes, read_at}
use Rattle.numbers.proofs.Laws.{length_digits, num-digits}
use Rattle.table.specs.Table.{part}

-- ---- bytes written at a place

module _ (b : List ℕ) (at : ℕ) (xs : List ℕ) (n : ℕ) (size : length xs ≡ n) (room : at + n ≤ length b) where
  whole : placed b at xs ≡ take at b ++ (xs ++ drop (at + n) b)
  unfolding placed
  whole = rw (size, le-leb (at + n) (length b) room)

  front : length (take at b) ≡ at
  front = length-take-le at b (omega arith)

  pub placed-length : length (placed b at xs) ≡ length b
  placed-length =
      ap length whole
      ∙ length-append (take at b) (xs ++ drop (at + n) b)
      ∙ ap (λ (m : ℕ). length (take at b) + m) (length-append xs (drop (at + n) b))
      ∙ omega (arith, front, size, length-drop (at + n) b)

  -- what stands there
  pub placed-here : take n (drop at (placed b at xs)) ≡ xs
  placed-here =
      ap (λ (l : List ℕ). take n (drop at l)) whole
      ∙ ap (take n) (drop_at (take at b) (xs ++ drop (at + n) b) at front)
      ∙ take_at xs (drop (at + n) b) n size

  -- what stands before it, and behind it
  pub placed-before : (m a : ℕ) → a + m ≤ at → take m (drop a (placed b at xs)) ≡ take m (drop a b)
  placed-before m a l =
      ap (λ (z : List ℕ). take m (drop a z)) whole ∙ inside (xs ++ drop (at + n) b)
      ∙ sym (inside (drop at b)) ∙ ap (λ (z : List ℕ). take m (drop a z)) (lib.ListN.take-append-drop at b)
    where
      inside : (R : List ℕ) → take m (drop a (take at b ++ R)) ≡ take m (drop a (take at b))
      inside R =
          ap (take m) (drop-append-le a (take at b) R (omega (arith, front)))
          ∙ take-append-le m (drop a (take at b)) R (omega (arith, front, length-drop a (take at b)))

  pub placed-behind : (a : ℕ) → at + n ≤ a → drop a (placed b at xs) ≡ drop a b
  placed-behind a l =
      let k : a ≡ length (take at b) + (n + (a - (at + n))) = omega (arith, front) in
      let k' : n + (a - (at + n)) ≡ length xs + (a - (at + n)) = omega (arith, size) in
      let k'' : at + n + (a - (at + n)) ≡ a = omega arith in
      ap (λ (z : List ℕ). drop a z) whole
      ∙ ap (λ (m : ℕ). drop m (take at b ++ (xs ++ drop (at + n) b))) k
      ∙ drop-append-add (take at b) (xs ++ drop (at + n) b) (n + (a - (at + n)))
      ∙ ap (λ (m : ℕ). drop m (xs ++ drop (at + n) b)) k'
      ∙ drop-append-add xs (drop (at + n) b) (a - (at + n))
      ∙ drop-drop (a - (at + n)) (at + n) b
      ∙ ap (λ (m : ℕ). drop m b) k''

-- two writes, one behind the other
pub placed-twice : (b : List ℕ) (at : ℕ) (xs ys : List ℕ) (n m : ℕ) → length xs ≡ n → length ys ≡ m → at + n + m ≤ length b
    → placed (placed b at xs) (at + n) ys ≡ placed b at (xs ++ ys)
placed-twice b at xs ys n m p q h =
    let c = placed b at xs in
    let lc : length c ≡ length b = placed-length b at xs n p (omega arith) in
    let s : length (xs ++ ys) ≡ n + m = length-append xs ys ∙ omega arith in
    whole c (at + n) ys m q (omega arith)
    ∙ ap (λ (z : List ℕ). z ++ (ys ++ drop (at + n + m) c)) (ap (take (at + n)) (whole b at xs n p (omega arith) ∙ sym (append_assoc (take at b) xs (drop (at + n) b))) ∙ take_at (take at b ++ xs) (drop (at + n) b) (at + n) (length-append (take at b) xs ∙ omega (arith, front b at xs n p (omega arith))))
    ∙ ap (λ (z : List ℕ). (take at b ++ xs) ++ (ys ++ z)) (placed-behind b at xs n p (omega arith) (at + n + m) (omega arith))
    ∙ append_assoc (take at b) xs (ys ++ drop (at + n + m) b)
    ∙ ap (λ (z : List ℕ). take at b ++ z) (sym (append_assoc xs ys (drop (at + n + m) b)))
    ∙ ap (λ (k : ℕ). take at b ++ ((xs ++ ys) ++ drop k b)) (let e : at + n + m ≡ at + (n + m) = omega arith in e)
    ∙ sym (whole b at (xs ++ ys) (n + m) s (omega arith))

-- ---- a set written at a place

abbrev pub put : List ℕ → ℕ → ℕ → List ℕ
put b n t = placed b (set_size * n) (set_bytes t)

module _ (b : List ℕ) (n t : ℕ) (room : set_size * n + set_size ≤ length b) where
  pub put-length : length (put b n t) ≡ length b
  put-length = placed-length b (set_size * n) (set_bytes t) set_size (length_digits 8 set_size t) room

  pub put_same : t < 2 ^ states → part (put b n t) n ≡ t
  unfolding part read_at
  put_same h = ap (num 8) (placed-here b (set_size * n) (set_bytes t) set_size (length_digits 8 set_size t) room) ∙ num-digits 8 set_size t h

  pub put_other : (i : ℕ) → (i ≡ n → ⊥) → part (put b n t) i ≡ part b i
  unfolding part read_at
  put_other i ne =
      ap (num 8)
      (elim (dec_lt i n) [
        | yes l ↦ placed-before b (set_size * n) (set_bytes t) set_size (length_digits 8 set_size t) room set_size (set_size * i) (omega arith)
        | no g ↦ ap (take set_size) (placed-behind b (set_size * n) (set_bytes t) set_size (length_digits 8 set_size t) room (set_size * i) (omega (arith, ne, lt_of_not-le (λ (l : suc i ≤ n). g l))))
      ])
