-- Words or bytes written over a list: none, one more, more after them, and all of it. Assumes nothing.
use Prim.Native.Nat.{ℕ, suc, ◌+◌, ◌≤◌, ◌<◌}
use mathlib.Core.Path.{◌≡◌, refl, sym, ap, ◌∙◌}
use mathlib.Core.List.{List, [], ◌∷◌, ◌++◌, append_assoc, append-nil}
use mathlib.Core.Bool.{Bool, true, false, cond}
use native.Mathlib.Omega.{arith}
use native.Mathlib.Nat.{lt_of_not-le}
use native.Mathlib.Decide.{dec_lt}
use lib.ListN.{length, get_or, set, take, drop, length-append, length-drop, take-append-drop}
use lib.Seq.{drop-cons, drop-drop, take_at, drop_at, set_at, drop-length, length-take-le}
use lib.Dec.{leb}
use borrow.Author.Tests.{le-leb, leb-true}
use Rattle.numbers.specs.Number.{placed}
use Rattle.numbers.proofs.Bytes.{placed-out}

-- where it fits
pub placed-fits : (b : List ℕ) (at : ℕ) (xs : List ℕ) → at + length xs ≤ length b → placed b at xs ≡ (take at b ++ xs) ++ drop (at + length xs) b
unfolding placed
placed-fits b at xs l = rw (le-leb (at + length xs) (length b) l) (sym (append_assoc (take at b) xs (drop (at + length xs) b)))

-- the list keeps its length
pub length-placed : (b : List ℕ) (at : ℕ) (xs : List ℕ) → length (placed b at xs) ≡ length b
unfolding placed
length-placed b at xs = go (leb (at + length xs) (length b)) refl
  where
    go : (t : Bool) → leb (at + length xs) (length b) ≡ t → length (cond t (take at b ++ (xs ++ drop (at + length xs) b)) b) ≡ length b
    go true e =
        let l = leb-true (at + length xs) (length b) e in
        let h : length (take at b) ≡ at = length-take-le at b (omega arith) in
        simp (length-append, length-drop) (omega arith)
    go false e = refl

-- nothing is written
pub placed-none : (b : List ℕ) (at : ℕ) → at ≤ length b → b ≡ placed b at []
placed-none b at l =
    let e : at + 0 ≡ at = omega arith in
    sym (placed-fits b at [] (omega arith) ∙ rw (e, append-nil (take at b)) (take-append-drop at b))

-- and nothing at all, put at any place
pub placed-empty : (b : List ℕ) (at : ℕ) (xs : List ℕ) → length xs ≡ 0 → b ≡ placed b at xs
placed-empty b at [] e = elim (dec_lt (length b) at) [ yes l ↦ placed-out b at [] (omega arith) | no n ↦ placed-none b at (omega (arith, lt_of_not-le (λ (l : suc (length b) ≤ at). n l))) ]
placed-empty b at (x ∷ xs) e = absurd (omega arith)

-- one element after what is written
pub placed_one : (b : List ℕ) (at : ℕ) (xs : List ℕ) (x : ℕ) → at + length xs < length b
    → set (placed b at xs) (at + length xs) x ≡ placed b at (xs ++ (x ∷ []))
placed_one b at xs x l =
    let h : length (take at b) ≡ at = length-take-le at b (omega arith) in
    let e : length (take at b ++ xs) ≡ at + length xs = simp length-append (omega arith) in
    let j : at + length (xs ++ (x ∷ [])) ≡ suc (at + length xs) = simp length-append (omega arith) in
    rw (
      placed-fits b at xs (omega arith),
      drop-cons b (at + length xs) 0 l,
      set_at (take at b ++ xs) (get_or b (at + length xs) 0) (drop (suc (at + length xs)) b) x (at + length xs) e,
      placed-fits b at (xs ++ (x ∷ [])) (omega arith),
      j,
    ) (simp append_assoc)

-- more after what is written
pub placed-after : (b : List ℕ) (at : ℕ) (xs ys : List ℕ) (n : ℕ) → n ≡ at + length xs → n + length ys ≤ length b
    → placed (placed b at xs) n ys ≡ placed b at (xs ++ ys)
placed-after b at xs ys n q l =
    let h : length (take at b) ≡ at = length-take-le at b (omega arith) in
    let e : length (take at b ++ xs) ≡ n = simp length-append (omega arith) in
    let j : at + length (xs ++ ys) ≡ n + length ys = simp length-append (omega arith) in
    let f : placed b at xs ≡ (take at b ++ xs) ++ drop n b = placed-fits b at xs (omega arith) ∙ ap (λ (k : ℕ). (take at b ++ xs) ++ drop k b) (sym q) in
    let t : take n (placed b at xs) ≡ take at b ++ xs = ap (take n) f ∙ take_at (take at b ++ xs) (drop n b) n e in
    let d : drop (n + length ys) (placed b at xs) ≡ drop (n + length ys) b =
    sym (drop-drop (length ys) n (placed b at xs)) ∙ ap (λ (w : List ℕ). drop (length ys) w) (ap (drop n) f ∙ drop_at (take at b ++ xs) (drop n b) n e) ∙ drop-drop (length ys) n b in
    rw (
      placed-fits (placed b at xs) n ys (omega (arith, length-placed b at xs)),
      t,
      d,
      placed-fits b at (xs ++ ys) (omega arith),
      j,
      append_assoc (take at b) xs ys,
    )

-- all of the list
pub placed-all : (b xs : List ℕ) → length xs ≡ length b → placed b 0 xs ≡ xs
placed-all b xs e =
    let z : 0 + length xs ≡ length b = omega arith in
    placed-fits b 0 xs (omega arith) ∙ rw (z, drop-length b) (append-nil xs)
