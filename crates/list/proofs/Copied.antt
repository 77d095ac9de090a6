-- A record that is another with other numbers at bytes 4 to 7: it is of the same kind, the same bytes take it, and its numbers are the new ones. Assumes nothing.
use Prim.Native.Nat.{ℕ, zero, suc, ◌+◌, ◌*◌, ◌/◌, ◌%◌, ◌<◌, ◌≤◌}
use mathlib.Core.Path.{◌≡◌, refl, ap, ◌∙◌}
use mathlib.Core.List.{List, [], ◌∷◌, ◌++◌}
use native.Mathlib.Omega.{arith}
use lib.ListN.{length, get_or, take, drop, length-append, length-drop}
use lib.Seq.{drop-cons, length-take-le}
use lib.Dec.{eqb}
use Rattle.numbers.specs.Number.{digits, placed}
use Rattle.numbers.proofs.Laws.{length_digits}
use Rattle.numbers.proofs.Placing.{placed-after}
use Rattle.list.specs.List.{records, byte_of, is_edge, is_start, is_accept, from, target, record_with}
use Rattle.list.specs.Automaton.{edge}
use Rattle.list.proofs.Listed.{from_bytes, target-bytes}

pub copied-long : (L : List ℕ) (i f t : ℕ) → length (record_with L i f t) ≡ 8
unfolding record_with
copied-long L i f t = refl

-- record j of J is record i of L with the numbers f and t
abbrev pub Copies : List ℕ → ℕ → List ℕ → ℕ → ℕ → ℕ → Type 0
Copies J j L i f t = (k : ℕ) → k < 8 → byte_of J j k ≡ get_or (record_with L i f t) k 0

two_digits : (x : ℕ) → x < 65536 → x % 256 + 256 * (x / 256 % 256) ≡ x
two_digits x h = omega arith

module _ (J : List ℕ) (j : ℕ) (L : List ℕ) (i f t : ℕ) (r : Copies J j L i f t) where
  pub copy-byte : (k : ℕ) → k < 4 → byte_of J j k ≡ byte_of L i k
  unfolding record_with
  copy-byte zero h = r 0 (omega arith)
  copy-byte (suc zero) h = r 1 (omega arith)
  copy-byte (suc (suc zero)) h = r 2 (omega arith)
  copy-byte (suc (suc (suc zero))) h = r 3 (omega arith)
  copy-byte (suc (suc (suc (suc k)))) h = absurd (omega arith)

  pub copy-edge : is_edge J j ≡ is_edge L i
  copy-edge = ap (λ (x : ℕ). eqb x 1) (copy-byte 0 (omega arith))

  pub copy_start : is_start J j ≡ is_start L i
  copy_start = ap (λ (x : ℕ). eqb x 2) (copy-byte 0 (omega arith))

  pub copy-accept : is_accept J j ≡ is_accept L i
  copy-accept = ap (λ (x : ℕ). eqb x 3) (copy-byte 0 (omega arith))

  pub copy-taken : (c : ℕ) → edge J c j ≡ edge L c i
  copy-taken c = rw (copy-byte 0 (omega arith), copy-byte 1 (omega arith), copy-byte 2 (omega arith), copy-byte 3 (omega arith))

  pub copy-from : f < 65536 → from J j ≡ f
  unfolding record_with
  copy-from h = from_bytes J j ∙ rw (r 4 (omega arith), r 5 (omega arith)) (two_digits f h)

  pub copy-target : t < 65536 → target J j ≡ t
  unfolding record_with
  copy-target h = target-bytes J j ∙ rw (r 6 (omega arith), r 7 (omega arith)) (two_digits t h)

-- ---- a record written with other numbers: four bytes, and the digits of both

four : (L : List ℕ) (at : ℕ) → at + 4 ≤ length L → take 4 (drop at L) ≡ get_or L at 0 ∷ get_or L (at + 1) 0 ∷ get_or L (at + 2) 0 ∷ get_or L (at + 3) 0 ∷ []
four L at h =
    let a : at + 1 ≡ suc at = omega arith in
    let b : at + 2 ≡ suc (suc at) = omega arith in
    let c : at + 3 ≡ suc (suc (suc at)) = omega arith in
    rw (
      a,
      b,
      c,
      drop-cons L at 0 (omega arith),
      drop-cons L (suc at) 0 (omega arith),
      drop-cons L (suc (suc at)) 0 (omega arith),
      drop-cons L (suc (suc (suc at))) 0 (omega arith),
    )

made : (L : List ℕ) (i f t : ℕ) → ((get_or L (8 * i) 0 ∷ get_or L (8 * i + 1) 0 ∷ get_or L (8 * i + 2) 0 ∷ get_or L (8 * i + 3) 0 ∷ []) ++ digits 8 2 f) ++ digits 8 2 t ≡ record_with L i f t
unfolding record_with digits
made L i f t = let z : 8 * i + 0 ≡ 8 * i = omega arith in rw z

pub copied_at : (b L : List ℕ) (at i f t : ℕ) → i < records L → at + 8 ≤ length b
    → placed (placed (placed b at (take 4 (drop (8 * i) L))) (at + 4) (digits 8 2 f)) (at + 6) (digits 8 2 t) ≡ placed b at (record_with L i f t)
copied_at b L at i f t h l =
    let D = take 4 (drop (8 * i) L) in
    let m : 4 ≤ length (drop (8 * i) L) = simp length-drop (omega arith) in
    let d : length D ≡ 4 = length-take-le 4 (drop (8 * i) L) m in
    let p = length_digits 8 2 f in
    let q = length_digits 8 2 t in
    let e : length (D ++ digits 8 2 f) ≡ 6 = length-append D (digits 8 2 f) ∙ omega (arith, d, p) in
    ap (λ z. placed z (at + 6) (digits 8 2 t)) (placed-after b at D (digits 8 2 f) (at + 4) (omega (arith, d)) (omega (arith, p)))
    ∙ placed-after b at (D ++ digits 8 2 f) (digits 8 2 t) (at + 6) (omega (arith, e)) (omega (arith, q))
    ∙ ap (placed b at) (ap (λ z. (z ++ digits 8 2 f) ++ digits 8 2 t) (four L (8 * i) (omega arith)) ∙ made L i f t)
