-- A block of zeros that is filled with what a list has behind a place: it holds the set that stands there. Assumes nothing.
use mathlib.Core.Path.{◌≡◌, refl, sym, ◌∙◌}
use mathlib.Core.List.{List}
use Prim.Native.Nat.{ℕ, zero, suc, ◌+◌, ◌-◌, ◌≤◌, ◌<◌}
use native.Mathlib.Nat.{lt_of_not-le}
use native.Mathlib.Omega.{arith}
use native.Mathlib.Decide.{dec_lt}
use lib.ListN.{length, get_or, drop, replicate, get_or-eq_default, get_or-append}
use lib.Seq.{get_or-drop, get_or-append_right}
use Rattle.std.proofs.Common.{◌++◌, length-drop}
use Rattle.sets.specs.Set.{set_size, set_at, read_at}
use Rattle.numbers.proofs.Laws.{num-alike}

-- the first i bytes are those behind the place, and zeros are behind them
abbrev Fills : List ℕ → ℕ → ℕ → List ℕ → Type 0
Fills b at i w = ((j : ℕ) → j < i → get_or w j 0 ≡ get_or b (at + j) 0) × ((j : ℕ) → i ≤ j → get_or w j 0 ≡ 0)

zero-at : (n j : ℕ) → get_or {A = ℕ} (replicate n 0) j 0 ≡ 0
zero-at zero j = refl
zero-at (suc n) zero = refl
zero-at (suc n) (suc j) = zero-at n j

-- a block that begins with what is behind the place
fills-front : (b : List ℕ) (at n : ℕ) → Fills b at (length (drop at b)) (drop at b ++ drop (length (drop at b)) (replicate n 0))
fills-front b at n =
    let x = drop at b in
    let z : List ℕ = replicate n 0 in (
      (λ j l. get_or-append x (drop (length x) z) 0 j l ∙ get_or-drop at b j 0),
      (λ j l. get_or-append_right x (drop (length x) z) j 0 l ∙ get_or-drop (length x) z (j - length x) 0 ∙ zero-at n (length x + (j - length x))),
    )

fills-all : (b w : List ℕ) (at i : ℕ) → length b ≤ at + i → Fills b at i w → set_at w 0 ≡ set_at b at
unfolding read_at
fills-all b w at i l h = num-alike 8 set_size w (drop at b) each
  where
    past : (j : ℕ) → i < suc j → get_or w j 0 ≡ get_or (drop at b) j 0
    past j m = h.1 j (omega arith) ∙ sym (get_or-drop at b j 0 ∙ get_or-eq_default b 0 (omega arith))

    each : (j : ℕ) → j < set_size → get_or w j 0 ≡ get_or (drop at b) j 0
    each j k = elim (dec_lt j i) [ yes m ↦ h.0 j m ∙ sym (get_or-drop at b j 0) | no n ↦ past j (lt_of_not-le (λ (m : suc j ≤ i). n m)) ]

pub front-set : (b : List ℕ) (at n : ℕ) → set_at (drop at b ++ drop (length b - at) (replicate n 0)) 0 ≡ set_at b at
front-set b at n = rw (sym (length-drop at b)) (fills-all b _ at (length (drop at b)) (omega (arith, length-drop at b)) (fills-front b at n))
