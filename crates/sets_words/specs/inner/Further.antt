-- A set with every member further on.
use Rattle.std.specs.Prelude.{ℕ, ◌+◌, ◌-◌, ◌*◌, ◌^◌, ◌%◌, ◌<◌, ◌≡◌, ◌&&◌, cond, List, leb, ltb}
use Rattle.numbers.specs.Number.{num}
use Rattle.sets.specs.Set.{states, holds}

-- a set of states, each d further on; what passes the last state is gone
unfoldable pub further : ℕ → ℕ → ℕ
further d S = (S * 2 ^ d) % 2 ^ states

-- bit by bit: the high bits of one word and the low bits of the next; and word i of words whose bits all go d further on
abbrev pub Straddles : ℕ → ℕ → ℕ → ℕ → Type 0
Straddles high low b r = (s : ℕ) → s < 64 → holds r s ≡ cond (ltb s b) (holds low (64 + s - b)) (holds high (s - b))

abbrev pub Strides : List ℕ → ℕ → ℕ → ℕ → Type 0
Strides ws d i r = (s : ℕ) → s < 64 → holds r s ≡ (leb d (64 * i + s) && holds (num 64 ws) (64 * i + s - d))
