-- What telling a set of signatures leaves, a refused feed's answer, and that of a feed whose loop has ended.
use Rattle.std.specs.Prelude.{ℕ, ◌+◌, ◌*◌, ◌/◌, ◌≡◌, false, List, eqb}
use Rattle.numbers.specs.Number.{placed}
use Rattle.sets.specs.Set.{signatures, size, members}
use Rattle.feed.specs.Engine.{pairs_at}
use Rattle.feed.specs.declared.Fed.{Fed}

-- the code answers f where rule n refuses: zero bytes, zero pairs, not all
pub record Unfed (n : ℕ) (f : Fed) : Type 0 where
  pub refusal : f.refusal ≡ n
  pub bytes : f.bytes ≡ 0
  pub pairs : f.pairs ≡ 0
  pub all : f.all ≡ false

-- it answers f of a piece of `len` bytes, where its loop ends with the refusal n or 0, i bytes consumed and w words written
pub record Ends (n i w len : ℕ) (f : Fed) : Type 0 where
  pub refusal : f.refusal ≡ n
  pub bytes : f.bytes ≡ i
  pub pairs : f.pairs ≡ w / 2
  pub all : f.all ≡ eqb i len

-- the pairs of G's members at offset k stand from word w on, and v is the word after them
pub record Tells (G : ℕ) (out : List ℕ) (w k v : ℕ) (left : List ℕ) : Type 0 where
  pub next : v ≡ w + 2 * size signatures G
  pub wrote : left ≡ placed out w (pairs_at k (members signatures G))
