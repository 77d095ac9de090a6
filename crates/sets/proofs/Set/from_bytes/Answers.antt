-- The words are read from the bytes.
use Rattle.std.proofs.Common.{rules, ◌≡◌, ℕ, length, replicate}
use Rattle.sets.specs.Set.{read_at}
use Rattle.sets.proofs.Set.from_bytes.Goals as goal

pub returns : goal.returns
unfolding read_at
returns g c = let e : length (replicate {A = ℕ} g.row.N 0) ≡ g.row.N = search rules in rw e at c.read_words.ensures
