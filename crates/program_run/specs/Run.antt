-- A run by any engine beside 01's program: which engine it goes by, that it is checked for the list, and when two records stand alike.
use Rattle.std.specs.Prelude.{ℕ, zero, ◌≤◌, ◌≡◌, false, List, length, take}
use Rattle.feed.specs.Engine.{Outcome}
use Rattle.feed.specs.Calls.{fed_by}
use Rattle.feed.specs.Lawful.{Means, way_by, Reached}
use Rattle.list_flow.specs.Flow.{frontier_of, offset_of, bad_flow}
use Rattle.list_feed.specs.Means.{list_automata, list_means}
use Rattle.matrix.specs.Means.{matrix_means}
use Rattle.index.specs.Means.{stand_means}
use Rattle.program.specs.declared.Said.{Said}
use Rattle.program.specs.App.{Turn, Says}
use Rattle.program_run.specs.declared.By.{By}
use Rattle.program_run.specs.declared.By.TheVariants.{Plain, Matrix, Index}

-- that of a run, over the fronts of the splits S and the index X that it uses, from split h, at one row a byte: the list, the matrix, or the index
abbrev pub means_by : By → List ℕ → List ℕ → ℕ → Means (List ℕ) ℕ
means_by Plain S X h = list_means
means_by (Matrix n) S X h = matrix_means (take n X)
means_by (Index m n) S X h = stand_means 1 (λ F. 1) (take m S) (take n X) h

-- what a feed by it answers and leaves
abbrev pub fed_of : List ℕ → By → List ℕ → List ℕ → ℕ → List ℕ → ℕ → List ℕ → List ℕ → Outcome
fed_of L by S X h R at piece out = fed_by (way_by list_automata (means_by by S X h) L) R at piece out

-- it stands in its places
abbrev pub Fits : By → List ℕ → List ℕ → Type 0
Fits Plain S X = zero ≤ length X
Fits (Matrix n) S X = n ≤ length X
Fits (Index m n) S X = (m ≤ length S) × (n ≤ length X)

-- what a run goes by stands in its places and is checked for the list, from any split
pub record Readied (L S X : List ℕ) (by : By) : Type 0 where
  pub fits : Fits by S X
  pub checked : (h : ℕ) → (means_by by S X h).Checked L

-- the record R of 01's program and the record Q of a run: one frontier, to which the automaton comes, one offset, and 4 takes the bytes of both
pub record Alike (L R Q : List ℕ) : Type 0 where
  pub frontier : frontier_of Q ≡ frontier_of R
  pub offset : offset_of Q ≡ offset_of R
  pub whole : bad_flow R ≡ false
  pub good : bad_flow Q ≡ false
  pub reached : Reached list_automata L (frontier_of R)

-- the code says a turn of 01's program, and leaves a record that stands alike where the turn is not the last
pub record Spoken (L : List ℕ) (t : Turn) (s : Said) (buffer Q : List ℕ) : Type 0 where
  pub says : Says t s buffer t.saved
  pub alike : t.last ≡ false → Alike L t.saved Q
