-- A table at a bound as a means to feed flows of a list.
use Rattle.std.specs.Prelude.{ℕ, List, ◌≡◌, length}
use Rattle.feed.specs.Lawful.{Means, own_means}
use Rattle.table.specs.Table.{Table, table_refusal}
use Rattle.table_feed.specs.Split.{taken, split, split_rules}

-- the check accepts the table at its bound; a byte counts the slots taken
abbrev pub table_means : ℕ → Table → Means (List ℕ) ℕ
table_means b T = own_means (λ L. split_rules L b T) (λ L. split L b T) (λ F. length (taken T F)) b (λ L. table_refusal L b T ≡ 0)
