-- What the list of a text tells, in the words of the text's language.
use Rattle.std.specs.Prelude.{ℕ, ◌*◌, ◌<◌, ◌≡◌, true, cond, List, [], ◌++◌, take, drop}
use Rattle.numbers.specs.Number.{before}
use Rattle.list.specs.List.{record_size, records}
use Rattle.text.specs.Grammar.{Text}
use Rattle.text.specs.Means.{Means}

-- w is a word of the text's language
abbrev pub Word : Text → List ℕ → Type 0
Word x w = Means (λ u. u ≡ []) x.body w

-- w ends in a word of the language; of a text that `^` binds, w is one
abbrev pub EndsIn : Text → List ℕ → Type 0
EndsIn x w = cond x.bound (Word x w) ((u : List ℕ) × (v : List ℕ) × (w ≡ u ++ v) × Word x v)

-- record i of a list
abbrev pub record_at : List ℕ → ℕ → List ℕ
record_at L i = take record_size (drop (record_size * i) L)

-- the records rise strictly as byte strings, so that none stands twice
abbrev pub RecordsRise : List ℕ → Type 0
RecordsRise L = (i j : ℕ) → i < j → j < records L → before (record_at L i) (record_at L j) ≡ true
