-- What the driver of two texts promises: the pairs of both languages, said of the numbers that the code answered and the buffers that it left.
use Rattle.std.specs.Prelude.{ℕ, ◌*◌, ◌≡◌, List, [], ◌∷◌, ◌++◌, ◌⊎◌, ◌↔◌, length, take}
use Rattle.rules.specs.Words.{InWords}
use Rattle.text.specs.Grammar.{Text}
use Rattle.text_compile.specs.Compile.{Compiles}
use Rattle.list_join.specs.Join.{Joins}
use Rattle.list_fold.specs.Fold.{FoldAnswers}
use Rattle.text_laws.specs.Flows.{front, Past}
use Rattle.list_join_laws.specs.Refusals.{join_words}
use Rattle.list_join_laws.specs.Union.{TellsOf}
use Rattle.list_fold_laws.specs.Kept.{fold_words}
use Rattle.text_many_laws.specs.declared.Gathered.{Gathered}
use Rattle.text_many_laws.specs.declared.Drove.{Drove}
use Rattle.text_many_laws.specs.Many.{Readings, SomeEnds}

-- compiling T under g into A and U under h into B, joining the second's front onto the first's and folding that into O answered r, and left X
pub record Gathers (T : List ℕ) (g : ℕ) (A U : List ℕ) (h : ℕ) (B O : List ℕ) (r : Gathered) (X : List ℕ) : Type 0 where
  -- the first list and the second as compiling left them, and the first as joining did
  pub list : List ℕ
  pub other : List ℕ
  pub whole : List ℕ
  pub first : Compiles T g A r.first list
  pub second : Compiles U h B r.second other
  pub joins : Joins list r.first.length (front r.second other) r.joined whole
  pub folds : FoldAnswers (take r.joined.length whole) O r.folded X

-- none of the four calls was refused
abbrev pub Whole : Gathered → Type 0
Whole r = ((r.first.refusal ≡ 0) × (r.second.refusal ≡ 0)) × ((r.joined.refusal ≡ 0) × (r.folded.refusal ≡ 0))

-- no refusal, or that the lent list is too short or a limit passed
abbrev pub FitsOr28 : ℕ → Type 0
FitsOr28 n = (n ≡ 0) ⊎ (n ≡ 28)

-- two texts were compiled, joined and folded, and what that wrote was checked, opened and fed a piece
pub record BothServed (T : List ℕ) (g : ℕ) (A U : List ℕ) (h : ℕ) (B O piece : List ℕ) (r : Drove) (X ws vs : List ℕ) : Type 0 where
  pub made : Gathers T g A U h B O r.gathered X
  -- joining and folding are refused as their words say, of the lists that they were given
  pub joins : InWords (join_words (take r.gathered.first.length made.list) r.gathered.first.length (length made.list) (front r.gathered.second made.other)) r.gathered.joined.refusal
  pub folds : InWords (fold_words (take r.gathered.joined.length made.whole) (length O)) r.gathered.folded.refusal
  -- where the first text was compiled, joining answers 27 exactly when the second was not; where both were, 0 or 28; where it answers 0, folding does 0 or 28
  pub bad-second : r.gathered.first.refusal ≡ 0 → (r.gathered.joined.refusal ≡ 27) ↔ (r.gathered.second.refusal ≡ 0 → ⊥)
  pub good-both : r.gathered.first.refusal ≡ 0 → r.gathered.second.refusal ≡ 0 → FitsOr28 r.gathered.joined.refusal
  pub good-joined : r.gathered.joined.refusal ≡ 0 → FitsOr28 r.gathered.folded.refusal
  -- where none was refused the list passes its check and is refused with 1 to 3 nowhere; and where opening answered 0 too, its words and then the feed's are the
  -- pairs of either text's language on the bytes consumed, each once
  pub passes : Whole r.gathered → (r.served.checked ≡ 0) × Past r.served.opened.refusal × Past r.served.fed.refusal
  pub tells : Whole r.gathered → r.served.opened.refusal ≡ 0
      → (xs : List (Text × ℕ)) × Readings ((T, g) ∷ (U, h) ∷ []) xs
      × TellsOf (SomeEnds xs) (take r.served.fed.bytes piece) (take (2 * r.served.opened.pairs) ws ++ take (2 * r.served.fed.pairs) vs)
