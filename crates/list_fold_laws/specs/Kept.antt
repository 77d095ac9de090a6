-- What the list that folding left is good for: a flow under it tells the very pairs of the list; and folding's refusals in words.
use Rattle.std.specs.Prelude.{ℕ, ◌≤◌, ◌<◌, ◌≡◌, true, List, [], ◌∷◌, ◌++◌, ◌↔◌, length, take, drop}
use Rattle.sets.specs.Set.{holds}
use Rattle.rules.specs.Rules.{Rises, Refuses}
use Rattle.list.specs.List.{list_refusal}
use Rattle.list_feed.specs.Plain.{pairs_of}
use Rattle.rules.specs.Words.{Row, InWords}
use Rattle.laws.specs.Words.{list_words}
use Rattle.list_join_laws.specs.Union.{frontier_after, Sense, Signs}
use Rattle.list_fold.specs.declared.Folded.{Folded}
use Rattle.list_fold.specs.Fold.{chief_of, renumbered, folded, fold_rules, fold_refusal, FoldAnswers}

-- J is L with states of one past made one
pub record Keeps (L J : List ℕ) : Type 0 where
  -- it passes 1 to 3, and is no longer
  pub passes : list_refusal J ≡ 0
  pub shorter : length J ≤ length L
  -- its frontier is that of L, each state under its new number
  pub frontier : (bs : List ℕ) (u : ℕ) → holds (frontier_after J bs) u ≡ true ↔ ((s : ℕ) × (holds (frontier_after L bs) s ≡ true) × (u ≡ renumbered (chief_of L) s))
  -- a new number is no higher than the old one
  pub low : (s : ℕ) → renumbered (chief_of L) s ≤ s
  -- the words of all pairs of any bytes are the same, those of offset 0 too
  pub pairs : (bs : List ℕ) → pairs_of J bs ≡ pairs_of L bs

-- 1 to 3 of the list; 28: the lent list is shorter than the folded one
abbrev pub fold_words : List ℕ → ℕ → List Row
fold_words L lent = list_words L ++ ((28, lent < length (folded L)) ∷ [])

-- what a list is to tell, the folded one tells
abbrev pub FoldSigns : Type 1
FoldSigns = (L J : List ℕ) (P : Sense) → Keeps L J → Signs L P → Signs J P

-- of every call of folding
pub record FoldDemand : Type 0 where
  -- the numbers rise: of those that apply, the lowest is given; each exactly when its words hold and those of no row before it do
  pub lowest : (L : List ℕ) (lent : ℕ) → Rises (fold_rules L lent)
  pub refuses : (L : List ℕ) (lent : ℕ) → Refuses (fold_rules L lent) (fold_refusal L lent)
  pub said : (L : List ℕ) (lent : ℕ) → InWords (fold_words L lent) (fold_refusal L lent)
  -- of every list that passes 1 to 3
  pub keeps : (L : List ℕ) → list_refusal L ≡ 0 → Keeps L (folded L)
  -- a refusal answers no length and changes nothing
  pub unchanged : (L out : List ℕ) (r : Folded) (exit : List ℕ) → FoldAnswers L out r exit → (r.refusal ≡ 0 → ⊥) → (r.length ≡ 0) × (exit ≡ out)
  -- else the front of that length is the folded list, which keeps all pairs, and the bytes behind it stay
  pub left : (L out : List ℕ) (r : Folded) (exit : List ℕ) → FoldAnswers L out r exit → r.refusal ≡ 0
      → (take r.length exit ≡ folded L) × (drop r.length exit ≡ drop r.length out) × Keeps L (take r.length exit)
  -- any two outcomes are equal
  pub unique : (L out : List ℕ) (r s : Folded) (x y : List ℕ) → FoldAnswers L out r x → FoldAnswers L out s y → (r ≡ s) × (x ≡ y)
