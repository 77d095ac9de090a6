-- Many signatures: a program compiles each text by itself, joins the lists and folds; what the list that it ends with tells, in the words of the texts' languages.
use Rattle.std.specs.Prelude.{ℕ, ◌<◌, ◌≡◌, true, List, [], ◌∷◌, ◌++◌, ◌⊎◌, take}
use Rattle.feed.specs.Calls.{Bytes}
use Rattle.text.specs.Grammar.{Text, ok_body, text_reads}
use Rattle.text_compile.specs.declared.Compiled.{Compiled}
use Rattle.text_compile.specs.Compile.{Compiles}
use Rattle.list_join.specs.declared.Joined.{Joined}
use Rattle.list_join.specs.Join.{Joins}
use Rattle.list_fold.specs.declared.Folded.{Folded}
use Rattle.list_fold.specs.Fold.{FoldAnswers}
use Rattle.text_laws.specs.Language.{EndsIn}
use Rattle.text_laws.specs.Flows.{front, PassesAll}
use Rattle.list_join_laws.specs.Union.{Sense, Signs, FlowsTell}

-- ts are texts with their signatures; L is the list of a program that compiled each into a list of its own, joined these and folded what it liked, none of the calls
-- refused, in whatever order
pub data Collects : List (List ℕ × ℕ) → List ℕ → Type 0 where
  one : (T : List ℕ) (g : ℕ) (A : List ℕ) (r : Compiled) (B : List ℕ) → Bytes T → g < 256 → Compiles T g A r B → r.refusal ≡ 0 → Collects ((T, g) ∷ []) (front r B)
  both : (ts us : List (List ℕ × ℕ)) (list : List ℕ) (used : ℕ) (other : List ℕ) (r : Joined) (exit : List ℕ)
      → Collects ts (take used list) → Collects us other → Joins list used other r exit → r.refusal ≡ 0 → Collects (ts ++ us) (take r.length exit)
  fewer : (ts : List (List ℕ × ℕ)) (L out : List ℕ) (r : Folded) (exit : List ℕ)
      → Collects ts L → FoldAnswers L out r exit → r.refusal ≡ 0 → Collects ts (take r.length exit)

-- xs are what the texts read as, each under its signature
abbrev pub Readings : List (List ℕ × ℕ) → List (Text × ℕ) → Type 0
Readings [] [] = Unit {0}
Readings [] (x ∷ xs) = ⊥
Readings (t ∷ ts) [] = ⊥
Readings (t ∷ ts) (x ∷ xs) = (((ok_body x.0.body ≡ true) × (text_reads x.0 ≡ t.0)) × (x.1 ≡ t.1)) × Readings ts xs

-- h is the signature of one of them, and w ends in a word of its language; of a text that `^` binds, w is one
abbrev pub SomeEnds : List (Text × ℕ) → Sense
SomeEnds [] h w = ⊥
SomeEnds (x ∷ xs) h w = ((h ≡ x.1) × EndsIn x.0 w) ⊎ SomeEnds xs h w

-- L is a list for all of them
pub record ServesAll (xs : List (Text × ℕ)) (L : List ℕ) : Type 0 where
  pub passes : PassesAll L
  -- (h, k) is due exactly when the flow has come to offset k and the first k bytes end in a word of a text under h
  pub signs : Signs L (SomeEnds xs)
  -- so of any flow, from opening on, each pair once, by offset and then signature
  pub tells : FlowsTell L (SomeEnds xs)

-- whatever texts a program collects, its list serves them all as they are read
abbrev pub CollectedServes : Type 0
CollectedServes = (ts : List (List ℕ × ℕ)) (L : List ℕ) → Collects ts L → (xs : List (Text × ℕ)) × Readings ts xs × ServesAll xs L
