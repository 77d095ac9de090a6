-- States with the same past become one: which states those are, the folded list, and the rules.
use Rattle.std.specs.Prelude.{ℕ, zero, suc, ◌≤◌, ◌<◌, ◌≡◌, Bool, true, false, ◌&&◌, ◌||◌, not, cond, List, [], ◌∷◌, ◌++◌, length, drop, get_or, ltb, eqb}
use Rattle.sets.specs.Set.{holds}
use Rattle.rules.specs.Scan.{first, stack}
use Rattle.rules.specs.Rules.{Rule, verdict}
use Rattle.list.specs.List.{records, byte_of, is_edge, is_accept, from, target, record_with, list_rules}
use Rattle.list.specs.Automaton.{start, names_from, names_target, highest}
use Rattle.list_fold.specs.declared.Folded.{Folded}

-- ---- choosing

-- of how many numbers below n p holds
unfoldable pub counted : (ℕ → Bool) → ℕ → ℕ
counted p zero = 0
counted p (suc n) = cond (p n) (suc (counted p n)) (counted p n)

-- f i for each i below n of which p holds, one after the other
abbrev pub picked : (ℕ → Bool) → (ℕ → List ℕ) → ℕ → List ℕ
picked p f n = stack (λ i. cond (p i) (f i) []) n

-- two lists are the same
unfoldable pub same : List ℕ → List ℕ → Bool
same [] [] = true
same [] (y ∷ b) = false
same (x ∷ a) [] = false
same (x ∷ a) (y ∷ b) = eqb x y && same a b

-- ---- the past of a state

-- the chief of state s, where m has those of the first states: each other one is its own
abbrev pub chief : List ℕ → ℕ → ℕ
chief m s = get_or m s s

-- record i is an edge to s
unfoldable pub into : List ℕ → ℕ → ℕ → Bool
into L s i = is_edge L i && eqb (target L i) s

-- what leads along edge i: low, high, the byte for either case, and the chief of the state that it leaves
unfoldable pub mark : List ℕ → List ℕ → ℕ → List ℕ
mark m L i = byte_of L i 1 ∷ byte_of L i 2 ∷ byte_of L i 3 ∷ chief m (from L i) ∷ []

-- the marks of the edges to s, in their order
abbrev pub past : List ℕ → List ℕ → ℕ → List ℕ
past m L s = picked (into L s) (mark m L) (records L)

-- both or neither
abbrev pub agree : Bool → Bool → Bool
agree a b = a && b || not a && not b

-- s and r have the same past: both start or neither, and the same marks lead to them
unfoldable pub alike : List ℕ → List ℕ → ℕ → ℕ → Bool
alike m L s r = agree (holds (start L) s) (holds (start L) r) && same (past m L s) (past m L r)

-- s may join the chief r: they are alike if it does
unfoldable pub follows : List ℕ → List ℕ → ℕ → ℕ → Bool
follows m L s r = eqb (chief m r) r && alike (m ++ (r ∷ [])) L s r

-- the chiefs of the first n states: of each the lowest chief that it may join, or itself
unfoldable pub chiefs : List ℕ → ℕ → List ℕ
chiefs L zero = []
chiefs L (suc s) = chiefs L s ++ (first s (follows (chiefs L s) L s) ∷ [])

-- the chief of a state, by the chiefs of all that the list names
abbrev pub chief_of : List ℕ → ℕ → ℕ
chief_of L s = chief (chiefs L (suc (highest L))) s

-- ---- the folded list, for any choice c of chiefs

-- s is a chief
abbrev pub leading : (ℕ → ℕ) → ℕ → Bool
leading c s = eqb (c s) s

-- the new number of s: how many chiefs come before its own
unfoldable pub renumbered : (ℕ → ℕ) → ℕ → ℕ
renumbered c s = counted (leading c) (c s)

-- the first number of record i then: it changes where it is a state
abbrev pub new_from : (ℕ → ℕ) → List ℕ → ℕ → ℕ
new_from c L i = cond (names_from L i) (renumbered c (from L i)) (from L i)

-- the second: it changes where it is a state, a signature stays
abbrev pub new_target : (ℕ → ℕ) → List ℕ → ℕ → ℕ
new_target c L i = cond (names_target L i) (renumbered c (target L i)) (target L i)

-- record i with these numbers
unfoldable pub new_record : (ℕ → ℕ) → List ℕ → ℕ → List ℕ
new_record c L i = record_with L i (new_from c L i) (new_target c L i)

-- record i is kept: an accept, or a start or an edge to a chief; others say only what those say
unfoldable pub stays : (ℕ → ℕ) → List ℕ → ℕ → Bool
stays c L i = is_accept L i || leading c (target L i)

-- the records that are kept, in their order
unfoldable pub folded_by : (ℕ → ℕ) → List ℕ → List ℕ
folded_by c L = picked (stays c L) (new_record c L) (records L)

-- ---- by the chiefs above

-- the folded list
abbrev pub folded : List ℕ → List ℕ
folded L = folded_by (chief_of L) L

-- ---- what makes a choice of chiefs good

-- edge j carries what edge i carries, from a state of the same chief
pub record Carries (c : ℕ → ℕ) (L : List ℕ) (i j : ℕ) : Type 0 where
  pub within : j < records L
  pub kind : is_edge L j ≡ true
  pub bytes : (k : ℕ) → 1 ≤ k → k ≤ 3 → byte_of L j k ≡ byte_of L i k
  pub source : c (from L j) ≡ c (from L i)

-- each state's chief is a chief, and no higher; a state starts exactly when its chief does; for each edge to a state there is one to its chief that carries
-- the same, and the other way round
pub record Folds (c : ℕ → ℕ) (L : List ℕ) : Type 0 where
  pub own : (s : ℕ) → c (c s) ≡ c s
  pub low : (s : ℕ) → c s ≤ s
  pub starts : (s : ℕ) → holds (start L) s ≡ holds (start L) (c s)
  pub up : (i : ℕ) → i < records L → is_edge L i ≡ true → (j : ℕ) × Carries c L i j × (target L j ≡ c (target L i))
  pub down : (s j : ℕ) → j < records L → is_edge L j ≡ true → target L j ≡ c s → (i : ℕ) × Carries c L j i × (target L i ≡ s)

-- ---- the rules: 1 to 3 of the list, then 28

-- 28: the lent list is shorter than the folded one
unfoldable pub no_room : List ℕ → ℕ → Bool
no_room L lent = ltb lent (length (folded L))

-- for a lent list of so many bytes
abbrev pub fold_rules : List ℕ → ℕ → List Rule
fold_rules L lent = list_rules L ++ ((28, no_room L lent) ∷ [])

-- the number of the first rule that refuses, or 0
abbrev pub fold_refusal : List ℕ → ℕ → ℕ
fold_refusal L lent = verdict (fold_rules L lent)

-- the code answers r of the list and a lent one, and leaves `exit`: the folded list in front, the rest as it was; on a refusal the lent list as it was
pub record FoldAnswers (L : List ℕ) (out : List ℕ) (r : Folded) (exit : List ℕ) : Type 0 where
  pub refusal : r.refusal ≡ fold_refusal L (length out)
  pub long : r.length ≡ cond (eqb (fold_refusal L (length out)) 0) (length (folded L)) 0
  pub left : exit ≡ cond (eqb (fold_refusal L (length out)) 0) (folded L ++ drop (length (folded L)) out) out
