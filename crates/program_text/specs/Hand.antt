-- Which of some texts are handed over, where a write may not be whole; and what handing a text over to a log does.
use Rattle.std.specs.Prelude.{ℕ, ⊤, ◌+◌, ◌≤◌, ◌≡◌, Bool, cond, List, [], ◌∷◌, ◌++◌, length, get_or, eqb}
use Rattle.program_text.specs.Text.{Puts}
use Rattle.program_text.specs.declared.Taken.{Taken}
use Rattle.program_text.specs.declared.Ends.{Ends}
use Rattle.program_text.specs.declared.Ends.TheVariants.{Descriptors, Arrays}

-- ---- what is handed over

-- an answer that says that a text was cut, that is, not taken whole: 0
abbrev pub is_cut : ℕ → Bool
is_cut a = eqb a 0

-- the texts up to and with the first that is cut; where the answers end, each is
unfoldable pub handed : List (List ℕ) → List ℕ → List (List ℕ)
handed [] answers = []
handed (t ∷ ts) [] = t ∷ []
handed (t ∷ ts) (a ∷ answers) = t ∷ cond (is_cut a) [] (handed ts answers)

-- one after the other
unfoldable pub joined : List (List ℕ) → List ℕ
joined [] = []
joined (t ∷ ts) = t ++ joined ts

-- a text goes to the end of a log, with answer number i
pub record Takes (text answers : List ℕ) (i : ℕ) (log : List ℕ) (end : ℕ) (t : Taken) (left : List ℕ) : Type 0 where
  pub cut : t.cut ≡ is_cut (get_or answers i 0)
  pub puts : Puts (length text) text log end t.end left

-- the texts, where there is room for them all, stand at a place of a log, which ends at `end`
abbrev pub Logs : ℕ → List (List ℕ) → List ℕ → ℕ → List ℕ → Type 0
Logs at ts log end left = at + length (joined ts) ≤ length log → Puts (length (joined ts)) (joined ts) log at end left

-- what holds of a run on arrays, by its input and the answers of the writes; of one on descriptors nothing is said
abbrev pub OnArrays : Ends → (List ℕ → List ℕ → Type 0) → Type 0
OnArrays (Descriptors input output) P = ⊤
OnArrays (Arrays input answers) P = P input.now answers.now
