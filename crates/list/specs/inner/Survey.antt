-- The list check, and whether a list names every state of a set, in one answer.
use Rattle.std.specs.Prelude.{ℕ, ◌≡◌, ◌&&◌, List, eqb}
use Rattle.sets.specs.Set.{within}
use Rattle.list.specs.List.{list_refusal}
use Rattle.list.specs.Automaton.{named}
use Rattle.list.specs.declared.Survey.{Survey}

-- the code answers s of the list L and the set F: the check's number and, where it passes, whether every state of F is named
pub record Surveys (L : List ℕ) (F : ℕ) (s : Survey) : Type 0 where
  pub refusal : s.refusal ≡ list_refusal L
  pub known : s.known ≡ (eqb (list_refusal L) 0 && within F (named L))
