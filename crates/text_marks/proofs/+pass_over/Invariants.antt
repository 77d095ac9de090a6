use Rattle.std.proofs.Common.{◌≡◌, ◌≤◌, ◌-◌, true, List, ℕ, ◌++◌, length, drop}
use Rattle.text.specs.Grammar.{Body, ok_body, reads}
use Rattle.text.specs.inner.Heads.{Stop}
use Rattle.text_marks.proofs.Passing.{Ahead}
use Rattle.text_marks.proofs.+pass_over.Given as goal

abbrev pub decreases-pass_over : goal.decreases-pass_over
decreases-pass_over l = length l.text.now - l.at

-- what stands from `next` on is what is left of the alternatives
abbrev pub invariant-loop-next : goal.invariant-loop-next
invariant-loop-next l = (l.at ≤ l.next) × (l.next ≤ length l.text) × ((b : Body) (x : List ℕ) → ok_body b ≡ true → Stop x → drop l.at l.text ≡ reads b ++ x → Ahead l.text x l.next)

abbrev pub decreases-loop-next : goal.decreases-loop-next
decreases-loop-next l = length l.text - l.next
