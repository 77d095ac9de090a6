use Rattle.std.proofs.Common.{◌≡◌, ◌≤◌, ◌+◌, ◌*◌, ◌-◌, ℕ, true, List, ◌++◌, length, drop}
use Rattle.sets.specs.Set.{states}
use Rattle.text.specs.Grammar.{Body, ok_body, reads}
use Rattle.text.specs.inner.Heads.{Stop}
use Rattle.text_walk.specs.inner.Rows.{Keeps}
use Rattle.text_walk.proofs.Bodies.{Left, Alts}
use Rattle.text_walk.proofs.+alternatives_atom_item_sequence.Given as goal

abbrev pub decreases-alternatives : goal.decreases-alternatives
decreases-alternatives l = 4 * (length l.text.now - l.at) + 3

abbrev pub decreases-sequence : goal.decreases-sequence
decreases-sequence l = 4 * (length l.text.now - l.at) + 2

abbrev pub decreases-item : goal.decreases-item
decreases-item l = 4 * (length l.text.now - l.at) + 1

abbrev pub decreases-atom : goal.decreases-atom
decreases-atom l = 4 * (length l.text.now - l.at)

-- what stands from `next` on is what is left of the alternatives
abbrev pub invariant-alternatives-loop-next : goal.invariant-alternatives-loop-next
invariant-alternatives-loop-next l =
    (l.at ≤ l.next) × (l.next ≤ length l.text) × (l.shape.size ≤ states) × Keeps l.base l.initial.rows l.rows
    × ((b : Body) (x : List ℕ) → ok_body b ≡ true → Stop x → drop l.at l.text ≡ reads b ++ x → Alts l.text l.rows l.base b x l.next l.shape)

abbrev pub decreases-alternatives-loop-next : goal.decreases-alternatives-loop-next
decreases-alternatives-loop-next l = length l.text - l.next

-- what stands from `next` on is what is left of the sequence
abbrev pub invariant-sequence-loop-next : goal.invariant-sequence-loop-next
invariant-sequence-loop-next l =
    (l.at ≤ l.next) × (l.next ≤ length l.text) × (l.shape.size ≤ states) × Keeps l.base l.initial.rows l.rows
    × ((b : Body) (x : List ℕ) → ok_body b ≡ true → Stop x → drop l.at l.text ≡ reads b ++ x → Left l.text l.rows l.base l.at b x l.next l.shape)

abbrev pub decreases-sequence-loop-next : goal.decreases-sequence-loop-next
decreases-sequence-loop-next l = length l.text - l.next
