use Rattle.std.proofs.Common.{length, ◌-◌, ◌≡◌, ◌≤◌, ◌<◌, ◌+◌, ◌*◌, ◌⊎◌, drop, get_or}
use Rattle.text.specs.Acceptor.{fresh, live, verdict}
use Rattle.text_parse.proofs.+alternatives_item_sequence.Given as goal

abbrev pub decreases-alternatives : goal.decreases-alternatives
decreases-alternatives l = 3 * (length l.text.now - l.at) + 2

abbrev pub decreases-item : goal.decreases-item
decreases-item l = 3 * (length l.text.now - l.at)

abbrev pub decreases-sequence : goal.decreases-sequence
decreases-sequence l = 3 * (length l.text.now - l.at) + 1

abbrev pub invariant-alternatives-loop-next : goal.invariant-alternatives-loop-next
invariant-alternatives-loop-next l =
    (l.at ≤ l.next) × (l.next ≤ length l.text)
    × (l.next < length l.text → (get_or l.text l.next 0 ≡ 124) ⊎ (get_or l.text l.next 0 ≡ 41))
    × (verdict (live l.depth fresh) l.at (drop l.at l.text) ≡ verdict (live l.depth fresh) l.next (drop l.next l.text))

abbrev pub decreases-alternatives-loop-next : goal.decreases-alternatives-loop-next
decreases-alternatives-loop-next l = length l.text - l.next

abbrev pub invariant-sequence-loop-next : goal.invariant-sequence-loop-next
invariant-sequence-loop-next l =
    (l.at ≤ l.next) × (l.next ≤ length l.text) × (verdict (live l.depth fresh) l.at (drop l.at l.text) ≡ verdict (live l.depth fresh) l.next (drop l.next l.text))

abbrev pub decreases-sequence-loop-next : goal.decreases-sequence-loop-next
decreases-sequence-loop-next l = length l.text - l.next
