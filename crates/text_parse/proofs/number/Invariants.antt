use Rattle.std.proofs.Common.{◌≡◌, ℕ, ◌≤◌, cond, drop}
use Rattle.text.specs.Acceptor.{live, num, verdict}
use Rattle.text_parse.proofs.number.Given as goal

abbrev pub invariant-loop-next : goal.invariant-loop-next
invariant-loop-next l =
    (l.at ≤ l.next) × (l.left ≤ 3) × (l.value ≤ 300) × (l.end ≡ cond l.second 125 44)
    × ((d : ℕ) → d ≤ 16 → verdict (live d (num l.second l.low 3 0)) l.at (drop l.at l.text) ≡ verdict (live d (num l.second l.low l.left l.value)) l.next (drop l.next l.text))
