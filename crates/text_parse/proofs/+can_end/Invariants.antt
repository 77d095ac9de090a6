use Rattle.std.proofs.Common.{◌≡◌, ◌-◌, ◌*◌, ◌+◌, false}
use Rattle.rules.specs.Scan.{some}
use Rattle.text.specs.Acceptor.{can}
use Rattle.text_parse.proofs.+can_end.Given as goal

abbrev pub decreases-can_end : goal.decreases-can_end
decreases-can_end l = l.r

-- no digit below this one leads to a number
abbrev pub invariant-loop-d : goal.invariant-loop-d
invariant-loop-d l = some l.d (λ k. can l.low (l.r - 1) (10 * l.v + k)) ≡ false
