-- The lowest of the states that the records passed give.
use Rattle.std.proofs.Common.{◌≡◌, ℕ, Bool, ◌<◌}
use Rattle.numbers.specs.Number.{num}
use Rattle.sets.specs.Set.{states}
use Rattle.list.specs.List.{records, from}
use Rattle.list_why.specs.inner.Asked.{some_state}
use Rattle.list_why.specs.Reason.{leads_to, least}
use Rattle.list_why.proofs.lowest.Given as goal

abbrev pub invariant-loop-i : goal.invariant-loop-i
invariant-loop-i g l =
    (p : ℕ → Bool) → ((i : ℕ) (b : Bool) → i < records l.list → goal.P-post g l.test i b → b ≡ p i)
    → l.best ≡ some_state (least states (leads_to l.list (num 64 l.frontier) p l.t) (from l.list) l.i)
