use Rattle.std.proofs.Common.{◌≡◌, ◌≤◌, ◌<◌, ◌+◌, ◌-◌, length, true}
use Rattle.sets.specs.Set.{byte_set_of, holds}
use Rattle.text.specs.Records.{runs}
use Rattle.text_bytes.proofs.run_count.Given as goal

-- c is the next byte of the set, and the runs from it on are left
abbrev pub invariant-loop-c : goal.invariant-loop-c
invariant-loop-c l =
    (l.c ≤ 256) × (l.n ≤ l.c) × (l.c < 256 → holds (byte_set_of l.set) l.c ≡ true)
    × (l.n + length (runs (holds (byte_set_of l.set)) (256 - l.c) l.c 0) ≡ length (runs (holds (byte_set_of l.set)) 256 0 0))

abbrev pub decreases-loop-c : goal.decreases-loop-c
decreases-loop-c l = 256 - l.c
