use Rattle.std.proofs.Common.{◌-◌, length}
use Rattle.sets.specs.Set.{byte_set_of}
use Rattle.text_bytes.proofs.Bytes.{Had}
use Rattle.text_bytes.proofs.class_set.Given as goal

abbrev pub invariant-loop-next : goal.invariant-loop-next
invariant-loop-next l = Had l.text l.at l.next (byte_set_of l.set)

abbrev pub decreases-loop-next : goal.decreases-loop-next
decreases-loop-next l = length l.text - l.next
