-- The bytes passed lead to a split.
use Rattle.std.proofs.Common.{◌≡◌, true}
use Rattle.rules.specs.Scan.{every}
use Rattle.table.specs.Table.{row, slots, used_slots, joined, is_split}
use Rattle.table.proofs.leads_at.Given as goal

abbrev pub invariant-loop-d : goal.invariant-loop-d
invariant-loop-d l = every l.d (λ e. is_split l.splits (joined (λ p. row l.classes l.rows p e) (used_slots (slots l.splits l.i)))) ≡ true
