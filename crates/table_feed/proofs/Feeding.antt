-- What a split feed knows that no rule refuses. Assumes nothing.
use Prim.Native.Nat.{ℕ, ◌+◌, ◌*◌, ◌≤◌}
use mathlib.Core.Path.{◌≡◌, refl, sym, ◌∙◌}
use mathlib.Core.Bool.{true, false}
use mathlib.Core.List.{List}
use native.Mathlib.Omega.{arith}
use lib.ListN.{length}
use Rattle.sets.specs.Set.{set_size}
use Rattle.rules.specs.Scan.{every}
use Rattle.rules.specs.Rules.{verdict}
use Rattle.rules.proofs.Rules.{verdict-then, passes-front}
use Rattle.feed.specs.Engine.{most_offset}
use Rattle.list_flow.specs.Flow.{offset_of, bad_flow, feed_rules}
use Rattle.list_flow.proofs.Passing.{feed-passes}
use Rattle.table.specs.Table.{Table, class_count, part_count, split_count, in_order, rising_rules}
use Rattle.table.proofs.Verdict.{rows-there, rising-sizes, rising-ordered}
use Rattle.table_feed.specs.Split.{split_rules}

-- what a feed knows that no rule refuses
pub split-passes : (L : List ℕ) (b : ℕ) (T : Table) (R : List ℕ) (at : ℕ) (piece : List ℕ) → verdict (split_rules L b T R at piece) ≡ 0
    → (bad_flow R ≡ false) × (at ≡ offset_of R) × (offset_of R + length piece ≤ most_offset) × (set_size * (part_count T.parts * class_count T.classes) ≤ length T.rows)
    × (every (split_count T.splits) (in_order T.splits) ≡ true)
split-passes L b T R at piece v =
    let f = passes-front (feed_rules L R at piece) (rising_rules b T) v in
    let p = feed-passes L R at piece f in
    let r = sym (verdict-then (feed_rules L R at piece) (rising_rules b T) refl f) ∙ v in
    (p.0, p.1, p.2, omega (arith, rows-there b T (rising-sizes b T r)), rising-ordered b T r)
