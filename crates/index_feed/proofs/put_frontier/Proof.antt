-- `put_frontier` writes the bytes of the split; where there is none, those of the set that is read there. Assumes nothing.
use borrow.Author.Rules.{rules}
use mathlib.Core.Path.{ap, ◌∙◌}
use Prim.Native.Nat.{ℕ}
use native.Mathlib.Omega.{arith}
use Rattle.numbers.specs.Number.{placed}
use Rattle.sets.specs.Set.{set_bytes}
use Rattle.table.specs.Table.{split_set}
use Rattle.index_feed.proofs.put_frontier.Statement.{statement}
use Rattle.index_feed.proofs.put_frontier.Tie as tie

mul-put-set : tie.Need-overflow_mul-i
mul-put-set c = omega (arith, c.if-i-n.true, c.requires.0)

put-set-requires : tie.Need-put_set-requires
put-set-requires c κs = let s = c.before.before.before.before in (omega (arith, c.if-i-n.true, s.requires.0), s.requires.1)

split-set-requires : tie.Need-split_set-requires
split-set-requires c κs = search rules

store-requires : tie.Need-store-requires
store-requires c κs = search rules

same_length : tie.Need-shape_of-flow-then-i-n
same_length c = search rules

returns : tie.Need-returns-then-i-n
unfolding split_set
returns c = c.put_set.ensures

same-length-2 : tie.Need-shape_of-flow-else-i-n
same-length-2 c = search rules

returns-2 : tie.Need-returns-else-i-n
returns-2 c =
    let stored = c.before.before in
    let read = stored.before.before in
    stored.store.ensures ∙ ap (λ (f : ℕ). placed read.args.flow.now 0 (set_bytes f)) read.split_set.ensures

pub put_frontier_spec : {M : Type 1} → statement M
put_frontier_spec = tie.close (tie.spec mul-put-set put-set-requires split-set-requires store-requires same_length returns same-length-2 returns-2)
