-- `save` advances the record, and writes the frontier over its own where the feed has moved. Assumes nothing.
use borrow.Author.Rules.{rules}
use mathlib.Core.Path.{sym, ap, ◌∙◌}
use mathlib.Core.List.{List}
use Prim.Native.Nat.{ℕ, ◌+◌}
use Rattle.numbers.specs.Number.{placed}
use Rattle.sets.specs.Set.{set_bytes}
use Rattle.list_flow.specs.Flow.{frontier_of, rows_of}
use Rattle.table.specs.Table.{split_set}
use Rattle.index_feed.proofs.Saving.{front-over}
use Rattle.index_feed.proofs.save.Statement.{statement}
use Rattle.index_feed.proofs.save.Tie as tie

advance-requires : tie.Need-advance-requires
advance-requires c κs = let s = c.before.before.before in (s.requires.1, s.requires.2)

put-frontier-requires : tie.Need-put_frontier-requires
put-frontier-requires c κs = search rules

same_length : tie.Need-shape_of-flow-then-moved
same_length c = search rules

returns : tie.Need-returns-then-moved
returns c =
    let put = c.before.before in
    let moved = put.before.before in
    let advance = moved.before.before.before in
    let a = advance.args in
    put.put_frontier.ensures
    ∙ ap (λ (b : List ℕ). placed b 0 (set_bytes (split_set a.splits.now a.i))) advance.advance.ensures
    ∙ front-over (frontier_of a.flow.now) (split_set a.splits.now a.i) a.offset (rows_of a.flow.now + a.rows)
    ∙ sym (rw moved.if-moved.true)

same-length-2 : tie.Need-shape_of-flow-else-moved
same-length-2 c = search rules

returns-2 : tie.Need-returns-else-moved
returns-2 c = c.advance.ensures ∙ sym (rw c.if-moved.false)

pub save_spec : {M : Type 1} → statement M
save_spec = tie.close (tie.spec advance-requires put-frontier-requires same_length returns same-length-2 returns-2)
