-- `advance` writes three fields over a record whose frontier is there. Assumes nothing.
use borrow.Author.Rules.{rules}
use mathlib.Core.Path.{◌∙◌}
use Prim.Native.Nat.{◌+◌}
use Rattle.list_flow.specs.Flow.{rows_of}
use Rattle.index_feed.proofs.Saving.{advanced}
use Rattle.index_feed.proofs.advance.Statement.{statement}
use Rattle.index_feed.proofs.advance.Tie as tie

number-at-requires : tie.Need-number_at-requires
number-at-requires c κs = search rules

add-all : tie.Need-overflow_add-all
add-all c = search rules

put-number-requires : tie.Need-put_number-requires
put-number-requires c κs = search rules

put-number-requires-2 : tie.Need-put_number-requires-2
put-number-requires-2 c κs = search rules

put-number-requires-3 : tie.Need-put_number-requires-3
put-number-requires-3 c κs = search rules

same_length : tie.Need-shape_of-flow
same_length c = search rules

returns : tie.Need-returns
returns c =
    let a = c.args in
    c.put_number-3.ensures
    ∙ rw (c.put_number-2.ensures, c.put_number.ensures, c.number_at.ensures)
    (advanced a.flow.now a.offset (rows_of a.flow.now + a.rows) (λ i. (c.slice_known-1.given i).fits) c.requires.0)

pub advance_spec : {M : Type 1} → statement M
advance_spec = tie.close (tie.spec number-at-requires add-all put-number-requires put-number-requires-2 put-number-requires-3 same_length returns)
