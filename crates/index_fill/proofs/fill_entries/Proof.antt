-- `fill_entries` finds the lowest byte of each class, and fills by those. Assumes nothing.
use borrow.Author.Rules.{rules}
use native.Mathlib.Omega.{arith}
use Rattle.list.specs.Automaton.{step}
use Rattle.table.specs.Table.{split_set}
use Rattle.index_fill.proofs.Filling.{low-led}
use Rattle.index_fill.proofs.fill_entries.Statement.{statement}
use Rattle.index_fill.proofs.fill_entries.Tie as tie

slice-aggregate-put-lows : tie.Need-slice_bounds-put_lows-end
slice-aggregate-put-lows c = search rules

put-lows-requires : tie.Need-put_lows-requires
put-lows-requires c κs = search rules

slice-aggregate-fill-all : tie.Need-slice_bounds-fill_all-end
slice-aggregate-fill-all c = search rules

fill-all-requires : tie.Need-fill_all-requires
fill-all-requires c κs =
    let put = c.before.before.before.before in
    let s = put.before.before.before.before.before.before.before in
    let a = s.args in (
      s.requires.0,
      s.requires.1,
      omega (arith, put.put_lows.ensures.0),
      s.requires.3,
      s.requires.4,
      s.requires.5,
      λ i d h l. low-led (step a.list.now (split_set a.splits.now i)) a.classes.now put.put_lows.new.lows d l (put.put_lows.ensures.1 d l) (λ x y. s.requires.6 i x y h),
    )

same_length : tie.Need-shape_of-work
same_length c = c.fill_all.ensures.0

same-length-2 : tie.Need-shape_of-index
same-length-2 c = search rules

returns : tie.Need-returns
returns c = c.fill_all.ensures

pub fill_entries_spec : {M : Type 1} → statement M
fill_entries_spec = tie.close (tie.spec slice-aggregate-put-lows put-lows-requires slice-aggregate-fill-all fill-all-requires same_length same-length-2 returns)
