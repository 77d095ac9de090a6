-- `word_of` finds the split of the set, and says whether it tells.
use Rattle.std.proofs.Common.{◌≡◌, ◌≤◌, sym, ◌∙◌, arith}
use Rattle.sets.specs.Set.{set_of}
use Rattle.table.specs.Table.{split_count, split_of}
use Rattle.table.proofs.Found.{placed}
use Rattle.index_fill.proofs.Reading.{split-most}
use Rattle.index_fill.proofs.Filling.{word-telling, word-silent}
use Rattle.index_fill.proofs.word_of.Goals.{After-unwrap_or}
use Rattle.index_fill.proofs.word_of.Goals as goal

-- the place that is taken
found : (c : After-unwrap_or) → c.unwrap_or.result ≡ split_of c.args.splits.now (set_of c.args.f)
found c =
    let a = c.args in
    c.unwrap_or.ensures ∙ placed a.splits.now (set_of a.f) c.find_sorted.result c.split_count-n.result c.find_sorted.ensures.found c.find_sorted.ensures.none c.split_count-n.ensures

few : (c : After-unwrap_or) → c.unwrap_or.result ≤ split_count c.args.splits.now
few c = let a = c.args in omega (arith, found c, split-most a.splits.now (set_of a.f))

pub entry_place-at-requires : goal.entry_place-at-requires
entry_place-at-requires c = omega (arith, few (goal.at.entry_place-at-requires c).After-unwrap_or, c.requires.1)

pub overflow_add-result : goal.overflow_add-result
overflow_add-result c = omega (arith, c.entry_place-at.ensures, few (goal.at.overflow_add-result c).After-unwrap_or, c.requires.1)

pub returns-then-tells : goal.returns-then-tells
returns-then-tells c =
    let a = c.args in
    word-telling a.list.now a.splits.now (set_of a.f) c.unwrap_or.result c.entry_place-at.result (found (goal.at.returns-then-tells c).After-unwrap_or) c.entry_place-at.ensures
    (sym c.tells.ensures ∙ c.if-tells.true)

pub returns : goal.returns
returns c =
    let a = c.args in
    word-silent a.list.now a.splits.now (set_of a.f) c.unwrap_or.result c.entry_place-at.result (found (goal.at.returns c).After-unwrap_or) c.entry_place-at.ensures
    (sym c.tells.ensures ∙ c.if-tells.false)
