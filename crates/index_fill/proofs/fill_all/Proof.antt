-- `fill_all` writes the states that are named, then the entries one after the other. Assumes nothing.
use borrow.Author.Rules.{rules}
use mathlib.Core.Path.{◌≡◌, refl, ap, ◌∙◌}
use mathlib.Core.List.{List}
use Prim.Native.Nat.{ℕ, ◌-◌, ◌≤◌, ◌<◌}
use native.Mathlib.Omega.{arith}
use lib.ListN.{length}
use Rattle.numbers.specs.Number.{placed}
use Rattle.sets.specs.Set.{set_size}
use Rattle.numbers.proofs.Placing.{placed-none, length-placed}
use Rattle.rules.specs.Scan.{stack}
use Rattle.table.specs.Table.{split_count}
use Rattle.index_fill.specs.Filled.{entry_of}
use Rattle.index_fill.proofs.Filling.{entries_next, entries-done}
use Rattle.index_fill.proofs.fill_all.Statement.{statement}
use Rattle.index_fill.proofs.fill_all.Tie as tie

abbrev invariant-loop : tie.invariant-loop-i
invariant-loop list lows splits m work₀ index₀ accepts names n i₀ work index i = (i ≤ n) × (length work ≡ length work₀) × (index ≡ placed index₀ set_size (stack (entry_of list m splits) i))

abbrev decreases-loop : tie.decreases-loop-i
decreases-loop list lows splits m work₀ index₀ accepts names n i₀ work index i = n - i

-- the ways back: from the count to the entry, and from the loop's head to what is stored and to the count
abbrev start : tie.After-split_count-n invariant-loop decreases-loop → tie.Start invariant-loop decreases-loop
start c = c.before.before.before.before.before.before.before.before

abbrev named : tie.At-loop-i invariant-loop decreases-loop → tie.After-store invariant-loop decreases-loop
named c = c.before.before.before

abbrev counted : tie.After-store invariant-loop decreases-loop → tie.After-split_count-n invariant-loop decreases-loop
counted c = c.before.before

-- with the states that are named it keeps its length, and with the entries behind them
stored : (c : tie.After-store invariant-loop decreases-loop) → length c.store.new.b ≡ length (start (counted c)).args.index.now
stored c = ap (λ (xs : List ℕ). length xs) c.store.ensures ∙ length-placed (start (counted c)).args.index.now 0 _

kept : (c : tie.At-loop-i invariant-loop decreases-loop) → length c.loop-i.index ≡ length (start (counted (named c))).args.index.now
kept c = ap (λ (xs : List ℕ). length xs) c.loop-i.invariant.2 ∙ length-placed (named c).store.new.b set_size _ ∙ stored (named c)

-- in the loop a split is still to come
to-come : (c : tie.In-loop-i invariant-loop decreases-loop) → c.loop-i.i < split_count (start (counted (named c.before))).args.splits.now
to-come c = omega (arith, c.loop-i-test, (counted (named c.before)).split_count-n.ensures)

accepting-requires : tie.Need-accepting-accepts-requires invariant-loop decreases-loop
accepting-requires c κs = search rules

names-requires : tie.Need-names-names-requires invariant-loop decreases-loop
names-requires c κs = search rules

split-count-requires : tie.Need-split_count-n-requires invariant-loop decreases-loop
split-count-requires c κs = search rules

store-requires : tie.Need-store-requires invariant-loop decreases-loop
store-requires c κs = search rules

loop-holds : tie.Need-loop-i-init invariant-loop decreases-loop
unfolding stack
loop-holds c =
    let s = c.before.before in
    (omega arith, refl, placed-none s.store.new.b set_size (omega (arith, stored s, (start (counted s)).requires.4)))

fill-entry-requires : tie.Need-fill_entry-requires invariant-loop decreases-loop
fill-entry-requires c κs =
    let inside = c.before.before in
    let head = inside.before in
    let n = counted (named head) in
    let s = start n in
    let h = to-come inside in (
      n.accepting-accepts.ensures,
      n.names-names.ensures,
      s.requires.0,
      s.requires.1,
      s.requires.2,
      s.requires.3,
      h,
      omega (arith, kept head, h, s.requires.4),
      omega (arith, head.loop-i.invariant.1, s.requires.5),
      λ d l. s.requires.6 head.loop-i.i d h l,
    )

add-i : tie.Need-overflow_step-i invariant-loop decreases-loop
add-i c = search rules

loop-less : tie.Need-loop-i-smaller invariant-loop decreases-loop
loop-less c = search rules

loop-again : tie.Need-loop-i-preserved invariant-loop decreases-loop
loop-again c =
    let done = c.before.before.before.before in
    let inside = done.before.before.before in
    let head = inside.before in
    let st = named head in
    let s = start (counted st) in
    let a = s.args in
    let l = head.loop-i in (
      omega (arith, inside.loop-i-test),
      done.fill_entry.ensures.0 ∙ l.invariant.1,
      entries_next st.store.new.b l.index _ a.list.now a.m a.splits.now l.i done.fill_entry.ensures.1 l.invariant.2 (omega (arith, stored st, to-come inside, s.requires.4)),
    )

same_length : tie.Need-shape_of-work invariant-loop decreases-loop
same_length c = c.loop-i.invariant.1

same-length-2 : tie.Need-shape_of-index invariant-loop decreases-loop
same-length-2 c = kept c.before

returns : tie.Need-returns invariant-loop decreases-loop
returns c =
    let head = c.before in
    let st = named head in
    let n = counted st in
    let s = start n in
    let a = s.args in
    let l = head.loop-i in
    let e : l.i ≡ split_count a.splits.now = omega (arith, c.loop-i-test, l.invariant.0, n.split_count-n.ensures) in
    (l.invariant.1, entries-done a.index.now st.store.new.b l.index a.list.now a.m a.splits.now (split_count a.splits.now) l.i _ l.invariant.2 st.store.ensures n.names-names.ensures e s.requires.4)

pub fill_all_spec : {M : Type 1} → statement M
fill_all_spec =
    tie.close
    (tie.spec
    invariant-loop
    decreases-loop
    accepting-requires
    names-requires
    split-count-requires
    store-requires
    loop-holds
    fill-entry-requires
    add-i
    loop-less
    loop-again
    same_length
    same-length-2
    returns)
