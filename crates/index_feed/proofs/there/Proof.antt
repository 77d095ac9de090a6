-- `there` tests the split, the number of splits and the lengths, so each return is the definition where the tests before it passed. Assumes nothing.
use borrow.Author.Rules.{rules}
use borrow.Author.Tests.{lt-ltb, le-ltb}
use mathlib.Core.Path.{sym, ap, ◌∙◌}
use Prim.Native.Nat.{ℕ}
use native.Mathlib.Omega.{arith}
use lib.ListN.{length}
use lib.Dec.{eqb}
use Rattle.table.specs.Table.{split_count}
use Rattle.index.specs.Entry.{entry_place}
use Rattle.index_feed.proofs.Finding.{bad-many, bad-rest, bad-else}
use Rattle.index_feed.proofs.there.Statement.{statement}
use Rattle.index_feed.proofs.there.Tie as tie

-- the way back to the entry
abbrev entry : tie.After-split_count-n → tie.Start
entry c = c.before.before.before

split-count-requires : tie.Need-split_count-n-requires
split-count-requires c κs = search rules

returns : tie.Need-returns-then-n-hint
returns c =
    let n = c.before in
    let a = (entry n).args in
    sym (rw (le-ltb a.hint (split_count a.splits.now) (omega (arith, c.if-n-hint.true, n.split_count-n.ensures))))

returns-2 : tie.Need-returns-then-n-gt-MOST_SPLITS
returns-2 c =
    let n = c.before.before in
    let a = (entry n).args in
    let e = n.split_count-n.ensures in
    sym
    (rw (
      lt-ltb a.hint (split_count a.splits.now) (omega (arith, c.if-n-hint.false, e)),
      bad-many a.splits.now a.index.now (omega (arith, c.if-n-gt-MOST_SPLITS.true, e)),
    ))

mul-if3 : tie.Need-overflow_mul-n
mul-if3 c = search rules

returns-3 : tie.Need-returns-then-n-splits
returns-3 c =
    let n = c.before.before.before in
    let a = (entry n).args in
    let e = n.split_count-n.ensures in
    sym
    (rw (
      lt-ltb a.hint (split_count a.splits.now) (omega (arith, c.if-n-hint.false, e)),
      bad-rest a.splits.now a.index.now (λ q. c.if-n-splits.true (omega (arith, q, e))),
    ))

entry-place-requires : tie.Need-entry_place-requires
entry-place-requires c κs = search rules

returns-4 : tie.Need-returns
returns-4 c =
    let t = c.before in
    let n = t.before.before.before in
    let a = (entry n).args in
    let e = n.split_count-n.ensures in
    let l = t.if-n-hint.false in
    ap (λ (m : ℕ). eqb (length a.index.now) m) (c.entry_place.ensures ∙ ap entry_place e)
    ∙ sym
    (rw (
      lt-ltb a.hint (split_count a.splits.now) (omega (arith, l, e)),
      bad-else a.splits.now a.index.now (omega (arith, l, e)) (omega (arith, t.if-n-gt-MOST_SPLITS.false, e)) (omega (arith, t.if-n-splits.false, e)),
    ))

pub there_spec : {M : Type 1} → statement M
there_spec = tie.close (tie.spec split-count-requires returns returns-2 mul-if3 returns-3 entry-place-requires returns-4)
