-- `add_set` meets its promise.
use Rattle.std.proofs.Common.{◌≡◌, refl}
use Rattle.sets.specs.Set.{set_of}
use Rattle.table.specs.Table.{most_splits, part}
use Rattle.table_build.proofs.Exploring.{add-found}
use Rattle.index_prepare.proofs.add_set.Goals.{After-from_bytes}
use Rattle.index_prepare.proofs.add_set.Goals as goal

-- the set that is added
set-of : (c : After-from_bytes) → set_of c.from_bytes.result ≡ part c.args.work.now c.args.c
unfolding part
set-of c = c.from_bytes.ensures

pub returns-then-low-c : goal.returns-then-low-c
returns-then-low-c c =
    let a = c.args in
    (refl, refl, λ l k r t. add-found most_splits l a.queue.now a.parts.now a.n (part a.work.now a.c) k (t c.if-low-c.true))

pub add-requires : goal.add-requires
add-requires c = (c.requires.3, c.requires.4, c.requires.5, c.requires.6, rw (set-of (goal.at.add-requires c).After-from_bytes) c.requires.7)

pub returns : goal.returns
returns c =
    let e = set-of (goal.at.returns c).After-from_bytes in
    (c.add.ensures.0, c.add.ensures.1, λ l k r t. rw e at (c.add.ensures.2 l k (rw e r)))
