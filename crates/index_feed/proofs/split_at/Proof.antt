-- `split_at` is the definition, case by case; a place before the first entry counts as its own. Assumes nothing.
use borrow.Author.Rules.{rules}
use borrow.Author.Tests.{lt-ltb, le-ltb}
use mathlib.Core.Path.{◌≡◌, sym}
use Prim.Native.Nat.{◌-◌, ◌/◌}
use native.Mathlib.Omega.{arith}
use Rattle.index.specs.Entry.{limit}
use Rattle.index_feed.proofs.split_at.Statement.{statement}
use Rattle.index_feed.proofs.split_at.Tie as tie

sub-if1 : tie.Need-overflow_sub-index
sub-if1 c = search rules

returns : tie.Need-returns-then-index-place
returns c = let a = c.args in sym (rw (le-ltb a.place (limit a.index.now) c.if-index-place.true))

returns-2 : tie.Need-returns-then-place-lt-BYTES
returns-2 c =
    let a = c.args in
    let z : (a.place - 128) / 1088 ≡ 0 = omega (arith, c.if-place-lt-BYTES.true) in
    sym (rw (lt-ltb a.place (limit a.index.now) c.if-index-place.false, z))

returns-3 : tie.Need-returns
returns-3 c =
    let a = c.args in
    sym (rw (lt-ltb a.place (limit a.index.now) c.if-index-place.false))

pub split_at_spec : {M : Type 1} → statement M
split_at_spec = tie.close (tie.spec sub-if1 returns returns-2 returns-3)
