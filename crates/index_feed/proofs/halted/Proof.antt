-- `halted` is the definition, case by case. Assumes nothing.
use borrow.Author.Rules.{rules}
use borrow.Author.Tests.{lt-ltb, le-ltb, lt-leb, le-leb}
use mathlib.Core.Path.{sym}
use Rattle.index.specs.Entry.{limit}
use Rattle.index_feed.proofs.halted.Statement.{statement}
use Rattle.index_feed.proofs.halted.Tie as tie

returns : tie.Need-returns-then-len-bytes
returns c = let a = c.args in sym (rw (le-ltb a.bytes a.len c.if-len-bytes.true))

sub-if2 : tie.Need-overflow_sub-index
sub-if2 c = search rules

returns-2 : tie.Need-returns-then-place-index
returns-2 c =
    let a = c.args in
    sym (rw (lt-ltb a.bytes a.len c.if-len-bytes.false, lt-leb (limit a.index.now) a.place c.if-place-index.true))

returns-3 : tie.Need-returns
returns-3 c =
    let a = c.args in
    sym (rw (lt-ltb a.bytes a.len c.if-len-bytes.false, le-leb (limit a.index.now) a.place c.if-place-index.false))

pub halted_spec : {M : Type 1} → statement M
halted_spec = tie.close (tie.spec returns sub-if2 returns-2 returns-3)
