-- `known` is the definition, case by case. Assumes nothing.
use Rattle.std.proofs.Common.{sym, ◌∙◌, length, arith}
use borrow.Author.Tests.{lt-ltb, le-ltb}
use Rattle.sets.specs.Set.{set_size}
use Rattle.index.specs.Entry.{known_in}
use Rattle.index.proofs.known.Goals as goal

pub returns-then-index-lt-BYTES : goal.returns-then-index-lt-BYTES
unfolding known_in
returns-then-index-lt-BYTES c = sym (rw (lt-ltb (length c.args.index.now) set_size c.if-index-lt-BYTES.true))

pub returns : goal.returns
unfolding known_in
returns c =
    c.covers.ensures ∙ rw c.from_bytes-named.ensures (sym (rw (le-ltb (length c.args.index.now) set_size (omega (arith, c.if-index-lt-BYTES.false)))))
