-- `note_accept` tests the record, and marks its state. Assumes nothing.
use Prim.Native.Nat.{◌<◌}
use mathlib.Core.Path.{sym, ◌∙◌}
use mathlib.Core.Bool.{true≢false}
use borrow.Author.Tests.{not-true, not-false}
use Rattle.sets.specs.Set.{states}
use Rattle.list.specs.List.{from}
use Rattle.list.proofs.Listed.{good-other, accept-good}
use native.Mathlib.Omega.{arith}
use borrow.Author.Rules.{rules}
use Rattle.list_join.proofs.note_accept.Statement.{statement}
use Rattle.list_join.proofs.note_accept.Tie as tie

fine : (c : tie.Else-not-good_record) → let a = c.args in from a.list.now a.i < states
fine c =
    ((accept-good c.args.list.now c.args.i).0 (sym (good-other c.args.list.now c.args.i c.requires.1 c.requires.2) ∙ sym c.good_record.ensures ∙ not-false _ c.if-not-good_record.false-raw)).2

good-record-requires : tie.Need-good_record-requires
good-record-requires c κs = search rules

returns : tie.Need-returns-then-not-good_record
returns c = (sym (not-true _ c.if-not-good_record.true-raw) ∙ c.good_record.ensures, λ z. absurd (true≢false (sym z)))

from-requires : tie.Need-from-requires
from-requires c κs = search rules

put-flag-requires : tie.Need-put_flag-requires
put-flag-requires c κs = omega (arith, fine c.before.before, c.from.ensures, c.requires.3)

same_length : tie.Need-shape_of-marks
same_length c = search rules

returns-2 : tie.Need-returns
returns-2 c =
    (sym (not-false _ c.if-not-good_record.false-raw) ∙ c.good_record.ensures, λ _. (fine c.before.before.before.before.before, c.put_flag.ensures ∙ rw c.from.ensures))

pub note_accept_spec : {M : Type 1} → statement M
note_accept_spec =
    tie.close
    (tie.spec
    good-record-requires
    returns
    from-requires
    put-flag-requires
    same_length
    returns-2)
