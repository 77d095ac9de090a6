-- `place_refusal` tests the rules of a feed, then 25. Assumes nothing.
use borrow.Author.Rules.{rules}
use Prim.Native.Nat.{◌≤◌, ◌+◌}
use mathlib.Core.Path.{◌≡◌, sym, ◌∙◌}
use native.Mathlib.Omega.{arith}
use lib.ListN.{length}
use Rattle.rules.specs.Rules.{verdict}
use Rattle.list_flow.specs.Flow.{feed_rules}
use Rattle.list_why.proofs.Placed.{place-refused, ends-below, before-start, behind-end, short-states, short-work, place-good}
use Rattle.list_why.proofs.place_refusal.Statement.{statement}
use Rattle.list_why.proofs.place_refusal.Tie as tie

feed-refusal-requires : tie.Need-feed_refusal-met-requires
feed-refusal-requires c κs = search rules

-- the way back to the entry; past the check of a feed no rule of it refuses
abbrev entry : tie.After-feed_refusal-met → tie.Start
entry c = c.before.before.before.before.before.before

feeds : (c : tie.Else-met-ne-PASSED) → let a = (entry c.before).args in verdict (feed_rules a.list.now a.flow.now a.start a.piece.now) ≡ 0
feeds c = sym c.feed_refusal-met.ensures ∙ c.if-met-ne-PASSED.false

-- there the piece ends at an offset
short : (c : tie.Else-met-ne-PASSED) → let a = (entry c.before).args in a.start + length a.piece.now ≤ 4294967295
short c =
    let a = (entry c.before).args in
    ends-below a.list.now a.flow.now a.start a.piece.now a.offset a.run.now a.work.now (feeds c)

returns : tie.Need-returns-then-met-ne-PASSED
returns c =
    let a = (entry c.before).args in
    let e = c.feed_refusal-met.ensures in
    e ∙ sym (place-refused a.list.now a.flow.now a.start a.piece.now a.offset a.run.now a.work.now (λ z. c.if-met-ne-PASSED.true (e ∙ z)))

returns-2 : tie.Need-returns-then-offset-start
returns-2 c =
    let a = (entry c.before.before).args in
    sym (before-start a.list.now a.flow.now a.start a.piece.now a.offset a.run.now a.work.now (feeds c.before) c.if-offset-start.true)

returns-3 : tie.Need-returns-then-piece-offset
returns-3 c =
    let a = (entry c.before.before.before).args in
    sym (behind-end a.list.now a.flow.now a.start a.piece.now a.offset a.run.now a.work.now (feeds c.before.before) (omega arith))

add-if4 : tie.Need-overflow_add-n
add-if4 c = search rules

returns-4 : tie.Need-returns-then-run-n
returns-4 c =
    let a = (entry c.before.before.before.before).args in
    sym (short-states a.list.now a.flow.now a.start a.piece.now a.offset a.run.now a.work.now (feeds c.before.before.before) (omega arith))

add-if5 : tie.Need-overflow_add-n-2
add-if5 c = search rules

mul-if5 : tie.Need-overflow_mul-n
mul-if5 c = omega (arith, short c.before.before.before)

returns-5 : tie.Need-returns-then-work-n
returns-5 c =
    let a = (entry c.before.before.before.before.before).args in
    sym (short-work a.list.now a.flow.now a.start a.piece.now a.offset a.run.now a.work.now (feeds c.before.before.before.before) (omega arith))

returns-6 : tie.Need-returns
returns-6 c =
    let a = (entry c.before.before.before.before.before).args in
    sym (place-good a.list.now a.flow.now a.start a.piece.now a.offset a.run.now a.work.now (feeds c.before.before.before.before) (omega arith) (omega arith) (omega arith) (omega arith))

pub place_refusal_spec : {M : Type 1} → statement M
place_refusal_spec =
    tie.close
    (tie.spec
    feed-refusal-requires
    returns
    returns-2
    returns-3
    add-if4
    returns-4
    add-if5
    mul-if5
    returns-5
    returns-6)
