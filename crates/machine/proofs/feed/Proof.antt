-- `feed` meets its promise: a refusal, or a loop and its end. Assumes nothing.
use borrow.Author.Rules.{rules}
use mathlib.Core.Path.{◌≡◌, refl, sym, ap, ◌∙◌}
use mathlib.Core.Bool.{false}
use Prim.Native.Nat.{◌+◌, ◌≤◌}
use native.Mathlib.Omega.{arith}
use lib.ListN.{length}
use Rattle.rules.specs.Rules.{verdict}
use Rattle.feed.specs.Engine.{most_offset}
use Rattle.feed.proofs.Looping.{answers-fed, answers-refused, refused-free}
use Rattle.machine.specs.declared.Config.{Config}
use Rattle.machine.specs.Machine.{state_count, bad_machine, machine}
use Rattle.machine.specs.Record.{config_at, offset_of, flow_layout, bad_flow}
use Rattle.machine.specs.Extended.{feed_rules}
use Rattle.machine.proofs.Records.{GoodFlow, good-flow}
use Rattle.machine.proofs.Feeding.{feed-passes}
use Rattle.machine.proofs.feed.Statement.{statement}
use Rattle.machine.proofs.feed.Tie as tie

-- the way back from the check to the entry
abbrev entry : tie.After-feed_refusal-refusal → tie.Start
entry c = c.before.before.before.before.before.before

-- past the check no rule refuses, so machine and record are good, and the piece begins at the offset and ends at one
verdict-0 : (c : tie.Else-refusal-ne-PASSED)
    → verdict (feed_rules (entry c.before).args.moves.now (entry c.before).args.programs.now (entry c.before).args.flow.now (entry c.before).args.start (entry c.before).args.piece.now) ≡ 0
verdict-0 c = sym c.feed_refusal-refusal.ensures ∙ c.if-refusal-ne-PASSED.false

passes : (c : tie.Else-refusal-ne-PASSED)
    → (bad_machine (entry c.before).args.moves.now (entry c.before).args.programs.now ≡ false)
    × (bad_flow (state_count (entry c.before).args.moves.now) (entry c.before).args.flow.now ≡ false)
    × ((entry c.before).args.start ≡ offset_of (entry c.before).args.flow.now)
    × (offset_of (entry c.before).args.flow.now + length (entry c.before).args.piece.now ≤ most_offset)
passes c =
    let a = (entry c.before).args in
    feed-passes a.moves.now a.programs.now a.flow.now a.start a.piece.now (verdict-0 c)

whole : (c : tie.Else-refusal-ne-PASSED) → GoodFlow (state_count (entry c.before).args.moves.now) (entry c.before).args.flow.now
whole c = good-flow (state_count (entry c.before).args.moves.now) (entry c.before).args.flow.now (passes c).1

feed-refusal-requires : tie.Need-feed_refusal-refusal-requires
feed-refusal-requires c κs = search rules

refused-requires : tie.Need-refused-requires
refused-requires c κs = search rules

same_length : tie.Need-shape_of-flow-then-refusal-ne-PASSED
same_length c = search rules

returns : tie.Need-returns-then-refusal-ne-PASSED
returns c =
    let check = c.before.before in
    let a = (entry check).args in
    let e = check.feed_refusal-refusal.ensures in
    answers-refused (machine a.moves.now a.programs.now) flow_layout a.flow.now a.piece.now a.pairs.now (feed_rules a.moves.now a.programs.now a.flow.now a.start a.piece.now) _
    (λ z. c.if-refusal-ne-PASSED.true (e ∙ z)) (rw e at c.refused.ensures)

load-requires : tie.Need-load-requires
load-requires c κs = (whole c).whole

feed-bytes-requires : tie.Need-feed_bytes-ran-requires
unfolding config_at
feed-bytes-requires c κs =
    let p = passes c.before.before in
    (p.0, omega (arith, (whole c.before.before).in_table, ap (λ (x : Config). x.state) c.load.ensures), omega (arith, p.2, p.3))

add-save : tie.Need-overflow_add-start
add-save c = let p = passes c.before.before.before.before.before.before.before in omega (arith, p.2, p.3, c.feed_bytes-ran.ensures.0.short)

save-requires : tie.Need-save-requires
save-requires c κs = (whole c.before.before.before.before.before.before.before).whole

ended-requires : tie.Need-ended-requires
ended-requires c κs = search rules

same-length-2 : tie.Need-shape_of-flow
same-length-2 c = search rules

same-length-3 : tie.Need-shape_of-pairs
same-length-3 c = search rules

returns-2 : tie.Need-returns
returns-2 c =
    let end = c.before.before.before in
    let ran = end.before.before.before.before.before in
    let e = ran.before.before.before in
    let f = c.ended.ensures in
    let a = (entry e.before).args in
    let p = passes e in
    let l = rw (ran.load.ensures, p.2) at ran.feed_bytes-ran.ensures in
    answers-fed (machine a.moves.now a.programs.now) flow_layout a.flow.now a.piece.now a.pairs.now (feed_rules a.moves.now a.programs.now a.flow.now a.start a.piece.now) _
    ran.feed_bytes-ran.result.config _ ran.feed_bytes-ran.result.bytes ran.feed_bytes-ran.result.words 0 l.0 (verdict-0 e) l.1
    (f.refusal ∙ refused-free ran.feed_bytes-ran.result.bytes (length a.piece.now) _ refl) f.bytes f.pairs f.all _ (rw p.2 at end.save.ensures)

pub feed_spec : {M : Type 1} → statement M
feed_spec =
    tie.close
    (tie.spec
    feed-refusal-requires
    refused-requires
    same_length
    returns
    load-requires
    feed-bytes-requires
    add-save
    save-requires
    ended-requires
    same-length-2
    same-length-3
    returns-2)
