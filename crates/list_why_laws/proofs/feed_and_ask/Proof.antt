-- `feed_and_ask` meets its promise by those of the feed and of the questions. Assumes nothing.
use borrow.Author.Rules.{rules}
use mathlib.Core.Path.{sym}
use lib.Seq.{length-take-le}
use Rattle.table.specs.Table.{table}
use Rattle.laws.specs.Calls.{Call}
use Rattle.laws.specs.Drivers.{via_by, call_of}
use Rattle.list_why_laws.proofs.Driving.{eaten-fit, told_fit}
use Rattle.list_why_laws.proofs.feed_and_ask.Statement.{statement}
use Rattle.list_why_laws.proofs.feed_and_ask.Tie as tie

-- the feed as a call
abbrev call : tie.Start → Call
call s =
    let a = s.args in
    call_of a.list.now (via_by a.bound (table a.classes.now a.parts.now a.rows.now a.splits.now) a.matrix.now a.index.now a.kind) 0 a.piece.now a.pairs.now

feed-by-requires : tie.Need-feed_by-fed-requires
feed-by-requires c κs = search rules

slice-aggregate-ask-all : tie.Need-slice_bounds-ask_all-end
slice-aggregate-ask-all c =
    let s = c.before.before.before.before.before.before.before.before.before.before.before.before.before.before.before.before.before.before.before.before in
    sym (length-take-le _ _ (eaten-fit s.args.flow.now (call s) _ _ _ c.feed_by-fed.ensures))

ask-all-requires : tie.Need-ask_all-refusal-requires
ask-all-requires c κs =
    let s = c.before.before.before.before.before.before.before.before.before.before.before.before.before.before.before.before.before.before.before.before.before.before in
    told_fit s.args.flow.now (call s) _ _ _ c.feed_by-fed.ensures

same_length : tie.Need-shape_of-flow
same_length c = search rules

same-length-2 : tie.Need-shape_of-pairs
same-length-2 c = search rules

same-length-3 : tie.Need-shape_of-run
same-length-3 c = search rules

same-length-4 : tie.Need-shape_of-work
same-length-4 c = search rules

returns : tie.Need-returns
returns c = (c.feed_by-fed.ensures, c.ask_all-refusal.ensures)

pub feed_and_ask_spec : {M : Type 1} → statement M
feed_and_ask_spec = tie.close (tie.spec feed-by-requires slice-aggregate-ask-all ask-all-requires same_length same-length-2 same-length-3 same-length-4 returns)
