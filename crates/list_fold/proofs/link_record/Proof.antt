-- `link_record` puts an edge in front of the others to its state. Assumes nothing.
use mathlib.Core.Bool.{true}
use Rattle.list.specs.List.{is_edge}
use Rattle.list_fold.proofs.Linking.{link-in, link-far, link-other}
use borrow.Author.Rules.{rules}
use native.Mathlib.Omega.{arith}
use mathlib.Core.Path.{◌≡◌, sym, ◌∙◌}
use Rattle.list_fold.proofs.link_record.Statement.{statement}
use Rattle.list_fold.proofs.link_record.Tie as tie

is-edge-requires : tie.Need-is_edge-requires
is-edge-requires c κs = search rules

target-requires : tie.Need-target-t-requires
target-requires c κs = search rules

number-at-requires : tie.Need-number_at-h-requires
number-at-requires c κs =
    omega (arith, c.requires.1.long-heads, c.if-t-lt-STATES.true)

put-at-requires : tie.Need-put_at-requires
put-at-requires c κs =
    (omega (arith, c.requires.0, c.requires.1.few, c.requires.1.long-nexts), c.number_at-h.ensures.1)

put-at-requires-2 : tie.Need-put_at-requires-then-t-lt-STATES
put-at-requires-2 c κs =
    (omega (arith, c.requires.1.long-heads, c.if-t-lt-STATES.true), omega (arith, c.requires.0, c.requires.1.few))

same_length : tie.Need-shape_of-head
same_length c = search rules

same-length-2 : tie.Need-shape_of-next
same-length-2 c = search rules

returns : tie.Need-returns-then-t-lt-STATES
returns c =
    let t = c.target-t.ensures in
    let e : is_edge c.args.list.now c.args.i ≡ true = sym c.is_edge.ensures ∙ c.if-is_edge.true in
    let x = c.number_at-h.ensures.0 in
    let w = link-in c.args.list.now c.args.head.now c.args.next.now c.args.i c.requires.0 c.requires.1 c.number_at-h.result (x ∙ rw t) e (rw (← t) c.if-t-lt-STATES.true) in
    rw (c.put_at-then-t-lt-STATES.ensures, c.put_at.ensures, t) w

returns-2 : tie.Need-returns-else-t-lt-STATES
returns-2 c =
    link-far c.args.list.now c.args.head.now c.args.next.now c.args.i c.requires.0 c.requires.1 (omega (arith, c.target-t.ensures, c.if-t-lt-STATES.false))

returns-3 : tie.Need-returns-else-is_edge
returns-3 c =
    link-other c.args.list.now c.args.head.now c.args.next.now c.args.i c.requires.0 c.requires.1 (sym c.is_edge.ensures ∙ c.if-is_edge.false)

pub link_record_spec : {M : Type 1} → statement M
link_record_spec =
    tie.close
    (tie.spec
    is-edge-requires
    target-requires
    number-at-requires
    put-at-requires
    put-at-requires-2
    same_length
    same-length-2
    returns
    returns-2
    returns-3)
