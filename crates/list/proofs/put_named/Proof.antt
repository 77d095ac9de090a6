-- `put_named` puts in both numbers, each where its test holds. Assumes nothing.
use borrow.Author.Rules.{rules}
use Rattle.list.proofs.Named.{words-put}
use Rattle.list.proofs.put_named.Statement.{statement}
use Rattle.list.proofs.put_named.Tie as tie

is-edge-requires : tie.Need-is_edge-linked-requires
is-edge-requires c κs = search rules

is-accept-requires : tie.Need-is_accept-requires
is-accept-requires c κs = search rules

put-word-requires : tie.Need-put_word-requires
put-word-requires c κs = search rules

is-start-requires : tie.Need-is_start-requires
is-start-requires c κs = search rules

put-word-requires-2 : tie.Need-put_word-requires-2
put-word-requires-2 c κs = search rules

same_length : tie.Need-shape_of-w
same_length c = search rules

returns : tie.Need-returns
returns c =
    let second = c.before.before in
    let first = second.before.before.before.before.before in
    let kinds = first.before.before in
    let a = kinds.args in
    words-put a.list.now a.i a.w.now _ _ _ _ _ kinds.is_edge-linked.ensures kinds.is_accept.ensures second.is_start.ensures (search rules)
    first.put_word.ensures second.put_word-2.ensures

pub put_named_spec : {M : Type 1} → statement M
put_named_spec =
    tie.close
    (tie.spec
    is-edge-requires
    is-accept-requires
    put-word-requires
    is-start-requires
    put-word-requires-2
    same_length
    returns)
