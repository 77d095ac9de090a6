-- `put_leaf` meets its promise. Assumes nothing.
use borrow.Author.Rules.{rules}
use native.Mathlib.Omega.{arith}
use Prim.Native.Nat.{◌*◌}
use mathlib.Core.Path.{ap, ◌∙◌}
use Rattle.numbers.specs.Number.{placed}
use Rattle.sets.specs.Set.{set_words, byte_words, set_bytes, byte_set_of}
use Rattle.sets.proofs.Sets.{words-lt, empty-words}
use Rattle.sets.proofs.Whole.{byte-set-valid-of}
use Rattle.text_walk.specs.inner.Rows.{row_size}
use Rattle.text_walk.proofs.Loops.{leafed, leafed-none}
use Rattle.text_walk.proofs.put_leaf.Statement.{statement}
use Rattle.text_walk.proofs.put_leaf.Tie as tie

mul-store : tie.Need-overflow_mul-t
mul-store c = search rules

store-requires : tie.Need-store-requires
store-requires c κs = search rules

mul-store-2 : tie.Need-overflow_mul-t-then-t-lt-STATES
mul-store-2 c = search rules

add-store : tie.Need-overflow_add-t
add-store c = search rules

store-requires-2 : tie.Need-store-requires-then-t-lt-STATES
store-requires-2 c κs = search rules

same_length : tie.Need-shape_of-rows
same_length c =
    c.store-then-t-lt-STATES.auto.b ∙ c.store.auto.b

returns : tie.Need-returns-then-t-lt-STATES
returns c =
    let s = c in
    let a = s.args in
    leafed a.rows.now c.store.new.b c.store-then-t-lt-STATES.new.b a.t (byte_set_of a.letter) s.requires c.if-t-lt-STATES.true (words-lt byte_words a.letter.words (byte-set-valid-of a.letter _ s.well_formed.1.1.0))
    (c.store.ensures ∙ ap (λ z. placed a.rows.now (row_size * a.t) (set_bytes z)) (empty-words set_words)) c.store-then-t-lt-STATES.ensures

returns-2 : tie.Need-returns-else-t-lt-STATES
returns-2 c =
    leafed-none c.args.rows.now c.args.t (byte_set_of c.args.letter) (omega arith)

pub put_leaf_spec : {M : Type 1} → statement M
put_leaf_spec =
    tie.close
    (tie.spec
    mul-store
    store-requires
    mul-store-2
    add-store
    store-requires-2
    same_length
    returns
    returns-2)
