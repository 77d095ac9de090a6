-- `copy_row` meets its promise. Assumes nothing.
use borrow.Author.Rules.{rules}
use Prim.Native.Nat.{◌<◌, ◌+◌, ◌*◌, ◌^◌}
use mathlib.Core.Path.{sym, ap, subst, ◌∙◌}
use Rattle.sets.specs.Set.{byte_count, set_size, set_of, byte_set_of}
use Rattle.text_walk.specs.inner.Rows.{row_size}
use Rattle.sets_words.specs.inner.Further.{further}
use Rattle.text_walk.proofs.Buffer.{byte-set-at-lt}
use Rattle.text_walk.proofs.Loops.{copied-one}
use Rattle.text_walk.proofs.copy_row.Statement.{statement}
use Rattle.text_walk.proofs.copy_row.Tie as tie

mul-from-bytes : tie.Need-overflow_mul-t
mul-from-bytes c = search rules

from-bytes-requires : tie.Need-from_bytes-old-requires
from-bytes-requires c κs = search rules

mul-from-bytes-2 : tie.Need-overflow_mul-t-2
mul-from-bytes-2 c = search rules

add-from-bytes : tie.Need-overflow_add-t
add-from-bytes c = search rules

from-bytes-requires-2 : tie.Need-from_bytes-letter-requires
from-bytes-requires-2 c κs = search rules

shifted-requires : tie.Need-shifted-more-requires
shifted-requires c κs = search rules

add-store : tie.Need-overflow_add-t-2
add-store c = search rules

mul-store : tie.Need-overflow_mul-t-3
mul-store c = search rules

store-requires : tie.Need-store-requires
store-requires c κs = search rules

add-store-2 : tie.Need-overflow_add-t-3
add-store-2 c = search rules

mul-store-2 : tie.Need-overflow_mul-t-4
mul-store-2 c = search rules

add-store-3 : tie.Need-overflow_add-t-4
add-store-3 c = search rules

store-requires-2 : tie.Need-store-requires-2
store-requires-2 c κs = search rules

same_length : tie.Need-shape_of-rows
same_length c =
    c.store-2.auto.b ∙ c.store.auto.b

returns : tie.Need-returns
returns c =
    let s = c in
    let a = s.args in
    let q = c.from_bytes-letter.ensures in
    copied-one a.rows.now c.store.new.b c.store-2.new.b a.t a.d (set_of c.shifted-more.result) (byte_set_of c.from_bytes-letter.result) s.requires.1 s.requires.0
    (c.shifted-more.ensures ∙ ap (further a.d) c.from_bytes-old.ensures) q (subst (λ z. z < 2 ^ byte_count) (sym q) (byte-set-at-lt a.rows.now (row_size * a.t + set_size) (λ i. (c.slice_known-1.given i).fits)))
    c.store.ensures c.store-2.ensures

pub copy_row_spec : {M : Type 1} → statement M
copy_row_spec =
    tie.close
    (tie.spec
    mul-from-bytes
    from-bytes-requires
    mul-from-bytes-2
    add-from-bytes
    from-bytes-requires-2
    shifted-requires
    add-store
    mul-store
    store-requires
    add-store-2
    mul-store-2
    add-store-3
    store-requires-2
    same_length
    returns)
