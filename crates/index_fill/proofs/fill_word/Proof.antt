-- `fill_word` copies the word of a lower byte that leads to the same set, or makes it. Assumes nothing.
use borrow.Author.Rules.{rules}
use mathlib.Core.Path.{ap, ◌∙◌}
use Prim.Native.Nat.{ℕ, ◌+◌, ◌*◌}
use native.Mathlib.Omega.{arith}
use lib.ListN.{get_or}
use Rattle.numbers.specs.Number.{digits, placed}
use Rattle.table.specs.Table.{part}
use Rattle.index_fill.specs.Filled.{word_of}
use Rattle.index_fill.proofs.fill_word.Statement.{statement}
use Rattle.index_fill.proofs.fill_word.Tie as tie

-- the way back to the entry
abbrev entry : tie.After-shared_slice_known-5-1 → tie.Start
entry c = c.before.before.before.before.before.before

shared-slice-read-low : tie.Need-bounds-lows-c
shared-slice-read-low c = let s = c in omega (arith, s.requires.3, s.requires.5)

cast-low : tie.Need-overflow_cast-low
cast-low c = omega (arith, c.shared_slice_known-5-1.given (entry c).args.c)

mul-whole-number : tie.Need-overflow_mul-low
mul-whole-number c = let s = entry c.before in omega (arith, c.if-low-c.true, s.requires.5)

add-whole-number : tie.Need-overflow_add-at
add-whole-number c = let s = entry c.before in omega (arith, c.if-low-c.true, s.requires.5, s.requires.6)

whole-number-requires : tie.Need-whole_number-w-requires
whole-number-requires c κs = let s = entry c.before in (omega (arith, c.if-low-c.true, s.requires.5, s.requires.6), omega arith)

mul-put-number : tie.Need-overflow_mul-c
mul-put-number c = omega (arith, (entry c.before.before.before).requires.5)

add-put-number : tie.Need-overflow_add-at-then-low-c
add-put-number c = let s = entry c.before.before.before in omega (arith, s.requires.5, s.requires.6)

put-number-requires : tie.Need-put_number-requires
put-number-requires c κs = let s = entry c.before.before.before in (omega (arith, s.requires.5, s.requires.6), omega arith)

same_length : tie.Need-shape_of-index-then-low-c
same_length c = search rules

returns : tie.Need-returns-then-low-c
returns c =
    let s = c in
    let a = s.args in
    c.put_number.ensures
    ∙ ap (λ (v : ℕ). placed a.index.now (a.at + 4 * a.c) (digits 8 4 v))
    (c.whole_number-w.ensures ∙ s.requires.9 (get_or a.lows.now a.c 0) c.if-low-c.true ∙ ap (word_of a.list.now a.splits.now) (s.requires.7 c.if-low-c.true))

mul-from-bytes : tie.Need-overflow_mul-c-2
mul-from-bytes c = omega (arith, (entry c.before).requires.5)

from-bytes-requires : tie.Need-from_bytes-requires
from-bytes-requires c κs = let s = entry c.before in (search rules, omega (arith, s.requires.4, s.requires.5))

word-of-requires : tie.Need-word_of-w-requires
unfolding part
word-of-requires c κs = let s = entry c.before.before in (s.requires.0, s.requires.1, s.requires.2, rw c.from_bytes.ensures s.requires.8)

mul-put-number-2 : tie.Need-overflow_mul-c-3
mul-put-number-2 c = omega (arith, (entry c.before.before.before.before).requires.5)

add-put-number-2 : tie.Need-overflow_add-at-2
add-put-number-2 c = let s = entry c.before.before.before.before in omega (arith, s.requires.5, s.requires.6)

put-number-requires-2 : tie.Need-put_number-requires-2
put-number-requires-2 c κs = let s = entry c.before.before.before.before in (omega (arith, s.requires.5, s.requires.6), omega arith)

same-length-2 : tie.Need-shape_of-index
same-length-2 c = search rules

returns-2 : tie.Need-returns
unfolding part
returns-2 c =
    let a = c.args in
    c.put_number-2.ensures
    ∙ ap (λ (v : ℕ). placed a.index.now (a.at + 4 * a.c) (digits 8 4 v)) (c.word_of-w.ensures ∙ ap (word_of a.list.now a.splits.now) c.from_bytes.ensures)

pub fill_word_spec : {M : Type 1} → statement M
fill_word_spec =
    tie.close
    (tie.spec
    shared-slice-read-low
    cast-low
    mul-whole-number
    add-whole-number
    whole-number-requires
    mul-put-number
    add-put-number
    put-number-requires
    same_length
    returns
    mul-from-bytes
    from-bytes-requires
    word-of-requires
    mul-put-number-2
    add-put-number-2
    put-number-requires-2
    same-length-2
    returns-2)
