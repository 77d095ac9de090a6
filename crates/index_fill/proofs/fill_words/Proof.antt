-- `fill_words` writes the words one after the other. Assumes nothing.
use borrow.Author.Rules.{rules}
use mathlib.Core.Path.{◌≡◌, ap, ◌∙◌}
use mathlib.Core.List.{List}
use Prim.Native.Nat.{ℕ, ◌+◌, ◌*◌, ◌-◌, ◌≤◌}
use native.Mathlib.Omega.{arith}
use lib.ListN.{length}
use Rattle.numbers.specs.Number.{digits, placed}
use Rattle.numbers.proofs.Placing.{placed-none, length-placed}
use Rattle.rules.specs.Scan.{stack}
use Rattle.table.specs.Table.{byte_values, part}
use Rattle.index_fill.specs.Filled.{word_of, words_of}
use Rattle.index_fill.proofs.Filling.{words_more, word-written}
use Rattle.index_fill.proofs.fill_words.Statement.{statement}
use Rattle.index_fill.proofs.fill_words.Tie as tie

abbrev invariant-loop : tie.invariant-loop-c
invariant-loop list accepts lows splits work at index₀ c₀ index c = (c ≤ byte_values) × (index ≡ placed index₀ at (words_of list splits (part work) c))

abbrev decreases-loop : tie.decreases-loop-c
decreases-loop list accepts lows splits work at index₀ c₀ index c = byte_values - c

-- the way back from the loop's head to the entry; the list keeps its length
abbrev start : tie.At-loop-c invariant-loop decreases-loop → tie.Start invariant-loop decreases-loop
start c = c.before.before.before.before.before.before

kept : (c : tie.At-loop-c invariant-loop decreases-loop) → length c.loop-c.index ≡ length (start c).args.index.now
kept c =
    let a = (start c).args in
    ap (λ (xs : List ℕ). length xs) c.loop-c.invariant.1 ∙ length-placed a.index.now a.at (words_of a.list.now a.splits.now (part a.work.now) c.loop-c.c)

loop-holds : tie.Need-loop-c-init invariant-loop decreases-loop
unfolding words_of stack
loop-holds c =
    let s = c.before.before.before.before.before in
    (omega arith, placed-none s.args.index.now s.args.at (omega (arith, s.requires.5)))

fill-word-requires : tie.Need-fill_word-requires invariant-loop decreases-loop
fill-word-requires c κs =
    let head = c.before.before in
    let s = start head in
    let a = s.args in
    let l = head.loop-c in
    let h = s.requires.6 l.c (omega (arith, c.loop-c-test)) in (
      s.requires.0,
      s.requires.1,
      s.requires.2,
      s.requires.3,
      s.requires.4,
      omega (arith, c.loop-c-test),
      omega (arith, kept head, s.requires.5),
      h.0,
      h.1,
      λ d k. word-written a.index.now l.index a.list.now a.splits.now (part a.work.now) l.c a.at s.requires.1 l.invariant.1 (omega (arith, l.invariant.0, s.requires.5)) d k,
    )

add-c : tie.Need-overflow_step-c invariant-loop decreases-loop
add-c c = search rules

loop-less : tie.Need-loop-c-smaller invariant-loop decreases-loop
loop-less c = search rules

loop-again : tie.Need-loop-c-preserved invariant-loop decreases-loop
loop-again c =
    let done = c.before.before in
    let inside = done.before.before in
    let head = inside.before in
    let s = start head in
    let a = s.args in
    let l = head.loop-c in (
      omega (arith, inside.loop-c-test),
      done.fill_word.ensures ∙ ap (λ (X : List ℕ). placed X (a.at + 4 * l.c) (digits 8 4 (word_of a.list.now a.splits.now (part a.work.now l.c)))) l.invariant.1
          ∙ words_more a.index.now a.list.now a.splits.now (part a.work.now) l.c a.at (omega (arith, inside.loop-c-test, s.requires.5)),
    )

same_length : tie.Need-shape_of-index invariant-loop decreases-loop
same_length c = kept c.before

returns : tie.Need-returns invariant-loop decreases-loop
returns c =
    let a = (start c.before).args in
    let l = c.loop-c in
    let e : l.c ≡ byte_values = omega (arith, c.loop-c-test, l.invariant.0) in
    l.invariant.1 ∙ ap (λ (n : ℕ). placed a.index.now a.at (words_of a.list.now a.splits.now (part a.work.now) n)) e

pub fill_words_spec : {M : Type 1} → statement M
fill_words_spec = tie.close (tie.spec invariant-loop decreases-loop loop-holds fill-word-requires add-c loop-less loop-again same_length returns)
