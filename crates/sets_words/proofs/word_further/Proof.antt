-- `word_further` meets its promise. Assumes nothing.
use borrow.Author.Rules.{rules}
use native.Mathlib.Omega.{arith}
use Prim.Native.Nat.{◌-◌, ◌/◌, ◌%◌}
use mathlib.Core.Path.{subst}
use lib.ListN.{get_or}
use Rattle.sets_words.specs.inner.Further.{Straddles}
use Rattle.sets_words.proofs.Further.{stride-under, stride-at, stride-over}
use Rattle.sets_words.proofs.word_further.Statement.{statement}
use Rattle.sets_words.proofs.word_further.Tie as tie

returns : tie.Need-returns-then-i-j
returns c =
    let a = c.before.before.args in
    stride-under a.w.now a.d a.i c.if-i-j.true

word-of-requires : tie.Need-word_of-high-requires
word-of-requires c κs = search rules

straddle-requires : tie.Need-straddle-requires
straddle-requires c κs = search rules

returns-2 : tie.Need-returns-then-i-j-2
returns-2 c =
    let a = c.before.before.before.before.before.args in
    let r = c.straddle.result in
    stride-at a.w.now a.d a.i r (λ i. (c.before.before.before.before.shared_slice_known-1.given i).fits) c.before.if-i-j-2.true (subst (λ z. Straddles z 0 (a.d % 64) r) c.before.before.word_of-high.ensures c.straddle.ensures)

sub-word-of : tie.Need-overflow_sub-i-3
sub-word-of c = search rules

word-of-requires-2 : tie.Need-word_of-requires
word-of-requires-2 c κs = search rules

straddle-requires-2 : tie.Need-straddle-requires-2
straddle-requires-2 c κs = search rules

returns-3 : tie.Need-returns
returns-3 c =
    let a = c.before.before.before.before.before.before.args in
    let r = c.straddle-2.result in
    stride-over a.w.now a.d a.i r (λ i. (c.before.before.before.before.before.shared_slice_known-1.given i).fits) (omega (arith, c.before.before.before.before.if-i-j.false, c.before.before.if-i-j-2.false))
    (subst (λ z. Straddles (get_or a.w.now (a.i - a.d / 64) 0) z (a.d % 64) r) c.before.word_of.ensures (subst (λ z. Straddles z c.before.word_of.result (a.d % 64) r) c.before.before.before.word_of-high.ensures c.straddle-2.ensures))

pub word_further_spec : {M : Type 1} → statement M
word_further_spec =
    tie.close
    (tie.spec
    returns
    word-of-requires
    straddle-requires
    returns-2
    sub-word-of
    word-of-requires-2
    straddle-requires-2
    returns-3)
