-- `number_at` reads the bytes that are there; those past the end are 0, which adds nothing. Assumes nothing.
use borrow.Author.Rules.{rules}
use mathlib.Core.Path.{◌≡◌, sym, ap, ◌∙◌}
use Prim.Native.Nat.{ℕ, ◌-◌, ◌≤◌}
use native.Mathlib.Omega.{arith}
use lib.ListN.{length, drop, drop_of_length-le, length-drop}
use lib.Seq.{take_all, take-nil}
use Rattle.numbers.specs.Number.{num}
use Rattle.numbers.proofs.number_at.Statement.{statement}
use Rattle.numbers.proofs.number_at.Tie as tie

returns : tie.Need-returns-then-b-at
unfolding num
returns c =
    let a = c.before.before.args in
    let l : length a.b.now ≤ a.at = omega arith in
    rw (drop_of_length-le a.b.now l, take-nil {A = ℕ} a.n)

sub-if2 : tie.Need-overflow_sub-b
sub-if2 c = search rules

sub-whole-number : tie.Need-overflow_sub-b-then-b-at-2
sub-whole-number c = search rules

whole-number-requires : tie.Need-whole_number-requires
whole-number-requires c κs = search rules

returns-2 : tie.Need-returns-then-b-at-2
returns-2 c =
    let a = c.before.before.before.before.args in
    let rest = drop a.at a.b.now in
    let e : length (drop a.at a.b.now) ≡ length a.b.now - a.at = length-drop a.at a.b.now in
    c.whole_number.ensures ∙ ap (num 8) (take_all (length a.b.now - a.at) rest (omega arith) ∙ sym (take_all a.n rest (omega arith)))

whole-number-requires-2 : tie.Need-whole_number-requires-2
whole-number-requires-2 c κs = search rules

returns-3 : tie.Need-returns
returns-3 c = search rules

pub number_at_spec : {M : Type 1} → statement M
number_at_spec =
    tie.close
    (tie.spec returns sub-if2 sub-whole-number whole-number-requires returns-2 whole-number-requires-2 returns-3)
