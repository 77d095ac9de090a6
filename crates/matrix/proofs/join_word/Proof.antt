-- `join_word` takes the states out of the word, the lowest first; what is joined and what is left are all, and each is counted. Assumes nothing.
use borrow.Author.Rules.{rules}
use native.Mathlib.Omega.{arith}
use Prim.Native.Nat.{ℕ, zero, ◌+◌, ◌*◌, ◌^◌, ◌<◌}
use mathlib.Core.Path.{◌≡◌, refl, sym, ap, ◌∙◌}
use native.Mathlib.Nat.{zero-mul}
use lib.ListN.{length}
use lib.Count.{ones, ones_in, ones-le, count_trailing_zeros, trailing_le}
use Rattle.sets.specs.Set.{set_at, join}
use Rattle.matrix.specs.Matrix.{cell, union_over}
use Rattle.matrix.proofs.Lowest.{cleared, lowest-join, cleared-less, ones-cleared}
use Rattle.matrix.proofs.Unions.{taken_out, taken-all}
use Rattle.matrix.proofs.join_word.Statement.{statement}
use Rattle.matrix.proofs.join_word.Tie as tie

abbrev invariant-loop : tie.invariant-loop-rest
invariant-loop matrix n word base c w₀ rest₀ rows₀ w rest rows =
    (join (set_at w 0) (union_over (λ s. cell matrix s c) (rest * 2 ^ base) n) ≡ join (set_at w₀ 0) (union_over (λ s. cell matrix s c) (word * 2 ^ base) n))
    × (rows + ones rest ≡ ones word)
    × (rest < 2 ^ 64)
    × (length w ≡ length w₀)

abbrev decreases-loop : tie.decreases-loop-rest
decreases-loop matrix n word base c w₀ rest₀ rows₀ w rest rows = rest

-- there the word is not 0
some_left : (c : tie.In-loop-rest invariant-loop decreases-loop) → zero < c.loop-rest.rest
some_left c = omega (arith, c.loop-rest-test.true)

loop-holds : tie.Need-loop-rest-init invariant-loop decreases-loop
loop-holds c = (refl, omega arith, c.before.before.ranges.word.fits, refl)

cast-join-state : tie.Need-overflow_cast-rest invariant-loop decreases-loop
cast-join-state c = omega (arith, trailing_le 64 c.loop-rest.rest)

add-join-state : tie.Need-overflow_add-base invariant-loop decreases-loop
add-join-state c = omega (arith, trailing_le 64 c.loop-rest.rest, c.requires.0)

join-state-requires : tie.Need-join_state-requires invariant-loop decreases-loop
join-state-requires c κs = let s = c.before.before.before.before.before in (s.requires.1, omega (arith, c.loop-rest.invariant.3, s.requires.2))

sub-rest : tie.Need-overflow_sub-rest invariant-loop decreases-loop
sub-rest c = search rules

add-rows : tie.Need-overflow_add-rows invariant-loop decreases-loop
add-rows c =
    let l = c.loop-rest in
    let s = c.before.before.before.before.before.before.before.before in
    omega (arith, l.invariant.1, ones-le 64 s.args.word s.ranges.word.fits)

loop-less : tie.Need-loop-rest-smaller invariant-loop decreases-loop
loop-less c = cleared-less c.loop-rest.rest (some_left c.before.before.before.before)

loop-again : tie.Need-loop-rest-preserved invariant-loop decreases-loop
loop-again c =
    let l = c.loop-rest in
    let a = c.args in
    let p = some_left c.before.before.before.before in (
      ap (λ (x : ℕ). join x (union_over (λ s. cell a.matrix.now s a.c) (cleared l.rest * 2 ^ a.base) a.n)) c.join_state.ensures
          ∙ taken_out (λ s. cell a.matrix.now s a.c) (set_at l.w 0) (l.rest * 2 ^ a.base) (cleared l.rest * 2 ^ a.base) (a.base + count_trailing_zeros 64 l.rest) a.n
          (lowest-join 64 l.rest a.base p l.invariant.2)
          ∙ l.invariant.0,
      omega (arith, l.invariant.1, ones-cleared 64 l.rest p l.invariant.2),
      omega (arith, cleared-less l.rest p, l.invariant.2),
      search rules,
    )

same_length : tie.Need-shape_of-w invariant-loop decreases-loop
same_length c = c.loop-rest.invariant.3

returns : tie.Need-returns invariant-loop decreases-loop
unfolding ones ones_in
returns c =
    let l = c.loop-rest in
    let a = c.args in
    let z = c.loop-rest-test.false in (
      sym (taken-all (λ s. cell a.matrix.now s a.c) (set_at l.w 0) (l.rest * 2 ^ a.base) a.n (ap (λ (x : ℕ). x * 2 ^ a.base) z ∙ zero-mul (2 ^ a.base))) ∙ l.invariant.0,
      omega (arith, l.invariant.1, ap ones z),
    )

pub join_word_spec : {M : Type 1} → statement M
join_word_spec = tie.close (tie.spec invariant-loop decreases-loop loop-holds cast-join-state add-join-state join-state-requires sub-rest add-rows loop-less loop-again same_length returns)
