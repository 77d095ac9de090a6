-- `always` meets its promise. Assumes nothing.
use borrow.Author.Rules.{rules}
use mathlib.Core.Path.{◌≡◌, sym, ◌∙◌}
use Prim.Native.Nat.{ℕ, ◌-◌, ◌^◌, ◌≤◌, ◌<◌}
use native.Mathlib.Omega.{arith}
use lib.Pow.{pow_pos}
use Rattle.sets.specs.Set.{states, set_words, set_of, join}
use Rattle.sets.proofs.Sets.{empty-words, insert-lt, join-empty}
use Rattle.rules.proofs.Scanning.{choose}
use Rattle.list.specs.List.{records}
use Rattle.list.specs.Automaton.{step}
use Rattle.table.specs.Table.{byte_values}
use Rattle.table_classes.proofs.Records.{always-more}
use Rattle.table_classes.proofs.always.Statement.{statement}
use Rattle.table_classes.proofs.always.Tie as tie

abbrev invariant-loop : tie.invariant-loop-i
invariant-loop l f base₀ i₀ i-end base i = (i ≤ i-end) × (set_of base < 2 ^ states) × ((c : ℕ) → c < byte_values → join (set_of base) (step l (set_of f) c) ≡ step l (set_of f) c)

abbrev decreases-loop : tie.decreases-loop-i
decreases-loop l f base₀ i₀ i-end base i = i-end - i

loop-holds : tie.Need-loop-i-init invariant-loop decreases-loop
loop-holds c = (omega arith, rw (empty-words set_words) (pow_pos states), λ d h. rw (empty-words set_words) (join-empty _))

takes-all-requires : tie.Need-takes_all-requires invariant-loop decreases-loop
takes-all-requires c κs = omega arith

target-requires : tie.Need-target-requires invariant-loop decreases-loop
target-requires c κs = omega arith

with-requires : tie.Need-with-base-requires invariant-loop decreases-loop
with-requires c κs = search rules

add-i : tie.Need-overflow_step-i invariant-loop decreases-loop
add-i c = omega arith

loop-less : tie.Need-loop-i-smaller invariant-loop decreases-loop
loop-less c = omega arith

loop-again : tie.Need-loop-i-preserved invariant-loop decreases-loop
loop-again c =
    let h = c in
    let a = h.args in
    let l = h.loop-i in
    let k : l.i < records a.list.now = omega arith in
    choose c.if-takes_all.branch-raw
    (λ w. (
      omega arith,
      rw (w.base-is, w.with-base.ensures) (insert-lt states _ _ l.invariant.1),
      λ d m. rw (w.base-is, w.with-base.ensures, w.target.ensures) (always-more a.list.now (set_of a.f) (set_of l.base) l.i k (sym c.takes_all.ensures ∙ w.if-takes_all.true) d m (l.invariant.2 d m)),
    ))
    (λ w. (omega arith, rw w.base-is l.invariant.1, λ d m. rw w.base-is (l.invariant.2 d m)))

returns : tie.Need-returns invariant-loop decreases-loop
returns c = (c.loop-i.invariant.1, c.loop-i.invariant.2)

pub always_spec : {M : Type 1} → statement M
always_spec = tie.close (tie.spec invariant-loop decreases-loop loop-holds takes-all-requires target-requires with-requires add-i loop-less loop-again returns)
