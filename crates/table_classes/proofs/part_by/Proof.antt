-- `part_by` meets its promise. Assumes nothing.
use borrow.Author.Rules.{rules}
use borrow.Author.Tests.{not-true, lt-ltb}
use mathlib.Core.Path.{◌≡◌, refl, sym, ap, ◌∙◌}
use Prim.Native.Nat.{ℕ, ◌^◌}
use native.Mathlib.Omega.{arith}
use Rattle.sets.specs.Set.{set_words, states, set_of, join}
use Rattle.sets.proofs.Sets.{insert-join, empty-words, join-empty}
use Rattle.list.specs.Automaton.{step}
use Rattle.table_classes.proofs.Parting.{low_turn, low-stays}
use Rattle.table_classes.proofs.part_by.Statement.{statement}
use Rattle.table_classes.proofs.part_by.Tie as tie

is-left-requires : tie.Need-is_left-requires
is-left-requires c κs = search rules

returns : tie.Need-returns-then-not-is_left
returns c =
    let s = c in
    (refl, refl, λ C g. low-stays s.args.list.now C s.args.classes.now s.args.s (sym c.is_left.ensures ∙ not-true _ c.if-not-is_left.true-raw) g)

with-requires : tie.Need-with-requires
with-requires c κs = search rules

-- the set of state s alone
of_one : (c : tie.After-with) → set_of c.with.result ≡ 2 ^ c.args.s
of_one c =
    let s = c in
    c.with.ensures ∙ insert-join states _ s.args.s
    ∙ rw (lt-ltb s.args.s states s.requires.0) (ap (λ (x : ℕ). join x (2 ^ s.args.s)) (empty-words set_words) ∙ join-empty (2 ^ s.args.s))

fill-steps-requires : tie.Need-fill_steps-requires
fill-steps-requires c κs = c.requires.2

refine-requires : tie.Need-refine-requires
refine-requires c κs =
    let s = c in
    (s.requires.1, omega (arith, c.fill_steps.ensures.0, s.requires.2))

same_length : tie.Need-shape_of-classes
same_length c = c.refine.ensures.long

same-length-2 : tie.Need-shape_of-rows
same-length-2 c = c.fill_steps.ensures.0

returns-2 : tie.Need-returns
returns-2 c =
    let w = c.before.before.before.before.before.before.before.before in
    let s = w in
    let f = c.fill_steps.ensures in (
      c.refine.ensures.long,
      f.0,
      λ C g. low_turn s.args.list.now C s.args.classes.now _ _ s.args.s g (λ d l. f.1 d l ∙ ap (λ (F : ℕ). step s.args.list.now F d) (of_one w)) c.refine.ensures,
    )

pub part_by_spec : {M : Type 1} → statement M
part_by_spec =
    tie.close
    (tie.spec
    is-left-requires
    returns
    with-requires
    fill-steps-requires
    refine-requires
    same_length
    same-length-2
    returns-2)
