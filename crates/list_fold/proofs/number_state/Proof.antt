-- `number_state` numbers a chief, or takes its chief's number. Assumes nothing.
use Prim.Native.Nat.{ℕ}
use mathlib.Core.Bool.{true, false}
use mathlib.Core.Path.{refl, ap, ◌≡◌, sym, ◌∙◌}
use lib.ListN.{get_or, set}
use lib.Dec.{eqb}
use borrow.Author.Tests.{eq-eqb, ne_eqb}
use borrow.Author.Rules.{rules}
use native.Mathlib.Omega.{arith}
use Rattle.list_fold.proofs.number_state.Statement.{statement}
use Rattle.list_fold.proofs.number_state.Tie as tie

number-at-requires : tie.Need-number_at-r-requires
number-at-requires c κs =
    omega (arith, c.requires.0, c.requires.1)

put-at-requires : tie.Need-put_at-requires
put-at-requires c κs =
    (omega (arith, c.requires.0, c.requires.4), omega (arith, c.requires.0, c.requires.3))

add-result : tie.Need-overflow_add-result
add-result c =
    omega (arith, c.requires.0, c.requires.3)

same_length : tie.Need-shape_of-numbers-then-r-s
same_length c = search rules

returns : tie.Need-returns-then-r-s
returns c =
    let a = c.args in
    let e : eqb (get_or a.leads.now a.s 0) a.s ≡ true = eq-eqb _ _ (sym c.number_at-r.ensures.0 ∙ c.if-r-s.true) in
    rw e (omega arith, c.put_at.ensures)

number-at-requires-2 : tie.Need-number_at-x-requires
number-at-requires-2 c κs =
    omega (arith, c.requires.0, c.requires.2, c.requires.4, c.number_at-r.ensures.0)

put-at-requires-2 : tie.Need-put_at-requires-2
put-at-requires-2 c κs =
    (omega (arith, c.requires.0, c.requires.4), c.number_at-x.ensures.1)

same-length-2 : tie.Need-shape_of-numbers
same-length-2 c = search rules

returns-2 : tie.Need-returns
returns-2 c =
    let a = c.args in
    let r = c.number_at-r.ensures.0 in
    let e : eqb (get_or a.leads.now a.s 0) a.s ≡ false = ne_eqb _ _ (λ q. c.if-r-s.false (r ∙ q)) in
    rw e (refl, c.put_at-2.ensures ∙ ap (set a.numbers.now a.s) (c.number_at-x.ensures.0 ∙ ap (λ (x : ℕ). get_or a.numbers.now x 0) r))

pub number_state_spec : {M : Type 1} → statement M
number_state_spec =
    tie.close
    (tie.spec
    number-at-requires
    put-at-requires
    add-result
    same_length
    returns
    number-at-requires-2
    put-at-requires-2
    same-length-2
    returns-2)
