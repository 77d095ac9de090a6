-- `decide` walks over both lists, names the states, and tests the rules in their order. Assumes nothing.
use borrow.Author.Rules.{rules}
use native.Mathlib.Omega.{arith}
use mathlib.Core.Path.{◌≡◌, sym, ◌∙◌}
use mathlib.Core.Bool.{◌||◌, not}
use lib.Dec.{ltb}
use Rattle.rules.specs.Scan.{every}
use Rattle.list.specs.List.{records, list_refusal}
use Rattle.list.proofs.Highest.{highest-state}
use Rattle.list_join.specs.inner.Found.{fits}
use Rattle.list_join.specs.Join.{naming, too_big}
use Rattle.list_join.proofs.Deciding.{stops, pair-front, pair-other, refuses-pair, refuses-big, refuses-none, big-as}
use Rattle.list_join.proofs.Numbering.{fitted-as, named-as, narrow}
use Rattle.list_join.proofs.Marking.{top-marked}
use Rattle.list_join.proofs.decide.Statement.{statement}
use Rattle.list_join.proofs.decide.Tie as tie

-- the first list passes, then the second, and the naming is theirs
front : (c : tie.Else-x-ne-PASSED) → list_refusal c.args.a.now ≡ 0
front c = sym c.find_outline-x.ensures.refusal ∙ c.if-x-ne-PASSED.false

other : (c : tie.Else-y-ne-PASSED) → list_refusal c.args.b.now ≡ 0
other c = sym c.find_outline-y.ensures.refusal ∙ c.if-y-ne-PASSED.false

named : (c : tie.After-name_states-n) → let a = c.args in c.name_states-n.result ≡ naming a.a.now a.b.now
named c =
    let a = c.args in
    c.name_states-n.ensures ∙ named-as a.a.now a.b.now (front c.before.before.before) (other c.before) _ _ c.find_outline-x.ensures c.find_outline-y.ensures

find-outline-requires : tie.Need-find_outline-x-requires
find-outline-requires c κs = search rules

stopped-requires : tie.Need-stopped-requires
stopped-requires c κs = search rules

returns : tie.Need-returns-then-x-ne-PASSED
returns c =
    let a = c.args in
    let o = c.find_outline-x.ensures.refusal in
    let z : list_refusal a.a.now ≡ 0 → ⊥ = λ e. c.if-x-ne-PASSED.true (o ∙ e) in
    let p = pair-front a.a.now a.b.now z in
    stops a.a.now a.used a.lent a.b.now _ (list_refusal a.a.now) (refuses-pair a.a.now a.used a.lent a.b.now (λ e. z (sym p ∙ e)) ∙ p) (c.stopped.ensures ∙ o) z

find-outline-requires-2 : tie.Need-find_outline-y-requires
find-outline-requires-2 c κs = search rules

stopped-requires-2 : tie.Need-stopped-requires-then-y-ne-PASSED
stopped-requires-2 c κs = search rules

returns-2 : tie.Need-returns-then-y-ne-PASSED
returns-2 c =
    let a = c.args in
    let p = pair-other a.a.now a.b.now (front c.before.before.before) (λ e. c.if-y-ne-PASSED.true (c.find_outline-y.ensures.refusal ∙ e)) in
    stops a.a.now a.used a.lent a.b.now _ 27 (refuses-pair a.a.now a.used a.lent a.b.now (λ e. absurd (omega (arith, p, e))) ∙ p) c.stopped-then-y-ne-PASSED.ensures (λ e. absurd (omega (arith, e)))

name-states-requires : tie.Need-name_states-n-requires
name-states-requires c κs =
    let a = c.args in
    let g = front c.before.before in
    omega (arith, c.find_outline-x.ensures.top g, highest-state a.a.now g)

too-long-requires : tie.Need-too_long-requires
too-long-requires c κs =
    let a = c.args in
    let f = front c.before.before.before.before.before in
    let g = other c.before.before.before in
    let v = narrow a.a.now a.b.now f g in
    let k = c.find_outline-y.ensures.seen g in
    (f, g, λ _. rw (named c.before.before) (omega (arith, v.own, v.below)), k.long, k.counts)

all-fit-requires : tie.Need-all_fit-requires
all-fit-requires c κs =
    let a = c.args in
    let g = other c.before.before.before.before.before.before in
    let o = c.find_outline-y.ensures in
    let k = (o.seen g).marked in
    (rw (named c.before.before.before.before.before, o.top g) (narrow a.a.now a.b.now (front c.before.before.before.before.before.before.before.before) g), k.0, rw (o.top g) (top-marked a.b.now g c.find_outline-y.result.marks k))

-- the highest state decides whether each record fits
fit : (c : tie.After-all_fit) → let B = c.args.b.now in c.all_fit.result ≡ every (records B) (fits c.name_states-n.result B)
fit c =
    let g = other c.before.before.before.before.before.before.before in
    let o = c.find_outline-y.ensures in
    fitted-as c.name_states-n.result c.args.b.now g c.find_outline-y.result.marks (o.seen g).marked c.all_fit.result (rw (o.top g) at c.all_fit.ensures)

-- the code's test is rule 28
big : (c : tie.After-all_fit) → let a = c.args in too_big a.a.now a.used a.lent a.b.now ≡ (ltb a.lent a.used || c.too_long.result || not c.all_fit.result)
big c =
    let a = c.args in
    big-as a.a.now a.used a.lent a.b.now (front c.before.before.before.before.before.before.before.before.before) (other c.before.before.before.before.before.before.before) c.name_states-n.result (named c.before.before.before.before.before.before) c.too_long.result c.all_fit.result c.too_long.ensures (fit c)

stopped-requires-3 : tie.Need-stopped-requires-then-lent-used
stopped-requires-3 c κs = search rules

returns-3 : tie.Need-returns-then-lent-used
returns-3 c =
    let a = c.args in
    let t = big c.before.before ∙ c.if-lent-used.true in
    stops a.a.now a.used a.lent a.b.now _ 28 (refuses-big a.a.now a.used a.lent a.b.now (front c.before.before.before.before.before.before.before.before.before.before.before) (other c.before.before.before.before.before.before.before.before.before) t) c.stopped-then-lent-used.ensures (λ e. absurd (omega (arith, e)))

returns-4 : tie.Need-returns
returns-4 c =
    let a = c.args in
    let t = big c.before ∙ c.if-lent-used.false in
    let g = other c.before.before.before.before.before.before.before.before in
    record {
      refusal = sym (refuses-none a.a.now a.used a.lent a.b.now (front c.before.before.before.before.before.before.before.before.before.before) g t);
      named = λ _. named c.before.before.before.before.before.before.before;
      top = λ _. c.find_outline-y.ensures.top g;
    }

pub decide_spec : {M : Type 1} → statement M
decide_spec =
    tie.close
    (tie.spec
    find-outline-requires
    stopped-requires
    returns
    find-outline-requires-2
    stopped-requires-2
    returns-2
    name-states-requires
    too-long-requires
    all-fit-requires
    stopped-requires-3
    returns-3
    returns-4)
