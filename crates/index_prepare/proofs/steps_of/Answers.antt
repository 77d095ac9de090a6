-- `steps_of` meets its promise.
use Rattle.std.proofs.Common.{◌≡◌, ℕ, refl, ap, ◌∙◌, ◌<◌, arith}
use Rattle.list.specs.Automaton.{step}
use Rattle.list.proofs.Steps.{step-lt}
use Rattle.table.specs.Table.{byte_values, most_splits, part}
use Rattle.table_build.specs.Build.{Reach}
use Rattle.table_build.proofs.Reached.{reach_step}
use Rattle.table_build.proofs.Exploring.{grow-more, grow-full}
use Rattle.index_prepare.proofs.Found.{there, added}
use Rattle.index_prepare.proofs.steps_of.Goals.{In-loop-c}
use Rattle.index_prepare.proofs.steps_of.Goals as goal

-- the sets of `work` are the steps
steps : (c : In-loop-c) → (d : ℕ) → d < byte_values → part c.fill_steps.new.rows d ≡ step c.args.list.now (part c.args.queue.now c.args.i) d
unfolding part
steps c d h = c.fill_steps.ensures.1 d h ∙ ap (λ (F : ℕ). step c.args.list.now F d) c.from_bytes.ensures

reached : (c : In-loop-c) → Reach c.args.list.now (part c.fill_steps.new.rows c.loop-c.c)
reached c =
    let a = c.args in
    rw (steps c c.loop-c.c c.loop-c-test.true) (reach_step a.list.now (part a.queue.now a.i) c.loop-c.c c.loop-c-test.true (c.requires.4.reached a.i c.requires.5))

pub add_set-requires : goal.add_set-requires
add_set-requires c =
    let g = c.loop-c.invariant in (
      c.requires.0,
      omega (arith, c.fill_steps.ensures.0, c.requires.1),
      c.loop-c-test.true,
      omega (arith, g.long, c.requires.2),
      omega (arith, g.long', c.requires.3),
      g.more.known.few,
      g.more.known.rises,
      rw (steps (goal.at.add_set-requires c).In-loop-c c.loop-c.c c.loop-c-test.true) (step-lt c.args.list.now (part c.args.queue.now c.args.i) c.loop-c.c),
    )

pub returns-in_err-m : goal.returns-in_err-m
returns-in_err-m c =
    let a = c.args in
    let l = c.loop-c in
    let i = (goal.at.returns-in_err-m c).In-loop-c in
    let v = c.fill_steps.new.rows in
    let F = part a.queue.now a.i in
    rw c.from_residual.ensures (
      c.fill_steps.ensures.0,
      grow-full most_splits (step a.list.now) a.list.now a.queue.now a.parts.now l.queue l.parts c.add_set.new.queue c.add_set.new.parts a.n l.m l.m a.i l.c _ l.invariant
          (added a.list.now a.queue.now a.parts.now l.queue l.parts v a.n l.m a.i l.c (steps i) c.loop-c-test.true c.add_set.new.queue c.add_set.new.parts l.m _
          (c.in_err-m.ensures.2 a.list.now l.invariant.more.known (reached i)
          (there a.list.now a.queue.now a.parts.now l.queue l.parts v a.n l.m a.i l.c (steps i) c.loop-c-test.true a.lows.now l.invariant (c.requires.6 F l.c c.loop-c-test.true))))
          refl byte_values a.n,
    )

pub loop-c-preserved : goal.loop-c-preserved
loop-c-preserved c =
    let a = c.args in
    let l = c.loop-c in
    let i = (goal.at.loop-c-preserved c).In-loop-c in
    let v = c.fill_steps.new.rows in
    let F = part a.queue.now a.i in
    grow-more most_splits (step a.list.now) a.list.now a.queue.now a.parts.now l.queue l.parts c.add_set.new.queue c.add_set.new.parts a.n l.m c.in_ok-m.m a.i l.c _ l.invariant
    (added a.list.now a.queue.now a.parts.now l.queue l.parts v a.n l.m a.i l.c (steps i) c.loop-c-test.true c.add_set.new.queue c.add_set.new.parts c.in_ok-m.m _
    (c.in_ok-m.ensures.2 a.list.now l.invariant.more.known (reached i)
    (there a.list.now a.queue.now a.parts.now l.queue l.parts v a.n l.m a.i l.c (steps i) c.loop-c-test.true a.lows.now l.invariant (c.requires.6 F l.c c.loop-c-test.true))))
    refl
