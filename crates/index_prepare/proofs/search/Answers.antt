-- `search` meets its promise.
use Rattle.std.proofs.Common.{refl, ap, ◌∙◌}
use Rattle.list.specs.Automaton.{step}
use Rattle.table.specs.Table.{byte_values, most_splits}
use Rattle.table_classes.proofs.Fronts.{put}
use Rattle.table_build.proofs.Exploring.{go_on}
use Rattle.index_prepare.proofs.Found.{begun}
use Rattle.index_prepare.proofs.search.Goals as goal

pub loop-i-init : goal.loop-i-init
loop-i-init c =
    let a = c.args in
    (begun a.list.now a.queue.now a.parts.now _ _ c.requires.2 c.requires.3 (c.store.ensures ∙ ap (put a.queue.now 0) c.start_set-s.ensures) (c.store-2.ensures ∙ ap (put a.parts.now 0) c.start_set-s.ensures), refl)

pub loop-i-preserved : goal.loop-i-preserved
loop-i-preserved c =
    let a = c.args in
    let l = c.loop-i in
    let s = c.steps_of in
    let e = c.in_ok-n.ensures in
    (go_on most_splits (step a.list.now) a.list.now _ _ l.queue l.parts s.new.queue s.new.parts l.n c.in_ok-n.n byte_values l.i _ l.invariant.0 c.loop-i-test.true e.1 refl, e.0 ∙ l.invariant.1)
