-- `seek` meets its promise.
use Rattle.index_prepare.proofs.Found.{alikes-lead, seeks}
use Rattle.index_prepare.proofs.seek.Goals as goal

pub returns : goal.returns
returns c =
    let a = c.args in
    let s = c.search in (
      c.fill_alikes.auto.alikes,
      s.ensures.0,
      seeks a.list.now a.splits.now a.index.now c.fill_alikes.new.alikes s.new.queue s.new.parts _ _ (alikes-lead a.list.now c.fill_alikes.new.alikes c.fill_alikes.ensures) s.ensures.1,
    )
