-- `feed_all` meets its promise by that of each feed. Assumes nothing.
use Rattle.std.proofs.Common.{◌≤◌, ◌+◌, ◌*◌, length, refl, ap, ◌∙◌, arith}
use Rattle.laws.specs.Drivers.{nearest}
use Rattle.laws.proofs.Driving.{planned-so, came-none, came-more, ended}
use Rattle.laws.proofs.feed_all.Goals as goal

pub loop-i-init : goal.loop-i-init
loop-i-init c = record {
  consumed = omega arith;
  told = c.requires;
  as_many_words = refl;
  as_many_notes = refl;
  came = came-none _ _ _ _ _ _;
}

pub note-requires : goal.note-requires
note-requires c = omega (arith, c.loop-i-test.true, c.loop-i.invariant.as_many_notes)

pub loop-i-preserved : goal.loop-i-preserved
loop-i-preserved c =
    let a = c.args in
    let so = c.loop-i.invariant in
    let t = c.feed_part-fed.ensures in
    let h : 4 * c.loop-i.i + 4 ≤ length c.loop-i.notes = omega (arith, c.loop-i-test.true, so.as_many_notes) in
    record {
      consumed = t.short;
      told = t.fits;
      as_many_words = c.feed_part-fed.auto.pairs ∙ so.as_many_words;
      as_many_notes = c.note.auto.notes ∙ so.as_many_notes;
      came = came-more _ _ _ _ _ _ _ _ _ _ _ _ _ _ _ _ _ _ _ so.came
          (planned-so _ _ _ _ _ a.kinds.now a.starts.now a.cuts.now a.rooms.now _ _ _ _ _ _ _ _ _ _ _ _ c.at_or-kind.ensures c.at_or-start.ensures c.within-e.ensures.nearest c.at_or.ensures
          (c.within-v.ensures.nearest ∙ ap (nearest c.loop-i.w c.at_or-in-loop-i.result) so.as_many_words) c.at_or-in-loop-i.ensures t.room)
          t h c.note.ensures;
    }

pub returns : goal.returns
returns c = ended _ _ _ _ _ _ _ _ _ _ _ _ (omega arith) c.loop-i.invariant.came
