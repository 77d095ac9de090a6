-- `drive_segments` meets its promise by the promises of the functions that it calls. Assumes nothing.
use Rattle.std.proofs.Common.{◌≡◌, ◌-◌, length, take, drop, sym, refl, ◌∙◌, arith}
use Rattle.table.specs.Table.{table}
use Rattle.feed.proofs.Runs.{bytes_take, bytes_drop}
use Rattle.segment_drivers.proofs.Driving.{open-fits, led-none, handing-more, segments-driven}
use Rattle.segment_drivers.proofs.drive_segments.Goals as goal

pub overflow_mul-so : goal.overflow_mul-so
overflow_mul-so c =
    let a = c.args in
    omega (arith, open-fits a.list.now a.flow.now a.pairs.now _ _ _ c.open_flow-opened.ensures, c.open_flow-opened.auto.pairs)

pub loop-i-init : goal.loop-i-init
loop-i-init c =
    let a = c.args in
    record {
      told = open-fits a.list.now a.flow.now a.pairs.now _ _ _ c.open_flow-opened.ensures;
      in_bytes = λ j. (c.type_inv.held j).fits;
      handing = λ z. led-none _ _ _ _ _ _ _ _ _ _ refl refl;
    }

pub loop-i-preserved : goal.loop-i-preserved
loop-i-preserved c =
    let a = c.args in
    let so = c.loop-i.invariant in
    let w = c.loop-i.so.words in
    let n = c.min-n.result in
    let e = c.clamp-e.result in
    let v = c.clamp-v.result in
    record {
      told = c.turn-so.ensures.room;
      in_bytes = so.in_bytes;
      handing =
          λ z.
          handing-more a.list.now a.bound (table a.classes.now a.parts.now a.rows.now a.splits.now) a.first a.numbers.now _ _ _ _ _ _ _ c.at_or-through.result _ (take (e - n) (drop n a.bytes.now))
          (take (v - w) (drop w c.loop-i.pairs)) _ _ _ _
          (sym c.check_table-checked.ensures ∙ z) (so.handing z) (omega arith) refl (omega (arith, (c.type_inv.numbers c.loop-i.i).fits))
          (bytes_take (e - n) (drop n a.bytes.now) (bytes_drop n a.bytes.now (λ j. (c.type_inv.bytes j).fits))) c.turn-so.ensures;
    }

pub returns : goal.returns
returns c =
    let a = c.args in
    let q : c.loop-i.i ≡ length a.numbers.now = omega arith in
    segments-driven a.list.now a.bound (table a.classes.now a.parts.now a.rows.now a.splits.now) a.first a.numbers.now a.flow.now a.pairs.now a.held.now _ _ _ _ _ _ _ _
    c.check_table-checked.ensures c.open_flow-opened.ensures c.loop-i.invariant.in_bytes (λ z. rw q at (c.loop-i.invariant.handing z))
