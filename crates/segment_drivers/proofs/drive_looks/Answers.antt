-- `drive_looks` meets its promise by the promises of the functions that it calls. Assumes nothing.
use Rattle.std.proofs.Common.{◌≡◌, ◌-◌, length, take, drop, refl, arith}
use Rattle.feed.proofs.Runs.{bytes_take, bytes_drop}
use Rattle.segment_drivers.proofs.Driving.{open-fits, led-none, looking-more, looks-driven}
use Rattle.segment_drivers.proofs.drive_looks.Goals as goal

pub overflow_mul-so : goal.overflow_mul-so
overflow_mul-so c =
    let a = c.args in
    omega (arith, open-fits a.list.now a.flow.now a.pairs.now _ _ _ c.open_flow-opened.ensures, c.open_flow-opened.auto.pairs)

pub loop-i-init : goal.loop-i-init
loop-i-init c =
    let a = c.args in
    record {
      told = open-fits a.list.now a.flow.now a.pairs.now _ _ _ c.open_flow-opened.ensures;
      in_bytes = λ j. (c.type_inv.held j).fits;
      looking = led-none _ _ _ _ _ _ _ _ _ _ refl refl;
    }

pub loop-i-preserved : goal.loop-i-preserved
loop-i-preserved c =
    let a = c.args in
    let so = c.loop-i.invariant in
    let w = c.loop-i.so.words in
    let n = c.min-n.result in
    let e = c.clamp-e.result in
    let v = c.clamp-v.result in
    record {
      told = c.glance-so.ensures.room;
      in_bytes = so.in_bytes;
      looking =
          looking-more a.list.now a.first a.numbers.now _ _ _ _ _ _ _ c.at_or-far.result _ (take (e - n) (drop n a.bytes.now))
          (take (v - w) (drop w c.loop-i.pairs)) _ _ _ _
          so.looking (omega arith) refl (omega (arith, (c.type_inv.numbers c.loop-i.i).fits))
          (bytes_take (e - n) (drop n a.bytes.now) (bytes_drop n a.bytes.now (λ j. (c.type_inv.bytes j).fits))) c.glance-so.ensures;
    }

pub returns : goal.returns
returns c =
    let a = c.args in
    let q : c.loop-i.i ≡ length a.numbers.now = omega arith in
    looks-driven a.list.now a.first a.numbers.now a.flow.now a.pairs.now a.held.now _ _ _ _ _ _ _
    c.open_flow-opened.ensures c.loop-i.invariant.in_bytes (rw q at c.loop-i.invariant.looking)
