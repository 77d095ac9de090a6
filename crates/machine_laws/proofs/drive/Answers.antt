-- `drive` meets its promise by the promises of the functions that it calls. Assumes nothing.
use Rattle.std.proofs.Common.{◌≡◌, ◌-◌, ◌/◌, length, take, drop, refl, ◌∙◌, arith}
use Rattle.feed.proofs.Runs.{bytes_take, bytes_drop}
use Rattle.machine_laws.proofs.Driving.{open-fits, led-none, led-more, driven}
use Rattle.machine_laws.proofs.drive.Goals as goal

pub overflow_mul-so : goal.overflow_mul-so
overflow_mul-so c =
    let a = c.args in
    omega (arith, open-fits a.moves.now a.programs.now a.flow.now a.pairs.now _ _ _ c.open_flow-opened.ensures, c.open_flow-opened.auto.pairs)

pub loop-i-init : goal.loop-i-init
loop-i-init c =
    let a = c.args in
    record {
      consumed = omega arith;
      told = open-fits a.moves.now a.programs.now a.flow.now a.pairs.now _ _ _ c.open_flow-opened.ensures;
      as_many_words = refl;
      as_many_numbers = refl;
      led = led-none _ _ _ _ _ _ _ _ _ refl refl;
    }

pub loop-i-preserved : goal.loop-i-preserved
loop-i-preserved c =
    let a = c.args in
    let so = c.loop-i.invariant in
    let t = c.turn-so.ensures in
    let n = c.loop-i.so.bytes in
    let w = c.loop-i.so.words in
    let e = c.clamp-e.result in
    let v = c.clamp-v.result in
    record {
      consumed = t.short;
      told = t.room;
      as_many_words = c.turn-so.auto.pairs ∙ so.as_many_words;
      as_many_numbers = c.turn-so.auto.numbers ∙ so.as_many_numbers;
      led = led-more a.moves.now a.programs.now a.starts.now _ _ a.stream.now _ _ _ _ _ _ (take (e - n) (drop n a.stream.now)) (take (v - w) (drop w c.loop-i.pairs)) _ _ _ _
          so.led c.number_at-start.ensures (bytes_take (e - n) (drop n a.stream.now) (bytes_drop n a.stream.now (λ j. (c.type_inv.stream j).fits))) t;
    }

pub returns : goal.returns
returns c =
    let a = c.args in
    let q : c.loop-i.i ≡ length a.numbers.now / 4 = omega arith in
    driven a.moves.now a.programs.now a.starts.now a.flow.now a.pairs.now a.stream.now (length a.numbers.now / 4) _ _ _ _ _ _ _ _
    (λ j. (c.type_inv.moves j).fits) (λ j. (c.type_inv.programs j).fits)
    c.check-checked.ensures c.open_flow-opened.ensures (rw q at c.loop-i.invariant.led)
