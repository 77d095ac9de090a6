-- The stretch goes on by turns and by bytes that are followed; each adds to `Goes`.
use Rattle.std.proofs.Common.{◌≡◌, ℕ, ◌+◌, ◌<◌, true, false, length, refl, sym, ap, ◌∙◌, arith}
use mathlib.Core.Bool.{true≢false}
use Rattle.std.specs.Prelude.{Option, Some, None}
use Rattle.std.specs.Option.{option_map}
use Rattle.index.specs.Entry.{place_of}
use Rattle.index_turns.specs.declared.Followed.{Followed}
use Rattle.index_turns.proofs.Striding.{quietly, here, then, not-told, told-many, told-within, followed, full, lost}
use Rattle.index_turns.proofs.stretch.Goals as goal

pub loop-i-init : goal.loop-i-init
loop-i-init c =
    (omega arith, omega arith, c.requires.2, omega arith, refl, c.requires.5, here c.args.index.now c.args.piece.now c.args.offset c.args.from c.args.place c.args.pairs.now c.args.told)

pub loop-i-preserved-then-stop-i : goal.loop-i-preserved-then-stop-i
loop-i-preserved-then-stop-i c =
    let l = c.loop-i in
    let e = c.turns-turned.ensures in (
      omega (arith, e.0, l.invariant.0),
      e.1,
      e.2,
      omega (arith, e.3, l.invariant.3),
      l.invariant.4,
      l.invariant.5,
      then l.invariant.6 (quietly e.4 c.args.offset l.pairs l.words) (l.rows + c.turns-turned.result.rows) refl,
    )

pub returns-in_default : goal.returns-in_default
returns-in_default c =
    let a = c.args in
    let l = c.loop-i in
    let t = c.turns-turned in
    let e = t.ensures in
    let none : ◌≡◌ {A = Option ℕ} (option_map (λ (f : Followed). f.words) c.follow.result) None = ap (option_map (λ (f : Followed). f.words)) c.in_default.is in
    let k = not-told c.follow.ensures.told none in
    let coming : t.result.bytes < length a.piece.now = omega (arith, c.if-stop-i.false, c.requires.1) in
    record {
      since = omega (arith, e.0, l.invariant.0);
      upto = e.1;
      few = omega (arith, e.3, l.invariant.3);
      many = told-many c.follow.ensures.told ∙ l.invariant.4;
      within = rw k l.invariant.5;
      goes = rw k (then l.invariant.6 (quietly e.4 a.offset l.pairs l.words) (l.rows + t.result.rows) refl);
      on = λ e. absurd (true≢false (sym e));
      off = λ z. full a.index.now a.piece.now a.offset t.result.bytes t.result.place coming e.2 c.word_at-w.result c.word_at-w.ensures c.follow.ensures.told none;
    }

pub returns-then-end-at : goal.returns-then-end-at
returns-then-end-at c =
    let a = c.args in
    let l = c.loop-i in
    let t = c.turns-turned in
    let e = t.ensures in
    let led = c.in-Some.led in
    let some : ◌≡◌ {A = Option ℕ} (option_map (λ (f : Followed). f.words) c.follow.result) (Some led.words) = ap (option_map (λ (f : Followed). f.words)) c.in-Some.is in
    let place : led.place ≡ place_of c.word_at-w.result = c.in-Some.ensures.place in
    let coming : t.result.bytes < length a.piece.now = omega (arith, c.if-stop-i.false, c.requires.1) in
    record {
      since = omega (arith, e.0, l.invariant.0);
      upto = omega (arith, c.if-stop-i.false);
      few = omega (arith, e.3, l.invariant.3, c.cost_at-rows.ensures.1);
      many = told-many c.follow.ensures.told ∙ l.invariant.4;
      within = told-within c.follow.ensures.told l.invariant.5 led.words some;
      goes = then (then l.invariant.6 (quietly e.4 a.offset l.pairs l.words) (l.rows + t.result.rows) refl)
          (followed a.index.now a.piece.now a.offset t.result.bytes t.result.place coming e.2 c.word_at-w.result c.word_at-w.ensures c.follow.ensures.told
          led.words some led.place place c.cost_at-rows.result c.cost_at-rows.ensures.0)
          (l.rows + t.result.rows + c.cost_at-rows.result) refl;
      on = λ e. absurd (true≢false (sym e));
      off = λ e. lost a.index.now a.piece.now a.offset (t.result.bytes + 1) led.place c.follow.new.pairs led.words c.if-end-at.true;
    }

pub loop-i-preserved : goal.loop-i-preserved
loop-i-preserved c =
    let a = c.args in
    let l = c.loop-i in
    let t = c.turns-turned in
    let e = t.ensures in
    let led = c.in-Some.led in
    let some : ◌≡◌ {A = Option ℕ} (option_map (λ (f : Followed). f.words) c.follow.result) (Some led.words) = ap (option_map (λ (f : Followed). f.words)) c.in-Some.is in
    let place : led.place ≡ place_of c.word_at-w.result = c.in-Some.ensures.place in
    let coming : t.result.bytes < length a.piece.now = omega (arith, c.if-stop-i.false, c.requires.1) in (
      omega (arith, e.0, l.invariant.0),
      omega (arith, c.if-stop-i.false),
      omega (arith, c.if-end-at.false),
      omega (arith, e.3, l.invariant.3, c.cost_at-rows.ensures.1),
      told-many c.follow.ensures.told ∙ l.invariant.4,
      told-within c.follow.ensures.told l.invariant.5 led.words some,
      then (then l.invariant.6 (quietly e.4 a.offset l.pairs l.words) (l.rows + t.result.rows) refl)
          (followed a.index.now a.piece.now a.offset t.result.bytes t.result.place coming e.2 c.word_at-w.result c.word_at-w.ensures c.follow.ensures.told
          led.words some led.place place c.cost_at-rows.result c.cost_at-rows.ensures.0)
          (l.rows + t.result.rows + c.cost_at-rows.result) refl,
    )
