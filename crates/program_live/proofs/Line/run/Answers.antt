-- `run` meets its promise: each turn's text is handed over, and ahead are the texts behind it. Assumes nothing.
use Rattle.std.proofs.Common.{◌≡◌, suc, ◌+◌, ◌-◌, sym, ap, refl, ◌∙◌, arith}
use Rattle.program_turn.specs.Turn.{is_last, saves_next}
use Rattle.program_live.proofs.Units.{first-within, first-stands, less-within, part-short}
use Rattle.program_live.proofs.Handing.{begins, finished, text-fits, over_last, over-cut, goes}
use Rattle.program_live.proofs.Arrays.{on-all, on_one, on_three}
use Rattle.program_live.proofs.Line.run.Goals as goal

pub loop-k-init : goal.loop-k-init
loop-k-init c =
    let e = c.before_all-u.ensures in
    let p = c.requires in
    let w = first-within _ e in
    record {
      inside = w.0;
      short = w.1;
      within = p.3;
      full = refl;
      running = on-all c.args.self.now.ends _ (λ input answers fits. begins _ _ _ _ _ _ _ _ _ _ _ _ _ _ (omega arith) (omega arith) (first-stands _ _ e p.1) p.3);
    }

pub turn-said-requires : goal.turn-said-requires
turn-said-requires c =
    let p = c.requires in
    (omega (arith, p.0), part-short c.next_unit-unit.result _ c.next_unit-unit.ensures.from_le_to.1, omega (arith, p.2))

pub next_unit-unit-requires : goal.next_unit-unit-requires
next_unit-unit-requires c =
    (c.loop-k.invariant.full ∙ c.requires.1, c.loop-k.invariant.inside, c.loop-k.invariant.short)

pub returns-in_default : goal.returns-in_default
returns-in_default c =
    let here = c.loop-k in
    let n : c.args.begun.most - here.k ≡ suc (c.args.begun.most - (here.k + 1)) = omega arith in
    on_three c.args.self.now.ends _ _ _ _ here.invariant.running c.next_unit-unit.ensures.stands c.hand_over-taken.ensures.takes
    (λ input answers inv read hand fits.
    let g = inv fits in
    let st = read g.here g.stands in
    let room = text-fits _ _ _ _ _ _ _ _ _ _ fits _ _ _ _ _ _ _ _ n g.running _ _ st _ _ _ c.turn-said.ensures in
    over_last _ _ _ _ _ _ _ _ _ _ fits _ _ _ _ _ _ _ _ n g.running _ _ st _ _ _ c.turn-said.ensures _ _ (hand room) (ap is_last c.in_default.is))

pub returns-then-taken : goal.returns-then-taken
returns-then-taken c =
    let here = c.loop-k in
    let n : c.args.begun.most - here.k ≡ suc (c.args.begun.most - (here.k + 1)) = omega arith in
    on_three c.args.self.now.ends _ _ _ _ here.invariant.running c.next_unit-unit.ensures.stands c.hand_over-taken.ensures.takes
    (λ input answers inv read hand fits.
    let g = inv fits in
    let st = read g.here g.stands in
    let room = text-fits _ _ _ _ _ _ _ _ _ _ fits _ _ _ _ _ _ _ _ n g.running _ _ st _ _ _ c.turn-said.ensures in
    over-cut _ _ _ _ _ _ _ _ _ _ fits _ _ _ _ _ _ _ _ n g.running _ _ st _ _ _ c.turn-said.ensures _ _ (hand room) c.if-taken.true)

pub loop-k-preserved : goal.loop-k-preserved
loop-k-preserved c =
    let here = c.loop-k in
    let n : c.args.begun.most - here.k ≡ suc (c.args.begun.most - (here.k + 1)) = omega arith in
    let w = less-within _ _ _ c.less-u.ensures c.next_unit-unit.ensures.from_le_to.0 c.next_unit-unit.ensures.from_le_to.1 in
    record {
      inside = w.0;
      short = w.1;
      within = c.hand_over-taken.ensures.end_in_bounds;
      full = c.next_unit-unit.auto.bytes ∙ here.invariant.full;
      running =
          on_three c.args.self.now.ends _ _ _ _ here.invariant.running c.next_unit-unit.ensures.stands c.hand_over-taken.ensures.takes
          (λ input answers inv read hand fits.
          let g = inv fits in
          let st = read g.here g.stands in
          let room = text-fits _ _ _ _ _ _ _ _ _ _ fits _ _ _ _ _ _ _ _ n g.running _ _ st _ _ _ c.turn-said.ensures in
          goes _ _ _ _ _ _ _ _ _ _ fits _ _ _ _ _ _ _ _ n g.running _ _ st _ _ _ c.turn-said.ensures _ _ (hand room) (ap is_last c.in-Some.is) c.if-taken.false _ c.less-u.ensures _
          (sym (ap saves_next c.in-Some.is)) _ (omega arith));
    }

pub returns : goal.returns
returns c =
    on_one c.args.self.now.ends _ _ c.loop-k.invariant.running (λ input answers inv fits. finished _ _ _ _ _ _ _ _ _ _ _ _ _ _ _ _ _ _ (omega arith) (inv fits))
