-- `run` meets its promise, and ends: each turn but the last moves the flow. Assumes nothing.
use Rattle.std.proofs.Common.{refl, sym, ap, ◌∙◌, arith}
use Rattle.program_text.proofs.Arrays.{on-all, on_two, on_four}
use Rattle.program.specs.App.{is_last, bytes_of}
use Rattle.program.proofs.Feeding.{turn-moves}
use Rattle.program.proofs.Handing.{front-most, held_next, running, text-fits, over_last, over-cut, goes_on}
use Rattle.program_run.proofs.run.Goals as goal

pub loop-bytes-init : goal.loop-bytes-init
loop-bytes-init c =
    let p = c.requires in
    record {
      offset = omega arith;
      turns = omega arith;
      short = omega arith;
      inside = omega arith;
      within = p.4;
      full = refl;
      held = on-all c.args.ends _ (λ input answers l. absurd (omega (arith, l)));
      standing = record {
        own = c.args.flow.now;
        alike = p.1;
        going = on-all c.args.ends _ (λ input answers fits. running _ _ _ _ _ _ p.4);
      };
    }

pub read_piece-n-requires : goal.read_piece-n-requires
read_piece-n-requires c =
    (c.loop-bytes.invariant.full ∙ c.requires.2, c.loop-bytes.invariant.short, c.loop-bytes.invariant.inside)

pub slice_bounds-turn-end : goal.slice_bounds-turn-end
slice_bounds-turn-end c =
    omega (arith, c.read_piece-n.ensures.upper_bound.0, c.read_piece-n.auto.piece, c.loop-bytes.invariant.full, c.requires.2)

pub slice_bounds-hand-end : goal.slice_bounds-hand-end
slice_bounds-hand-end c =
    let own = c.loop-bytes.invariant.standing in
    (c.turn-spoke.ensures own.own own.alike).says.counts.0

pub hand-taken-requires : goal.hand-taken-requires
hand-taken-requires c = c.loop-bytes.invariant.within

pub shape_of-piece-in_default : goal.shape_of-piece-in_default
shape_of-piece-in_default c = c.read_piece-n.auto.piece ∙ c.loop-bytes.invariant.full

pub returns-in_default : goal.returns-in_default
returns-in_default c =
    let here = c.loop-bytes.invariant in
    let own = here.standing in
    let s = (c.turn-spoke.ensures own.own own.alike).says in
    on_four c.args.ends _ _ _ _ _ here.held own.going c.read_piece-n.ensures.held c.hand-taken.ensures.takes
    (λ input answers before going read hand fits.
    let r = going fits in
    let room = text-fits _ _ _ _ _ _ fits _ _ _ _ _ r _ (read before) _ _ _ s in
    over_last _ _ _ _ _ _ fits _ _ _ _ _ r _ (read before) _ _ _ s _ _ (hand room) (ap is_last c.in_default.is))

pub shape_of-piece-then-taken : goal.shape_of-piece-then-taken
shape_of-piece-then-taken c = c.read_piece-n.auto.piece ∙ c.loop-bytes.invariant.full

pub returns-then-taken : goal.returns-then-taken
returns-then-taken c =
    let here = c.loop-bytes.invariant in
    let own = here.standing in
    let s = (c.turn-spoke.ensures own.own own.alike).says in
    on_four c.args.ends _ _ _ _ _ here.held own.going c.read_piece-n.ensures.held c.hand-taken.ensures.takes
    (λ input answers before going read hand fits.
    let r = going fits in
    let room = text-fits _ _ _ _ _ _ fits _ _ _ _ _ r _ (read before) _ _ _ s in
    over-cut _ _ _ _ _ _ fits _ _ _ _ _ r _ (read before) _ _ _ s _ _ (hand room) c.if-taken.true)

pub overflow_add-offset : goal.overflow_add-offset
overflow_add-offset c =
    let own = c.loop-bytes.invariant.standing in
    let s = (c.turn-spoke.ensures own.own own.alike).says in
    let m = turn-moves _ _ _ _ (sym s.last ∙ ap is_last c.in-Some.is) in
    omega (arith, m.short, sym (ap bytes_of c.in-Some.is) ∙ s.bytes)

pub overflow_add-i : goal.overflow_add-i
overflow_add-i c = omega (arith, c.loop-bytes.invariant.offset, c.loop-bytes.invariant.turns)

pub loop-bytes-smaller : goal.loop-bytes-smaller
loop-bytes-smaller c =
    let own = c.loop-bytes.invariant.standing in
    let s = (c.turn-spoke.ensures own.own own.alike).says in
    let m = turn-moves _ _ _ _ (sym s.last ∙ ap is_last c.in-Some.is) in
    omega (arith, m.goes, m.short, sym (ap bytes_of c.in-Some.is) ∙ s.bytes)

pub loop-bytes-preserved : goal.loop-bytes-preserved
loop-bytes-preserved c =
    let here = c.loop-bytes.invariant in
    let own = here.standing in
    let spoken = c.turn-spoke.ensures own.own own.alike in
    let s = spoken.says in
    let m = turn-moves _ _ _ _ (sym s.last ∙ ap is_last c.in-Some.is) in
    let n = c.read_piece-n.ensures.upper_bound in
    let b = sym (ap bytes_of c.in-Some.is) ∙ s.bytes in
    let within = front-most _ _ _ _ _ n.1 b m.front in
    record {
      offset = omega (arith, m.short, b);
      turns = omega (arith, m.goes, b, here.turns);
      short = n.0;
      inside = omega (arith, within, n.0);
      within = c.hand-taken.ensures.end_in_bounds;
      full = c.read_piece-n.auto.piece ∙ here.full;
      held = on_two c.args.ends _ _ _ here.held c.read_piece-n.ensures.held (λ input answers before read. held_next _ _ _ _ _ n.0 within (read before));
      standing = record {
        own = _;
        alike = spoken.alike (sym s.last ∙ ap is_last c.in-Some.is);
        going =
            on_four c.args.ends _ _ _ _ _ here.held own.going c.read_piece-n.ensures.held c.hand-taken.ensures.takes
            (λ input answers before going read hand fits.
            let r = going fits in
            let room = text-fits _ _ _ _ _ _ fits _ _ _ _ _ r _ (read before) _ _ _ s in
            goes_on _ _ _ _ _ _ fits _ _ _ _ _ r _ (read before) _ _ _ s _ _ (hand room) _ c.in-Some.is c.if-taken.false);
      };
    }
