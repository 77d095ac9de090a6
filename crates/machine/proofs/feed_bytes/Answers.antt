-- The loop keeps `Going`, and the state stays one of the machine's.
use Rattle.std.proofs.Common.{◌≡◌, ◌<◌, length, get_or, sym, ap, ◌∙◌, arith}
use Rattle.feed.proofs.Going.{start, finish}
use Rattle.machine.specs.declared.Config.{Config}
use Rattle.machine.specs.Program.{program_length, moved}
use Rattle.machine.specs.Machine.{state_count, machine}
use Rattle.machine.proofs.Programs.{after-state}
use Rattle.machine.proofs.Machines.{Good, good-machine, program-there, program-good}
use Rattle.machine.proofs.Feeding.{goes-idle, goes_on, stops}
use Rattle.machine.proofs.feed_bytes.Goals as goal

pub loop-i-init : goal.loop-i-init
loop-i-init c =
    (start (machine c.args.moves.now c.args.programs.now) c.args.first c.args.offset c.args.piece.now c.args.pairs.now, c.requires.1)

pub idle-requires : goal.idle-requires
idle-requires c =
    let good : Good c.args.moves.now c.args.programs.now = good-machine c.args.moves.now c.args.programs.now c.requires.0 in
    let inside : c.target-q.result < state_count c.args.moves.now =
    omega (arith, c.target-q.ensures, good.targets c.loop-i.x.state (get_or c.args.piece.now c.loop-i.i 0) c.loop-i.invariant.1 (c.type_inv.piece c.loop-i.i).fits) in
    program-there _ _ good c.target-q.result inside

pub loop-i-preserved-then-idle : goal.loop-i-preserved-then-idle
loop-i-preserved-then-idle c =
    let good : Good c.args.moves.now c.args.programs.now = good-machine c.args.moves.now c.args.programs.now c.requires.0 in
    let inside : c.target-q.result < state_count c.args.moves.now =
    omega (arith, c.target-q.ensures, good.targets c.loop-i.x.state (get_or c.args.piece.now c.loop-i.i 0) c.loop-i.invariant.1 (c.type_inv.piece c.loop-i.i).fits) in
    (goes-idle c.args.moves.now c.args.programs.now c.loop-i.invariant.0 (omega arith) c.target-q.result c.target-q.ensures (sym c.idle.ensures ∙ c.if-idle.true), inside)

pub run_program-step-requires : goal.run_program-step-requires
run_program-step-requires c =
    let good : Good c.args.moves.now c.args.programs.now = good-machine c.args.moves.now c.args.programs.now c.requires.0 in
    let inside : c.target-q.result < state_count c.args.moves.now =
    omega (arith, c.target-q.ensures, good.targets c.loop-i.x.state (get_or c.args.piece.now c.loop-i.i 0) c.loop-i.invariant.1 (c.type_inv.piece c.loop-i.i).fits) in
    (program-there _ _ good c.target-q.result inside, program-good _ _ good c.target-q.result inside)

pub returns-in_default : goal.returns-in_default
returns-in_default c =
    let e = stops c.args.moves.now c.args.programs.now c.loop-i.invariant.0 (omega arith) c.target-q.result c.target-q.ensures c.run_program-step.ensures.alerts c.tell_alerts.ensures c.in_default.is in
    (e.1, e.0)

pub loop-i-preserved : goal.loop-i-preserved
loop-i-preserved c =
    let good : Good c.args.moves.now c.args.programs.now = good-machine c.args.moves.now c.args.programs.now c.requires.0 in
    let inside : c.target-q.result < state_count c.args.moves.now =
    omega (arith, c.target-q.ensures, good.targets c.loop-i.x.state (get_or c.args.piece.now c.loop-i.i 0) c.loop-i.invariant.1 (c.type_inv.piece c.loop-i.i).fits) in (
      goes_on c.args.moves.now c.args.programs.now c.loop-i.invariant.0 (omega arith) c.target-q.result c.target-q.ensures c.run_program-step.ensures.alerts c.tell_alerts.ensures
          _ c.in-Some.is c.run_program-step.result.config c.run_program-step.ensures.config,
      omega (arith, inside, ap (λ (x : Config). x.state) c.run_program-step.ensures.config ∙ after-state c.args.programs.now c.target-q.result (moved c.target-q.result c.loop-i.x) program_length),
    )

pub returns : goal.returns
returns c =
    let e : c.loop-i.i ≡ length c.args.piece.now = omega arith in
    (rw (sym e) c.loop-i.invariant.0, finish c.loop-i.invariant.0 e ∙ e)
