-- `run_program` runs the records in their order; the invariant is the definition for those passed. Assumes nothing.
use borrow.Author.Rules.{rules}
use Prim.Native.Nat.{◌≤◌, ◌-◌, ◌+◌, ◌*◌}
use mathlib.Core.Path.{◌≡◌, refl, sym, ◌∙◌}
use native.Mathlib.Omega.{arith}
use lib.ListN.{length}
use Rattle.sets.specs.Set.{sig_words}
use Rattle.sets.proofs.Sets.{empty-words}
use Rattle.rules.proofs.Scanning.{every-at}
use Rattle.machine.specs.Program.{counter_count, program_length, moved}
use Rattle.machine.specs.Machine.{good_record}
use Rattle.machine.proofs.Programs.{Running, running_none, running_more, config-one, after-state}
use Rattle.machine.proofs.run_program.Statement.{statement}
use Rattle.machine.proofs.run_program.Tie as tie

abbrev invariant-loop : tie.invariant-loop-j
invariant-loop programs q bits₀ counters₀ alerts₀ j₀ bits counters alerts j = (j ≤ program_length) × (length counters ≡ counter_count) × (length alerts ≡ sig_words) × Running programs q (record { state = q; bits = bits₀; counters = counters₀ }) j bits counters alerts

abbrev decreases-loop : tie.decreases-loop-j
decreases-loop programs q bits₀ counters₀ alerts₀ j₀ bits counters alerts j = program_length - j

loop-holds : tie.Need-loop-j-init invariant-loop decreases-loop
loop-holds c = let a = c.args in (search rules, search rules, refl, running_none a.programs.now a.q (moved a.q a.x) _ (empty-words sig_words))

mul-run-record : tie.Need-overflow_mul-q invariant-loop decreases-loop
mul-run-record c = search rules

add-run-record : tie.Need-overflow_add-q invariant-loop decreases-loop
add-run-record c = search rules

slice-aggregate-run-record : tie.Need-slice_bounds-run_record-end invariant-loop decreases-loop
slice-aggregate-run-record c = search rules

slice-aggregate-run-record-2 : tie.Need-slice_bounds-run_record-end-in-loop-j invariant-loop decreases-loop
slice-aggregate-run-record-2 c = search rules

run-record-requires : tie.Need-run_record-bits-requires invariant-loop decreases-loop
run-record-requires c κs =
    let s = c.before.before.before.before.before.before in
    let l = c.loop-j in
    (omega arith, every-at (program_length * s.args.q + program_length) (good_record s.args.programs.now) s.requires.1 (program_length * s.args.q + l.j) (omega arith), l.invariant.1, l.invariant.2)

add-j : tie.Need-overflow_step-j invariant-loop decreases-loop
add-j c = search rules

loop-less : tie.Need-loop-j-smaller invariant-loop decreases-loop
loop-less c = search rules

loop-again : tie.Need-loop-j-preserved invariant-loop decreases-loop
loop-again c =
    let l = c.loop-j in
    (omega arith, search rules, search rules, running_more l.invariant.3 c.run_record-bits.ensures)

of-words-requires : tie.Need-of_words-requires invariant-loop decreases-loop
of-words-requires c κs = search rules

returns : tie.Need-returns invariant-loop decreases-loop
returns c =
    let a = c.args in
    let l = c.loop-j in
    let e : l.j ≡ program_length = omega arith in
    let r = rw e at l.invariant.3 in
    record {
      config = config-one _ _ (sym (after-state a.programs.now a.q (moved a.q a.x) program_length)) r.bits r.counters;
      alerts = c.of_words.ensures ∙ r.alerts;
    }

pub run_program_spec : {M : Type 1} → statement M
run_program_spec =
    tie.close
    (tie.spec
    invariant-loop
    decreases-loop
    loop-holds
    mul-run-record
    add-run-record
    slice-aggregate-run-record
    slice-aggregate-run-record-2
    run-record-requires
    add-j
    loop-less
    loop-again
    of-words-requires
    returns)
