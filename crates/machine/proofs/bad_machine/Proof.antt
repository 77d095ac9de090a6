-- `bad_machine` tests the lengths, the targets and the records in turn. Assumes nothing.
use borrow.Author.Rules.{rules}
use mathlib.Core.Path.{◌≡◌, sym, ap, ◌∙◌}
use mathlib.Core.Bool.{false, not}
use Prim.Native.Nat.{ℕ, ◌*◌, ◌/◌}
use native.Mathlib.Omega.{arith}
use lib.ListN.{length}
use borrow.Author.Tests.{not-true, not-false}
use Rattle.rules.specs.Scan.{every}
use Rattle.machine.specs.Program.{program_length}
use Rattle.machine.specs.Machine.{state_count, bad_lengths, good_record, bad_machine}
use Rattle.machine.proofs.Machines.{Lengths, good-lengths}
use Rattle.machine.proofs.bad_machine.Statement.{statement}
use Rattle.machine.proofs.bad_machine.Tie as tie

-- the way back from where the lengths are right to the entry
abbrev entry : tie.Else-bad_lengths → tie.Start
entry c = c.before.before.before.before

right : (c : tie.Else-bad_lengths) → bad_lengths (entry c).args.moves.now (entry c).args.programs.now ≡ false
right c = sym c.bad_lengths.ensures ∙ c.if-bad_lengths.false

lengths : (c : tie.Else-bad_lengths) → Lengths (entry c).args.moves.now (entry c).args.programs.now
lengths c = good-lengths (entry c).args.moves.now (entry c).args.programs.now (right c)

bad-lengths-requires : tie.Need-bad_lengths-requires
bad-lengths-requires c κs = search rules

returns : tie.Need-returns-then-bad_lengths
unfolding bad_machine
returns c = rw (sym c.bad_lengths.ensures ∙ c.if-bad_lengths.true)

good-targets-requires : tie.Need-good_targets-requires
good-targets-requires c κs = let l = lengths c in omega (arith, l.moves, l.most)

returns-2 : tie.Need-returns-then-not-good_targets
unfolding bad_machine
returns-2 c = rw (right c.before.before, sym c.good_targets.ensures ∙ not-true _ c.if-not-good_targets.true-raw)

good-programs-requires : tie.Need-good_programs-requires
good-programs-requires c κs = search rules

returns-3 : tie.Need-returns
unfolding bad_machine
returns-3 c =
    let e = c.before.before.before in
    let a = (entry e).args in
    let n : length a.programs.now / 4 ≡ program_length * state_count a.moves.now = omega (arith, (lengths e).programs) in
    rw (right e, sym c.good_targets.ensures ∙ not-false _ c.if-not-good_targets.false-raw)
    (ap not (c.good_programs.ensures ∙ ap (λ (m : ℕ). every m (good_record a.programs.now)) n))

pub bad_machine_spec : {M : Type 1} → statement M
bad_machine_spec =
    tie.close
    (tie.spec
    bad-lengths-requires
    returns
    good-targets-requires
    returns-2
    good-programs-requires
    returns-3)
