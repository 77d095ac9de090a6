-- `run_record` goes by the kind: what the other kinds change stays. Assumes nothing.
use borrow.Author.Rules.{rules}
use Prim.Native.Nat.{◌+◌, ◌*◌}
use mathlib.Core.Path.{◌≡◌, sym, ap, ◌∙◌}
use mathlib.Core.Bool.{true}
use native.Mathlib.Omega.{arith}
use lib.ListN.{length}
use Rattle.machine.specs.Program.{kind_of, which_of, number_of, counters_by}
use Rattle.machine.specs.Machine.{good_instruction}
use Rattle.machine.proofs.Instructions.{bits-stay, counters-stay, alerts-stay, alerts-put, alerts-none}
use Rattle.machine.proofs.run_record.Statement.{statement}
use Rattle.machine.proofs.run_record.Tie as tie

-- the way back from where the record is read to the entry, and there its instruction is good
abbrev entry : tie.After-two_bytes-n → tie.Start
entry c = c.before.before.before.before.before.before

good : (c : tie.After-two_bytes-n) → good_instruction (kind_of (entry c).args.programs.now (entry c).args.i) (which_of (entry c).args.programs.now (entry c).args.i) c.two_bytes-n.result ≡ true
good c =
    let a = (entry c).args in
    ap (λ n. good_instruction (kind_of a.programs.now a.i) (which_of a.programs.now a.i) n) c.two_bytes-n.ensures ∙ (entry c).requires.1

mul-k : tie.Need-overflow_mul-k
mul-k c = search rules

shared-slice-read-k : tie.Need-bounds-programs-i
shared-slice-read-k c = search rules

mul-w : tie.Need-overflow_mul-w
mul-w c = search rules

add-w : tie.Need-overflow_add-w
add-w c = search rules

shared-slice-read-w : tie.Need-bounds-programs-i-2
shared-slice-read-w c = search rules

cast-w : tie.Need-overflow_cast-w
cast-w c = omega (arith, c.shared_slice_known-3-1.given (4 * c.args.i + 1))

mul-two-bytes : tie.Need-overflow_mul-i
mul-two-bytes c = search rules

add-two-bytes : tie.Need-overflow_add-i
add-two-bytes c = search rules

two-bytes-requires : tie.Need-two_bytes-n-requires
two-bytes-requires c κs = search rules

bits-by-requires : tie.Need-bits_by-requires
bits-by-requires c κs = good c.before

returns : tie.Need-returns-then-k-lt-SET_COUNTER
returns c =
    let a = (entry c.before.before).args in
    let k = kind_of a.programs.now a.i in
    record {
      bits = c.bits_by.ensures;
      counters = counters-stay k (which_of a.programs.now a.i) (number_of a.programs.now a.i) a.counters.now (λ e. omega arith) (λ e. omega arith) (λ e. omega arith);
      alerts = alerts-stay k (which_of a.programs.now a.i) (number_of a.programs.now a.i) a.bits a.counters.now _ (omega arith);
    }

counters-by-requires : tie.Need-counters_by-requires
counters-by-requires c κs = (good c.before.before.before, (entry c.before.before.before).requires.2)

same_length : tie.Need-shape_of-counters-then-k-lt-ALERT
same_length c = search rules

returns-2 : tie.Need-returns-then-k-lt-ALERT
returns-2 c =
    let t = c.before.before.before.before.before.before in
    let a = (entry t).args in
    let k = kind_of a.programs.now a.i in
    record {
      bits = bits-stay k (which_of a.programs.now a.i) a.bits (omega arith);
      counters = c.counters_by.ensures ∙ ap (λ n. counters_by k (which_of a.programs.now a.i) n a.counters.now) t.two_bytes-n.ensures;
      alerts = alerts-stay k (which_of a.programs.now a.i) (number_of a.programs.now a.i) a.bits a.counters.now _ (omega arith);
    }

alert-now-requires : tie.Need-alert_now-requires
alert-now-requires c κs = (good c.before.before, (entry c.before.before).requires.2)

cast-put-bit : tie.Need-overflow_cast-n
cast-put-bit c = search rules

put-bit-requires : tie.Need-put_bit-requires
put-bit-requires c κs = search rules

same-length-2 : tie.Need-shape_of-counters-then-alert_now
same-length-2 c = search rules

same-length-3 : tie.Need-shape_of-alerts
same-length-3 c = search rules

returns-3 : tie.Need-returns-then-alert_now
returns-3 c =
    let t = c.before.before.before.before.before.before.before.before in
    let s = entry t in
    let a = s.args in
    let k = kind_of a.programs.now a.i in
    record {
      bits = bits-stay k (which_of a.programs.now a.i) a.bits (omega arith);
      counters = counters-stay k (which_of a.programs.now a.i) (number_of a.programs.now a.i) a.counters.now (λ e. omega arith) (λ e. omega arith) (λ e. omega arith);
      alerts = alerts-put k (which_of a.programs.now a.i) (number_of a.programs.now a.i) a.bits a.counters.now _ (sym c.alert_now.ensures ∙ c.if-alert_now.true)
          _ (length a.alerts.now) t.two_bytes-n.result s.requires.3 t.two_bytes-n.ensures c.put_bit.ensures;
    }

same-length-4 : tie.Need-shape_of-counters-else-alert_now
same-length-4 c = search rules

returns-4 : tie.Need-returns-else-alert_now
returns-4 c =
    let t = c.before.before.before.before in
    let a = (entry t).args in
    let k = kind_of a.programs.now a.i in
    record {
      bits = bits-stay k (which_of a.programs.now a.i) a.bits (omega arith);
      counters = counters-stay k (which_of a.programs.now a.i) (number_of a.programs.now a.i) a.counters.now (λ e. omega arith) (λ e. omega arith) (λ e. omega arith);
      alerts = alerts-none k (which_of a.programs.now a.i) (number_of a.programs.now a.i) a.bits a.counters.now _ (sym c.alert_now.ensures ∙ c.if-alert_now.false);
    }

pub run_record_spec : {M : Type 1} → statement M
run_record_spec =
    tie.close
    (tie.spec
    mul-k
    shared-slice-read-k
    mul-w
    add-w
    shared-slice-read-w
    cast-w
    mul-two-bytes
    add-two-bytes
    two-bytes-requires
    bits-by-requires
    returns
    counters-by-requires
    same_length
    returns-2
    alert-now-requires
    cast-put-bit
    put-bit-requires
    same-length-2
    same-length-3
    returns-3
    same-length-4
    returns-4)
