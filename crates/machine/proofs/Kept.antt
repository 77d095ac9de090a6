-- A machine that rule 24 passes keeps a configuration within its limits, so that no record that is written is refused with 4. Assumes nothing.
use Prim.Native.Nat.{ℕ, zero, suc, ◌+◌, ◌*◌, ◌^◌, ◌≤◌, ◌<◌}
use mathlib.Core.Path.{◌≡◌, ap, ◌∙◌}
use mathlib.Core.Bool.{false}
use mathlib.Core.List.{List}
use native.Mathlib.Omega.{arith}
use native.Mathlib.Decide.{dec_lt}
use lib.ListN.{length, get_or, drop, replicate, length-replicate, get_or-eq_default, get_or-replicate}
use lib.Dec.{leb}
use lib.Pow.{pow_pos}
use borrow.Author.Tests.{eq-eqb, lt-ltb, le-leb}
use Rattle.numbers.proofs.Laws.{num-take-lt}
use Rattle.rules.proofs.Scanning.{every-all}
use Rattle.feed.specs.Calls.{Bytes}
use Rattle.feed.proofs.Runs.{bytes_drop}
use Rattle.machine.specs.declared.Config.{Config}
use Rattle.machine.specs.Program.{bit_count, counter_count, off, program_length, word, kind_of, which_of, number_of, blank, moved, after}
use Rattle.machine.specs.Machine.{most_states, state_count, move, bad_machine, machine, first}
use Rattle.machine.specs.Record.{flow_size, state_of, config_at, config_of, flow_bytes, bad_flow}
use Rattle.machine.proofs.Instructions.{bits-kept, counters-length, counters-kept}
use Rattle.machine.proofs.Programs.{after-state}
use Rattle.machine.proofs.Machines.{good-machine}
use Rattle.machine.proofs.Records.{Fine, good-flow, config-flow, reserved-flow, length-flow, read-fine}

-- a configuration of a machine with n states
pub record Kept (n : ℕ) (x : Config) : Type 0 where
  pub in_table : x.state < n
  pub bits_small : x.bits < 2 ^ bit_count
  pub sixteen : length x.counters ≡ counter_count
  pub counters-most : (i : ℕ) → get_or x.counters i 0 ≤ off

-- it has a record
pub kept_fine : (n : ℕ) (x : Config) → n ≤ most_states → Kept n x → Fine x
kept_fine n x l k =
    record { state-small = omega (arith, k.in_table); bits_small = k.bits_small; sixteen = k.sixteen; counters-small = λ i. omega (arith, k.counters-most i) }

-- a record that rule 4 passes has such a configuration
pub flow-kept : (n : ℕ) (R : List ℕ) → Bytes R → bad_flow n R ≡ false → Kept n (config_of R)
unfolding config_at
flow-kept n R h e =
    let g = good-flow n R e in
    let f = read-fine R h in
    record {
      in_table = g.in_table;
      bits_small = f.bits_small;
      sixteen = f.sixteen;
      counters-most = λ i. elim (dec_lt i counter_count) [
        | yes l ↦ g.counters i l
        | no m ↦ omega (arith, get_or-eq_default (config_of R).counters 0 {n = i} (omega (arith, f.sixteen)))
      ];
    }

state-same : (x : Config) (k : ℕ) → config_of (flow_bytes x k) ≡ x → state_of (flow_bytes x k) ≡ x.state
unfolding config_at
state-same x k e = ap (λ (y : Config). y.state) e

-- and what is written of such a configuration passes rule 4
pub kept-flow : (n : ℕ) (x : Config) (k : ℕ) → n ≤ most_states → Kept n x → bad_flow n (flow_bytes x k) ≡ false
unfolding bad_flow
kept-flow n x k l v =
    let e : config_of (flow_bytes x k) ≡ x = config-flow x k (kept_fine n x l v) in
    let s : state_of (flow_bytes x k) ≡ x.state = state-same x k e in
    rw (
      eq-eqb (length (flow_bytes x k)) flow_size (length-flow x k v.sixteen),
      s,
      lt-ltb x.state n v.in_table,
      reserved-flow x k,
      e,
      every-all counter_count (λ i. leb (get_or x.counters i 0) off) (λ i h. le-leb (get_or x.counters i 0) off (v.counters-most i)),
    )

-- ---- a program, a move, and the start

-- two bytes are a number below 65,536
word_lt : (b : List ℕ) → Bytes b → (at : ℕ) → word b at < 65536
word_lt b h at = num-take-lt 8 (drop at b) (bytes_drop at b h) 2

-- the variables keep within their limits: the bits are 64, the counters 16, and none is over b
record Bounded (b : ℕ) (x : Config) : Type 0 where
  bits_small : x.bits < 2 ^ bit_count
  sixteen : length x.counters ≡ counter_count
  most : (i : ℕ) → get_or x.counters i 0 ≤ b

after-bounded : (P : List ℕ) → Bytes P → (q b : ℕ) → off ≤ b → (x : Config) → Bounded b x → (j : ℕ) → Bounded b (after P q x j)
unfolding after
after-bounded P hp q b o x v zero = v
after-bounded P hp q b o x v (suc j) =
    let ih = after-bounded P hp q b o x v j in
    let i = program_length * q + j in
    record {
      bits_small = bits-kept (kind_of P i) (which_of P i) (after P q x j).bits ih.bits_small;
      sixteen = counters-length (kind_of P i) (which_of P i) (number_of P i) (after P q x j).counters ∙ ih.sixteen;
      most = counters-kept (kind_of P i) (which_of P i) (number_of P i) (after P q x j).counters b o (omega (arith, word_lt P hp (4 * i + 2))) ih.most;
    }

-- of any two lists of bytes a configuration that has a record leads to one that has
pub machine-fine : (M P : List ℕ) → Bytes M → Bytes P → (x : Config) (c : ℕ) → c < 256 → Fine x → Fine ((machine M P).next x c)
machine-fine M P hm hp x c l f =
    let q = move M x.state c in
    let at = 2 * (256 * x.state + c) in
    let v = after-bounded P hp q 4294967295 (omega arith) (moved q x) (record { bits_small = f.bits_small; sixteen = f.sixteen; most = λ i. omega (arith, f.counters-small i) }) program_length in
    record {
      state-small = omega (arith, after-state P q (moved q x) program_length, word_lt M hm at);
      bits_small = v.bits_small;
      sixteen = v.sixteen;
      counters-small = λ i. omega (arith, v.most i);
    }

-- all bits clear, all counters off
blank-bounded : (b : ℕ) → off ≤ b → Bounded b blank
blank-bounded b o =
    record {
      bits_small = pow_pos bit_count;
      sixteen = length-replicate counter_count off;
      most = λ i. elim (dec_lt i counter_count) [
        | yes l ↦ omega (arith, get_or-replicate counter_count i off 0 l)
        | no m ↦ omega (arith, get_or-eq_default (replicate counter_count off) 0 {n = i} (omega (arith, length-replicate counter_count off)))
      ];
    }

pub first_fine : (P : List ℕ) → Bytes P → Fine (first P)
first_fine P hp =
    let v = after-bounded P hp 0 4294967295 (omega arith) blank (blank-bounded 4294967295 (omega arith)) program_length in
    record {
      state-small = omega (arith, after-state P 0 blank program_length);
      bits_small = v.bits_small;
      sixteen = v.sixteen;
      counters-small = λ i. omega (arith, v.most i);
    }

module _ (M P : List ℕ) (e : bad_machine M P ≡ false) (hp : Bytes P) where
  -- a move leads to a state
  pub machine-kept : (x : Config) (c : ℕ) → c < 256 → Kept (state_count M) x → Kept (state_count M) ((machine M P).next x c)
  machine-kept x c l v =
      let q = move M x.state c in
      let t = (good-machine M P e).targets x.state c v.in_table l in
      let u = after-bounded P hp q off (omega arith) (moved q x) (record { bits_small = v.bits_small; sixteen = v.sixteen; most = v.counters-most }) program_length in
      record { in_table = omega (arith, after-state P q (moved q x) program_length); bits_small = u.bits_small; sixteen = u.sixteen; counters-most = u.most }

  pub first-kept : Kept (state_count M) (first P)
  first-kept =
      let s = (good-machine M P e).lengths.some in
      let u = after-bounded P hp 0 off (omega arith) blank (blank-bounded off (omega arith)) program_length in
      record { in_table = omega (arith, after-state P 0 blank program_length); bits_small = u.bits_small; sixteen = u.sixteen; counters-most = u.most }
