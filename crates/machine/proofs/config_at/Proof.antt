-- `config_at` reads the fields. Assumes nothing.
use borrow.Author.Rules.{rules}
use mathlib.Core.Path.{◌≡◌, sym, ap, ◌∙◌}
use mathlib.Core.List.{List}
use Prim.Native.Nat.{ℕ, ◌+◌}
use native.Mathlib.Omega.{arith}
use lib.ListN.{take, drop}
use lib.Seq.{drop-drop}
use Rattle.numbers.specs.Number.{num}
use Rattle.machine.specs.Program.{counter_count}
use Rattle.machine.specs.Record.{fours, config_at}
use Rattle.machine.proofs.Programs.{config-one}
use Rattle.machine.proofs.config_at.Statement.{statement}
use Rattle.machine.proofs.config_at.Tie as tie

add-counters-at : tie.Need-overflow_add-at
add-counters-at c = search rules

add-counters-at-2 : tie.Need-overflow_add-at-2
add-counters-at-2 c = search rules

counters-at-requires : tie.Need-counters_at-counters-requires
counters-at-requires c κs = search rules

whole-number-requires : tie.Need-whole_number-requires
whole-number-requires c κs = search rules

add-whole-number : tie.Need-overflow_add-at-3
add-whole-number c = search rules

whole-number-requires-2 : tie.Need-whole_number-requires-2
whole-number-requires-2 c κs = search rules

returns : tie.Need-returns
unfolding config_at
returns c =
    let a = c.args in
    let b = a.b.now in
    let e : a.at + a.bits + 8 ≡ a.at + (a.bits + 8) = omega arith in
    config-one _ (config_at a.bits (drop a.at b)) c.whole_number.ensures
    (c.whole_number-2.ensures ∙ sym (ap (λ (d : List ℕ). num 8 (take 8 d)) (drop-drop a.bits a.at b)))
    (c.counters_at-counters.ensures ∙ ap (λ (k : ℕ). fours counter_count (drop k b)) e ∙ sym (ap (λ (d : List ℕ). fours counter_count d) (drop-drop (a.bits + 8) a.at b)))

pub config_at_spec : {M : Type 1} → statement M
config_at_spec =
    tie.close
    (tie.spec
    add-counters-at
    add-counters-at-2
    counters-at-requires
    whole-number-requires
    add-whole-number
    whole-number-requires-2
    returns)
