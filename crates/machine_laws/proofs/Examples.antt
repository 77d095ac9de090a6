-- The worked examples hold of the definitions: one table, one statement. Assumes nothing.
use Prim.Native.Nat.{ℕ}
use mathlib.Core.Path.{◌≡◌, refl, ap₂}
use mathlib.Core.Bool.{Bool, true, false, ◌&&◌}
use mathlib.Core.List.{List, [], ◌∷◌, ◌++◌}
use lib.Dec.{T, eqb, eqb→eq}
use Rattle.numbers.specs.Number.{num, digits}
use Rattle.sets.specs.Set.{holds, join, insert, members}
use Rattle.rules.specs.Scan.{every}
use Rattle.rules.specs.Rules.{verdict}
use Rattle.feed.specs.Engine.{run, costs, due, pairs_at, told, consumed, ended, feed}
use Rattle.feed.specs.Opening.{opening}
use Rattle.machine.specs.Program.{without, bits_by, counters_by, alerts_by, after, alerted}
use Rattle.machine.specs.Machine.{bad_lengths, good_instruction, bad_machine}
use Rattle.machine.specs.Record.{fours, four_bytes, config_at, flow_bytes, bad_flow}
use Rattle.machine.specs.Extended.{open_pairs}
use Rattle.machine_laws.specs.Examples.{Row, Agree, flow_rows, open_rows, feed_rows, check_rows, size_rows, examples}

-- rows are compared by computing; what computes as the same is the same
abbrev pub same : List ℕ → List ℕ → Bool
same [] [] = true
same [] (y ∷ ys) = false
same (x ∷ xs) [] = false
same (x ∷ xs) (y ∷ ys) = eqb x y && same xs ys

abbrev pub agree : List Row → Bool
agree [] = true
agree (r ∷ rs) = same r.0 r.1 && agree rs

both : (x y : Bool) → T (x && y) → T x × T y
both true y t = (tt, t)
both false y t = absurd t

same-sound : (xs ys : List ℕ) → T (same xs ys) → xs ≡ ys
same-sound [] [] t = refl
same-sound [] (y ∷ ys) t = absurd t
same-sound (x ∷ xs) [] t = absurd t
same-sound (x ∷ xs) (y ∷ ys) t =
    let r = both (eqb x y) (same xs ys) t in
    ap₂ (λ (u : ℕ) (v : List ℕ). u ∷ v) (eqb→eq x y r.0) (same-sound xs ys r.1)

pub agree-sound : (rs : List Row) → T (agree rs) → Agree rs
agree-sound [] t = tt
agree-sound (r ∷ rs) t =
    let w = both (same r.0 r.1) (agree rs) t in
    (same-sound r.0 r.1 w.0, agree-sound rs w.1)

pub agree-append : (rs qs : List Row) → Agree rs → Agree qs → Agree (rs ++ qs)
agree-append [] qs p q = q
agree-append (r ∷ rs) qs p q = (p.0, agree-append rs qs p.1 q)

flow-rows : Agree flow_rows
unfolding num digits holds join insert members every verdict run costs due pairs_at told without bits_by counters_by alerts_by after alerted fours four_bytes config_at flow_bytes open_pairs flow_rows
flow-rows = agree-sound flow_rows tt

open-rows : Agree open_rows
unfolding num digits holds join insert members every verdict pairs_at opening without bits_by counters_by alerts_by after alerted bad_lengths good_instruction bad_machine fours four_bytes config_at flow_bytes open_pairs open_rows
open-rows = agree-sound open_rows tt

feed-rows : Agree feed_rows
unfolding num digits holds join insert members every verdict run costs due pairs_at told consumed ended feed without bits_by counters_by alerts_by after alerted bad_lengths good_instruction bad_machine fours four_bytes config_at flow_bytes bad_flow feed_rows
feed-rows = agree-sound feed_rows tt

check-rows : Agree check_rows
unfolding num every verdict bad_lengths good_instruction bad_machine check_rows
check-rows = agree-sound check_rows tt

size-rows : Agree size_rows
unfolding size_rows
size-rows = agree-sound size_rows tt

pub examples-hold : Agree examples
unfolding examples
examples-hold = agree-append flow_rows _ flow-rows (agree-append open_rows _ open-rows (agree-append feed_rows _ feed-rows (agree-append check_rows _ check-rows size-rows)))
