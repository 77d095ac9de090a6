-- Demand 3 of a table that the builder made, also by its index, and that a flow may change to it. Assumes nothing.
use Prim.Native.Nat.{ℕ}
use mathlib.Core.Path.{◌≡◌, sym, ap, ◌∙◌}
use mathlib.Core.List.{List, ◌++◌}
use native.Mathlib.Omega.{arith}
use lib.ListN.{length, get_or, replicate}
use Rattle.numbers.specs.Number.{digits}
use Rattle.sets.specs.Set.{set_bytes}
use Rattle.numbers.proofs.Laws.{small-digits}
use Rattle.feed.specs.Calls.{Bytes}
use Rattle.feed.proofs.Runs.{bytes-append}
use Rattle.table.specs.Table.{Table, split_count}
use Rattle.index_fill.proofs.Ready.{stand-exact}
use Rattle.index_fill.proofs.Reading.{known_read, flag-read}
use Rattle.index_fill.proofs.Made.{filled-checked}
use Rattle.table_build.specs.Build.{Building, Builds, refuses, passes_limits, builds, splits_of, slot_bytes}
use Rattle.table_build.specs.Words.{fronts}
use Rattle.table_build.proofs.Outcomes.{fronts-of, build-accepted}
use Rattle.index_prepare.proofs.Right.{set-bytes, unused-bytes, stack-bytes}
use Rattle.laws.specs.Demands.{BuiltFollows, BuiltPrepares, FilledNames, FilledSwaps, BuiltSwaps}
use Rattle.laws.proofs.Swapping.{demand-3}

pub built-3 : BuiltFollows
built-3 L T o b z R out p = demand-3 L 1 (fronts o) (build-accepted L T o b z) R out p

-- the splits that it writes are bytes
splits-bytes : (xs : List ℕ) → Bytes (splits_of xs)
unfolding splits_of
splits-bytes xs =
    stack-bytes (λ i. set_bytes (get_or xs i 0) ++ slot_bytes i)
    (λ i. bytes-append (set_bytes (get_or xs i 0)) (slot_bytes i) (set-bytes (get_or xs i 0)) (bytes-append (digits 8 2 i) (replicate 6 255) (small-digits 8 2 i) (unused-bytes 6)))
    (length xs)

built-bytes : (L : List ℕ) (T : Table) (o : Building) → Builds L T o → o.refusal ≡ 0 → Bytes (fronts o).splits
built-bytes L T o (refuses n e) z = absurd (n (sym (ap (λ (x : Building). x.refusal) e) ∙ z))
built-bytes L T o (passes_limits v m e) z = absurd (omega (arith, sym (ap (λ (x : Building). x.refusal) e) ∙ z))
built-bytes L T o (builds v c xs n a e) z = rw (e, fronts-of (splits_of xs) T.splits) (splits-bytes xs)

pub built-prepares : BuiltPrepares
built-prepares L T o b z h R at piece out hb = stand-exact L 1 (fronts o) (build-accepted L T o b z) (built-bytes L T o b z) h R at piece out hb

pub filled-names : FilledNames
filled-names L b T h = let n = split_count T.splits in record { known = known_read L 0 T.splits n; flags = λ i l. flag-read L 0 T.splits n i l (omega arith) }

pub filled-swaps : FilledSwaps
filled-swaps L b T ok s h = filled-checked L b T ok s h

pub built-swaps : BuiltSwaps
built-swaps L T o b z h = let ok = build-accepted L T o b z in (ok, filled-checked L 1 (fronts o) ok (built-bytes L T o b z) h)
