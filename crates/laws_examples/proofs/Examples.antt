-- The barn examples marked P hold of the definitions: one table, one statement. Assumes nothing.
use Prim.Native.Nat.{ℕ}
use mathlib.Core.Path.{◌≡◌, refl, ap₂}
use mathlib.Core.Bool.{Bool, true, false, ◌&&◌}
use mathlib.Core.List.{List, [], ◌∷◌, ◌++◌}
use lib.Count.{ones_in}
use lib.Dec.{T, eqb, eqb→eq}
use Rattle.numbers.specs.Number.{num, digits, before}
use Rattle.sets.specs.Set.{holds, join, within, insert, size, members, read_at}
use Rattle.rules.specs.Scan.{some, every, first, gather, rising, stack}
use Rattle.rules.specs.Rules.{verdict}
use Rattle.list.specs.List.{good_record, bad_length, bad_record, no_start}
use Rattle.list.specs.Automaton.{start, step, accepted, named_by, highest_by}
use Rattle.feed.specs.Engine.{run, costs, due, pairs_at, told, consumed, ended, feed}
use Rattle.feed.specs.Opening.{opening}
use Rattle.feed.specs.Calls.{record_after, all_told}
use Rattle.list_flow.specs.Flow.{flow_bytes, bad_flow}
use Rattle.list_flow.specs.Opening.{open_pairs}
use Rattle.table.specs.Table.{largest, part, row, split_set, slots, used_slots, taken_slots, all_below, joined, bad_classes, bad_count, bad_rows_length, bad_lengths, good_slots, in_order, unordered, bad_splits, bad_rows, bad_union, no_start_split, not_closed, table_refusal, split_of}
use Rattle.table_feed.specs.Split.{taken, stuck, split_step}
use Rattle.index.specs.Entry.{told_of, split_at, known_in, bad_index}
use Rattle.index.specs.Stand.{halved, sought_of, holds_at, began, named_by as named_from, stood_at}
use Rattle.index_fill.specs.Filled.{word_of, words_of, cost_of, entry_of, index_of}
use Rattle.table_classes.specs.Classes.{alike}
use Rattle.table_build.specs.Build.{parts_of, splits_of}
use Rattle.laws_examples.specs.Examples.{Row, Agree, feed_rows, open_row, opened_row, accepted_row, accepted_row₁, accepted_row₀, bound_row, closed_row, start_row, loud_row, index_row, alike_row, order_rows, index_rows, build_rows, examples}

-- rows are compared by computing; what computes as the same is the same
abbrev pub same : List ℕ → List ℕ → Bool
same [] [] = true
same [] (y ∷ ys) = false
same (x ∷ xs) [] = false
same (x ∷ xs) (y ∷ ys) = eqb x y && same xs ys

abbrev pub agree : List Row → Bool
agree [] = true
agree (r ∷ rs) = same r.0 r.1 && agree rs

both : (x y : Bool) → T (x && y) → T x × T y
both true y t = (tt, t)
both false y t = absurd t

pub same-sound : (xs ys : List ℕ) → T (same xs ys) → xs ≡ ys
same-sound [] [] t = refl
same-sound [] (y ∷ ys) t = absurd t
same-sound (x ∷ xs) [] t = absurd t
same-sound (x ∷ xs) (y ∷ ys) t =
    let r = both (eqb x y) (same xs ys) t in
    ap₂ (λ (u : ℕ) (v : List ℕ). u ∷ v) (eqb→eq x y r.0) (same-sound xs ys r.1)

pub agree-sound : (rs : List Row) → T (agree rs) → Agree rs
agree-sound [] t = tt
agree-sound (r ∷ rs) t =
    let w = both (same r.0 r.1) (agree rs) t in
    (same-sound r.0 r.1 w.0, agree-sound rs w.1)

pub agree-append : (rs qs : List Row) → Agree rs → Agree qs → Agree (rs ++ qs)
agree-append [] qs p q = q
agree-append (r ∷ rs) qs p q = (p.0, agree-append rs qs p.1 q)

-- what the rows compute with: a line that names one of these opens all that its own line names
unfoldable pub steps : ℕ
unfolding num digits holds join within insert size ones_in members read_at before some every first gather verdict good_record bad_length bad_record no_start start step accepted named_by
steps = 0

checks : ℕ
unfolding largest part row split_set slots used_slots taken_slots all_below rising joined bad_classes bad_count bad_rows_length bad_lengths good_slots in_order unordered bad_splits bad_rows bad_union no_start_split not_closed table_refusal
checks = 0

unfoldable pub feeds : ℕ
unfolding opening open_pairs run costs due pairs_at told consumed ended feed record_after all_told flow_bytes bad_flow split_of taken stuck split_step highest_by
feeds = 0

builds : ℕ
unfolding alike stack run parts_of splits_of
builds = 0

-- each row that runs the table check is computed by itself, and the feeds' rows together
accepted-holds : T (same accepted_row.0 accepted_row.1)
unfolding steps checks
accepted-holds = tt

accepted-holds₁ : T (same accepted_row₁.0 accepted_row₁.1)
unfolding steps checks
accepted-holds₁ = tt

accepted-holds₀ : T (same accepted_row₀.0 accepted_row₀.1)
unfolding steps checks
accepted-holds₀ = tt

bound-holds : T (same bound_row.0 bound_row.1)
unfolding steps checks
bound-holds = tt

closed-holds : T (same closed_row.0 closed_row.1)
unfolding steps checks
closed-holds = tt

start-holds : T (same start_row.0 start_row.1)
unfolding steps checks
start-holds = tt

loud-holds : T (same loud_row.0 loud_row.1)
unfolding steps checks
loud-holds = tt

feeds-hold : T (agree feed_rows)
unfolding steps checks feeds
feeds-hold = tt

orders-hold : T (agree order_rows)
unfolding steps checks feeds
orders-hold = tt

-- what the index's rows compute with, beside those
indexing : ℕ
unfolding read_at stack told_of split_at known_in bad_index halved sought_of holds_at began named_from stood_at word_of words_of cost_of entry_of index_of
indexing = 0

index-holds : T (same index_row.0 index_row.1)
unfolding steps checks feeds indexing
index-holds = tt

indexes-hold : T (agree index_rows)
unfolding steps checks feeds indexing
indexes-hold = tt

builds-hold : T (agree build_rows)
unfolding steps builds
builds-hold = tt

alike-holds : T (same alike_row.0 alike_row.1)
unfolding steps builds
alike-holds = tt

opened-holds : T (same opened_row.0 opened_row.1)
unfolding steps feeds
opened-holds = tt

open-holds : T (same open_row.0 open_row.1)
unfolding steps feeds
open-holds = tt

pub open-agrees : open_row.0 ≡ open_row.1
open-agrees = same-sound open_row.0 open_row.1 open-holds

pub opened-agrees : opened_row.0 ≡ opened_row.1
opened-agrees = same-sound opened_row.0 opened_row.1 opened-holds

pub accepted-agrees : accepted_row.0 ≡ accepted_row.1
accepted-agrees = same-sound accepted_row.0 accepted_row.1 accepted-holds

pub accepted-agrees₁ : accepted_row₁.0 ≡ accepted_row₁.1
accepted-agrees₁ = same-sound accepted_row₁.0 accepted_row₁.1 accepted-holds₁

pub accepted-agrees₀ : accepted_row₀.0 ≡ accepted_row₀.1
accepted-agrees₀ = same-sound accepted_row₀.0 accepted_row₀.1 accepted-holds₀

pub examples-hold : Agree examples
examples-hold = (
  open-agrees,
  (
    opened-agrees,
    (
      accepted-agrees,
      (
        accepted-agrees₁,
        (
          accepted-agrees₀,
          (
            same-sound bound_row.0 bound_row.1 bound-holds,
            (
              same-sound closed_row.0 closed_row.1 closed-holds,
              (
                same-sound start_row.0 start_row.1 start-holds,
                (
                  same-sound loud_row.0 loud_row.1 loud-holds,
                  (
                    same-sound index_row.0 index_row.1 index-holds,
                    (
                      same-sound alike_row.0 alike_row.1 alike-holds,
                      agree-append feed_rows (order_rows ++ (index_rows ++ build_rows)) (agree-sound feed_rows feeds-hold)
                          (agree-append order_rows (index_rows ++ build_rows) (agree-sound order_rows orders-hold)
                          (agree-append index_rows build_rows (agree-sound index_rows indexes-hold) (agree-sound build_rows builds-hold))),
                    ),
                  ),
                ),
              ),
            ),
          ),
        ),
      ),
    ),
  ),
)
