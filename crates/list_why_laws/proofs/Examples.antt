-- The reasons by number hold of the definitions, by computing. Assumes nothing.
use mathlib.Core.Path.{◌≡◌, refl}
use mathlib.Core.List.{[], ◌∷◌, ◌++◌}
use Rattle.numbers.specs.Number.{num, digits}
use Rattle.sets.specs.Set.{set_bytes, holds, join, within, insert, size, read_at}
use Rattle.rules.specs.Scan.{some, every, first, gather, stack}
use Rattle.rules.specs.Rules.{verdict}
use Rattle.list.specs.List.{good_record, bad_length, bad_record, no_start}
use Rattle.list.specs.Automaton.{start, step, accepted, named_by}
use Rattle.feed.specs.Engine.{run}
use Rattle.list_flow.specs.Flow.{flow_bytes, bad_flow}
use Rattle.list_why.specs.Reason.{reason, fronts, least, trace}
use Rattle.list_why.specs.Run.{of_signature, of_state}
use Rattle.laws_examples.specs.Examples.{Agree, L, loud, L₀}
use Rattle.list_why_laws.specs.Examples.{abab, forked, run_rows, answer_rows, edge_rows}

-- the runs one by one, since each computes for long

two : reason L 1 abab 2 (of_signature 7) ≡ 0 ∷ 1 ∷ 2 ∷ []
unfolding gather stack holds insert least trace run step num digits read_at
two = refl

four : reason L 1 abab 4 (of_signature 7) ≡ 0 ∷ 0 ∷ 0 ∷ 1 ∷ 2 ∷ []
unfolding gather stack holds insert least trace run step num digits read_at
four = refl

saved : reason L 5 (0x61 ∷ 0x62 ∷ []) 2 (of_signature 7) ≡ 0 ∷ 1 ∷ 2 ∷ []
unfolding gather stack holds insert least trace run step num digits read_at
saved = refl

state : reason L 1 abab 3 (of_state 1) ≡ 0 ∷ 0 ∷ 0 ∷ 1 ∷ []
unfolding gather stack holds insert least trace run step num digits read_at
state = refl

either : reason loud 1 (0x41 ∷ 0x62 ∷ []) 2 (of_signature 7) ≡ 0 ∷ 1 ∷ 2 ∷ []
unfolding gather stack holds insert least trace run step num digits read_at
either = refl

none : reason L₀ 1 [] 0 (of_signature 5) ≡ 0 ∷ []
unfolding gather stack holds insert least trace run step num digits read_at
none = refl

lowest : reason forked 1 abab 2 (of_signature 7) ≡ 0 ∷ 1 ∷ 2 ∷ []
unfolding gather stack holds insert least trace run step num digits read_at
lowest = refl

kept : fronts L 1 abab 2 ≡ set_bytes 1 ++ (set_bytes 3 ++ set_bytes 5)
unfolding gather stack holds insert least trace run step num digits read_at
kept = refl

pub runs-hold : Agree run_rows
runs-hold = (two, (four, (saved, (state, (either, (none, (lowest, (kept, tt))))))))

pub answers-hold : Agree answer_rows
unfolding some every gather holds insert join within size run step num digits read_at verdict good_record bad_length bad_record no_start start accepted named_by flow_bytes bad_flow
answers-hold = (refl, (refl, tt))

pub edges-hold : Agree edge_rows
unfolding some every first verdict good_record bad_length bad_record no_start
edges-hold = (refl, (refl, tt))
