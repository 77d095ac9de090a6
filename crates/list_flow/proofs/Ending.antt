-- Any feed over a list is a loop and its end: what the loop leaves is answered and saved as the feed's outcome. Assumes nothing.
use Prim.Native.Nat.{ℕ, ◌+◌, ◌*◌, ◌^◌, ◌≤◌, ◌<◌}
use mathlib.Core.Path.{◌≡◌, sym, ◌∙◌}
use mathlib.Core.Bool.{false, ◌&&◌, cond}
use mathlib.Core.List.{List}
use native.Mathlib.Omega.{arith}
use lib.ListN.{length}
use lib.Dec.{ltb}
use borrow.Author.Tests.{eq-eqb}
use Rattle.sets.specs.Set.{states, set_of}
use Rattle.rules.specs.Rules.{Rule, verdict}
use Rattle.feed.specs.Engine.{Engine, most_offset, room, consumed, feed}
use Rattle.feed.specs.declared.Fed.{Fed}
use Rattle.feed.specs.Fed.{Answers}
use Rattle.feed.specs.inner.Going.{Going}
use Rattle.feed.proofs.Looping.{answers-fed}
use Rattle.list_flow.specs.Flow.{flow_size, frontier_of, offset_of, rows_of, flow_layout, bad_flow}
use Rattle.list_flow.specs.declared.Ran.{Ran}
use Rattle.list_flow.specs.inner.Ran.{Finishes}
use Rattle.list_flow.specs.inner.Leaves.{Leaves}
use Rattle.list_flow.proofs.Records.{good-flow}

-- so it does where it stands at byte i
pub leaves : {E : Engine ℕ} {F k : ℕ} {piece out₀ out : List ℕ} {i : ℕ} (ran : Ran) → Going E F k piece out₀ (set_of ran.frontier) out i ran.words ran.rows
    → ran.bytes ≡ i → consumed E F (room out₀) piece ≡ i → ran.refusal ≡ cond (ltb i (length piece) && E.halts (set_of ran.frontier)) 14 0
    → Leaves E F k piece out₀ ran out
leaves ran g b e r = record { going = rw b g; longest = e ∙ sym b; refusal = rw b r }

module _ (R piece : List ℕ) (good : bad_flow R ≡ false) (ran : Ran) where
  -- what the end adds up fits its words
  pub fits : offset_of R + length piece ≤ most_offset → ran.bytes ≤ length piece → ran.rows ≤ states * ran.bytes
      → (offset_of R + ran.bytes < 2 ^ 64) × (rows_of R + ran.rows < 2 ^ 64)
  fits short front few = (omega arith, omega (arith, (good-flow R good).2))

  -- where no rule refuses, it answers and saves the feed's outcome
  pub finishes : (E : Engine ℕ) (out₀ : List ℕ) (rules : List Rule) (out : List ℕ) (f : Fed) (sv : List ℕ) → verdict rules ≡ 0
      → Leaves E (frontier_of R) (offset_of R) piece out₀ ran out → Finishes ran (length piece) R f sv → Answers (feed rules E flow_layout R piece out₀) f out sv
  finishes E out₀ rules out f sv v l e =
      answers-fed E flow_layout R piece out₀ rules f (set_of ran.frontier) out ran.bytes ran.words ran.rows l.going v l.longest
      (rw e.fed.refusal l.refusal) e.fed.bytes e.fed.pairs e.fed.all sv (rw (eq-eqb (length R) flow_size (good-flow R good).0) at e.saved)
