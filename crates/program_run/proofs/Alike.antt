-- On records that stand alike, a feed by an engine that is checked for the list answers as the plain feed, and leaves records that stand alike. Assumes nothing.
use Prim.Native.Nat.{ℕ, ◌+◌, ◌≤◌}
use mathlib.Core.Path.{◌≡◌, refl, sym, ap, ◌∙◌}
use mathlib.Core.List.{List}
use native.Mathlib.Omega.{arith}
use lib.ListN.{length, take}
use Rattle.rules.specs.Rules.{Rule, verdict}
use Rattle.feed.specs.Engine.{Engine, Outcome, most_offset, room, run, costs, consumed, ended, feed}
use Rattle.feed.specs.Calls.{Bytes, costing, fed_by}
use Rattle.feed.specs.Lawful.{Means, Lawful, Reached, way_by}
use Rattle.feed.specs.Demands.{Answered}
use Rattle.feed.proofs.Runs.{bytes_take, length-take-most}
use Rattle.feed.proofs.Follows.{consumed-same}
use Rattle.feed.proofs.Alike.{answered}
use Rattle.feed.proofs.Moves.{feed-ends}
use Rattle.feed.proofs.Lawful.{reached-next}
use Rattle.feed.proofs.Whole.{run-good, run-costing, follows-costing}
use Rattle.list_flow.specs.Flow.{flow_layout, frontier_of, offset_of, rows_of, feed_rules}
use Rattle.list_flow.proofs.Records.{frontier-flow, offset-flow}
use Rattle.list_flow.proofs.Kept.{good-feed}
use Rattle.list_feed.specs.Plain.{plain, plain_feed}
use Rattle.list_feed.specs.Means.{list_automata}
use Rattle.list_feed.proofs.Plain.{plain-cheap}
use Rattle.list_feed.proofs.Lawful.{list-passes, reached-lt}
use Rattle.list_feed.proofs.Lawful as list
use Rattle.matrix.proofs.Lawful as matrix
use Rattle.index.proofs.Lawful as index
use Rattle.program_run.specs.declared.By.{By}
use Rattle.program_run.specs.declared.By.TheVariants.{Plain, Matrix, Index}
use Rattle.program_run.specs.Run.{means_by, Alike}

-- each engine is lawful
pub lawful-of : (by : By) (S X : List ℕ) (h : ℕ) → Lawful list_automata (means_by by S X h)
lawful-of Plain S X h = list.lawful
lawful-of (Matrix n) S X h = matrix.lawful (take n X)
lawful-of (Index m n) S X h = index.lawful 1 (λ F. 1) (λ F. omega arith) (take m S) (take n X) h

-- ---- where a feed of the automaton that no rule refuses ends, at any cost

module _ (L : List ℕ) (R piece out : List ℕ) where
  abbrev front : List ℕ
  front = take (consumed (plain L) (frontier_of R) (room out) piece) piece

  module _ (hb : Bytes piece) (r : Reached list_automata L (frontier_of R)) where
    come : Reached list_automata L (run (plain L) (frontier_of R) front)
    come = run-good (plain L) (Reached list_automata L) (reached-next list_automata L) (frontier_of R) front (bytes_take (consumed (plain L) (frontier_of R) (room out) piece) piece hb) r

    module _ (f : ℕ → ℕ) (rules : List Rule) (v : verdict rules ≡ 0) (short : offset_of R + length piece ≤ most_offset) where
      abbrev E : Engine ℕ
      E = costing (plain L) f

      ends : feed rules E flow_layout R piece out ≡ ended E flow_layout R front (length piece) out
      ends =
          feed-ends E flow_layout R rules piece out v
          ∙ ap (λ (n : ℕ). ended E flow_layout R (take n piece) (length piece) out)
          (consumed-same E (plain L) (λ x y. x ≡ y) (follows-costing (plain L) f) (frontier_of R) (frontier_of R) (room out) piece refl hb)

      leaves-frontier : frontier_of (feed rules E flow_layout R piece out).saved ≡ run (plain L) (frontier_of R) front
      unfolding ended
      leaves-frontier =
          rw ends
          (frontier-flow (run E (frontier_of R) front) (offset_of R + length front) (rows_of R + costs E (frontier_of R) front)
          (rw (run-costing (plain L) f (frontier_of R) front) (reached-lt L _ come))
          ∙ run-costing (plain L) f (frontier_of R) front)

      leaves-offset : offset_of (feed rules E flow_layout R piece out).saved ≡ offset_of R + length front
      unfolding ended
      leaves-offset =
          rw ends
          (offset-flow (run E (frontier_of R) front) (offset_of R + length front) (rows_of R + costs E (frontier_of R) front)
          (omega (arith, short, length-take-most (consumed (plain L) (frontier_of R) (room out) piece) piece)))

-- ---- on records that stand alike

module _ (L R Q : List ℕ) (a : Alike L R Q) (M : Means (List ℕ) ℕ) (law : Lawful list_automata M) (k : M.Checked L)
    (at : ℕ) (piece out : List ℕ) (hb : Bytes piece) where
  abbrev o : Outcome
  o = plain_feed L R at piece out

  abbrev p : Outcome
  p = fed_by (way_by list_automata M L) Q at piece out

  same-verdict : verdict (M.rules L Q at piece) ≡ verdict (feed_rules L R at piece)
  same-verdict = law.same L k Q at piece ∙ rw (a.frontier, a.offset, a.good, a.whole)

  reached-here : Reached list_automata L (frontier_of Q)
  reached-here = rw a.frontier a.reached

  by-automaton : p ≡ feed (M.rules L Q at piece) (costing (plain L) M.spends) flow_layout Q piece out
  by-automaton = law.goes L k Q at piece out hb reached-here

  -- it answers as the plain feed does
  pub answers-so : Answered p o
  answers-so =
      rw by-automaton
      (answered (costing (plain L) M.spends) (plain L) (λ x y. x ≡ y) (follows-costing (plain L) M.spends) flow_layout flow_layout Q R
      a.frontier a.offset piece out hb (M.rules L Q at piece) (feed_rules L R at piece) same-verdict)

  -- and leaves a record that stands alike
  pub leaves-so : verdict (feed_rules L R at piece) ≡ 0 → Alike L o.saved p.saved
  leaves-so v =
      let short = (list-passes L R at piece v).2 in
      let short' : offset_of Q + length piece ≤ most_offset = rw a.offset short in
      let w : verdict (M.rules L Q at piece) ≡ 0 = same-verdict ∙ v in
      let fr = leaves-frontier L R piece out hb a.reached (plain L).cost (feed_rules L R at piece) v short in
      let fq = leaves-frontier L Q piece out hb reached-here M.spends (M.rules L Q at piece) w short' in
      let gr = leaves-offset L R piece out hb a.reached (plain L).cost (feed_rules L R at piece) v short in
      let gq = leaves-offset L Q piece out hb reached-here M.spends (M.rules L Q at piece) w short' in
      record {
        frontier = rw by-automaton (fq ∙ rw a.frontier (sym fr));
        offset = rw by-automaton (gq ∙ rw (a.frontier, a.offset) (sym gr));
        whole = good-feed (plain L) frontier_of (λ F. F) (feed_rules L R at piece) R piece out (plain-cheap L) (λ z. short) hb a.whole;
        good = rw by-automaton (good-feed (costing (plain L) M.spends) frontier_of (λ F. F) (M.rules L Q at piece) Q piece out law.counts (λ z. short') hb a.good);
        reached = rw fr (come L R piece out hb a.reached);
      }
