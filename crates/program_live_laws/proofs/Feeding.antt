-- A feed by the list is not refused, of a record that rule 4 takes and of as many bytes as the largest offset leaves. Assumes nothing.
use Prim.Native.Nat.{ℕ, ◌+◌, ◌≤◌}
use mathlib.Core.Path.{◌≡◌, refl, ◌∙◌}
use mathlib.Core.List.{List}
use lib.ListN.{length}
use borrow.Author.Tests.{eq-eqb, le-ltb}
use Rattle.sets.specs.Set.{within}
use Rattle.rules.specs.Rules.{verdict}
use Rattle.rules.proofs.Rules.{skip, last, verdict-then}
use Rattle.list.specs.List.{list_rules}
use Rattle.list.specs.Automaton.{named}
use Rattle.feed.specs.Engine.{most_offset}
use Rattle.feed.proofs.Feeds.{each-feed}
use Rattle.list_flow.specs.Flow.{frontier_of, offset_of, flow_rules, feed_rules}
use Rattle.list_feed.specs.Plain.{plain_feed}
use Rattle.segment_feed.specs.Ways.{plain_way}
use Rattle.laws.specs.Demands.{Fit}

module _ (L : List ℕ) (z : verdict (list_rules L) ≡ 0) (R : List ℕ) (fit : Fit L R) (rest : List ℕ) (room : offset_of R + length rest ≤ most_offset) where
  pub rules-pass : verdict (feed_rules L R (offset_of R) rest) ≡ 0
  rules-pass =
      verdict-then (list_rules L) (flow_rules (within (frontier_of R) (named L)) R (offset_of R) rest) refl z
      ∙ skip 4 _ (rw (fit.0, fit.1))
      ∙ skip 5 _ (rw (eq-eqb (offset_of R) (offset_of R) refl))
      ∙ last 6 (le-ltb most_offset (offset_of R + length rest) room)

  pub feed-taken : (out : List ℕ) → (plain_feed L R (offset_of R) rest out).refusal ≡ 0
  feed-taken out = (each-feed (plain_way L) R (offset_of R) rest out).passes.1 (rules-pass, λ y. refl)
