-- What a feed of a list's flow knows that no rule refuses. Assumes nothing.
use Prim.Native.Nat.{ℕ, ◌+◌, ◌≤◌}
use mathlib.Core.Path.{◌≡◌, refl, sym, ◌∙◌}
use mathlib.Core.Bool.{Bool, true, false, ◌||◌, not}
use mathlib.Core.List.{List, [], ◌∷◌, ◌++◌}
use native.Mathlib.Decide.{ℕ_discrete}
use lib.ListN.{length}
use borrow.Author.Tests.{ne_eqb, not-false}
use Rattle.rules.specs.Rules.{verdict}
use Rattle.rules.proofs.Rules.{stop, passes, passes-front, verdict-then, verdict-refused}
use Rattle.rules.proofs.Scanning.{neither}
use Rattle.sets.specs.Set.{within}
use Rattle.list.specs.List.{list_rules}
use Rattle.list.specs.Automaton.{named}
use Rattle.feed.specs.Engine.{most_offset}
use Rattle.feed.specs.Piece.{piece_rules}
use Rattle.feed.proofs.Piece.{piece-passes}
use Rattle.list_flow.specs.Flow.{flow_size, frontier_of, offset_of, bad_flow, flow_rules, feed_rules}

-- what a feed knows that no rule of its flow refuses
pub flow-passes : (known : Bool) (R : List ℕ) (at : ℕ) (piece : List ℕ) → verdict (flow_rules known R at piece) ≡ 0
    → (bad_flow R ≡ false) × (at ≡ offset_of R) × (offset_of R + length piece ≤ most_offset) × (known ≡ true)
flow-passes known R at piece v =
    let a = passes 3 (bad_flow R || not known) (piece_rules (offset_of R) at piece) v in
    let p = piece-passes (offset_of R) at piece a.1 in
    let g = neither (bad_flow R) (not known) a.0 in
    (g.0, p.0, p.1, not-false known g.1)

pub feed-passes : (L R : List ℕ) (at : ℕ) (piece : List ℕ) → verdict (feed_rules L R at piece) ≡ 0
    → (bad_flow R ≡ false) × (at ≡ offset_of R) × (offset_of R + length piece ≤ most_offset) × (within (frontier_of R) (named L) ≡ true)
feed-passes L R at piece v =
    let k = within (frontier_of R) (named L) in
    flow-passes k R at piece (sym (verdict-then (list_rules L) (flow_rules k R at piece) refl (passes-front (list_rules L) (flow_rules k R at piece) v)) ∙ v)

-- a feed on what has not the size of a record is refused by the list, or else with 4
pub sizeless : (L R : List ℕ) (at : ℕ) (piece : List ℕ) → (length R ≡ flow_size → ⊥) → verdict (list_rules L ++ ((4, true) ∷ [])) ≡ verdict (feed_rules L R at piece)
unfolding bad_flow
sizeless L R at piece n =
    let fed = flow_rules (within (frontier_of R) (named L)) R at piece in
    elim (ℕ_discrete (verdict (list_rules L)) 0) [
      | yes v ↦ verdict-then (list_rules L) ((4, true) ∷ []) refl v ∙ stop 4 [] refl ∙ sym (verdict-then (list_rules L) fed refl v ∙ stop 4 _ (rw (ne_eqb (length R) flow_size n)))
      | no w ↦ verdict-refused (list_rules L) ((4, true) ∷ []) w ∙ sym (verdict-refused (list_rules L) fed w)
    ]
