-- What holds of every feed, by any way. Assumes nothing.
use Prim.Native.Nat.{ℕ}
use mathlib.Core.Path.{◌≡◌, refl, sym}
use mathlib.Core.Bool.{Bool, true, ◌&&◌, cond, true≢false}
use mathlib.Core.List.{List}
use mathlib.Core.Logic.{◌↔◌}
use native.Mathlib.Omega.{arith}
use native.Mathlib.Decide.{ℕ_discrete}
use lib.ListN.{length, take}
use lib.Dec.{ltb, eqb}
use borrow.Author.Tests.{eq-eqb, eqb-true, le-ltb}
use Rattle.rules.specs.Rules.{Rule, verdict}
use Rattle.feed.specs.Engine.{Engine, Layout, room, ended, feed}
use Rattle.feed.specs.Demands.{Unchanged, Longest, EachFeed}
use Rattle.feed.proofs.Runs.{consumed-most, consumed-fits, consumed-longest}
use Rattle.feed.proofs.Going.{unfed}
use Rattle.feed.proofs.Halts.{by-rule, first-free, by-none, by-halt, kept}
use Rattle.feed.proofs.Moves.{feed-ends, feed-bytes, feed-fits, feed-rest, feed-length, feed-refused, feed-moves}

end-all : (n len : ℕ) (h : Bool) → (eqb n len ≡ true) ↔ ((◌≡◌ {A = ℕ} (cond (ltb n len && h) 14 0) 0) × (n ≡ len))
end-all n len h =
    (λ e. let q = eqb-true n len e in (rw (le-ltb n len (omega (arith, q))), q), λ w. eq-eqb n len w.1)

module _ {C : Type 0} (E : Engine C) (K : Layout C) (R : List ℕ) (rules : List Rule) (piece out : List ℕ) where
  -- a feed that a rule refuses changes nothing
  pub refused-unchanged : (verdict rules ≡ 0 → ⊥) → Unchanged R out (feed rules E K R piece out)
  refused-unchanged v =
      rw (unfed E K R piece out rules v) refl

  pub feed-longest : verdict rules ≡ 0 → Longest E (K.config R) (room out) piece (feed rules E K R piece out).bytes
  feed-longest v =
      rw (feed-bytes E K R rules piece out v)
      (record {
        front = consumed-most E (K.config R) (room out) piece;
        fits = consumed-fits E (K.config R) (room out) piece;
        longest = consumed-longest E (K.config R) (room out) piece;
      })

  pub feed-says-all : ((feed rules E K R piece out).all ≡ true) ↔ (((feed rules E K R piece out).refusal ≡ 0) × ((feed rules E K R piece out).bytes ≡ length piece))
  unfolding ended
  feed-says-all =
      elim (ℕ_discrete (verdict rules) 0) [
        | yes v ↦ rw (feed-ends E K R rules piece out v) (end-all _ (length piece) _)
        | no v ↦ rw (unfed E K R piece out rules v) (λ e. absurd (true≢false (sym e)), λ e. absurd (v e.0))
      ]

pub each-feed : EachFeed
each-feed W R at piece out =
    let rules = W.rules R at piece in
    let E = W.engine in
    let K = W.layout in
    record {
      refused = λ v. (feed-refused E K R rules piece out v, refused-unchanged E K R rules piece out v);
      ruled = by-rule E K R rules piece out;
      longest = feed-longest E K R rules piece out;
      goes = first-free E K R rules piece out;
      passes = by-none E K R rules piece out;
      halts = by-halt E K R rules piece out;
      kept = kept E K R rules (W.rules R at (take (feed rules E K R piece out).bytes piece)) piece out;
      all = feed-says-all E K R rules piece out;
      words-stay = feed-rest E K R rules piece out;
      words-many = feed-length E K R rules piece out;
      pairs-fit = omega (arith, feed-fits E K R rules piece out);
      moves = feed-moves E K R rules piece out;
    }
