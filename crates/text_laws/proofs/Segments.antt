-- A segment is refused with 1 to 3 only where a feed of some bytes is: what a look answers is 0, 18 or the feed's. Assumes nothing.
use Prim.Native.Nat.{ℕ, zero, suc, ◌*◌}
use mathlib.Core.Path.{◌≡◌, refl, ap, subst}
use mathlib.Core.Bool.{Bool, true, false, ◌&&◌, ◌||◌, cond}
use mathlib.Core.List.{List, [], ◌∷◌, ◌++◌}
use mathlib.Core.Logic.{inl, inr}
use native.Mathlib.Omega.{arith}
use native.Mathlib.Decide.{ℕ_discrete}
use lib.ListN.{length, drop}
use Rattle.rules.specs.Rules.{Rule, verdict}
use Rattle.feed.specs.Engine.{Outcome}
use Rattle.feed.specs.Calls.{Way, fed_by}
use Rattle.feed.proofs.Going.{unfed}
use Rattle.segment.specs.Resend.{Held, taking, bad_sizes, early, full, all_before}
use Rattle.segment_feed.specs.Segment.{Sent, Kept, Look, next_of, take_of, due_of, look, looked, behind, most_looks, at_door, feed_segment}
use Rattle.segment_feed.proofs.Looking.{by-look, by-more}
use Rattle.text_laws.specs.Flows.{Past}

-- of two answers that are past 1 to 3 either is
past-held : (x y : Bool) (a b c : Held) → a.refusal ≡ 18 → b.refusal ≡ 0 → c.refusal ≡ 0 → Past (cond x a (cond y b c)).refusal
past-held true y a b c p q r = inr (omega (arith, p))
past-held false true a b c p q r = inl q
past-held false false a b c p q r = inl r

take_past : (next : ℕ) (held : List ℕ) (p n q : ℕ) (seg : List ℕ) → Past (taking next held p n q seg).refusal
unfolding taking
take_past next held p n q seg =
    let s = length seg in
    past-held (bad_sizes (length held) n s || (early next q s && full next p n s)) (early next q s)
    (record { refusal = 18; start = p; length = n; bytes = held })
    (record { refusal = 0; start = q; length = s; bytes = seg ++ drop s held })
    (record { refusal = 0; start = p; length = cond (all_before next p n) 0 n; bytes = held })
    refl refl refl

past-door : (b : Bool) (rs : List Rule) → Past (verdict rs) → Past (verdict ((18, b) ∷ rs))
unfolding verdict
past-door true rs p = inr (omega arith)
past-door false rs p = p

module _ (W : Way) (fed : (R d out : List ℕ) → Past (fed_by W R (W.layout.offset R) d out).refusal) where
  taken : (g : Sent) (S : Kept) → Past (take_of W g S).refusal
  taken g S = take_past (next_of W g S) S.held S.start S.length g.start g.bytes

  seen : (g : Sent) (S : Kept) (out : List ℕ) → Past (look W g S out).heard.refusal
  seen g S out = by-look W g S out (λ l. Past l.heard.refusal) (λ e. taken g S) (λ e. fed S.flow (due_of W g S) out)

  all_seen : (k : ℕ) (g : Sent) (l : Look) → Past l.heard.refusal → Past (looked k W g l).heard.refusal
  unfolding looked behind
  all_seen zero g l p = p
  all_seen (suc k) g l p =
      let m = looked k W g l in
      by-more W g (looked k W g l) (λ m. Past m.heard.refusal) (λ e. seen g m.heard.kept (drop (2 * m.heard.pairs) m.heard.words)) (λ e. all_seen k g l p)

  -- the rules themselves, at no bytes
  ruled : (R : List ℕ) → Past (verdict (W.rules R (W.layout.offset R) []))
  ruled R = elim (ℕ_discrete (verdict (W.rules R (W.layout.offset R) [])) 0) [
    | yes e ↦ inl e
    | no e ↦ subst Past (ap (λ (o : Outcome). o.refusal) (unfed W.engine W.layout R [] [] (W.rules R (W.layout.offset R) []) e)) (fed R [] [])
  ]

  pub segment-past : (g : Sent) (S : Kept) (out : List ℕ) → Past (feed_segment W g S out).refusal
  unfolding feed_segment
  segment-past g S out =
      all_seen most_looks g (at_door W g S out)
      (past-door (bad_sizes (length S.held) S.length (length g.bytes)) (W.rules S.flow (W.layout.offset S.flow) []) (ruled S.flow))
