-- Which rule refuses a question: those of a feed, then 25, then 26. Assumes nothing.
use Prim.Native.Nat.{ℕ, suc, ◌+◌, ◌-◌, ◌*◌, ◌≤◌, ◌<◌}
use mathlib.Core.Path.{◌≡◌, refl, sym, ◌∙◌}
use mathlib.Core.Bool.{Bool, ◌||◌}
use mathlib.Core.List.{List, [], ◌∷◌}
use native.Mathlib.Omega.{arith}
use lib.ListN.{length}
use lib.Dec.{ltb}
use borrow.Author.Tests.{ltb-false, lt-ltb, le-ltb}
use Rattle.sets.specs.Set.{set_size, within}
use Rattle.rules.specs.Rules.{verdict}
use Rattle.rules.proofs.Rules.{stop, last, passes, passes-front, verdict-then, verdict-refused}
use Rattle.rules.proofs.Scanning.{neither, or-true}
use Rattle.list.specs.List.{list_rules, list_refusal}
use Rattle.list.specs.Automaton.{named}
use Rattle.feed.specs.Engine.{most_offset}
use Rattle.list_flow.specs.Flow.{flow_size, frontier_of, offset_of, flow_rules, feed_rules}
use Rattle.list_flow.proofs.Records.{good-flow}
use Rattle.list_flow.proofs.Passing.{feed-passes}
use Rattle.list_why.specs.Reason.{outside, too_short, place_rules}

module _ (L R : List ℕ) (at : ℕ) (piece : List ℕ) (k : ℕ) (out work : List ℕ) where
  -- 25 by itself
  abbrev bad : Bool
  bad = outside R piece k || too_short (k - offset_of R) out work

  pub place-refused : (verdict (feed_rules L R at piece) ≡ 0 → ⊥) → verdict (place_rules L R at piece k out work) ≡ verdict (feed_rules L R at piece)
  place-refused r = verdict-refused (feed_rules L R at piece) ((25, bad) ∷ []) r

  module _ (v : verdict (feed_rules L R at piece) ≡ 0) where
    past : verdict (place_rules L R at piece k out work) ≡ verdict ((25, bad) ∷ [])
    past = verdict-then (feed_rules L R at piece) ((25, bad) ∷ []) refl v

    pub start_is : at ≡ offset_of R
    start_is = (feed-passes L R at piece v).1

    pub ends-below : at + length piece ≤ most_offset
    ends-below = let p = feed-passes L R at piece v in omega (arith, p.1, p.2)

    -- each way to be refused with 25
    pub before-start : k < at → verdict (place_rules L R at piece k out work) ≡ 25
    before-start h = past ∙ stop 25 [] (rw (lt-ltb k (offset_of R) (omega (arith, start_is))))

    pub behind-end : at + length piece < k → verdict (place_rules L R at piece k out work) ≡ 25
    behind-end h = past ∙ stop 25 [] (rw (lt-ltb (offset_of R + length piece) k (omega (arith, start_is)), or-true (ltb k (offset_of R))))

    pub short-states : length out < suc (k - at) → verdict (place_rules L R at piece k out work) ≡ 25
    short-states h = past ∙ stop 25 [] (rw (lt-ltb (length out) (suc (k - offset_of R)) (omega (arith, start_is)), or-true (outside R piece k)))

    pub short-work : length work < set_size * suc (k - at) → verdict (place_rules L R at piece k out work) ≡ 25
    short-work h =
        past ∙ stop 25 [] (rw (lt-ltb (length work) (set_size * suc (k - offset_of R)) (rw (sym start_is) h), or-true (ltb (length out) (suc (k - offset_of R))), or-true (outside R piece k)))

    -- and that nothing is
    pub place-good : at ≤ k → k ≤ at + length piece → suc (k - at) ≤ length out → set_size * suc (k - at) ≤ length work → verdict (place_rules L R at piece k out work) ≡ 0
    place-good a b c d =
        past ∙ last 25
        (rw (
          le-ltb k (offset_of R) (omega (arith, start_is)),
          le-ltb (offset_of R + length piece) k (omega (arith, start_is)),
          le-ltb (length out) (suc (k - offset_of R)) (omega (arith, start_is)),
          le-ltb (length work) (set_size * suc (k - offset_of R)) (rw (sym start_is) d),
        ))

-- ---- what is known where none of these refuses

pub record Knows (L R : List ℕ) (at : ℕ) (piece : List ℕ) (k : ℕ) (out work : List ℕ) : Type 0 where
  pub passed : verdict (place_rules L R at piece k out work) ≡ 0
  pub listed : list_refusal L ≡ 0
  pub flow-long : length R ≡ flow_size
  pub start : at ≡ offset_of R
  pub behind : at ≤ k
  pub before : k ≤ at + length piece
  pub states-fit : suc (k - at) ≤ length out
  pub work-fits : set_size * suc (k - at) ≤ length work

pub knows : (L R : List ℕ) (at : ℕ) (piece : List ℕ) (k : ℕ) (out work : List ℕ) → verdict (place_rules L R at piece k out work) ≡ 0 → Knows L R at piece k out work
knows L R at piece k out work v =
    let f = passes-front (feed_rules L R at piece) ((25, outside R piece k || too_short (k - offset_of R) out work) ∷ []) v in
    let s = start_is L R at piece k out work f in
    let b = (passes 24 (outside R piece k || too_short (k - offset_of R) out work) [] (sym (past L R at piece k out work f) ∙ v)).0 in
    let x = neither (outside R piece k) (too_short (k - offset_of R) out work) b in
    let y = neither (ltb k (offset_of R)) (ltb (offset_of R + length piece) k) x.0 in
    let z = neither (ltb (length out) (suc (k - offset_of R))) (ltb (length work) (set_size * suc (k - offset_of R))) x.1 in
    record {
      passed = v;
      listed = passes-front (list_rules L) (flow_rules (within (frontier_of R) (named L)) R at piece) f;
      flow-long = (good-flow R (feed-passes L R at piece f).0).0;
      start = s;
      behind = rw s (ltb-false k (offset_of R) y.0);
      before = rw s (ltb-false (offset_of R + length piece) k y.1);
      states-fit = rw s (ltb-false (length out) (suc (k - offset_of R)) z.0);
      work-fits = rw s (ltb-false (length work) (set_size * suc (k - offset_of R)) z.1);
    }
