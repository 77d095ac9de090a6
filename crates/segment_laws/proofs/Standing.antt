-- The split that a segment by a right index answers is the one where the flow then stands. Assumes nothing.
use Prim.Native.Nat.{ℕ, zero, suc, ◌+◌, ◌*◌, ◌/◌, ◌^◌, ◌<◌}
use mathlib.Core.Path.{◌≡◌, refl, sym, ◌∙◌}
use mathlib.Core.Bool.{Bool, true, false, cond, true≢false}
use mathlib.Core.List.{List, ◌++◌}
use mathlib.Core.Logic.{◌⊎◌, inl, ⊎_elim}
use native.Mathlib.Omega.{arith}
use native.Mathlib.Decide.{ℕ_discrete}
use lib.ListN.{length, drop}
use lib.Dec.{lit<, eqb}
use borrow.Author.Tests.{eqb-true, eqb-false}
use Rattle.numbers.specs.Number.{digits}
use Rattle.sets.specs.Set.{set_bytes}
use Rattle.rules.specs.Rules.{verdict}
use Rattle.rules.proofs.Rules.{verdict-lt}
use Rattle.feed.specs.Engine.{ended}
use Rattle.feed.specs.Calls.{Bytes, Way}
use Rattle.feed.proofs.Runs.{bytes-append}
use Rattle.feed.proofs.Whole.{by-feed}
use Rattle.feed.proofs.Feeds.{each-feed}
use Rattle.list_flow.specs.Flow.{offset_of, flow_bytes}
use Rattle.index.specs.Stand.{indexed, stand_layout, stand_rules, stand_feed, stood_at}
use Rattle.index.specs.Right.{Right}
use Rattle.laws.proofs.Demand1.{demand-prepared}
use Rattle.segment_feed.specs.Segment.{Sent, Kept, Look, next_of, take_of, due_of, look, behind, more, looked, most_looks, door_rules, at_door, feed_segment}
use Rattle.segment_feed.proofs.Looking.{look-idle, look-busy, more-on, more-off}
use Rattle.segment_feed.proofs.Streams.{due-bytes, taking-bytes}
use Rattle.segment_index.specs.Standing.{stand_way, stood_more, stood_after}
use Rattle.segment_index.proofs.Standing.{stood-off}
use Rattle.segment_laws.specs.Streams.{StandsFor, Fair, SplitsAnswered}

-- ---- a record that is written is bytes

digit-bytes : (m n : ℕ) → Bytes (digits 8 m n)
unfolding digits
digit-bytes zero n i = lit< tt
digit-bytes (suc m) n zero = omega arith
digit-bytes (suc m) n (suc i) = digit-bytes m (n / 2 ^ 8) i

flow-bytes : (F k n : ℕ) → Bytes (flow_bytes F k n)
unfolding flow_bytes
flow-bytes F k n =
    bytes-append (set_bytes F) (digits 8 4 k ++ (digits 8 4 0 ++ digits 8 8 n)) (digit-bytes 128 F)
    (bytes-append (digits 8 4 k) (digits 8 4 0 ++ digits 8 8 n) (digit-bytes 4 k) (bytes-append (digits 8 4 0) (digits 8 8 n) (digit-bytes 4 0) (digit-bytes 8 n)))

module _ (L S X : List ℕ) (r : Right L S X) (h : ℕ) (g : Sent) (sb : Bytes g.bytes) where
  abbrev W : Way
  W = stand_way S X h

  -- what holds after each look, where n is the split so far
  record Stays (l : Look) (n : ℕ) : Type 0 where
    flow : Bytes l.heard.kept.flow
    held : Bytes l.heard.kept.held
    passed : l.on ≡ true → l.heard.refusal ≡ 0
    stands : Fair l.heard.refusal → StandsFor S l.heard.kept.flow n

  -- ---- one look, on what is kept

  module _ (K : Kept) (out : List ℕ) (n : ℕ) (hf : Bytes K.flow) (hh : Bytes K.held) (st : StandsFor S K.flow n) where
    abbrev d : List ℕ
    d = due_of W g K

    abbrev at : ℕ
    at = offset_of K.flow

    taken-bytes : Bytes (take_of W g K).bytes
    taken-bytes = taking-bytes (next_of W g K) K.held K.start K.length g.start g.bytes hh sb

    piece_bytes : Bytes (due_of W g K)
    piece_bytes = due-bytes (next_of W g K) (take_of W g K).bytes (take_of W g K).start (take_of W g K).length g.start g.bytes taken-bytes sb

    saved-bytes : Bytes (stand_feed S X h K.flow at d out).saved
    unfolding ended
    saved-bytes =
        by-feed (stand_rules S X h K.flow at d) (indexed S X) (stand_layout S X h) K.flow d out (λ o. Bytes o.saved) (λ v m. flow-bytes _ _ _) (λ v. hf)

    -- a feed that answers 0, 14 or 18 is refused by no rule
    passes : Fair (stand_feed S X h K.flow at d out).refusal → verdict (stand_rules S X h K.flow at d) ≡ 0
    passes f =
        elim (ℕ_discrete (verdict (stand_rules S X h K.flow at d)) 0) [
          | yes v ↦ v
          | no z ↦
              let e = ((each-feed W K.flow at d out).refused z).0 in
              let few = verdict-lt 14 (stand_rules S X h K.flow at d) (lit< tt) refl in
              absurd (⊎_elim (λ y. z (sym e ∙ y)) (λ y. ⊎_elim (λ q. omega (arith, q, e, few)) (λ q. omega (arith, q, e, few)) y) f)
        ]

    stays-look : Stays (look W g K out) (cond (eqb (length (due_of W g K)) 0) n (stood_at S X h K.flow (offset_of K.flow) (due_of W g K) out))
    stays-look = go (eqb (length d) 0) refl
      where
        go : (t : Bool) → eqb (length (due_of W g K)) 0 ≡ t → Stays (look W g K out) (cond t n (stood_at S X h K.flow (offset_of K.flow) (due_of W g K) out))
        go true e = rw (look-idle W g K out (eqb-true (length d) 0 e)) (record { flow = hf; held = taken-bytes; passed = λ y. absurd (true≢false (sym y)); stands = λ f. st })
        go false e =
            rw (look-busy W g K out (eqb-false (length d) 0 e))
            (record {
              flow = saved-bytes;
              held = taken-bytes;
              passed = λ y. ((each-feed W K.flow at d out).all.0 y).0;
              stands = λ f. demand-prepared.stands-said L S X r h K.flow at d out hf piece_bytes (passes f);
            })

  -- ---- looks, one after the other

  stays-off : (l : Look) (n : ℕ) → l.on ≡ false → Stays l n → Stays (more W g l) (stood_more S X h g l n)
  stays-off l n e s = rw (more-off W g l e, stood-off S X h g l n e) s

  stays-more : (l : Look) (n : ℕ) → Stays l n → Stays (more W g l) (stood_more S X h g l n)
  unfolding behind stood_more
  stays-more l n s = go l.on refl
    where
      go : (t : Bool) → l.on ≡ t → Stays (more W g l) (stood_more S X h g l n)
      go true e =
          let k = stays-look l.heard.kept (drop (2 * l.heard.pairs) l.heard.words) n s.flow s.held (s.stands (inl (s.passed e))) in
          rw (more-on W g l e, e) (record { flow = k.flow; held = k.held; passed = k.passed; stands = k.stands })
      go false e = stays-off l n e s

  stays_after : (k : ℕ) (l : Look) → Stays l h → Stays (looked k W g l) (stood_after k S X h g l)
  unfolding looked stood_after
  stays_after zero l s = s
  stays_after (suc k) l s = stays-more (looked k W g l) (stood_after k S X h g l) (stays_after k l s)

pub splits-answered : SplitsAnswered
unfolding feed_segment
splits-answered L S X r h g sb K out hh hf st f =
    (stays_after L S X r h g sb most_looks (at_door (stand_way S X h) g K out)
    (record { flow = hf; held = hh; passed = λ e. eqb-true (verdict (door_rules (stand_way S X h) g K)) 0 e; stands = λ q. st })).stands f
