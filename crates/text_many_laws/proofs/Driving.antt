-- The driver of two texts promises what the callees' promises give. Assumes nothing.
use Prim.Native.Nat.{ℕ, ◌≤◌, ◌<◌}
use mathlib.Core.Path.{◌≡◌, refl, sym, ap, subst, ◌∙◌}
use mathlib.Core.Bool.{Bool, true, false, cond}
use mathlib.Core.List.{List, [], ◌∷◌, ◌++◌}
use mathlib.Core.Logic.{inl, inr, ◌↔◌}
use native.Mathlib.Omega.{arith}
use lib.ListN.{length, take, drop, length-append}
use lib.Dec.{eqb}
use Rattle.rules.specs.Rules.{Rule, verdict}
use Rattle.rules.specs.Words.{InWords}
use Rattle.rules.proofs.Rules.{distinct, verdict-then, stop, last}
use Rattle.rules.proofs.Scanning.{choose}
use Rattle.list.specs.List.{bad_length, bad_record, no_start, list_rules, list_refusal}
use Rattle.feed.specs.Calls.{Bytes}
use Rattle.text_compile.proofs.Exactly.{compile-refused}
use Rattle.list_join.specs.declared.Joined.{Joined}
use Rattle.list_join.specs.Join.{joined, too_big, pair_rules, refusal_of, Joins}
use Rattle.list_join.proofs.Deciding.{pair-other, pair-none, refuses-pair}
use Rattle.list_fold.specs.declared.Folded.{Folded}
use Rattle.list_fold.specs.Fold.{folded, no_room, fold_refusal, FoldAnswers}
use Rattle.text_laws.specs.Flows.{front}
use Rattle.text_laws.specs.Drivers.{Tries}
use Rattle.text_laws.proofs.Flows.{compiled-serves}
use Rattle.text_laws.proofs.Driving.{tried-passes, tried-tells}
use Rattle.list_join_laws.specs.Union.{TellsOf}
use Rattle.list_join_laws.proofs.Both.{joined-unites}
use Rattle.list_join_laws.proofs.Refusals.{join-demand}
use Rattle.list_fold_laws.proofs.Keeping.{fold-demand}
use Rattle.text_many_laws.specs.declared.Gathered.{Gathered}
use Rattle.text_many_laws.specs.declared.Drove.{Drove}
use Rattle.text_many_laws.specs.Many.{Collects, one, both, fewer, SomeEnds}
use Rattle.text_many_laws.specs.Drivers.{Gathers, Whole, FitsOr28, BothServed}
use Rattle.text_many_laws.proofs.Many.{collected-serves}

-- ---- lengths that are answered lie within the lent lists

-- something was written in front of the rest, or nothing
lengths-fit : (b : Bool) (n : ℕ) (xs ys list exit : List ℕ) → n ≡ cond b (length xs) 0 → exit ≡ cond b (xs ++ ys) list → n ≤ length exit
lengths-fit true n xs ys list exit e f = let m = ap length f ∙ length-append xs ys in omega (arith, e, m)
lengths-fit false n xs ys list exit e f = omega (arith, e)

pub joined-fits : (list : List ℕ) (used : ℕ) (B : List ℕ) (r : Joined) (exit : List ℕ) → Joins list used B r exit → r.length ≤ length exit
joined-fits list used B r exit j =
    let J = joined (take used list) B in lengths-fit (eqb (refusal_of list used B) 0) r.length J (drop (length J) list) list exit j.long j.left

pub folded_fits : (L out : List ℕ) (r : Folded) (exit : List ℕ) → FoldAnswers L out r exit → r.length ≤ length exit
folded_fits L out r exit f =
    lengths-fit (eqb (fold_refusal L (length out)) 0) r.length (folded L) (drop (length (folded L)) out) out exit f.long f.left

-- ---- refusals

empty-refused : list_refusal [] ≡ 1
unfolding bad_length
empty-refused = stop 1 ((2, bad_record []) ∷ (3, no_start []) ∷ []) refl

-- where the rules before it pass, the last gives 28 or nothing is refused
end-28 : (rs : List Rule) (b : Bool) → distinct rs ≡ true → verdict rs ≡ 0 → FitsOr28 (verdict (rs ++ ((28, b) ∷ [])))
end-28 rs true d e = inr (verdict-then rs ((28, true) ∷ []) d e ∙ stop 28 [] refl)
end-28 rs false d e = inl (verdict-then rs ((28, false) ∷ []) d e ∙ last 28 refl)

module _ (T : List ℕ) (g : ℕ) (A U : List ℕ) (h : ℕ) (B O : List ℕ) (r : Gathered) (X : List ℕ) (bt : Bytes T) (sg : g < 256) (bu : Bytes U) (sh : h < 256)
    (m : Gathers T g A U h B O r X) where
  abbrev P : List ℕ
  P = take r.first.length m.list

  abbrev Q : List ℕ
  Q = front r.second m.other

  first_good : r.first.refusal ≡ 0 → list_refusal P ≡ 0
  first_good z = let (x, e, s) = compiled-serves T g A r.first m.list bt sg m.first z in s.passes.lists

  second-good : r.second.refusal ≡ 0 → list_refusal Q ≡ 0
  second-good z = let (x, e, s) = compiled-serves U h B r.second m.other bu sh m.second z in s.passes.lists

  -- a text that is refused leaves no list
  second-bad : (r.second.refusal ≡ 0 → ⊥) → list_refusal Q ≡ 0 → ⊥
  second-bad v e =
      let q : Q ≡ [] = ap (λ (n : ℕ). take n m.other) (compile-refused U h B r.second m.other bu m.second v).1 in
      let w : ◌≡◌ {A = ℕ} 1 0 = sym empty-refused ∙ ap (λ (L : List ℕ). list_refusal L) (sym q) ∙ e in omega (arith, w)

  pub good-both : r.first.refusal ≡ 0 → r.second.refusal ≡ 0 → FitsOr28 r.joined.refusal
  good-both z y =
      subst FitsOr28 (sym m.joins.refusal)
      (end-28 (pair_rules P Q) (too_big P r.first.length (length m.list) Q) refl (pair-none P Q (first_good z) (second-good y)))

  pub bad-second : r.first.refusal ≡ 0 → (r.joined.refusal ≡ 27) ↔ (r.second.refusal ≡ 0 → ⊥)
  bad-second z = (
    λ e y. choose (good-both z y) (λ a. omega (arith, a, e)) (λ a. omega (arith, a, e)),
    λ v. let k = pair-other P Q (first_good z) (second-bad v) in
        m.joins.refusal ∙ refuses-pair P r.first.length (length m.list) Q (λ a. omega (arith, a, k)) ∙ k,
  )

  pub good-joined : r.joined.refusal ≡ 0 → FitsOr28 r.folded.refusal
  good-joined z =
      let L = take r.joined.length m.whole in
      subst FitsOr28 (sym m.folds.refusal)
      (end-28 (list_rules L) (no_room L (length O)) refl (joined-unites m.list r.first.length Q r.joined m.whole m.joins z).passes)

  -- the two texts are collected
  pub gathered : Whole r → Collects ((T, g) ∷ (U, h) ∷ []) (take r.folded.length X)
  gathered w =
      fewer ((T, g) ∷ (U, h) ∷ []) (take r.joined.length m.whole) O r.folded X
      (both ((T, g) ∷ []) ((U, h) ∷ []) m.list r.first.length Q r.joined m.whole
      (one T g A r.first m.list bt sg m.first w.0.0) (one U h B r.second m.other bu sh m.second w.0.1) m.joins w.1.0)
      m.folds w.1.1

-- ---- the driver

pub both-served : (T : List ℕ) (g : ℕ) (A U : List ℕ) (h : ℕ) (B O R out piece more : List ℕ) (r : Drove) (X ws vs : List ℕ) → Bytes T → g < 256 → Bytes U → h < 256 → Bytes piece
    → Gathers T g A U h B O r.gathered X → Tries (take r.gathered.folded.length X) R out piece more r.served ws vs → BothServed T g A U h B O piece r X ws vs
both-served T g A U h B O R out piece more r X ws vs bt sg bu sh bp m t =
    let L = take r.gathered.folded.length X in
    record {
      made = m;
      joins = subst (InWords _) (sym m.joins.refusal) (join-demand.said m.list r.gathered.first.length (front r.gathered.second m.other));
      folds = subst (InWords _) (sym m.folds.refusal) (fold-demand.said (take r.gathered.joined.length m.whole) (length O));
      bad-second = bad-second T g A U h B O r.gathered X bt sg bu sh m;
      good-both = good-both T g A U h B O r.gathered X bt sg bu sh m;
      good-joined = good-joined T g A U h B O r.gathered X bt sg bu sh m;
      passes = λ w. let (xs, e, s) = collected-serves _ L (gathered T g A U h B O r.gathered X bt sg bu sh m w) in tried-passes L R out piece more r.served ws vs t s.passes;
      tells = λ w z. let (xs, e, s) = collected-serves _ L (gathered T g A U h B O r.gathered X bt sg bu sh m w) in
          (xs, e, tried-tells L R out piece more r.served ws vs t (TellsOf (SomeEnds xs)) s.tells bp z);
    }
