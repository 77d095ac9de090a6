-- Joining's refusals in words, and what a call leaves. Assumes nothing.
use Prim.Native.Nat.{ℕ, ◌+◌, ◌≤◌, ◌<◌}
use mathlib.Core.Path.{◌≡◌, refl, sym, ap, ◌∙◌}
use mathlib.Core.Bool.{Bool, true, false, ◌||◌, not}
use mathlib.Core.List.{List, [], ◌∷◌, ◌++◌}
use mathlib.Core.Logic.{◌⊎◌, inl, inr, ◌↔◌}
use native.Mathlib.Omega.{arith}
use lib.ListN.{length, take, drop}
use lib.Dec.{eqb, ltb, leb}
use lib.Seq.{take-append_seam, drop-append_seam}
use borrow.Author.Tests.{eqb-true, eq-eqb, ne_eqb, leb-true, le-leb}
use Rattle.sets.specs.Set.{states, holds}
use Rattle.rules.specs.Scan.{every, rising}
use Rattle.rules.proofs.Rules.{refuses, rises}
use Rattle.rules.proofs.Scanning.{both, choose, every-at, every-all, either-words, differ-words, over-words}
use native.Mathlib.Decide.{dec_lt}
use Rattle.list.proofs.Steps.{good-at}
use Rattle.list.specs.List.{most_records, records, byte_of, is_edge, is_start, from, target, list_rules, list_refusal}
use Rattle.list.specs.Automaton.{named, highest}
use Rattle.list.proofs.Named.{Names, named-exactly}
use Rattle.list.proofs.Listed.{kinds, whole-records}
use Rattle.list.proofs.Highest.{highest-state}
use Rattle.rules.proofs.Saying.{Says, says-append, tells}
use Rattle.laws.specs.Words.{list_words}
use Rattle.laws.proofs.Saying.{list-says}
use Rattle.list_join.specs.declared.Joined.{Joined}
use Rattle.list_join.specs.inner.Found.{fits}
use Rattle.list_join.specs.Join.{is_shared, own_state, same_state, naming, renamed, spare, kept, joined, too_big, other_refused, front, join_rules, refusal_of, Joins}
use Rattle.list_join.proofs.Renames.{renamed-own, spare-is}
use Rattle.list_join.proofs.Fields.{joined_length}
use Rattle.list_join.proofs.Union.{sharing, edge-B, start-B, accept-B, edge-names, start-names, accept-names}
use Rattle.list_join.proofs.Fitting.{joined-passes, fits-exactly, start-from}
use Rattle.list_join_laws.specs.Refusals.{join_words, JoinDemand}

-- ---- the rows

module _ (A : List ℕ) (used lent : ℕ) (B : List ℕ) where
  big-words : too_big A used lent B ≡ true ↔ (((lent < used) ⊎ (lent < length (joined A B))) ⊎ (list_refusal (joined A B) ≡ 0 → ⊥))
  unfolding too_big
  big-words =
      either-words ((lent < used) ⊎ (lent < length (joined A B))) (list_refusal (joined A B) ≡ 0 → ⊥) (ltb lent used || ltb lent (length (joined A B))) (not (eqb (list_refusal (joined A B)) 0))
      (either-words (lent < used) (lent < length (joined A B)) (ltb lent used) (ltb lent (length (joined A B))) (over-words lent used) (over-words lent (length (joined A B))))
      (differ-words (list_refusal (joined A B)) 0)

  says : Says (join_rules A used lent B) (join_words A used lent B)
  says = says-append (list_rules A) ((27, other_refused B) ∷ (28, too_big A used lent B) ∷ []) (list_words A) ((27, list_refusal B ≡ 0 → ⊥) ∷ (28, ((lent < used) ⊎ (lent < length (joined A B))) ⊎ (list_refusal (joined A B) ≡ 0 → ⊥)) ∷ []) (list-says A) (refl, differ-words (list_refusal B) 0, (refl, big-words, tt))

-- ---- the limits

module _ (A B : List ℕ) (a : list_refusal A ≡ 0) (b : list_refusal B ≡ 0) where
  -- a record that is left out names the shared state alone, which keeps a number of A's
  named-kept : (s : ℕ) → states ≤ renamed (naming A B) s → (i : ℕ) → Names B i s → spare (naming A B) B i ≡ true → ⊥
  named-kept s l i n e =
      choose z.2
      (λ k. choose n (λ x. clash 1 2 (eqb-true _ _ x.0) (eqb-true _ _ k) (omega arith)) (λ o. choose o (λ x. own (sym x.1 ∙ z.1)) (λ x. clash 3 2 (eqb-true _ _ x.0) (eqb-true _ _ k) (omega arith))))
      (λ k.
      choose n
      (λ x. choose x.1 (λ q. own (sym q ∙ k.1)) (λ q. own (sym q ∙ z.1)))
      (λ o. choose o (λ x. clash 2 1 (eqb-true _ _ x.0) (eqb-true _ _ k.0) (omega arith)) (λ x. clash 3 1 (eqb-true _ _ x.0) (eqb-true _ _ k.0) (omega arith))))
    where
      z : (is_shared (naming A B) ≡ true) × (target B i ≡ (own_state (naming A B))) × ((is_start B i ≡ true) ⊎ ((is_edge B i ≡ true) × (from B i ≡ (own_state (naming A B)))))
      z = spare-is (naming A B) B i e

      clash : (x y : ℕ) → byte_of B i 0 ≡ x → byte_of B i 0 ≡ y → (x ≡ y → ⊥) → ⊥
      clash x y p q n = n (sym p ∙ q)

      own : s ≡ own_state (naming A B) → ⊥
      own q =
          let y : renamed (naming A B) s ≡ (same_state (naming A B)) = ap (renamed (naming A B)) q ∙ renamed-own (naming A B) z.0 in
          let h : same_state (naming A B) ≤ highest A = (sharing A B a b z.0).lowish in
          omega (arith, l, y, h, highest-state A a)

  limits : (list_refusal (joined A B) ≡ 0) ↔ ((records A + kept (naming A B) B (records B) ≤ most_records) × ((s : ℕ) → holds (named B) s ≡ true → renamed (naming A B) s < states))
  limits = (there, back)
    where
      there : list_refusal (joined A B) ≡ 0 → (records A + kept (naming A B) B (records B) ≤ most_records) × ((s : ℕ) → holds (named B) s ≡ true → renamed (naming A B) s < states)
      there e =
          let t = both (every (records B) (fits (naming A B) B)) (leb (records A + kept (naming A B) B (records B)) most_records) (sym (joined-passes A B a b) ∙ eq-eqb _ _ e) in
          (leb-true _ _ t.1, λ s h. elim (dec_lt (renamed (naming A B) s) states) [ yes l ↦ l | no g ↦ absurd (over s t.0 ((named-exactly B s).0 h).1 (omega arith)) ])
        where
          over : (s : ℕ) → every (records B) (fits (naming A B) B) ≡ true → (i : ℕ) × (i < records B) × Names B i s → states ≤ renamed (naming A B) s → ⊥
          over s f w l = go (spare (naming A B) B w.0) refl
            where
              go : (d : Bool) → spare (naming A B) B w.0 ≡ d → ⊥
              go true q = named-kept s l w.0 w.2 q
              go false q =
                  let v = (fits-exactly A B a b w.0).0 (every-at (records B) (fits (naming A B) B) f w.0 w.1) q in
                  choose w.2
                  (λ k. let n = edge-names A B a b w.0 k.0 in choose k.1 (λ p. omega (arith, v.0, n.0, ap (renamed (naming A B)) p, l)) (λ p. omega (arith, v.1, n.1, ap (renamed (naming A B)) p, l)))
                  (λ o.
                  choose o
                  (λ k. omega (arith, v.1, start-names A B a b w.0 k.0, ap (renamed (naming A B)) k.1, l))
                  (λ k. omega (arith, v.0, (accept-names A B a b w.0 k.0).0, ap (renamed (naming A B)) k.1, l)))

      back : (records A + kept (naming A B) B (records B) ≤ most_records) × ((s : ℕ) → holds (named B) s ≡ true → renamed (naming A B) s < states) → list_refusal (joined A B) ≡ 0
      back w = eqb-true _ _ (joined-passes A B a b ∙ rw (every-all (records B) (fits (naming A B) B) one, le-leb _ _ w.0))
        where
          one : (i : ℕ) → i < records B → fits (naming A B) B i ≡ true
          one i h =
              (fits-exactly A B a b i).1
              (λ _.
              choose (kinds B i (good-at B b i h))
              (λ k.
              let n = edge-names A B a b i k in
              let l = edge-B A B a b i h k in
              (rw n.0 (w.1 (from B i) ((named-exactly B (from B i)).1 (l.0, (i, h, inl (k, inl refl))))), rw n.1 (w.1 (target B i) ((named-exactly B (target B i)).1 (l.1, (i, h, inl (k, inr refl)))))))
              (λ s.
              choose s
              (λ k. (rw (start-from A B a b i h k) (omega arith), rw (start-names A B a b i k) (w.1 (target B i) ((named-exactly B (target B i)).1 (start-B A B a b i h k, (i, h, inr (inl (k, refl))))))))
              (λ k.
              let n = accept-names A B a b i k in
              let l = accept-B A B a b i h k in
              (rw n.0 (w.1 (from B i) ((named-exactly B (from B i)).1 (l.0, (i, h, inr (inr (k, refl)))))), rw n.1 (omega (arith, l.1))))))

-- ---- what a call leaves

module _ (list : List ℕ) (used : ℕ) (B : List ℕ) where
  unchanged : (r : Joined) (exit : List ℕ) → Joins list used B r exit → (r.refusal ≡ 0 → ⊥) → (r.length ≡ 0) × (exit ≡ list)
  unchanged r exit g n =
      let e : eqb (refusal_of list used B) 0 ≡ false = ne_eqb _ 0 (λ q. n (g.refusal ∙ q)) in
      (g.long ∙ rw e, g.left ∙ rw e)

  left : (r : Joined) (exit : List ℕ) → Joins list used B r exit → r.refusal ≡ 0 → (take r.length exit ≡ joined (front list used) B) × (drop r.length exit ≡ drop r.length list)
  left r exit g z =
      let n : eqb (refusal_of list used B) 0 ≡ true = eq-eqb _ 0 (sym g.refusal ∙ z) in
      let J = joined (front list used) B in
      let l : r.length ≡ length J = g.long ∙ rw n in
      let e : exit ≡ J ++ drop (length J) list = g.left ∙ rw n in
      rw (l, e) (take-append_seam J (drop (length J) list), drop-append_seam J (drop (length J) list))

  unique : (r s : Joined) (x y : List ℕ) → Joins list used B r x → Joins list used B s y → (r ≡ s) × (x ≡ y)
  unique r s x y p q = (
    ap {B = Joined} (λ (n : ℕ). record { refusal = n; length = r.length }) (p.refusal ∙ sym q.refusal)
        ∙ ap {B = Joined} (λ (n : ℕ). record { refusal = s.refusal; length = n }) (p.long ∙ sym q.long),
    p.left ∙ sym q.left,
  )

pub join-demand : JoinDemand
unfolding rising
join-demand =
    record {
      lowest = λ list used B. rises 0 (join_rules (front list used) used (length list) B) refl;
      refuses = λ list used B. refuses (join_rules (front list used) used (length list) B) refl;
      said = λ list used B. tells (join_rules (front list used) used (length list) B) (join_words (front list used) used (length list) B) refl (says (front list used) used (length list) B);
      long = λ A B a. joined_length A B (whole-records A a);
      limits = limits;
      unchanged = unchanged;
      left = left;
      unique = unique;
    }
