-- Folding's refusals, and what it leaves. Assumes nothing.
use Prim.Native.Nat.{ℕ, suc, ◌+◌, ◌*◌, ◌≤◌, ◌<◌}
use mathlib.Core.Path.{◌≡◌, refl, sym, ap, ◌∙◌}
use mathlib.Core.Bool.{true, false}
use mathlib.Core.List.{List, [], ◌∷◌, ◌++◌}
use native.Mathlib.Omega.{arith}
use lib.ListN.{length, drop}
use lib.Dec.{eqb}
use borrow.Author.Tests.{eq-eqb, ne_eqb, lt-ltb, le-ltb}
use Rattle.numbers.specs.Number.{placed}
use Rattle.sets.specs.Set.{states}
use Rattle.numbers.proofs.Placing.{placed-fits}
use Rattle.rules.specs.Rules.{verdict}
use Rattle.rules.proofs.Rules.{verdict-refused, verdict-then, stop, last}
use Rattle.list.specs.List.{records, list_rules, list_refusal}
use Rattle.list.specs.Automaton.{highest}
use Rattle.list.proofs.Highest.{highest-state}
use Rattle.list_fold.specs.Fold.{counted, stays, chief_of, folded, no_room, fold_refusal, FoldAnswers}
use Rattle.list_fold.specs.declared.Folded.{Folded}
use Rattle.list_fold.proofs.Folding.{folded-length, folded-records, folded-most}
use Rattle.list.proofs.Listed.{short-list}

module _ (L : List ℕ) (lent : ℕ) where
  pub refuses-list : (list_refusal L ≡ 0 → ⊥) → fold_refusal L lent ≡ list_refusal L
  refuses-list n = verdict-refused (list_rules L) _ n

  module _ (a : list_refusal L ≡ 0) where
    behind : fold_refusal L lent ≡ verdict ((28, no_room L lent) ∷ [])
    behind = verdict-then (list_rules L) _ refl a

    pub refuses-room : lent < length (folded L) → fold_refusal L lent ≡ 28
    unfolding no_room
    refuses-room h = behind ∙ stop 28 _ (lt-ltb lent (length (folded L)) h)

    pub refuses-none : length (folded L) ≤ lent → fold_refusal L lent ≡ 0
    unfolding no_room
    refuses-none h = behind ∙ last 28 (le-ltb lent (length (folded L)) h)

-- a list that passes has few records, and names states alone
pub few-records : (L : List ℕ) → list_refusal L ≡ 0 → records L ≤ 8192
few-records L a = omega (arith, short-list L a)

pub long-is : (L : List ℕ) (k : ℕ) → k ≡ counted (stays (chief_of L) L) (records L) → 8 * k ≡ length (folded L)
long-is L k e = omega (arith, e, folded-length (chief_of L) L)

pub long-low : (L : List ℕ) → list_refusal L ≡ 0 → length (folded L) ≤ 65536
long-low L a = omega (arith, short-list L a, folded-length (chief_of L) L, folded-records (chief_of L) L, folded-most (chief_of L) L)

module _ (L out : List ℕ) (r : Folded) (exit : List ℕ) where
  pub answers-not : (k : ℕ) → fold_refusal L (length out) ≡ k → (k ≡ 0 → ⊥) → r.refusal ≡ k → r.length ≡ 0 → exit ≡ out → FoldAnswers L out r exit
  answers-not k e n p q l = let z : eqb (fold_refusal L (length out)) 0 ≡ false = rw e (ne_eqb k 0 n) in record { refusal = p ∙ sym e; long = rw z q; left = rw z l }

  pub answers-all : list_refusal L ≡ 0 → length (folded L) ≤ length out → r.refusal ≡ 0 → r.length ≡ length (folded L) → exit ≡ placed out 0 (folded L) → FoldAnswers L out r exit
  answers-all a h p q l =
      let e = refuses-none L (length out) a h in
      let u : 0 + length (folded L) ≡ length (folded L) = omega arith in
      let z : eqb (fold_refusal L (length out)) 0 ≡ true = eq-eqb _ 0 e in
      record { refusal = p ∙ sym e; long = rw z q; left = rw z (l ∙ placed-fits out 0 (folded L) (omega arith) ∙ ap (λ (k : ℕ). folded L ++ drop k out) u) }

pub top-low : (L : List ℕ) (t : ℕ) → list_refusal L ≡ 0 → t ≡ suc (highest L) → t ≤ states
top-low L t a e = omega (arith, e, highest-state L a)
