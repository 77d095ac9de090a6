-- The pairs of a folded list are those of the list. Assumes nothing.
use Prim.Native.Nat.{ℕ, ◌+◌, ◌<◌}
use mathlib.Core.Path.{◌≡◌, refl, sym, ap, ap₂, subst, ◌∙◌}
use mathlib.Core.Bool.{true, false}
use mathlib.Core.List.{List, [], ◌∷◌, ◌++◌}
use native.Mathlib.Omega.{arith}
use lib.ListN.{length, take, drop}
use lib.Dec.{eqb}
use lib.Seq.{take-append_seam, drop-append_seam}
use borrow.Author.Tests.{eq-eqb, ne_eqb}
use Rattle.sets.specs.Set.{signatures, members}
use Rattle.sets.proofs.Sets.{set-ext}
use Rattle.rules.specs.Scan.{rising}
use Rattle.rules.proofs.Rules.{refuses, rises, passes-front}
use Rattle.rules.proofs.Scanning.{over-words}
use Rattle.list.specs.List.{list_rules, list_refusal}
use Rattle.list.specs.Automaton.{start, step, accepted}
use Rattle.feed.specs.Engine.{due, pairs_at, told}
use Rattle.list_flow.specs.Opening.{open_pairs}
use Rattle.list_feed.specs.Plain.{plain, pairs_of}
use Rattle.laws.specs.Words.{list_words}
use Rattle.rules.proofs.Saying.{Says, says-append, tells}
use Rattle.laws.proofs.Saying.{list-says}
use Rattle.list_fold.specs.declared.Folded.{Folded}
use Rattle.list_fold.specs.Fold.{chief_of, folded, folded_by, no_room, fold_rules, fold_refusal, Folds, FoldAnswers}
use Rattle.list_fold.proofs.Folding.{Image, starts-image, step-image, frontiers, accepts-same, new-low, folded-length, folded-records, folded-most}
use Rattle.list_fold.proofs.Passing.{folded-passes}
use Rattle.list_fold.proofs.Chiefs.{folds}
use Rattle.list_fold_laws.specs.Kept.{Keeps, fold_words, FoldSigns, FoldDemand}

-- ---- for any good choice of chiefs

module _ (c : ℕ → ℕ) (L : List ℕ) (a : list_refusal L ≡ 0) (g : Folds c L) where
  abbrev J : List ℕ
  J = folded_by c L

  accepted-image : (F G : ℕ) → Image c L a g F G → accepted J G ≡ accepted L F
  accepted-image F G m = set-ext (accepted J G) (accepted L F) (λ h. accepts-same c L a g F G h m)

  told-image : (bs : List ℕ) (F G k : ℕ) → Image c L a g F G → told (plain J) G k bs ≡ told (plain L) F k bs
  unfolding told due
  told-image [] F G k m = refl
  told-image (b ∷ bs) F G k m =
      let n = step-image c L a g F G b m in
      ap₂ (λ (x y : List ℕ). x ++ y) (ap (λ (x : ℕ). pairs_at (k + 1) (members signatures x)) (accepted-image (step L F b) (step J G b) n)) (told-image bs (step L F b) (step J G b) (k + 1) n)

  pub pairs-same : (bs : List ℕ) → pairs_of J bs ≡ pairs_of L bs
  unfolding open_pairs
  pairs-same bs =
      let m = starts-image c L a g in
      ap₂ (λ (x y : List ℕ). x ++ y) (ap (λ (x : ℕ). pairs_at 0 (members signatures x)) (accepted-image (start L) (start J) m)) (told-image bs (start L) (start J) 0 m)

-- ---- folding

module _ (L : List ℕ) (a : list_refusal L ≡ 0) where
  pub keeps : Keeps L (folded L)
  keeps =
      record {
        passes = folded-passes (chief_of L) L a (folds L);
        shorter = omega (arith, folded-length (chief_of L) L, folded-records (chief_of L) L, folded-most (chief_of L) L);
        frontier = λ bs. (frontiers (chief_of L) L a (folds L) bs).is;
        low = new-low (chief_of L) L a (folds L);
        pairs = pairs-same (chief_of L) L a (folds L);
      }

-- what a list signs, the folded one signs
pub keeps-signs : FoldSigns
keeps-signs L J P k s = record { passes = k.passes; pairs = λ bs b h n. rw (k.pairs bs) (s.pairs bs b h n) }

module _ (L out : List ℕ) (r : Folded) (exit : List ℕ) (g : FoldAnswers L out r exit) where
  pub unchanged : (r.refusal ≡ 0 → ⊥) → (r.length ≡ 0) × (exit ≡ out)
  unchanged n = let z : eqb (fold_refusal L (length out)) 0 ≡ false = ne_eqb _ 0 (λ e. n (g.refusal ∙ e)) in (g.long ∙ rw z, g.left ∙ rw z)

  pub left : r.refusal ≡ 0 → (take r.length exit ≡ folded L) × (drop r.length exit ≡ drop r.length out) × Keeps L (take r.length exit)
  left e =
      let q : fold_refusal L (length out) ≡ 0 = sym g.refusal ∙ e in
      let z : eqb (fold_refusal L (length out)) 0 ≡ true = eq-eqb _ 0 q in
      let l : r.length ≡ length (folded L) = g.long ∙ rw z in
      let x : exit ≡ folded L ++ drop (length (folded L)) out = g.left ∙ rw z in
      let f : take r.length exit ≡ folded L = ap (λ (k : ℕ). take k exit) l ∙ ap (take (length (folded L))) x ∙ take-append_seam (folded L) (drop (length (folded L)) out) in
      let d : drop r.length exit ≡ drop r.length out = ap (λ (k : ℕ). drop k exit) l ∙ ap (drop (length (folded L))) x ∙ drop-append_seam (folded L) (drop (length (folded L)) out) ∙ ap (λ (k : ℕ). drop k out) (sym l) in
      (f, d, subst (Keeps L) (sym f) (keeps L (passes-front (list_rules L) ((28, no_room L (length out)) ∷ []) q)))

pub unique : (L out : List ℕ) (r s : Folded) (x y : List ℕ) → FoldAnswers L out r x → FoldAnswers L out s y → (r ≡ s) × (x ≡ y)
unique L out r s x y g h = (
  ap {B = Folded} (λ (n : ℕ). record { refusal = n; length = r.length }) (g.refusal ∙ sym h.refusal)
      ∙ ap {B = Folded} (λ (n : ℕ). record { refusal = s.refusal; length = n }) (g.long ∙ sym h.long),
  g.left ∙ sym h.left,
)

says : (L : List ℕ) (lent : ℕ) → Says (fold_rules L lent) (fold_words L lent)
unfolding no_room
says L lent = says-append (list_rules L) ((28, no_room L lent) ∷ []) (list_words L) ((28, lent < length (folded L)) ∷ []) (list-says L) (refl, over-words lent (length (folded L)), tt)

pub fold-demand : FoldDemand
unfolding rising
fold-demand =
    record {
      lowest = λ L lent. rises 0 (fold_rules L lent) refl;
      refuses = λ L lent. refuses (fold_rules L lent) refl;
      said = λ L lent. tells (fold_rules L lent) (fold_words L lent) refl (says L lent);
      keeps = keeps;
      unchanged = unchanged;
      left = left;
      unique = unique;
    }
