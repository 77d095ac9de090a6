-- The promise of each public function allows one outcome: any two are equal. Assumes nothing.
use Prim.Native.Nat.{ℕ, suc}
use mathlib.Core.Path.{◌≡◌, sym, ap, ◌∙◌}
use mathlib.Core.Bool.{Bool}
use mathlib.Core.List.{List}
use lib.ListN.{get_or}
use Rattle.sets.specs.declared.Set.{Set}
use Rattle.sets.specs.Set.{set_words, sig_words, set_of, sigs_of}
use Rattle.sets.proofs.Sets.{Words, set-one, sigs-one}
use Rattle.list.specs.List.{list_refusal}
use Rattle.list.specs.Automaton.{start, step, accepted, accepting, named, highest}
use Rattle.list.specs.inner.Survey.{Surveys}
use Rattle.list.specs.declared.Survey.{Survey}

pub unique-byte-at : (b : List ℕ) (at x y : ℕ) → x ≡ get_or b at 0 → y ≡ get_or b at 0 → x ≡ y
unique-byte-at b at x y p q = p ∙ sym q

pub unique-check-list : (L : List ℕ) (x y : ℕ) → x ≡ list_refusal L → y ≡ list_refusal L → x ≡ y
unique-check-list L x y p q = p ∙ sym q

pub unique-survey-list : (L : List ℕ) (F : ℕ) (s t : Survey) → Surveys L F s → Surveys L F t → s ≡ t
unique-survey-list L F s t p q =
    ap {B = Survey} (λ (n : ℕ). record { refusal = n; known = s.known }) (p.refusal ∙ sym q.refusal)
    ∙ ap {B = Survey} (λ (b : Bool). record { refusal = t.refusal; known = b }) (p.known ∙ sym q.known)

pub unique-state-count : (L : List ℕ) (x y : ℕ) → x ≡ suc (highest L) → y ≡ suc (highest L) → x ≡ y
unique-state-count L x y p q = p ∙ sym q

-- sets that own as many words as their kind has, each of 64 bits
module _ (x y : Set set_words) (vx : Words set_words x.words) (vy : Words set_words y.words) where
  pub unique-start-set : (L : List ℕ) → set_of x ≡ start L → set_of y ≡ start L → x ≡ y
  unique-start-set L p q = set-one x y vx vy (p ∙ sym q)

  pub unique-names : (L : List ℕ) → set_of x ≡ named L → set_of y ≡ named L → x ≡ y
  unique-names L p q = set-one x y vx vy (p ∙ sym q)

  pub unique-accepting : (L : List ℕ) → set_of x ≡ accepting L → set_of y ≡ accepting L → x ≡ y
  unique-accepting L p q = set-one x y vx vy (p ∙ sym q)

  pub unique-step : (L : List ℕ) (F c : ℕ) → set_of x ≡ step L F c → set_of y ≡ step L F c → x ≡ y
  unique-step L F c p q = set-one x y vx vy (p ∙ sym q)

pub unique-accepted : (L : List ℕ) (F : ℕ) (x y : Set sig_words) → Words sig_words x.words → Words sig_words y.words
    → sigs_of x ≡ accepted L F → sigs_of y ≡ accepted L F → x ≡ y
unique-accepted L F x y vx vy p q = sigs-one x y vx vy (p ∙ sym q)
