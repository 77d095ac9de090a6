-- What the code reads and writes, in the words of the definitions. Assumes nothing.
use Prim.Native.Nat.{ℕ, zero, suc, ◌+◌, ◌≤◌, ◌<◌}
use mathlib.Core.Path.{◌≡◌, refl, sym, ap, ◌∙◌}
use mathlib.Core.Bool.{beq, Bool, true, false, ◌&&◌, ◌||◌, cond}
use mathlib.Core.List.{List, [], ◌∷◌, ◌++◌}
use mathlib.Core.Logic.{inl, inr}
use native.Mathlib.Omega.{arith}
use lib.ListN.{length, get_or, set, take, length-append, length-set, get_or-append}
use lib.Seq.{get_or-append-add, get_or-take, length-take-le, take-suc, get_or-set_same, get_or-set_other}
use lib.Dec.{eqb}
use borrow.Author.Tests.{eq-eqb, ne_eqb, eqb-true, eqb-false}
use Rattle.numbers.specs.Number.{placed}
use Rattle.sets.specs.Set.{states, holds}
use Rattle.rules.specs.Scan.{some, first, stack}
use Rattle.list.specs.List.{records, byte_of, is_edge, is_start, is_accept, from, target}
use Rattle.list.specs.Automaton.{start, highest}
use Rattle.list.proofs.Highest.{names-low}
use Rattle.rules.proofs.Scanning.{choose, below_suc, or_cases}
use Rattle.list_fold.specs.inner.Known.{gives, Numbered}
use Rattle.list_fold.specs.Fold.{counted, same, chief, mark, past, agree, alike, follows, chiefs, chief_of, leading, renumbered, new_record, picked, folded_by, stays, Folds}
use Rattle.list_fold.proofs.Picks.{counted-in, counted-out, counted-mono, picked-length}
use Rattle.list_fold.proofs.Folding.{record-long}
use Rattle.numbers.proofs.Placing.{placed-after}

-- past the end alone the default counts
pub get_d_any : (xs : List ℕ) (i d e : ℕ) → i < length xs → get_or xs i d ≡ get_or xs i e
get_d_any [] i d e h = absurd (omega arith)
get_d_any (x ∷ xs) zero d e h = refl
get_d_any (x ∷ xs) (suc i) d e h = get_d_any xs i d e (omega arith)

pub past_end : (xs : List ℕ) (i d : ℕ) → length xs ≤ i → get_or xs i d ≡ d
past_end [] i d h = refl
past_end (x ∷ xs) zero d h = absurd (omega arith)
past_end (x ∷ xs) (suc i) d h = past_end xs i d (omega arith)

-- the chief of p where the first s states have theirs, and where s joins r too
module _ (C : List ℕ) (s : ℕ) (h : s ≤ length C) where
  long : length (take s C) ≡ s
  long = length-take-le s C h

  pub chief-among : (p : ℕ) → p < s → chief (take s C) p ≡ get_or C p 0
  chief-among p l = get_or-take s C p p l ∙ get_d_any C p p 0 (omega arith)

  pub chief-beyond : (p : ℕ) → s ≤ p → chief (take s C) p ≡ p
  chief-beyond p l = past_end (take s C) p p (omega (arith, long))

  pub chief-lower : (r p : ℕ) → p < s → chief (take s C ++ (r ∷ [])) p ≡ get_or C p 0
  chief-lower r p l = get_or-append (take s C) (r ∷ []) p p (omega (arith, long)) ∙ chief-among p l

  pub chief-here : (r p : ℕ) → p ≡ s → chief (take s C ++ (r ∷ [])) p ≡ r
  chief-here r p e = let q : p ≡ length (take s C) + 0 = omega (arith, long, e) in ap (λ (x : ℕ). get_or (take s C ++ (r ∷ [])) x p) q ∙ get_or-append-add (take s C) (r ∷ []) 0 p

  pub chief-above : (r p : ℕ) → s < p → chief (take s C ++ (r ∷ [])) p ≡ p
  chief-above r p l = past_end (take s C ++ (r ∷ [])) p p (rw length-append (omega (arith, long)))

-- one chief more
pub take_more : (C : List ℕ) (s x : ℕ) → s < length C → take (suc s) (set C s x) ≡ take s (set C s x) ++ (x ∷ [])
take_more C s x h = take-suc (set C s x) s 0 (rw length-set h) ∙ ap (λ (y : ℕ). take s (set C s x) ++ (y ∷ [])) (get_or-set_same C s x 0 h)

pub take-set-after : (C : List ℕ) (s x : ℕ) → take s (set C s x) ≡ take s C
take-set-after [] zero x = refl
take-set-after [] (suc s) x = refl
take-set-after (y ∷ C) zero x = refl
take-set-after (y ∷ C) (suc s) x = ap (λ (l : List ℕ). y ∷ l) (take-set-after C s x)

four : (a b c d e f g h : ℕ) → same (a ∷ b ∷ c ∷ d ∷ []) (e ∷ f ∷ g ∷ h ∷ []) ≡ (eqb a e && eqb b f && eqb c g && eqb d h)
unfolding same
four a b c d e f g h = go (eqb a e) (eqb b f) (eqb c g) (eqb d h)
  where
    go : (w x y z : Bool) → (w && (x && (y && (z && true)))) ≡ (w && x && y && z)
    go false x y z = refl
    go true false y z = refl
    go true true false z = refl
    go true true true false = refl
    go true true true true = refl

pub marks-are : (m L : List ℕ) (i j : ℕ) → same (mark m L i) (mark m L j)
    ≡ (eqb (byte_of L i 1) (byte_of L j 1) && eqb (byte_of L i 2) (byte_of L j 2) && eqb (byte_of L i 3) (byte_of L j 3) && eqb (chief m (from L i)) (chief m (from L j)))
unfolding mark
marks-are m L i j = four (byte_of L i 1) (byte_of L i 2) (byte_of L i 3) (chief m (from L i)) (byte_of L j 1) (byte_of L j 2) (byte_of L j 3) (chief m (from L j))

pub alike-when : (m L : List ℕ) (s r : ℕ) (a b : Bool) → a ≡ holds (start L) s → b ≡ holds (start L) r → agree a b ≡ true → same (past m L s) (past m L r) ≡ alike m L s r
unfolding alike
alike-when m L s r a b p q e = sym (rw (← p, ← q, e))

pub alike-not : (m L : List ℕ) (s r : ℕ) (a b : Bool) → a ≡ holds (start L) s → b ≡ holds (start L) r → agree a b ≡ false → false ≡ alike m L s r
unfolding alike
alike-not m L s r a b p q e = sym (rw (← p, ← q, e))

pub agree-beq : (a b : Bool) → agree a b ≡ beq a b
agree-beq true true = refl
agree-beq true false = refl
agree-beq false true = refl
agree-beq false false = refl

pub follows-when : (m L : List ℕ) (s r : ℕ) → chief m r ≡ r → alike (m ++ (r ∷ [])) L s r ≡ follows m L s r
unfolding follows
follows-when m L s r e = sym (rw (eq-eqb (chief m r) r e))

pub follows-not : (m L : List ℕ) (s r : ℕ) → (chief m r ≡ r → ⊥) → false ≡ follows m L s r
unfolding follows
follows-not m L s r n = sym (rw (ne_eqb (chief m r) r n))

pub chiefs-more : (L : List ℕ) (s : ℕ) → chiefs L (suc s) ≡ chiefs L s ++ (first s (follows (chiefs L s) L s) ∷ [])
unfolding chiefs
chiefs-more L s = refl

-- ---- the chiefs of the states that are named

module _ (L C : List ℕ) (top : ℕ) (e : top ≡ suc (highest L)) (t : take top C ≡ chiefs L top) (l : top ≤ length C) where
  as-taken : (s : ℕ) → chief_of L s ≡ chief (take top C) s
  as-taken s = ap (λ (n : ℕ). chief (chiefs L n) s) (sym e) ∙ ap (λ (m : List ℕ). chief m s) (sym t)

  pub chief-read : (s : ℕ) → s < top → chief_of L s ≡ get_or C s 0
  chief-read s h = as-taken s ∙ chief-among C top l s h

  pub chief-out : (s : ℕ) → top ≤ s → chief_of L s ≡ s
  chief-out s h = as-taken s ∙ chief-beyond C top l s h

  pub stays-accept : (i : ℕ) → is_accept L i ≡ true → true ≡ stays (chief_of L) L i
  unfolding stays
  stays-accept i k = sym (rw k)

  pub stays-low : (i : ℕ) → is_accept L i ≡ false → target L i < top → eqb (get_or C (target L i) 0) (target L i) ≡ stays (chief_of L) L i
  unfolding stays
  stays-low i k h = sym (rw (k, chief-read (target L i) h))

  pub stays_out : (i : ℕ) → is_accept L i ≡ false → top ≤ target L i → true ≡ stays (chief_of L) L i
  unfolding stays
  stays_out i k h = sym (rw (k, chief-out (target L i) h, eq-eqb (target L i) (target L i) refl))

-- ---- numbers

pub number-none : (c : ℕ → ℕ) (M : List ℕ) → length M ≡ states → Numbered c M 0 0
unfolding counted
number-none c M l = record { numbers = λ s h. absurd (omega arith); count = refl; long = l }

module _ (c : ℕ → ℕ) (L : List ℕ) (f : Folds c L) (M : List ℕ) (s next : ℕ) (h : s < states) (n : Numbered c M s next) where
  other : (x : ℕ) (v : ℕ) → x < s → get_or (set M s v) x 0 ≡ renumbered c x
  other x v l = get_or-set_other M s x v 0 (λ e. omega (arith, e, l)) ∙ n.numbers x l

  put : (v : ℕ) → v ≡ renumbered c s → (k : ℕ) → k < suc s → get_or (set M s v) k 0 ≡ renumbered c k
  put v e k l = choose (below_suc k s l) (λ q. other k v q) (λ q. rw q (get_or-set_same M s v 0 (omega (arith, n.long)) ∙ e))

  pub number_more : (x : ℕ) → x ≡ c s → Numbered c (set M s (cond (eqb x s) next (get_or M x 0))) (suc s) (cond (eqb x s) (suc next) next)
  unfolding renumbered
  number_more x e = go (eqb x s) refl
    where
      go : (b : Bool) → eqb x s ≡ b → Numbered c (set M s (cond b next (get_or M x 0))) (suc s) (cond b (suc next) next)
      go true q =
          let o : c s ≡ s = sym e ∙ eqb-true x s q in
          record { numbers = put next (n.count ∙ ap (counted (leading c)) (sym o)); count = ap suc n.count ∙ sym (counted-in (leading c) s (eq-eqb (c s) s o)); long = length-set M s next ∙ n.long }
      go false q =
          let o : c s < s = below (eqb-false x s q) in
          let v : get_or M x 0 ≡ counted (leading c) (c s) = ap (λ (y : ℕ). get_or M y 0) e ∙ n.numbers (c s) o ∙ ap (counted (leading c)) (f.own s) in
          record { numbers = put (get_or M x 0) v; count = n.count ∙ sym (counted-out (leading c) s (ne_eqb (c s) s (λ z. omega (arith, z, o)))); long = length-set M s (get_or M x 0) ∙ n.long }
        where
          below : (x ≡ s → ⊥) → c s < s
          below z = omega (arith, z, e, f.low s)

pub from_low : (L : List ℕ) (i : ℕ) → i < records L → (is_edge L i || is_accept L i) ≡ true → from L i < suc (highest L)
from_low L i h k = choose (or_cases (is_edge L i) (is_accept L i) k) (λ e. omega (arith, names-low L i (from L i) h (inl (e, inl refl)))) (λ e. omega (arith, names-low L i (from L i) h (inr (inr (e, refl)))))

pub target-low : (L : List ℕ) (i : ℕ) → i < records L → (is_edge L i || is_start L i) ≡ true → target L i < suc (highest L)
target-low L i h k = choose (or_cases (is_edge L i) (is_start L i) k) (λ e. omega (arith, names-low L i (target L i) h (inl (e, inr refl)))) (λ e. omega (arith, names-low L i (target L i) h (inr (inl (e, refl)))))

pub some_out : (p : ℕ → Bool) (i : ℕ) → some i p ≡ false → p i ≡ false → some (suc i) p ≡ false
unfolding some
some_out p i e f = rw (e, f)

-- ---- writing

module _ (c : ℕ → ℕ) (L : List ℕ) where
  pub gives-in : (i : ℕ) → stays c L i ≡ true → gives c L i ≡ new_record c L i
  gives-in i e = rw e

  pub gives-out : (i : ℕ) → stays c L i ≡ false → gives c L i ≡ []
  gives-out i e = rw e

  -- the front of the folded list
  abbrev pub front : ℕ → List ℕ
  front i = picked (stays c L) (new_record c L) i

  pub front-more : (i : ℕ) → front (suc i) ≡ front i ++ gives c L i
  unfolding stack
  front-more i = refl

  pub front-whole : front (records L) ≡ folded_by c L
  unfolding folded_by
  front-whole = refl

  pub front-room : (i n : ℕ) → i < n → length (front i) + length (gives c L i) ≤ length (front n)
  front-room i n h = omega (arith, ap length (front-more i), length-append (front i) (gives c L i), picked-length (stays c L) (new_record c L) 8 (record-long c L) (suc i), picked-length (stays c L) (new_record c L) 8 (record-long c L) n, counted-mono (stays c L) (suc i) n h)

  pub add-more : (out : List ℕ) (i : ℕ) → i < records L → length (folded_by c L) ≤ length out
      → placed (placed out 0 (front i)) (length (front i)) (gives c L i) ≡ placed out 0 (front (suc i))
  add-more out i h l = rw (front-more i) (placed-after out 0 (front i) (gives c L i) (length (front i)) (omega arith) (omega (arith, front-room i (records L) h, ap length front-whole)))
