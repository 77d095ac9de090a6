-- Leaves, marks and numbers of a good text, from a place on.
use Prim.Native.Nat.{ℕ, suc, ◌+◌, ◌-◌, ◌*◌, ◌≤◌, ◌<◌}
use mathlib.Core.Path.{◌≡◌, refl, sym, ap, subst, ◌∙◌}
use mathlib.Core.Bool.{Bool, true, false, ◌&&◌, not, cond, true≢false, false≢true}
use mathlib.Core.List.{List, [], ◌∷◌, ◌++◌}
use mathlib.Core.Logic.{◌⊎◌, inl, inr}
use native.Mathlib.Omega.{arith}
use lib.Dec.{leb, eqb}
use lib.ListN.{length, drop, get_or}
use lib.Seq.{drop-cons}
use borrow.Author.Tests.{eqb-true, eqb-false, leb-true}
use Rattle.text.specs.Grammar.{Single, plain, hex, line, Member, lone, spaces, range, Leaf, single, space, any, class, amid, class_special, is_digit, is_hex, value, ok_single, ok_member, ok_members, ok_leaf, spell, spell_member, spell_members, spell_leaf, all_digits, number_from, Mark, bare, star, more, maybe, rep, ok_mark, ok_number, spell_mark}
use Rattle.text.proofs.Places.{both, and-true}
use Rattle.text.specs.inner.Heads.{Calm}
use Rattle.text.proofs.Reading.{assoc, amid-out, not-true, number_digits}
use Rattle.text.proofs.Peeling.{drop_past, nil-cons, peel-lt, peel-at, peel-tail, gone, not_plain, differ}
use Rattle.text_marks.specs.declared.Times.TheVariants.{Once, Star, Plus, Maybe, Between}
use Rattle.text_marks.specs.inner.Marks.{without, times_of}

-- ---- classes

pub class-hit : (T : List ℕ) (n : ℕ) (u y : List ℕ) → get_or T n 0 ≡ 93 → without 93 u ≡ true → drop n T ≡ u ++ (93 ∷ y) → drop (n + 1) T ≡ y
unfolding without
class-hit T n [] y h k e = peel-tail T n 93 y e
class-hit T n (c ∷ u) y h k e =
    let q : not (eqb c 93) ≡ true = (both (not (eqb c 93)) (without 93 u) k).0 in
    absurd (eqb-false c 93 (not-true (eqb c 93) q) (sym (peel-at T n c (u ++ (93 ∷ y)) e) ∙ h))

pub class-skip : (T : List ℕ) (n : ℕ) (u y : List ℕ) → (get_or T n 0 ≡ 93 → ⊥) → without 93 u ≡ true → drop n T ≡ u ++ (93 ∷ y)
    → (v : List ℕ) × (without 93 v ≡ true) × (drop (n + 1) T ≡ v ++ (93 ∷ y))
unfolding without
class-skip T n [] y h k e = absurd (h (peel-at T n 93 y e))
class-skip T n (c ∷ u) y h k e = (u, (both (not (eqb c 93)) (without 93 u) k).1, peel-tail T n c (u ++ (93 ∷ y)) e)

without-append : (u v : List ℕ) → without 93 u ≡ true → without 93 v ≡ true → without 93 (u ++ v) ≡ true
unfolding without
without-append [] v h k = k
without-append (c ∷ u) v h k = let q = both (not (eqb c 93)) (without 93 u) h in and-true (not (eqb c 93)) (without 93 (u ++ v)) q.0 (without-append u v q.1 k)

digit_not : (c : ℕ) → is_hex c ≡ true → not (eqb c 93) ≡ true
digit_not c h = go (eqb c 93) refl
  where
    none : is_hex 93 ≡ false
    none = unfold is_hex is_digit in refl

    go : (b : Bool) → eqb c 93 ≡ b → not b ≡ true
    go false e = refl
    go true e = absurd (false≢true (sym none ∙ ap is_hex (sym (eqb-true c 93 e)) ∙ h))

single-without : (s : Single) → ok_single class_special s ≡ true → without 93 (spell s) ≡ true
unfolding spell ok_single without amid
single-without (plain b) h = rw (amid-out b 93 class_special (not-true (amid b class_special) h) refl)
single-without (hex a b) h = let q = both (is_hex a) (is_hex b) h in rw (digit_not a q.0, digit_not b q.1)
single-without line h = refl

member-without : (m : Member) → ok_member m ≡ true → without 93 (spell_member m) ≡ true
unfolding spell_member ok_member
member-without (lone s) h = single-without s h
member-without spaces h = unfold without in refl
member-without (range s t) h =
    let r = both (ok_single class_special s && ok_single class_special t) (leb (value s) (value t)) h in
    let q = both (ok_single class_special s) (ok_single class_special t) r.0 in
    without-append (spell s) (45 ∷ spell t) (single-without s q.0) (unfold without in single-without t q.1)

members-without : (ms : List Member) → ok_members ms ≡ true → without 93 (spell_members ms) ≡ true
unfolding spell_members ok_members
members-without [] h = unfold without in refl
members-without (m ∷ ms) h =
    let q = both (ok_member m) (ok_members ms) h in
    without-append (spell_member m) (spell_members ms) (member-without m q.0) (members-without ms q.1)

caret-without : (neg : Bool) → without 93 (cond neg (94 ∷ []) []) ≡ true
unfolding without
caret-without true = refl
caret-without false = refl

-- ---- leaves

module _ (T : List ℕ) (n : ℕ) (y : List ℕ) where
  pub leaf-class : (l : Leaf) → get_or T n 0 ≡ 91 → ok_leaf l ≡ true → drop n T ≡ spell_leaf l ++ y
      → (u : List ℕ) × (without 93 u ≡ true) × (drop (n + 1) T ≡ u ++ (93 ∷ y))
  unfolding spell_leaf ok_leaf spell ok_single amid
  leaf-class (single (plain b)) g ok e = absurd (not_plain T n y b 91 refl ok e g)
  leaf-class (single (hex a b)) g ok e = absurd (differ T n y 92 91 (120 ∷ a ∷ b ∷ y) refl e g)
  leaf-class (single line) g ok e = absurd (differ T n y 92 91 (110 ∷ y) refl e g)
  leaf-class space g ok e = absurd (differ T n y 92 91 (115 ∷ y) refl e g)
  leaf-class any g ok e = absurd (differ T n y 46 91 y refl e g)
  leaf-class (class neg ms) g ok e =
      let k : List ℕ = cond neg (94 ∷ []) [] in
      let a : (k ++ (spell_members ms ++ (93 ∷ []))) ++ y ≡ (k ++ spell_members ms) ++ (93 ∷ y) =
      assoc k (spell_members ms ++ (93 ∷ [])) y ∙ ap (λ z. k ++ z) (assoc (spell_members ms) (93 ∷ []) y) ∙ sym (assoc k (spell_members ms) (93 ∷ y)) in (
        k ++ spell_members ms,
        without-append k (spell_members ms) (caret-without neg) (members-without ms (both (not (eqb (length ms) 0)) (ok_members ms) ok).1),
        peel-tail T n 91 ((k ++ (spell_members ms ++ (93 ∷ []))) ++ y) e ∙ a,
      )

  two : (b : ℕ) → drop n T ≡ 92 ∷ b ∷ y → (drop (n + 2) T ≡ y) × (n + 2 ≤ length T) × (get_or T (n + 1) 0 ≡ b)
  two b e =
      let f : drop (n + 1) T ≡ b ∷ y = peel-tail T n 92 (b ∷ y) e in
      let k : n + 1 + 1 ≡ n + 2 = omega arith in
      let l : n + 1 < length T = peel-lt T (n + 1) b y f in
      (subst (λ z. drop z T ≡ y) k (peel-tail T (n + 1) b y f), omega arith, peel-at T (n + 1) b y f)

  four : (a b : ℕ) → drop n T ≡ 92 ∷ 120 ∷ a ∷ b ∷ y → (drop (n + 4) T ≡ y) × (n + 4 ≤ length T) × (get_or T (n + 1) 0 ≡ 120)
  four a b e =
      let f : drop (n + 1) T ≡ 120 ∷ a ∷ b ∷ y = peel-tail T n 92 (120 ∷ a ∷ b ∷ y) e in
      let g : drop (n + 1 + 1) T ≡ a ∷ b ∷ y = peel-tail T (n + 1) 120 (a ∷ b ∷ y) f in
      let h : drop (n + 1 + 1 + 1) T ≡ b ∷ y = peel-tail T (n + 1 + 1) a (b ∷ y) g in
      let k : n + 1 + 1 + 1 + 1 ≡ n + 4 = omega arith in
      let l : n + 1 + 1 + 1 < length T = peel-lt T (n + 1 + 1 + 1) b y h in
      (subst (λ z. drop z T ≡ y) k (peel-tail T (n + 1 + 1 + 1) b y h), omega arith, peel-at T (n + 1) 120 (a ∷ b ∷ y) f)

  -- an escape: two bytes, or four
  pub leaf-escape : (l : Leaf) → get_or T n 0 ≡ 92 → ok_leaf l ≡ true → drop n T ≡ spell_leaf l ++ y
      → ((drop (n + 2) T ≡ y) × (n + 2 ≤ length T) × (get_or T (n + 1) 0 ≡ 120 → ⊥)) ⊎ ((drop (n + 4) T ≡ y) × (n + 4 ≤ length T) × (get_or T (n + 1) 0 ≡ 120))
  unfolding spell_leaf ok_leaf spell ok_single amid
  leaf-escape (single (plain b)) g ok e = absurd (not_plain T n y b 92 refl ok e g)
  leaf-escape (single (hex a b)) g ok e = inr (four a b e)
  leaf-escape (single line) g ok e = let q = two 110 e in inl (q.0, q.1, λ z. eqb-false 110 120 refl (sym q.2 ∙ z))
  leaf-escape space g ok e = let q = two 115 e in inl (q.0, q.1, λ z. eqb-false 115 120 refl (sym q.2 ∙ z))
  leaf-escape any g ok e = absurd (differ T n y 46 92 y refl e g)
  leaf-escape (class neg ms) g ok e = absurd (differ T n y 91 92 ((cond neg (94 ∷ []) [] ++ (spell_members ms ++ (93 ∷ []))) ++ y) refl e g)

  pub leaf-short : (l : Leaf) → (get_or T n 0 ≡ 91 → ⊥) → (get_or T n 0 ≡ 92 → ⊥) → ok_leaf l ≡ true → drop n T ≡ spell_leaf l ++ y → drop (n + 1) T ≡ y
  unfolding spell_leaf ok_leaf spell ok_single
  leaf-short (single (plain b)) g h ok e = peel-tail T n b y e
  leaf-short (single (hex a b)) g h ok e = absurd (h (peel-at T n 92 (120 ∷ a ∷ b ∷ y) e))
  leaf-short (single line) g h ok e = absurd (h (peel-at T n 92 (110 ∷ y) e))
  leaf-short space g h ok e = absurd (h (peel-at T n 92 (115 ∷ y) e))
  leaf-short any g h ok e = peel-tail T n 46 y e
  leaf-short (class neg ms) g h ok e = absurd (g (peel-at T n 91 ((cond neg (94 ∷ []) [] ++ (spell_members ms ++ (93 ∷ []))) ++ y) e))

  -- a leaf is not empty
  pub leaf-gone : (l : Leaf) → length T ≤ n → drop n T ≡ spell_leaf l ++ y → ⊥
  unfolding spell_leaf spell
  leaf-gone (single (plain b)) h e = gone T n b [] y h e
  leaf-gone (single (hex a b)) h e = gone T n 92 [] (120 ∷ a ∷ b ∷ y) h e
  leaf-gone (single line) h e = gone T n 92 [] (110 ∷ y) h e
  leaf-gone space h e = gone T n 92 [] (115 ∷ y) h e
  leaf-gone any h e = gone T n 46 [] y h e
  leaf-gone (class neg ms) h e = gone T n 91 [] ((cond neg (94 ∷ []) [] ++ (spell_members ms ++ (93 ∷ []))) ++ y) h e

-- ---- numbers

pub number-grows : (ds : List ℕ) (v : ℕ) → v ≤ number_from v ds
unfolding number_from
number-grows [] v = omega arith
number-grows (d ∷ ds) v = let k : 10 * v + (d - 48) ≤ number_from (10 * v + (d - 48)) ds = number-grows ds (10 * v + (d - 48)) in omega arith

pub digits-on : (T : List ℕ) (n e v : ℕ) (ds y : List ℕ) → is_digit (get_or T n 0) ≡ true → all_digits ds ≡ true → is_digit e ≡ false → drop n T ≡ ds ++ (e ∷ y)
    → (dt : List ℕ) × (all_digits dt ≡ true) × (number_from v ds ≡ number_from (10 * v + (get_or T n 0 - 48)) dt) × (drop (n + 1) T ≡ dt ++ (e ∷ y))
unfolding all_digits number_from
digits-on T n e v [] y h a k p = absurd (true≢false (sym h ∙ ap is_digit (peel-at T n e y p) ∙ k))
digits-on T n e v (d ∷ ds) y h a k p =
    (ds, (both (is_digit d) (all_digits ds) a).1, ap (λ z. number_from (10 * v + (z - 48)) ds) (sym (peel-at T n d (ds ++ (e ∷ y)) p)), peel-tail T n d (ds ++ (e ∷ y)) p)

pub digits-off : (T : List ℕ) (n e v : ℕ) (ds y : List ℕ) → is_digit (get_or T n 0) ≡ false → all_digits ds ≡ true → drop n T ≡ ds ++ (e ∷ y)
    → (v ≡ number_from v ds) × (drop n T ≡ e ∷ y)
unfolding all_digits number_from
digits-off T n e v [] y h a p = (refl, p)
digits-off T n e v (d ∷ ds) y h a p =
    absurd (true≢false (sym (both (is_digit d) (all_digits ds) a).0 ∙ ap is_digit (sym (peel-at T n d (ds ++ (e ∷ y)) p)) ∙ h))

pub digit_low : (c : ℕ) → is_digit c ≡ true → 48 ≤ c
unfolding is_digit
digit_low c h = leb-true 48 c (both (leb 48 c) (leb c 57) h).0

-- ---- marks

abbrev Digit-facts : List ℕ → ℕ → ℕ → ℕ → Type 0
Digit-facts T i v j = (ds : List ℕ) (e : ℕ) (y : List ℕ) → all_digits ds ≡ true → number_from 0 ds ≤ 300 → is_digit e ≡ false → drop i T ≡ ds ++ (e ∷ y) → (v ≡ number_from 0 ds) × (drop j T ≡ e ∷ y)

-- a calm text begins with no mark
calm-at : (T : List ℕ) (n : ℕ) (y : List ℕ) → Calm y → drop n T ≡ y → n < length T → (get_or T n 0 ≡ 42 → ⊥) × (get_or T n 0 ≡ 43 → ⊥) × (get_or T n 0 ≡ 63 → ⊥) × (get_or T n 0 ≡ 123 → ⊥)
calm-at T n [] k e l = absurd (gone-nil T n l e)
  where
    gone-nil : (T : List ℕ) (n : ℕ) → n < length T → drop n T ≡ [] → ⊥
    gone-nil T n l e = nil-cons (get_or T n 0) (drop (suc n) T) (sym e ∙ drop-cons T n 0 l)
calm-at T n (c ∷ y) (a, b, d, f) e l =
    let g = peel-at T n c y e in
    (λ z. eqb-false c 42 a (sym g ∙ z), λ z. eqb-false c 43 b (sym g ∙ z), λ z. eqb-false c 63 d (sym g ∙ z), λ z. eqb-false c 123 f (sym g ∙ z))

module _ (T : List ℕ) (n : ℕ) (y : List ℕ) (calm : Calm y) where
  past_end : length T ≤ n → (c : ℕ) (w : List ℕ) → drop n T ≡ c ∷ w → ⊥
  past_end h c w e = nil-cons c w (sym (drop_past T n h) ∙ e)

  pub mark-none : (m : Mark) → drop n T ≡ spell_mark m ++ y → ((get_or T n 0 ≡ 42 → ⊥) × (get_or T n 0 ≡ 43 → ⊥) × (get_or T n 0 ≡ 63 → ⊥) × (get_or T n 0 ≡ 123 → ⊥)) ⊎ (length T ≤ n)
      → (times_of m ≡ Once) × (drop n T ≡ y)
  unfolding spell_mark
  mark-none bare e h = (refl, e)
  mark-none star e (inl h) = absurd (h.0 (peel-at T n 42 y e))
  mark-none more e (inl h) = absurd (h.1 (peel-at T n 43 y e))
  mark-none maybe e (inl h) = absurd (h.2 (peel-at T n 63 y e))
  mark-none (rep a b) e (inl h) = absurd (h.3 (peel-at T n 123 ((a ++ (44 ∷ (b ++ (125 ∷ [])))) ++ y) e))
  mark-none star e (inr h) = absurd (past_end h 42 y e)
  mark-none more e (inr h) = absurd (past_end h 43 y e)
  mark-none maybe e (inr h) = absurd (past_end h 63 y e)
  mark-none (rep a b) e (inr h) = absurd (past_end h 123 ((a ++ (44 ∷ (b ++ (125 ∷ [])))) ++ y) e)

  pub mark-star : (m : Mark) → drop n T ≡ spell_mark m ++ y → n < length T → get_or T n 0 ≡ 42 → (times_of m ≡ Star) × (drop (n + 1) T ≡ y)
  unfolding spell_mark
  mark-star bare e t g = absurd ((calm-at T n y calm e t).0 g)
  mark-star star e t g = (refl, peel-tail T n 42 y e)
  mark-star more e t g = let p = peel-at T n 43 y e in absurd (omega arith)
  mark-star maybe e t g = let p = peel-at T n 63 y e in absurd (omega arith)
  mark-star (rep a b) e t g = let p = peel-at T n 123 ((a ++ (44 ∷ (b ++ (125 ∷ [])))) ++ y) e in absurd (omega arith)

  pub mark-more : (m : Mark) → drop n T ≡ spell_mark m ++ y → n < length T → get_or T n 0 ≡ 43 → (times_of m ≡ Plus) × (drop (n + 1) T ≡ y)
  unfolding spell_mark
  mark-more bare e t g = absurd ((calm-at T n y calm e t).1 g)
  mark-more star e t g = let p = peel-at T n 42 y e in absurd (omega arith)
  mark-more more e t g = (refl, peel-tail T n 43 y e)
  mark-more maybe e t g = let p = peel-at T n 63 y e in absurd (omega arith)
  mark-more (rep a b) e t g = let p = peel-at T n 123 ((a ++ (44 ∷ (b ++ (125 ∷ [])))) ++ y) e in absurd (omega arith)

  pub mark-maybe : (m : Mark) → drop n T ≡ spell_mark m ++ y → n < length T → get_or T n 0 ≡ 63 → (times_of m ≡ Maybe) × (drop (n + 1) T ≡ y)
  unfolding spell_mark
  mark-maybe bare e t g = absurd ((calm-at T n y calm e t).2 g)
  mark-maybe star e t g = let p = peel-at T n 42 y e in absurd (omega arith)
  mark-maybe more e t g = let p = peel-at T n 43 y e in absurd (omega arith)
  mark-maybe maybe e t g = (refl, peel-tail T n 63 y e)
  mark-maybe (rep a b) e t g = let p = peel-at T n 123 ((a ++ (44 ∷ (b ++ (125 ∷ [])))) ++ y) e in absurd (omega arith)

  number-most : (ds : List ℕ) → ok_number ds ≡ true → number_from 0 ds ≤ 300
  unfolding ok_number
  number-most ds h = leb-true (number_from 0 ds) 300 (both (leb 1 (length ds) && leb (length ds) 3 && all_digits ds) (leb (number_from 0 ds) 300) h).1

  -- i after the first number, j after the second
  pub mark-rep : (m : Mark) (v i q w j k : ℕ) → ok_mark m ≡ true → drop n T ≡ spell_mark m ++ y → n < length T → get_or T n 0 ≡ 123
      → Digit-facts T (n + 1) v i → (i < length T → q ≡ i + 1) → Digit-facts T q w j → (j < length T → k ≡ j + 1) → (times_of m ≡ Between v w) × (drop k T ≡ y)
  unfolding spell_mark ok_mark
  mark-rep bare v i q w j k ok e t g f s f2 s2 = absurd ((calm-at T n y calm e t).3 g)
  mark-rep star v i q w j k ok e t g f s f2 s2 = let p = peel-at T n 42 y e in absurd (omega arith)
  mark-rep more v i q w j k ok e t g f s f2 s2 = let p = peel-at T n 43 y e in absurd (omega arith)
  mark-rep maybe v i q w j k ok e t g f s f2 s2 = let p = peel-at T n 63 y e in absurd (omega arith)
  mark-rep (rep a b) v i q w j k ok e t g f s f2 s2 =
      let u = both (ok_number a && ok_number b) (leb (number_from 0 a) (number_from 0 b)) ok in
      let z = both (ok_number a) (ok_number b) u.0 in
      let e1 : drop (n + 1) T ≡ a ++ (44 ∷ (b ++ (125 ∷ y))) =
      peel-tail T n 123 ((a ++ (44 ∷ (b ++ (125 ∷ [])))) ++ y) e ∙ assoc a (44 ∷ (b ++ (125 ∷ []))) y ∙ ap (λ z. a ++ (44 ∷ z)) (assoc b (125 ∷ []) y) in
      let (x1, d1) = f a 44 (b ++ (125 ∷ y)) (number_digits a z.0) (number-most a z.0) comma e1 in
      let e2 : drop q T ≡ b ++ (125 ∷ y) = ap (λ z. drop z T) (s (peel-lt T i 44 (b ++ (125 ∷ y)) d1)) ∙ peel-tail T i 44 (b ++ (125 ∷ y)) d1 in
      let (x2, d2) = f2 b 125 y (number_digits b z.1) (number-most b z.1) brace e2 in
      (rw (x1, x2), ap (λ z. drop z T) (s2 (peel-lt T j 125 y d2)) ∙ peel-tail T j 125 y d2)
    where
      comma : is_digit 44 ≡ false
      comma = unfold is_digit in refl

      brace : is_digit 125 ≡ false
      brace = unfold is_digit in refl
