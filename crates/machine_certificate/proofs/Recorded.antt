-- A configuration is compared by all of its numbers, and a record is found exactly when it is there. Assumes nothing.
use Prim.Native.Nat.{ℕ, ◌+◌, ◌*◌, ◌<◌}
use mathlib.Core.Path.{◌≡◌, refl, sym, ap, ap₂, ◌∙◌}
use mathlib.Core.Bool.{Bool, true, false, ◌&&◌, ◌||◌, not, true≢false, false≢true}
use mathlib.Core.List.{List, [], ◌∷◌}
use mathlib.Core.Logic.{◌↔◌}
use native.Mathlib.Omega.{arith}
use lib.ListN.{get_or, take, drop}
use lib.Seq.{drop-drop}
use lib.Dec.{eqb, ltb}
use borrow.Author.Tests.{eq-eqb, ltb-false, not-false}
use Rattle.std.specs.declared.cmp.Ordering.{Ordering}
use Rattle.std.specs.declared.cmp.Ordering.TheVariants.{Less, Equal, Greater}
use Rattle.std.specs.Ordering.{is_eq}
use Rattle.numbers.specs.Number.{num, before, compare}
use Rattle.sets.specs.Set.{read_at}
use Rattle.numbers.proofs.Order.{before-irrefl, compare-before, compare-after, compare-equal}
use Rattle.rules.specs.Scan.{some, every}
use Rattle.rules.proofs.Scanning.{both, neither, some-intro, some-elim, every-at, every-all, equal_words}
use Rattle.machine.specs.declared.Config.{Config}
use Rattle.machine.specs.Record.{config_at}
use Rattle.machine.proofs.Programs.{config-one}
use Rattle.machine.proofs.Records.{fours-at}
use Rattle.machine_certificate.specs.Certificate.{notes, note_config, note_set, numbers_of, same_config, noted}
use Rattle.machine_certificate.specs.Words.{Noted, Recorded}

-- ---- tests in words

pub both_words : (A B : Type 0) (a b : Bool) → a ≡ true ↔ A → b ≡ true ↔ B → (a && b) ≡ true ↔ (A × B)
both_words A B a b f g = (λ e. let r = both a b e in (f.0 r.0, g.0 r.1), λ p. rw (f.1 p.0, g.1 p.1))

pub neither-words : (A B : Type 0) (a b : Bool) → a ≡ false ↔ A → b ≡ false ↔ B → (a || b) ≡ false ↔ (A × B)
neither-words A B a b f g = (λ e. let r = neither a b e in (f.0 r.0, g.0 r.1), λ p. rw (f.1 p.0, g.1 p.1))

pub not-words : (A : Type 0) (a : Bool) → a ≡ true ↔ A → not a ≡ false ↔ A
not-words A a f = (λ e. f.0 (not-false a e), λ p. ap not (f.1 p))

pub every-words : (n : ℕ) (p : ℕ → Bool) (A : ℕ → Type 0) → ((i : ℕ) → p i ≡ true ↔ A i) → every n p ≡ true ↔ ((i : ℕ) → i < n → A i)
every-words n p A f = (λ e i l. (f i).0 (every-at n p e i l), λ h. every-all n p (λ i l. (f i).1 (h i l)))

-- ---- the bytes of a record

pub noted-so : (Z : List ℕ) → Noted Z
unfolding note_config note_set config_at read_at
noted-so Z =
    record {
      many = refl;
      state = λ i. refl;
      reserved = λ i. ap (λ (b : List ℕ). num 8 (take 2 b)) (drop-drop 2 (204 * i) Z);
      bits = λ i. ap (λ (b : List ℕ). num 8 (take 8 b)) (drop-drop 4 (204 * i) Z);
      counter = λ i k l.
          fours-at 16 (drop 12 (drop (204 * i) Z)) k l
          ∙ ap (λ (b : List ℕ). num 8 (take 4 b)) (drop-drop (4 * k) 12 (drop (204 * i) Z) ∙ drop-drop (12 + 4 * k) (204 * i) Z ∙ ap (λ (n : ℕ). drop n Z) (apart (204 * i) (4 * k)));
      set = λ i. refl;
    }
  where
    apart : (a b : ℕ) → a + (12 + b) ≡ a + 12 + b
    apart a b = omega arith

-- ---- the same configuration

-- of any two strings one comes before the other, or they are the same
before-none : (a b : List ℕ) → before a b ≡ false → before b a ≡ false → a ≡ b
unfolding before
before-none [] [] p q = refl
before-none [] (y ∷ b) p q = absurd (true≢false p)
before-none (x ∷ a) [] p q = absurd (true≢false q)
before-none (x ∷ a) (y ∷ b) p q =
    let r = neither (ltb x y) (eqb x y && before a b) p in
    let s = neither (ltb y x) (eqb y x && before b a) q in
    let e : x ≡ y = omega (arith, ltb-false x y r.0, ltb-false y x s.0) in
    ap₂ (λ (u : ℕ) (v : List ℕ). u ∷ v) e (before-none a b (rw (eq-eqb x y e) at r.1) (rw (eq-eqb y x (sym e)) at s.1))

compare-none : (a b : List ℕ) → compare a b ≡ Equal → a ≡ b
compare-none a b e = go (before a b) (before b a) refl refl
  where
    go : (p q : Bool) → before a b ≡ p → before b a ≡ q → a ≡ b
    go true q f g = absurd (let o = compare-before a b f in cc)
    go false true f g = absurd (let o = compare-after a b f g in cc)
    go false false f g = before-none a b f g

compare-itself : (a : List ℕ) → compare a a ≡ Equal
compare-itself a = compare-equal a a (before-irrefl a) (before-irrefl a)

head-same : (x y : ℕ) (a b : List ℕ) → x ∷ a ≡ y ∷ b → (x ≡ y) × (a ≡ b)
head-same x y a b e = (ap (λ (l : List ℕ). get_or l 0 0) e, ap (drop 1) e)

-- it is the same exactly when it is one
pub same-exactly : (x y : Config) → same_config x y ≡ true ↔ (x ≡ y)
unfolding same_config
same-exactly x y = (there, back)
  where
    equal : (o : Ordering) → is_eq o ≡ true → o ≡ Equal
    equal Less e = absurd (false≢true e)
    equal Equal e = refl
    equal Greater e = absurd (false≢true e)

    there : is_eq (compare (numbers_of x) (numbers_of y)) ≡ true → x ≡ y
    there e =
        let r = head-same x.state y.state _ _ (compare-none (numbers_of x) (numbers_of y) (equal (compare (numbers_of x) (numbers_of y)) e)) in
        let s = head-same x.bits y.bits x.counters y.counters r.1 in
        config-one x y r.0 s.0 s.1

    back : x ≡ y → is_eq (compare (numbers_of x) (numbers_of y)) ≡ true
    back e = ap is_eq (ap (λ (z : Config). compare (numbers_of z) (numbers_of y)) e ∙ compare-itself (numbers_of y))

-- ---- recorded

pub noted-exactly : (Z : List ℕ) (x : Config) (F : ℕ) → noted Z x F ≡ true ↔ Recorded Z x F
unfolding noted
noted-exactly Z x F = (there, back)
  where
    here : (i : ℕ) → (same_config (note_config Z i) x && eqb (note_set Z i) F) ≡ true ↔ ((note_config Z i ≡ x) × (note_set Z i ≡ F))
    here i = both_words (note_config Z i ≡ x) (note_set Z i ≡ F) (same_config (note_config Z i) x) (eqb (note_set Z i) F) (same-exactly (note_config Z i) x) (equal_words (note_set Z i) F)

    there : some (notes Z) (λ i. same_config (note_config Z i) x && eqb (note_set Z i) F) ≡ true → Recorded Z x F
    there e =
        let r = some-elim (notes Z) (λ i. same_config (note_config Z i) x && eqb (note_set Z i) F) e in
        let w = (here r.0).0 r.2 in
        (r.0, r.1, w.0, w.1)

    back : Recorded Z x F → some (notes Z) (λ i. same_config (note_config Z i) x && eqb (note_set Z i) F) ≡ true
    back w = some-intro (notes Z) (λ i. same_config (note_config Z i) x && eqb (note_set Z i) F) w.0 w.1 ((here w.0).1 (w.2, w.3))
