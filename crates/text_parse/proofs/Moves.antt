-- The acceptor's verdict from a place on: one byte, or the end.
use Prim.Native.Nat.{ℕ, zero, suc, ◌+◌, ◌-◌, ◌*◌, ◌≤◌, ◌<◌}
use mathlib.Core.Path.{◌≡◌, refl, sym, ap, ◌∙◌}
use mathlib.Core.Bool.{Bool, true, false, ◌&&◌, ◌||◌, cond}
use mathlib.Core.List.{List, [], ◌∷◌}
use native.Mathlib.Omega.{arith}
use native.Mathlib.Numerals.{add-one}
use lib.Dec.{leb, ltb, eqb}
use lib.ListN.{length, drop, get_or}
use lib.Seq.{drop-cons}
use borrow.Author.Tests.{eq-eqb, ne_eqb, le-leb, le-ltb, eqb-true, eqb-false}
use Rattle.std.specs.Int.{from_bool}
use Rattle.text.specs.inner.Heads.{head_of}
use Rattle.text.specs.Grammar.{amid, special, is_digit}
use Rattle.text.specs.Acceptor.{Mode, begin, fresh, after, esc, opened, num, State, dead, live, can, close, items, digit, mode, step, resting, good, is_dead, deep, verdict}
use Rattle.std.specs.Prelude.{Option, Some, None, Ok}
use Rattle.text_parse.specs.inner.Went.{state_of, mode_of, counted}
use Rattle.text_parse.specs.declared.Inner.{Inner}
use Rattle.text_parse.specs.declared.Inner.TheVariants.{Esc, Hex1, Hex2, Opened, Caret, Member, Lone, ClassEsc, ClassHex1, ClassHex2, To, ToEsc, ToHex1, ToHex2}
use Rattle.text_parse.specs.declared.Step.{Step}
use Rattle.text_parse.specs.declared.Step.TheVariants.{Over, On}

drop_past : (T : List ℕ) (i : ℕ) → length T ≤ i → drop i T ≡ []
drop_past [] zero h = refl
drop_past [] (suc i) h = refl
drop_past (c ∷ T) zero h = absurd (omega arith)
drop_past (c ∷ T) (suc i) h = drop_past T i (omega arith)

module _ (T : List ℕ) (d i : ℕ) (m : Mode) (small : d ≤ 16) where
  shallow : deep (live d m) ≡ false
  unfolding deep
  shallow = le-ltb 16 d small

  pub on : (s : State) → i < length T → mode d m (get_or T i 0) ≡ s → is_dead s ≡ false → verdict (live d m) i (drop i T) ≡ verdict s (i + 1) (drop (i + 1) T)
  unfolding verdict step
  on s l e a = rw (add-one, drop-cons T i 0 l, e, shallow, a)

  pub off : i < length T → mode d m (get_or T i 0) ≡ dead → verdict (live d m) i (drop i T) ≡ (19, i)
  unfolding verdict step is_dead
  off l e = rw (drop-cons T i 0 l, e, shallow)

  pub cut : length T ≤ i → good (live d m) ≡ false → verdict (live d m) i (drop i T) ≡ (19, i)
  unfolding verdict
  cut l g = rw (drop_past T i l, shallow, g)

  pub ended : length T ≤ i → good (live d m) ≡ true → verdict (live d m) i (drop i T) ≡ (0, 0)
  unfolding verdict
  ended l g = rw (drop_past T i l, shallow, g)

pub alive : (d : ℕ) (m : Mode) → is_dead (live d m) ≡ false
unfolding is_dead
alive d m = refl

-- ---- inside an escape or a class

inner-busy : (m : Inner) → resting (mode_of m) ≡ false
unfolding resting
inner-busy Esc = refl
inner-busy Hex1 = refl
inner-busy Hex2 = refl
inner-busy Opened = refl
inner-busy Caret = refl
inner-busy Member = refl
inner-busy (Lone v) = refl
inner-busy ClassEsc = refl
inner-busy ClassHex1 = refl
inner-busy (ClassHex2 a) = refl
inner-busy (To v) = refl
inner-busy (ToEsc v) = refl
inner-busy (ToHex1 v) = refl
inner-busy (ToHex2 v a) = refl

pub unrested : (d : ℕ) (m : Mode) → resting m ≡ false → good (live d m) ≡ false
unfolding good
unrested zero m h = h
unrested (suc d) m h = refl

module _ (T : List ℕ) (i : ℕ) (m : Inner) where
  module _ (s : Option Step) (there : i < length T) (next : (d : ℕ) → state_of d s ≡ mode d (mode_of m) (get_or T i 0)) where
    pub inside-dead : (d : ℕ) → d ≤ 16 → s ≡ None → verdict (live d (mode_of m)) i (drop i T) ≡ (19, i)
    inside-dead d l e = off T d i (mode_of m) l there (sym (next d) ∙ ap (state_of d) e)

    pub inside-over : (d : ℕ) → d ≤ 16 → s ≡ Some Over → verdict (live d (mode_of m)) i (drop i T) ≡ verdict (live d after) (i + 1) (drop (i + 1) T)
    inside-over d l e = on T d i (mode_of m) l (live d after) there (sym (next d) ∙ ap (state_of d) e) (alive d after)

    pub inside_on : (d : ℕ) (n : Inner) → d ≤ 16 → s ≡ Some (On n) → verdict (live d (mode_of m)) i (drop i T) ≡ verdict (live d (mode_of n)) (i + 1) (drop (i + 1) T)
    inside_on d n l e = on T d i (mode_of m) l (live d (mode_of n)) there (sym (next d) ∙ ap (state_of d) e) (alive d (mode_of n))

  pub inside-cut : (d : ℕ) → length T ≤ i → d ≤ 16 → verdict (live d (mode_of m)) i (drop i T) ≡ (19, i)
  inside-cut d h l = cut T d i (mode_of m) l h (unrested d (mode_of m) (inner-busy m))

-- ---- numbers

module _ (T : List ℕ) (i : ℕ) (second : Bool) (low r v d : ℕ) (l : d ≤ 16) where
  pub num-cut : length T ≤ i → verdict (live d (num second low r v)) i (drop i T) ≡ (19, i)
  num-cut h = cut T d i (num second low r v) l h (unrested d (num second low r v) (unfold resting in refl))

  module _ (there : i < length T) where
    pub num-ends : get_or T i 0 ≡ cond second 125 44 → (ltb r 3 && leb low v) ≡ true → v ≤ 300 → verdict (live d (num second low r v)) i (drop i T) ≡ counted T d second (Ok (record { value = v; next = i + 1 }))
    num-ends e h k = go second refl
      where
        moves : mode d (num second low r v) (get_or T i 0) ≡ cond second (live d fresh) (live d (num true v 3 0))
        moves = unfold mode in rw (eq-eqb (get_or T i 0) (cond second 125 44) e, h, le-leb v 300 k)

        go : (b : Bool) → second ≡ b → verdict (live d (num second low r v)) i (drop i T) ≡ counted T d b (Ok (record { value = v; next = i + 1 }))
        go true z = on T d i (num second low r v) l (live d fresh) there (moves ∙ ap (λ b. cond b (live d fresh) (live d (num true v 3 0))) z) (alive d fresh)
        go false z = on T d i (num second low r v) l (live d (num true v 3 0)) there (moves ∙ ap (λ b. cond b (live d fresh) (live d (num true v 3 0))) z) (alive d (num true v 3 0))

    pub num-refused : get_or T i 0 ≡ cond second 125 44 → (ltb r 3 && leb low v) ≡ false → verdict (live d (num second low r v)) i (drop i T) ≡ (19, i)
    num-refused e h = off T d i (num second low r v) l there (unfold mode in rw (eq-eqb (get_or T i 0) (cond second 125 44) e, h))

    module _ (other : get_or T i 0 ≡ cond second 125 44 → ⊥) where
      into : mode d (num second low r v) (get_or T i 0) ≡ digit d second low r v (get_or T i 0)
      unfolding mode
      into = rw (ne_eqb (get_or T i 0) (cond second 125 44) other)

      pub num-none : r ≡ 0 → verdict (live d (num second low r v)) i (drop i T) ≡ (19, i)
      num-none e = off T d i (num second low r v) l there (into ∙ ap (λ z. digit d second low z v (get_or T i 0)) e ∙ (unfold digit in refl))

      digits : (r ≡ 0 → ⊥) → digit d second low r v (get_or T i 0) ≡ cond (is_digit (get_or T i 0) && can low (r - 1) (10 * v + (get_or T i 0 - 48))) (live d (num second low (r - 1) (10 * v + (get_or T i 0 - 48)))) dead
      digits h = ap (λ z. digit d second low z v (get_or T i 0)) e ∙ (unfold digit in refl)
        where
          e : r ≡ suc (r - 1)
          e = omega arith

      pub num-other : (r ≡ 0 → ⊥) → is_digit (get_or T i 0) ≡ false → verdict (live d (num second low r v)) i (drop i T) ≡ (19, i)
      num-other h k = off T d i (num second low r v) l there (into ∙ digits h ∙ rw k)

      pub num-over : (r ≡ 0 → ⊥) → is_digit (get_or T i 0) ≡ true → can low (r - 1) (10 * v + (get_or T i 0 - 48)) ≡ false → verdict (live d (num second low r v)) i (drop i T) ≡ (19, i)
      num-over h k g = off T d i (num second low r v) l there (into ∙ digits h ∙ rw (k, g))

      pub num-on : (r ≡ 0 → ⊥) → is_digit (get_or T i 0) ≡ true → can low (r - 1) (10 * v + (get_or T i 0 - 48)) ≡ true
          → verdict (live d (num second low r v)) i (drop i T) ≡ verdict (live d (num second low (r - 1) (10 * v + (get_or T i 0 - 48)))) (i + 1) (drop (i + 1) T)
      num-on h k g =
          on T d i (num second low r v) l (live d (num second low (r - 1) (10 * v + (get_or T i 0 - 48)))) there (into ∙ digits h ∙ rw (k, g))
          (alive d (num second low (r - 1) (10 * v + (get_or T i 0 - 48))))

-- ---- the mark after an item

same_step : (T : List ℕ) (d i : ℕ) (m n : Mode) → i < length T → mode d m (get_or T i 0) ≡ mode d n (get_or T i 0) → verdict (live d m) i (drop i T) ≡ verdict (live d n) i (drop i T)
unfolding verdict step deep
same_step T d i m n l e = rw (drop-cons T i 0 l, e)

same_end : (T : List ℕ) (d i : ℕ) (m n : Mode) → length T ≤ i → resting m ≡ true → resting n ≡ true → verdict (live d m) i (drop i T) ≡ verdict (live d n) i (drop i T)
unfolding verdict deep good
same_end T zero i m n l a b = rw (drop_past T i l, a, b)
same_end T (suc d) i m n l a b = rw (drop_past T i l)

module _ (T : List ℕ) (d i : ℕ) (l : d ≤ 16) where
  pub mark-past : length T ≤ i → verdict (live d after) i (drop i T) ≡ verdict (live d fresh) i (drop i T)
  mark-past h = same_end T d i after fresh h (unfold resting in refl) (unfold resting in refl)

  module _ (there : i < length T) where
    pub mark-open : get_or T i 0 ≡ 123 → verdict (live d after) i (drop i T) ≡ verdict (live d (num false 0 3 0)) (i + 1) (drop (i + 1) T)
    mark-open e = on T d i after l (live d (num false 0 3 0)) there (ap (mode d after) e ∙ (unfold mode in refl)) (alive d (num false 0 3 0))

    pub mark_on : (eqb (get_or T i 0) 42 || eqb (get_or T i 0) 43 || eqb (get_or T i 0) 63) ≡ true → verdict (live d after) i (drop i T) ≡ verdict (live d fresh) (i + 1) (drop (i + 1) T)
    mark_on h = on T d i after l (live d fresh) there (unfold mode in rw h) (alive d fresh)

    pub mark-none : (get_or T i 0 ≡ 123 → ⊥) → (eqb (get_or T i 0) 42 || eqb (get_or T i 0) 43 || eqb (get_or T i 0) 63) ≡ false → verdict (live d after) i (drop i T) ≡ verdict (live d fresh) i (drop i T)
    mark-none n h = same_step T d i after fresh there (unfold mode in rw (h, ne_eqb (get_or T i 0) 123 n))

    -- ---- items

    turn : (c : ℕ) (s : State) → get_or T i 0 ≡ c → items d c ≡ s → is_dead s ≡ false → verdict (live d fresh) i (drop i T) ≡ verdict s (i + 1) (drop (i + 1) T)
    turn c s e h a = on T d i fresh l s there (ap (mode d fresh) e ∙ (unfold mode in h)) a

    pub item-bar : get_or T i 0 ≡ 124 → verdict (live d fresh) i (drop i T) ≡ verdict (live d fresh) (i + 1) (drop (i + 1) T)
    item-bar e = turn 124 (live d fresh) e (unfold items in refl) (alive d fresh)

    pub item-open : get_or T i 0 ≡ 40 → verdict (live d fresh) i (drop i T) ≡ verdict (live (d + 1) fresh) (i + 1) (drop (i + 1) T)
    item-open e = turn 40 (live (d + 1) fresh) e (unfold items in rw add-one refl) (alive (d + 1) fresh)

    pub item-class : get_or T i 0 ≡ 91 → verdict (live d fresh) i (drop i T) ≡ verdict (live d opened) (i + 1) (drop (i + 1) T)
    item-class e = turn 91 (live d opened) e (unfold items in refl) (alive d opened)

    pub item-esc : get_or T i 0 ≡ 92 → verdict (live d fresh) i (drop i T) ≡ verdict (live d esc) (i + 1) (drop (i + 1) T)
    item-esc e = turn 92 (live d esc) e (unfold items in refl) (alive d esc)

    pub item-dot : get_or T i 0 ≡ 46 → verdict (live d fresh) i (drop i T) ≡ verdict (live d after) (i + 1) (drop (i + 1) T)
    item-dot e = turn 46 (live d after) e (unfold items in refl) (alive d after)

    module _ (n124 : get_or T i 0 ≡ 124 → ⊥) (n40 : get_or T i 0 ≡ 40 → ⊥) (n41 : get_or T i 0 ≡ 41 → ⊥) (n46 : get_or T i 0 ≡ 46 → ⊥) (n91 : get_or T i 0 ≡ 91 → ⊥) (n92 : get_or T i 0 ≡ 92 → ⊥) where
      other : mode d fresh (get_or T i 0) ≡ cond (amid (get_or T i 0) special) dead (live d after)
      unfolding mode items
      other =
          rw (ne_eqb (get_or T i 0) 124 n124, ne_eqb (get_or T i 0) 40 n40, ne_eqb (get_or T i 0) 41 n41, ne_eqb (get_or T i 0) 46 n46, ne_eqb (get_or T i 0) 91 n91, ne_eqb (get_or T i 0) 92 n92)

      pub item-bad : amid (get_or T i 0) special ≡ true → verdict (live d fresh) i (drop i T) ≡ (19, i)
      item-bad h = off T d i fresh l there (other ∙ ap (λ z. cond z dead (live d after)) h)

      pub item-plain : amid (get_or T i 0) special ≡ false → verdict (live d fresh) i (drop i T) ≡ verdict (live d after) (i + 1) (drop (i + 1) T)
      item-plain h = on T d i fresh l (live d after) there (other ∙ ap (λ z. cond z dead (live d after)) h) (alive d after)

too-deep : (w : List ℕ) (i : ℕ) → verdict (live 17 fresh) i w ≡ (20, 0)
unfolding verdict deep
too-deep [] i = refl
too-deep (c ∷ w) i = refl

pub item-deep : (T : List ℕ) (d i : ℕ) → i < length T → get_or T i 0 ≡ 40 → d ≡ 16 → verdict (live d fresh) i (drop i T) ≡ (20, 0)
item-deep T d i l e h = item-open T d i (omega arith) l e ∙ ap (λ z. verdict (live z fresh) (i + 1) (drop (i + 1) T)) k ∙ too-deep (drop (i + 1) T) (i + 1)
  where
    k : d + 1 ≡ 17
    k = omega arith

-- a bracket closes
pub group-close : (T : List ℕ) (d i : ℕ) → d + 1 ≤ 16 → i < length T → get_or T i 0 ≡ 41 → verdict (live (d + 1) fresh) i (drop i T) ≡ verdict (live d after) (i + 1) (drop (i + 1) T)
group-close T d i l h e = on T (d + 1) i fresh l (live d after) h (ap (mode (d + 1) fresh) e ∙ (unfold mode items close in rw add-one refl)) (alive d after)

pub group-cut : (T : List ℕ) (d i : ℕ) → d + 1 ≤ 16 → length T ≤ i → verdict (live (d + 1) fresh) i (drop i T) ≡ (19, i)
group-cut T d i l h = cut T (d + 1) i fresh l h (unfold good in rw add-one refl)

-- ---- the whole text

front-caret : (T : List ℕ) → 0 < length T → get_or T 0 0 ≡ 94 → verdict (live 0 begin) 0 T ≡ verdict (live 0 fresh) 1 (drop 1 T)
front-caret T l e = on T 0 0 begin (omega arith) (live 0 fresh) l (ap (mode 0 begin) e ∙ (unfold mode in refl)) (alive 0 fresh)

front-other : (T : List ℕ) → 0 < length T → (get_or T 0 0 ≡ 94 → ⊥) → verdict (live 0 begin) 0 T ≡ verdict (live 0 fresh) 0 (drop 0 T)
front-other T l n = same_step T 0 0 begin fresh l (unfold mode in rw (ne_eqb (get_or T 0 0) 94 n))

front-none : (T : List ℕ) → length T ≤ 0 → verdict (live 0 begin) 0 T ≡ verdict (live 0 fresh) 0 (drop 0 T)
front-none T l = same_end T 0 0 begin fresh l (unfold resting in refl) (unfold resting in refl)

pub front-at : (T : List ℕ) (b : Bool) → b ≡ eqb (head_of 0 T) 94 → (verdict (live 0 begin) 0 T ≡ verdict (live 0 fresh) (from_bool b) (drop (from_bool b) T)) × (from_bool b ≤ length T)
front-at [] true e = cc
front-at [] false e = (front-none [] (omega arith), omega arith)
front-at (c ∷ T) true e = (front-caret (c ∷ T) (omega arith) (eqb-true c 94 (sym e)), omega arith)
front-at (c ∷ T) false e = (front-other (c ∷ T) (omega arith) (eqb-false c 94 (sym e)), omega arith)

pub whole-good : (T : List ℕ) (i : ℕ) → length T ≤ i → verdict (live 0 fresh) i (drop i T) ≡ (0, 0)
whole-good T i l = ended T 0 i fresh (omega arith) l (unfold good resting in refl)

pub whole-closed : (T : List ℕ) (i : ℕ) → i < length T → get_or T i 0 ≡ 41 → verdict (live 0 fresh) i (drop i T) ≡ (19, i)
whole-closed T i l e = off T 0 i fresh (omega arith) l (ap (mode 0 fresh) e ∙ (unfold mode items close in refl))
