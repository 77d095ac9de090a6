-- A state that is not dead has a continuation that ends well.
use Prim.Native.Nat.{ℕ, zero, suc, ◌+◌, ◌-◌, ◌*◌, ◌≤◌, ◌<◌}
use mathlib.Core.Path.{◌≡◌, refl, sym, subst, ◌∙◌}
use mathlib.Core.Bool.{Bool, true, false, ◌&&◌, ◌||◌, cond, false≢true}
use mathlib.Core.List.{List, [], ◌∷◌}
use mathlib.Core.Logic.{⊎_elim, ◌⊎◌, inl, inr}
use native.Mathlib.Omega.{arith}
use lib.Dec.{leb, ltb, eqb}
use borrow.Author.Tests.{eq-eqb, ne_eqb, lt-ltb, le-ltb, leb-true, le-leb}
use Rattle.text.specs.Grammar.{Bytes, amid, special, class_special, is_digit, is_hex, hex_value}
use Rattle.rules.specs.Scan.{some}
use Rattle.text.specs.Acceptor.{Mode, begin, fresh, after, esc, hex1, hex2, opened, caret, member, lone1, cesc, chex1, chex2, to, tesc, thex1, thex2, num, State, dead, live, can, close, items, members, digit, mode, step, run, resting, good}
use Rattle.text.proofs.Places.{both, and-true, or-either, or_left, or_right}

-- ---- what holds of a mode that bytes lead to

abbrev pub FineMode : Mode → Type 0
FineMode begin = Unit {0}
FineMode fresh = Unit {0}
FineMode after = Unit {0}
FineMode esc = Unit {0}
FineMode hex1 = Unit {0}
FineMode hex2 = Unit {0}
FineMode opened = Unit {0}
FineMode caret = Unit {0}
FineMode member = Unit {0}
FineMode (lone1 v) = v < 256
FineMode cesc = Unit {0}
FineMode chex1 = Unit {0}
FineMode (chex2 a) = hex_value a < 16
FineMode (to v) = v < 256
FineMode (tesc v) = v < 256
FineMode (thex1 v) = v < 256
FineMode (thex2 v a) = v ≤ 16 * hex_value a + 15
FineMode (num second low r v) = ((r < 3) × (can low r v ≡ true)) ⊎ ((r ≡ 3) × (v ≡ 0) × (low ≤ 300))

abbrev pub Fine : State → Type 0
Fine dead = Unit {0}
Fine (live d m) = FineMode m

fine-cond : (b : Bool) (x y : State) → (b ≡ true → Fine x) → (b ≡ false → Fine y) → Fine (cond b x y)
fine-cond true x y f g = f refl
fine-cond false x y f g = g refl

fine-close : (d : ℕ) → Fine (close d)
unfolding close
fine-close zero = tt
fine-close (suc d) = tt

fine-items : (d c : ℕ) → Fine (items d c)
unfolding items
fine-items d c =
    fine-cond (eqb c 124) _ _ (λ _. tt) (λ _. fine-cond (eqb c 40) _ _ (λ _. tt) (λ _. fine-cond (eqb c 41) _ _ (λ _. fine-close d)
    (λ _. fine-cond (eqb c 46) _ _ (λ _. tt) (λ _. fine-cond (eqb c 91) _ _ (λ _. tt) (λ _. fine-cond (eqb c 92) _ _ (λ _. tt)
    (λ _. fine-cond (amid c special) _ _ (λ _. tt) (λ _. tt)))))))

fine-members : (d c : ℕ) → c < 256 → Fine (members d c)
unfolding members
fine-members d c h = fine-cond (eqb c 92) _ _ (λ _. tt) (λ _. fine-cond (amid c class_special) _ _ (λ _. tt) (λ _. h))

pub hex-small : (c : ℕ) → is_hex c ≡ true → hex_value c < 16
unfolding is_hex hex_value is_digit
hex-small c h = go (leb 48 c && leb c 57) refl
  where
    low : leb c 70 ≡ true → (leb 65 c && leb c 70 || (leb 97 c && leb c 102)) ≡ true → cond (leb c 70) (c - 55) (c - 87) < 16
    low e k = rw e (let q : c ≤ 70 = leb-true c 70 e in omega arith)

    high : leb c 70 ≡ false → (leb 65 c && leb c 70 || (leb 97 c && leb c 102)) ≡ true → cond (leb c 70) (c - 55) (c - 87) < 16
    high e k =
        ⊎_elim (λ z. absurd (false≢true (sym e ∙ (both (leb 65 c) (leb c 70) z).1)))
        (λ z. rw e (let q : c ≤ 102 = leb-true c 102 (both (leb 97 c) (leb c 102) z).1 in omega arith))
        (or-either (leb 65 c && leb c 70) (leb 97 c && leb c 102) k)

    split : (b : Bool) → leb c 70 ≡ b → (leb 65 c && leb c 70 || (leb 97 c && leb c 102)) ≡ true → cond (leb c 70) (c - 55) (c - 87) < 16
    split true e k = low e k
    split false e k = high e k

    go : (b : Bool) → (leb 48 c && leb c 57) ≡ b → cond (leb 48 c && leb c 57) (c - 48) (cond (leb c 70) (c - 55) (c - 87)) < 16
    go true e = rw e (let q : c ≤ 57 = leb-true c 57 (both (leb 48 c) (leb c 57) e).1 in omega arith)
    go false e = rw e (split (leb c 70) refl (alpha e))
      where
        alpha : (leb 48 c && leb c 57) ≡ false → (leb 65 c && leb c 70 || (leb 97 c && leb c 102)) ≡ true
        alpha e = ⊎_elim
            (λ z. ⊎_elim (λ y. absurd (false≢true (sym e ∙ y))) (λ y. or_left (leb 65 c && leb c 70) (leb 97 c && leb c 102) y) (or-either (leb 48 c && leb c 57) (leb 65 c && leb c 70) z))
            (λ z. or_right (leb 65 c && leb c 70) (leb 97 c && leb c 102) z)
            (or-either (leb 48 c && leb c 57 || (leb 65 c && leb c 70)) (leb 97 c && leb c 102) h)

fine-digit : (d : ℕ) (second : Bool) (low r v c : ℕ) → r ≤ 3 → Fine (digit d second low r v c)
unfolding digit
fine-digit d second low zero v c h = tt
fine-digit d second low (suc r) v c h =
    fine-cond (is_digit c && can low r (10 * v + (c - 48))) _ _
    (λ e. inl (omega arith, (both (is_digit c) (can low r (10 * v + (c - 48))) e).1)) (λ _. tt)

num-room : (second : Bool) (low r v : ℕ) → FineMode (num second low r v) → r ≤ 3
num-room second low r v (inl (l, e)) = omega arith
num-room second low r v (inr (l, e, k)) = omega arith

pub fine-mode : (d : ℕ) (m : Mode) (c : ℕ) → c < 256 → FineMode m → Fine (mode d m c)
unfolding mode
fine-mode d begin c h f = fine-cond (eqb c 94) _ _ (λ _. tt) (λ _. fine-items d c)
fine-mode d fresh c h f = fine-items d c
fine-mode d after c h f =
    fine-cond (eqb c 42 || eqb c 43 || eqb c 63) _ _ (λ _. tt)
    (λ _. fine-cond (eqb c 123) _ _ (λ _. inr (refl, refl, omega arith)) (λ _. fine-items d c))
fine-mode d esc c h f = fine-cond (eqb c 110 || eqb c 115) _ _ (λ _. tt) (λ _. fine-cond (eqb c 120) _ _ (λ _. tt) (λ _. tt))
fine-mode d hex1 c h f = fine-cond (is_hex c) _ _ (λ _. tt) (λ _. tt)
fine-mode d hex2 c h f = fine-cond (is_hex c) _ _ (λ _. tt) (λ _. tt)
fine-mode d opened c h f = fine-cond (eqb c 94) _ _ (λ _. tt) (λ _. fine-members d c h)
fine-mode d caret c h f = fine-members d c h
fine-mode d member c h f = fine-cond (eqb c 93) _ _ (λ _. tt) (λ _. fine-members d c h)
fine-mode d (lone1 v) c h f = fine-cond (eqb c 93) _ _ (λ _. tt) (λ _. fine-cond (eqb c 45) _ _ (λ _. f) (λ _. fine-members d c h))
fine-mode d cesc c h f =
    fine-cond (eqb c 110) _ _ (λ _. omega arith) (λ _. fine-cond (eqb c 115) _ _ (λ _. tt) (λ _. fine-cond (eqb c 120) _ _ (λ _. tt) (λ _. tt)))
fine-mode d chex1 c h f = fine-cond (is_hex c) _ _ (λ e. hex-small c e) (λ _. tt)
fine-mode d (chex2 a) c h f = fine-cond (is_hex c) _ _ (λ e. omega (arith, hex-small c e)) (λ _. tt)
fine-mode d (to v) c h f = fine-cond (eqb c 92) _ _ (λ _. f) (λ _. fine-cond (amid c class_special || ltb c v) _ _ (λ _. tt) (λ _. tt))
fine-mode d (tesc v) c h f = fine-cond (eqb c 110 && leb v 10) _ _ (λ _. tt) (λ _. fine-cond (eqb c 120) _ _ (λ _. f) (λ _. tt))
fine-mode d (thex1 v) c h f =
    fine-cond (is_hex c && leb v (16 * hex_value c + 15)) _ _
    (λ e. leb-true v (16 * hex_value c + 15) (both (is_hex c) (leb v (16 * hex_value c + 15)) e).1) (λ _. tt)
fine-mode d (thex2 v a) c h f = fine-cond (is_hex c && leb v (16 * hex_value a + hex_value c)) _ _ (λ _. tt) (λ _. tt)
fine-mode d (num second low r v) c h f =
    fine-cond (eqb c (cond second 125 44)) _ _
    (λ _. fine-cond (ltb r 3 && leb low v && leb v 300) _ _
    (λ e. fine-cond second _ _ (λ _. tt) (λ _. inr (refl, refl, leb-true v 300 (both (ltb r 3 && leb low v) (leb v 300) e).1))) (λ _. tt))
    (λ _. fine-digit d second low r v c (num-room second low r v f))

-- ---- how each mode can go on to a good end

pub bytes-none : Bytes []
bytes-none i = omega arith

pub bytes-more : (c : ℕ) (w : List ℕ) → c < 256 → Bytes w → Bytes (c ∷ w)
bytes-more c w l b zero = l
bytes-more c w l b (suc i) = b i

abbrev pub Ends : State → Type 0
Ends s = (v : List ℕ) × Bytes v × (good (run s v) ≡ true)

ends_by : (d : ℕ) (m : Mode) (c : ℕ) (s : State) → c < 256 → mode d m c ≡ s → Ends s → Ends (live d m)
unfolding run step
ends_by d m c s l e (v, b, g) = (c ∷ v, bytes-more c v l b, subst (λ z. good (run z v) ≡ true) (sym e) g)

ends-after : (d : ℕ) → Ends (live d after)
unfolding run good resting
ends-after zero = ([], bytes-none, refl)
ends-after (suc d) = ends_by (suc d) after 41 (live d after) (omega arith) (unfold mode items close in refl) (ends-after d)

ends_fresh : (d : ℕ) → Ends (live d fresh)
unfolding run good resting
ends_fresh zero = ([], bytes-none, refl)
ends_fresh (suc d) = ends_by (suc d) fresh 41 (live d after) (omega arith) (unfold mode items close in refl) (ends-after d)

ends-begin : (d : ℕ) → Ends (live d begin)
ends-begin d = ends_by d begin 94 (live d fresh) (omega arith) (unfold mode in refl) (ends_fresh d)

ends-member : (d : ℕ) → Ends (live d member)
ends-member d = ends_by d member 93 (live d after) (omega arith) (unfold mode in refl) (ends-after d)

ends-lone : (d v : ℕ) → Ends (live d (lone1 v))
ends-lone d v = ends_by d (lone1 v) 93 (live d after) (omega arith) (unfold mode in refl) (ends-after d)

ends-caret : (d : ℕ) → Ends (live d caret)
ends-caret d = ends_by d caret 97 (live d (lone1 97)) (omega arith) (unfold mode members amid in refl) (ends-lone d 97)

ends-chex2 : (d a : ℕ) → Ends (live d (chex2 a))
ends-chex2 d a = ends_by d (chex2 a) 48 (live d (lone1 (16 * hex_value a + hex_value 48))) (omega arith) (unfold mode is_hex is_digit in refl) (ends-lone d _)

ends-hex2 : (d : ℕ) → Ends (live d hex2)
ends-hex2 d = ends_by d hex2 48 (live d after) (omega arith) (unfold mode is_hex is_digit in refl) (ends-after d)

ends-thex2 : (d v a : ℕ) → v ≤ 16 * hex_value a + 15 → Ends (live d (thex2 v a))
unfolding mode is_hex is_digit
ends-thex2 d v a h =
    ends_by d (thex2 v a) 70 (live d member) (omega arith)
    (let e : hex_value 70 ≡ 15 = unfold hex_value is_digit in refl in rw (e, le-leb v (16 * hex_value a + 15) h))
    (ends-member d)

ends-thex1 : (d v : ℕ) → v < 256 → Ends (live d (thex1 v))
unfolding mode is_hex is_digit
ends-thex1 d v h =
    let e : hex_value 70 ≡ 15 = unfold hex_value is_digit in refl in
    ends_by d (thex1 v) 70 (live d (thex2 v 70)) (omega arith) (rw (e, le-leb v 255 (omega arith))) (ends-thex2 d v 70 (rw e (omega arith)))

-- numbers
pub some-elim : (n : ℕ) (p : ℕ → Bool) → some n p ≡ true → (i : ℕ) × (i < n) × (p i ≡ true)
unfolding some
some-elim zero p h = absurd (false≢true h)
some-elim (suc n) p h =
    ⊎_elim (λ z. let (i, l, e) = some-elim n p z in (i, omega arith, e)) (λ z. (n, omega arith, z)) (or-either (some n p) (p n) h)

pub digit-is : (i : ℕ) → i < 10 → is_digit (48 + i) ≡ true
unfolding is_digit
digit-is i h = and-true (leb 48 (48 + i)) (leb (48 + i) 57) (le-leb 48 (48 + i) (omega arith)) (le-leb (48 + i) 57 (omega arith))

-- a digit is no separator
no-mark : (second : Bool) (i : ℕ) → i < 10 → eqb (48 + i) (cond second 125 44) ≡ false
no-mark true i h = ne_eqb (48 + i) 125 (λ e. omega arith)
no-mark false i h = ne_eqb (48 + i) 44 (λ e. omega arith)

by-digit : (d : ℕ) (second : Bool) (low r v i : ℕ) → i < 10 → can low r (10 * v + i) ≡ true
    → mode d (num second low (suc r) v) (48 + i) ≡ live d (num second low r (10 * v + i))
unfolding mode digit
by-digit d second low r v i h k =
    let e : 48 + i - 48 ≡ i = omega arith in
    rw (no-mark second i h, e, digit-is i h, k)

pub by-mark : (d : ℕ) (second : Bool) (low r v : ℕ) → r < 3 → (leb low v && leb v 300) ≡ true
    → mode d (num second low r v) (cond second 125 44) ≡ cond second (live d fresh) (live d (num true v 3 0))
unfolding mode
by-mark d second low r v h k =
    let q = both (leb low v) (leb v 300) k in
    rw (eq-eqb (cond second 125 44) (cond second 125 44) refl, lt-ltb r 3 h, q.0, q.1)

mark-small : (second : Bool) → cond second 125 44 < 256
mark-small true = omega arith
mark-small false = omega arith

ends-num : (d : ℕ) (second : Bool) (low r v : ℕ) → r < 3 → can low r v ≡ true
    → ((w : ℕ) → w ≤ 300 → Ends (cond second (live d fresh) (live d (num true w 3 0)))) → Ends (live d (num second low r v))
unfolding can
ends-num d second low zero v h k f =
    ends_by d (num second low zero v) (cond second 125 44) _ (mark-small second) (by-mark d second low zero v h k) (f v (leb-true v 300 (both (leb low v) (leb v 300) k).1))
ends-num d second low (suc r) v h k f =
    ⊎_elim
    (λ z. ends_by d (num second low (suc r) v) (cond second 125 44) _ (mark-small second) (by-mark d second low (suc r) v h z) (f v (leb-true v 300 (both (leb low v) (leb v 300) z).1)))
    (λ z.
    let (i, l, e) = some-elim 10 (λ i. can low r (10 * v + i)) z in
    ends_by d (num second low (suc r) v) (48 + i) _ (omega arith) (by-digit d second low r v i l e) (ends-num d second low r (10 * v + i) (omega arith) e f))
    (or-either (leb low v && leb v 300) (some 10 (λ i. can low r (10 * v + i))) k)

some_at : (n : ℕ) (p : ℕ → Bool) → 0 < n → p 0 ≡ true → some n p ≡ true
unfolding some
some_at zero p h e = absurd (omega arith)
some_at (suc zero) p h e = e
some_at (suc (suc n)) p h e = or_left (some (suc n) p) (p (suc n)) (some_at (suc n) p (omega arith) e)

three : (low : ℕ) → low ≤ 300 → can low 2 3 ≡ true
unfolding can
three low h =
    or_right (leb low 3 && leb 3 300) (some 10 (λ i. can low 1 (10 * 3 + i)))
    (some_at 10 (λ i. can low 1 (10 * 3 + i)) (omega arith)
    (or_right (leb low 30 && leb 30 300) (some 10 (λ i. can low 0 (10 * 30 + i)))
    (some_at 10 (λ i. can low 0 (10 * 30 + i)) (omega arith) (and-true (leb low 300) (leb 300 300) (le-leb low 300 h) refl))))

ends-first : (d : ℕ) (second : Bool) (low : ℕ) → low ≤ 300
    → ((w : ℕ) → w ≤ 300 → Ends (cond second (live d fresh) (live d (num true w 3 0)))) → Ends (live d (num second low 3 0))
ends-first d second low h f = ends_by d (num second low 3 0) 51 _ (omega arith) (by-digit d second low 2 0 3 (omega arith) (three low h)) (ends-num d second low 2 3 (omega arith) (three low h) f)

ends-second : (d low : ℕ) → low ≤ 300 → Ends (live d (num true low 3 0))
ends-second d low h = ends-first d true low h (λ w l. ends_fresh d)

onward : (d : ℕ) (second : Bool) (w : ℕ) → w ≤ 300 → Ends (cond second (live d fresh) (live d (num true w 3 0)))
onward d true w h = ends_fresh d
onward d false w h = ends-second d w h

pub ends : (d : ℕ) (m : Mode) → FineMode m → Ends (live d m)
ends d begin f = ends-begin d
ends d fresh f = ends_fresh d
ends d after f = ends-after d
ends d esc f = ends_by d esc 110 (live d after) (omega arith) (unfold mode in refl) (ends-after d)
ends d hex1 f = ends_by d hex1 48 (live d hex2) (omega arith) (unfold mode is_hex is_digit in refl) (ends-hex2 d)
ends d hex2 f = ends-hex2 d
ends d opened f = ends_by d opened 94 (live d caret) (omega arith) (unfold mode in refl) (ends-caret d)
ends d caret f = ends-caret d
ends d member f = ends-member d
ends d (lone1 v) f = ends-lone d v
ends d cesc f = ends_by d cesc 110 (live d (lone1 10)) (omega arith) (unfold mode in refl) (ends-lone d 10)
ends d chex1 f = ends_by d chex1 48 (live d (chex2 48)) (omega arith) (unfold mode is_hex is_digit in refl) (ends-chex2 d 48)
ends d (chex2 a) f = ends-chex2 d a
ends d (to v) f =
    ends_by d (to v) 255 (live d member) (omega arith) (unfold mode amid in rw (le-ltb 255 v (omega (arith, f)))) (ends-member d)
ends d (tesc v) f = ends_by d (tesc v) 120 (live d (thex1 v)) (omega arith) (unfold mode in refl) (ends-thex1 d v f)
ends d (thex1 v) f = ends-thex1 d v f
ends d (thex2 v a) f = ends-thex2 d v a f
ends d (num second low r v) (inl (l, e)) = ends-num d second low r v l e (onward d second)
ends d (num second low r v) (inr (p, q, h)) = rw (p, q) (ends-first d second low h (onward d second))
