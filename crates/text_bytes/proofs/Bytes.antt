-- Single bytes, members and leaves of a good text, from a place on.
use Prim.Native.Nat.{ℕ, ◌+◌, ◌*◌, ◌≤◌, ◌<◌}
use mathlib.Core.Path.{◌≡◌, refl, sym, ap, subst, ◌∙◌}
use mathlib.Core.Bool.{Bool, true, false, ◌&&◌, ◌||◌, not, cond, true≢false}
use mathlib.Core.List.{List, [], ◌∷◌, ◌++◌}
use mathlib.Core.Logic.{◌⊎◌, inl, inr}
use native.Mathlib.Omega.{arith}
use lib.Dec.{leb, eqb}
use lib.ListN.{length, drop, get_or}
use lib.Seq.{drop-cons}
use borrow.Author.Tests.{eqb-false, eq-eqb, le-leb, lt-leb, leb-true, eqb-true}
use Rattle.text.specs.Grammar.{Single, plain, hex, line, Member, lone, spaces, range, amid, class_special, hex_value, value, ok_single, ok_member, ok_members, spell, spell_member, spell_members, member_has, members_have, Leaf, single, space, any, class, special, ok_leaf, spell_leaf, leaf_has}
use Rattle.text.specs.inner.Heads.{head_of}
use Rattle.text.proofs.Places.{both}
use Rattle.text.proofs.Reading.{assoc, members-head, member-head, members-caret, amid-out, not-true}
use Rattle.text.proofs.Peeling.{peel-lt, peel-at, peel-tail, gone}
use Rattle.sets.specs.Set.{holds}

-- ---- single bytes

module _ (T : List ℕ) (n : ℕ) (y : List ℕ) where
  to-place : (i j : ℕ) (w : List ℕ) → i ≡ j → drop i T ≡ w → drop j T ≡ w
  to-place i j w e h = subst (λ z. drop z T ≡ w) e h

  pub single-hex : (out : List ℕ) (s : Single) → amid 92 out ≡ true → ok_single out s ≡ true → drop n T ≡ spell s ++ y → get_or T n 0 ≡ 92 → get_or T (n + 1) 0 ≡ 120
      → (16 * hex_value (get_or T (n + 2) 0) + hex_value (get_or T (n + 3) 0) ≡ value s) × (drop (n + 4) T ≡ y)
  unfolding spell ok_single value
  single-hex out (plain b) h ok e g k = absurd (eqb-false b 92 (amid-out b 92 out (not-true (amid b out) ok) h) (sym (peel-at T n b y e) ∙ g))
  single-hex out (hex a b) h ok e g k =
      let f : drop (n + 1) T ≡ 120 ∷ a ∷ b ∷ y = peel-tail T n 92 (120 ∷ a ∷ b ∷ y) e in
      let u : drop (n + 2) T ≡ a ∷ b ∷ y = to-place (n + 1 + 1) (n + 2) (a ∷ b ∷ y) (omega arith) (peel-tail T (n + 1) 120 (a ∷ b ∷ y) f) in
      let v : drop (n + 3) T ≡ b ∷ y = to-place (n + 2 + 1) (n + 3) (b ∷ y) (omega arith) (peel-tail T (n + 2) a (b ∷ y) u) in
      (rw (peel-at T (n + 2) a (b ∷ y) u, peel-at T (n + 3) b y v), to-place (n + 3 + 1) (n + 4) y (omega arith) (peel-tail T (n + 3) b y v))
  single-hex out line h ok e g k =
      let f : drop (n + 1) T ≡ 110 ∷ y = peel-tail T n 92 (110 ∷ y) e in
      let p = peel-at T (n + 1) 110 y f in absurd (omega arith)

  pub single-line : (out : List ℕ) (s : Single) → amid 92 out ≡ true → ok_single out s ≡ true → drop n T ≡ spell s ++ y → get_or T n 0 ≡ 92 → (get_or T (n + 1) 0 ≡ 120 → ⊥)
      → (10 ≡ value s) × (drop (n + 2) T ≡ y)
  unfolding spell ok_single value
  single-line out (plain b) h ok e g k = absurd (eqb-false b 92 (amid-out b 92 out (not-true (amid b out) ok) h) (sym (peel-at T n b y e) ∙ g))
  single-line out (hex a b) h ok e g k = absurd (k (peel-at T (n + 1) 120 (a ∷ b ∷ y) (peel-tail T n 92 (120 ∷ a ∷ b ∷ y) e)))
  single-line out line h ok e g k = (refl, to-place (n + 1 + 1) (n + 2) y (omega arith) (peel-tail T (n + 1) 110 y (peel-tail T n 92 (110 ∷ y) e)))

  pub single-plain : (out : List ℕ) (s : Single) → ok_single out s ≡ true → drop n T ≡ spell s ++ y → (get_or T n 0 ≡ 92 → ⊥) → (get_or T n 0 ≡ value s) × (drop (n + 1) T ≡ y)
  unfolding spell ok_single value
  single-plain out (plain b) ok e g = (peel-at T n b y e, peel-tail T n b y e)
  single-plain out (hex a b) ok e g = absurd (g (peel-at T n 92 (120 ∷ a ∷ b ∷ y) e))
  single-plain out line ok e g = absurd (g (peel-at T n 92 (110 ∷ y) e))

or-none : (a : Bool) → (a || false) ≡ a
or-none true = refl
or-none false = refl

-- ---- members

pub between-one : (v c : ℕ) → (leb v c && leb c v) ≡ eqb c v
between-one v c = go (eqb c v) refl
  where
    go : (b : Bool) → eqb c v ≡ b → (leb v c && leb c v) ≡ b
    go true e = let q : c ≡ v = eqb-true c v e in rw (le-leb v c (omega arith), le-leb c v (omega arith))
    go false e = low (leb v c) refl
      where
        q : c ≡ v → ⊥
        q = eqb-false c v e

        low : (b : Bool) → leb v c ≡ b → (leb v c && leb c v) ≡ false
        low false z = rw z
        low true z = rw (z, lt-leb c v (strict v c (leb-true v c z) q))
          where
            strict : (v c : ℕ) → v ≤ c → (c ≡ v → ⊥) → v < c
            strict v c l q = omega arith

or_assoc : (a b c : Bool) → ((a || b) || c) ≡ (a || (b || c))
or_assoc true b c = refl
or_assoc false b c = refl

head_at : (T : List ℕ) (n : ℕ) (y : List ℕ) → drop n T ≡ y → eqb (head_of 0 y) 45 ≡ false → n < length T → get_or T n 0 ≡ 45 → ⊥
head_at T n [] e h l g = let d = drop-cons T n 0 l in let z : ◌≡◌ {A = ℕ} 0 1 = cc in omega arith
head_at T n (c ∷ y) e h l g = eqb-false c 45 h (sym (peel-at T n c y e) ∙ g)

abbrev pub SingleFacts : List ℕ → ℕ → ℕ → ℕ → Type 0
SingleFacts T n v j = (out : List ℕ) (s : Single) (y : List ℕ) → amid 92 out ≡ true → ok_single out s ≡ true → drop n T ≡ spell s ++ y → (v ≡ value s) × (drop j T ≡ y)

abbrev pub Adds : ℕ → ℕ → ℕ → ℕ → Type 0
Adds s r low high = (c : ℕ) → c < 256 → holds r c ≡ (holds s c || (leb low c && leb c high))

abbrev pub MemberFacts : List ℕ → ℕ → ℕ → ℕ → ℕ → Type 0
MemberFacts T n s r j = (m : Member) (y : List ℕ) → ok_member m ≡ true → eqb (head_of 0 y) 45 ≡ false → drop n T ≡ spell_member m ++ y → ((c : ℕ) → c < 256 → holds r c ≡ (holds s c || member_has m c)) × (drop j T ≡ y)

ninety-two : amid 92 class_special ≡ true
unfolding amid
ninety-two = refl

module _ (T : List ℕ) (n : ℕ) where
  not_white : (s : Single) (y : List ℕ) → ok_single class_special s ≡ true → drop n T ≡ spell s ++ y → (eqb (get_or T n 0) 92 && eqb (get_or T (n + 1) 0) 115) ≡ true → ⊥
  unfolding spell ok_single
  not_white (plain b) y ok e h =
      eqb-false b 92 (amid-out b 92 class_special (not-true (amid b class_special) ok) ninety-two) (sym (peel-at T n b y e) ∙ eqb-true (get_or T n 0) 92 (both (eqb (get_or T n 0) 92) (eqb (get_or T (n + 1) 0) 115) h).0)
  not_white (hex a b) y ok e h =
      let p = peel-at T (n + 1) 120 (a ∷ b ∷ y) (peel-tail T n 92 (120 ∷ a ∷ b ∷ y) e) in
      let q = eqb-true (get_or T (n + 1) 0) 115 (both (eqb (get_or T n 0) 92) (eqb (get_or T (n + 1) 0) 115) h).1 in omega arith
  not_white line y ok e h =
      let p = peel-at T (n + 1) 110 y (peel-tail T n 92 (110 ∷ y) e) in
      let q = eqb-true (get_or T (n + 1) 0) 115 (both (eqb (get_or T n 0) 92) (eqb (get_or T (n + 1) 0) 115) h).1 in omega arith

  is_white : (y : List ℕ) → drop n T ≡ 92 ∷ 115 ∷ y → (eqb (get_or T n 0) 92 && eqb (get_or T (n + 1) 0) 115) ≡ true
  is_white y e = rw (eq-eqb (get_or T n 0) 92 (peel-at T n 92 (115 ∷ y) e), eq-eqb (get_or T (n + 1) 0) 115 (peel-at T (n + 1) 115 y (peel-tail T n 92 (115 ∷ y) e)))

  pub member-white : (s u r : ℕ) → (eqb (get_or T n 0) 92 && eqb (get_or T (n + 1) 0) 115) ≡ true → Adds s u 32 32 → Adds u r 9 13 → MemberFacts T n s r (n + 2)
  unfolding spell_member ok_member member_has
  member-white s u r h f g spaces y ok k e = (
    (λ c l. g c l ∙ ap (λ z. z || (leb 9 c && leb c 13)) (f c l ∙ ap (λ z. holds s c || z) (between-one 32 c)) ∙ or_assoc (holds s c) (eqb c 32) (leb 9 c && leb c 13)),
    subst (λ z. drop z T ≡ y) two (peel-tail T (n + 1) 115 y (peel-tail T n 92 (115 ∷ y) e)),
  )
    where
      two : n + 1 + 1 ≡ n + 2
      two = omega arith
  member-white s u r h f g (lone a) y ok k e = absurd (not_white a y ok e h)
  member-white s u r h f g (range a b) y ok k e =
      let q = both (ok_single class_special a && ok_single class_special b) (leb (value a) (value b)) ok in
      absurd (not_white a ((45 ∷ spell b) ++ y) (both (ok_single class_special a) (ok_single class_special b) q.0).0 (e ∙ assoc (spell a) (45 ∷ spell b) y) h)

  pub member-lone : (s r v j : ℕ) → (eqb (get_or T n 0) 92 && eqb (get_or T (n + 1) 0) 115) ≡ false → SingleFacts T n v j → ((j < length T) × (get_or T j 0 ≡ 45 → ⊥)) ⊎ (length T ≤ j) → Adds s r v v → MemberFacts T n s r j
  unfolding spell_member ok_member member_has
  member-lone s r v j h f z g spaces y ok k e = absurd (true≢false (sym (is_white y e) ∙ h))
  member-lone s r v j h f z g (lone a) y ok k e =
      let (p, q) = f class_special a y ninety-two ok e in
      ((λ c l. g c l ∙ ap (λ z. holds s c || z) (between-one v c ∙ ap (eqb c) p)), q)
  member-lone s r v j h f z g (range a b) y ok k e =
      let o = both (ok_single class_special a && ok_single class_special b) (leb (value a) (value b)) ok in
      let (p, q) = f class_special a (45 ∷ (spell b ++ y)) ninety-two (both (ok_single class_special a) (ok_single class_special b) o.0).0 (e ∙ assoc (spell a) (45 ∷ spell b) y) in
      absurd (no z q)
    where
      no : ((j < length T) × (get_or T j 0 ≡ 45 → ⊥)) ⊎ (length T ≤ j) → drop j T ≡ 45 ∷ (spell b ++ y) → ⊥
      no (inl (u, w)) q = w (peel-at T j 45 (spell b ++ y) q)
      no (inr u) q = let l = peel-lt T j 45 (spell b ++ y) q in omega arith

  pub member-range : (s r v j w i : ℕ) → (eqb (get_or T n 0) 92 && eqb (get_or T (n + 1) 0) 115) ≡ false → SingleFacts T n v j → j < length T → get_or T j 0 ≡ 45 → SingleFacts T (j + 1) w i → Adds s r v w → MemberFacts T n s r i
  unfolding spell_member ok_member member_has
  member-range s r v j w i h f l z f2 g spaces y ok k e = absurd (true≢false (sym (is_white y e) ∙ h))
  member-range s r v j w i h f l z f2 g (lone a) y ok k e =
      let (p, q) = f class_special a y ninety-two ok e in absurd (head_at T j y q k l z)
  member-range s r v j w i h f l z f2 g (range a b) y ok k e =
      let o = both (ok_single class_special a && ok_single class_special b) (leb (value a) (value b)) ok in
      let oo = both (ok_single class_special a) (ok_single class_special b) o.0 in
      let (p, q) = f class_special a (45 ∷ (spell b ++ y)) ninety-two oo.0 (e ∙ assoc (spell a) (45 ∷ spell b) y) in
      let (p2, q2) = f2 class_special b y ninety-two oo.1 (peel-tail T j 45 (spell b ++ y) q) in
      ((λ c m. g c m ∙ rw (p, p2)), q2)

-- ---- all members of a class

members-cons : (m : Member) (ns : List Member) (z : List ℕ) → spell_members (m ∷ ns) ++ z ≡ spell_member m ++ (spell_members ns ++ z)
unfolding spell_members
members-cons m ns z = assoc (spell_member m) (spell_members ns) z

members-nil : (z : List ℕ) → spell_members [] ++ z ≡ z
unfolding spell_members
members-nil z = refl

ok-cons : (m : Member) (ns : List Member) → ok_members (m ∷ ns) ≡ true → (ok_member m ≡ true) × (ok_members ns ≡ true)
unfolding ok_members
ok-cons m ns h = both (ok_member m) (ok_members ns) h

have-cons : (m : Member) (ns : List Member) (c : ℕ) → members_have (m ∷ ns) c ≡ (member_has m c || members_have ns c)
unfolding members_have
have-cons m ns c = refl

have-nil : (c : ℕ) → members_have [] c ≡ false
unfolding members_have
have-nil c = refl

ninety-three : amid 93 class_special ≡ true
unfolding amid
ninety-three = refl

abbrev pub Had : List ℕ → ℕ → ℕ → ℕ → Type 0
Had T at n s = (ms : List Member) (y : List ℕ) → ok_members ms ≡ true → drop at T ≡ spell_members ms ++ (93 ∷ y)
    → (ns : List Member) × (ok_members ns ≡ true) × (drop n T ≡ spell_members ns ++ (93 ∷ y)) × ((c : ℕ) → c < 256 → members_have ms c ≡ (holds s c || members_have ns c))

pub had-start : (T : List ℕ) (at s : ℕ) → ((c : ℕ) → holds s c ≡ false) → Had T at at s
had-start T at s f ms y ok e = (ms, ok, e, λ c l. sym (ap (λ z. z || members_have ms c) (f c)))

module _ (T : List ℕ) (at n s : ℕ) (h : Had T at n s) where
  pub had-end : n < length T → get_or T n 0 ≡ 93 → (ms : List Member) (y : List ℕ) → ok_members ms ≡ true → drop at T ≡ spell_members ms ++ (93 ∷ y) → (c : ℕ) → c < 256 → holds s c ≡ members_have ms c
  had-end l g ms y ok e c k = let (ns, okn, f, q) = h ms y ok e in go ns okn f (q c k)
    where
      go : (ns : List Member) → ok_members ns ≡ true → drop n T ≡ spell_members ns ++ (93 ∷ y) → members_have ms c ≡ (holds s c || members_have ns c) → holds s c ≡ members_have ms c
      go [] okn f q = sym (q ∙ ap (λ z. holds s c || z) (have-nil c) ∙ or-none (holds s c))
      go (m ∷ ns) okn f q = absurd (starts (ok-cons m ns okn).0 (f ∙ members-cons m ns (93 ∷ y)))
        where
          heads : (w : List ℕ) → drop n T ≡ w → head_of 0 w ≡ 93
          heads [] z = let d = drop-cons T n 0 l in let x : ◌≡◌ {A = ℕ} 0 1 = cc in absurd (omega arith)
          heads (x ∷ w) z = sym (peel-at T n x w z) ∙ g

          starts : ok_member m ≡ true → drop n T ≡ spell_member m ++ (spell_members ns ++ (93 ∷ y)) → ⊥
          starts o z = eqb-false (head_of 0 (spell_member m ++ (spell_members ns ++ (93 ∷ y)))) 93 (member-head m (spell_members ns ++ (93 ∷ y)) 93 ninety-three refl o) (heads (spell_member m ++ (spell_members ns ++ (93 ∷ y))) z)

  pub had-more : (r j : ℕ) → n < length T → (get_or T n 0 ≡ 93 → ⊥) → MemberFacts T n s r j → Had T at j r
  had-more r j l g f ms y ok e = let (ns, okn, p, q) = h ms y ok e in go ns okn p q
    where
      go : (ns : List Member) → ok_members ns ≡ true → drop n T ≡ spell_members ns ++ (93 ∷ y) → ((c : ℕ) → c < 256 → members_have ms c ≡ (holds s c || members_have ns c))
          → (ns : List Member) × (ok_members ns ≡ true) × (drop j T ≡ spell_members ns ++ (93 ∷ y)) × ((c : ℕ) → c < 256 → members_have ms c ≡ (holds r c || members_have ns c))
      go [] okn p q = absurd (g (peel-at T n 93 y (p ∙ members-nil (93 ∷ y))))
      go (m ∷ ns) okn p q =
          let o = ok-cons m ns okn in
          let (u, v) = f m (spell_members ns ++ (93 ∷ y)) o.0 (members-head ns y o.1) (p ∙ members-cons m ns (93 ∷ y)) in
          (ns, o.1, v, λ c k. q c k ∙ ap (λ z. holds s c || z) (have-cons m ns c) ∙ sym (or_assoc (holds s c) (member_has m c) (members_have ns c)) ∙ ap (λ z. z || members_have ns c) (sym (u c k)))

  pub had-gone : length T ≤ n → (ms : List Member) (y : List ℕ) → ok_members ms ≡ true → drop at T ≡ spell_members ms ++ (93 ∷ y) → ⊥
  had-gone l ms y ok e = let (ns, okn, p, q) = h ms y ok e in gone T n 93 (spell_members ns) y l p

-- ---- leaves

pub adds_none : (s r low high : ℕ) → ((c : ℕ) → holds s c ≡ false) → Adds s r low high → (c : ℕ) → c < 256 → holds r c ≡ (leb low c && leb c high)
adds_none s r low high f g c k = g c k ∙ ap (λ z. z || (leb low c && leb c high)) (f c)

abbrev pub LeafFacts : List ℕ → ℕ → ℕ → Type 0
LeafFacts T n r = (l : Leaf) (y : List ℕ) → ok_leaf l ≡ true → drop n T ≡ spell_leaf l ++ y → (c : ℕ) → c < 256 → holds r c ≡ leaf_has l c

module _ (T : List ℕ) (n : ℕ) where
  plain-not : (b d : ℕ) (y : List ℕ) → amid d special ≡ true → not (amid b special) ≡ true → drop n T ≡ b ∷ y → get_or T n 0 ≡ d → ⊥
  plain-not b d y h ok e g = eqb-false b d (amid-out b d special (not-true (amid b special) ok) h) (sym (peel-at T n b y e) ∙ g)

  pub leaf-any : (r : ℕ) → get_or T n 0 ≡ 46 → ((c : ℕ) → c < 256 → holds r c ≡ (leb 0 c && leb c 255)) → LeafFacts T n r
  unfolding spell_leaf ok_leaf spell ok_single leaf_has amid
  leaf-any r g f (single (plain b)) y ok e c k = absurd (plain-not b 46 y refl ok e g)
  leaf-any r g f (single (hex a b)) y ok e c k = let p = peel-at T n 92 (120 ∷ a ∷ b ∷ y) e in absurd (omega arith)
  leaf-any r g f (single line) y ok e c k = let p = peel-at T n 92 (110 ∷ y) e in absurd (omega arith)
  leaf-any r g f space y ok e c k = let p = peel-at T n 92 (115 ∷ y) e in absurd (omega arith)
  leaf-any r g f any y ok e c k = f c k ∙ rw (le-leb 0 c (omega arith), le-leb c 255 (omega arith))
  leaf-any r g f (class neg ms) y ok e c k = let p = peel-at T n 91 ((cond neg (94 ∷ []) [] ++ (spell_members ms ++ (93 ∷ []))) ++ y) e in absurd (omega arith)

  abbrev ClassFacts : ℕ → ℕ → Type 0
  ClassFacts i r = (ms : List Member) (y : List ℕ) → ok_members ms ≡ true → drop i T ≡ spell_members ms ++ (93 ∷ y) → (c : ℕ) → c < 256 → holds r c ≡ members_have ms c

  caret : (ms : List Member) (y : List ℕ) → ok_members ms ≡ true → n + 1 < length T → drop (n + 1) T ≡ spell_members ms ++ (93 ∷ y) → get_or T (n + 1) 0 ≡ 94 → ⊥
  caret ms y ok l e g = go (spell_members ms ++ (93 ∷ y)) (members-caret ms y ok) e
    where
      go : (w : List ℕ) → eqb (head_of 0 w) 94 ≡ false → drop (n + 1) T ≡ w → ⊥
      go [] h z = let d = drop-cons T (n + 1) 0 l in let x : ◌≡◌ {A = ℕ} 0 1 = cc in omega arith
      go (c ∷ w) h z = eqb-false c 94 h (sym (peel-at T (n + 1) c w z) ∙ g)

  spelled : (ms : List Member) (y : List ℕ) → (spell_members ms ++ (93 ∷ [])) ++ y ≡ spell_members ms ++ (93 ∷ y)
  spelled ms y = assoc (spell_members ms) (93 ∷ []) y

  pub leaf-negated : (r s : ℕ) → get_or T n 0 ≡ 91 → n + 1 < length T → get_or T (n + 1) 0 ≡ 94 → ClassFacts (n + 2) s → ((c : ℕ) → c < 256 → holds r c ≡ not (holds s c)) → LeafFacts T n r
  unfolding spell_leaf ok_leaf spell ok_single leaf_has amid
  leaf-negated r s g l h f q (single (plain b)) y ok e c k = absurd (plain-not b 91 y refl ok e g)
  leaf-negated r s g l h f q (single (hex a b)) y ok e c k = let p = peel-at T n 92 (120 ∷ a ∷ b ∷ y) e in absurd (omega arith)
  leaf-negated r s g l h f q (single line) y ok e c k = let p = peel-at T n 92 (110 ∷ y) e in absurd (omega arith)
  leaf-negated r s g l h f q space y ok e c k = let p = peel-at T n 92 (115 ∷ y) e in absurd (omega arith)
  leaf-negated r s g l h f q any y ok e c k = let p = peel-at T n 46 y e in absurd (omega arith)
  leaf-negated r s g l h f q (class true ms) y ok e c k =
      let u : drop (n + 1) T ≡ 94 ∷ ((spell_members ms ++ (93 ∷ [])) ++ y) = peel-tail T n 91 (94 ∷ ((spell_members ms ++ (93 ∷ [])) ++ y)) e in
      let z : n + 1 + 1 ≡ n + 2 = omega arith in
      let v : drop (n + 2) T ≡ spell_members ms ++ (93 ∷ y) = subst (λ i. drop i T ≡ spell_members ms ++ (93 ∷ y)) z (peel-tail T (n + 1) 94 ((spell_members ms ++ (93 ∷ [])) ++ y) u ∙ spelled ms y) in
      q c k ∙ ap not (f ms y (both (not (eqb (length ms) 0)) (ok_members ms) ok).1 v c k)
  leaf-negated r s g l h f q (class false ms) y ok e c k =
      let u : drop (n + 1) T ≡ spell_members ms ++ (93 ∷ y) = peel-tail T n 91 ((spell_members ms ++ (93 ∷ [])) ++ y) e ∙ spelled ms y in
      absurd (caret ms y (both (not (eqb (length ms) 0)) (ok_members ms) ok).1 l u h)

  pub leaf-members : (r : ℕ) → get_or T n 0 ≡ 91 → ((n + 1 < length T) × (get_or T (n + 1) 0 ≡ 94 → ⊥)) ⊎ (length T ≤ n + 1) → ClassFacts (n + 1) r → LeafFacts T n r
  unfolding spell_leaf ok_leaf spell ok_single leaf_has amid
  leaf-members r g h f (single (plain b)) y ok e c k = absurd (plain-not b 91 y refl ok e g)
  leaf-members r g h f (single (hex a b)) y ok e c k = let p = peel-at T n 92 (120 ∷ a ∷ b ∷ y) e in absurd (omega arith)
  leaf-members r g h f (single line) y ok e c k = let p = peel-at T n 92 (110 ∷ y) e in absurd (omega arith)
  leaf-members r g h f space y ok e c k = let p = peel-at T n 92 (115 ∷ y) e in absurd (omega arith)
  leaf-members r g h f any y ok e c k = let p = peel-at T n 46 y e in absurd (omega arith)
  leaf-members r g h f (class false ms) y ok e c k =
      f ms y (both (not (eqb (length ms) 0)) (ok_members ms) ok).1 (peel-tail T n 91 ((spell_members ms ++ (93 ∷ [])) ++ y) e ∙ spelled ms y) c k
  leaf-members r g (inl h) f (class true ms) y ok e c k =
      absurd (h.1 (peel-at T (n + 1) 94 ((spell_members ms ++ (93 ∷ [])) ++ y) (peel-tail T n 91 (94 ∷ ((spell_members ms ++ (93 ∷ [])) ++ y)) e)))
  leaf-members r g (inr h) f (class true ms) y ok e c k =
      let l = peel-lt T (n + 1) 94 ((spell_members ms ++ (93 ∷ [])) ++ y) (peel-tail T n 91 (94 ∷ ((spell_members ms ++ (93 ∷ [])) ++ y)) e) in absurd (omega arith)

  pub leaf-space : (u r : ℕ) → (eqb (get_or T n 0) 92 && eqb (get_or T (n + 1) 0) 115) ≡ true → ((c : ℕ) → c < 256 → holds u c ≡ (leb 32 c && leb c 32)) → Adds u r 9 13 → LeafFacts T n r
  unfolding spell_leaf ok_leaf spell ok_single leaf_has member_has amid
  leaf-space u r h f g (single (plain b)) y ok e c k = absurd (plain-not b 92 y refl ok e (eqb-true (get_or T n 0) 92 (both (eqb (get_or T n 0) 92) (eqb (get_or T (n + 1) 0) 115) h).0))
  leaf-space u r h f g (single (hex a b)) y ok e c k =
      let p = peel-at T (n + 1) 120 (a ∷ b ∷ y) (peel-tail T n 92 (120 ∷ a ∷ b ∷ y) e) in
      let q = eqb-true (get_or T (n + 1) 0) 115 (both (eqb (get_or T n 0) 92) (eqb (get_or T (n + 1) 0) 115) h).1 in absurd (omega arith)
  leaf-space u r h f g (single line) y ok e c k =
      let p = peel-at T (n + 1) 110 y (peel-tail T n 92 (110 ∷ y) e) in
      let q = eqb-true (get_or T (n + 1) 0) 115 (both (eqb (get_or T n 0) 92) (eqb (get_or T (n + 1) 0) 115) h).1 in absurd (omega arith)
  leaf-space u r h f g space y ok e c k = g c k ∙ ap (λ z. z || (leb 9 c && leb c 13)) (f c k ∙ between-one 32 c)
  leaf-space u r h f g any y ok e c k = let p = peel-at T n 46 y e in let q = eqb-true (get_or T n 0) 92 (both (eqb (get_or T n 0) 92) (eqb (get_or T (n + 1) 0) 115) h).0 in absurd (omega arith)
  leaf-space u r h f g (class neg ms) y ok e c k =
      let p = peel-at T n 91 ((cond neg (94 ∷ []) [] ++ (spell_members ms ++ (93 ∷ []))) ++ y) e in
      let q = eqb-true (get_or T n 0) 92 (both (eqb (get_or T n 0) 92) (eqb (get_or T (n + 1) 0) 115) h).0 in absurd (omega arith)

  special-92 : amid 92 special ≡ true
  unfolding amid
  special-92 = refl

  pub leaf-single : (r v j : ℕ) → (get_or T n 0 ≡ 46 → ⊥) → (get_or T n 0 ≡ 91 → ⊥) → (eqb (get_or T n 0) 92 && eqb (get_or T (n + 1) 0) 115) ≡ false → SingleFacts T n v j
      → ((c : ℕ) → c < 256 → holds r c ≡ (leb v c && leb c v)) → LeafFacts T n r
  unfolding spell_leaf ok_leaf leaf_has
  leaf-single r v j a b h f g (single s) y ok e c k = let (p, q) = f special s y special-92 ok e in g c k ∙ between-one v c ∙ ap (eqb c) p
  leaf-single r v j a b h f g space y ok e c k = absurd (true≢false (sym (is_white T n y e) ∙ h))
  leaf-single r v j a b h f g any y ok e c k = absurd (a (peel-at T n 46 y e))
  leaf-single r v j a b h f g (class neg ms) y ok e c k = absurd (b (peel-at T n 91 ((cond neg (94 ∷ []) [] ++ (spell_members ms ++ (93 ∷ []))) ++ y) e))
