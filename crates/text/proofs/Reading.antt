-- A way back from what a tree reads as: so a text has one reading.
use Prim.Native.Nat.{ℕ, zero, suc, ◌+◌, ◌≤◌, ◌<◌}
use mathlib.Core.Path.{◌≡◌, refl, sym, ap, ◌∙◌}
use mathlib.Core.Bool.{Bool, true, false, ◌&&◌, not, cond, true≢false, false≢true}
use mathlib.Core.List.{List, [], ◌∷◌, ◌++◌}
use mathlib.Core.Logic.{inl, inr}
use native.Mathlib.Omega.{arith}
use lib.ListN.{length}
use lib.Dec.{leb, eqb}
use borrow.Author.Tests.{eqb-true}
use Rattle.text.specs.Grammar.{Single, plain, hex, line, Member, lone, spaces, range, Leaf, single, space, any, class, Mark, bare, star, more, maybe, rep, Body, end, bar, leaf, group, Text, spell, spell_member, spell_members, spell_leaf, spell_mark, reads, text_reads, amid, special, class_special, is_digit, value, ok_single, ok_member, ok_members, ok_leaf, all_digits, number_from, ok_number, ok_mark, ok_body}
use Rattle.text.specs.inner.Heads.{head_of, Calm, Stop}
use Rattle.text.proofs.Words.{tail_of}
use Rattle.text.proofs.Places.{both}

pub not-true : (a : Bool) → not a ≡ true → a ≡ false
not-true true e = absurd (false≢true e)
not-true false e = refl

pub assoc : (a b c : List ℕ) → (a ++ b) ++ c ≡ a ++ (b ++ c)
assoc [] b c = refl
assoc (x ∷ a) b c = ap (λ z. x ∷ z) (assoc a b c)

-- a byte outside a list is none of its bytes
pub amid-out : (c d : ℕ) (ds : List ℕ) → amid c ds ≡ false → amid d ds ≡ true → eqb c d ≡ false
amid-out c d ds h k = go (eqb c d) refl
  where
    go : (b : Bool) → eqb c d ≡ b → eqb c d ≡ false
    go true e = absurd (true≢false (sym k ∙ ap (λ z. amid z ds) (sym (eqb-true c d e)) ∙ h))
    go false e = e

hd : List ℕ → ℕ
hd w = head_of 0 w

read_single : List ℕ → Single × List ℕ
read_single [] = (line, [])
read_single (c ∷ x) =
    cond (eqb c 92)
    (cond (eqb (head_of 0 x) 110) (line, tail_of x) (hex (head_of 0 (tail_of x)) (head_of 0 (tail_of (tail_of x))), tail_of (tail_of (tail_of x))))
    (plain c, x)

single-back : (out : List ℕ) (s : Single) (x : List ℕ) → amid 92 out ≡ true → ok_single out s ≡ true → read_single (spell s ++ x) ≡ (s, x)
unfolding read_single spell ok_single
single-back out (plain b) x h ok = rw (amid-out b 92 out (not-true (amid b out) ok) h)
single-back out (hex a b) x h ok = refl
single-back out line x h ok = refl

-- \s stands here
pub spaced : List ℕ → Bool
spaced w = eqb (head_of 0 w) 92 && eqb (head_of 0 (tail_of w)) 115

pub single-spaced : (out : List ℕ) (s : Single) (x : List ℕ) → amid 92 out ≡ true → ok_single out s ≡ true → spaced (spell s ++ x) ≡ false
unfolding spaced spell ok_single
single-spaced out (plain b) x h ok = rw (amid-out b 92 out (not-true (amid b out) ok) h)
single-spaced out (hex a b) x h ok = refl
single-spaced out line x h ok = refl

pub single-head : (out : List ℕ) (s : Single) (x : List ℕ) (d : ℕ) → amid d out ≡ true → eqb 92 d ≡ false → ok_single out s ≡ true
    → eqb (head_of 0 (spell s ++ x)) d ≡ false
unfolding spell ok_single
single-head out (plain b) x d h k ok = amid-out b d out (not-true (amid b out) ok) h
single-head out (hex a b) x d h k ok = k
single-head out line x d h k ok = k

read_member : List ℕ → Member × List ℕ
read_member w =
    cond (spaced w) (spaces, tail_of (tail_of w))
    (cond (eqb (head_of 0 (read_single w).1) 45)
    (range (read_single w).0 (read_single (tail_of (read_single w).1)).0, (read_single (tail_of (read_single w).1)).1)
    (lone (read_single w).0, (read_single w).1))

member_back : (m : Member) (x : List ℕ) → ok_member m ≡ true → eqb (head_of 0 x) 45 ≡ false → read_member (spell_member m ++ x) ≡ (m, x)
unfolding read_member spell_member ok_member amid
member_back (lone s) x ok k = rw (single-spaced class_special s x refl ok, single-back class_special s x refl ok, k)
member_back spaces x ok k = unfold spaced in refl
member_back (range s t) x ok k =
    let r = both (ok_single class_special s && ok_single class_special t) (leb (value s) (value t)) ok in
    let q = both (ok_single class_special s) (ok_single class_special t) r.0 in
    rw (
      assoc (spell s) (45 ∷ spell t) x,
      single-spaced class_special s (45 ∷ (spell t ++ x)) refl q.0,
      single-back class_special s (45 ∷ (spell t ++ x)) refl q.0,
      single-back class_special t x refl q.1,
    )

pub member-head : (m : Member) (x : List ℕ) (d : ℕ) → amid d class_special ≡ true → eqb 92 d ≡ false → ok_member m ≡ true
    → eqb (head_of 0 (spell_member m ++ x)) d ≡ false
unfolding spell_member ok_member
member-head (lone s) x d h k ok = single-head class_special s x d h k ok
member-head spaces x d h k ok = k
member-head (range s t) x d h k ok =
    let r = both (ok_single class_special s && ok_single class_special t) (leb (value s) (value t)) ok in
    let q = both (ok_single class_special s) (ok_single class_special t) r.0 in
    rw (assoc (spell s) (45 ∷ spell t) x) (single-head class_special s (45 ∷ (spell t ++ x)) d h k q.0)

read_members : ℕ → List ℕ → List Member × List ℕ
read_members zero w = ([], w)
read_members (suc n) w =
    cond (eqb (head_of 0 w) 93) ([], w) ((read_member w).0 ∷ (read_members n (read_member w).1).0, (read_members n (read_member w).1).1)

pub members-head : (ms : List Member) (x : List ℕ) → ok_members ms ≡ true → eqb (head_of 0 (spell_members ms ++ (93 ∷ x))) 45 ≡ false
unfolding spell_members ok_members amid
members-head [] x ok = refl
members-head (m ∷ ms) x ok =
    rw (assoc (spell_member m) (spell_members ms) (93 ∷ x)) (member-head m (spell_members ms ++ (93 ∷ x)) 45 refl refl (both (ok_member m) (ok_members ms) ok).0)

members-back : (n : ℕ) (ms : List Member) (x : List ℕ) → length ms < n → ok_members ms ≡ true
    → read_members n (spell_members ms ++ (93 ∷ x)) ≡ (ms, 93 ∷ x)
unfolding read_members spell_members ok_members amid
members-back zero ms x l ok = absurd (omega arith)
members-back (suc n) [] x l ok = refl
members-back (suc n) (m ∷ ms) x l ok =
    let q = both (ok_member m) (ok_members ms) ok in
    let y = spell_members ms ++ (93 ∷ x) in
    rw (
      assoc (spell_member m) (spell_members ms) (93 ∷ x),
      member-head m y 93 refl refl q.0,
      member_back m y q.0 (members-head ms x q.1),
      members-back n ms x (omega arith) q.1,
    )

-- ---- leaves, with n as bound on a class's members

read_class : ℕ → List ℕ → Leaf × List ℕ
read_class n w =
    let neg = eqb (head_of 0 w) 94 in
    let r = read_members n (cond neg (tail_of w) w) in
    (class neg r.0, tail_of r.1)

read_leaf : ℕ → List ℕ → Leaf × List ℕ
read_leaf n w =
    cond (spaced w) (space, tail_of (tail_of w))
    (cond (eqb (head_of 0 w) 46) (any, tail_of w)
    (cond (eqb (head_of 0 w) 91) (read_class n (tail_of w)) (single (read_single w).0, (read_single w).1)))

width : Leaf → ℕ
width (single s) = 0
width space = 0
width any = 0
width (class neg ms) = suc (length ms)

-- the first byte of a class's members is no ^
pub members-caret : (ms : List Member) (x : List ℕ) → ok_members ms ≡ true → eqb (head_of 0 (spell_members ms ++ (93 ∷ x))) 94 ≡ false
unfolding spell_members ok_members amid
members-caret [] x ok = refl
members-caret (m ∷ ms) x ok =
    rw (assoc (spell_member m) (spell_members ms) (93 ∷ x)) (member-head m (spell_members ms ++ (93 ∷ x)) 94 refl refl (both (ok_member m) (ok_members ms) ok).0)

class_back : (n : ℕ) (neg : Bool) (ms : List Member) (x : List ℕ) → length ms < n → ok_members ms ≡ true
    → read_class n (cond neg (94 ∷ []) [] ++ (spell_members ms ++ (93 ∷ x))) ≡ (class neg ms, x)
unfolding read_class
class_back n true ms x l ok = rw (members-back n ms x l ok)
class_back n false ms x l ok = rw (members-caret ms x ok, members-back n ms x l ok)

leaf-back : (n : ℕ) (l : Leaf) (x : List ℕ) → width l ≤ n → ok_leaf l ≡ true → read_leaf n (spell_leaf l ++ x) ≡ (l, x)
unfolding read_leaf spell_leaf ok_leaf width amid
leaf-back n (single s) x h ok =
    rw (single-spaced special s x refl ok, single-head special s x 46 refl refl ok, single-head special s x 91 refl refl ok, single-back special s x refl ok)
leaf-back n space x h ok = unfold spaced in refl
leaf-back n any x h ok = unfold spaced in refl
leaf-back n (class neg ms) x h ok =
    let e : spaced (91 ∷ ((cond neg (94 ∷ []) [] ++ (spell_members ms ++ (93 ∷ []))) ++ x)) ≡ false = unfold spaced in refl in
    rw (
      e,
      assoc (cond neg (94 ∷ []) []) (spell_members ms ++ (93 ∷ [])) x,
      assoc (spell_members ms) (93 ∷ []) x,
      class_back n neg ms x (omega arith) (both (not (eqb (length ms) 0)) (ok_members ms) ok).1,
    )

-- a leaf begins with none of ( ) | * + ? {
pub leaf-head : (l : Leaf) (x : List ℕ) (d : ℕ) → amid d special ≡ true → eqb 92 d ≡ false → eqb 46 d ≡ false → eqb 91 d ≡ false → ok_leaf l ≡ true
    → eqb (head_of 0 (spell_leaf l ++ x)) d ≡ false
unfolding spell_leaf ok_leaf
leaf-head (single s) x d h k k2 k3 ok = single-head special s x d h k ok
leaf-head space x d h k k2 k3 ok = k
leaf-head any x d h k k2 k3 ok = k2
leaf-head (class neg ms) x d h k k2 k3 ok = k3

-- ---- marks

digits_of : List ℕ → List ℕ × List ℕ
digits_of [] = ([], [])
digits_of (c ∷ x) = cond (is_digit c) (c ∷ (digits_of x).0, (digits_of x).1) ([], c ∷ x)

digits-back : (ds : List ℕ) (c : ℕ) (x : List ℕ) → all_digits ds ≡ true → is_digit c ≡ false → digits_of (ds ++ (c ∷ x)) ≡ (ds, c ∷ x)
unfolding digits_of all_digits
digits-back [] c x h k = rw k
digits-back (d ∷ ds) c x h k = let q = both (is_digit d) (all_digits ds) h in rw (q.0, digits-back ds c x q.1 k)

read_mark : List ℕ → Mark × List ℕ
read_mark w =
    cond (eqb (head_of 0 w) 42) (star, tail_of w)
    (cond (eqb (head_of 0 w) 43) (more, tail_of w)
    (cond (eqb (head_of 0 w) 63) (maybe, tail_of w)
    (cond (eqb (head_of 0 w) 123)
    (rep (digits_of (tail_of w)).0 (digits_of (tail_of (digits_of (tail_of w)).1)).0, tail_of (digits_of (tail_of (digits_of (tail_of w)).1)).1)
    (bare, w))))

pub number_digits : (ds : List ℕ) → ok_number ds ≡ true → all_digits ds ≡ true
unfolding ok_number
number_digits ds h =
    (both (leb 1 (length ds) && leb (length ds) 3) (all_digits ds) (both (leb 1 (length ds) && leb (length ds) 3 && all_digits ds) (leb (number_from 0 ds) 300) h).0).1

mark-back : (m : Mark) (x : List ℕ) → ok_mark m ≡ true → Calm x → read_mark (spell_mark m ++ x) ≡ (m, x)
unfolding read_mark spell_mark ok_mark is_digit
mark-back bare x ok (a, b, c, d) = rw (a, b, c, d)
mark-back star x ok k = refl
mark-back more x ok k = refl
mark-back maybe x ok k = refl
mark-back (rep m n) x ok k =
    let r = both (ok_number m && ok_number n) (leb (number_from 0 m) (number_from 0 n)) ok in
    let q = both (ok_number m) (ok_number n) r.0 in
    rw (
      assoc m (44 ∷ (n ++ (125 ∷ []))) x,
      assoc n (125 ∷ []) x,
      digits-back m 44 (n ++ (125 ∷ x)) (number_digits m q.0) refl,
      digits-back n 125 x (number_digits n q.1) refl,
    )

-- ---- bodies

read_body : ℕ → List ℕ → Body × List ℕ
read_body zero w = (end, w)
read_body (suc n) w =
    cond (eqb (head_of 41 w) 41) (end, w)
    (cond (eqb (head_of 41 w) 124) (bar (read_body n (tail_of w)).0, (read_body n (tail_of w)).1)
    (cond (eqb (head_of 41 w) 40)
    (let a = read_body n (tail_of w) in let m = read_mark (tail_of a.1) in let r = read_body n m.1 in (group a.0 m.0 r.0, r.1))
    (let l = read_leaf n w in let m = read_mark l.1 in let r = read_body n m.1 in (leaf l.0 m.0 r.0, r.1))))

leaf-front : (l : Leaf) (x : List ℕ) → head_of 41 (spell_leaf l ++ x) ≡ head_of 0 (spell_leaf l ++ x)
unfolding spell_leaf spell
leaf-front (single (plain b)) x = refl
leaf-front (single (hex a b)) x = refl
leaf-front (single line) x = refl
leaf-front space x = refl
leaf-front any x = refl
leaf-front (class neg ms) x = refl

weight : Body → ℕ
weight end = 1
weight (bar b) = suc (weight b)
weight (leaf l m b) = suc (width l + weight b)
weight (group x m b) = suc (weight x + weight b)

stop-calm : (x : List ℕ) → Stop x → Calm x
stop-calm x (inl e) = rw e (refl, refl, refl, refl)
stop-calm x (inr (y, e)) = rw e (refl, refl, refl, refl)

pub body-calm : (b : Body) (x : List ℕ) → ok_body b ≡ true → Stop x → Calm (reads b ++ x)
unfolding reads ok_body amid
body-calm end x ok s = stop-calm x s
body-calm (bar b) x ok s = (refl, refl, refl, refl)
body-calm (leaf l m b) x ok s =
    let q = both (ok_leaf l && ok_mark m) (ok_body b) ok in
    let o = (both (ok_leaf l) (ok_mark m) q.0).0 in
    let y = (spell_mark m ++ reads b) ++ x in
    rw (assoc (spell_leaf l) (spell_mark m ++ reads b) x)
    (leaf-head l y 42 refl refl refl refl o, leaf-head l y 43 refl refl refl refl o, leaf-head l y 63 refl refl refl refl o, leaf-head l y 123 refl refl refl refl o)
body-calm (group z m b) x ok s = (refl, refl, refl, refl)

stop-front : (x : List ℕ) → Stop x → eqb (head_of 41 x) 41 ≡ true
stop-front x (inl e) = rw e
stop-front x (inr (y, e)) = rw e

body_back : (n : ℕ) (b : Body) (x : List ℕ) → weight b ≤ n → ok_body b ≡ true → Stop x → read_body n (reads b ++ x) ≡ (b, x)
unfolding read_body reads ok_body weight amid
body_back zero end x h ok s = absurd (omega arith)
body_back zero (bar b) x h ok s = absurd (omega arith)
body_back zero (leaf l m b) x h ok s = absurd (omega arith)
body_back zero (group z m b) x h ok s = absurd (omega arith)
body_back (suc n) end x h ok s = rw (stop-front x s)
body_back (suc n) (bar b) x h ok s = rw (body_back n b x (omega arith) ok s)
body_back (suc n) (leaf l m b) x h ok s =
    let q = both (ok_leaf l && ok_mark m) (ok_body b) ok in
    let o = both (ok_leaf l) (ok_mark m) q.0 in
    let y : List ℕ = spell_mark m ++ (reads b ++ x) in
    rw (
      assoc (spell_leaf l) (spell_mark m ++ reads b) x,
      assoc (spell_mark m) (reads b) x,
      leaf-front l y,
      leaf-head l y 41 refl refl refl refl o.0,
      leaf-head l y 124 refl refl refl refl o.0,
      leaf-head l y 40 refl refl refl refl o.0,
      leaf-back n l y (omega arith) o.0,
      mark-back m (reads b ++ x) o.1 (body-calm b x q.1 s),
      body_back n b x (omega arith) q.1 s,
    )
body_back (suc n) (group z m b) x h ok s =
    let q = both (ok_body z && ok_mark m) (ok_body b) ok in
    let o = both (ok_body z) (ok_mark m) q.0 in
    let y : List ℕ = 41 ∷ (spell_mark m ++ (reads b ++ x)) in
    rw (
      assoc (reads z) (41 ∷ (spell_mark m ++ reads b)) x,
      assoc (spell_mark m) (reads b) x,
      body_back n z y (omega arith) o.0 (inr (spell_mark m ++ (reads b ++ x), refl)),
      mark-back m (reads b ++ x) o.1 (body-calm b x q.1 s),
      body_back n b x (omega arith) q.1 s,
    )

-- one reading
pub one-body : (a b : Body) → ok_body a ≡ true → ok_body b ≡ true → reads a ≡ reads b → a ≡ b
one-body a b p q e =
    let n : ℕ = weight a + weight b in
    let f : (c : Body) → weight c ≤ n → ok_body c ≡ true → read_body n (reads c) ≡ (c, []) =
    λ c l o. ap (λ (z : List ℕ). read_body n z) (sym (nil c)) ∙ body_back n c [] l o (inl refl) in
    ap (λ (z : Body × List ℕ). z.0) (sym (f a (omega arith) p) ∙ ap (λ (z : List ℕ). read_body n z) e ∙ f b (omega arith) q)
  where
    unit : (w : List ℕ) → w ++ [] ≡ w
    unit [] = refl
    unit (c ∷ w) = ap (λ z. c ∷ z) (unit w)

    nil : (c : Body) → reads c ++ [] ≡ reads c
    nil c = unit (reads c)

-- a body does not begin with ^
pub body-caret : (b : Body) → ok_body b ≡ true → eqb (head_of 0 (reads b)) 94 ≡ false
unfolding reads ok_body amid
body-caret end ok = refl
body-caret (bar b) ok = refl
body-caret (leaf l m b) ok =
    leaf-head l (spell_mark m ++ reads b) 94 refl refl refl refl (both (ok_leaf l) (ok_mark m) (both (ok_leaf l && ok_mark m) (ok_body b) ok).0).0
body-caret (group z m b) ok = refl

pub one-reading : (s t : Text) → ok_body s.body ≡ true → ok_body t.body ≡ true → text_reads s ≡ text_reads t
    → (s.bound ≡ t.bound) × (s.body ≡ t.body)
one-reading s t p q e = go s.bound t.bound e
  where
    go : (a b : Bool) → cond a (94 ∷ reads s.body) (reads s.body) ≡ cond b (94 ∷ reads t.body) (reads t.body)
        → (a ≡ b) × (s.body ≡ t.body)
    go true true k = (refl, one-body s.body t.body p q (ap tail_of k))
    go false false k = (refl, one-body s.body t.body p q k)
    go true false k = absurd (true≢false (ap (λ (z : List ℕ). eqb (head_of 0 z) 94) k ∙ body-caret t.body q))
    go false true k = absurd (true≢false (ap (λ (z : List ℕ). eqb (head_of 0 z) 94) (sym k) ∙ body-caret s.body p))
