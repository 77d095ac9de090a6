-- What the acceptor passes fits: the text that is left, by mode.
use Prim.Native.Nat.{ℕ, zero, suc, ◌+◌, ◌-◌, ◌*◌, ◌≤◌, ◌<◌}
use mathlib.Core.Path.{◌≡◌, refl, sym, ap, subst, ◌∙◌}
use mathlib.Core.Bool.{Bool, true, false, ◌&&◌, ◌||◌, not, cond, true≢false, false≢true}
use mathlib.Core.List.{List, [], ◌∷◌, ◌++◌}
use mathlib.Core.Logic.{◌⊎◌, inl, inr}
use native.Mathlib.Omega.{arith}
use lib.ListN.{length}
use lib.Dec.{leb, ltb, eqb}
use borrow.Author.Tests.{eqb-true, ne_eqb, ltb-true, ltb-false, leb-true, le-leb}
use Rattle.text.specs.Grammar.{Single, plain, hex, line, Member, lone, spaces, range, Leaf, single, space, any, class, Mark, bare, star, more, maybe, rep, Body, end, bar, leaf, group, Fits, spell, spell_member, spell_members, spell_leaf, spell_mark, reads, amid, special, class_special, is_digit, is_hex, hex_value, value, ok_single, ok_member, ok_members, ok_leaf, all_digits, number_from, ok_number, ok_mark, ok_body}
use Rattle.text.specs.Acceptor.{Mode, begin, fresh, after, esc, hex1, hex2, opened, caret, member, lone1, cesc, chex1, chex2, to, tesc, thex1, thex2, num, State, dead, live, can, close, items, members, digit, mode, step, run, resting, good}
use Rattle.text.proofs.Places.{both, and-true, or-either}
use Rattle.text.proofs.Reading.{assoc}

-- after an item: its mark, then what R says
abbrev pub After : (List ℕ → Type 0) → List ℕ → Type 0
After R w = (m : Mark) × (v : List ℕ) × (ok_mark m ≡ true) × (w ≡ spell_mark m ++ v) × R v

-- ---- what is left, for any Left that an item, a bar, a group and a closing bracket may be put in front of

module _ (Left : ℕ → List ℕ → Type 0) where
  abbrev pub Item : ℕ → List ℕ → Type 0
  Item d w = After (Left d) w

  -- members, and the class's end
  abbrev Mem : ℕ → List ℕ → Type 0
  Mem d w = (ms : List Member) × (v : List ℕ) × (ok_members ms ≡ true) × (w ≡ spell_members ms ++ (93 ∷ v)) × Item d v

  abbrev Some : ℕ → List ℕ → Type 0
  Some d w = (m : Member) × (v : List ℕ) × (ok_member m ≡ true) × (w ≡ spell_member m ++ v) × Mem d v

  abbrev To : ℕ → ℕ → List ℕ → Type 0
  To d x w = (t : Single) × (v : List ℕ) × (ok_single class_special t ≡ true) × (x ≤ value t) × (w ≡ spell t ++ v) × Mem d v

  abbrev Lone : ℕ → ℕ → List ℕ → Type 0
  Lone d x w = Mem d w ⊎ ((v : List ℕ) × (w ≡ 45 ∷ v) × To d x v)

  abbrev Hex : (ℕ → ℕ → List ℕ → Type 0) → List ℕ → Type 0
  Hex R w = (a : ℕ) × (b : ℕ) × (v : List ℕ) × (is_hex a ≡ true) × (is_hex b ≡ true) × (w ≡ a ∷ b ∷ v) × R a b v

  abbrev Hex2 : (ℕ → List ℕ → Type 0) → List ℕ → Type 0
  Hex2 R w = (b : ℕ) × (v : List ℕ) × (is_hex b ≡ true) × (w ≡ b ∷ v) × R b v

  -- the digits of a number, its separator, and what R says of the number
  abbrev Num : Bool → ℕ → ℕ → ℕ → (ℕ → List ℕ → List ℕ → Type 0) → List ℕ → Type 0
  Num second low r v R w =
      (ds : List ℕ) × (u : List ℕ) × (all_digits ds ≡ true) × (length ds ≤ r) × (r < 3 + length ds) × (low ≤ number_from v ds) × (number_from v ds ≤ 300)
      × (w ≡ ds ++ (cond second 125 44 ∷ u)) × R (number_from v ds) ds u

  abbrev Second : ℕ → ℕ → List ℕ → Type 0
  Second d low w = Num true low 3 0 (λ n ds u. Left d u) w

  abbrev pub Tail : ℕ → Mode → List ℕ → Type 0
  Tail d begin w = ((v : List ℕ) × (w ≡ 94 ∷ v) × Left d v) ⊎ Left d w
  Tail d fresh w = Left d w
  Tail d after w = Item d w
  Tail d esc w = (l : Leaf) × (v : List ℕ) × (ok_leaf l ≡ true) × (92 ∷ w ≡ spell_leaf l ++ v) × Item d v
  Tail d hex1 w = Hex (λ a b v. Item d v) w
  Tail d hex2 w = Hex2 (λ b v. Item d v) w
  Tail d opened w = ((v : List ℕ) × (w ≡ 94 ∷ v) × Some d v) ⊎ Some d w
  Tail d caret w = Some d w
  Tail d member w = Mem d w
  Tail d (lone1 x) w = Lone d x w
  Tail d cesc w = Some d (92 ∷ w)
  Tail d chex1 w = Hex (λ a b v. Lone d (16 * hex_value a + hex_value b) v) w
  Tail d (chex2 a) w = Hex2 (λ b v. Lone d (16 * hex_value a + hex_value b) v) w
  Tail d (to x) w = To d x w
  Tail d (tesc x) w = To d x (92 ∷ w)
  Tail d (thex1 x) w = Hex (λ a b v. (x ≤ 16 * hex_value a + hex_value b) × Mem d v) w
  Tail d (thex2 x a) w = Hex2 (λ b v. (x ≤ 16 * hex_value a + hex_value b) × Mem d v) w
  Tail d (num true low r v) w = Num true low r v (λ n ds u. Left d u) w
  Tail d (num false low r v) w = Num false low r v (λ n ds u. Second d n u) w

  abbrev pub Ok : State → List ℕ → Type 0
  Ok dead w = ⊥
  Ok (live d m) w = Tail d m w

  split : {C : Type 0} (b : Bool) (x y : State) (w : List ℕ) → Ok (cond b x y) w → (b ≡ true → Ok x w → C) → (b ≡ false → Ok y w → C) → C
  split true x y w k f g = f refl k
  split false x y w k f g = g refl k

  pick : (b : Bool) (x y : State) (w : List ℕ) → Ok (cond b x y) w → ((b ≡ true) × Ok x w) ⊎ ((b ≡ false) × Ok y w)
  pick true x y w k = inl (refl, k)
  pick false x y w k = inr (refl, k)

  module _ (left-leaf : (d : ℕ) (l : Leaf) (v : List ℕ) → ok_leaf l ≡ true → After (Left d) v → Left d (spell_leaf l ++ v))
      (left-bar : (d : ℕ) (v : List ℕ) → Left d v → Left d (124 ∷ v)) (left-group : (d : ℕ) (v : List ℕ) → Left (suc d) v → Left d (40 ∷ v))
      (left_end : (d : ℕ) (v : List ℕ) → After (Left d) v → Left (suc d) (41 ∷ v)) where
    left-close : (d c : ℕ) (w : List ℕ) → c ≡ 41 → Ok (close d) w → Left d (c ∷ w)
    unfolding close
    left-close zero c w e k = absurd k
    left-close (suc d) c w e k = subst (λ z. Left (suc d) (z ∷ w)) (sym e) (left_end d w k)

    at : (d c n : ℕ) (w : List ℕ) → eqb c n ≡ true → Left d (n ∷ w) → Left d (c ∷ w)
    at d c n w e k = subst (λ z. Left d (z ∷ w)) (sym (eqb-true c n e)) k

    items_left : (d c : ℕ) (w : List ℕ) → Ok (items d c) w → Left d (c ∷ w)
    unfolding items
    items_left d c w k =
        split (eqb c 124) _ _ w k (λ e k. at d c 124 w e (left-bar d w k))
        (λ _ k. split (eqb c 40) _ _ w k (λ e k. at d c 40 w e (left-group d w k))
        (λ _ k. split (eqb c 41) _ _ w k (λ e k. left-close d c w (eqb-true c 41 e) k)
        (λ _ k. split (eqb c 46) _ _ w k (λ e k. at d c 46 w e (dot k))
        (λ _ k. split (eqb c 91) _ _ w k (λ e k. at d c 91 w e (classed d w k))
        (λ _ k. split (eqb c 92) _ _ w k (λ e k. at d c 92 w e (escaped d w k))
        (λ _ k. split (amid c special) dead (live d after) w k (λ e k. absurd k) (λ e k. itself e k)))))))
      where
        dot : Item d w → Left d (46 ∷ w)
        dot k = unfold spell_leaf ok_leaf in left-leaf d any w refl k

        itself : amid c special ≡ false → Item d w → Left d (c ∷ w)
        itself e k = unfold spell_leaf spell ok_leaf ok_single in left-leaf d (single (plain c)) w (ap not e) k

        escaped : (d : ℕ) (w : List ℕ) → Tail d esc w → Left d (92 ∷ w)
        escaped d w (l, v, ok, e, i) = subst (Left d) (sym e) (left-leaf d l v ok i)

        spelled : (neg : Bool) (m : Member) (ms : List Member) (u v w : List ℕ) → w ≡ spell_member m ++ v → v ≡ spell_members ms ++ (93 ∷ u)
            → spell_leaf (class neg (m ∷ ms)) ++ u ≡ 91 ∷ (cond neg (94 ∷ []) [] ++ w)
        spelled neg m ms u v w p q =
            unfold spell_leaf spell_members in
            (ap (λ z. 91 ∷ z)
            (assoc (cond neg (94 ∷ []) []) ((spell_member m ++ spell_members ms) ++ (93 ∷ [])) u
            ∙ ap (λ z. cond neg (94 ∷ []) [] ++ z)
            (assoc (spell_member m ++ spell_members ms) (93 ∷ []) u ∙ assoc (spell_member m) (spell_members ms) (93 ∷ u) ∙ sym (p ∙ ap (λ z. spell_member m ++ z) q))))

        okay : (neg : Bool) (m : Member) (ms : List Member) → ok_member m ≡ true → ok_members ms ≡ true → ok_leaf (class neg (m ∷ ms)) ≡ true
        okay neg m ms okm okms = unfold ok_leaf ok_members in and-true (not (eqb (suc (length ms)) 0)) (ok_member m && ok_members ms) (ap not (ne_eqb (suc (length ms)) 0 (λ e. omega arith))) (and-true (ok_member m) (ok_members ms) okm okms)

        inside : (d : ℕ) (neg : Bool) (w : List ℕ) → Some d w → Left d (91 ∷ (cond neg (94 ∷ []) [] ++ w))
        inside d neg w (m, v, okm, p, (ms, u, okms, q, i)) =
            subst (Left d) (spelled neg m ms u v w p q) (left-leaf d (class neg (m ∷ ms)) u (okay neg m ms okm okms) i)

        classed : (d : ℕ) (w : List ℕ) → Tail d opened w → Left d (91 ∷ w)
        classed d w (inl (v, e, s)) = subst (λ z. Left d (91 ∷ z)) (sym e) (inside d true v s)
        classed d w (inr s) = inside d false w s

    -- ---- a member in front of what is left

    mem-member : (d : ℕ) (w : List ℕ) → Some d w → Mem d w
    unfolding spell_members ok_members
    mem-member d w (m, v, okm, p, (ms, u, okms, q, i)) = (
      m ∷ ms,
      u,
      and-true (ok_member m) (ok_members ms) okm okms,
      p ∙ ap (λ z. spell_member m ++ z) q ∙ sym (assoc (spell_member m) (spell_members ms) (93 ∷ u)),
      i,
    )

    some-lone : (d : ℕ) (s : Single) (w : List ℕ) → ok_single class_special s ≡ true → Lone d (value s) w → Some d (spell s ++ w)
    unfolding spell_member ok_member
    some-lone d s w ok (inl k) = (lone s, w, ok, refl, k)
    some-lone d s w ok (inr (v, e, (t, u, okt, l, p, k))) = (
      range s t,
      u,
      and-true (ok_single class_special s && ok_single class_special t) (leb (value s) (value t)) (and-true (ok_single class_special s) (ok_single class_special t) ok okt) (le-leb (value s) (value t) l),
      ap (λ z. spell s ++ z) (e ∙ ap (λ z. 45 ∷ z) p) ∙ sym (assoc (spell s) (45 ∷ spell t) u),
      k,
    )

    members-some : (d c : ℕ) (w : List ℕ) → Ok (members d c) w → Some d (c ∷ w)
    unfolding members
    members-some d c w k =
        split (eqb c 92) _ _ w k (λ e k. subst (λ y. Some d (y ∷ w)) (sym (eqb-true c 92 e)) k)
        (λ _ k. split (amid c class_special) dead (live d (lone1 c)) w k (λ e k. absurd k) (λ e k. plainly e k))
      where
        plainly : amid c class_special ≡ false → Lone d c w → Some d (c ∷ w)
        plainly e k = unfold spell ok_single value in some-lone d (plain c) w (ap not e) k

    hex-front : (R : ℕ → ℕ → List ℕ → Type 0) (c : ℕ) (w : List ℕ) → is_hex c ≡ true → Hex2 (R c) w → Hex R (c ∷ w)
    hex-front R c w h (b, v, k, e, r) = (c, b, v, h, k, ap (λ z. c ∷ z) e, r)

    -- ---- one byte in front, by mode

    mark-item : (d : ℕ) (m : Mark) (c : ℕ) (w : List ℕ) → ok_mark m ≡ true → spell_mark m ≡ c ∷ [] → Left d w → Item d (c ∷ w)
    mark-item d m c w ok e k = (m, w, ok, ap (λ z. z ++ w) (sym e), k)

    bare-item : (d : ℕ) (w : List ℕ) → Left d w → Item d w
    bare-item d w k = (bare, w, (unfold ok_mark in refl), (unfold spell_mark in refl), k)

    num-digit : (second : Bool) (low r v c : ℕ) (R : ℕ → List ℕ → List ℕ → Type 0) (Q : ℕ → List ℕ → List ℕ → Type 0) (w : List ℕ)
        → ((n : ℕ) (ds u : List ℕ) → R n ds u → Q n (c ∷ ds) u)
        → is_digit c ≡ true → Num second low r (10 * v + (c - 48)) R w → Num second low (suc r) v Q (c ∷ w)
    unfolding all_digits number_from
    num-digit second low r v c R Q w f h (ds, u, a, b, k, g, j, e, q) =
        (c ∷ ds, u, and-true (is_digit c) (all_digits ds) h a, omega arith, omega arith, g, j, ap (λ z. c ∷ z) e, f (number_from (10 * v + (c - 48)) ds) ds u q)

    or-none : (a b : Bool) → (a || b) ≡ false → (a ≡ false) × (b ≡ false)
    or-none true b e = absurd (true≢false e)
    or-none false b e = (refl, e)

    num-ok : (ds : List ℕ) → all_digits ds ≡ true → length ds ≤ 3 → 3 < 3 + length ds → number_from 0 ds ≤ 300 → ok_number ds ≡ true
    unfolding ok_number
    num-ok ds a l k h =
        and-true (leb 1 (length ds) && leb (length ds) 3 && all_digits ds) (leb (number_from 0 ds) 300)
        (and-true (leb 1 (length ds) && leb (length ds) 3) (all_digits ds)
        (and-true (leb 1 (length ds)) (leb (length ds) 3) (le-leb 1 (length ds) (omega arith)) (le-leb (length ds) 3 l)) a)
        (le-leb (number_from 0 ds) 300 h)

    rep-item : (d : ℕ) (w : List ℕ) → Tail d (num false 0 3 0) w → Item d (123 ∷ w)
    unfolding spell_mark ok_mark
    rep-item d w (m, u, a, b, k, g, j, e, (n, y, a2, b2, k2, g2, j2, e2, left)) = (
      rep m n,
      y,
      and-true (ok_number m && ok_number n) (leb (number_from 0 m) (number_from 0 n)) (and-true (ok_number m) (ok_number n) (num-ok m a b k j) (num-ok n a2 b2 k2 j2)) (le-leb (number_from 0 m) (number_from 0 n) g2),
      ap (λ z. 123 ∷ z) (e ∙ ap (λ z. m ++ (44 ∷ z)) (e2 ∙ sym (assoc n (125 ∷ []) y)) ∙ sym (assoc m (44 ∷ (n ++ (125 ∷ []))) y)),
      left,
    )

    same : (c n : ℕ) (w : List ℕ) → eqb c n ≡ true → c ∷ w ≡ n ∷ w
    same c n w e = ap (λ z. z ∷ w) (eqb-true c n e)

    num-step : (d : ℕ) (second : Bool) (low r v c : ℕ) (w : List ℕ) → Ok (mode d (num second low r v) c) w → Tail d (num second low r v) (c ∷ w)
    unfolding mode
    num-step d second low r v c w k =
        split (eqb c (cond second 125 44)) _ _ w k
        (λ e k. split (ltb r 3 && leb low v && leb v 300) (cond second (live d fresh) (live d (num true v 3 0))) dead w k (λ h k. ends second e h k) (λ h k. absurd k))
        (λ e k. digits second r k)
      where
        ends : (second : Bool) → eqb c (cond second 125 44) ≡ true → (ltb r 3 && leb low v && leb v 300) ≡ true → Ok (cond second (live d fresh) (live d (num true v 3 0))) w
            → Tail d (num second low r v) (c ∷ w)
        ends true e h k =
            let p = both (ltb r 3 && leb low v) (leb v 300) h in let q = both (ltb r 3) (leb low v) p.0 in
            ([], w, (unfold all_digits in refl), omega arith, unfold number_from in ltb-true r 3 q.0, (unfold number_from in leb-true low v q.1), (unfold number_from in leb-true v 300 p.1), same c 125 w e, k)
        ends false e h k =
            let p = both (ltb r 3 && leb low v) (leb v 300) h in let q = both (ltb r 3) (leb low v) p.0 in
            ([], w, (unfold all_digits in refl), omega arith, unfold number_from in ltb-true r 3 q.0, (unfold number_from in leb-true low v q.1), (unfold number_from in leb-true v 300 p.1), same c 44 w e, (unfold number_from in k))

        digits : (second : Bool) (r : ℕ) → Ok (digit d second low r v c) w → Tail d (num second low r v) (c ∷ w)
        digits second zero k = unfold digit in absurd k
        digits true (suc r) k = unfold digit in
            split (is_digit c && can low r (10 * v + (c - 48))) (live d (num true low r (10 * v + (c - 48)))) dead w k
            (λ e k. num-digit true low r v c (λ n ds u. Left d u) (λ n ds u. Left d u) w (λ n ds u q. q) (both (is_digit c) (can low r (10 * v + (c - 48))) e).0 k)
            (λ e k. absurd k)
        digits false (suc r) k = unfold digit in
            split (is_digit c && can low r (10 * v + (c - 48))) (live d (num false low r (10 * v + (c - 48)))) dead w k
            (λ e k. num-digit false low r v c (λ n ds u. Second d n u) (λ n ds u. Second d n u) w (λ n ds u q. q) (both (is_digit c) (can low r (10 * v + (c - 48))) e).0 k)
            (λ e k. absurd k)

    no-members : (d c : ℕ) (w : List ℕ) → eqb c 93 ≡ true → Item d w → Mem d (c ∷ w)
    no-members d c w e k = ([], w, (unfold ok_members in refl), (unfold spell_members in same c 93 w e), k)

    esc-step : (d c : ℕ) (w : List ℕ) → Ok (mode d esc c) w → Tail d esc (c ∷ w)
    unfolding mode spell_leaf spell ok_leaf ok_single
    esc-step d c w k =
        split (eqb c 110 || eqb c 115) _ _ w k
        (λ e k. either-of (or-either (eqb c 110) (eqb c 115) e) k)
        (λ _ k. split (eqb c 120) (live d hex1) dead w k
        (λ e k. let (a, b, v, ha, hb, p, i) = k in
        (single (hex a b), v, and-true (is_hex a) (is_hex b) ha hb, ap (λ z. 92 ∷ z) (same c 120 w e ∙ ap (λ z. 120 ∷ z) p), i))
        (λ e k. absurd k))
      where
        either-of : (eqb c 110 ≡ true) ⊎ (eqb c 115 ≡ true) → Item d w → Tail d esc (c ∷ w)
        either-of (inl e) k = (single line, w, refl, ap (λ z. 92 ∷ z) (same c 110 w e), k)
        either-of (inr e) k = (space, w, refl, ap (λ z. 92 ∷ z) (same c 115 w e), k)

    cesc-step : (d c : ℕ) (w : List ℕ) → Ok (mode d cesc c) w → Some d (92 ∷ (c ∷ w))
    unfolding mode
    cesc-step d c w k =
        split (eqb c 110) _ _ w k (λ e k. subst (λ z. Some d (92 ∷ z)) (sym (same c 110 w e)) (newline k))
        (λ _ k. split (eqb c 115) _ _ w k (λ e k. subst (λ z. Some d (92 ∷ z)) (sym (same c 115 w e)) (white k))
        (λ _ k. split (eqb c 120) (live d chex1) dead w k (λ e k. subst (λ z. Some d (92 ∷ z)) (sym (same c 120 w e)) (hexed k)) (λ e k. absurd k)))
      where
        newline : Lone d 10 w → Some d (92 ∷ (110 ∷ w))
        newline k = unfold spell ok_single value in some-lone d line w refl k

        white : Mem d w → Some d (92 ∷ (115 ∷ w))
        white k = (spaces, w, (unfold ok_member in refl), (unfold spell_member in refl), k)

        hexed : Tail d chex1 w → Some d (92 ∷ (120 ∷ w))
        hexed (a, b, v, ha, hb, p, i) =
            subst (λ z. Some d (92 ∷ (120 ∷ z))) (sym p) (unfold spell ok_single value in some-lone d (hex a b) v (and-true (is_hex a) (is_hex b) ha hb) i)

    to_step : (d x c : ℕ) (w : List ℕ) → Ok (mode d (to x) c) w → To d x (c ∷ w)
    unfolding mode spell ok_single value
    to_step d x c w k =
        split (eqb c 92) _ _ w k (λ e k. subst (λ z. To d x z) (sym (same c 92 w e)) k)
        (λ _ k. split (amid c class_special || ltb c x) dead (live d member) w k (λ e k. absurd k)
        (λ e k. let q = or-none (amid c class_special) (ltb c x) e in (plain c, w, ap not q.0, ltb-false c x q.1, refl, k)))

    tesc-step : (d x c : ℕ) (w : List ℕ) → Ok (mode d (tesc x) c) w → To d x (92 ∷ (c ∷ w))
    unfolding mode spell ok_single value
    tesc-step d x c w k =
        split (eqb c 110 && leb x 10) _ _ w k
        (λ e k. let q = both (eqb c 110) (leb x 10) e in (line, w, refl, leb-true x 10 q.1, ap (λ z. 92 ∷ z) (same c 110 w q.0), k))
        (λ _ k. split (eqb c 120) (live d (thex1 x)) dead w k
        (λ e k. let (a, b, v, ha, hb, p, (l, i)) = k in
        (hex a b, v, and-true (is_hex a) (is_hex b) ha hb, l, ap (λ z. 92 ∷ z) (same c 120 w e ∙ ap (λ z. 120 ∷ z) p), i))
        (λ e k. absurd k))

    after-step : (d c : ℕ) (w : List ℕ) → Ok (mode d after c) w → Item d (c ∷ w)
    unfolding mode
    after-step d c w k =
        split (eqb c 42 || eqb c 43 || eqb c 63) _ _ w k
        (λ e k. three k (or-either (eqb c 42 || eqb c 43) (eqb c 63) e))
        (λ _ k. split (eqb c 123) _ _ w k (λ e k. subst (Item d) (sym (same c 123 w e)) (rep-item d w k)) (λ _ k. bare-item d (c ∷ w) (items_left d c w k)))
      where
        two : Left d w → (eqb c 42 ≡ true) ⊎ (eqb c 43 ≡ true) → Item d (c ∷ w)
        two k (inl e) = unfold ok_mark spell_mark in (star, w, refl, same c 42 w e, k)
        two k (inr e) = unfold ok_mark spell_mark in (more, w, refl, same c 43 w e, k)

        three : Left d w → ((eqb c 42 || eqb c 43) ≡ true) ⊎ (eqb c 63 ≡ true) → Item d (c ∷ w)
        three k (inl e) = two k (or-either (eqb c 42) (eqb c 43) e)
        three k (inr e) = unfold ok_mark spell_mark in (maybe, w, refl, same c 63 w e, k)

    pub tail_step : (d : ℕ) (m : Mode) (c : ℕ) (w : List ℕ) → Ok (mode d m c) w → Tail d m (c ∷ w)
    unfolding mode
    tail_step d begin c w k = split (eqb c 94) _ _ w k (λ e k. inl (w, same c 94 w e, k)) (λ _ k. inr (items_left d c w k))
    tail_step d fresh c w k = items_left d c w k
    tail_step d after c w k = after-step d c w k
    tail_step d esc c w k = esc-step d c w k
    tail_step d hex1 c w k = split (is_hex c) (live d hex2) dead w k (λ e k. hex-front (λ a b v. Item d v) c w e k) (λ _ k. absurd k)
    tail_step d hex2 c w k = split (is_hex c) (live d after) dead w k (λ e k. (c, w, e, refl, k)) (λ _ k. absurd k)
    tail_step d opened c w k = split (eqb c 94) _ _ w k (λ e k. inl (w, same c 94 w e, k)) (λ _ k. inr (members-some d c w k))
    tail_step d caret c w k = members-some d c w k
    tail_step d member c w k = split (eqb c 93) _ _ w k (λ e k. no-members d c w e k) (λ _ k. mem-member d (c ∷ w) (members-some d c w k))
    tail_step d (lone1 x) c w k =
        split (eqb c 93) _ _ w k (λ e k. inl (no-members d c w e k))
        (λ _ k. split (eqb c 45) _ _ w k (λ e k. inr (w, same c 45 w e, k)) (λ _ k. inl (mem-member d (c ∷ w) (members-some d c w k))))
    tail_step d cesc c w k = cesc-step d c w k
    tail_step d chex1 c w k =
        split (is_hex c) (live d (chex2 c)) dead w k (λ e k. hex-front (λ a b v. Lone d (16 * hex_value a + hex_value b) v) c w e k) (λ _ k. absurd k)
    tail_step d (chex2 a) c w k = split (is_hex c) (live d (lone1 (16 * hex_value a + hex_value c))) dead w k (λ e k. (c, w, e, refl, k)) (λ _ k. absurd k)
    tail_step d (to x) c w k = to_step d x c w k
    tail_step d (tesc x) c w k = tesc-step d x c w k
    tail_step d (thex1 x) c w k =
        split (is_hex c && leb x (16 * hex_value c + 15)) (live d (thex2 x c)) dead w k
        (λ e k. hex-front (λ a b v. (x ≤ 16 * hex_value a + hex_value b) × Mem d v) c w (both (is_hex c) (leb x (16 * hex_value c + 15)) e).0 k) (λ _ k. absurd k)
    tail_step d (thex2 x a) c w k =
        split (is_hex c && leb x (16 * hex_value a + hex_value c)) (live d member) dead w k
        (λ e k. let q = both (is_hex c) (leb x (16 * hex_value a + hex_value c)) e in (c, w, q.0, refl, (leb-true x (16 * hex_value a + hex_value c) q.1, k))) (λ _ k. absurd k)
    tail_step d (num second low r v) c w k = num-step d second low r v c w k

-- ---- d brackets are open, and the text ends well

abbrev pub Left : ℕ → List ℕ → Type 0
Left zero w = (b : Body) × (ok_body b ≡ true) × (w ≡ reads b)
Left (suc d) w = (b : Body) × (v : List ℕ) × (ok_body b ≡ true) × (w ≡ reads b ++ (41 ∷ v)) × After (Left d) v

left-leaf : (d : ℕ) (l : Leaf) (v : List ℕ) → ok_leaf l ≡ true → After (Left d) v → Left d (spell_leaf l ++ v)
unfolding reads ok_body
left-leaf zero l v ok (m, u, okm, e, (b, okb, p)) = (
  leaf l m b,
  and-true (ok_leaf l && ok_mark m) (ok_body b) (and-true (ok_leaf l) (ok_mark m) ok okm) okb,
  ap (λ z. spell_leaf l ++ z) (e ∙ ap (λ z. spell_mark m ++ z) p),
)
left-leaf (suc d) l v ok (m, u, okm, e, (b, y, okb, p, i)) = (
  leaf l m b,
  y,
  and-true (ok_leaf l && ok_mark m) (ok_body b) (and-true (ok_leaf l) (ok_mark m) ok okm) okb,
  ap (λ z. spell_leaf l ++ z) (e ∙ ap (λ z. spell_mark m ++ z) p ∙ sym (assoc (spell_mark m) (reads b) (41 ∷ y)))
      ∙ sym (assoc (spell_leaf l) (spell_mark m ++ reads b) (41 ∷ y)),
  i,
)

left-bar : (d : ℕ) (v : List ℕ) → Left d v → Left d (124 ∷ v)
unfolding reads ok_body
left-bar zero v (b, ok, p) = (bar b, ok, ap (λ z. 124 ∷ z) p)
left-bar (suc d) v (b, y, ok, p, i) = (bar b, y, ok, ap (λ z. 124 ∷ z) p, i)

left-group : (d : ℕ) (v : List ℕ) → Left (suc d) v → Left d (40 ∷ v)
unfolding reads ok_body
left-group zero v (x, y, okx, q, (m, u, okm, e, (b, okb, p))) = (
  group x m b,
  and-true (ok_body x && ok_mark m) (ok_body b) (and-true (ok_body x) (ok_mark m) okx okm) okb,
  ap (λ z. 40 ∷ z) (q ∙ ap (λ z. reads x ++ (41 ∷ z)) (e ∙ ap (λ z. spell_mark m ++ z) p)),
)
left-group (suc d) v (x, y, okx, q, (m, u, okm, e, (b, t, okb, p, i))) = (
  group x m b,
  t,
  and-true (ok_body x && ok_mark m) (ok_body b) (and-true (ok_body x) (ok_mark m) okx okm) okb,
  ap (λ z. 40 ∷ z)
      (q ∙ ap (λ z. reads x ++ (41 ∷ z)) (e ∙ ap (λ z. spell_mark m ++ z) p ∙ sym (assoc (spell_mark m) (reads b) (41 ∷ t)))
      ∙ sym (assoc (reads x) (41 ∷ (spell_mark m ++ reads b)) (41 ∷ t))),
  i,
)

left_end : (d : ℕ) (v : List ℕ) → After (Left d) v → Left (suc d) (41 ∷ v)
unfolding reads ok_body
left_end d v k = (end, v, refl, refl, k)

none_left : Left 0 []
none_left = (end, (unfold ok_body in refl), (unfold reads in refl))

good-now : (s : State) → good s ≡ true → Ok Left s []
unfolding good resting
good-now dead h = absurd (false≢true h)
good-now (live (suc d) m) h = absurd (false≢true h)
good-now (live zero begin) h = inr none_left
good-now (live zero fresh) h = none_left
good-now (live zero after) h = bare-item Left left-leaf left-bar left-group left_end 0 [] none_left
good-now (live zero esc) h = absurd (false≢true h)
good-now (live zero hex1) h = absurd (false≢true h)
good-now (live zero hex2) h = absurd (false≢true h)
good-now (live zero opened) h = absurd (false≢true h)
good-now (live zero caret) h = absurd (false≢true h)
good-now (live zero member) h = absurd (false≢true h)
good-now (live zero (lone1 v)) h = absurd (false≢true h)
good-now (live zero cesc) h = absurd (false≢true h)
good-now (live zero chex1) h = absurd (false≢true h)
good-now (live zero (chex2 a)) h = absurd (false≢true h)
good-now (live zero (to v)) h = absurd (false≢true h)
good-now (live zero (tesc v)) h = absurd (false≢true h)
good-now (live zero (thex1 v)) h = absurd (false≢true h)
good-now (live zero (thex2 v a)) h = absurd (false≢true h)
good-now (live zero (num s l r v)) h = absurd (false≢true h)

pub good-tail : (w : List ℕ) (s : State) → good (run s w) ≡ true → Ok Left s w
unfolding run step
good-tail [] s h = good-now s h
good-tail (c ∷ w) dead h = good-tail w dead h
good-tail (c ∷ w) (live d m) h = tail_step Left left-leaf left-bar left-group left_end d m c w (good-tail w (mode d m c) h)

-- what is passed fits
pub good-fits : (w : List ℕ) → good (run (live 0 begin) w) ≡ true → Fits w
good-fits w h = go (good-tail w (live 0 begin) h)
  where
    go : Tail Left 0 begin w → Fits w
    go (inl (v, e, (b, ok, p))) = (record { bound = true; body = b }, ok, ap (λ z. 94 ∷ z) (sym p) ∙ sym e)
    go (inr (b, ok, p)) = (record { bound = false; body = b }, ok, sym p)
