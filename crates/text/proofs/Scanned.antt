-- The acceptor over what a tree reads as.
use Prim.Native.Nat.{ℕ, zero, suc, ◌+◌, ◌-◌, ◌*◌, ◌≤◌, ◌<◌}
use mathlib.Core.Path.{◌≡◌, refl, sym, ap, subst, ◌∙◌}
use mathlib.Core.Bool.{Bool, true, false, ◌&&◌, not, cond, false≢true}
use mathlib.Core.List.{List, [], ◌∷◌, ◌++◌}
use native.Mathlib.Omega.{arith}
use native.Mathlib.Decide.{dec_lt}
use lib.ListN.{length}
use lib.Dec.{leb, eqb}
use borrow.Author.Tests.{ne_eqb, le-ltb, leb-true, le-leb}
use Rattle.text.specs.Grammar.{Single, plain, hex, line, Member, lone, spaces, range, Leaf, single, space, any, class, Mark, bare, star, more, maybe, rep, Body, end, bar, leaf, group, Text, spell, spell_member, spell_members, spell_leaf, spell_mark, reads, text_reads, amid, special, class_special, is_digit, is_hex, hex_value, value, ok_single, ok_member, ok_members, ok_leaf, all_digits, number_from, ok_number, ok_mark, ok_body}
use Rattle.rules.specs.Scan.{some}
use Rattle.text.specs.Acceptor.{Mode, begin, fresh, after, esc, opened, caret, member, lone1, cesc, to, num, live, can, close, items, members, digit, mode, step, run, resting, good}
use Rattle.text.proofs.Places.{both, and-true, or_left, or_right}
use Rattle.text.proofs.Reading.{amid-out, assoc, not-true, number_digits}
use Rattle.text.proofs.Viable.{hex-small, by-mark}

pub data Ready : Type 0 where
  r-begin : Ready
  r-fresh : Ready
  r-after : Ready

abbrev pub ready : Ready → Mode
ready r-begin = begin
ready r-fresh = fresh
ready r-after = after

data Spot : Type 0 where
  s-opened : Spot
  s-caret : Spot
  s-member : Spot
  s-lone : ℕ → Spot

abbrev spot : Spot → Mode
spot s-opened = opened
spot s-caret = caret
spot s-member = member
spot (s-lone v) = lone1 v

-- ---- classes

single-run : (d : ℕ) (k : Spot) (s : Single) (x : List ℕ) → ok_single class_special s ≡ true
    → run (live d (spot k)) (spell s ++ x) ≡ run (live d (lone1 (value s))) x
unfolding run step spell ok_single value
single-run d k (plain b) x ok = ap (λ z. run z x) (go k)
  where
    o : (c : ℕ) → amid c class_special ≡ true → eqb b c ≡ false
    o c h = amid-out b c class_special (not-true (amid b class_special) ok) h

    base : members d b ≡ live d (lone1 b)
    base = unfold members amid in rw (o 92 refl, o 91 refl, o 93 refl, o 94 refl, o 45 refl)

    go : (k : Spot) → mode d (spot k) b ≡ live d (lone1 b)
    go s-opened = unfold mode amid in rw (o 94 refl) base
    go s-caret = unfold mode in base
    go s-member = unfold mode amid in rw (o 93 refl) base
    go (s-lone v) = unfold mode amid in rw (o 93 refl, o 45 refl) base
single-run d k (hex a b) x ok =
    let q = both (is_hex a) (is_hex b) ok in
    ap (λ z. run (step (step (step z 120) a) b) x) (first92 k) ∙ unfold mode in rw (q.0, q.1)
  where
    first92 : (k : Spot) → mode d (spot k) 92 ≡ live d cesc
    first92 s-opened = unfold mode members in refl
    first92 s-caret = unfold mode members in refl
    first92 s-member = unfold mode members in refl
    first92 (s-lone v) = unfold mode members in refl
single-run d k line x ok = ap (λ z. run (step z 110) x) (first92 k) ∙ unfold mode in refl
  where
    first92 : (k : Spot) → mode d (spot k) 92 ≡ live d cesc
    first92 s-opened = unfold mode members in refl
    first92 s-caret = unfold mode members in refl
    first92 s-member = unfold mode members in refl
    first92 (s-lone v) = unfold mode members in refl

to-run : (d v : ℕ) (s : Single) (x : List ℕ) → ok_single class_special s ≡ true → v ≤ value s
    → run (live d (to v)) (spell s ++ x) ≡ run (live d member) x
unfolding run step spell ok_single value mode
to-run d v (plain b) x ok h =
    rw (amid-out b 92 class_special (not-true (amid b class_special) ok) (unfold amid in refl), not-true (amid b class_special) ok, le-ltb b v h)
to-run d v (hex a b) x ok h =
    let q = both (is_hex a) (is_hex b) ok in
    rw (q.0, le-leb v (16 * hex_value a + 15) (omega (arith, hex-small b q.1)), q.1, le-leb v (16 * hex_value a + hex_value b) h)
to-run d v line x ok h = rw (le-leb v 10 h)

-- ---- numbers

some-intro : (n : ℕ) (p : ℕ → Bool) (i : ℕ) → i < n → p i ≡ true → some n p ≡ true
unfolding some
some-intro zero p i h e = absurd (omega arith)
some-intro (suc n) p i h e =
    elim (dec_lt i n) [
      | yes l ↦ or_left (some n p) (p n) (some-intro n p i l e)
      | no g ↦ let q : i ≡ n = omega arith in or_right (some n p) (p n) (subst (λ z. p z ≡ true) q e)
    ]

digit-small : (c : ℕ) → is_digit c ≡ true → c - 48 < 10
unfolding is_digit
digit-small c h = let q : c ≤ 57 = leb-true c 57 (both (leb 48 c) (leb c 57) h).1 in omega arith

can-intro : (low r v : ℕ) (ds : List ℕ) → all_digits ds ≡ true → length ds ≤ r → low ≤ number_from v ds → number_from v ds ≤ 300 → can low r v ≡ true
unfolding can all_digits number_from
can-intro low zero v [] a l g h = and-true (leb low v) (leb v 300) (le-leb low v g) (le-leb v 300 h)
can-intro low (suc r) v [] a l g h = or_left (leb low v && leb v 300) (some 10 (λ i. can low r (10 * v + i))) (and-true (leb low v) (leb v 300) (le-leb low v g) (le-leb v 300 h))
can-intro low zero v (c ∷ cs) a l g h = absurd (omega arith)
can-intro low (suc r) v (c ∷ cs) a l g h =
    let q = both (is_digit c) (all_digits cs) a in
    or_right (leb low v && leb v 300) (some 10 (λ i. can low r (10 * v + i)))
    (some-intro 10 (λ i. can low r (10 * v + i)) (c - 48) (digit-small c q.0) (can-intro low r (10 * v + (c - 48)) cs q.1 (omega arith) g h))

digit-sep : (second : Bool) (c : ℕ) → is_digit c ≡ true → eqb c (cond second 125 44) ≡ false
unfolding is_digit
digit-sep true c h = let q : c ≤ 57 = leb-true c 57 (both (leb 48 c) (leb c 57) h).1 in ne_eqb c 125 (λ e. omega arith)
digit-sep false c h = let q : 48 ≤ c = leb-true 48 c (both (leb 48 c) (leb c 57) h).0 in ne_eqb c 44 (λ e. omega arith)

num-run : (d : ℕ) (second : Bool) (low r v : ℕ) (ds x : List ℕ) → all_digits ds ≡ true → length ds ≤ r → r < 3 + length ds
    → low ≤ number_from v ds → number_from v ds ≤ 300
    → run (live d (num second low r v)) (ds ++ (cond second 125 44 ∷ x)) ≡ run (cond second (live d fresh) (live d (num true (number_from v ds) 3 0))) x
unfolding run step all_digits number_from
num-run d second low r v [] x a l k g h =
    ap (λ z. run z x) (by-mark d second low r v (omega arith) (and-true (leb low v) (leb v 300) (le-leb low v g) (le-leb v 300 h)))
num-run d second low zero v (c ∷ cs) x a l k g h = absurd (omega arith)
num-run d second low (suc r) v (c ∷ cs) x a l k g h =
    let q = both (is_digit c) (all_digits cs) a in
    let e : mode d (num second low (suc r) v) c ≡ live d (num second low r (10 * v + (c - 48)))
    = unfold mode digit in rw (digit-sep second c q.0, q.0, can-intro low r (10 * v + (c - 48)) cs q.1 (omega arith) g h) in
    ap (λ z. run z (cs ++ (cond second 125 44 ∷ x))) e
    ∙ num-run d second low r (10 * v + (c - 48)) cs x q.1 (omega arith) (omega arith) g h

-- ---- members, classes, leaves

-- a member leads to a place where a class may close
data Done : Type 0 where
  d-member : Done
  d-lone : ℕ → Done

abbrev done : Done → Spot
done d-member = s-member
done (d-lone v) = s-lone v

first92 : (d : ℕ) (k : Spot) → mode d (spot k) 92 ≡ live d cesc
first92 d s-opened = unfold mode members in refl
first92 d s-caret = unfold mode members in refl
first92 d s-member = unfold mode members in refl
first92 d (s-lone v) = unfold mode members in refl

member-run : (d : ℕ) (k : Spot) (m : Member) (x : List ℕ) → ok_member m ≡ true
    → (e : Done) × (run (live d (spot k)) (spell_member m ++ x) ≡ run (live d (spot (done e))) x)
unfolding spell_member ok_member
member-run d k (lone s) x ok = (d-lone (value s), single-run d k s x ok)
member-run d k spaces x ok = (d-member, unfold run step in (ap (λ z. run (step z 115) x) (first92 d k) ∙ unfold mode in refl))
member-run d k (range s t) x ok =
    let r = both (ok_single class_special s && ok_single class_special t) (leb (value s) (value t)) ok in
    let q = both (ok_single class_special s) (ok_single class_special t) r.0 in (
      d-member,
      ap (run (live d (spot k))) (assoc (spell s) (45 ∷ spell t) x) ∙ single-run d k s (45 ∷ (spell t ++ x)) q.0
          ∙ dash (value s) (spell t ++ x) ∙ to-run d (value s) t x q.1 (leb-true (value s) (value t) r.1),
    )
  where
    dash : (v : ℕ) (y : List ℕ) → run (live d (lone1 v)) (45 ∷ y) ≡ run (live d (to v)) y
    dash v y = unfold run step mode in refl

closing : (d : ℕ) (e : Done) (x : List ℕ) → run (live d (spot (done e))) (93 ∷ x) ≡ run (live d after) x
closing d d-member x = unfold run step mode in refl
closing d (d-lone v) x = unfold run step mode in refl

members_run : (d : ℕ) (e : Done) (ms : List Member) (x : List ℕ) → ok_members ms ≡ true
    → run (live d (spot (done e))) (spell_members ms ++ (93 ∷ x)) ≡ run (live d after) x
unfolding spell_members ok_members
members_run d e [] x ok = closing d e x
members_run d e (m ∷ ms) x ok =
    let q = both (ok_member m) (ok_members ms) ok in
    let (e2, p) = member-run d (done e) m (spell_members ms ++ (93 ∷ x)) q.0 in
    ap (run (live d (spot (done e)))) (assoc (spell_member m) (spell_members ms) (93 ∷ x)) ∙ p ∙ members_run d e2 ms x q.1

class-run : (d : ℕ) (neg : Bool) (ms : List Member) (x : List ℕ) → (not (eqb (length ms) 0) && ok_members ms) ≡ true
    → run (live d opened) (cond neg (94 ∷ []) [] ++ (spell_members ms ++ (93 ∷ x))) ≡ run (live d after) x
unfolding spell_members ok_members
class-run d neg [] x ok = absurd (false≢true ok)
class-run d neg (m ∷ ms) x ok = front neg ∙ ap (run (live d (spot (from neg)))) (assoc (spell_member m) (spell_members ms) (93 ∷ x)) ∙ p ∙ members_run d e2 ms x q.1
  where
    q : (ok_member m ≡ true) × (ok_members ms ≡ true)
    q = both (ok_member m) (ok_members ms) (both (not (eqb (suc (length ms)) 0)) (ok_member m && ok_members ms) ok).1

    from : Bool → Spot
    from true = s-caret
    from false = s-opened

    r : (e : Done) × (run (live d (spot (from neg))) (spell_member m ++ (spell_members ms ++ (93 ∷ x))) ≡ run (live d (spot (done e))) (spell_members ms ++ (93 ∷ x)))
    r = member-run d (from neg) m (spell_members ms ++ (93 ∷ x)) q.0

    e2 : Done
    e2 = r.0

    p : run (live d (spot (from neg))) (spell_member m ++ (spell_members ms ++ (93 ∷ x))) ≡ run (live d (spot (done e2))) (spell_members ms ++ (93 ∷ x))
    p = r.1

    front : (b : Bool) → run (live d opened) (cond b (94 ∷ []) [] ++ ((spell_member m ++ spell_members ms) ++ (93 ∷ x))) ≡ run (live d (spot (from b))) ((spell_member m ++ spell_members ms) ++ (93 ∷ x))
    front true = unfold run step mode in refl
    front false = refl

ready-esc : (d : ℕ) (m : Ready) → mode d (ready m) 92 ≡ live d esc
ready-esc d r-begin = unfold mode items in refl
ready-esc d r-fresh = unfold mode items in refl
ready-esc d r-after = unfold mode items in refl

leaf-run : (d : ℕ) (m : Ready) (l : Leaf) (x : List ℕ) → ok_leaf l ≡ true → run (live d (ready m)) (spell_leaf l ++ x) ≡ run (live d after) x
unfolding run step spell_leaf spell ok_leaf ok_single
leaf-run d m (single (plain b)) x ok = ap (λ z. run z x) (go m)
  where
    o : (c : ℕ) → amid c special ≡ true → eqb b c ≡ false
    o c h = amid-out b c special (not-true (amid b special) ok) h

    base : items d b ≡ live d after
    base = unfold items in rw (o 124 (unfold amid in refl), o 40 (unfold amid in refl), o 41 (unfold amid in refl), o 46 (unfold amid in refl), o 91 (unfold amid in refl), o 92 (unfold amid in refl), not-true (amid b special) ok)

    go : (m : Ready) → mode d (ready m) b ≡ live d after
    go r-begin = unfold mode in rw (o 94 (unfold amid in refl)) base
    go r-fresh = unfold mode in base
    go r-after = unfold mode in rw (o 42 (unfold amid in refl), o 43 (unfold amid in refl), o 63 (unfold amid in refl), o 123 (unfold amid in refl)) base
leaf-run d m (single (hex a b)) x ok =
    let q = both (is_hex a) (is_hex b) ok in
    ap (λ z. run (step (step (step z 120) a) b) x) (ready-esc d m) ∙ unfold mode in rw (q.0, q.1)
leaf-run d m (single line) x ok = ap (λ z. run (step z 110) x) (ready-esc d m) ∙ unfold mode in refl
leaf-run d m space x ok = ap (λ z. run (step z 115) x) (ready-esc d m) ∙ unfold mode in refl
leaf-run d r-begin any x ok = unfold mode items in refl
leaf-run d r-fresh any x ok = unfold mode items in refl
leaf-run d r-after any x ok = unfold mode items in refl
leaf-run d m (class neg ms) x ok =
    ap (λ z. run z ((cond neg (94 ∷ []) [] ++ (spell_members ms ++ (93 ∷ []))) ++ x)) (open91 m)
    ∙ ap (run (live d opened)) (assoc (cond neg (94 ∷ []) []) (spell_members ms ++ (93 ∷ [])) x ∙ ap (λ z. cond neg (94 ∷ []) [] ++ z) (assoc (spell_members ms) (93 ∷ []) x))
    ∙ class-run d neg ms x ok
  where
    open91 : (m : Ready) → mode d (ready m) 91 ≡ live d opened
    open91 r-begin = unfold mode items in refl
    open91 r-fresh = unfold mode items in refl
    open91 r-after = unfold mode items in refl

-- ---- marks and bodies

mark-run : (d : ℕ) (m : Mark) (x : List ℕ) → ok_mark m ≡ true
    → (k : Ready) × (run (live d after) (spell_mark m ++ x) ≡ run (live d (ready k)) x)
unfolding spell_mark ok_mark
mark-run d bare x ok = (r-after, refl)
mark-run d star x ok = (r-fresh, unfold run step mode in refl)
mark-run d more x ok = (r-fresh, unfold run step mode in refl)
mark-run d maybe x ok = (r-fresh, unfold run step mode in refl)
mark-run d (rep m n) x ok =
    let r = both (ok_number m && ok_number n) (leb (number_from 0 m) (number_from 0 n)) ok in
    let q = both (ok_number m) (ok_number n) r.0 in
    let (a, b, c) = facts m q.0 in
    let (a2, b2, c2) = facts n q.1 in (
      r-fresh,
      unfold run step mode in
          (ap (run (live d (num false 0 3 0))) (assoc m (44 ∷ (n ++ (125 ∷ []))) x ∙ ap (λ z. m ++ (44 ∷ z)) (assoc n (125 ∷ []) x))
          ∙ num-run d false 0 3 0 m (n ++ (125 ∷ x)) (number_digits m q.0) b (omega arith) (omega arith) c
          ∙ num-run d true (number_from 0 m) 3 0 n x (number_digits n q.1) b2 (omega arith) (leb-true (number_from 0 m) (number_from 0 n) r.1) c2),
    )
  where
    facts : (ds : List ℕ) → ok_number ds ≡ true → (1 ≤ length ds) × (length ds ≤ 3) × (number_from 0 ds ≤ 300)
    facts ds h = unfold ok_number in
        (let p = both (leb 1 (length ds) && leb (length ds) 3 && all_digits ds) (leb (number_from 0 ds) 300) h in
        let s = both (leb 1 (length ds) && leb (length ds) 3) (all_digits ds) p.0 in
        let t = both (leb 1 (length ds)) (leb (length ds) 3) s.0 in
        (leb-true 1 (length ds) t.0, leb-true (length ds) 3 t.1, leb-true (number_from 0 ds) 300 p.1))

bar-run : (d : ℕ) (m : Ready) (x : List ℕ) → run (live d (ready m)) (124 ∷ x) ≡ run (live d fresh) x
bar-run d r-begin x = unfold run step mode items in refl
bar-run d r-fresh x = unfold run step mode items in refl
bar-run d r-after x = unfold run step mode items in refl

open-run : (d : ℕ) (m : Ready) (x : List ℕ) → run (live d (ready m)) (40 ∷ x) ≡ run (live (suc d) fresh) x
open-run d r-begin x = unfold run step mode items in refl
open-run d r-fresh x = unfold run step mode items in refl
open-run d r-after x = unfold run step mode items in refl

close-run : (d : ℕ) (m : Ready) (x : List ℕ) → run (live (suc d) (ready m)) (41 ∷ x) ≡ run (live d after) x
close-run d r-begin x = unfold run step mode items close in refl
close-run d r-fresh x = unfold run step mode items close in refl
close-run d r-after x = unfold run step mode items close in refl

pub body_run : (b : Body) (d : ℕ) (m : Ready) (x : List ℕ) → ok_body b ≡ true
    → (k : Ready) × (run (live d (ready m)) (reads b ++ x) ≡ run (live d (ready k)) x)
unfolding reads ok_body
body_run end d m x ok = (m, refl)
body_run (bar b) d m x ok = let (k, p) = body_run b d r-fresh x ok in (k, bar-run d m (reads b ++ x) ∙ p)
body_run (leaf l t b) d m x ok =
    let q = both (ok_leaf l && ok_mark t) (ok_body b) ok in
    let o = both (ok_leaf l) (ok_mark t) q.0 in
    let (k, p) = mark-run d t (reads b ++ x) o.1 in
    let (j, r) = body_run b d k x q.1 in (
      j,
      ap (run (live d (ready m))) (assoc (spell_leaf l) (spell_mark t ++ reads b) x ∙ ap (λ z. spell_leaf l ++ z) (assoc (spell_mark t) (reads b) x))
          ∙ leaf-run d m l (spell_mark t ++ (reads b ++ x)) o.0 ∙ p ∙ r,
    )
body_run (group z t b) d m x ok =
    let q = both (ok_body z && ok_mark t) (ok_body b) ok in
    let o = both (ok_body z) (ok_mark t) q.0 in
    let (i, s) = body_run z (suc d) r-fresh (41 ∷ (spell_mark t ++ (reads b ++ x))) o.0 in
    let (k, p) = mark-run d t (reads b ++ x) o.1 in
    let (j, r) = body_run b d k x q.1 in (
      j,
      open-run d m ((reads z ++ (41 ∷ (spell_mark t ++ reads b))) ++ x)
          ∙ ap (run (live (suc d) fresh)) (assoc (reads z) (41 ∷ (spell_mark t ++ reads b)) x ∙ ap (λ y. reads z ++ (41 ∷ y)) (assoc (spell_mark t) (reads b) x))
          ∙ s ∙ close-run d i (spell_mark t ++ (reads b ++ x)) ∙ p ∙ r,
    )

caret-run : (x : List ℕ) → run (live 0 begin) (94 ∷ x) ≡ run (live 0 fresh) x
caret-run x = unfold run step mode in refl

-- what fits is passed
pub fits-good : (t : Text) → ok_body t.body ≡ true → good (run (live 0 begin) (text_reads t)) ≡ true
fits-good t ok = go t.bound
  where
    unit : (w : List ℕ) → w ++ [] ≡ w
    unit [] = refl
    unit (c ∷ w) = ap (λ z. c ∷ z) (unit w)

    fine : (k : Ready) → good (run (live 0 (ready k)) []) ≡ true
    fine r-begin = unfold run good resting in refl
    fine r-fresh = unfold run good resting in refl
    fine r-after = unfold run good resting in refl

    from : (m : Ready) → good (run (live 0 (ready m)) (reads t.body)) ≡ true
    from m = let (k, p) = body_run t.body 0 m [] ok in ap good (ap (run (live 0 (ready m))) (sym (unit (reads t.body))) ∙ p) ∙ fine k

    go : (b : Bool) → good (run (live 0 begin) (cond b (94 ∷ reads t.body) (reads t.body))) ≡ true
    go true = ap good (caret-run (reads t.body)) ∙ from r-fresh
    go false = from r-begin
