-- 20 is given exactly when a seventeenth bracket opens inside the others; 0 exactly when the text fits and none does.
use Prim.Native.Nat.{ℕ, zero, suc, ◌+◌, ◌-◌, ◌*◌, ◌≤◌, ◌<◌}
use mathlib.Core.Path.{◌≡◌, refl, sym, ap, subst, ◌∙◌}
use mathlib.Core.Bool.{Bool, true, false, ◌&&◌, ◌||◌, cond, true≢false, false≢true}
use mathlib.Core.List.{List, [], ◌∷◌, ◌++◌}
use mathlib.Core.Logic.{◌⊎◌, inl, inr, ◌↔◌}
use native.Mathlib.Omega.{arith}
use lib.ListN.{length, take, drop}
use lib.Dec.{leb, ltb, eqb}
use borrow.Author.Tests.{ltb-true, ltb-false, le-ltb}
use Rattle.text.specs.Grammar.{Leaf, Mark, Body, end, bar, leaf, group, Bytes, Fits, Viable, Opens, TooDeep, spell_leaf, spell_mark, reads, special, class_special, amid, is_digit, is_hex, hex_value, ok_leaf, ok_mark, ok_body}
use Rattle.text.specs.Acceptor.{Mode, begin, fresh, after, esc, hex1, hex2, opened, caret, member, lone1, cesc, chex1, chex2, to, tesc, thex1, thex2, num, State, dead, live, can, close, items, members, digit, mode, step, run, good, is_dead, deep, verdict}
use Rattle.text.proofs.Places.{and-true}
use Rattle.text.proofs.Reading.{assoc}
use Rattle.text.proofs.Scanned.{Ready, r-begin, r-fresh, r-after, ready, body_run}
use Rattle.text.proofs.Passed.{After, Tail, Ok, tail_step}
use Rattle.text.proofs.Place.{bytes_drop, fits_iff, place-19}

-- ---- what is left, up to the seventeenth bracket

abbrev Way : ℕ → List ℕ → Type 0
Way zero w = Opens 17 w
Way (suc d) w = Opens (16 - d) w ⊎ ((b : Body) × (v : List ℕ) × (ok_body b ≡ true) × (w ≡ reads b ++ (41 ∷ v)) × After (Way d) v)

-- an item in front
opens-leaf : (n : ℕ) (l : Leaf) (m : Mark) (u : List ℕ) → ok_leaf l ≡ true → ok_mark m ≡ true → Opens n u → Opens n (spell_leaf l ++ (spell_mark m ++ u))
unfolding reads ok_body
opens-leaf zero l m u ok okm k = tt
opens-leaf (suc n) l m u ok okm (b, v, okb, p, k) = (
  leaf l m b,
  v,
  and-true (ok_leaf l && ok_mark m) (ok_body b) (and-true (ok_leaf l) (ok_mark m) ok okm) okb,
  ap (λ z. spell_leaf l ++ z) (ap (λ z. spell_mark m ++ z) p ∙ sym (assoc (spell_mark m) (reads b) (40 ∷ v))) ∙ sym (assoc (spell_leaf l) (spell_mark m ++ reads b) (40 ∷ v)),
  k,
)

opens-bar : (n : ℕ) (u : List ℕ) → Opens n u → Opens n (124 ∷ u)
unfolding reads ok_body
opens-bar zero u k = tt
opens-bar (suc n) u (b, v, okb, p, k) = (bar b, v, okb, ap (λ z. 124 ∷ z) p, k)

opens-group : (n : ℕ) (x : Body) (m : Mark) (u : List ℕ) → ok_body x ≡ true → ok_mark m ≡ true → Opens n u → Opens n (40 ∷ (reads x ++ (41 ∷ (spell_mark m ++ u))))
unfolding reads ok_body
opens-group zero x m u okx okm k = tt
opens-group (suc n) x m u okx okm (b, v, okb, p, k) = (
  group x m b,
  v,
  and-true (ok_body x && ok_mark m) (ok_body b) (and-true (ok_body x) (ok_mark m) okx okm) okb,
  ap (λ z. 40 ∷ z)
      (ap (λ z. reads x ++ (41 ∷ z)) (ap (λ z. spell_mark m ++ z) p ∙ sym (assoc (spell_mark m) (reads b) (40 ∷ v)))
      ∙ sym (assoc (reads x) (41 ∷ (spell_mark m ++ reads b)) (40 ∷ v))),
  k,
)

opens-more : (n : ℕ) (v : List ℕ) → Opens n v → Opens (suc n) (40 ∷ v)
unfolding reads ok_body
opens-more n v k = (end, v, refl, refl, k)

-- the brackets left to open, one further in
opens-next : (d : ℕ) (v : List ℕ) → Opens (16 - suc d) v → Opens (16 - d) (40 ∷ v)
opens-next d v k = go (ltb d 16) refl
  where
    go : (b : Bool) → ltb d 16 ≡ b → Opens (16 - d) (40 ∷ v)
    go true e = let l : d < 16 = ltb-true d 16 e in let q : suc (16 - suc d) ≡ 16 - d = omega arith in subst (λ n. Opens n (40 ∷ v)) q (opens-more (16 - suc d) v k)
    go false e = let l : 16 ≤ d = ltb-false d 16 e in let q : 0 ≡ 16 - d = omega arith in subst (λ n. Opens n (40 ∷ v)) q tt

way-leaf : (d : ℕ) (l : Leaf) (v : List ℕ) → ok_leaf l ≡ true → After (Way d) v → Way d (spell_leaf l ++ v)
unfolding reads ok_body
way-leaf zero l v ok (m, u, okm, e, k) = subst (λ z. Opens 17 (spell_leaf l ++ z)) (sym e) (opens-leaf 17 l m u ok okm k)
way-leaf (suc d) l v ok (m, u, okm, e, inl k) = inl (subst (λ z. Opens (16 - d) (spell_leaf l ++ z)) (sym e) (opens-leaf (16 - d) l m u ok okm k))
way-leaf (suc d) l v ok (m, u, okm, e, inr (b, y, okb, p, i)) =
    inr (
      leaf l m b,
      y,
      and-true (ok_leaf l && ok_mark m) (ok_body b) (and-true (ok_leaf l) (ok_mark m) ok okm) okb,
      ap (λ z. spell_leaf l ++ z) (e ∙ ap (λ z. spell_mark m ++ z) p ∙ sym (assoc (spell_mark m) (reads b) (41 ∷ y)))
          ∙ sym (assoc (spell_leaf l) (spell_mark m ++ reads b) (41 ∷ y)),
      i,
    )

way-bar : (d : ℕ) (v : List ℕ) → Way d v → Way d (124 ∷ v)
unfolding reads ok_body
way-bar zero v k = opens-bar 17 v k
way-bar (suc d) v (inl k) = inl (opens-bar (16 - d) v k)
way-bar (suc d) v (inr (b, y, ok, p, i)) = inr (bar b, y, ok, ap (λ z. 124 ∷ z) p, i)

way-group : (d : ℕ) (v : List ℕ) → Way (suc d) v → Way d (40 ∷ v)
unfolding reads ok_body
way-group zero v (inl k) = opens-more 16 v k
way-group (suc d) v (inl k) = inl (opens-next d v k)
way-group zero v (inr (x, y, okx, q, (m, u, okm, e, k))) =
    subst (λ z. Opens 17 (40 ∷ z)) (sym (q ∙ ap (λ z. reads x ++ (41 ∷ z)) e)) (opens-group 17 x m u okx okm k)
way-group (suc d) v (inr (x, y, okx, q, (m, u, okm, e, inl k))) =
    inl (subst (λ z. Opens (16 - d) (40 ∷ z)) (sym (q ∙ ap (λ z. reads x ++ (41 ∷ z)) e)) (opens-group (16 - d) x m u okx okm k))
way-group (suc d) v (inr (x, y, okx, q, (m, u, okm, e, inr (b, t, okb, p, i)))) =
    inr (
      group x m b,
      t,
      and-true (ok_body x && ok_mark m) (ok_body b) (and-true (ok_body x) (ok_mark m) okx okm) okb,
      ap (λ z. 40 ∷ z)
          (q ∙ ap (λ z. reads x ++ (41 ∷ z)) (e ∙ ap (λ z. spell_mark m ++ z) p ∙ sym (assoc (spell_mark m) (reads b) (41 ∷ t)))
          ∙ sym (assoc (reads x) (41 ∷ (spell_mark m ++ reads b)) (41 ∷ t))),
      i,
    )

way_end : (d : ℕ) (v : List ℕ) → After (Way d) v → Way (suc d) (41 ∷ v)
unfolding reads ok_body
way_end d v k = inr (end, v, refl, refl, k)

-- ---- only an opening bracket leads deeper

abbrev Deeper : ℕ → State → Type 0
Deeper d s = deep s ≡ true → s ≡ live (suc d) fresh

flat : (d : ℕ) (m : Mode) → d ≤ 16 → Deeper d (live d m)
unfolding deep
flat d m h e = absurd (false≢true (sym (le-ltb 16 d h) ∙ e))

gone : (d : ℕ) → Deeper d dead
unfolding deep
gone d e = absurd (false≢true e)

in-cond : (d : ℕ) (b : Bool) (x y : State) → Deeper d x → Deeper d y → Deeper d (cond b x y)
in-cond d true x y f g = f
in-cond d false x y f g = g

closes : (d : ℕ) → d ≤ 16 → Deeper d (close d)
unfolding close deep
closes zero h e = absurd (false≢true e)
closes (suc d) h e = absurd (false≢true (sym (le-ltb 16 d (omega arith)) ∙ e))

module _ (d c : ℕ) (h : d ≤ 16) where
  items-deeper : Deeper d (items d c)
  unfolding items
  items-deeper =
      in-cond d (eqb c 124) _ _ (flat d fresh h) (in-cond d (eqb c 40) _ _ (λ e. refl) (in-cond d (eqb c 41) _ _ (closes d h)
      (in-cond d (eqb c 46) _ _ (flat d after h) (in-cond d (eqb c 91) _ _ (flat d opened h) (in-cond d (eqb c 92) _ _ (flat d esc h)
      (in-cond d (amid c special) _ _ (gone d) (flat d after h)))))))

  members-deeper : Deeper d (members d c)
  unfolding members
  members-deeper = in-cond d (eqb c 92) _ _ (flat d cesc h) (in-cond d (amid c class_special) _ _ (gone d) (flat d (lone1 c) h))

  digit-deeper : (second : Bool) (low r v : ℕ) → Deeper d (digit d second low r v c)
  unfolding digit
  digit-deeper second low zero v = gone d
  digit-deeper second low (suc r) v = in-cond d (is_digit c && can low r (10 * v + (c - 48))) _ _ (flat d (num second low r (10 * v + (c - 48))) h) (gone d)

  mode-deeper : (m : Mode) → Deeper d (mode d m c)
  unfolding mode
  mode-deeper begin = in-cond d (eqb c 94) _ _ (flat d fresh h) items-deeper
  mode-deeper fresh = items-deeper
  mode-deeper after = in-cond d (eqb c 42 || eqb c 43 || eqb c 63) _ _ (flat d fresh h) (in-cond d (eqb c 123) _ _ (flat d (num false 0 3 0) h) items-deeper)
  mode-deeper esc = in-cond d (eqb c 110 || eqb c 115) _ _ (flat d after h) (in-cond d (eqb c 120) _ _ (flat d hex1 h) (gone d))
  mode-deeper hex1 = in-cond d (is_hex c) _ _ (flat d hex2 h) (gone d)
  mode-deeper hex2 = in-cond d (is_hex c) _ _ (flat d after h) (gone d)
  mode-deeper opened = in-cond d (eqb c 94) _ _ (flat d caret h) members-deeper
  mode-deeper caret = members-deeper
  mode-deeper member = in-cond d (eqb c 93) _ _ (flat d after h) members-deeper
  mode-deeper (lone1 v) = in-cond d (eqb c 93) _ _ (flat d after h) (in-cond d (eqb c 45) _ _ (flat d (to v) h) members-deeper)
  mode-deeper cesc = in-cond d (eqb c 110) _ _ (flat d (lone1 10) h) (in-cond d (eqb c 115) _ _ (flat d member h) (in-cond d (eqb c 120) _ _ (flat d chex1 h) (gone d)))
  mode-deeper chex1 = in-cond d (is_hex c) _ _ (flat d (chex2 c) h) (gone d)
  mode-deeper (chex2 a) = in-cond d (is_hex c) _ _ (flat d (lone1 (16 * hex_value a + hex_value c)) h) (gone d)
  mode-deeper (to v) = in-cond d (eqb c 92) _ _ (flat d (tesc v) h) (in-cond d (amid c class_special || ltb c v) _ _ (gone d) (flat d member h))
  mode-deeper (tesc v) = in-cond d (eqb c 110 && leb v 10) _ _ (flat d member h) (in-cond d (eqb c 120) _ _ (flat d (thex1 v) h) (gone d))
  mode-deeper (thex1 v) = in-cond d (is_hex c && leb v (16 * hex_value c + 15)) _ _ (flat d (thex2 v c) h) (gone d)
  mode-deeper (thex2 v a) = in-cond d (is_hex c && leb v (16 * hex_value a + hex_value c)) _ _ (flat d member h) (gone d)
  mode-deeper (num second low r v) =
      in-cond d (eqb c (cond second 125 44)) _ _
      (in-cond d (ltb r 3 && leb low v && leb v 300) _ _ (in-cond d second _ _ (flat d fresh h) (flat d (num true v 3 0) h)) (gone d))
      (digit-deeper second low r v)

-- ---- 20: from the acceptor to the grammar

deep-way : (w : List ℕ) (d : ℕ) (m : Mode) (i : ℕ) → d ≤ 16 → (verdict (live d m) i w).0 ≡ 20 → Tail Way d m w
unfolding verdict step
deep-way [] d m i h e = absurd (go (good (live d m)) refl)
  where
    shallow : deep (live d m) ≡ false
    shallow = unfold deep in le-ltb 16 d h

    go : (b : Bool) → good (live d m) ≡ b → ⊥
    go true g = omega (arith, (rw (shallow, g) at e))
    go false g = omega (arith, (rw (shallow, g) at e))
deep-way (c ∷ w) d m i h e = tail_step Way way-leaf way-bar way-group way_end d m c w (go (mode d m c) refl (λ d2 m2 l. deep-way w d2 m2 (suc i) l))
  where
    shallow : deep (live d m) ≡ false
    shallow = unfold deep in le-ltb 16 d h

    no_more : is_dead dead ≡ true
    no_more = unfold is_dead in refl

    go : (s : State) → mode d m c ≡ s → ((d2 : ℕ) (m2 : Mode) → d2 ≤ 16 → (verdict (live d2 m2) (suc i) w).0 ≡ 20 → Tail Way d2 m2 w) → Ok Way s w
    go dead q ih = let z : is_dead (mode d m c) ≡ true = ap is_dead q ∙ no_more in absurd (omega (arith, (rw (shallow, z) at e)))
    go (live d2 m2) q ih = in-or-deep (ltb 16 d2) refl
      where
        alive : is_dead (live d2 m2) ≡ false
        alive = unfold is_dead in refl

        on : (verdict (live d2 m2) (suc i) w).0 ≡ 20
        on = rw (shallow, q, alive) at e

        reached : live d2 m2 ≡ live (suc d) fresh → 16 < d2 → Tail Way d2 m2 w
        reached z l = subst (λ s. Ok Way s w) (sym z) (inl (subst (λ n. Opens n w) (over (depths z) l) tt))
          where
            depths : live d2 m2 ≡ live (suc d) fresh → d2 ≡ suc d
            depths z = cc

            over : d2 ≡ suc d → 16 < d2 → 0 ≡ 16 - d
            over a b = omega arith

        in-or-deep : (b : Bool) → ltb 16 d2 ≡ b → Tail Way d2 m2 w
        in-or-deep false k = ih d2 m2 (ltb-false 16 d2 k) on
        in-or-deep true k =
            let z : mode d m c ≡ live (suc d) fresh = mode-deeper d c h m (ap deep q ∙ (unfold deep in k)) in
            reached (sym q ∙ z) (ltb-true 16 d2 k)

-- ---- 20: from the grammar to the acceptor

open-run : (d : ℕ) (m : Ready) (x : List ℕ) → run (live d (ready m)) (40 ∷ x) ≡ run (live (suc d) (ready r-fresh)) x
open-run d r-begin x = unfold run step mode items in refl
open-run d r-fresh x = unfold run step mode items in refl
open-run d r-after x = unfold run step mode items in refl

opens-run : (n d : ℕ) (m : Ready) (w : List ℕ) → Opens n w → (u : List ℕ) × (x : List ℕ) × (k : Ready) × (w ≡ u ++ x) × (run (live d (ready m)) u ≡ live (d + n) (ready k))
opens-run zero d m w k = ([], w, m, refl, (unfold run in ap (λ z. live z (ready m)) (same d)))
  where
    same : (d : ℕ) → d ≡ d + 0
    same d = omega arith
opens-run (suc n) d m w (b, v, ok, p, k) =
    let (u, x, j, q, r) = opens-run n (suc d) r-fresh v k in
    let (i, s) = body_run b d m (40 ∷ u) ok in (
      reads b ++ (40 ∷ u),
      x,
      j,
      p ∙ ap (λ z. reads b ++ (40 ∷ z)) q ∙ sym (assoc (reads b) (40 ∷ u) x),
      s ∙ open-run d i u ∙ r ∙ ap (λ z. live z (ready j)) (shift d n),
    )
  where
    shift : (d n : ℕ) → suc d + n ≡ d + suc n
    shift d n = omega arith

run-dead : (v : List ℕ) → run dead v ≡ dead
unfolding run step
run-dead [] = refl
run-dead (c ∷ v) = run-dead v

run-deep : (u x : List ℕ) (s : State) (i : ℕ) → deep (run s u) ≡ true → (verdict s i (u ++ x)).0 ≡ 20
unfolding run verdict
run-deep [] [] s i h = rw h
run-deep [] (c ∷ x) s i h = rw h
run-deep (c ∷ u) x s i h = go (deep s) (is_dead (step s c)) refl refl (run-deep u x (step s c) (suc i) h)
  where
    go : (a b : Bool) → deep s ≡ a → is_dead (step s c) ≡ b → (verdict (step s c) (suc i) (u ++ x)).0 ≡ 20
        → (cond (deep s) (20, 0) (cond (is_dead (step s c)) (19, i) (verdict (step s c) (suc i) (u ++ x)))).0 ≡ 20
    go true b p q ih = rw p
    go false false p q ih = rw (p, q) ih
    go false true p q ih = absurd (true≢false (sym h ∙ ap (λ z. deep (run z u)) (is-dead (step s c) q) ∙ ap deep (run-dead u) ∙ (unfold deep in refl)))
      where
        is-dead : (s : State) → is_dead s ≡ true → s ≡ dead
        is-dead dead e = refl
        is-dead (live d m) e = absurd (unfold is_dead in false≢true e)

caret-run : (x : List ℕ) → run (live 0 begin) (94 ∷ x) ≡ run (live 0 (ready r-fresh)) x
caret-run x = unfold run step mode in refl

-- 20 exactly when a seventeenth bracket opens inside the others, before any place where the text is bad, or at all
pub deep-20 : (w : List ℕ) → ((verdict (live 0 begin) 0 w).0 ≡ 20) ↔ TooDeep w
deep-20 w = (λ e. deep-way w 0 begin 0 (omega arith) e, back)
  where
    back : TooDeep w → (verdict (live 0 begin) 0 w).0 ≡ 20
    back (inr k) =
        let (u, x, j, q, r) = opens-run 17 0 r-begin w k in
        ap (λ z. (verdict (live 0 begin) 0 z).0) q ∙ run-deep u x (live 0 begin) 0 (ap deep r ∙ (unfold deep in refl))
    back (inl (v, e, k)) =
        let (u, x, j, q, r) = opens-run 17 0 r-fresh v k in
        ap (λ z. (verdict (live 0 begin) 0 z).0) (e ∙ ap (λ z. 94 ∷ z) q) ∙ run-deep (94 ∷ u) x (live 0 begin) 0 (ap deep (caret-run u ∙ r) ∙ (unfold deep in refl))

-- ---- 0

take-drop : (n : ℕ) (w : List ℕ) → take n w ++ drop n w ≡ w
take-drop zero w = refl
take-drop (suc n) [] = refl
take-drop (suc n) (c ∷ w) = ap (λ z. c ∷ z) (take-drop n w)

abbrev Three : ℕ × ℕ → Bool → Type 0
Three v g = ((v.0 ≡ 0) × (g ≡ true)) ⊎ ((v.0 ≡ 19) ⊎ (v.0 ≡ 20))

one_of : (w : List ℕ) (s : State) (i : ℕ) → Three (verdict s i w) (good (run s w))
unfolding verdict run
one_of [] s i = go (deep s) (good s) refl refl
  where
    go : (x y : Bool) → deep s ≡ x → good s ≡ y → Three (cond (deep s) (20, 0) (cond (good s) (0, 0) (19, i))) (good s)
    go true y p q = rw p (inr (inr refl))
    go false true p q = rw (p, q) (inl (refl, refl))
    go false false p q = rw (p, q) (inr (inl refl))
one_of (c ∷ w) s i = go (deep s) (is_dead (step s c)) refl refl (one_of w (step s c) (suc i))
  where
    go : (x y : Bool) → deep s ≡ x → is_dead (step s c) ≡ y → Three (verdict (step s c) (suc i) w) (good (run (step s c) w))
        → Three (cond (deep s) (20, 0) (cond (is_dead (step s c)) (19, i) (verdict (step s c) (suc i) w))) (good (run (step s c) w))
    go true y p q ih = rw p (inr (inr refl))
    go false true p q ih = rw (p, q) (inr (inl refl))
    go false false p q ih = rw (p, q) ih

-- 0 exactly when the text fits and no seventeenth bracket opens
pub good-0 : (w : List ℕ) → Bytes w → ((verdict (live 0 begin) 0 w).0 ≡ 0) ↔ (Fits w × (TooDeep w → ⊥))
good-0 w by = (λ e. there e (one_of w (live 0 begin) 0), λ k. back k (one_of w (live 0 begin) 0))
  where
    there : (verdict (live 0 begin) 0 w).0 ≡ 0 → Three (verdict (live 0 begin) 0 w) (good (run (live 0 begin) w)) → Fits w × (TooDeep w → ⊥)
    there e (inl (z, g)) = ((fits_iff w).0 g, λ k. let a = (deep-20 w).1 k in omega arith)
    there e (inr (inl z)) = absurd (omega arith)
    there e (inr (inr z)) = absurd (omega arith)

    back : Fits w × (TooDeep w → ⊥) → Three (verdict (live 0 begin) 0 w) (good (run (live 0 begin) w)) → (verdict (live 0 begin) 0 w).0 ≡ 0
    back k (inl z) = z.0
    back k (inr (inr z)) = absurd (k.1 ((deep-20 w).0 z))
    back (f, g) (inr (inl z)) = let (p, e, v, c) = place-19 w by z in absurd (bad p c)
      where
        bad : (p : ℕ) → ((p ≡ length w) × (Fits w → ⊥)) ⊎ ((p < length w) × (Viable (take (suc p) w) → ⊥)) → ⊥
        bad p (inl (a, b)) = b f
        bad p (inr (a, b)) = b (drop (suc p) w, bytes_drop (suc p) w by, subst Fits (sym (take-drop (suc p) w)) f)
