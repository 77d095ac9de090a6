-- A good text is too deep exactly when its tree is 17 deep or deeper. Assumes nothing.
use Prim.Native.Nat.{ℕ, zero, suc, ◌≤◌}
use mathlib.Core.Path.{◌≡◌, refl, sym, ap, subst, ◌∙◌}
use mathlib.Core.Bool.{Bool, true, false, ◌&&◌, cond}
use mathlib.Core.List.{List, [], ◌∷◌, ◌++◌}
use mathlib.Core.Logic.{◌⊎◌, inl, inr, ⊎_elim}
use native.Mathlib.Omega.{arith}
use lib.Dec.{leb}
use borrow.Author.Tests.{leb-true, leb-false}
use Rattle.text.specs.Grammar.{Mark, Body, end, bar, leaf, group, spell_leaf, spell_mark, reads, ok_leaf, ok_mark, ok_body, larger, depth, text_reads, Opens, TooDeep}
use Rattle.text.specs.Acceptor.{begin, fresh, live, items, mode, step, run, good}
use Rattle.text.proofs.Places.{both, and-true}
use Rattle.text.proofs.Reading.{assoc, one-reading}
use Rattle.text.proofs.Scanned.{Ready, r-begin, r-fresh, r-after, ready, body_run, fits-good}
use Rattle.text.proofs.Passed.{After, Left, good-tail}
use Rattle.text_laws.specs.Depth.{DepthSaid}

-- ---- the larger of two

larger-left : (a b : ℕ) → a ≤ larger a b
unfolding larger
larger-left a b = go (leb a b) refl
  where
    go : (t : Bool) → leb a b ≡ t → a ≤ cond t b a
    go true e = leb-true a b e
    go false e = omega arith

larger-right : (a b : ℕ) → b ≤ larger a b
unfolding larger
larger-right a b = go (leb a b) refl
  where
    go : (t : Bool) → leb a b ≡ t → b ≤ cond t b a
    go true e = omega arith
    go false e = let h = leb-false a b e in omega (arith, h)

larger-one : (n a b : ℕ) → n ≤ larger a b → (n ≤ a) ⊎ (n ≤ b)
unfolding larger
larger-one n a b = go (leb a b)
  where
    go : (t : Bool) → n ≤ cond t b a → (n ≤ a) ⊎ (n ≤ b)
    go true h = inr h
    go false h = inl h

-- ---- a deep tree opens brackets

-- a tree of depth n + 1: what stands before a bracket, and behind it a tree of depth n
record Inside (b : Body) (n : ℕ) : Type 0 where
  front : Body
  tree : Body
  rest : List ℕ
  front-ok : ok_body front ≡ true
  tree-ok : ok_body tree ≡ true
  deep : n ≤ depth tree
  is : reads b ≡ reads front ++ (40 ∷ (reads tree ++ rest))

inside : (b : Body) (n : ℕ) → ok_body b ≡ true → suc n ≤ depth b → Inside b n
unfolding reads ok_body depth
inside end n ok h = absurd (omega (arith, h))
inside (bar b) n ok h =
    let i = inside b n ok h in
    record { front = bar i.front; tree = i.tree; rest = i.rest; front-ok = i.front-ok; tree-ok = i.tree-ok; deep = i.deep; is = ap (λ z. 124 ∷ z) i.is }
inside (leaf l m b) n ok h =
    let q = both (ok_leaf l && ok_mark m) (ok_body b) ok in
    let i = inside b n q.1 h in
    let t : List ℕ = 40 ∷ (reads i.tree ++ i.rest) in
    record {
      front = leaf l m i.front;
      tree = i.tree;
      rest = i.rest;
      front-ok = and-true (ok_leaf l && ok_mark m) (ok_body i.front) q.0 i.front-ok;
      tree-ok = i.tree-ok;
      deep = i.deep;
      is = ap (λ z. spell_leaf l ++ (spell_mark m ++ z)) i.is ∙ ap (λ z. spell_leaf l ++ z) (sym (assoc (spell_mark m) (reads i.front) t)) ∙ sym (assoc (spell_leaf l) (spell_mark m ++ reads i.front) t);
    }
inside (group z m b) n ok h =
    let q = both (ok_body z && ok_mark m) (ok_body b) ok in
    let o = both (ok_body z) (ok_mark m) q.0 in
    ⊎_elim
    (λ k. record { front = end; tree = z; rest = 41 ∷ (spell_mark m ++ reads b); front-ok = refl; tree-ok = o.0; deep = omega (arith, k); is = refl })
    (λ k. let i = inside b n q.1 k in
    let t : List ℕ = 40 ∷ (reads i.tree ++ i.rest) in
    record {
      front = group z m i.front;
      tree = i.tree;
      rest = i.rest;
      front-ok = and-true (ok_body z && ok_mark m) (ok_body i.front) q.0 i.front-ok;
      tree-ok = i.tree-ok;
      deep = i.deep;
      is = ap (λ y. 40 ∷ (reads z ++ (41 ∷ (spell_mark m ++ y)))) i.is
          ∙ ap (λ y. 40 ∷ (reads z ++ (41 ∷ y))) (sym (assoc (spell_mark m) (reads i.front) t))
          ∙ ap (λ y. 40 ∷ y) (sym (assoc (reads z) (41 ∷ (spell_mark m ++ reads i.front)) t));
    })
    (larger-one (suc n) (suc (depth z)) (depth b) h)

deep_opens : (n : ℕ) (b : Body) (v : List ℕ) → ok_body b ≡ true → n ≤ depth b → Opens n (reads b ++ v)
deep_opens zero b v ok h = tt
deep_opens (suc n) b v ok h =
    let i = inside b n ok h in (
      i.front,
      reads i.tree ++ (i.rest ++ v),
      i.front-ok,
      ap (λ z. z ++ v) i.is ∙ assoc (reads i.front) (40 ∷ (reads i.tree ++ i.rest)) v ∙ ap (λ z. reads i.front ++ (40 ∷ z)) (assoc (reads i.tree) i.rest v),
      deep_opens n i.tree (i.rest ++ v) i.tree-ok i.deep,
    )

-- ---- one tree behind another

follow : Body → Body → Body
follow end c = c
follow (bar b) c = bar (follow b c)
follow (leaf l m b) c = leaf l m (follow b c)
follow (group z m b) c = group z m (follow b c)

reads-follow : (b c : Body) → reads (follow b c) ≡ reads b ++ reads c
unfolding follow reads
reads-follow end c = refl
reads-follow (bar b) c = ap (λ z. 124 ∷ z) (reads-follow b c)
reads-follow (leaf l m b) c =
    ap (λ z. spell_leaf l ++ (spell_mark m ++ z)) (reads-follow b c) ∙ ap (λ z. spell_leaf l ++ z) (sym (assoc (spell_mark m) (reads b) (reads c)))
    ∙ sym (assoc (spell_leaf l) (spell_mark m ++ reads b) (reads c))
reads-follow (group z m b) c =
    ap (λ y. 40 ∷ (reads z ++ (41 ∷ (spell_mark m ++ y)))) (reads-follow b c)
    ∙ ap (λ y. 40 ∷ (reads z ++ (41 ∷ y))) (sym (assoc (spell_mark m) (reads b) (reads c)))
    ∙ ap (λ y. 40 ∷ y) (sym (assoc (reads z) (41 ∷ (spell_mark m ++ reads b)) (reads c)))

ok-follow : (b c : Body) → ok_body b ≡ true → ok_body c ≡ true → ok_body (follow b c) ≡ true
unfolding follow ok_body
ok-follow end c p q = q
ok-follow (bar b) c p q = ok-follow b c p q
ok-follow (leaf l m b) c p q = let w = both (ok_leaf l && ok_mark m) (ok_body b) p in and-true (ok_leaf l && ok_mark m) (ok_body (follow b c)) w.0 (ok-follow b c w.1 q)
ok-follow (group z m b) c p q = let w = both (ok_body z && ok_mark m) (ok_body b) p in and-true (ok_body z && ok_mark m) (ok_body (follow b c)) w.0 (ok-follow b c w.1 q)

depth-follow : (b c : Body) → depth c ≤ depth (follow b c)
unfolding follow depth
depth-follow end c = omega arith
depth-follow (bar b) c = depth-follow b c
depth-follow (leaf l m b) c = depth-follow b c
depth-follow (group z m b) c = let h = depth-follow b c in let k = larger-right (suc (depth z)) (depth (follow b c)) in omega (arith, h, k)

-- a group behind a tree
grouped : (b z y : Body) (m : Mark) (n : ℕ) → n ≤ depth z → suc n ≤ depth (follow b (group z m y))
unfolding depth
grouped b z y m n h =
    let k = depth-follow b (group z m y) in let l = larger-left (suc (depth z)) (depth y) in omega (arith, h, k, l)

ok-grouped : (b z y : Body) (m : Mark) → ok_body b ≡ true → ok_body z ≡ true → ok_mark m ≡ true → ok_body y ≡ true → ok_body (follow b (group z m y)) ≡ true
unfolding ok_body
ok-grouped b z y m p q r s = ok-follow b (group z m y) p (and-true (ok_body z && ok_mark m) (ok_body y) (and-true (ok_body z) (ok_mark m) q r) s)

reads-group : (z y : Body) (m : Mark) (x : List ℕ) → reads (group z m y) ++ x ≡ 40 ∷ (reads z ++ (41 ∷ (spell_mark m ++ (reads y ++ x))))
unfolding reads
reads-group z y m x =
    ap (λ w. 40 ∷ w) (assoc (reads z) (41 ∷ (spell_mark m ++ reads y)) x) ∙ ap (λ w. 40 ∷ (reads z ++ (41 ∷ w))) (assoc (spell_mark m) (reads y) x)

-- ---- brackets that open are a deep tree, where the text goes on well

open-run : (d : ℕ) (m : Ready) (x : List ℕ) → run (live d (ready m)) (40 ∷ x) ≡ run (live (suc d) fresh) x
open-run d r-begin x = unfold run step mode items in refl
open-run d r-fresh x = unfold run step mode items in refl
open-run d r-after x = unfold run step mode items in refl

-- a tree and a bracket are passed
goes_in : (d : ℕ) (m : Ready) (b : Body) (w v : List ℕ) → ok_body b ≡ true → w ≡ reads b ++ (40 ∷ v) → good (run (live d (ready m)) w) ≡ true → good (run (live (suc d) fresh) v) ≡ true
goes_in d m b w v ok p g =
    let (k, e) = body_run b d m (40 ∷ v) ok in
    sym (ap good (e ∙ open-run d k v)) ∙ sym (ap (λ z. good (run (live d (ready m)) z)) p) ∙ g

within-bracket : (n d : ℕ) (w : List ℕ) → Opens n w → good (run (live (suc d) fresh) w) ≡ true
    → (x : Body) × (rest : List ℕ) × (ok_body x ≡ true) × (n ≤ depth x) × (w ≡ reads x ++ (41 ∷ rest)) × After (Left d) rest
within-bracket zero d w o g = let (b, v, ok, e, a) = good-tail w (live (suc d) fresh) g in (b, v, ok, omega arith, e, a)
within-bracket (suc n) d w (b, v, okb, p, k) g =
    let (z, rest, okz, h, e, (m, u, okm, em, (y, t, oky, ey, a))) = within-bracket n (suc d) v k (goes_in (suc d) r-fresh b w v okb p g) in (
      follow b (group z m y),
      t,
      ok-grouped b z y m okb okz okm oky,
      grouped b z y m n h,
      p
          ∙ ap (λ q. reads b ++ (40 ∷ q)) (e ∙ ap (λ q. reads z ++ (41 ∷ q)) (em ∙ ap (λ q. spell_mark m ++ q) ey))
          ∙ ap (λ q. reads b ++ q) (sym (reads-group z y m (41 ∷ t)))
          ∙ sym (assoc (reads b) (reads (group z m y)) (41 ∷ t))
          ∙ ap (λ q. q ++ (41 ∷ t)) (sym (reads-follow b (group z m y))),
      a,
    )

whole : (n : ℕ) (m : Ready) (w : List ℕ) → Opens (suc n) w → good (run (live 0 (ready m)) w) ≡ true → (c : Body) × (ok_body c ≡ true) × (suc n ≤ depth c) × (w ≡ reads c)
whole n m₀ w (b, v, okb, p, k) g =
    let (z, rest, okz, h, e, (m, u, okm, em, (y, oky, ey))) = within-bracket n 0 v k (goes_in 0 m₀ b w v okb p g) in (
      follow b (group z m y),
      ok-grouped b z y m okb okz okm oky,
      grouped b z y m n h,
      p ∙ ap (λ q. reads b ++ (40 ∷ q)) (e ∙ ap (λ q. reads z ++ (41 ∷ q)) (em ∙ ap (λ q. spell_mark m ++ q) ey))
          ∙ ap (λ q. reads b ++ q) (group_reads z y m) ∙ sym (reads-follow b (group z m y)),
    )
  where
    group_reads : (z y : Body) (m : Mark) → 40 ∷ (reads z ++ (41 ∷ (spell_mark m ++ reads y))) ≡ reads (group z m y)
    group_reads z y m = unfold reads in refl

caret-run : (x : List ℕ) → run (live 0 begin) (94 ∷ x) ≡ run (live 0 fresh) x
caret-run x = unfold run step mode in refl

pub depth-said : DepthSaid
depth-said T x (ok, e) = (there, λ h. back x.bound refl h)
  where
    passes : good (run (live 0 begin) T) ≡ true
    passes = ap (λ z. good (run (live 0 begin) z)) (sym e) ∙ fits-good x ok

    same : (t : Bool) (c : Body) → ok_body c ≡ true → 17 ≤ depth c → T ≡ text_reads (record { bound = t; body = c }) → 17 ≤ depth x.body
    same t c okc h p = subst (λ b. 17 ≤ depth b) (one-reading (record { bound = t; body = c }) x okc ok (sym p ∙ sym e)).1 h

    there : TooDeep T → 17 ≤ depth x.body
    there (inr k) = let (c, okc, h, p) = whole 16 r-begin T k passes in same false c okc h p
    there (inl (v, p, k)) =
        let (c, okc, h, q) = whole 16 r-fresh v k (sym (ap good (caret-run v)) ∙ sym (ap (λ z. good (run (live 0 begin) z)) p) ∙ passes) in
        same true c okc h (p ∙ ap (λ z. 94 ∷ z) q)

    unit : (w : List ℕ) → w ++ [] ≡ w
    unit [] = refl
    unit (c ∷ w) = ap (λ z. c ∷ z) (unit w)

    back : (t : Bool) → x.bound ≡ t → 17 ≤ depth x.body → TooDeep T
    back t p h =
        let o : Opens 17 (reads x.body) = subst (Opens 17) (unit (reads x.body)) (deep_opens 17 x.body [] ok h) in
        let q : T ≡ cond t (94 ∷ reads x.body) (reads x.body) = sym e ∙ ap (λ s. cond s (94 ∷ reads x.body) (reads x.body)) p in
        go t o q
      where
        go : (t : Bool) → Opens 17 (reads x.body) → T ≡ cond t (94 ∷ reads x.body) (reads x.body) → TooDeep T
        go true o q = inl (reads x.body, q, o)
        go false o q = inr (subst (Opens 17) (sym q) o)
