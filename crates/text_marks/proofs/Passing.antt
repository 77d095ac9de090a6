-- Items that are passed over: what is left of a good body, from a place on. Assumes nothing.
use Prim.Native.Nat.{ℕ, ◌+◌, ◌≤◌, ◌<◌}
use mathlib.Core.Path.{◌≡◌, refl, sym, ap, subst, ◌∙◌}
use mathlib.Core.Bool.{true, ◌&&◌}
use mathlib.Core.List.{List, [], ◌∷◌, ◌++◌}
use mathlib.Core.Logic.{◌⊎◌, inl, inr}
use native.Mathlib.Omega.{arith}
use lib.ListN.{length, drop, get_or}
use lib.Seq.{drop-cons}
use Rattle.text.specs.Grammar.{Leaf, Mark, Body, end, bar, leaf, group, amid, ok_leaf, ok_mark, ok_body, spell_leaf, spell_mark, reads}
use Rattle.text.proofs.Places.{both}
use Rattle.text.specs.inner.Heads.{Calm, Stop}
use Rattle.text.proofs.Reading.{assoc, body-calm}
use Rattle.text.proofs.Peeling.{peel-lt, peel-at, peel-tail, gone, leaf-not}
use Rattle.text.specs.declared.Read.{Read}
use Rattle.text_marks.specs.declared.Times.{Times}
use Rattle.text_marks.specs.inner.Marks.{Atom, byte, brackets, ok_atom, atom_then, times_of, Never}
use Rattle.text_marks.proofs.Tokens.{leaf-gone}

-- what is left of a body, with x behind it
abbrev pub Ahead : List ℕ → List ℕ → ℕ → Type 0
Ahead T x n = (d : Body) × (ok_body d ≡ true) × (drop n T ≡ reads d ++ x)

-- what the code says of a group's inside, of a leaf and of a mark
abbrev pub InsideFacts : List ℕ → ℕ → ℕ → Type 0
InsideFacts T n i = (b : Body) (x : List ℕ) → ok_body b ≡ true → Stop x → drop n T ≡ reads b ++ x → drop i T ≡ x

abbrev pub LeafFacts : List ℕ → ℕ → ℕ → Type 0
LeafFacts T n e = (l : Leaf) (y : List ℕ) → ok_leaf l ≡ true → drop n T ≡ spell_leaf l ++ y → drop e T ≡ y

abbrev pub MarkFacts : List ℕ → ℕ → Read Times → Type 0
MarkFacts T n r = (m : Mark) (y : List ℕ) → ok_mark m ≡ true → Calm y → drop n T ≡ spell_mark m ++ y → (times_of m ≡ r.value) × (drop r.next T ≡ y)

none : (T : List ℕ) (n : ℕ) → n < length T → drop n T ≡ [] → ⊥
none T n l e = let d = drop-cons T n 0 l in let z : ◌≡◌ {A = ℕ} 0 1 = cc in omega arith

end_reads : (x : List ℕ) → reads end ++ x ≡ x
unfolding reads
end_reads x = refl

bar-reads : (d : Body) (x : List ℕ) → reads (bar d) ++ x ≡ 124 ∷ (reads d ++ x)
unfolding reads
bar-reads d x = refl

-- the brackets of a group and what stands behind it
group_reads : (z : Body) (m : Mark) (d : Body) (x : List ℕ) → reads (group z m d) ++ x ≡ 40 ∷ (reads z ++ (41 ∷ (spell_mark m ++ (reads d ++ x))))
unfolding reads
group_reads z m d x = ap (λ w. 40 ∷ w) (assoc (reads z) (41 ∷ (spell_mark m ++ reads d)) x ∙ ap (λ w. reads z ++ (41 ∷ w)) (assoc (spell_mark m) (reads d) x))

leaf-reads : (l : Leaf) (m : Mark) (d : Body) (x : List ℕ) → reads (leaf l m d) ++ x ≡ spell_leaf l ++ (spell_mark m ++ (reads d ++ x))
unfolding reads
leaf-reads l m d x = assoc (spell_leaf l) (spell_mark m ++ reads d) x ∙ ap (λ w. spell_leaf l ++ w) (assoc (spell_mark m) (reads d) x)

ok-leaf : (l : Leaf) (m : Mark) (d : Body) → ok_body (leaf l m d) ≡ true → (ok_leaf l ≡ true) × (ok_mark m ≡ true) × (ok_body d ≡ true)
unfolding ok_body
ok-leaf l m d ok = let o = both (ok_leaf l && ok_mark m) (ok_body d) ok in let y = both (ok_leaf l) (ok_mark m) o.0 in (y.0, y.1, o.1)

ok-group : (z : Body) (m : Mark) (d : Body) → ok_body (group z m d) ≡ true → (ok_body z ≡ true) × (ok_mark m ≡ true) × (ok_body d ≡ true)
unfolding ok_body
ok-group z m d ok = let o = both (ok_body z && ok_mark m) (ok_body d) ok in let y = both (ok_body z) (ok_mark m) o.0 in (y.0, y.1, o.1)

module _ (T : List ℕ) (n : ℕ) (x : List ℕ) (stop : Stop x) where
  -- no leaf begins with a bar or a bracket
  leaf-at : (c : ℕ) (l : Leaf) (m : Mark) (d : Body) → (c ≡ 124) ⊎ ((c ≡ 41) ⊎ (c ≡ 40)) → ok_body (leaf l m d) ≡ true → drop n T ≡ reads (leaf l m d) ++ x → get_or T n 0 ≡ c → ⊥
  unfolding amid
  leaf-at c l m d (inl q) ok e g = leaf-not T n (spell_mark m ++ (reads d ++ x)) l 124 refl refl refl refl (ok-leaf l m d ok).0 (e ∙ leaf-reads l m d x) (g ∙ q)
  leaf-at c l m d (inr (inl q)) ok e g = leaf-not T n (spell_mark m ++ (reads d ++ x)) l 41 refl refl refl refl (ok-leaf l m d ok).0 (e ∙ leaf-reads l m d x) (g ∙ q)
  leaf-at c l m d (inr (inr q)) ok e g = leaf-not T n (spell_mark m ++ (reads d ++ x)) l 40 refl refl refl refl (ok-leaf l m d ok).0 (e ∙ leaf-reads l m d x) (g ∙ q)

  group_at : (z : Body) (m : Mark) (d : Body) → drop n T ≡ reads (group z m d) ++ x → get_or T n 0 ≡ 40
  group_at z m d e = peel-at T n 40 (reads z ++ (41 ∷ (spell_mark m ++ (reads d ++ x)))) (e ∙ group_reads z m d x)

  -- at a closing bracket, or past the end, nothing is left
  pub pass-stop : n < length T → get_or T n 0 ≡ 41 → Ahead T x n → drop n T ≡ x
  unfolding reads
  pass-stop l h (end, ok, e) = e
  pass-stop l h (bar d, ok, e) = let q = peel-at T n 124 (reads d ++ x) e in absurd (omega arith)
  pass-stop l h (leaf a m d, ok, e) = absurd (leaf-at 41 a m d (inr (inl refl)) ok e h)
  pass-stop l h (group z m d, ok, e) = let q = group_at z m d e in absurd (omega arith)

  pub pass-gone : length T ≤ n → Ahead T x n → drop n T ≡ x
  unfolding reads
  pass-gone l (end, ok, e) = e
  pass-gone l (bar d, ok, e) = absurd (gone T n 124 [] (reads d ++ x) l e)
  pass-gone l (leaf a m d, ok, e) = absurd (leaf-gone T n (spell_mark m ++ (reads d ++ x)) a l (e ∙ leaf-reads a m d x))
  pass-gone l (group z m d, ok, e) = absurd (gone T n 40 [] (reads z ++ (41 ∷ (spell_mark m ++ (reads d ++ x)))) l (e ∙ group_reads z m d x))

  pub pass-bar : n < length T → get_or T n 0 ≡ 124 → Ahead T x n → Ahead T x (n + 1)
  unfolding reads ok_body
  pass-bar l h (end, ok, e) = absurd (over stop)
    where
      over : Stop x → ⊥
      over (inl o) = none T n l (e ∙ o)
      over (inr (y, o)) = let q = peel-at T n 41 y (e ∙ o) in omega arith
  pass-bar l h (bar d, ok, e) = (d, ok, peel-tail T n 124 (reads d ++ x) e)
  pass-bar l h (leaf a m d, ok, e) = absurd (leaf-at 124 a m d (inl refl) ok e h)
  pass-bar l h (group z m d, ok, e) = let q = group_at z m d e in absurd (omega arith)

  -- a group and its mark, a leaf and its mark
  pub pass-group : (i p : ℕ) (r : Read Times) → n < length T → get_or T n 0 ≡ 40 → InsideFacts T (n + 1) i → (i < length T → p ≡ i + 1) → MarkFacts T p r → Ahead T x n → Ahead T x r.next
  pass-group i p r l h f g k (end, ok, e) = absurd (over stop (e ∙ end_reads x))
    where
      over : Stop x → drop n T ≡ x → ⊥
      over (inl o) q = none T n l (q ∙ o)
      over (inr (y, o)) q = let w = peel-at T n 41 y (q ∙ o) in omega arith
  pass-group i p r l h f g k (bar d, ok, e) = absurd (not-bar (peel-at T n 124 (reads d ++ x) (e ∙ bar-reads d x)))
    where
      not-bar : get_or T n 0 ≡ 124 → ⊥
      not-bar q = omega arith
  pass-group i p r l h f g k (leaf a m d, ok, e) = absurd (leaf-at 40 a m d (inr (inr refl)) ok e h)
  pass-group i p r l h f g k (group z m d, ok, e) =
      let (oz, om, od) = ok-group z m d ok in
      let v : drop i T ≡ 41 ∷ (spell_mark m ++ (reads d ++ x)) = f z (41 ∷ (spell_mark m ++ (reads d ++ x))) oz (inr (spell_mark m ++ (reads d ++ x), refl)) (peel-tail T n 40 (reads z ++ (41 ∷ (spell_mark m ++ (reads d ++ x)))) (e ∙ group_reads z m d x)) in
      let u : drop p T ≡ spell_mark m ++ (reads d ++ x) = ap (λ w. drop w T) (g (peel-lt T i 41 (spell_mark m ++ (reads d ++ x)) v)) ∙ peel-tail T i 41 (spell_mark m ++ (reads d ++ x)) v in
      (d, od, (k m (reads d ++ x) om (body-calm d x od stop) u).1)

  pub pass-leaf : (i : ℕ) (r : Read Times) → n < length T → (get_or T n 0 ≡ 41 → ⊥) → (get_or T n 0 ≡ 124 → ⊥) → (get_or T n 0 ≡ 40 → ⊥) → LeafFacts T n i → MarkFacts T i r → Ahead T x n → Ahead T x r.next
  pass-leaf i r l h g o f k (end, ok, e) = absurd (over stop (e ∙ end_reads x))
    where
      over : Stop x → drop n T ≡ x → ⊥
      over (inl o) q = none T n l (q ∙ o)
      over (inr (y, o)) q = h (peel-at T n 41 y (q ∙ o))
  pass-leaf i r l h g o f k (bar d, ok, e) = absurd (g (peel-at T n 124 (reads d ++ x) (e ∙ bar-reads d x)))
  pass-leaf i r l h g o f k (leaf a m d, ok, e) =
      let (oa, om, od) = ok-leaf a m d ok in
      (d, od, (k m (reads d ++ x) om (body-calm d x od stop) (f a (spell_mark m ++ (reads d ++ x)) oa (e ∙ leaf-reads a m d x))).1)
  pass-leaf i r l h g o f k (group z m d, ok, e) = absurd (o (group_at z m d e))

-- a group that is repeated no times
pub none-at : (T : List ℕ) (n i p : ℕ) (r : Read Times) → n < length T → get_or T n 0 ≡ 40 → InsideFacts T (n + 1) i → (i < length T → p ≡ i + 1) → MarkFacts T p r → Never r.value
    → (a : Atom) (m : Mark) (y : List ℕ) → ok_atom a ≡ true → ok_mark m ≡ true → Calm y → drop n T ≡ atom_then a (spell_mark m ++ y) → Never (times_of m) × (drop r.next T ≡ y)
unfolding amid
none-at T n i p r l h f g k u (byte a) m y ok om c e = absurd (leaf-not T n (spell_mark m ++ y) a 40 refl refl refl refl ok e h)
none-at T n i p r l h f g k u (brackets z) m y ok om c e =
    let w : drop i T ≡ 41 ∷ (spell_mark m ++ y) = f z (41 ∷ (spell_mark m ++ y)) ok (inr (spell_mark m ++ y, refl)) (peel-tail T n 40 (reads z ++ (41 ∷ (spell_mark m ++ y))) e) in
    let q : drop p T ≡ spell_mark m ++ y = ap (λ s. drop s T) (g (peel-lt T i 41 (spell_mark m ++ y) w)) ∙ peel-tail T i 41 (spell_mark m ++ y) w in
    let (s, t) = k m y om c q in
    (subst Never (sym s) u, t)
