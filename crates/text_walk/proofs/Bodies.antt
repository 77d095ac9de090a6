-- Sequences and alternatives of a good text, from a place on.
use Prim.Native.Nat.{ℕ, ◌+◌, ◌*◌, ◌≤◌, ◌<◌}
use mathlib.Core.Path.{◌≡◌, refl, sym, ap, subst, ◌∙◌}
use mathlib.Core.Bool.{Bool, true, false, ◌&&◌, ◌||◌}
use mathlib.Core.List.{List, [], ◌∷◌, ◌++◌}
use mathlib.Core.Logic.{◌⊎◌, inl, inr}
use native.Mathlib.Omega.{arith}
use lib.ListN.{length, drop, get_or}
use lib.Seq.{drop-cons}
use lib.Dec.{leb}
use borrow.Author.Tests.{leb-true}
use Rattle.text.specs.Exp.{Exp, one, eps, cat, alt, plus, opt, times, size, null}
use Rattle.text.specs.Grammar.{Leaf, Mark, bare, star, more, maybe, rep, Body, end, bar, leaf, group, amid, ok_leaf, ok_mark, ok_body, spell_leaf, spell_mark, reads, leaf_has, marked, number, ok_number, exp}
use Rattle.text.proofs.Places.{both}
use Rattle.text.specs.inner.Heads.{Calm, Stop}
use Rattle.text.proofs.Reading.{assoc, body-calm}
use Rattle.sets.specs.Set.{states, set_of}
use Rattle.text_walk.specs.declared.Shape.{Shape}
use Rattle.text_walk.specs.inner.Rows.{first_at, last_at, follows_at, letter_at, cap, Keeps, Seamed, Sums, Nothing, Both, Either}
use Rattle.text_marks.specs.inner.Marks.{Atom, byte, brackets, ok_atom, atom_then, times_of, Never}
use Rattle.text_walk.specs.inner.Trees.{exp_atom, seq, rest}
use Rattle.text_marks.specs.declared.Times.{Times}
use Rattle.text_marks.specs.declared.Times.TheVariants.{Once, Star, Plus, Maybe, Between}
use Rattle.text.proofs.Copies.{size-times}
use Rattle.text_walk.proofs.Sum.{cap-small, sum-cat, sum-alt}
use Rattle.text_walk.proofs.Copying.{sum-void}
use Rattle.text.proofs.Peeling.{peel-lt, peel-at, peel-tail, gone, leaf-not}
use Rattle.text_marks.proofs.Tokens.{leaf-gone}

-- a body is its first sequence, then the rest
pub exp-seq : (b : Body) (e : Exp) → exp e b ≡ exp (seq e b) (rest b)
unfolding exp seq rest
exp-seq end e = refl
exp-seq (bar b) e = refl
exp-seq (leaf l m b) e = exp-seq b (cat e (marked m (one (leaf_has l))))
exp-seq (group x m b) e = exp-seq b (cat e (marked m (exp eps x)))

exp-end : (e : Exp) → exp e end ≡ e
unfolding exp
exp-end e = refl

exp-bar : (e : Exp) (b : Body) → exp e (bar b) ≡ alt e (exp eps b)
unfolding exp
exp-bar e b = refl

rest_ok : (b : Body) → ok_body b ≡ true → ok_body (rest b) ≡ true
unfolding rest ok_body
rest_ok end ok = refl
rest_ok (bar b) ok = ok
rest_ok (leaf l m b) ok = rest_ok b (both (ok_leaf l && ok_mark m) (ok_body b) ok).1
rest_ok (group x m b) ok = rest_ok b (both (ok_body x && ok_mark m) (ok_body b) ok).1

abbrev Flat : Body → Type 0
Flat b = (b ≡ end) ⊎ ((g : Body) × (b ≡ bar g))

rest-flat : (b : Body) → Flat (rest b)
unfolding rest
rest-flat end = inl refl
rest-flat (bar b) = inr (b, refl)
rest-flat (leaf l m b) = rest-flat b
rest-flat (group x m b) = rest-flat b

-- ---- a sequence: what is read so far, and what is left

abbrev pub Left : List ℕ → List ℕ → ℕ → ℕ → Body → List ℕ → ℕ → Shape → Type 0
Left T R k at b x n r =
    (d : Body) × (e : Exp) × (ok_body d ≡ true) × (drop n T ≡ reads d ++ x) × (seq eps b ≡ seq e d) × (rest b ≡ rest d) × Sums R k e r

abbrev pub ItemFacts : List ℕ → List ℕ → ℕ → ℕ → ℕ → Shape → Type 0
ItemFacts T R k n j r =
    (a : Atom) (m : Mark) (y : List ℕ) → ok_atom a ≡ true → ok_mark m ≡ true → Calm y → drop n T ≡ atom_then a (spell_mark m ++ y) → Sums R k (marked m (exp_atom a)) r × (drop j T ≡ y)

pub next-base : (k s : ℕ) (r : ℕ) → r ≡ cap s → k + s ≤ states → cap (k + r) ≡ k + s
next-base k s r e h = let a : cap s ≡ s = cap-small s (omega arith) in ap (λ z. cap (k + z)) (e ∙ a) ∙ cap-small (k + s) h

leaf-at : (T : List ℕ) (n : ℕ) (l : Leaf) (y : List ℕ) → ok_leaf l ≡ true → drop n T ≡ spell_leaf l ++ y → (get_or T n 0 ≡ 124) ⊎ (get_or T n 0 ≡ 41) → ⊥
unfolding amid
leaf-at T n l y ok e (inl g) = leaf-not T n y l 124 refl refl refl refl ok e g
leaf-at T n l y ok e (inr g) = leaf-not T n y l 41 refl refl refl refl ok e g

none : (T : List ℕ) (n : ℕ) → n < length T → drop n T ≡ [] → ⊥
none T n l e = let d = drop-cons T n 0 l in let z : ◌≡◌ {A = ℕ} 0 1 = cc in omega arith

module _ (T : List ℕ) (k n : ℕ) (x : List ℕ) (stop : Stop x) where
  -- at a bar, a closing bracket or the end, a sequence is over
  pub seq-over : (R : List ℕ) (at : ℕ) (b : Body) (r : Shape) → ((n < length T) × ((get_or T n 0 ≡ 124) ⊎ (get_or T n 0 ≡ 41))) ⊎ (length T ≤ n) → Left T R k at b x n r
      → Sums R k (seq eps b) r × (drop n T ≡ reads (rest b) ++ x)
  unfolding seq rest reads ok_body
  seq-over R at b r h (end, e, ok, f, g, i, s) = (subst (λ z. Sums R k z r) (sym g) s, f ∙ ap (λ z. reads z ++ x) (sym i))
  seq-over R at b r h (bar d, e, ok, f, g, i, s) = (subst (λ z. Sums R k z r) (sym g) s, f ∙ ap (λ z. reads z ++ x) (sym i))
  seq-over R at b r (inr h) (leaf l m d, e, ok, f, g, i, s) = absurd (leaf-gone T n ((spell_mark m ++ reads d) ++ x) l h (f ∙ assoc (spell_leaf l) (spell_mark m ++ reads d) x))
  seq-over R at b r (inl (t, h)) (leaf l m d, e, ok, f, g, i, s) =
      let o = (both (ok_leaf l) (ok_mark m) (both (ok_leaf l && ok_mark m) (ok_body d) ok).0).0 in
      absurd (leaf-at T n l ((spell_mark m ++ reads d) ++ x) o (f ∙ assoc (spell_leaf l) (spell_mark m ++ reads d) x) h)
  seq-over R at b r (inr h) (group z m d, e, ok, f, g, i, s) = absurd (gone T n 40 [] ((reads z ++ (41 ∷ (spell_mark m ++ reads d))) ++ x) h f)
  seq-over R at b r (inl (t, inl h)) (group z m d, e, ok, f, g, i, s) = let q = peel-at T n 40 ((reads z ++ (41 ∷ (spell_mark m ++ reads d))) ++ x) f in absurd (omega arith)
  seq-over R at b r (inl (t, inr h)) (group z m d, e, ok, f, g, i, s) = let q = peel-at T n 40 ((reads z ++ (41 ∷ (spell_mark m ++ reads d))) ++ x) f in absurd (omega arith)

  -- one item more
  pub seq_more : (A B C : List ℕ) (at : ℕ) (b : Body) (j i : ℕ) (r s t : Shape) → i ≡ cap (k + r.size) → n < length T → (get_or T n 0 ≡ 124 → ⊥) → (get_or T n 0 ≡ 41 → ⊥)
      → Keeps i A B → ItemFacts T B i n j s → Seamed (set_of r.last) (set_of s.first) i (cap (i + s.size)) B C → Both r s t → Left T A k at b x n r → Left T C k at b x j t
  unfolding seq rest reads ok_body
  seq_more A B C at b j i r s t bi l h g kp f sm w (end, e, ok, q, u, v, z) = absurd (over stop)
    where
      over : Stop x → ⊥
      over (inl o) = none T n l (q ∙ o)
      over (inr (y, o)) = g (peel-at T n 41 y (q ∙ o))
  seq_more A B C at b j i r s t bi l h g kp f sm w (bar d, e, ok, q, u, v, z) = absurd (h (peel-at T n 124 (reads d ++ x) q))
  seq_more A B C at b j i r s t bi l h g kp f sm w (leaf a m d, e, ok, q, u, v, z) =
      let o = both (ok_leaf a && ok_mark m) (ok_body d) ok in
      let y = both (ok_leaf a) (ok_mark m) o.0 in
      let c : drop n T ≡ spell_leaf a ++ (spell_mark m ++ (reads d ++ x)) = q ∙ assoc (spell_leaf a) (spell_mark m ++ reads d) x ∙ ap (λ z. spell_leaf a ++ z) (assoc (spell_mark m) (reads d) x) in
      let (c1, c2) = f (byte a) m (reads d ++ x) y.0 y.1 (body-calm d x o.1 stop) c in (
        d,
        cat e (marked m (one (leaf_has a))),
        o.1,
        c2,
        u,
        v,
        sum-cat A B C k i e (marked m (one (leaf_has a))) r s t z kp c1 (λ a. bi ∙ next-base k (size e) r.size z.sized a) sm w,
      )
  seq_more A B C at b j i r s t bi l h g kp f sm w (group a m d, e, ok, q, u, v, z) =
      let o = both (ok_body a && ok_mark m) (ok_body d) ok in
      let y = both (ok_body a) (ok_mark m) o.0 in
      let c : drop n T ≡ 40 ∷ (reads a ++ (41 ∷ (spell_mark m ++ (reads d ++ x)))) =
      q ∙ ap (λ z. 40 ∷ z) (assoc (reads a) (41 ∷ (spell_mark m ++ reads d)) x ∙ ap (λ z. reads a ++ (41 ∷ z)) (assoc (spell_mark m) (reads d) x)) in
      let (c1, c2) = f (brackets a) m (reads d ++ x) y.0 y.1 (body-calm d x o.1 stop) c in (
        d,
        cat e (marked m (exp eps a)),
        o.1,
        c2,
        u,
        v,
        sum-cat A B C k i e (marked m (exp eps a)) r s t z kp c1 (λ a. bi ∙ next-base k (size e) r.size z.sized a) sm w,
      )

pub seq_start : (T R : List ℕ) (k at : ℕ) (b : Body) (x : List ℕ) (r : Shape) → ok_body b ≡ true → drop at T ≡ reads b ++ x → Sums R k eps r → Left T R k at b x at r
seq_start T R k at b x r ok e s = (b, eps, ok, e, refl, refl, s)

-- ---- alternatives

or_assoc : (a b c : Bool) → ((a || b) || c) ≡ (a || (b || c))
or_assoc true b c = refl
or_assoc false b c = refl

add_assoc : (a b c : ℕ) → a + b + c ≡ a + (b + c)
add_assoc a b c = omega arith

alt-assoc : (R : List ℕ) (k : ℕ) (a b c : Exp) (r : Shape) → Sums R k (alt (alt a b) c) r → Sums R k (alt a (alt b c)) r
unfolding size null first_at last_at follows_at letter_at
alt-assoc R k a b c r s = record {
  sized = s.sized ∙ ap cap (add_assoc (size a) (size b) (size c));
  nulls = s.nulls ∙ or_assoc (null a) (null b) (null c);
  known = λ h.
      let u = s.known (omega arith) in
      let e : k + (size a + size b) ≡ k + size a + size b = sym (add_assoc k (size a) (size b)) in
      record {
        firsts = λ q. u.firsts q ∙ ap (λ z. (first_at k a q || first_at (k + size a) b q) || first_at z c q) e ∙ or_assoc (first_at k a q) (first_at (k + size a) b q) (first_at (k + size a + size b) c q);
        lasts = λ q. u.lasts q ∙ ap (λ z. (last_at k a q || last_at (k + size a) b q) || last_at z c q) e ∙ or_assoc (last_at k a q) (last_at (k + size a) b q) (last_at (k + size a + size b) c q);
        priors = λ t l m q. u.priors t l (omega arith) q ∙ ap (λ z. (follows_at k a q t || follows_at (k + size a) b q t) || follows_at z c q t) e
            ∙ or_assoc (follows_at k a q t) (follows_at (k + size a) b q t) (follows_at (k + size a + size b) c q t);
        letters = λ t l m d o. u.letters t l (omega arith) d o ∙ ap (λ z. (letter_at k a t d || letter_at (k + size a) b t d) || letter_at z c t d) e
            ∙ or_assoc (letter_at k a t d) (letter_at (k + size a) b t d) (letter_at (k + size a + size b) c t d);
      };
}

abbrev pub SeqFacts : List ℕ → List ℕ → ℕ → ℕ → ℕ → Shape → Type 0
SeqFacts T R k n j r = (b : Body) (x : List ℕ) → ok_body b ≡ true → Stop x → drop n T ≡ reads b ++ x → Sums R k (seq eps b) r × (drop j T ≡ reads (rest b) ++ x)

abbrev pub Alts : List ℕ → List ℕ → ℕ → Body → List ℕ → ℕ → Shape → Type 0
Alts T R k b x n r =
    (d : Body) × (e : Exp) × (ok_body d ≡ true) × Flat d × (drop n T ≡ reads d ++ x) × Sums R k e r × ((Q : List ℕ) (z : Shape) → Sums Q k (exp e d) z → Sums Q k (exp eps b) z)

module _ (T : List ℕ) (k : ℕ) (b : Body) (x : List ℕ) (stop : Stop x) where
  pub alts-first : (R : List ℕ) (n j : ℕ) (r : Shape) → ok_body b ≡ true → drop n T ≡ reads b ++ x → SeqFacts T R k n j r → Alts T R k b x j r
  alts-first R n j r ok e f =
      let (s, g) = f b x ok stop e in
      (rest b, seq eps b, rest_ok b ok, rest-flat b, g, s, λ Q z h. subst (λ u. Sums Q k u z) (sym (exp-seq b eps)) h)

  pub alts-over : (R : List ℕ) (n : ℕ) (r : Shape) → ((n < length T) × (get_or T n 0 ≡ 124 → ⊥)) ⊎ (length T ≤ n) → Alts T R k b x n r → Sums R k (exp eps b) r × (drop n T ≡ x)
  alts-over R n r h (d, e, ok, inl q, f, s, g) = (g R r (subst (λ u. Sums R k u r) (sym (ap (exp e) q ∙ exp-end e)) s), f ∙ ap (λ z. reads z ++ x) q ∙ (unfold reads in refl))
  alts-over R n r (inl h) (d, e, ok, inr (c, q), f, s, g) = absurd (h.1 (peel-at T n 124 (reads c ++ x) (f ∙ ap (λ z. reads z ++ x) q ∙ (unfold reads in refl))))
  alts-over R n r (inr h) (d, e, ok, inr (c, q), f, s, g) = absurd (gone T n 124 [] (reads c ++ x) h (f ∙ ap (λ z. reads z ++ x) q ∙ (unfold reads in refl)))

  turn : (Q : List ℕ) (e : Exp) (c : Body) → Flat (rest c) → (z : Shape) → Sums Q k (exp (alt e (seq eps c)) (rest c)) z → Sums Q k (alt e (exp eps c)) z
  turn Q e c (inl q) z s =
      subst (λ u. Sums Q k (alt e u) z) (sym (exp-seq c eps ∙ ap (exp (seq eps c)) q ∙ exp-end (seq eps c)))
      (subst (λ u. Sums Q k u z) (ap (exp (alt e (seq eps c))) q ∙ exp-end (alt e (seq eps c))) s)
  turn Q e c (inr (g, q)) z s =
      subst (λ u. Sums Q k (alt e u) z) (sym (exp-seq c eps ∙ ap (exp (seq eps c)) q ∙ exp-bar (seq eps c) g))
      (alt-assoc Q k e (seq eps c) (exp eps g) z (subst (λ u. Sums Q k u z) (ap (exp (alt e (seq eps c))) q ∙ exp-bar (alt e (seq eps c)) g) s))

  pub alts-more : (A B : List ℕ) (n j i : ℕ) (r s t : Shape) → i ≡ cap (k + r.size) → n < length T → get_or T n 0 ≡ 124 → Keeps i A B → SeqFacts T B i (n + 1) j s → Either r s t → Alts T A k b x n r → Alts T B k b x j t
  alts-more A B n j i r s t bi l h kp f w (d, e, ok, inl q, g, u, v) = absurd (over stop)
    where
      g2 : drop n T ≡ x
      g2 = g ∙ ap (λ z. reads z ++ x) q ∙ (unfold reads in refl)

      over : Stop x → ⊥
      over (inl o) = none T n l (g2 ∙ o)
      over (inr (y, o)) = let a = peel-at T n 41 y (g2 ∙ o) in omega arith
  alts-more A B n j i r s t bi l h kp f w (d, e, ok, inr (c, q), g, u, v) =
      let okc : ok_body c ≡ true = (unfold ok_body in subst (λ z. ok_body z ≡ true) q ok) in
      let g2 : drop n T ≡ 124 ∷ (reads c ++ x) = g ∙ ap (λ z. reads z ++ x) q ∙ (unfold reads in refl) in
      let (s1, s2) = f c x okc stop (peel-tail T n 124 (reads c ++ x) g2) in (
        rest c,
        alt e (seq eps c),
        rest_ok c okc,
        rest-flat c,
        s2,
        sum-alt A B k i e (seq eps c) r s t u kp s1 (λ a. bi ∙ next-base k (size e) r.size u.sized a) w,
        λ Q z y. v Q z (subst (λ u. Sums Q k u z) (sym (ap (exp e) q ∙ exp-bar e c)) (turn Q e c (rest-flat c) z y)),
      )

-- ---- marks

marked-once : (m : Mark) (e : Exp) → times_of m ≡ Once → marked m e ≡ e
unfolding marked
marked-once bare e h = refl
marked-once star e h = cc
marked-once more e h = cc
marked-once maybe e h = cc
marked-once (rep a b) e h = cc

marked-star : (m : Mark) (e : Exp) → times_of m ≡ Star → marked m e ≡ opt (plus e)
unfolding marked
marked-star bare e h = cc
marked-star star e h = refl
marked-star more e h = cc
marked-star maybe e h = cc
marked-star (rep a b) e h = cc

marked-plus : (m : Mark) (e : Exp) → times_of m ≡ Plus → marked m e ≡ plus e
unfolding marked
marked-plus bare e h = cc
marked-plus star e h = cc
marked-plus more e h = refl
marked-plus maybe e h = cc
marked-plus (rep a b) e h = cc

marked-maybe : (m : Mark) (e : Exp) → times_of m ≡ Maybe → marked m e ≡ opt e
unfolding marked
marked-maybe bare e h = cc
marked-maybe star e h = cc
marked-maybe more e h = cc
marked-maybe maybe e h = refl
marked-maybe (rep a b) e h = cc

marked-between : (m : Mark) (e : Exp) (u v : ℕ) → ok_mark m ≡ true → times_of m ≡ Between u v → (marked m e ≡ times e u v) × (u ≤ v)
unfolding marked ok_mark
marked-between bare e u v ok h = absurd (cc)
marked-between star e u v ok h = absurd (cc)
marked-between more e u v ok h = absurd (cc)
marked-between maybe e u v ok h = absurd (cc)
marked-between (rep a b) e u v ok h =
    let p : number a ≡ u = cc in
    let q : number b ≡ v = cc in
    let l : number a ≤ number b = leb-true (number a) (number b) (both (ok_number a && ok_number b) (leb (number a) (number b)) ok).1 in
    (rw (p, q), omega arith)

-- how a part's shape goes with its mark: B are the rows when that is done
module _ (R B : List ℕ) (k : ℕ) (s r : Shape) (e : Exp) (m : Mark) (u : Sums R k e s) where
  pub often-once : times_of m ≡ Once → Sums R k (marked m e) s
  often-once h = subst (λ z. Sums R k z s) (sym (marked-once m e h)) u

  pub often-star : times_of m ≡ Star → (Sums R k e s → Sums B k (opt (plus e)) r) → Sums B k (marked m e) r
  often-star h f = subst (λ z. Sums B k z r) (sym (marked-star m e h)) (f u)

  pub often-plus : times_of m ≡ Plus → (Sums R k e s → Sums B k (plus e) r) → Sums B k (marked m e) r
  often-plus h f = subst (λ z. Sums B k z r) (sym (marked-plus m e h)) (f u)

  pub often-maybe : times_of m ≡ Maybe → (Sums R k e s → Sums B k (opt e) r) → Sums B k (marked m e) r
  often-maybe h f = subst (λ z. Sums B k z r) (sym (marked-maybe m e h)) (f u)

  pub often-between : (i j : ℕ) → ok_mark m ≡ true → times_of m ≡ Between i j → (Sums R k e s → i ≤ j → Sums B k (times e i j) r) → Sums B k (marked m e) r
  often-between i j ok h f = let (q, l) = marked-between m e i j ok h in subst (λ z. Sums B k z r) (sym q) (f u l)

abbrev pub AtomFacts : List ℕ → List ℕ → ℕ → ℕ → ℕ → Shape → Type 0
AtomFacts T R k n j r = (a : Atom) (y : List ℕ) → ok_atom a ≡ true → drop n T ≡ atom_then a y → Sums R k (exp_atom a) r × (drop j T ≡ y)

abbrev pub MarkFacts : List ℕ → ℕ → Times → ℕ → Type 0
MarkFacts T n t p = (m : Mark) (y : List ℕ) → ok_mark m ≡ true → Calm y → drop n T ≡ spell_mark m ++ y → (times_of m ≡ t) × (drop p T ≡ y)

pub item-marked : (T R B : List ℕ) (k n j p : ℕ) (s r : Shape) (t : Times) → AtomFacts T R k n j s → MarkFacts T j t p
    → ((e : Exp) (m : Mark) → Sums R k e s → ok_mark m ≡ true → times_of m ≡ t → Sums B k (marked m e) r) → ItemFacts T B k n p r
item-marked T R B k n j p s r t fa fm f a m y oka okm calm e =
    let (u, v) = fa a (spell_mark m ++ y) oka e in let (h, g) = fm m y okm calm v in
    (f (exp_atom a) m u okm h, g)

-- ---- an item without its mark

-- a group that is repeated no times
never-size : (a : Atom) (m : Mark) → Never (times_of m) → size (marked m (exp_atom a)) ≡ 0
unfolding marked
never-size a bare h = absurd h
never-size a star h = absurd h
never-size a more h = absurd h
never-size a maybe h = absurd h
never-size a (rep p q) h = size-times (exp_atom a) (number p) (number q) ∙ ap (λ z. z * size (exp_atom a)) h ∙ omega arith

pub item-never : (R : List ℕ) (k : ℕ) (a : Atom) (m : Mark) (r : Shape) → Never (times_of m) → Nothing r → Sums R k (marked m (exp_atom a)) r
item-never R k a m r h w = sum-void R k (marked m (exp_atom a)) r (never-size a m h) w

pub atom-group : (T R : List ℕ) (k n j q : ℕ) (s : Shape) → n < length T → get_or T n 0 ≡ 40
    → ((b : Body) (x : List ℕ) → ok_body b ≡ true → Stop x → drop (n + 1) T ≡ reads b ++ x → Sums R k (exp eps b) s × (drop j T ≡ x)) → (j < length T → q ≡ j + 1) → AtomFacts T R k n q s
unfolding amid
atom-group T R k n j q s l h f g (byte a) y ok e = absurd (leaf-not T n y a 40 refl refl refl refl ok e h)
atom-group T R k n j q s l h f g (brackets b) y ok e =
    let (u, v) = f b (41 ∷ y) ok (inr (y, refl)) (peel-tail T n 40 (reads b ++ (41 ∷ y)) e) in
    (u, ap (λ z. drop z T) (g (peel-lt T j 41 y v)) ∙ peel-tail T j 41 y v)

pub atom-leaf : (T R : List ℕ) (k n j : ℕ) (s : Shape) → (get_or T n 0 ≡ 40 → ⊥)
    → ((a : Leaf) (y : List ℕ) → ok_leaf a ≡ true → drop n T ≡ spell_leaf a ++ y → drop j T ≡ y) → ((a : Leaf) (y : List ℕ) → ok_leaf a ≡ true → drop n T ≡ spell_leaf a ++ y → Sums R k (one (leaf_has a)) s) → AtomFacts T R k n j s
atom-leaf T R k n j s h f g (byte a) y ok e = (g a y ok e, f a y ok e)
atom-leaf T R k n j s h f g (brackets b) y ok e = absurd (h (peel-at T n 40 (reads b ++ (41 ∷ y)) e))

-- ---- the whole text

pub unit : (w : List ℕ) → w ++ [] ≡ w
unit [] = refl
unit (c ∷ w) = ap (λ z. c ∷ z) (unit w)
