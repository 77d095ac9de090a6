-- Compiling in words: from the acceptor's verdict; when it refuses, where, and that its answer and the list are determined.
use Prim.Native.Nat.{ℕ, zero, suc, ◌+◌, ◌-◌, ◌≤◌, ◌<◌}
use mathlib.Core.Path.{◌≡◌, refl, sym, ap, subst, ◌∙◌}
use mathlib.Core.Bool.{Bool, true, false, cond}
use mathlib.Core.List.{List, [], ◌∷◌, ◌++◌, append_assoc}
use mathlib.Core.Logic.{◌⊎◌, inl, inr, ◌↔◌}
use native.Mathlib.Omega.{arith}
use native.Mathlib.Decide.{dec_lt}
use lib.ListN.{length, take, drop}
use lib.Seq.{take-add}
use Rattle.text.specs.Grammar.{Text, Bytes, Fits, Viable, TooDeep}
use Rattle.text.specs.Acceptor.{State, begin, live, step, good, is_dead, deep, verdict}
use Rattle.text.specs.Records.{list_of, too_big}
use Rattle.text.proofs.Viable.{bytes-none, bytes-more}
use Rattle.text.proofs.Place.{bytes_drop, place-19}
use Rattle.text.proofs.Deep.{deep-20, good-0}
use Rattle.text_compile.specs.declared.Compiled.{Compiled}
use Rattle.text_compile.specs.inner.Code.{Outcome, refused, written, made, Gives, Judged}
use Rattle.text_compile.specs.Compile.{Reading, FirstBad, answer, Compiles}
use Rattle.text_compile.specs.Words.{CompileExactly}

-- ---- the acceptor's verdict

-- a verdict is 0, 19 or 20
abbrev Three : ℕ × ℕ → Type 0
Three v = (v.0 ≡ 0) ⊎ ((v.0 ≡ 19) ⊎ (v.0 ≡ 20))

three : (w : List ℕ) (s : State) (i : ℕ) → Three (verdict s i w)
unfolding verdict
three [] s i = go (deep s) (good s)
  where
    go : (x y : Bool) → Three (cond x (20, 0) (cond y (0, 0) (19, i)))
    go true y = inr (inr refl)
    go false true = inl refl
    go false false = inr (inl refl)
three (c ∷ w) s i = go (deep s) (is_dead (step s c)) (verdict (step s c) (suc i) w) (three w (step s c) (suc i))
  where
    go : (x y : Bool) (v : ℕ × ℕ) → Three v → Three (cond x (20, 0) (cond y (19, i) v))
    go true y v h = inr (inr refl)
    go false true v h = inr (inl refl)
    go false false v h = h

-- 20 has no place
abbrev Placeless : ℕ × ℕ → Type 0
Placeless v = v.0 ≡ 20 → v.1 ≡ 0

deep-place : (w : List ℕ) (s : State) (i : ℕ) → Placeless (verdict s i w)
unfolding verdict
deep-place [] s i = go (deep s) (good s)
  where
    go : (x y : Bool) → Placeless (cond x (20, 0) (cond y (0, 0) (19, i)))
    go true y = λ e. refl
    go false true = λ e. refl
    go false false = λ e. absurd (omega (arith, e))
deep-place (c ∷ w) s i = go (deep s) (is_dead (step s c)) (verdict (step s c) (suc i) w) (deep-place w (step s c) (suc i))
  where
    go : (x y : Bool) (v : ℕ × ℕ) → Placeless v → Placeless (cond x (20, 0) (cond y (19, i) v))
    go true y v h = λ e. refl
    go false true v h = λ e. absurd (omega (arith, e))
    go false false v h = h

-- a text is too deep, or does not fit, or has a reading
pub text-cases : (T : List ℕ) → Bytes T → TooDeep T ⊎ (((TooDeep T → ⊥) × (Fits T → ⊥)) ⊎ ((TooDeep T → ⊥) × Fits T))
text-cases T bytes = go (three T (live 0 begin) 0)
  where
    go : Three (verdict (live 0 begin) 0 T) → TooDeep T ⊎ (((TooDeep T → ⊥) × (Fits T → ⊥)) ⊎ ((TooDeep T → ⊥) × Fits T))
    go (inl z) = let (f, d) = (good-0 T bytes).0 z in inr (inr (d, f))
    go (inr (inl z)) =
        let d : TooDeep T → ⊥ = λ k. let y = (deep-20 T).1 k in omega (arith, y, z) in
        inr (inl (d, λ f. let y = (good-0 T bytes).1 (f, d) in omega (arith, y, z)))
    go (inr (inr z)) = inl ((deep-20 T).0 z)

-- ---- the promise, from the verdict

-- what a good text's outcome is
made-big : (x : Text) (g : ℕ) (A : List ℕ) → too_big (length A) x g ≡ true → made x g A ≡ refused 21 0 A
made-big x g A h = ap (λ z. cond z (refused 21 0 A) (written (list_of x g) A)) h

made-fits : (x : Text) (g : ℕ) (A : List ℕ) → too_big (length A) x g ≡ false → made x g A ≡ written (list_of x g) A
made-fits x g A h = ap (λ z. cond z (refused 21 0 A) (written (list_of x g) A)) h

-- the answer by its three numbers
answered : (r : Compiled) (n p l : ℕ) → r.refusal ≡ n → r.place ≡ p → r.length ≡ l → r ≡ answer n p l
answered r n p l a b c = rw (← a, ← b, ← c) refl

gives-answer : (o : Outcome) (r : Compiled) (B : List ℕ) → Gives o r B → (r ≡ answer o.refusal o.place o.length) × (B ≡ o.list)
gives-answer o r B k = (answered r o.refusal o.place o.length k.refusal k.place k.length, k.list)

pub judged-compiles : (T : List ℕ) (g : ℕ) (A : List ℕ) (r : Compiled) (B : List ℕ) → Bytes T → Judged T g A r B → Compiles T g A r B
judged-compiles T g A r B bytes c =
    record {
      deep = λ d.
          let e = (deep-20 T).1 d in
          let k = c.bad (λ z. omega (arith, e, z)) in
          (answered r 20 0 0 (k.refusal ∙ e) (k.place ∙ deep-place T (live 0 begin) 0 e) k.length, k.list);
      bad = λ d f. at-19 (is-19 d f (three T (live 0 begin) 0));
      big = λ d x y t. gives-answer (refused 21 0 A) r B (subst (λ o. Gives o r B) (made-big x g A t) (by d x y));
      good = λ d x y t. gives-answer (written (list_of x g) A) r B (subst (λ o. Gives o r B) (made-fits x g A t) (by d x y));
    }
  where
    by : (TooDeep T → ⊥) → (x : Text) → Reading T x → Gives (made x g A) r B
    by d x (ok, e) = c.good ((good-0 T bytes).1 ((x, ok, e), d)) x ok e

    is-19 : (TooDeep T → ⊥) → (Fits T → ⊥) → Three (verdict (live 0 begin) 0 T) → (verdict (live 0 begin) 0 T).0 ≡ 19
    is-19 d f (inl z) = absurd (f ((good-0 T bytes).0 z).0)
    is-19 d f (inr (inl z)) = z
    is-19 d f (inr (inr z)) = absurd (d ((deep-20 T).0 z))

    at-19 : (verdict (live 0 begin) 0 T).0 ≡ 19 → (r ≡ answer 19 r.place 0) × FirstBad T r.place × (B ≡ A)
    at-19 z =
        let k = c.bad (λ y. omega (arith, y, z)) in
        let (p, q, a, b) = place-19 T bytes z in
        (answered r 19 r.place 0 (k.refusal ∙ z) refl k.length, subst (FirstBad T) (sym (k.place ∙ q)) (a, b), k.list)

-- ---- there is one first bad place

bytes_take : (j : ℕ) (w : List ℕ) → Bytes w → Bytes (take j w)
bytes_take zero w b = bytes-none
bytes_take (suc j) [] b = bytes-none
bytes_take (suc j) (c ∷ w) b = bytes-more c (take j w) (b 0) (bytes_take j w (λ i. b (suc i)))

bytes-both : (v x : List ℕ) → Bytes v → Bytes x → Bytes (v ++ x)
bytes-both [] x b l = l
bytes-both (c ∷ v) x b l = bytes-more c (v ++ x) (b 0) (bytes-both v x (λ i. b (suc i)) l)

-- a shorter front of what has a continuation that fits has one
viable-front : (T : List ℕ) (p q : ℕ) → Bytes T → p ≤ q → Viable (take q T) → Viable (take p T)
viable-front T p q bytes l (v, b, f) =
    let w = take (q - p) (drop p T) in
    let z : p + (q - p) ≡ q = omega arith in
    let e : take q T ≡ take p T ++ w = ap (λ (k : ℕ). take k T) (sym z) ∙ take-add p (q - p) T in
    (w ++ v, bytes-both w v (bytes_take (q - p) (drop p T) (bytes_drop p T bytes)) b, subst Fits (ap (λ u. u ++ v) e ∙ append_assoc (take p T) w v) f)

not-before : (T : List ℕ) (p q : ℕ) → Bytes T → FirstBad T p → FirstBad T q → p < q → ⊥
not-before T p q bytes (a, inl (e, f)) (b, inl (g, h)) l = omega (arith, e, g)
not-before T p q bytes (a, inl (e, f)) (b, inr (g, h)) l = omega (arith, e, g)
not-before T p q bytes (a, inr (e, f)) (b, h) l = f (viable-front T (suc p) q bytes l b)

pub first-bad-alone : (T : List ℕ) (p q : ℕ) → Bytes T → FirstBad T p → FirstBad T q → p ≡ q
first-bad-alone T p q bytes a b = elim (dec_lt p q) [ yes l ↦ absurd (not-before T p q bytes a b l) | no n ↦ elim (dec_lt q p) [ yes l ↦ absurd (not-before T q p bytes b a l) | no m ↦ omega (arith, n, m) ] ]

-- ---- each refusal exactly

module _ (T : List ℕ) (g : ℕ) (A : List ℕ) (r : Compiled) (B : List ℕ) (bytes : Bytes T) (c : Compiles T g A r B) where
  -- without a refusal the text has a reading that fits, and what is left is its list, and the lent one behind it
  abbrev Wrote : Type 0
  Wrote = (x : Text) × Reading T x × (too_big (length A) x g ≡ false) × (r.length ≡ length (list_of x g)) × (B ≡ list_of x g ++ drop (length (list_of x g)) A)

  -- the four ways to end, by the refusal
  abbrev Ways : Type 0
  Ways =
      (TooDeep T × (r ≡ answer 20 0 0) × (B ≡ A))
      ⊎ (((TooDeep T → ⊥) × (Fits T → ⊥) × (r ≡ answer 19 r.place 0) × (B ≡ A))
      ⊎ (((TooDeep T → ⊥) × ((x : Text) × Reading T x × (too_big (length A) x g ≡ true)) × (r ≡ answer 21 0 0) × (B ≡ A))
      ⊎ ((TooDeep T → ⊥) × Wrote × (r.refusal ≡ 0) × (r.place ≡ 0))))

  ways : Ways
  ways = go (text-cases T bytes)
    where
      fits : (TooDeep T → ⊥) → (x : Text) → Reading T x → (b : Bool) → too_big (length A) x g ≡ b → Ways
      fits d x y true t = let (e, q) = c.big d x y t in inr (inr (inl (d, (x, y, t), e, q)))
      fits d x y false t = let (e, q) = c.good d x y t in inr (inr (inr (d, (x, y, t, ap (λ (z : Compiled). z.length) e, q), ap (λ (z : Compiled). z.refusal) e, ap (λ (z : Compiled). z.place) e)))

      go : TooDeep T ⊎ (((TooDeep T → ⊥) × (Fits T → ⊥)) ⊎ ((TooDeep T → ⊥) × Fits T)) → Ways
      go (inl d) = let (e, q) = c.deep d in inl (d, e, q)
      go (inr (inl (d, f))) = let (e, p, q) = c.bad d f in inr (inl (d, f, e, q))
      go (inr (inr (d, (x, ok, e)))) = fits d x (ok, e) (too_big (length A) x g) refl

  number : (n p l : ℕ) → r ≡ answer n p l → r.refusal ≡ n
  number n p l e = ap (λ (z : Compiled). z.refusal) e

  -- 20 exactly when a seventeenth bracket opens inside the others, before any place where the text is bad, or at all
  pub compile-20 : (r.refusal ≡ 20) ↔ TooDeep T
  compile-20 = (λ e. there e ways, λ d. number 20 0 0 (c.deep d).0)
    where
      there : r.refusal ≡ 20 → Ways → TooDeep T
      there e (inl (d, q, s)) = d
      there e (inr (inl (d, f, q, s))) = absurd (omega (arith, e, number 19 r.place 0 q))
      there e (inr (inr (inl (d, f, q, s)))) = absurd (omega (arith, e, number 21 0 0 q))
      there e (inr (inr (inr (d, f, q, s)))) = absurd (omega (arith, e, q))

  -- 19 exactly when it is not too deep and does not fit
  pub compile-19 : (r.refusal ≡ 19) ↔ ((TooDeep T → ⊥) × (Fits T → ⊥))
  compile-19 = (λ e. there e ways, λ k. number 19 r.place 0 (c.bad k.0 k.1).0)
    where
      there : r.refusal ≡ 19 → Ways → (TooDeep T → ⊥) × (Fits T → ⊥)
      there e (inl (d, q, s)) = absurd (omega (arith, e, number 20 0 0 q))
      there e (inr (inl (d, f, q, s))) = (d, f)
      there e (inr (inr (inl (d, f, q, s)))) = absurd (omega (arith, e, number 21 0 0 q))
      there e (inr (inr (inr (d, f, q, s)))) = absurd (omega (arith, e, q))

  -- and where: the first place where no continuation fits
  pub compile-place : r.refusal ≡ 19 → FirstBad T r.place
  compile-place e = let (d, f) = compile-19.0 e in (c.bad d f).1

  -- with any other answer the place is 0
  pub compile-placeless : (r.refusal ≡ 19 → ⊥) → r.place ≡ 0
  compile-placeless n = go ways
    where
      go : Ways → r.place ≡ 0
      go (inl (d, q, s)) = ap (λ (z : Compiled). z.place) q
      go (inr (inl (d, f, q, s))) = absurd (n (number 19 r.place 0 q))
      go (inr (inr (inl (d, f, q, s)))) = ap (λ (z : Compiled). z.place) q
      go (inr (inr (inr (d, f, q, s)))) = s

  -- 21 exactly when it fits, is not too deep, and passes the limits or the lent list
  pub compile-21 : (r.refusal ≡ 21) ↔ ((TooDeep T → ⊥) × ((x : Text) × Reading T x × (too_big (length A) x g ≡ true)))
  compile-21 = (λ e. there e ways, back)
    where
      there : r.refusal ≡ 21 → Ways → (TooDeep T → ⊥) × ((x : Text) × Reading T x × (too_big (length A) x g ≡ true))
      there e (inl (d, q, s)) = absurd (omega (arith, e, number 20 0 0 q))
      there e (inr (inl (d, f, q, s))) = absurd (omega (arith, e, number 19 r.place 0 q))
      there e (inr (inr (inl (d, f, q, s)))) = (d, f)
      there e (inr (inr (inr (d, f, q, s)))) = absurd (omega (arith, e, q))

      back : (TooDeep T → ⊥) × ((x : Text) × Reading T x × (too_big (length A) x g ≡ true)) → r.refusal ≡ 21
      back (d, (x, y, t)) = number 21 0 0 (c.big d x y t).0

  -- else its length is answered, its list stands in the front, and later bytes stay
  pub compile-0 : (x : Text) → Reading T x → (TooDeep T → ⊥) → too_big (length A) x g ≡ false
      → (r.refusal ≡ 0) × (r.length ≡ length (list_of x g)) × (B ≡ list_of x g ++ drop (length (list_of x g)) A)
  compile-0 x y d t = let (e, q) = c.good d x y t in (ap (λ (z : Compiled). z.refusal) e, ap (λ (z : Compiled). z.length) e, q)

  -- so without a refusal there is such a reading
  pub compile-wrote : r.refusal ≡ 0 → Wrote
  compile-wrote e = go ways
    where
      go : Ways → Wrote
      go (inl (d, q, s)) = absurd (omega (arith, e, number 20 0 0 q))
      go (inr (inl (d, f, q, s))) = absurd (omega (arith, e, number 19 r.place 0 q))
      go (inr (inr (inl (d, f, q, s)))) = absurd (omega (arith, e, number 21 0 0 q))
      go (inr (inr (inr (d, f, q, s)))) = f

  -- a refusal leaves the list, and answers no length
  pub compile-refused : (r.refusal ≡ 0 → ⊥) → (B ≡ A) × (r.length ≡ 0)
  compile-refused n = go ways
    where
      go : Ways → (B ≡ A) × (r.length ≡ 0)
      go (inl (d, q, s)) = (s, ap (λ (z : Compiled). z.length) q)
      go (inr (inl (d, f, q, s))) = (s, ap (λ (z : Compiled). z.length) q)
      go (inr (inr (inl (d, f, q, s)))) = (s, ap (λ (z : Compiled). z.length) q)
      go (inr (inr (inr (d, f, q, s)))) = absurd (n q)

-- all of it
pub compile-exactly : CompileExactly
compile-exactly T g A r B bytes c =
    record {
      deep = compile-20 T g A r B bytes c;
      bad = compile-19 T g A r B bytes c;
      place = compile-place T g A r B bytes c;
      placeless = compile-placeless T g A r B bytes c;
      big = compile-21 T g A r B bytes c;
      wrote = compile-0 T g A r B bytes c;
      stays = compile-refused T g A r B bytes c;
    }

-- two outcomes that the promise allows are the same
pub unique-compile : (T : List ℕ) (g : ℕ) (A : List ℕ) (r s : Compiled) (B C : List ℕ) → Bytes T → Compiles T g A r B → Compiles T g A s C
    → (r.refusal ≡ s.refusal) × (r.place ≡ s.place) × (r.length ≡ s.length) × (B ≡ C)
unique-compile T g A r s B C bytes c d = go (text-cases T bytes)
  where
    same : (a b : Compiled) → r ≡ a → s ≡ b → a ≡ b → B ≡ C → (r.refusal ≡ s.refusal) × (r.place ≡ s.place) × (r.length ≡ s.length) × (B ≡ C)
    same a b e f q l = let h = e ∙ q ∙ sym f in (ap (λ (z : Compiled). z.refusal) h, ap (λ (z : Compiled). z.place) h, ap (λ (z : Compiled). z.length) h, l)

    fits : (TooDeep T → ⊥) → (x : Text) → Reading T x → (b : Bool) → too_big (length A) x g ≡ b
        → (r.refusal ≡ s.refusal) × (r.place ≡ s.place) × (r.length ≡ s.length) × (B ≡ C)
    fits n x y true t = let (e, p) = c.big n x y t in let (f, q) = d.big n x y t in same _ _ e f refl (p ∙ sym q)
    fits n x y false t = let (e, p) = c.good n x y t in let (f, q) = d.good n x y t in same _ _ e f refl (p ∙ sym q)

    go : TooDeep T ⊎ (((TooDeep T → ⊥) × (Fits T → ⊥)) ⊎ ((TooDeep T → ⊥) × Fits T)) → (r.refusal ≡ s.refusal) × (r.place ≡ s.place) × (r.length ≡ s.length) × (B ≡ C)
    go (inl z) = let (e, p) = c.deep z in let (f, q) = d.deep z in same _ _ e f refl (p ∙ sym q)
    go (inr (inl (z, n))) =
        let (e, a, p) = c.bad z n in
        let (f, b, q) = d.bad z n in
        same _ _ e f (ap (λ (k : ℕ). answer 19 k 0) (first-bad-alone T r.place s.place bytes a b)) (p ∙ sym q)
    go (inr (inr (n, (x, ok, e)))) = fits n x (ok, e) (too_big (length A) x g) refl
