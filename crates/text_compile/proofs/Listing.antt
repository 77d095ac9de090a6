-- The records that the code puts in are those of the definition, and they fill the front of the list.
use Prim.Native.Nat.{ℕ, zero, suc, ◌+◌, ◌-◌, ◌*◌, ◌≤◌, ◌<◌}
use mathlib.Core.Path.{◌≡◌, refl, sym, ap, subst, ◌∙◌}
use mathlib.Core.Bool.{Bool, true, false, ◌&&◌, ◌||◌, not, cond}
use mathlib.Core.List.{List, [], ◌∷◌, ◌++◌, append_assoc}
use mathlib.Core.Logic.{◌⊎◌, inl, inr}
use native.Mathlib.Omega.{arith}
use lib.Dec.{eqb, leb, ltb}
use lib.ListN.{length, take, drop, length-append, length-drop}
use lib.Seq.{drop-drop, length-take-le}
use borrow.Author.Tests.{lt-ltb, le-ltb, ltb-true, ltb-false, le-leb, lt-leb, ne_eqb}
use Rattle.sets.specs.Set.{states, set_of, holds, insert}
use Rattle.sets.proofs.Sets.{holds-empty, holds-insert}
use Rattle.list.specs.List.{record_size, most_records}
use Rattle.text.specs.Exp.{Exp, size, first, follows, edge, accepts}
use Rattle.text.specs.Grammar.{Text, text_reads, ok_body}
use Rattle.text.specs.Records.{runs, edge_records, start_record, accept_record, each, edges_from, edges_to, accepts_of, all_records, records_of, sort_into, flat, list_of, too_big}
use Rattle.text_walk.specs.declared.Shape.{Shape}
use Rattle.text_walk.specs.inner.Rows.{cap, prior_at, bytes_of, Sums}
use Rattle.text_walk.proofs.Sum.{cap-small}
use Rattle.text_walk.proofs.Edges.{walk_first, walk-last, walk-last-none, walk-prior, walk-prior-none, walk-last-past, walk-prior-past, walk-letter}
use Rattle.text_records.specs.inner.Front.{recs_of, Wrote, Writes, Sorts, Below, arrows_from, ends_of}
use Rattle.text_records.proofs.Writing.{writes_more, each-length, edges-length}
use Rattle.text_compile.specs.declared.Compiled.{Compiled}
use Rattle.text.specs.Acceptor.{begin, live, verdict}
use Rattle.text_compile.specs.inner.Code.{exp_of, free_of, Arrive, Ends, refused, written, made, Gives, Judged}

-- ---- the edges to a state

and-true : (a : Bool) → (a && true) ≡ a
and-true true = refl
and-true false = refl

-- what a set with 0 in it holds
with-zero : (n : ℕ) → holds (insert states n 0) 0 ≡ true
with-zero n = holds-insert states n 0 0 ∙ here (holds n 0)
  where
    here : (b : Bool) → (b || (ltb 0 states && eqb 0 0)) ≡ true
    here true = refl
    here false = refl

with-other : (n p : ℕ) → holds (insert states n 0) (suc p) ≡ holds n (suc p)
with-other n p = holds-insert states n 0 (suc p) ∙ ap (λ z. holds n (suc p) || (ltb 0 states && z)) (ne_eqb (suc p) 0 (λ z. omega arith)) ∙ other (holds n (suc p))
  where
    other : (b : Bool) → (b || (ltb 0 states && false)) ≡ b
    other true = refl
    other false = refl

one_more : (q : ℕ) → suc q ≡ 1 + q
one_more q = omega arith

-- to state 0
pub arrive_none : (free bound : Bool) (e : Exp) (F : ℕ) (l : ℕ → Bool) → free ≡ not bound → F ≡ cond bound 0 (insert states 0 0) → ((c : ℕ) → c < 256 → l c ≡ true) → Arrive free e 0 F l
arrive_none free bound e F l q f g zero c h k =
    ap (λ z. holds F 0 && z) (g c k) ∙ and-true (holds F 0) ∙ ap (λ z. holds z 0) f ∙ zero_in bound ∙ sym q ∙ (unfold edge in refl)
  where
    zero_in : (b : Bool) → holds (cond b 0 (insert states 0 0)) 0 ≡ not b
    zero_in true = holds-empty 0
    zero_in false = with-zero 0
arrive_none free bound e F l q f g (suc s) c h k = ap (λ z. z && l c) (ap (λ z. holds z (suc s)) f ∙ other bound) ∙ (unfold edge in refl)
  where
    other : (b : Bool) → holds (cond b 0 (insert states 0 0)) (suc s) ≡ false
    other true = holds-empty (suc s)
    other false = with-other 0 s ∙ holds-empty (suc s)

pub all-bytes : (b : Bool) (c : ℕ) → c < 256 → (b || (leb 0 c && leb c 255)) ≡ true
all-bytes b c h = rw (le-leb 0 c (omega arith), le-leb c 255 (omega arith)) (or-true b)
  where
    or-true : (b : Bool) → (b || true) ≡ true
    or-true true = refl
    or-true false = refl

-- to any state but 0
module _ (free : Bool) (R : List ℕ) (e : Exp) (r : Shape) (k : Sums R 1 e r) (few : size e < states) where
  from_some : (q F : ℕ) (l : ℕ → Bool) → q < size e → ((p : ℕ) → holds F (suc p) ≡ holds (prior_at R (suc q)) (suc p)) → holds F 0 ≡ holds (set_of r.first) (suc q) → ((c : ℕ) → l c ≡ holds (bytes_of R (suc q)) c) → Arrive free e (suc q) F l
  from_some q F l h f g i zero c j o =
      ap (λ z. z && l c) (g ∙ ap (holds (set_of r.first)) (one_more q) ∙ walk_first R e r k few q h) ∙ ap (λ z. first e q && z) (i c ∙ ap (λ z. holds (bytes_of R z) c) (one_more q) ∙ walk-letter R e r k few q c h o) ∙ (unfold edge in refl)
  from_some q F l h f g i (suc p) c j o =
      ap (λ z. z && l c) (f p ∙ ap (λ z. holds (prior_at R z) (suc p)) (one_more q) ∙ ap (holds (prior_at R (1 + q))) (one_more p) ∙ walk-prior R e r k few p q (omega arith) h)
      ∙ ap (λ z. follows e p q && z) (i c ∙ ap (λ z. holds (bytes_of R z) c) (one_more q) ∙ walk-letter R e r k few q c h o) ∙ (unfold edge in refl)

  pub arrows-first : (t F G L : ℕ) → (t ≡ 0 → ⊥) → t ≤ size e → G ≡ prior_at R t → L ≡ bytes_of R t → holds (set_of r.first) t ≡ true → F ≡ insert states G 0 → Arrive free e t F (holds L)
  arrows-first zero F G L n l u v f w = absurd (n refl)
  arrows-first (suc q) F G L n l u v f w =
      from_some q F (holds L) l (λ p. ap (λ z. holds z (suc p)) w ∙ with-other G p ∙ ap (λ z. holds z (suc p)) u) (ap (λ z. holds z 0) w ∙ with-zero G ∙ sym f) (λ c. ap (λ z. holds z c) v)

  pub arrows-later : (t F L : ℕ) → (t ≡ 0 → ⊥) → t ≤ size e → F ≡ prior_at R t → L ≡ bytes_of R t → holds (set_of r.first) t ≡ false → Arrive free e t F (holds L)
  arrows-later zero F L n l u v f = absurd (n refl)
  arrows-later (suc q) F L n l u v f =
      from_some q F (holds L) l (λ p. ap (λ z. holds z (suc p)) u) (ap (λ z. holds z 0) u ∙ ap (λ z. holds (prior_at R z) 0) (one_more q) ∙ walk-prior-none R e r k few q l ∙ sym f) (λ c. ap (λ z. holds z c) v)

  -- none of them is past the last state
  pub arrows-below : (t : ℕ) → (t ≡ 0 → ⊥) → t ≤ size e → Below (prior_at R t) (suc (size e))
  arrows-below zero n l = absurd (n refl)
  arrows-below (suc q) n l = λ p a b. ap (λ z. holds (prior_at R z) p) (one_more q) ∙ walk-prior-past R e r k few q p l a

-- with 0 too, or 0 alone
pub below-with : (S F n : ℕ) → F ≡ insert states S 0 → Below S (suc n) → Below F (suc n)
below-with S F n e h zero a b = absurd (omega arith)
below-with S F n e h (suc q) a b = ap (λ z. holds z (suc q)) e ∙ with-other S q ∙ h (suc q) a b

pub below_none : (b : Bool) (F n : ℕ) → F ≡ cond b 0 (insert states 0 0) → Below F (suc n)
below_none true F n e = λ q a b. ap (λ z. holds z q) e ∙ holds-empty q
below_none false F n e = below-with 0 F n e (λ q a b. holds-empty q)

-- ---- the states that accept

pub ends-null : (R : List ℕ) (e : Exp) (r : Shape) (F : ℕ) → Sums R 1 e r → size e < states → r.null ≡ true → F ≡ insert states (set_of r.last) 0 → Ends e F
ends-null R e r F s few n w zero h = ap (λ z. holds z 0) w ∙ with-zero (set_of r.last) ∙ sym n ∙ s.nulls ∙ (unfold accepts in refl)
ends-null R e r F s few n w (suc p) h =
    ap (λ z. holds z (suc p)) w ∙ with-other (set_of r.last) p ∙ ap (holds (set_of r.last)) (one_more p) ∙ walk-last R e r s few p (omega arith) ∙ (unfold accepts in refl)

pub ends_some : (R : List ℕ) (e : Exp) (r : Shape) → Sums R 1 e r → size e < states → r.null ≡ false → Ends e (set_of r.last)
ends_some R e r s few n zero h = walk-last-none R e r s few ∙ sym n ∙ s.nulls ∙ (unfold accepts in refl)
ends_some R e r s few n (suc p) h = ap (holds (set_of r.last)) (one_more p) ∙ walk-last R e r s few p (omega arith) ∙ (unfold accepts in refl)

pub ends-below : (R : List ℕ) (e : Exp) (r : Shape) → Sums R 1 e r → size e < states → Below (set_of r.last) (suc (size e))
ends-below R e r s few q a b = walk-last-past R e r s few q a

-- ---- runs, and each state's records

runs-ext : (f g : ℕ → Bool) (n c low : ℕ) → ((i : ℕ) → i < c + n → f i ≡ g i) → runs f n c low ≡ runs g n c low
unfolding runs
runs-ext f g zero c low h = refl
runs-ext f g (suc n) c low h =
    let q : f c ≡ g c = h c (omega arith) in
    rw (q, runs-ext f g n (suc c) (cond (g c) (cond (eqb low 0) (suc c) low) 0) (λ i l. h i (omega arith)))

runs_none : (f : ℕ → Bool) (n c : ℕ) → ((i : ℕ) → i < c + n → f i ≡ false) → runs f n c 0 ≡ []
unfolding runs
runs_none f zero c h = refl
runs_none f (suc n) c h = let q : f c ≡ false = h c (omega arith) in rw (q, runs_none f n (suc c) (λ i l. h i (omega arith)))

each-ext : (f g : ℕ → List (List ℕ)) (m : ℕ) → ((i : ℕ) → i < m → f i ≡ g i) → each f m ≡ each g m
unfolding each
each-ext f g zero h = refl
each-ext f g (suc m) h = rw (each-ext f g m (λ i l. h i (omega arith)), h m (omega arith))

edges_none : (s t : ℕ) → edge_records s t [] ≡ []
unfolding edge_records
edges_none s t = refl

module _ (free : Bool) (e : Exp) (t F : ℕ) (l : ℕ → Bool) (a : Arrive free e t F l) where
  arrows-from : (s : ℕ) → s ≤ size e → arrows_from F l t s ≡ edges_from free e t s
  unfolding arrows_from edges_from
  arrows-from s h = go (holds F s) refl
    where
      go : (b : Bool) → holds F s ≡ b → cond (holds F s) (edge_records s t (runs l 256 0 0)) [] ≡ edge_records s t (runs (edge free e s t) 256 0 0)
      go true q = rw q (ap (edge_records s t) (runs-ext l (edge free e s t) 256 0 0 (λ i j. ap (λ z. z && l i) (sym q) ∙ a s i h (omega arith))))
      go false q = rw q (sym (ap (edge_records s t) (runs_none (edge free e s t) 256 0 (λ i j. sym (ap (λ z. z && l i) (sym q) ∙ a s i h (omega arith)))) ∙ edges_none s t))

  pub arrows-to : (m : ℕ) → m ≡ suc (size e) → each (arrows_from F l t) m ≡ edges_to free e t
  arrows-to m q = ap (each (arrows_from F l t)) q ∙ each-ext (arrows_from F l t) (edges_from free e t) (suc (size e)) (λ i h. arrows-from i (omega arith)) ∙ (unfold edges_to in refl)

  -- and how many
  pub arrows-count : (m w n : ℕ) → m ≡ suc (size e) → n ≡ length (runs l 256 0 0)
      → ((R : ℕ → List (List ℕ)) → ((s : ℕ) → length (R s) ≡ n) → w ≡ length (each (λ s. cond (holds F s) (R s) []) m)) → w ≡ length (edges_to free e t)
  arrows-count m w n q c f =
      f (λ s. edge_records s t (runs l 256 0 0)) (λ s. edges-length s t (runs l 256 0 0) ∙ sym c)
      ∙ ap length (each-ext (λ s. cond (holds F s) (edge_records s t (runs l 256 0 0)) []) (arrows_from F l t) m (λ i h. unfold arrows_from in refl) ∙ arrows-to m q)

module _ (e : Exp) (F : ℕ) (g : ℕ) (a : Ends e F) where
  pub ends-all : (m : ℕ) → m ≡ suc (size e) → each (ends_of F g) m ≡ each (accepts_of e g) (suc (size e))
  unfolding ends_of accepts_of
  ends-all m q = ap (each (ends_of F g)) q ∙ each-ext (ends_of F g) (accepts_of e g) (suc (size e)) (λ i h. one i (omega arith))
    where
      one : (s : ℕ) → s ≤ size e → ends_of F g s ≡ accepts_of e g s
      one s h = ap (λ z. cond z (accept_record s g ∷ []) []) (a s h)

  pub ends-count : (m w : ℕ) → m ≡ suc (size e)
      → ((R : ℕ → List (List ℕ)) → ((s : ℕ) → length (R s) ≡ 1) → w ≡ length (each (λ s. cond (holds F s) (R s) []) m)) → w ≡ length (each (accepts_of e g) (suc (size e)))
  ends-count m w q f =
      f (λ s. accept_record s g ∷ []) (λ s. refl) ∙ ap length (each-ext (λ s. cond (holds F s) (accept_record s g ∷ []) []) (ends_of F g) m (λ i h. unfold ends_of in refl) ∙ ends-all m q)

-- one state more
pub edges_more : (free : Bool) (e : Exp) (t w total : ℕ) → total ≡ length (each (edges_to free e) t) → w ≡ length (edges_to free e t) → total + w ≡ length (each (edges_to free e) (t + 1))
edges_more free e t w total p q = sym (each-length (edges_to free e) t ∙ (rw (← p, ← q)))

-- ---- all records

pub all-put : (A B C D : List ℕ) (k j i g m : ℕ) (x : Text) (F : ℕ) → m ≡ suc (size (exp_of x)) → Ends (exp_of x) F
    → Writes A B 0 (each (edges_to (free_of x) (exp_of x)) m) k → Writes B C k (start_record ∷ []) j → Writes C D j (each (ends_of F g) m) i → Writes A D 0 (records_of x g) i
all-put A B C D k j i g m x F q a u v w =
    subst (λ z. Writes A D 0 z i) whole
    (writes_more A C D 0 j i (each (edges_to (free_of x) (exp_of x)) m ++ (start_record ∷ [])) (each (ends_of F g) m)
    (writes_more A B C 0 k j (each (edges_to (free_of x) (exp_of x)) m) (start_record ∷ []) u v) w)
  where
    whole : (each (edges_to (free_of x) (exp_of x)) m ++ (start_record ∷ [])) ++ each (ends_of F g) m ≡ records_of x g
    whole =
        append_assoc (each (edges_to (free_of x) (exp_of x)) m) (start_record ∷ []) (each (ends_of F g) m)
        ∙ ap (λ z. each (edges_to (free_of x) (exp_of x)) m ++ (start_record ∷ z)) (ends-all (exp_of x) F g a m q)
        ∙ ap (λ z. each (edges_to (free_of x) (exp_of x)) z ++ (start_record ∷ each (accepts_of (exp_of x) g) (suc (size (exp_of x))))) q
        ∙ (unfold all_records in refl)

pub all-count : (x : Text) (g edges ends m : ℕ) → m ≡ suc (size (exp_of x)) → edges ≡ length (each (edges_to (free_of x) (exp_of x)) m) → ends ≡ length (each (accepts_of (exp_of x) g) (suc (size (exp_of x))))
    → edges + 1 + ends ≡ length (records_of x g)
all-count x g edges ends m q u v =
    let a : length (records_of x g) ≡ length (each (edges_to (free_of x) (exp_of x)) (suc (size (exp_of x)))) + suc (length (each (accepts_of (exp_of x) g) (suc (size (exp_of x))))) =
    (unfold all_records in length-append (each (edges_to (free_of x) (exp_of x)) (suc (size (exp_of x)))) (start_record ∷ each (accepts_of (exp_of x) g) (suc (size (exp_of x))))) in
    let b : edges ≡ length (each (edges_to (free_of x) (exp_of x)) (suc (size (exp_of x)))) = u ∙ ap (λ z. length (each (edges_to (free_of x) (exp_of x)) z)) q in
    omega arith

-- ---- the list

take-drop : (n : ℕ) (w : List ℕ) → take n w ++ drop n w ≡ w
take-drop zero w = refl
take-drop (suc n) [] = refl
take-drop (suc n) (c ∷ w) = ap (λ z. c ∷ z) (take-drop n w)

flat-recs : (n : ℕ) (l : List ℕ) → 8 * n ≤ length l → (flat (recs_of n l) ++ drop (8 * n) l ≡ l) × (length (flat (recs_of n l)) ≡ 8 * n)
unfolding flat recs_of
flat-recs zero l h = (refl, refl)
flat-recs (suc n) l h =
    let d : length (drop 8 l) ≡ length l - 8 = length-drop 8 l in
    let (a, b) = flat-recs n (drop 8 l) (omega arith) in
    let c : length (take 8 l) ≡ 8 = length-take-le 8 l (omega arith) in (
      append_assoc (take 8 l) (flat (recs_of n (drop 8 l))) (drop (8 * suc n) l)
          ∙ ap (λ z. take 8 l ++ (flat (recs_of n (drop 8 l)) ++ z)) (ap (λ z. drop z l) eight ∙ sym (drop-drop (8 * n) 8 l)) ∙ ap (λ z. take 8 l ++ z) a ∙ take-drop 8 l,
      length-append (take 8 l) (flat (recs_of n (drop 8 l))) ∙ omega arith,
    )
  where
    eight : 8 * suc n ≡ 8 + 8 * n
    eight = omega arith

recs-none : (l : List ℕ) → recs_of 0 l ≡ []
unfolding recs_of
recs-none l = refl

list-is : (x : Text) (g : ℕ) → flat (sort_into [] (records_of x g)) ≡ list_of x g
unfolding list_of
list-is x g = refl

module _ (x : Text) (g : ℕ) (A B C : List ℕ) (k n : ℕ) (w : Writes A B 0 (records_of x g) k) (room : 8 * length (records_of x g) ≤ length A) (c : n ≡ length (records_of x g)) (s : Sorts B C 0 n) where
  done : Wrote A B 0 (records_of x g) k
  done = w.wrote (omega (arith, room))

  same : k ≡ n
  same = let d : k ≡ 0 + length (records_of x g) = done.counted in omega (arith, c)

  few : 8 * n ≤ length C
  few = let l : length B ≡ length A = w.long in let m : length C ≡ length B = s.long in omega (arith, c, room)

  the-list : flat (recs_of n C) ≡ list_of x g
  the-list =
      let z : n - 0 ≡ n = omega arith in
      ap flat (ap (λ i. recs_of i C) (sym z) ∙ s.there ∙ ap (λ i. sort_into [] (recs_of i B)) (z ∙ sym same) ∙ ap (sort_into []) (done.listed ∙ ap (λ i. i ++ records_of x g) (recs-none A))) ∙ list-is x g

  pub list_length : length (list_of x g) ≡ 8 * n
  list_length = ap length (sym the-list) ∙ (flat-recs n C few).1

  pub list_left : C ≡ list_of x g ++ drop (length (list_of x g)) A
  list_left =
      sym (flat-recs n C few).0 ∙ ap (λ z. z ++ drop (8 * n) C) the-list ∙ ap (λ z. list_of x g ++ z) (s.behind ∙ subst (λ z. drop (8 * z) B ≡ drop (8 * z) A) same done.stayed)
      ∙ ap (λ z. list_of x g ++ drop z A) (sym list_length)

-- ---- 21

module _ (x : Text) (g : ℕ) (A : List ℕ) where
  many : (a b c : Bool) → (a ≡ true) ⊎ ((b ≡ true) ⊎ (c ≡ true)) → ((a || b) || c) ≡ true
  many true b c h = refl
  many false true c h = refl
  many false false true h = refl
  many false false false (inl h) = h
  many false false false (inr (inl h)) = h
  many false false false (inr (inr h)) = h

  pub big-states : states ≤ size (exp_of x) → too_big (length A) x g ≡ true
  big-states h = unfold too_big in many (leb states (size (exp_of x))) (ltb most_records (length (records_of x g))) (ltb (length A) (record_size * length (records_of x g))) (inl (le-leb states (size (exp_of x)) h))

  pub big-records : most_records < length (records_of x g) → too_big (length A) x g ≡ true
  big-records h = unfold too_big in many (leb states (size (exp_of x))) (ltb most_records (length (records_of x g))) (ltb (length A) (record_size * length (records_of x g))) (inr (inl (lt-ltb most_records (length (records_of x g)) h)))

  pub big-list : length A < record_size * length (records_of x g) → too_big (length A) x g ≡ true
  big-list h = unfold too_big in many (leb states (size (exp_of x))) (ltb most_records (length (records_of x g))) (ltb (length A) (record_size * length (records_of x g))) (inr (inr (lt-ltb (length A) (record_size * length (records_of x g)) h)))

  pub not-big : size (exp_of x) < states → length (records_of x g) ≤ most_records → record_size * length (records_of x g) ≤ length A → too_big (length A) x g ≡ false
  not-big h i j = unfold too_big in rw (lt-leb states (size (exp_of x)) h, le-ltb most_records (length (records_of x g)) i, le-ltb (length A) (record_size * length (records_of x g)) j)

  pub gives-21 : (r : Compiled) → too_big (length A) x g ≡ true → r.refusal ≡ 21 → r.place ≡ 0 → r.length ≡ 0 → Gives (made x g A) r A
  gives-21 r t a b c = subst (λ z. Gives (cond z (refused 21 0 A) (written (list_of x g) A)) r A) (sym t) (record { refusal = a; place = b; length = c; list = refl })

  pub gives-0 : (r : Compiled) (B : List ℕ) → too_big (length A) x g ≡ false → r.refusal ≡ 0 → r.place ≡ 0 → r.length ≡ length (list_of x g) → B ≡ list_of x g ++ drop (length (list_of x g)) A → Gives (made x g A) r B
  gives-0 r B t a b c d = subst (λ z. Gives (cond z (refused 21 0 A) (written (list_of x g) A)) r B) (sym t) (record { refusal = a; place = b; length = c; list = d })

-- a size as large as the states says that there are too many
pub size-most : (e : Exp) (r : Shape) (R : List ℕ) → Sums R 1 e r → states ≤ r.size → states ≤ size e
size-most e r R s h = go (ltb (size e) states) refl
  where
    go : (b : Bool) → ltb (size e) states ≡ b → states ≤ size e
    go false q = ltb-false (size e) states q
    go true q =
        let l : size e < states = ltb-true (size e) states q in
        let c : cap (size e) ≡ size e = cap-small (size e) (omega arith) in
        let d : r.size ≡ cap (size e) = s.sized in absurd (omega arith)

-- ---- the whole

pub judged-good : (T : List ℕ) (g : ℕ) (A : List ℕ) (r : Compiled) (B : List ℕ) → (0, 0) ≡ verdict (live 0 begin) 0 T
    → ((x : Text) → ok_body x.body ≡ true → text_reads x ≡ T → Gives (made x g A) r B) → Judged T g A r B
judged-good T g A r B v f = record {
  bad = λ n. absurd (n (sym (ap (λ (z : ℕ × ℕ). z.0) v)));
  good = λ z x ok e. f x ok e;
}

pub judged-bad : (T : List ℕ) (g : ℕ) (A : List ℕ) (r : Compiled) (n p : ℕ) → (suc n, p) ≡ verdict (live 0 begin) 0 T
    → r.refusal ≡ suc n → r.place ≡ p → r.length ≡ 0 → Judged T g A r A
judged-bad T g A r n p v a b c = record {
  bad = λ z. record { refusal = a ∙ ap (λ (z : ℕ × ℕ). z.0) v; place = b ∙ ap (λ (z : ℕ × ℕ). z.1) v; length = c; list = refl };
  good = λ z. absurd (no z);
}
  where
    no : (verdict (live 0 begin) 0 T).0 ≡ 0 → ⊥
    no z = let k : suc n ≡ 0 = ap (λ (z : ℕ × ℕ). z.0) v ∙ z in omega (arith, k)
