-- The marks of the states that a list names, what the walk over it finds, and the highest mark. Assumes nothing.
use Prim.Native.Nat.{ℕ, zero, suc, ◌+◌, ◌-◌, ◌*◌, ◌/◌, ◌%◌, ◌≤◌, ◌<◌}
use mathlib.Core.Path.{◌≡◌, refl, sym, ap, ◌∙◌}
use mathlib.Core.Bool.{Bool, true, false, ◌&&◌, ◌||◌, cond, not, true≢false, and-true}
use mathlib.Core.List.{List, [], ◌∷◌}
use native.Mathlib.Omega.{arith}
use native.Mathlib.Nat.{lt_of_not-le}
use native.Mathlib.Decide.{dec_lt}
use native.Mathlib.Numerals.{add-one}
use lib.ListN.{length, get_or, set, take, drop, length-set, replicate, length-replicate}
use lib.Seq.{drop-cons, get_or-take, get_or-drop, get_or-set_same, get_or-set_other}
use lib.Dec.{eqb, ltb}
use lib.Bits.{bit_or}
use borrow.Author.Tests.{eqb-true, eqb-false, eq-eqb, ne_eqb, lt-ltb, ltb-true}
use Rattle.numbers.specs.Number.{num}
use Rattle.sets.specs.Set.{states, holds, join, insert}
use Rattle.numbers.proofs.Laws.{Small, small-zeros}
use Rattle.numbers.proofs.Bytes.{num-two}
use Rattle.sets.proofs.Sets.{or-false, holds-join, holds-insert, holds-empty}
use Rattle.rules.specs.Scan.{some, every, first, gather}
use Rattle.rules.proofs.Scanning.{both, choose, below_suc, or-true, and-false, some-intro, some-elim, every-at, gather-exactly, first-at, first-none}
use Rattle.list.specs.List.{records, byte_of, is_edge, is_start, is_accept, low, high, from, target, good_record, no_start, list_refusal}
use Rattle.list.specs.Automaton.{start, reached, named_by, named, highest}
use Rattle.list.proofs.Listed.{same_truth, good-start, start-good, kind-start, from_bytes}
use Rattle.list.proofs.Named.{by-none, by-put, with-edge, with-start, with-accept}
use Rattle.list.proofs.Highest.{highest-exactly, highest-state}
use Rattle.std.specs.Prelude.{Some, None}
use Rattle.list_join.specs.inner.Found.{some_state, spare_at, spare_by, flag, bump, Marked, Flagged, Seen, ever, once, Ends}
use Rattle.list_join.specs.Join.{stays, staying, lowest, ever_at, once_at}

-- ---- one mark more

same_bit : (w : List ℕ) (N x v s : ℕ) → Marked w N → x < states → (v ≡ 0 → ⊥) → s < states → (b : Bool) → eqb s x ≡ b → not (eqb (get_or (set w x v) s 0) 0) ≡ (holds N s || b)
same_bit w N x v s m l z h true e =
    rw (eqb-true s x e, get_or-set_same w x v 0 (omega (arith, m.0, l)), ne_eqb v 0 z) (sym (or-true (holds N x)))
same_bit w N x v s m l z h false e =
    rw (get_or-set_other w x s v 0 (λ q. eqb-false s x e q)) (m.1 s h ∙ sym (or-false (holds N s)))

marked_more : (w : List ℕ) (N x v : ℕ) → Marked w N → x < states → (v ≡ 0 → ⊥) → Marked (set w x v) (insert states N x)
marked_more w N x v m l z = (length-set w x v ∙ m.0, λ s h. same_bit w N x v s m l z h (eqb s x) refl ∙ sym (holds-insert states N x s ∙ rw (lt-ltb x states l)))

pub marked-put : (t : Bool) (w : List ℕ) (N x : ℕ) → Marked w N → x < states → Marked (cond t (set w x 1) w) (cond t (insert states N x) N)
marked-put true w N x m l = marked_more w N x 1 m l (λ e. omega (arith, e))
marked-put false w N x m l = m

-- a number with more bits is not 0, and has them
more-bits : (a k j : ℕ) → holds k j ≡ true → bit_or a k ≡ 0 → ⊥
unfolding join
more-bits a k j h e = true≢false (sym (holds-join a k j ∙ rw (h) (or-true (holds a j))) ∙ ap (λ z. holds z j) e ∙ holds-empty j)

marked-flag : (w : List ℕ) (N x k j : ℕ) → Marked w N → x < states → holds k j ≡ true → Marked (flag w x k) (insert states N x)
marked-flag w N x k j m l h = marked_more w N x (bit_or (get_or w x 0) k) m l (more-bits (get_or w x 0) k j h)

flag-bit : (w : List ℕ) (x k s j : ℕ) → x < length w → (b : Bool) → eqb s x ≡ b → holds (get_or (flag w x k) s 0) j ≡ (holds (get_or w s 0) j || (b && holds k j))
unfolding join
flag-bit w x k s j l true e =
    let q = eqb-true s x e in
    rw (q) (ap (λ z. holds z j) (get_or-set_same w x (bit_or (get_or w x 0) k) 0 l) ∙ holds-join (get_or w x 0) k j)
flag-bit w x k s j l false e = ap (λ z. holds z j) (get_or-set_other w x s (bit_or (get_or w x 0) k) 0 (λ q. eqb-false s x e q)) ∙ sym (or-false (holds (get_or w s 0) j))

-- the bits of the three marks
bit-one : (holds 1 0 ≡ true) × (holds 1 1 ≡ false) × (holds 1 2 ≡ false)
unfolding holds
bit-one = (refl, refl, refl)

bit-two : (holds 2 1 ≡ true) × (holds 2 2 ≡ false)
unfolding holds
bit-two = (refl, refl)

bit-four : (holds 4 1 ≡ false) × (holds 4 2 ≡ true)
unfolding holds
bit-four = (refl, refl)

-- the flag of a set that takes the state in, and of one that does not
module _ (j : ℕ) (w : List ℕ) (N x k : ℕ) (m : length w ≡ states) (f : Flagged j w N) (l : x < states) where
  flag-in : holds k j ≡ true → Flagged j (flag w x k) (insert states N x)
  flag-in h s q = flag-bit w x k s j (omega (arith, m, l)) (eqb s x) refl ∙ rw (h, f s q, and-true (eqb s x)) (sym (holds-insert states N x s ∙ rw (lt-ltb x states l)))

  flag-out : holds k j ≡ false → Flagged j (flag w x k) N
  flag-out h s q = flag-bit w x k s j (omega (arith, m, l)) (eqb s x) refl ∙ rw (h, f s q, and-false (eqb s x)) (or-false (holds N s))

-- one count more
bump_at : (w : List ℕ) (x s : ℕ) → x < length w → (b : Bool) → eqb x s ≡ b → get_or (bump w x) s 0 ≡ cond b (suc (get_or w s 0)) (get_or w s 0)
bump_at w x s l true e = let q = eqb-true x s e in rw (← q) (get_or-set_same w x (suc (get_or w x 0)) 0 l)
bump_at w x s l false e = get_or-set_other w x s (suc (get_or w x 0)) 0 (λ q. eqb-false x s e (sym q))

-- at first nothing is marked
zero-at : (s : ℕ) → get_or (replicate {A = ℕ} states 0) s 0 ≡ 0
zero-at s = omega (arith, small-zeros 0 states s)

pub seen_none : (L : List ℕ) → Seen L 0 (replicate {A = ℕ} states 0) (replicate {A = ℕ} states 0) (replicate {A = ℕ} states 0)
unfolding gather spare_by
seen_none L =
    record {
      marked = rw (by-none L) none;
      starts = empty 1;
      reached = empty 2;
      stay = none;
      long = length-replicate {A = ℕ} states 0;
      counts = λ s h. zero-at s;
    }
  where
    none : Marked (replicate {A = ℕ} states 0) 0
    none = (length-replicate {A = ℕ} states 0, λ s h. rw (zero-at s) (sym (holds-empty s)))

    empty : (j : ℕ) → Flagged j (replicate {A = ℕ} states 0) 0
    empty j s h = rw (zero-at s) (holds-empty j ∙ sym (holds-empty s))

-- ---- one record more, by its kind

-- a record of one kind is of no other
module _ (L : List ℕ) (i : ℕ) where
  pub edge-no-start : is_edge L i ≡ true → is_start L i ≡ false
  edge-no-start e = rw (eqb-true (byte_of L i 0) 1 e)

  pub start-no-edge : is_start L i ≡ true → is_edge L i ≡ false
  start-no-edge e = rw (eqb-true (byte_of L i 0) 2 e)

-- no more are counted than there are
pub spare_low : (L : List ℕ) (s n : ℕ) → spare_by L s n ≤ n
unfolding spare_by
spare_low L s zero = omega arith
spare_low L s (suc n) = go (spare_at L s n) (spare_low L s n)
  where
    go : (b : Bool) → spare_by L s n ≤ n → cond b (suc (spare_by L s n)) (spare_by L s n) ≤ suc n
    go true h = omega (arith, h)
    go false h = omega (arith, h)

module _ (L : List ℕ) (i : ℕ) (w v p : List ℕ) (k : Seen L i w v p) where
  pub count_low : (s : ℕ) → s < states → i < 8192 → get_or p s 0 < 65535
  count_low s l h = omega (arith, k.counts s l, spare_low L s i, h)

  -- the counts where the record is spare for its target, and where for none
  count-more : target L i < states → ((s : ℕ) → spare_at L s i ≡ eqb (target L i) s) → (s : ℕ) → s < states → get_or (bump p (target L i)) s 0 ≡ spare_by L s (suc i)
  unfolding spare_by
  count-more l e s h = bump_at p (target L i) s (omega (arith, k.long, l)) (eqb (target L i) s) refl ∙ rw (e s, k.counts s h)

  count_same : ((s : ℕ) → spare_at L s i ≡ false) → (s : ℕ) → s < states → get_or p s 0 ≡ spare_by L s (suc i)
  unfolding spare_by
  count_same e s h = k.counts s h ∙ rw (e s)

  module _ (e : is_start L i ≡ true) (l : target L i < states) where
    start-stays : stays L i ≡ false
    unfolding stays
    start-stays = rw (start-no-edge L i e)

    start-spare : (s : ℕ) → spare_at L s i ≡ eqb (target L i) s
    start-spare s = rw (e) (and-true (eqb (target L i) s))

    pub seen_start : Seen L (suc i) (flag w (target L i) 2) v (bump p (target L i))
    unfolding gather
    seen_start =
        record {
          marked = rw (← add-one i, ← by-put L i, with-start states L i (named_by L i) e) (marked-flag w (named_by L i) (target L i) 2 1 k.marked l bit-two.0);
          starts = rw e (flag-in 1 w _ (target L i) 2 k.marked.0 k.starts l bit-two.0);
          reached = rw (start-no-edge L i e) (flag-out 2 w _ (target L i) 2 k.marked.0 k.reached l bit-two.1);
          stay = rw start-stays k.stay;
          long = length-set p (target L i) (suc (get_or p (target L i) 0)) ∙ k.long;
          counts = count-more l start-spare;
        }

  module _ (e : is_edge L i ≡ false) (d : is_start L i ≡ false) (a : is_accept L i ≡ true) (l : from L i < states) where
    accept-stays : stays L i ≡ false
    unfolding stays
    accept-stays = rw e

    pub seen-accept : Seen L (suc i) (flag w (from L i) 1) v p
    unfolding gather
    seen-accept =
        record {
          marked = rw (← add-one i, ← by-put L i, with-accept states L i (named_by L i) a) (marked-flag w (named_by L i) (from L i) 1 0 k.marked l bit-one.0);
          starts = rw d (flag-out 1 w _ (from L i) 1 k.marked.0 k.starts l bit-one.1);
          reached = rw e (flag-out 2 w _ (from L i) 1 k.marked.0 k.reached l bit-one.2);
          stay = rw accept-stays k.stay;
          long = k.long;
          counts = count_same (λ s. rw (e, d) (and-false (eqb (target L i) s)));
        }

  module _ (e : is_edge L i ≡ true) (f : from L i < states) (l : target L i < states) where
    -- it leads to another state
    module _ (n : from L i ≡ target L i → ⊥) where
      move-stays : stays L i ≡ false
      unfolding stays
      move-stays = rw (ne_eqb (from L i) (target L i) n) (and-false (is_edge L i && eqb (low L i) 0 && eqb (high L i) 255))

      move-spare : (s : ℕ) → spare_at L s i ≡ false
      move-spare s = go (eqb (target L i) s) refl (eqb (from L i) s) refl
        where
          go : (b : Bool) → eqb (target L i) s ≡ b → (c : Bool) → eqb (from L i) s ≡ c → (b && (is_start L i || is_edge L i && c)) ≡ false
          go false p c q = refl
          go true p false q = rw (e, edge-no-start L i e)
          go true p true q = absurd (n (eqb-true (from L i) s q ∙ sym (eqb-true (target L i) s p)))

      pub seen-move : Seen L (suc i) (flag (flag w (from L i) 1) (target L i) 4) v p
      unfolding gather
      seen-move =
          let u = flag w (from L i) 1 in
          let m : length u ≡ states = length-set w (from L i) (bit_or (get_or w (from L i) 0) 1) ∙ k.marked.0 in
          record {
            marked = rw (← add-one i, ← by-put L i, with-edge states L i (named_by L i) e) (marked-flag u (insert states (named_by L i) (from L i)) (target L i) 4 2 (marked-flag w (named_by L i) (from L i) 1 0 k.marked f bit-one.0) l bit-four.1);
            starts = rw (edge-no-start L i e) (flag-out 1 u _ (target L i) 4 m (flag-out 1 w _ (from L i) 1 k.marked.0 k.starts f bit-one.1) l bit-four.0);
            reached = rw e (flag-in 2 u _ (target L i) 4 m (flag-out 2 w _ (from L i) 1 k.marked.0 k.reached f bit-one.2) l bit-four.1);
            stay = rw move-stays k.stay;
            long = k.long;
            counts = count_same move-spare;
          }

    -- it leads to the same
    module _ (n : from L i ≡ target L i) where
      loop-stays : (b : Bool) → b ≡ (eqb (low L i) 0 && eqb (high L i) 255) → stays L i ≡ b
      unfolding stays
      loop-stays b h = rw (e, n, eq-eqb (target L i) (target L i) refl, h) (and-true (eqb (low L i) 0 && eqb (high L i) 255))

      loop-spare : (s : ℕ) → spare_at L s i ≡ eqb (target L i) s
      loop-spare s = rw (e, n, edge-no-start L i e) (and_same (eqb (target L i) s))
        where
          and_same : (b : Bool) → (b && b) ≡ b
          and_same true = refl
          and_same false = refl

      twice : (N x : ℕ) → Marked (flag w x 4) (insert states N x) → Marked (flag w x 4) (insert states (insert states N x) x)
      twice N x m = (m.0, λ s h. m.1 s h ∙ sym (holds-insert states (insert states N x) x s ∙ ap (λ z. z || (ltb x states && eqb s x)) (holds-insert states N x s) ∙ or_same (holds N s) (ltb x states && eqb s x) ∙ sym (holds-insert states N x s)))
        where
          or_same : (a b : Bool) → ((a || b) || b) ≡ (a || b)
          or_same true b = refl
          or_same false true = refl
          or_same false false = refl

      pub seen-loop : (b : Bool) → b ≡ (eqb (low L i) 0 && eqb (high L i) 255) → Seen L (suc i) (flag w (target L i) 4) (cond b (set v (target L i) 1) v) (bump p (target L i))
      unfolding gather
      seen-loop b h =
          record {
            marked = rw (← add-one i, ← by-put L i, with-edge states L i (named_by L i) e, n) (twice (named_by L i) (target L i) (marked-flag w (named_by L i) (target L i) 4 2 k.marked l bit-four.1));
            starts = rw (edge-no-start L i e) (flag-out 1 w _ (target L i) 4 k.marked.0 k.starts l bit-four.0);
            reached = rw e (flag-in 2 w _ (target L i) 4 k.marked.0 k.reached l bit-four.1);
            stay = rw (loop-stays b h) (marked-put b v _ (target L i) k.stay l);
            long = length-set p (target L i) (suc (get_or p (target L i) 0)) ∙ k.long;
            counts = count-more l loop-spare;
          }

-- ---- the states that are found by the marks

-- the bits of a start, and of a state that is reached, as the code tests them
pub start-bit : (x : ℕ) → holds x 1 ≡ eqb (x / 2 % 2) 1
unfolding holds
start-bit x = refl

pub reached-bit : (x : ℕ) → holds x 2 ≡ eqb (x / 4 % 2) 1
unfolding holds
reached-bit x = refl

-- the marks laid over one another have the bit exactly when some has it
pub none-bit : holds 0 1 ≡ false
none-bit = holds-empty 1

pub some-bit : (w : List ℕ) (all s : ℕ) → holds all 1 ≡ some s (λ q. holds (get_or w q 0) 1) → holds (bit_or all (get_or w s 0)) 1 ≡ some (s + 1) (λ q. holds (get_or w q 0) 1)
unfolding some join
some-bit w all s e = holds-join all (get_or w s 0) 1 ∙ rw (add-one s, e)

pub none_more : (p : ℕ → Bool) (s : ℕ) → some s p ≡ false → p s ≡ false → some (s + 1) p ≡ false
unfolding some
none_more p s h e = rw (add-one s, h, e)

some_same : (n : ℕ) (p q : ℕ → Bool) → ((i : ℕ) → i < n → p i ≡ q i) → some n p ≡ some n q
unfolding some
some_same zero p q h = refl
some_same (suc n) p q h = rw (some_same n p q (λ i l. h i (omega (arith, l))), h n (omega arith))

first-same : (n : ℕ) (p q : ℕ → Bool) → ((i : ℕ) → i < n → p i ≡ q i) → first n p ≡ first n q
unfolding first
first-same zero p q h = refl
first-same (suc n) p q h = rw (some_same n p q (λ i l. h i (omega (arith, l))), first-same n p q (λ i l. h i (omega (arith, l))), h n (omega arith))

module _ (L : List ℕ) (w v p : List ℕ) (k : Seen L (records L) w v p) where
  pub ever-as : ever w v ≡ ever_at L
  unfolding lowest start staying
  ever-as = first-same states _ _ (λ s h. rw (k.starts s h, k.stay.1 s h))

  pub once-as : once w ≡ once_at L
  unfolding lowest start reached
  once-as = first-same states _ _ (λ s h. rw (k.starts s h, k.reached s h))

  -- some record is a start exactly when some mark has its bit
  pub no-start-as : every (records L) (good_record L) ≡ true → no_start L ≡ not (some states (λ s. holds (get_or w s 0) 1))
  unfolding no_start
  no-start-as g = ap not (same_truth (some (records L) (is_start L)) (some states (λ s. holds (get_or w s 0) 1)) there back)
    where
      there : some (records L) (is_start L) ≡ true → some states (λ s. holds (get_or w s 0) 1) ≡ true
      there e =
          let x = some-elim (records L) (is_start L) e in
          let l = ((start-good L x.0).0 (sym (good-start L x.0 x.2) ∙ every-at (records L) (good_record L) g x.0 x.1)).2 in
          some-intro states (λ s. holds (get_or w s 0) 1) (target L x.0) l (k.starts (target L x.0) l ∙ (gather-exactly states (is_start L) (target L) (records L) (target L x.0)).1 (l, (x.0, x.1, x.2, refl)))

      back : some states (λ s. holds (get_or w s 0) 1) ≡ true → some (records L) (is_start L) ≡ true
      back e =
          let x = some-elim states (λ s. holds (get_or w s 0) 1) e in
          let y = (gather-exactly states (is_start L) (target L) (records L) x.0).0 (sym (k.starts x.0 x.1) ∙ x.2) in
          some-intro (records L) (is_start L) y.1.0 y.1.1 y.1.2

-- ---- the highest that is marked

-- a mark that is not 0, and one that is
pub mark-in : (w : List ℕ) (N s : ℕ) → Marked w N → s < states → (get_or w s 0 ≡ 0 → ⊥) → holds N s ≡ true
mark-in w N s m l n = sym (m.1 s l) ∙ ap not (ne_eqb (get_or w s 0) 0 n)

pub mark-out : (w : List ℕ) (N s : ℕ) → Marked w N → s < states → holds N s ≡ true → get_or w s 0 ≡ 0 → ⊥
mark-out w N s m l h z = true≢false (sym h ∙ sym (m.1 s l) ∙ ap not (eq-eqb (get_or w s 0) 0 z))

module _ (L : List ℕ) (e : list_refusal L ≡ 0) (w : List ℕ) (m : Marked w (named L)) where
  pub top-marked : get_or w (highest L) 0 ≡ 0 → ⊥
  top-marked = mark-out w (named L) (highest L) m (highest-state L e) ((highest-exactly L e (highest L)).0 refl).0

  pub ends-top : (r : ℕ) → Ends w states r → r ≡ suc (highest L)
  ends-top zero x = absurd (top-marked (x.none (highest L) (omega arith) (highest-state L e)))
  ends-top (suc t) x =
      let l : t < states = omega (arith, x.most) in
      let a : t ≤ highest L = ((highest-exactly L e (highest L)).0 refl).1 t (mark-in w (named L) t m l (x.last t refl)) in
      let b : highest L < suc t = below in
      omega (arith, a, b)
    where
      below : highest L < suc t
      below = elim (dec_lt (highest L) (suc t)) [ yes l ↦ l | no n ↦ absurd (top-marked (x.none (highest L) (omega (arith, lt_of_not-le (λ (l : suc (highest L) ≤ suc t). n l))) (highest-state L e))) ]

-- ---- how the code finds the highest mark

module _ (w : List ℕ) (m s : ℕ) where
  pub ends_at : s ≤ m → ((q : ℕ) → s ≤ q → q < m → get_or w q 0 ≡ 0) → (get_or w (s - 1) 0 ≡ 0 → ⊥) → Ends w m s
  ends_at l h n = record { most = l; none = h; last = λ t e. let q : s - 1 ≡ t = omega (arith, e) in rw (← q) n }

  pub ends-none : s ≡ 0 → ((q : ℕ) → s ≤ q → q < m → get_or w q 0 ≡ 0) → Ends w m s
  ends-none z h = record { most = omega (arith, z); none = h; last = λ t e. absurd (omega (arith, z, e)) }

  pub zero_more : zero < s → ((q : ℕ) → s ≤ q → q < m → get_or w q 0 ≡ 0) → get_or w (s - 1) 0 ≡ 0 → (q : ℕ) → s - 1 ≤ q → q < m → get_or w q 0 ≡ 0
  zero_more z h e q a b = elim (dec_lt q s) [ yes l ↦ let r : s - 1 ≡ q = omega (arith, l, a) in rw (← r) e | no n ↦ h q (omega (arith, lt_of_not-le (λ (l : suc q ≤ s). n l))) b ]

-- eight marks that are all 0
all-zeros : (ws : List ℕ) (j : ℕ) → num 8 ws ≡ 0 → get_or ws j 0 ≡ 0
unfolding num
all-zeros [] j e = refl
all-zeros (w ∷ ws) zero e = omega (arith, e)
all-zeros (w ∷ ws) (suc j) e = all-zeros ws j (omega (arith, e))

module _ (w : List ℕ) (m s : ℕ) (h : (q : ℕ) → s ≤ q → q < m → get_or w q 0 ≡ 0) where
  pub eight-more : 8 ≤ s → num 8 (take 8 (drop (s - 8) w)) ≡ 0 → (q : ℕ) → s - 8 ≤ q → q < m → get_or w q 0 ≡ 0
  eight-more l e q a b =
      elim (dec_lt q s) [
        | yes c ↦ let x : (s - 8) + (q - (s - 8)) ≡ q = omega (arith, l, a) in rw x at (sym (get_or-drop (s - 8) w (q - (s - 8)) 0) ∙ sym (get_or-take 8 (drop (s - 8) w) (q - (s - 8)) 0 (omega (arith, l, a, c))) ∙ all-zeros (take 8 (drop (s - 8) w)) (q - (s - 8)) e)
        | no n ↦ h q (omega (arith, lt_of_not-le (λ (l : suc q ≤ s). n l))) b
      ]

  pub ends_more : s ≤ m → (r : ℕ) → Ends w s r → Ends w m r
  ends_more l r x =
      record {
        most = omega (arith, l, x.most);
        none = λ q a b. elim (dec_lt q s) [ yes c ↦ x.none q a c | no n ↦ h q (omega (arith, lt_of_not-le (λ (l : suc q ≤ s). n l))) b ];
        last = x.last;
      }

-- ---- several bytes of a record as one number

pub num-four : (b : List ℕ) (at : ℕ) → at + 4 ≤ length b → num 8 (take 4 (drop at b)) ≡ get_or b at 0 + 256 * get_or b (at + 1) 0 + 65536 * get_or b (at + 2) 0 + 16777216 * get_or b (at + 3) 0
unfolding num
num-four b at h =
    let x : at + 1 ≡ suc at = omega arith in
    let y : at + 2 ≡ suc (suc at) = omega arith in
    let z : at + 3 ≡ suc (suc (suc at)) = omega arith in
    rw (x, y, z, drop-cons b at 0 (omega (arith, h)), drop-cons b (suc at) 0 (omega (arith, h)), drop-cons b (suc (suc at)) 0 (omega (arith, h)), drop-cons b (suc (suc (suc at))) 0 (omega (arith, h))) (omega arith)

pub tail-as : (L : List ℕ) (i : ℕ) → i < records L → num 8 (take 4 (drop (8 * i + 4) L)) ≡ from L i + 65536 * target L i
tail-as L i h =
    let x : 8 * i + 4 + 2 ≡ 8 * i + 6 = omega arith in
    let y : 8 * i + 4 + 3 ≡ 8 * i + 6 + 1 = omega arith in
    num-four L (8 * i + 4) (omega (arith, h)) ∙ rw (x, y) (omega arith)

-- a start is good exactly when bytes 0 to 3 are 2, bytes 4 and 5 are 0, and its state is one
module _ (L : List ℕ) (m : Small 8 L) (i : ℕ) (h : i < records L) (k : is_start L i ≡ true) where
  head_as : num 8 (take 4 (drop (8 * i) L)) ≡ get_or L (8 * i) 0 + 256 * byte_of L i 1 + 65536 * byte_of L i 2 + 16777216 * byte_of L i 3
  head_as = num-four L (8 * i) (omega (arith, h))

  there : good_record L i ≡ true → (eqb (num 8 (take 4 (drop (8 * i) L))) 2 && eqb (from L i) 0 && ltb (target L i) states) ≡ true
  there g =
      let t = (start-good L i).0 (sym (good-start L i k) ∙ g) in
      let z = t.1 in
      let q = (kind-start L i).0 k in
      rw (
        eq-eqb (num 8 (take 4 (drop (8 * i) L))) 2 (omega (arith, head_as, q, z 1 (omega arith) (omega arith), z 2 (omega arith) (omega arith), z 3 (omega arith) (omega arith))),
        eq-eqb (from L i) 0 (omega (arith, from_bytes L i, z 4 (omega arith) (omega arith), z 5 (omega arith) (omega arith))),
        lt-ltb (target L i) states t.2,
      )

  back : (eqb (num 8 (take 4 (drop (8 * i) L))) 2 && eqb (from L i) 0 && ltb (target L i) states) ≡ true → good_record L i ≡ true
  back g =
      let t = both (eqb (num 8 (take 4 (drop (8 * i) L))) 2 && eqb (from L i) 0) (ltb (target L i) states) g in
      let u = both (eqb (num 8 (take 4 (drop (8 * i) L))) 2) (eqb (from L i) 0) t.0 in
      let x = eqb-true (num 8 (take 4 (drop (8 * i) L))) 2 u.0 in
      let y = eqb-true (from L i) 0 u.1 in
      let f = from_bytes L i in
      let z = head_as in
      good-start L i k ∙ (start-good L i).1 (k, each (omega (arith, x, z)) (omega (arith, x, z)) (omega (arith, x, z)) (omega (arith, y, f)) (omega (arith, y, f)), ltb-true (target L i) states t.1)
    where
      each : byte_of L i 1 ≡ 0 → byte_of L i 2 ≡ 0 → byte_of L i 3 ≡ 0 → byte_of L i 4 ≡ 0 → byte_of L i 5 ≡ 0 → (q : ℕ) → 1 ≤ q → q ≤ 5 → byte_of L i q ≡ 0
      each b1 b2 b3 b4 b5 q l g =
          choose (below_suc q 5 (omega (arith, g)))
          (λ g5.
          choose (below_suc q 4 g5)
          (λ g4.
          choose (below_suc q 3 g4)
          (λ g3. choose (below_suc q 2 g3) (λ g2. choose (below_suc q 1 g2) (λ g1. absurd (omega (arith, l, g1))) (λ e. rw e b1)) (λ e. rw e b2))
          (λ e. rw e b3))
          (λ e. rw e b4))
          (λ e. rw e b5)

  pub start-as : good_record L i ≡ (eqb (num 8 (take 4 (drop (8 * i) L))) 2 && eqb (from L i) 0 && ltb (target L i) states)
  start-as = same_truth (good_record L i) (eqb (num 8 (take 4 (drop (8 * i) L))) 2 && eqb (from L i) 0 && ltb (target L i) states) there back

both_bytes : (x y : ℕ) → x < 256 → y < 256 → eqb (x + 256 * y) 65280 ≡ (eqb x 0 && eqb y 255)
both_bytes x y h g =
    same_truth (eqb (x + 256 * y) 65280) (eqb x 0 && eqb y 255)
    (λ e. let q = eqb-true (x + 256 * y) 65280 e in rw (eq-eqb x 0 (omega (arith, q, h, g)), eq-eqb y 255 (omega (arith, q, h, g))))
    (λ e. let t = both (eqb x 0) (eqb y 255) e in eq-eqb (x + 256 * y) 65280 (omega (arith, eqb-true x 0 t.0, eqb-true y 255 t.1)))

pub every_byte : (L : List ℕ) → Small 8 L → (i : ℕ) → i < records L → eqb (num 8 (take 2 (drop (8 * i + 1) L))) 65280 ≡ (eqb (low L i) 0 && eqb (high L i) 255)
every_byte L s i h =
    let e : (8 * i + 1) + 1 ≡ 8 * i + 2 = omega arith in
    rw (num-two L (8 * i + 1) (omega (arith, h)), e) (both_bytes (low L i) (high L i) (s (8 * i + 1)) (s (8 * i + 2)))

-- ---- a state or none

pub state_found : (p : ℕ → Bool) (s : ℕ) → s < states → some s p ≡ false → p s ≡ true → Some s ≡ some_state (first states p)
state_found p s l a b = rw (first-at states p s l a b, lt-ltb s states l) refl

pub state_none : (p : ℕ → Bool) (n : ℕ) → n ≡ states → some n p ≡ false → None ≡ some_state (first states p)
state_none p n e h = rw (first-none states p (rw e at h)) refl
