-- The search: a step that is found, one that is new, one too many; the turns of its loops; and at its end every set that can be reached is there. Assumes nothing.
use Prim.Native.Nat.{ℕ, suc, ◌+◌, ◌*◌, ◌^◌, ◌≤◌, ◌<◌}
use mathlib.Core.Path.{◌≡◌, refl, sym, ap, ◌∙◌}
use mathlib.Core.Bool.{Bool, true, false, cond, true≢false, false≢true}
use mathlib.Core.List.{List, [], ◌∷◌}
use native.Mathlib.Omega.{arith}
use native.Mathlib.Decide.{dec_lt}
use native.Mathlib.Nat.{lt_of_not-le}
use lib.ListN.{length, get_or}
use lib.Dec.{ltb, lit<}
use borrow.Author.Tests.{lt-ltb, le-ltb}
use Rattle.sets.specs.Set.{states, set_size}
use Rattle.list.specs.List.{list_refusal}
use Rattle.list.specs.Automaton.{start, step}
use Rattle.rules.proofs.Scanning.{below_suc, choose}
use Rattle.rules.proofs.Stacks.{stack-length, stack_at}
use Rattle.list.proofs.Steps.{start-lt}
use Rattle.table.specs.Table.{byte_values, part}
use Rattle.table_build.specs.Build.{Reach, Many, Reached}
use Rattle.table_classes.specs.Classes.{class_of, class_total}
use Rattle.table_build.specs.inner.Loops.{class_step, Among, Place, Inserted, Known, More, Stepped, Room, Added, Grown, Searched, sets_of}
use Rattle.table_build.proofs.Reached.{reach-start, reach-lt, closed_all, not-self}
use Rattle.table_classes.proofs.Classes.{lowest_step}
use Rattle.table_classes.proofs.Fronts.{put, put-length, put_same, put_other}
use Rattle.table_build.proofs.Ordered.{fresh, insert-rises, insert-there, insert-stays, insert-from}

module _ (top : ℕ) (L W P : List ℕ) (n : ℕ) (k : Known top L W P n) where
  pub sound : (i : ℕ) → i < n → Reach L (part P i)
  sound i h = let a = k.queued i h in rw (← a.2) (k.reached a.0 a.1)

  pub small : (i : ℕ) → i < n → part P i < 2 ^ states
  small i h = reach-lt L (part P i) (sound i h)

  pub more_same : More top L W P W P n n
  more_same = record { known = k; grew = omega arith; kept = λ i h. refl; stays = λ S a. a }

pub more-trans : (top : ℕ) (L W P W₁ P₁ W₂ P₂ : List ℕ) (n m r : ℕ) → More top L W P W₁ P₁ n m → More top L W₁ P₁ W₂ P₂ m r → More top L W P W₂ P₂ n r
more-trans top L W P W₁ P₁ W₂ P₂ n m r a b =
    record {
      known = b.known;
      grew = omega (arith, a.grew, b.grew);
      kept = λ i h. b.kept i (omega (arith, a.grew)) ∙ a.kept i h;
      stays = λ S x. b.stays S (a.stays S x);
    }

-- ---- one step: S is reached from the sets known, and has its place among them

module _ (top : ℕ) (L W P : List ℕ) (n at S : ℕ) (k : Known top L W P n) (s : Reach L S) (p : Place P n S at) (new : at < n → part P at ≡ S → ⊥) where
  not_there : (i : ℕ) → i < n → part P i ≡ S → ⊥
  not_there = fresh P P n at S k.rises (small top L W P n k) (reach-lt L S s) p new

  apart : (i j : ℕ) → i < n → j < n → part P i ≡ part P j → i ≡ j
  apart i j hi hj e =
      elim (dec_lt i j) [
        | yes l ↦ absurd (not-self (part P i) (part P j) e (k.rises i j l hj))
        | no g ↦ elim (dec_lt j i) [
          | yes l ↦ absurd (not-self (part P j) (part P i) (sym e) (k.rises j i l hi))
          | no f ↦ omega (arith, lt_of_not-le (λ (l : suc i ≤ j). g l), lt_of_not-le (λ (l : suc j ≤ i). f l))
        ]
      ]

  -- as many as there may be, and one more
  pub one_more : Many L (suc n)
  one_more = (
    f,
    λ i l. choose (below_suc i n l) (λ h. rw (low i h) (sound top L W P n k i h)) (λ e. rw (e, end) s),
    λ i j li lj e.
        choose (below_suc i n li)
        (λ a. choose (below_suc j n lj) (λ b. apart i j a b (sym (low i a) ∙ e ∙ low j b)) (λ b. absurd (not_there i a (sym (low i a) ∙ e ∙ ap f b ∙ end))))
        (λ a. choose (below_suc j n lj) (λ b. absurd (not_there j b (sym (low j b) ∙ sym e ∙ ap f a ∙ end))) (λ b. a ∙ sym b)),
  )
    where
      f : ℕ → ℕ
      f i = cond (ltb i n) (part P i) S

      low : (i : ℕ) → i < n → f i ≡ part P i
      low i h = rw (lt-ltb i n h)

      end : f n ≡ S
      end = rw (le-ltb n n (omega arith))

  -- put behind those found, and in at its place
  module _ (Q : List ℕ) (room : Room top W) (few : n < top) (q : Inserted P Q n at S) where
    at_n : set_size * n + set_size ≤ length W
    at_n = omega arith

    behind : part (put W n S) n ≡ S
    behind = put_same W n S at_n (reach-lt L S s)

    kept : (i : ℕ) → i < n → part (put W n S) i ≡ part W i
    kept i h = put_other W n S at_n i (λ e. omega arith)

    pub pushed : Known top L (put W n S) Q (suc n)
    pushed =
        record {
          few = few;
          begins = insert-stays P Q n at S k.rises (small top L W P n k) (reach-lt L S s) p new q (start L) k.begins;
          rises = insert-rises P Q n at S k.rises (small top L W P n k) (reach-lt L S s) p new q;
          queued = λ i h. choose (insert-from P Q n at S k.rises (small top L W P n k) (reach-lt L S s) p new q i h)
              (λ e. (n, omega arith, behind ∙ sym e))
              (λ a. let b = k.queued a.0 a.1 in (b.0, omega (arith, b.1), kept b.0 b.1 ∙ b.2 ∙ a.2));
          reached = λ i h. choose (below_suc i n h) (λ a. rw (kept i a) (k.reached i a)) (λ e. rw (e, behind) s);
        }

    pub push : Added top L W P (put W n S) Q n (suc n) S false
    push =
        record {
          long = put-length W n S at_n;
          long' = q.long;
          many = λ e. absurd (false≢true e);
          more = λ e. record { known = pushed; grew = omega arith; kept = kept; stays = insert-stays P Q n at S k.rises (small top L W P n k) (reach-lt L S s) p new q };
          there = λ e. insert-there P Q n at S k.rises (small top L W P n k) (reach-lt L S s) p new q;
        }

pub add-found : (top : ℕ) (L W P : List ℕ) (n S : ℕ) → Known top L W P n → Among P n S → Added top L W P W P n n S false
add-found top L W P n S k a =
    record { long = refl; long' = refl; many = λ e. absurd (false≢true e); more = λ e. more_same top L W P n k; there = λ e. a }

pub add-full : (top : ℕ) (L W P : List ℕ) (n S : ℕ) → Many L (suc n) → n ≡ top → Added top L W P W P n n S true
add-full top L W P n S m e =
    record { long = refl; long' = refl; many = λ q. rw e at m; more = λ q. absurd (true≢false q); there = λ q. absurd (true≢false q) }

-- ---- the loop over the steps of set i

pub record Growing (top : ℕ) (h : ℕ → ℕ → ℕ) (L W P W' P' : List ℕ) (n m i q : ℕ) : Type 0 where
  pub long : length W' ≡ length W
  pub long' : length P' ≡ length P
  pub more : More top L W P W' P' n m
  pub stepped : Stepped h P' m (part W i) q

module _ (top : ℕ) (h : ℕ → ℕ → ℕ) where
  pub grow-start : (L W P : List ℕ) (n i : ℕ) → Known top L W P n → Growing top h L W P W P n n i 0
  grow-start L W P n i k = record { long = refl; long' = refl; more = more_same top L W P n k; stepped = λ q l. absurd (omega arith) }

  module _ (L W P W₁ P₁ W₂ P₂ : List ℕ) (n m r i q : ℕ) (full : Bool) (g : Growing top h L W P W₁ P₁ n m i q) (a : Added top L W₁ P₁ W₂ P₂ m r (h (part W i) q) full) where
    pub grow-more : full ≡ false → Growing top h L W P W₂ P₂ n r i (q + 1)
    grow-more e =
        record {
          long = a.long ∙ g.long;
          long' = a.long' ∙ g.long';
          more = more-trans top L W P W₁ P₁ W₂ P₂ n m r g.more (a.more e);
          stepped = λ x l. choose (below_suc x q (omega arith)) (λ j. (a.more e).stays (h (part W i) x) (g.stepped x j)) (λ z. rw z (a.there e));
        }

    pub grow-full : full ≡ true → (k r' : ℕ) → Grown top h L W P W₂ P₂ n r' i k true
    grow-full e k r' =
        record { long = a.long ∙ g.long; long' = a.long' ∙ g.long'; many = λ z. a.many e; more = λ z. absurd (true≢false z); stepped = λ z. absurd (true≢false z) }

  pub grow-end : (L W P W' P' : List ℕ) (n m i q k : ℕ) → q ≡ k → Growing top h L W P W' P' n m i q → Grown top h L W P W' P' n m i k false
  grow-end L W P W' P' n m i q k e g =
      record { long = g.long; long' = g.long'; many = λ z. absurd (false≢true z); more = λ z. g.more; stepped = λ z. rw e at g.stepped }

-- ---- the loop over the sets found

pub record Going (top : ℕ) (h : ℕ → ℕ → ℕ) (L W P W' P' : List ℕ) (n k i : ℕ) : Type 0 where
  pub long : length W' ≡ length W
  pub long' : length P' ≡ length P
  pub known : Known top L W' P' n
  pub upto : i ≤ n
  pub closed : (j : ℕ) → j < i → Stepped h P' n (part W' j) k

module _ (top : ℕ) (h : ℕ → ℕ → ℕ) where
  pub go-start : (L W P : List ℕ) (k : ℕ) → 0 < top → Room top W → Room top P → Going top h L (put W 0 (start L)) (put P 0 (start L)) (put W 0 (start L)) (put P 0 (start L)) 1 k 0
  go-start L W P k some rw' rp =
      record {
        long = refl;
        long' = refl;
        known =
            record {
              few = some;
              begins = (0, lit< tt, begun P rp);
              rises = λ i j l g. absurd (omega arith);
              queued = λ i l. (0, lit< tt, begun W rw' ∙ sym (begun P rp) ∙ ap (part (put P 0 (start L))) (let z : 0 ≡ i = omega arith in z));
              reached = λ i l. rw (let z : i ≡ 0 = omega arith in z, begun W rw') (reach-start L);
            };
        upto = omega arith;
        closed = λ j l. absurd (omega arith);
      }
    where
      begun : (b : List ℕ) → Room top b → part (put b 0 (start L)) 0 ≡ start L
      begun b r = put_same b 0 (start L) (omega arith) (start-lt L)

  module _ (L W P W₁ P₁ W₂ P₂ : List ℕ) (n m k i : ℕ) (full : Bool) (g : Going top h L W P W₁ P₁ n k i) (l : i < n) (a : Grown top h L W₁ P₁ W₂ P₂ n m i k full) where
    pub go_on : full ≡ false → Going top h L W P W₂ P₂ m k (i + 1)
    go_on e =
        let t = a.more e in
        record {
          long = a.long ∙ g.long;
          long' = a.long' ∙ g.long';
          known = t.known;
          upto = omega (arith, t.grew);
          closed = λ j x. choose (below_suc j i (omega arith))
              (λ b q u. rw (t.kept j (omega arith)) (t.stays (h (part W₁ j) q) (g.closed j b q u)))
              (λ z q u. rw (z, t.kept i l) (a.stepped e q u));
        }

    pub go-full : full ≡ true → Searched top h L W P W₂ P₂ m k true
    go-full e =
        record { long = a.long ∙ g.long; long' = a.long' ∙ g.long'; many = λ z. a.many e; known = λ z. absurd (true≢false z); closed = λ z. absurd (true≢false z) }

  pub go-end : (L W P W' P' : List ℕ) (n k i : ℕ) → Going top h L W P W' P' n k i → n ≤ i → Searched top h L W P W' P' n k false
  go-end L W P W' P' n k i g l =
      record { long = g.long; long' = g.long'; many = λ z. absurd (false≢true z); known = λ z. g.known; closed = λ z j x. g.closed j (omega (arith, g.upto)) }

  -- told of lists that are as long
  pub searched-from : (L W P W₁ P₁ W' P' : List ℕ) (n k : ℕ) (full : Bool) → length W₁ ≡ length W → length P₁ ≡ length P → Searched top h L W₁ P₁ W' P' n k full → Searched top h L W P W' P' n k full
  searched-from L W P W₁ P₁ W' P' n k full e d s =
      record { long = s.long ∙ e; long' = s.long' ∙ d; many = s.many; known = s.known; closed = s.closed }

-- ---- the end: the sets in order are those that can be reached

pub sets-length : (P : List ℕ) (m : ℕ) → length (sets_of P m) ≡ m
sets-length P m = stack-length (λ i. part P i ∷ []) 1 (λ i. refl) m ∙ omega arith

pub sets-at : (P : List ℕ) (m i : ℕ) → i < m → get_or (sets_of P m) i 0 ≡ part P i
sets-at P m i h =
    let e : 1 * i + 0 ≡ i = omega arith in
    ap (λ (k : ℕ). get_or (sets_of P m) k 0) (sym e) ∙ stack_at (λ j. part P j ∷ []) 1 (λ j. refl) m i h 0 (lit< tt)

module _ (top : ℕ) (L W P : List ℕ) (n : ℕ) (known : Known top L W P n) (closed : (i c : ℕ) → i < n → c < byte_values → Among P n (step L (part W i) c)) where
  found_all : (S : ℕ) → Reach L S → Among P n S
  found_all =
      closed_all L (Among P n) known.begins
      (λ F c h a.
      let w = known.queued a.0 a.1 in
      let t = closed w.0 c w.1 h in
      (t.0, t.1, t.2 ∙ ap (λ (x : ℕ). step L x c) (w.2 ∙ a.2)))

  pub reached : Reached L (sets_of P n)
  reached =
      record {
        rises = λ i j l h.
            let hj : j < n = omega (arith, sets-length P n) in
            rw (sets-at P n i (omega arith), sets-at P n j hj) (known.rises i j l hj);
        sound = λ S r.
            let h : r.0 < n = omega (arith, r.1, sets-length P n) in
            rw (← (sym (sets-at P n r.0 h) ∙ r.2)) (sound top L W P n known r.0 h);
        all = λ S r.
            let a = found_all S r in
            (a.0, omega (arith, a.1, sets-length P n), sets-at P n a.0 a.1 ∙ a.2);
      }

-- the steps on the lowest bytes of all classes are the steps on all bytes
pub classes-closed : (L W P : List ℕ) (n : ℕ) → list_refusal L ≡ 0 → ((c : ℕ) → c < byte_values → class_of L c < class_total L) → ((i : ℕ) → i < n → Stepped (class_step L) P n (part W i) (class_total L))
    → (i c : ℕ) → i < n → c < byte_values → Among P n (step L (part W i) c)
classes-closed L W P n good class-lt closed i c l h =
    let t = closed i l (class_of L c) (class-lt c h) in
    (t.0, t.1, t.2 ∙ lowest_step L good (part W i) c h)
