-- The new numbers of a record, by its kind, and when all of them are states. Assumes nothing.
use Prim.Native.Nat.{ℕ, zero, suc, ◌+◌, ◌%◌, ◌≤◌, ◌<◌}
use mathlib.Core.Path.{◌≡◌, refl, sym, ◌∙◌}
use mathlib.Core.Bool.{Bool, true, false, ◌&&◌, cond, not, true≢false}
use mathlib.Core.List.{List}
use mathlib.Core.Logic.{inl, inr}
use native.Mathlib.Omega.{arith}
use native.Mathlib.Nat.{lt_of_not-le}
use native.Mathlib.Decide.{dec_lt}
use lib.ListN.{length, get_or, set}
use lib.Seq.{get_or-set_same, get_or-set_other}
use lib.Dec.{ltb, leb}
use borrow.Author.Tests.{eqb-true, lt-ltb, le-ltb, ltb-true, ltb-false, leb-true, leb-false}
use Rattle.sets.specs.Set.{states}
use Rattle.rules.specs.Scan.{every}
use Rattle.rules.proofs.Scanning.{both, choose, below_suc, or-true, and-false, every-all, every-fails}
use Rattle.list.specs.List.{records, byte_of, is_edge, is_start, is_accept, from, target, good_record, list_refusal}
use Rattle.list.specs.Automaton.{names_from, names_target, named, highest}
use Rattle.list.proofs.Listed.{not_so, kinds, good-start, start-good, from_bytes}
use Rattle.list.proofs.Steps.{good-at, accept-states}
use Rattle.list.proofs.Named.{Names, named-exactly}
use Rattle.list.proofs.Highest.{names-low, highest-state}
use Rattle.list_join.specs.inner.Found.{loop_both, once_both, fits, Marked, ever, once, Ends, Outlines, Numbers, Fitted, Narrow}
use Rattle.std.specs.Prelude.{Option, Some, None, is_some}
use Rattle.list_join.specs.declared.Shared.{Shared}
use Rattle.list_join.specs.Join.{shared_as, own_of, same_of, is_shared, own_state, same_state, ever_at, once_at, name_by, naming, renamed, new_from, new_target, spare}
use Rattle.list_join.specs.declared.Naming.{Naming}
use Rattle.list_join.specs.declared.Outline.{Outline}
use Rattle.list_join.proofs.Renames.{Way, alone, shared, under, above, way, spare-is}
use Rattle.list_join.proofs.Marking.{mark-in, mark-out, ever-as, once-as}
use Rattle.list_join.proofs.Staying.{shares}

-- ---- the table of new numbers

pub low-mod : (x : ℕ) → x < 65536 → x % 65536 ≡ x
low-mod x h = omega arith

-- one number more
pub set_more : (f : ℕ → ℕ) (w : List ℕ) (t x : ℕ) → t < length w → ((s : ℕ) → s < t → get_or w s 0 ≡ f s) → x ≡ f t → (s : ℕ) → s < suc t → get_or (set w t x) s 0 ≡ f s
set_more f w t x l h e s g =
    choose (below_suc s t g)
    (λ k. get_or-set_other w t s x 0 (λ q. omega arith) ∙ h s k)
    (λ q. rw q (get_or-set_same w t x 0 l ∙ e))

-- ---- a good record

module _ (n : Naming) (B : List ℕ) (i : ℕ) (h : i < records B) (g : good_record B i ≡ true) where
  pub from-kept : is_start B i ≡ true → new_from n B i ≡ from B i
  from-kept k = let f : names_from B i ≡ false = rw (eqb-true (byte_of B i 0) 2 k) in rw f

  -- which is 0
  from_zero : is_start B i ≡ true → from B i ≡ 0
  from_zero k =
      let s = (start-good B i).0 (sym (good-start B i k) ∙ g) in
      from_bytes B i ∙ rw (s.1 4 (omega arith) (omega arith), s.1 5 (omega arith) (omega arith))

  pub target-kept : is_accept B i ≡ true → new_target n B i ≡ target B i
  target-kept k = let f : names_target B i ≡ false = rw (eqb-true (byte_of B i 0) 3 k) in rw f

  pub from-names : is_start B i ≡ false → Names B i (from B i)
  from-names z =
      choose (kinds B i g)
      (λ k. inl (k, inl refl))
      (λ s. choose s (λ k. absurd (true≢false (sym k ∙ z))) (λ k. inr (inr (k, refl))))

  pub target-names : is_accept B i ≡ false → Names B i (target B i)
  target-names z =
      choose (kinds B i g)
      (λ k. inl (k, inr refl))
      (λ s. choose s (λ k. inr (inl (k, refl))) (λ k. absurd (true≢false (sym k ∙ z))))

  pub from-new : is_start B i ≡ false → (new_from n B i ≡ renamed n (from B i)) × (from B i ≤ highest B)
  from-new z =
      choose (kinds B i g)
      (λ k. (rw k, names-low B i (from B i) h (inl (k, inl refl))))
      (λ s. choose s (λ k. absurd (true≢false (sym k ∙ z))) (λ k. (rw (k, or-true (is_edge B i)), names-low B i (from B i) h (inr (inr (k, refl))))))

  pub target-new : is_accept B i ≡ false → (new_target n B i ≡ renamed n (target B i)) × (target B i ≤ highest B)
  target-new z =
      choose (kinds B i g)
      (λ k. (rw k, names-low B i (target B i) h (inl (k, inr refl))))
      (λ s. choose s (λ k. (rw (k, or-true (is_edge B i)), names-low B i (target B i) h (inr (inl (k, refl))))) (λ k. absurd (true≢false (sym k ∙ z))))

  -- as the code looks them up
  pub from-looked : (new : List ℕ) → Numbers n (highest B) new → cond (not (is_start B i)) (get_or new (from B i) 0) (from B i) ≡ new_from n B i
  from-looked new k = go (is_start B i) refl
    where
      go : (b : Bool) → is_start B i ≡ b → cond (not b) (get_or new (from B i) 0) (from B i) ≡ new_from n B i
      go true e = sym (from-kept e)
      go false e = let m = from-new e in k.each (from B i) m.1 ∙ sym m.0

  pub target-looked : (new : List ℕ) → Numbers n (highest B) new → cond (not (is_accept B i)) (get_or new (target B i) 0) (target B i) ≡ new_target n B i
  target-looked new k = go (is_accept B i) refl
    where
      go : (b : Bool) → is_accept B i ≡ b → cond (not b) (get_or new (target B i) 0) (target B i) ≡ new_target n B i
      go true e = sym (target-kept e)
      go false e = let m = target-new e in k.each (target B i) m.1 ∙ sym m.0

-- ---- the highest state that is not shared decides

module _ (n : Naming) (top : ℕ) (v : Narrow n top) (w : List ℕ) (z : get_or w top 0 ≡ 0 → ⊥) where
  -- no state is shared: the highest
  pub fitted-alone : is_shared n ≡ false → Fitted n top w (ltb (n.next + top) states)
  fitted-alone a =
      record {
        room = λ e t l _. low (ltb-true (n.next + top) states e) t l (renamed n t) (way n t);
        over = λ e. (top, omega arith, z, λ q _. true≢false (sym q ∙ a), high (ltb-false (n.next + top) states e) (renamed n top) (way n top));
      }
    where
      low : n.next + top < states → (t : ℕ) → t ≤ top → (x : ℕ) → Way n t x → x < states
      low h t l x (alone e q) = omega (arith, q, h, l)
      low h t l x (shared e q y) = absurd (true≢false (sym e ∙ a))
      low h t l x (under e q y) = absurd (true≢false (sym e ∙ a))
      low h t l x (above e q y) = absurd (true≢false (sym e ∙ a))

      high : states ≤ n.next + top → (x : ℕ) → Way n top x → states ≤ x
      high h x (alone e q) = omega (arith, q, h)
      high h x (shared e q y) = absurd (true≢false (sym e ∙ a))
      high h x (under e q y) = absurd (true≢false (sym e ∙ a))
      high h x (above e q y) = absurd (true≢false (sym e ∙ a))

  module _ (a : is_shared n ≡ true) where
    -- the shared one is not the highest
    pub fitted-above : own_state n < top → Fitted n top w (leb (n.next + top) states)
    fitted-above o =
        record {
          room = λ e t l _. low (leb-true (n.next + top) states e) t l (renamed n t) (way n t);
          over = λ e. (top, omega arith, z, λ _ q. absurd (omega (arith, q, o)), high (leb-false (n.next + top) states e) (renamed n top) (way n top));
        }
      where
        low : n.next + top ≤ states → (t : ℕ) → t ≤ top → (x : ℕ) → Way n t x → x < states
        low h t l x (alone e q) = absurd (true≢false (sym a ∙ e))
        low h t l x (shared e q y) = omega (arith, y, v.same)
        low h t l x (under e q y) = omega (arith, y, q, o, h)
        low h t l x (above e q y) = omega (arith, y, h, l)

        high : states < n.next + top → (x : ℕ) → Way n top x → states ≤ x
        high h x (alone e q) = absurd (true≢false (sym a ∙ e))
        high h x (shared e q y) = absurd (omega (arith, q, o))
        high h x (under e q y) = absurd (omega (arith, q, o))
        high h x (above e q y) = omega (arith, y, h)

    -- it is: the highest below it, if there is one
    pub fitted-last : (own_state n < top → ⊥) → (r : ℕ) → Ends w (own_state n) r → Fitted n top w (leb (n.next + r) states)
    fitted-last o r x = record { room = λ e t l k. low (leb-true (n.next + r) states e) t l k (renamed n t) (way n t); over = λ e. found r refl (leb-false (n.next + r) states e) }
      where
        under-end : (t : ℕ) → t < own_state n → (get_or w t 0 ≡ 0 → ⊥) → t < r
        under-end t l k = elim (dec_lt t r) [ yes d ↦ d | no d ↦ absurd (k (x.none t (omega (arith, lt_of_not-le (λ (q : suc t ≤ r). d q))) l)) ]

        low : n.next + r ≤ states → (t : ℕ) → t ≤ top → (get_or w t 0 ≡ 0 → ⊥) → (y : ℕ) → Way n t y → y < states
        low h t l k y (alone e q) = absurd (true≢false (sym a ∙ e))
        low h t l k y (shared e q d) = omega (arith, d, v.same)
        low h t l k y (under e q d) = omega (arith, d, h, under-end t q k)
        low h t l k y (above e q d) = absurd (o (omega (arith, q, l)))

        high : (t : ℕ) → t < own_state n → states < n.next + suc t → (y : ℕ) → Way n t y → states ≤ y
        high t l h y (alone e q) = absurd (true≢false (sym a ∙ e))
        high t l h y (shared e q d) = absurd (omega (arith, q, l))
        high t l h y (under e q d) = omega (arith, d, h)
        high t l h y (above e q d) = absurd (omega (arith, q, l))

        found : (s : ℕ) → r ≡ s → states < n.next + r → (t : ℕ) × (t ≤ top) × (get_or w t 0 ≡ 0 → ⊥) × (is_shared n ≡ true → t ≡ own_state n → ⊥) × (states ≤ renamed n t)
        found zero e h = absurd (omega (arith, e, h, v.next))
        found (suc t) e h =
            let l : t < (own_state n) = omega (arith, e, x.most) in
            (t, omega (arith, l, v.own), x.last t e, λ _ q. absurd (omega (arith, q, l)), high t l (omega (arith, e, h)) (renamed n t) (way n t))

-- ---- so each record fits, or some record does not

module _ (n : Naming) (B : List ℕ) (b : list_refusal B ≡ 0) (w : List ℕ) (m : Marked w (named B)) (r : Bool) (f : Fitted n (highest B) w r) where
  -- a spare record names the shared state alone
  spare-names : (i t : ℕ) → Names B i t → spare n B i ≡ true → (is_shared n ≡ true) × (t ≡ (own_state n))
  spare-names i t k e =
      let s = spare-is n B i e in (
        s.0,
        choose k (λ d. choose d.1 (λ q. choose s.2 (λ x. absurd (edge-start d.0 x)) (λ x. sym q ∙ x.1)) (λ q. sym q ∙ s.1))
            (λ o. choose o (λ d. sym d.1 ∙ s.1) (λ d. choose s.2 (λ x. absurd (accept-start d.0 x)) (λ x. absurd (accept-edge d.0 x.0)))),
      )
    where
      edge-start : is_edge B i ≡ true → is_start B i ≡ true → ⊥
      edge-start x y = omega (arith, eqb-true (byte_of B i 0) 1 x, eqb-true (byte_of B i 0) 2 y)

      accept-start : is_accept B i ≡ true → is_start B i ≡ true → ⊥
      accept-start x y = omega (arith, eqb-true (byte_of B i 0) 3 x, eqb-true (byte_of B i 0) 2 y)

      accept-edge : is_accept B i ≡ true → is_edge B i ≡ true → ⊥
      accept-edge x y = omega (arith, eqb-true (byte_of B i 0) 3 x, eqb-true (byte_of B i 0) 1 y)

  module _ (e : r ≡ true) where
    room : (i t : ℕ) → i < records B → Names B i t → renamed n t < states
    room i t h k =
        let l = names-low B i t h k in
        let s : t < states = omega (arith, l, highest-state B b) in
        f.room e t l (mark-out w (named B) t m s ((named-exactly B t).1 (s, (i, h, k))))

    from-state : (i : ℕ) → i < records B → new_from n B i < states
    from-state i h = go (is_start B i) refl
      where
        go : (s : Bool) → is_start B i ≡ s → new_from n B i < states
        go true k = rw (from-kept n B i h (good-at B b i h) k, from_zero n B i h (good-at B b i h) k) (omega arith)
        go false k = rw (from-new n B i h (good-at B b i h) k).0 (room i (from B i) h (from-names n B i h (good-at B b i h) k))

    target-state : (i : ℕ) → i < records B → new_target n B i < states
    target-state i h = go (is_accept B i) refl
      where
        go : (s : Bool) → is_accept B i ≡ s → new_target n B i < states
        go true k = rw (target-kept n B i h (good-at B b i h) k) (omega (arith, (accept-states B b i h k).1))
        go false k = rw (target-new n B i h (good-at B b i h) k).0 (room i (target B i) h (target-names n B i h (good-at B b i h) k))

    roomy : every (records B) (fits n B) ≡ true
    unfolding fits
    roomy = every-all (records B) (fits n B) (λ i h. rw (lt-ltb (new_from n B i) states (from-state i h), lt-ltb (new_target n B i) states (target-state i h)) (or-true (spare n B i)))

  module _ (e : r ≡ false) where
    crowded-by : (i t : ℕ) → (is_shared n ≡ true → t ≡ own_state n → ⊥) → states ≤ renamed n t → Names B i t → fits n B i ≡ false
    unfolding fits
    crowded-by i t d q k =
        let s : spare n B i ≡ false = not_so (spare n B i) (λ x. let y = spare-names i t k x in d y.0 y.1) in
        let no-from : new_from n B i ≡ renamed n t → (ltb (new_from n B i) states && ltb (new_target n B i) states) ≡ false = λ x. rw (le-ltb (new_from n B i) states (omega (arith, x, q))) in
        let no_target : new_target n B i ≡ renamed n t → (ltb (new_from n B i) states && ltb (new_target n B i) states) ≡ false = λ x. rw (le-ltb (new_target n B i) states (omega (arith, x, q))) (and-false (ltb (new_from n B i) states)) in
        rw s
        (choose k
        (λ x. choose x.1 (λ y. no-from (rw (x.0, y))) (λ y. no_target (rw (x.0, y))))
        (λ o. choose o (λ x. no_target (rw (x.0, or-true (is_edge B i), x.1))) (λ x. no-from (rw (x.0, or-true (is_edge B i), x.1)))))

    crowded : every (records B) (fits n B) ≡ false
    crowded =
        let o = f.over e in
        let s : o.0 < states = omega (arith, o.1, highest-state B b) in
        let k = ((named-exactly B o.0).0 (mark-in w (named B) o.0 m s o.2)).1 in
        every-fails (records B) (fits n B) k.0 k.1 (crowded-by k.0 o.0 o.3 o.4 k.2)

  pub fitted-as : r ≡ every (records B) (fits n B)
  fitted-as = go r refl
    where
      go : (x : Bool) → r ≡ x → r ≡ every (records B) (fits n B)
      go true e = e ∙ sym (roomy e)
      go false e = e ∙ sym (crowded e)

-- ---- the naming of two lists

module _ (A B : List ℕ) (a : list_refusal A ≡ 0) (b : list_refusal B ≡ 0) where
  pub named-as : (x y : Outline) → Outlines A x → Outlines B y
      → name_by (suc x.top) (ever x.marks x.staying) (ever y.marks y.staying) (once x.marks) (once y.marks) ≡ naming A B
  named-as x y p q = rw (p.top a, ever-as A _ _ _ (p.seen a), once-as A _ _ _ (p.seen a), ever-as B _ _ _ (q.seen b), once-as B _ _ _ (q.seen b))

  own-low : own_state (naming A B) ≤ highest B
  own-low = go (is_shared (naming A B)) refl
    where
      none : (o : Option Shared) → is_some o ≡ false → own_of o ≡ 0
      none None e = refl
      none (Some s) e = absurd (true≢false e)

      go : (t : Bool) → is_shared (naming A B) ≡ t → own_state (naming A B) ≤ highest B
      go true e = (shares A B e).lowish-B
      go false e = let z = none (naming A B).shared e in omega arith

  same-state : same_state (naming A B) < states
  same-state = go (loop_both A B) refl (once_both A B) refl
    where
      go : (l : Bool) → loop_both A B ≡ l → (o : Bool) → once_both A B ≡ o
          → same_of (cond l (Some (shared_as (ever_at B) (ever_at A))) (cond o (Some (shared_as (once_at B) (once_at A))) None)) < states
      go true p o q = ltb-true (ever_at A) states (both (ltb (ever_at A) states) (ltb (ever_at B) states) p).0
      go false p true q = ltb-true (once_at A) states (both (ltb (once_at A) states) (ltb (once_at B) states) q).0
      go false p false q = omega arith

  pub narrow : Narrow (naming A B) (highest B)
  narrow =
      record {
        next = omega (arith, highest-state A a);
        same = same-state;
        low = λ e. omega (arith, (shares A B e).lowish);
        own = own-low;
        below = highest-state B b;
      }
