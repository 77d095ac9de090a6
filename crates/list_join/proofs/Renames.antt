-- Renaming: no two states get one number, and none gets a number of the first list but the shared one. Assumes nothing.
use Prim.Native.Nat.{ℕ, ◌+◌, ◌-◌, ◌≤◌, ◌<◌}
use mathlib.Core.Path.{◌≡◌, refl, sym, ap, ◌∙◌}
use mathlib.Core.Bool.{Bool, true, false, ◌&&◌, ◌||◌, cond, true≢false}
use mathlib.Core.List.{List}
use mathlib.Core.Logic.{◌⊎◌, inl, inr}
use native.Mathlib.Omega.{arith}
use lib.Dec.{ltb, eqb}
use borrow.Author.Tests.{eqb-true, eqb-false, eq-eqb, ne_eqb, ltb-true, ltb-false, lt-ltb, le-ltb}
use Rattle.rules.proofs.Scanning.{both, choose, or_cases}
use Rattle.list.specs.List.{is_edge, is_start, from, target}
use Rattle.std.specs.Prelude.{Option, Some, None, is_some}
use Rattle.list_join.specs.declared.Shared.{Shared}
use Rattle.list_join.specs.Join.{two, shared_as, name_by, own_of, same_of, is_shared, own_state, same_state, renamed, spare}
use Rattle.list_join.specs.declared.Naming.{Naming}

-- the four ways in which a state is renamed
pub data Way (n : Naming) (t r : ℕ) : Type 0 where
  alone : is_shared n ≡ false → r ≡ n.next + t → Way n t r
  shared : is_shared n ≡ true → t ≡ own_state n → r ≡ same_state n → Way n t r
  under : is_shared n ≡ true → t < own_state n → r ≡ n.next + t → Way n t r
  above : is_shared n ≡ true → own_state n < t → r + 1 ≡ n.next + t → Way n t r

pub way : (n : Naming) (t : ℕ) → Way n t (renamed n t)
unfolding renamed
way n t = go (is_shared n) refl (eqb t (own_state n)) refl (ltb t (own_state n)) refl
  where
    go : (a : Bool) → is_shared n ≡ a → (b : Bool) → eqb t (own_state n) ≡ b → (d : Bool) → ltb t (own_state n) ≡ d
        → Way n t (cond a (cond b (same_state n) (cond d (n.next + t) (n.next + t - 1))) (n.next + t))
    go false e b f d g = alone e refl
    go true e true f d g = shared e (eqb-true _ _ f) refl
    go true e false f true g = under e (ltb-true _ _ g) refl
    go true e false f false g = let x = ltb-false t (own_state n) g in let y = eqb-false t (own_state n) f in let z : own_state n < t = lt_of x y in above e z (omega arith)
      where
        lt_of : own_state n ≤ t → (t ≡ own_state n → ⊥) → own_state n < t
        lt_of x y = omega (arith, x, y)

-- where the shared state is one of the first list's, whose states are below `next`
module _ (n : Naming) (h : is_shared n ≡ true → same_state n < n.next) where
  -- a number below `next` is the shared state's
  pub apart : (t : ℕ) → renamed n t < n.next → (is_shared n ≡ true) × (t ≡ (own_state n)) × (renamed n t ≡ (same_state n))
  apart t l = go (renamed n t) (way n t) l
    where
      go : (r : ℕ) → Way n t r → r < n.next → (is_shared n ≡ true) × (t ≡ (own_state n)) × (r ≡ (same_state n))
      go r (alone e q) l = absurd (omega (arith, q, l))
      go r (shared e q z) l = (e, q, z)
      go r (under e q z) l = absurd (omega (arith, z, l))
      go r (above e q z) l = absurd (omega (arith, q, z, l))

  pub one_name : (s t : ℕ) → renamed n s ≡ renamed n t → s ≡ t
  one_name s t q = go (renamed n s) (way n s) (renamed n t) (way n t) q
    where
      go : (r : ℕ) → Way n s r → (v : ℕ) → Way n t v → r ≡ v → s ≡ t
      go r (alone e a) v (alone f b) q = omega (arith, a, b, q)
      go r (alone e a) v (shared f b d) q = absurd (true≢false (sym f ∙ e))
      go r (alone e a) v (under f b d) q = absurd (true≢false (sym f ∙ e))
      go r (alone e a) v (above f b d) q = absurd (true≢false (sym f ∙ e))
      go r (shared e a x) v (alone f b) q = absurd (true≢false (sym e ∙ f))
      go r (shared e a x) v (shared f b d) q = a ∙ sym b
      go r (shared e a x) v (under f b d) q = absurd (omega (arith, x, d, q, h e))
      go r (shared e a x) v (above f b d) q = absurd (omega (arith, x, d, b, q, h e))
      go r (under e a x) v (alone f b) q = absurd (true≢false (sym e ∙ f))
      go r (under e a x) v (shared f b d) q = absurd (omega (arith, x, d, q, h e))
      go r (under e a x) v (under f b d) q = omega (arith, x, d, q)
      go r (under e a x) v (above f b d) q = absurd (omega (arith, a, x, b, d, q))
      go r (above e a x) v (alone f b) q = absurd (true≢false (sym e ∙ f))
      go r (above e a x) v (shared f b d) q = absurd (omega (arith, x, d, a, q, h e))
      go r (above e a x) v (under f b d) q = absurd (omega (arith, a, x, b, d, q))
      go r (above e a x) v (above f b d) q = omega (arith, x, d, q)

-- a bound
pub renamed-most : (n : Naming) (t : ℕ) → (is_shared n ≡ true → same_state n < n.next) → renamed n t ≤ n.next + t
renamed-most n t h = go (renamed n t) (way n t)
  where
    go : (r : ℕ) → Way n t r → r ≤ n.next + t
    go r (alone e a) = omega (arith, a)
    go r (shared e a x) = omega (arith, x, h e)
    go r (under e a x) = omega (arith, x)
    go r (above e a x) = omega (arith, x)

-- the shared state gets the first list's number
pub renamed-own : (n : Naming) → is_shared n ≡ true → renamed n (own_state n) ≡ (same_state n)
unfolding renamed
renamed-own n e = rw (e, eq-eqb (own_state n) (own_state n) refl)

-- a spare record: a start record of the shared state, or an edge from it to itself
pub spare-is : (n : Naming) (B : List ℕ) (i : ℕ) → spare n B i ≡ true → (is_shared n ≡ true) × (target B i ≡ (own_state n)) × ((is_start B i ≡ true) ⊎ ((is_edge B i ≡ true) × (from B i ≡ (own_state n))))
unfolding spare
spare-is n B i e =
    let y = both ((is_shared n) && eqb (target B i) (own_state n)) (is_start B i || is_edge B i && eqb (from B i) (own_state n)) e in
    let z = both (is_shared n) (eqb (target B i) (own_state n)) y.0 in
    (z.0, eqb-true _ _ z.1, choose (or_cases (is_start B i) (is_edge B i && eqb (from B i) (own_state n)) y.1) (λ s. inl s) (λ s. let k = both (is_edge B i) (eqb (from B i) (own_state n)) s in inr (k.0, eqb-true _ _ k.1)))

-- ---- as the code renames

-- what is shared, as the code has it
pub shared-some : (n : Naming) (s : Shared) → n.shared ≡ Some s → (is_shared n ≡ true) × (own_state n ≡ s.own) × (same_state n ≡ s.same)
shared-some n s e = (ap is_some e, ap own_of e, ap same_of e)

module _ (n : Naming) (t : ℕ) where
  pub to-same : (s : Shared) → n.shared ≡ Some s → t ≡ s.own → s.same ≡ renamed n t
  unfolding renamed
  to-same s e h = let k = shared-some n s e in rw (k.0, k.1, k.2, eq-eqb t s.own h)

  pub to-above : (s : Shared) → n.shared ≡ Some s → s.own < t → n.next + t - 1 ≡ renamed n t
  unfolding renamed
  to-above s e h = let k = shared-some n s e in rw (k.0, k.1, ne_eqb t s.own (λ q. omega (arith, q, h)), le-ltb t s.own (omega arith))

  pub to-under : (s u : Shared) → n.shared ≡ Some s → (t ≡ s.own → ⊥) → n.shared ≡ Some u → t ≤ u.own → n.next + t ≡ renamed n t
  unfolding renamed
  to-under s u e h f l =
      let k = shared-some n s e in
      let q : s.own ≡ u.own = sym k.1 ∙ (shared-some n u f).1 in
      rw (k.0, k.1, ne_eqb t s.own h, lt-ltb t s.own (lower s.own (omega (arith, l, q)) h))
    where
      lower : (o : ℕ) → t ≤ o → (t ≡ o → ⊥) → t < o
      lower o a b = omega (arith, a, b)

  pub to-next : n.shared ≡ None → n.next + t ≡ renamed n t
  unfolding renamed
  to-next e = let k : is_shared n ≡ false = ap is_some e in rw k

-- ---- as the code finds what is shared

pub found-pair : (b : Bool) (x : Shared) (y r : Option Shared) → r ≡ cond b (Some x) None → is_some r ≡ true → r ≡ cond b (Some x) y
found-pair true x y r e h = e
found-pair false x y r e h = absurd (true≢false (sym h ∙ ap is_some e))

pub lost-pair : (b : Bool) (x : Shared) (y r : Option Shared) → r ≡ cond b (Some x) None → is_some r ≡ false → cond b (Some x) y ≡ y
lost-pair true x y r e h = absurd (true≢false (sym (ap is_some e) ∙ h))
lost-pair false x y r e h = refl

abbrev pub named : ℕ → Option Shared → Naming
named next r = record { next = next; shared = r }

module _ (next i j k l : ℕ) (r : Option Shared) (e : r ≡ cond (two i j) (Some (shared_as j i)) None) where
  pub named-found : is_some r ≡ true → named next r ≡ name_by next i j k l
  named-found h = ap (named next) (found-pair (two i j) (shared_as j i) (cond (two k l) (Some (shared_as l k)) None) r e h)

  pub named-lost : is_some r ≡ false → (s : Option Shared) → s ≡ cond (two k l) (Some (shared_as l k)) None → named next s ≡ name_by next i j k l
  named-lost h s f = ap (named next) (f ∙ sym (lost-pair (two i j) (shared_as j i) (cond (two k l) (Some (shared_as l k)) None) r e h))
