-- The highest state that a list names, in a reader's words: of a checked list it is named, it is a state, and no state that is named is higher. Assumes nothing.
use Prim.Native.Nat.{ℕ, zero, suc, ◌+◌, ◌*◌, ◌≤◌, ◌<◌, max}
use mathlib.Core.Path.{◌≡◌, refl, sym}
use mathlib.Core.Bool.{Bool, true, false, cond}
use mathlib.Core.List.{List}
use mathlib.Core.Logic.{◌⊎◌, inl, inr, ◌↔◌}
use native.Mathlib.Omega.{arith}
use native.Mathlib.Nat.{lt_of_not-le}
use native.Mathlib.Decide.{dec_lt}
use lib.Dec.{lit<}
use borrow.Author.Tests.{not-false}
use Rattle.sets.specs.Set.{states, holds}
use Rattle.numbers.proofs.Laws.{Small}
use Rattle.rules.specs.Scan.{some}
use Rattle.rules.proofs.Scanning.{below_suc, choose, or-true, or_cases, some-elim}
use Rattle.rules.proofs.Rules.{passes}
use Rattle.list.specs.List.{records, word, is_edge, is_start, is_accept, from, target, bad_length, bad_record, no_start, list_refusal}
use Rattle.list.specs.Automaton.{names_from, names_target, named, highest_by, highest}
use Rattle.list.proofs.Steps.{edge-states, start-states, accept-states}
use Rattle.list.proofs.Named.{Names, named-exactly}

-- two bytes make a number below 65536
pub word_lt : (L : List ℕ) → Small 8 L → (at : ℕ) → word L at < 65536
word_lt L h at = omega (arith, h at, h (at + 1))

-- and so is the highest
pub highest-lt : (L : List ℕ) → Small 8 L → (n : ℕ) → highest_by L n < 65536
unfolding highest_by
highest-lt L h zero = lit< tt
highest-lt L h (suc i) = go (names_from L i) (names_target L i) (highest-lt L h i)
  where
    two : (at : ℕ) → word L at < 65536
    two at = word_lt L h at

    go : (p q : Bool) → highest_by L i < 65536 → max (max (highest_by L i) (cond p (from L i) 0)) (cond q (target L i) 0) < 65536
    go true true l = omega (arith, two (8 * i + 4), two (8 * i + 6))
    go true false l = omega (arith, two (8 * i + 4))
    go false true l = omega (arith, two (8 * i + 6))
    go false false l = omega arith

-- each state that a record names is at most the highest
highest-more : (L : List ℕ) (i n s : ℕ) → i < n → ((names_from L i ≡ true) × (s ≡ from L i)) ⊎ ((names_target L i ≡ true) × (s ≡ target L i)) → s ≤ highest_by L n
unfolding highest_by
highest-more L i zero s h w = absurd (omega arith)
highest-more L i (suc n) s h w =
    choose (below_suc i n h)
    (λ l. omega (arith, highest-more L i n s l w))
    (λ e. choose (rw e at w) (λ p. rw (p.0, p.1) (omega arith)) (λ p. rw (p.0, p.1) (omega arith)))

pub names-low : (L : List ℕ) (i s : ℕ) → i < records L → Names L i s → s ≤ highest L
names-low L i s h w =
    choose w
    (λ e. choose e.1 (λ q. highest-more L i (records L) s h (inl (rw e.0, sym q))) (λ q. highest-more L i (records L) s h (inr (rw e.0, sym q))))
    (λ o. choose o (λ e. highest-more L i (records L) s h (inr (rw e.0 (or-true (is_edge L i)), sym e.1))) (λ e. highest-more L i (records L) s h (inl (rw e.0 (or-true (is_edge L i)), sym e.1))))

-- it is 0, or named
pub highest-is : (L : List ℕ) (n : ℕ) → (highest_by L n ≡ 0) ⊎ ((i : ℕ) × (i < n) × Names L i (highest_by L n))
unfolding highest_by
highest-is L zero = inl refl
highest-is L (suc n) = go (names_from L n) refl (names_target L n) refl (highest-is L n)
  where
    top : ℕ
    top = highest_by L n

    left : names_from L n ≡ true → Names L n (from L n)
    left p = choose (or_cases (is_edge L n) (is_accept L n) p) (λ k. inl (k, inl refl)) (λ k. inr (inr (k, refl)))

    right : names_target L n ≡ true → Names L n (target L n)
    right p = choose (or_cases (is_edge L n) (is_start L n) p) (λ k. inl (k, inr refl)) (λ k. inr (inl (k, refl)))

    Found : ℕ → Type 0
    Found m = (m ≡ 0) ⊎ ((i : ℕ) × (i < suc n) × Names L i m)

    -- the higher of two is one of them
    upper : (a b : ℕ) → Found a → Found b → Found (max a b)
    upper a b p q = elim (dec_lt a b) [ yes l ↦ rw (is b (omega arith)) q | no g ↦ rw (is a (omega (arith, lt_of_not-le (λ (l : suc a ≤ b). g l)))) p ]
      where
        is : (x : ℕ) → max a b ≡ x → max a b ≡ x
        is x e = e

    go : (p : Bool) → names_from L n ≡ p → (q : Bool) → names_target L n ≡ q → (highest_by L n ≡ 0) ⊎ ((i : ℕ) × (i < n) × Names L i (highest_by L n))
        → Found (max (max (highest_by L n) (cond p (from L n) 0)) (cond q (target L n) 0))
    go p a q b ih =
        upper (max (highest_by L n) (cond p (from L n) 0)) (cond q (target L n) 0)
        (upper (highest_by L n) (cond p (from L n) 0) (choose ih (λ e. inl e) (λ w. inr (w.0, omega (arith, w.1), w.2))) (froms p a))
        (targets q b)
      where
        froms : (p : Bool) → names_from L n ≡ p → Found (cond p (from L n) 0)
        froms true a = inr (n, omega arith, left a)
        froms false a = inl refl

        targets : (q : Bool) → names_target L n ≡ q → Found (cond q (target L n) 0)
        targets true b = inr (n, omega arith, right b)
        targets false b = inl refl

-- ---- of a list that the check passes

module _ (L : List ℕ) (e : list_refusal L ≡ 0) where
  -- what a record names is a state
  names-state : (i s : ℕ) → i < records L → Names L i s → s < states
  names-state i s h w =
      choose w
      (λ k. let g = edge-states L e i h k.0 in choose k.1 (λ q. rw (← q) g.0) (λ q. rw (← q) g.1))
      (λ o. choose o (λ k. rw (← k.1) (start-states L e i h k.0)) (λ k. rw (← k.1) (accept-states L e i h k.0).0))

  -- an edge leads to a state, from one that is at most the highest
  pub edge-low : (i : ℕ) → i < records L → is_edge L i ≡ true → (target L i < states) × (from L i ≤ highest L)
  edge-low i h k = ((edge-states L e i h k).1, names-low L i (from L i) h (inl (k, inl refl)))

  -- there is a start record
  starts : (i : ℕ) × (i < records L) × (is_start L i ≡ true)
  unfolding no_start
  starts =
      let r1 = passes 0 (bad_length L) _ e in
      let r2 = passes 1 (bad_record L) _ r1.1 in
      let r3 = passes 2 (no_start L) _ r2.1 in
      some-elim (records L) (is_start L) (not-false (some (records L) (is_start L)) r3.0)

  names-highest : (i : ℕ) × (i < records L) × Names L i (highest L)
  names-highest = choose (highest-is L (records L)) (λ z. zero-named z) (λ w. w)
    where
      -- where it is 0, the start record names it
      zero-named : highest L ≡ 0 → (i : ℕ) × (i < records L) × Names L i (highest L)
      zero-named z =
          let s = starts in
          let l = names-low L s.0 (target L s.0) s.1 (inr (inl (s.2, refl))) in
          (s.0, s.1, inr (inl (s.2, omega (arith, l, z))))

  -- the highest is a state
  pub highest-state : highest L < states
  highest-state = let w = names-highest in names-state w.0 (highest L) w.1 w.2

  -- s is the highest exactly when it is named and no state that is named is higher
  pub highest-exactly : (s : ℕ) → highest L ≡ s ↔ ((holds (named L) s ≡ true) × ((t : ℕ) → holds (named L) t ≡ true → t ≤ s))
  highest-exactly s = (λ q. rw (← q) (is-named, most), λ w. omega (arith, w.1 (highest L) is-named, most s w.0))
    where
      is-named : holds (named L) (highest L) ≡ true
      is-named = let w = names-highest in (named-exactly L (highest L)).1 (highest-state, w)

      most : (t : ℕ) → holds (named L) t ≡ true → t ≤ highest L
      most t h = let w = (named-exactly L t).0 h in names-low L w.1.0 t w.1.1 w.1.2
