-- The search by halving: what its loop keeps, and that on splits in order it finds the first split with the set. Assumes nothing.
use Prim.Native.Nat.{ℕ, zero, suc, ◌+◌, ◌/◌, ◌≤◌, ◌<◌}
use mathlib.Core.Path.{◌≡◌, refl, sym, ap, ◌∙◌}
use mathlib.Core.Bool.{Bool, true, false, true≢false}
use mathlib.Core.List.{List}
use native.Mathlib.Omega.{arith}
use native.Mathlib.Nat.{lt_of_not-le}
use native.Mathlib.Decide.{dec_lt}
use lib.Dec.{ltb, eqb}
use borrow.Author.Tests.{ltb-true, ltb-false, lt-ltb, le-ltb, ne_eqb, eqb-true}
use Rattle.std.proofs.Common.{Some, None}
use Rattle.std.specs.declared.cmp.Ordering.TheVariants.{Less, Equal}
use Rattle.numbers.specs.Number.{before, compare}
use Rattle.sets.specs.Set.{set_bytes}
use Rattle.numbers.proofs.Laws.{Small}
use Rattle.numbers.proofs.Order.{before-irrefl, before-trans}
use Rattle.rules.specs.Scan.{every}
use Rattle.rules.proofs.Scanning.{below_suc, choose, some-none, first-none}
use Rattle.table.specs.Table.{split_count, split_set, split_of, in_order}
use Rattle.table.proofs.Halving.{splits-rise, between-found}
use Rattle.index.specs.Stand.{halved, sought_of, found_of}

-- the set of the middle split is F; it comes before F
abbrev pub here : List ℕ → ℕ → ℕ → ℕ → Bool
here S F lo hi = eqb (split_set S ((lo + hi) / 2)) F

abbrev pub less : List ℕ → ℕ → ℕ → ℕ → Bool
less S F lo hi = before (set_bytes (split_set S ((lo + hi) / 2))) (set_bytes F)

-- ---- one halving

module _ (S : List ℕ) (F n lo hi : ℕ) where
  halved-here : lo < hi → here S F lo hi ≡ true → halved S F (suc n) lo hi ≡ (lo + hi) / 2
  unfolding halved
  halved-here l e = rw (lt-ltb lo hi l, e)

  halved-right : lo < hi → here S F lo hi ≡ false → less S F lo hi ≡ true → halved S F (suc n) lo hi ≡ halved S F n ((lo + hi) / 2 + 1) hi
  unfolding halved
  halved-right l e d = rw (lt-ltb lo hi l, e, d)

  halved-left : lo < hi → here S F lo hi ≡ false → less S F lo hi ≡ false → halved S F (suc n) lo hi ≡ halved S F n lo ((lo + hi) / 2)
  unfolding halved
  halved-left l e d = rw (lt-ltb lo hi l, e, d)

halved-end : (S : List ℕ) (F n lo hi : ℕ) → hi ≤ lo → halved S F n lo hi ≡ split_count S
unfolding halved
halved-end S F zero lo hi l = refl
halved-end S F (suc n) lo hi l = rw (le-ltb lo hi l)

-- ---- what a comparison says of it

module _ (S : List ℕ) (F lo hi : ℕ) where
  pub other-here : (compare (set_bytes (split_set S ((lo + hi) / 2))) (set_bytes F) ≡ Equal → ⊥) → here S F lo hi ≡ false
  unfolding compare
  other-here n = ne_eqb (split_set S ((lo + hi) / 2)) F (λ q. n (rw (q, before-irrefl (set_bytes F))))

  pub not-less : (compare (set_bytes (split_set S ((lo + hi) / 2))) (set_bytes F) ≡ Less → ⊥) → less S F lo hi ≡ false
  unfolding compare
  not-less n = go (less S F lo hi) refl
    where
      go : (b : Bool) → less S F lo hi ≡ b → less S F lo hi ≡ false
      go true e = absurd (n (rw e))
      go false e = e

-- ---- what the loop keeps: so many halvings as are left lead from lo and hi to where all of them lead

pub record Seeking (S : List ℕ) (F lo hi : ℕ) : Type 0 where
  pub order : lo ≤ hi
  pub most : hi ≤ split_count S
  pub left : ℕ
  pub enough : hi ≤ lo + left
  pub rest : sought_of S F ≡ halved S F left lo hi

pub seeking-start : (S : List ℕ) (F n : ℕ) → n ≡ split_count S → Seeking S F 0 n
unfolding sought_of
seeking-start S F n e = record { order = omega arith; most = omega arith; left = split_count S; enough = omega arith; rest = ap (halved S F (split_count S) 0) (sym e) }

module _ (S : List ℕ) (F lo hi : ℕ) (k : Seeking S F lo hi) where
  module _ (l : lo < hi) where
    -- a halving is left
    one : (n : ℕ) × (hi ≤ lo + suc n) × (sought_of S F ≡ halved S F (suc n) lo hi)
    one = go k.left k.enough k.rest
      where
        go : (m : ℕ) → hi ≤ lo + m → sought_of S F ≡ halved S F m lo hi → (n : ℕ) × (hi ≤ lo + suc n) × (sought_of S F ≡ halved S F (suc n) lo hi)
        go zero h r = absurd (omega arith)
        go (suc n) h r = (n, h, r)

    pub seeking-here : here S F lo hi ≡ true → (lo + hi) / 2 ≡ sought_of S F
    seeking-here e = sym (one.2 ∙ halved-here S F one.0 lo hi l e)

    module _ (e : here S F lo hi ≡ false) where
      pub seeking-right : less S F lo hi ≡ true → Seeking S F ((lo + hi) / 2 + 1) hi
      seeking-right d =
          record { order = omega arith; most = k.most; left = one.0; enough = omega (arith, one.1); rest = one.2 ∙ halved-right S F one.0 lo hi l e d }

      pub seeking-left : less S F lo hi ≡ false → Seeking S F lo ((lo + hi) / 2)
      seeking-left d =
          record { order = omega arith; most = omega (arith, k.most); left = one.0; enough = omega (arith, one.1); rest = one.2 ∙ halved-left S F one.0 lo hi l e d }

  -- at its end there is none
  pub seeking-none : hi ≤ lo → split_count S ≡ sought_of S F
  seeking-none e = sym (k.rest ∙ halved-end S F k.left lo hi e)

-- what is found, where there is one
pub found-some : (S : List ℕ) (F i : ℕ) → i < split_count S → i ≡ sought_of S F → Some i ≡ found_of S F
found-some S F i l e = rw (← e, lt-ltb i (split_count S) l)

pub found-none : (S : List ℕ) (F : ℕ) → split_count S ≡ sought_of S F → None ≡ found_of S F
found-none S F e = rw (← e, le-ltb (split_count S) (split_count S) (omega arith))

-- ---- on splits in order

-- every split below lo comes before F, and none from hi on has the set F
record Left (S : List ℕ) (F lo hi : ℕ) : Type 0 where
  most : hi ≤ split_count S
  below : (i : ℕ) → i < lo → before (set_bytes (split_set S i)) (set_bytes F) ≡ true
  gone : (i : ℕ) → hi ≤ i → i < split_count S → eqb (split_set S i) F ≡ false

module _ (S : List ℕ) (s : Small 8 S) (o : every (split_count S) (in_order S) ≡ true) (F : ℕ) where
  left-right : (lo hi : ℕ) → Left S F lo hi → lo < hi → less S F lo hi ≡ true → Left S F ((lo + hi) / 2 + 1) hi
  left-right lo hi b l q =
      record { most = b.most; below = λ i k. choose (below_suc i ((lo + hi) / 2) (omega arith)) (λ j. earlier i j) (λ e. rw e q); gone = b.gone }
    where
      earlier : (i : ℕ) → i < (lo + hi) / 2 → before (set_bytes (split_set S i)) (set_bytes F) ≡ true
      earlier i j =
          before-trans (set_bytes (split_set S i)) (set_bytes (split_set S ((lo + hi) / 2))) (set_bytes F) (splits-rise S s o i ((lo + hi) / 2) j (omega (arith, b.most))) q

  left-left : (lo hi : ℕ) → Left S F lo hi → lo < hi → here S F lo hi ≡ false → less S F lo hi ≡ false → Left S F lo ((lo + hi) / 2)
  left-left lo hi b l e d =
      record {
        most = omega (arith, b.most);
        below = b.below;
        gone = λ i k h. choose (below_suc ((lo + hi) / 2) i (omega arith)) (λ j. later i j h) (λ j. rw (← j) e);
      }
    where
      later : (i : ℕ) → (lo + hi) / 2 < i → i < split_count S → eqb (split_set S i) F ≡ false
      later i j h =
          ne_eqb (split_set S i) F
          (λ q. true≢false (sym (splits-rise S s o ((lo + hi) / 2) i j h) ∙ ap (λ (x : ℕ). before (set_bytes (split_set S ((lo + hi) / 2))) (set_bytes x)) q ∙ d))

  -- where none is left between them, no split has the set
  left-none : (n lo hi : ℕ) → Left S F lo hi → hi ≤ lo → halved S F n lo hi ≡ split_of S F
  unfolding split_of
  left-none n lo hi b e =
      halved-end S F n lo hi e ∙ sym (first-none (split_count S) (λ i. eqb (split_set S i) F) (some-none (split_count S) (λ i. eqb (split_set S i) F) any))
    where
      any : (i : ℕ) → i < split_count S → eqb (split_set S i) F ≡ false
      any i h =
          elim (dec_lt i lo) [
            | yes l ↦ ne_eqb (split_set S i) F (λ q. true≢false (sym (b.below i l) ∙ ap (λ (x : ℕ). before (set_bytes x) (set_bytes F)) q ∙ before-irrefl (set_bytes F)))
            | no g ↦ b.gone i (omega (arith, lt_of_not-le (λ (l : suc i ≤ lo). g l))) h
          ]

  halved-first : (n lo hi : ℕ) → Left S F lo hi → hi ≤ lo + n → halved S F n lo hi ≡ split_of S F
  halved-first zero lo hi b h = left-none 0 lo hi b (omega arith)
  halved-first (suc n) lo hi b h = go (λ x y p q. halved-first n x y p q) (ltb lo hi) refl (here S F lo hi) refl (less S F lo hi) refl
    where
      go : ((x y : ℕ) → Left S F x y → y ≤ x + n → halved S F n x y ≡ split_of S F)
          → (t : Bool) → ltb lo hi ≡ t → (u : Bool) → here S F lo hi ≡ u → (v : Bool) → less S F lo hi ≡ v → halved S F (suc n) lo hi ≡ split_of S F
      go ih false e u p v q = left-none (suc n) lo hi b (ltb-false lo hi e)
      go ih true e true p v q =
          let l = ltb-true lo hi e in
          halved-here S F n lo hi l p ∙ between-found S s o F ((lo + hi) / 2) (omega (arith, b.most)) (eqb-true (split_set S ((lo + hi) / 2)) F p)
      go ih true e false p true q =
          let l = ltb-true lo hi e in
          halved-right S F n lo hi l p q ∙ ih ((lo + hi) / 2 + 1) hi (left-right lo hi b l q) (omega arith)
      go ih true e false p false q =
          let l = ltb-true lo hi e in
          halved-left S F n lo hi l p q ∙ ih lo ((lo + hi) / 2) (left-left lo hi b l p q) (omega arith)

  -- so the search finds the first
  pub sought-first : sought_of S F ≡ split_of S F
  unfolding sought_of
  sought-first =
      halved-first (split_count S) 0 (split_count S) (record { most = omega arith; below = λ i h. absurd (omega arith); gone = λ i l h. absurd (omega arith) }) (omega arith)
