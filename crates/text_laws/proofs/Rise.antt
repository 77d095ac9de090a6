-- No two records of an expression are the same, so that they rise strictly once they are sorted.
use Prim.Native.Nat.{ℕ, zero, suc, ◌+◌, ◌*◌, ◌≤◌, ◌<◌}
use mathlib.Core.Path.{◌≡◌, refl, sym, ap, subst, ◌∙◌}
use mathlib.Core.Bool.{Bool, true, false, cond}
use mathlib.Core.List.{List, [], ◌∷◌, ◌++◌}
use mathlib.Core.Logic.{◌⊎◌, inl, inr}
use native.Mathlib.Omega.{arith}
use lib.ListN.{length, get_or}
use Rattle.numbers.specs.Number.{before}
use Rattle.sets.specs.Set.{states}
use Rattle.text.specs.Exp.{Exp, size, edge, accepts}
use Rattle.text.specs.Records.{runs, edge_record, edge_records, start_record, accept_record, each, edges_from, edges_to, accepts_of, all_records, insert, sort_into}
use Rattle.text_records.proofs.Rising.{Mem, Above, Rises, New, AllNew, sort-rises}
use Rattle.text_laws.specs.Language.{RecordsRise}
use Rattle.text_laws.proofs.Found.{mem-either, mem-each, long-all, flat-records, flat-take}
use Rattle.text_laws.proofs.Ran.{Apart, runs-apart}
use Rattle.text_laws.proofs.Members.{mem-one, one-long, edges-has}
use Rattle.text_laws.proofs.Automaton.{sorted, the_list, two_bytes, sorted-long}

-- no two are the same
abbrev Distinct : List (List ℕ) → Type 0
Distinct [] = Unit {0}
Distinct (r ∷ rs) = (Mem r rs → ⊥) × Distinct rs

new-all : (r : List ℕ) (rs : List (List ℕ)) → (Mem r rs → ⊥) → New r rs
new-all r [] f = tt
new-all r (x ∷ rs) f = (λ e. f (inl e), new-all r rs (λ m. f (inr m)))

distinct-new : (rs : List (List ℕ)) → Distinct rs → AllNew rs []
distinct-new [] d = tt
distinct-new (r ∷ rs) (f, d) = (tt, new-all r rs f, distinct-new rs d)

-- joined lists that share nothing
distinct-both : (a b : List (List ℕ)) → Distinct a → Distinct b → ((q : List ℕ) → Mem q a → Mem q b → ⊥) → Distinct (a ++ b)
distinct-both [] b d f n = f
distinct-both (x ∷ a) b (g, d) f n = (λ m. out (mem-either x a b m), distinct-both a b d f (λ q m k. n q (inr m) k))
  where
    out : Mem x a ⊎ Mem x b → ⊥
    out (inl m) = g m
    out (inr m) = n x (inl refl) m

distinct-each : (f : ℕ → List (List ℕ)) (n : ℕ) → ((i : ℕ) → i < n → Distinct (f i)) → ((q : List ℕ) (i j : ℕ) → i < n → j < n → Mem q (f i) → Mem q (f j) → i ≡ j) → Distinct (each f n)
unfolding each
distinct-each f zero d s = tt
distinct-each f (suc n) d s =
    distinct-both (each f n) (f n) (distinct-each f n (λ i h. d i (omega arith)) (λ q i j h k. s q i j (omega arith) (omega arith))) (d n (omega arith))
    (λ q m k. let (i, h, z) = mem-each q f n m in let e = s q i n (omega arith) (omega arith) z k in omega arith)

-- ---- the bytes of a record say what it is

module _ (free : Bool) (e : Exp) (g : ℕ) (few : size e < states) where
  -- the state that an edge leads to
  to-of : (q : List ℕ) (t : ℕ) → t ≤ size e → Mem q (edges_to free e t) → get_or q 6 0 + 256 * get_or q 7 0 ≡ t
  unfolding edges_to edges_from
  to-of q t l m =
      let (s, h, k) = mem-each q (edges_from free e t) (suc (size e)) m in
      let (p, u, v) = edges-has s t (runs (edge free e s t) 256 0 0) q k in
      ap (λ z. get_or z 6 0 + 256 * get_or z 7 0) v ∙ two_bytes t (omega arith)

  from-of : (q : List ℕ) (t s : ℕ) → s ≤ size e → Mem q (edges_from free e t s) → get_or q 4 0 + 256 * get_or q 5 0 ≡ s
  unfolding edges_from
  from-of q t s l m =
      let (p, u, v) = edges-has s t (runs (edge free e s t) 256 0 0) q m in
      ap (λ z. get_or z 4 0 + 256 * get_or z 5 0) v ∙ two_bytes s (omega arith)

  one-run : (s t : ℕ) (ps : List (ℕ × ℕ)) → Apart (edge free e s t) ps → Distinct (edge_records s t ps)
  unfolding edge_records
  one-run s t [] a = tt
  one-run s t (p ∷ ps) (f, a) = (out, one-run s t ps a)
    where
      out : Mem (edge_record p.0 p.1 s t) (edge_records s t ps) → ⊥
      out m =
          let (q, u, v) = edges-has s t ps (edge_record p.0 p.1 s t) m in
          let w : p.0 ≡ q.0 = ap (λ z. get_or z 1 0) v in
          let y = f q u in omega (arith, w, y)

  edges-distinct : Distinct (each (edges_to free e) (suc (size e)))
  unfolding edges_to edges_from
  edges-distinct =
      distinct-each (edges_to free e) (suc (size e)) to (λ q i j h k m n. sym (to-of q i (omega arith) m) ∙ to-of q j (omega arith) n)
    where
      to : (t : ℕ) → t < suc (size e) → Distinct (edges_to free e t)
      to t h =
          distinct-each (edges_from free e t) (suc (size e)) (λ s k. one-run s t (runs (edge free e s t) 256 0 0) (runs-apart (edge free e s t) 256 0 0 (omega arith)))
          (λ q i j k l m n. sym (from-of q t i (omega arith) m) ∙ from-of q t j (omega arith) n)

  accept-of : (q : List ℕ) (s : ℕ) → s ≤ size e → Mem q (accepts_of e g s) → q ≡ accept_record s g
  unfolding accepts_of
  accept-of q s l m = go (accepts e s) m
    where
      go : (b : Bool) → Mem q (cond b (accept_record s g ∷ []) []) → q ≡ accept_record s g
      go false x' = elim x' [ ]
      go true (inr x3) = elim x3 [ ]
      go true (inl z) = z

  accepts-distinct : Distinct (each (accepts_of e g) (suc (size e)))
  unfolding accepts_of
  accepts-distinct = distinct-each (accepts_of e g) (suc (size e)) (λ s h. one s (accepts e s) refl) same
    where
      one : (s : ℕ) (b : Bool) → accepts e s ≡ b → Distinct (accepts_of e g s)
      one s true q = subst (λ b. Distinct (cond b (accept_record s g ∷ []) [])) (sym q) (λ z. z, tt)
      one s false q = subst (λ b. Distinct (cond b (accept_record s g ∷ []) [])) (sym q) tt

      state : (q : List ℕ) (s : ℕ) → s < suc (size e) → Mem q (accepts_of e g s) → get_or q 4 0 + 256 * get_or q 5 0 ≡ s
      state q s h m = ap (λ z. get_or z 4 0 + 256 * get_or z 5 0) (accept-of q s (omega arith) m) ∙ two_bytes s (omega arith)

      same : (q : List ℕ) (i j : ℕ) → i < suc (size e) → j < suc (size e) → Mem q (accepts_of e g i) → Mem q (accepts_of e g j) → i ≡ j
      same q i j h k m n = sym (state q i h m) ∙ state q j k n

  -- an edge's byte 0 is 1, a start's 2, an accept's 3
  edge-kind : (q : List ℕ) → Mem q (each (edges_to free e) (suc (size e))) → get_or q 0 0 ≡ 1
  unfolding edges_to edges_from
  edge-kind q m =
      let (t, l, u) = mem-each q (edges_to free e) (suc (size e)) m in
      let (s, h, k) = mem-each q (edges_from free e t) (suc (size e)) u in
      let (p, v, w) = edges-has s t (runs (edge free e s t) 256 0 0) q k in
      ap (λ z. get_or z 0 0) w

  accept-kind : (q : List ℕ) → Mem q (each (accepts_of e g) (suc (size e))) → get_or q 0 0 ≡ 3
  accept-kind q m =
      let (s, l, u) = mem-each q (accepts_of e g) (suc (size e)) m in
      ap (λ z. get_or z 0 0) (accept-of q s (omega arith) u)

  all-distinct : Distinct (all_records free e g)
  unfolding all_records
  all-distinct =
      distinct-both (each (edges_to free e) (suc (size e))) (start_record ∷ each (accepts_of e g) (suc (size e))) edges-distinct
      (λ m. (let k : 2 ≡ 3 = accept-kind start_record m in omega (arith, k)), accepts-distinct) apart
    where
      apart : (q : List ℕ) → Mem q (each (edges_to free e) (suc (size e))) → (q ≡ start_record) ⊎ Mem q (each (accepts_of e g) (suc (size e))) → ⊥
      apart q m (inl z) = let k = edge-kind q m in let l : get_or q 0 0 ≡ 2 = ap (λ y. get_or y 0 0) z in omega (arith, k, l)
      apart q m (inr z) = let k = edge-kind q m in let l = accept-kind q z in omega (arith, k, l)

  sorted_rises : Rises (sorted free e g)
  sorted_rises =
      sort-rises 8 (all_records free e g) [] (long-all 8 (all_records free e g) (λ q m. one-long free e g q (mem-one free e g q m))) tt
      (distinct-new (all_records free e g) all-distinct) tt

-- each comes before all that follow it
above_at : (x : List ℕ) (rs : List (List ℕ)) (j : ℕ) → Above x rs → j < length rs → before x (get_or rs j []) ≡ true
above_at x [] j a h = absurd (omega arith)
above_at x (r ∷ rs) zero (b, a) h = b
above_at x (r ∷ rs) (suc j) (b, a) h = above_at x rs j a (omega arith)

rises-at : (rs : List (List ℕ)) (i j : ℕ) → Rises rs → i < j → j < length rs → before (get_or rs i []) (get_or rs j []) ≡ true
rises-at [] i j k h l = absurd (omega arith)
rises-at (r ∷ rs) i zero k h l = absurd (omega arith)
rises-at (r ∷ rs) zero (suc j) (a, k) h l = above_at r rs j a (omega arith)
rises-at (r ∷ rs) (suc i) (suc j) (a, k) h l = rises-at rs i j k (omega arith) (omega arith)

-- the records of the list rise
pub list-rises : (free : Bool) (e : Exp) (g : ℕ) → size e < states → RecordsRise (the_list free e g)
list-rises free e g few i j h l =
    let k : j < length (sorted free e g) = subst (λ z. j < z) (flat-records (sorted free e g) (sorted-long free e g)) l in
    rw (flat-take (sorted free e g) i (sorted-long free e g) (omega arith), flat-take (sorted free e g) j (sorted-long free e g) k)
    (rises-at (sorted free e g) i j (sorted_rises free e g few) h k)

-- sorting keeps how many they are
insert-length : (r : List ℕ) (xs : List (List ℕ)) → length (insert r xs) ≡ suc (length xs)
unfolding insert
insert-length r [] = refl
insert-length r (x ∷ xs) = go (before r x) (insert-length r xs)
  where
    go : (b : Bool) → length (insert r xs) ≡ suc (length xs) → length (cond b (r ∷ (x ∷ xs)) (x ∷ insert r xs)) ≡ suc (suc (length xs))
    go true e = refl
    go false e = ap suc e

pub sort-length : (rs acc : List (List ℕ)) → length (sort_into acc rs) ≡ length acc + length rs
unfolding sort_into
sort-length [] acc = omega arith
sort-length (r ∷ rs) acc = let a = sort-length rs (insert r acc) in let b = insert-length r acc in omega (arith, a, b)
