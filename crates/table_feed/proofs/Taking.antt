-- Taking a split's slots one by one: what a loop that joins their rows keeps, and what it leaves. Assumes nothing.
use Prim.Native.Nat.{ℕ, suc, ◌+◌, ◌≤◌, ◌<◌}
use mathlib.Core.Path.{◌≡◌, refl, sym, ap, ◌∙◌}
use mathlib.Core.Bool.{Bool, true, false, cond, not}
use mathlib.Core.List.{List, [], ◌∷◌}
use native.Mathlib.Omega.{arith}
use lib.ListN.{length, drop}
use borrow.Author.Tests.{lt-ltb, le-ltb}
use Rattle.sets.specs.Set.{join, set_of}
use Rattle.sets.proofs.Sets.{join-empty, join-comm, join-assoc}
use Rattle.table.specs.Table.{unused_slot, slots, taken_slots, all_below, joined}
use Rattle.table.proofs.Entries.{slots_length}
use Rattle.table.proofs.Joined.{taken-stop, taken_more}
use Rattle.std.specs.declared.option.Option.TheVariants.{Some, None}
use Rattle.table_feed.specs.declared.Taken.{Taken}
use Rattle.table_feed.specs.inner.Taken.{TakesSlots}

-- the first j slots are taken: `all` is the union of their rows, and the rest is still to come
pub record Taking (f : ℕ → ℕ) (n : ℕ) (ss : List ℕ) (all j : ℕ) : Type 0 where
  pub union : joined f (taken_slots ss) ≡ join all (joined f (taken_slots (drop j ss)))
  pub count : length (taken_slots ss) ≡ j + length (taken_slots (drop j ss))
  pub named : all_below n (taken_slots ss) ≡ all_below n (taken_slots (drop j ss))

pub taking-start : (f : ℕ → ℕ) (n : ℕ) (ss : List ℕ) (all : ℕ) → all ≡ 0 → Taking f n ss all 0
taking-start f n ss all e = record { union = rw e (sym (join-empty _)); count = omega arith; named = refl }

module _ (f : ℕ → ℕ) (n : ℕ) (ss : List ℕ) where
  module _ (t : Taken) (j : ℕ) (g : Taking f n ss (set_of t.next) j) (r : t.rows ≡ j) where
    all-taken : taken_slots (drop j ss) ≡ [] → TakesSlots n f (taken_slots ss) (Some t)
    unfolding joined all_below
    all-taken e =
        let u : joined f (taken_slots (drop j ss)) ≡ 0 = rw e in
        let c : length (taken_slots (drop j ss)) ≡ 0 = rw e in
        let b : all_below n (taken_slots ss) ≡ true = g.named ∙ rw e in
        record {
          halts = sym (ap not b);
          takes = (omega (arith, g.count), sym (g.union ∙ ap (join (set_of t.next)) u ∙ join-comm (set_of t.next) 0 ∙ join-empty (set_of t.next)));
        }

    -- the loop is past the last slot
    pub taking-end : drop j ss ≡ [] → TakesSlots n f (taken_slots ss) (Some t)
    unfolding taken_slots
    taking-end e = all-taken (ap taken_slots e)

    -- an unused slot ends the taking
    pub taking-stop : (x : ℕ) → drop j ss ≡ x ∷ drop (j + 1) ss → unused_slot x ≡ true → TakesSlots n f (taken_slots ss) (Some t)
    taking-stop x d e = all-taken (ap taken_slots d ∙ taken-stop x (drop (j + 1) ss) e)

  -- a slot that names no part halts
  pub taking-bad : (all j x : ℕ) → Taking f n ss all j → drop j ss ≡ x ∷ drop (j + 1) ss → unused_slot x ≡ false → n ≤ x → TakesSlots n f (taken_slots ss) None
  unfolding all_below
  taking-bad all j x g d e l =
      let b : all_below n (taken_slots ss) ≡ false = g.named ∙ rw (d, taken_more x (drop (j + 1) ss) e, le-ltb x n l) in
      record { halts = sym (ap not b); takes = tt }

-- any other is taken
pub taking-more : (f : ℕ → ℕ) (n : ℕ) (ss : List ℕ) (all j x : ℕ) → Taking f n ss all j → drop j ss ≡ x ∷ drop (j + 1) ss
    → unused_slot x ≡ false → x < n → (all' : ℕ) → all' ≡ join all (f x) → Taking f n ss all' (j + 1)
unfolding all_below joined
taking-more f n ss all j x t d e h all' q =
    let u : taken_slots (drop j ss) ≡ x ∷ taken_slots (drop (j + 1) ss) = ap taken_slots d ∙ taken_more x (drop (j + 1) ss) e in
    let c : length (taken_slots (drop j ss)) ≡ suc (length (taken_slots (drop (j + 1) ss))) = ap (λ (ys : List ℕ). length ys) u in
    record {
      union = t.union ∙ ap (λ (v : List ℕ). join all (joined f v)) u ∙ sym (join-assoc all (f x) (joined f (taken_slots (drop (j + 1) ss)))) ∙ ap (λ (v : ℕ). join v (joined f (taken_slots (drop (j + 1) ss)))) (sym q);
      count = omega (arith, t.count, c);
      named = t.named ∙ rw (u, lt-ltb x n h);
    }

-- ---- no more are taken than there are

taken-few : (xs : List ℕ) → length (taken_slots xs) ≤ length xs
unfolding taken_slots
taken-few [] = omega arith
taken-few (x ∷ xs) = go (unused_slot x) (taken-few xs)
  where
    go : (u : Bool) → length (taken_slots xs) ≤ length xs → length (cond u [] (x ∷ taken_slots xs)) ≤ suc (length xs)
    go true ih = omega arith
    go false ih = omega arith

pub taken-most : (S : List ℕ) (i : ℕ) → length (taken_slots (slots S i)) ≤ 4
taken-most S i = omega (arith, taken-few (slots S i), slots_length S i)
