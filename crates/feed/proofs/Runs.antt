-- The laws of a feed over the bytes of a piece, for every engine on every kind of configuration. Assumes nothing.
use Prim.Native.Nat.{ℕ, zero, suc, ◌+◌, ◌*◌, ◌-◌, ◌≤◌, ◌<◌}
use mathlib.Core.Path.{◌≡◌, refl, ap}
use mathlib.Core.Bool.{Bool, true, false, ◌||◌, cond}
use mathlib.Core.List.{List, [], ◌∷◌, ◌++◌, append_assoc}
use mathlib.Core.Logic.{◌⊎◌, inl, inr, ◌↔◌}
use native.Mathlib.Omega.{arith}
use native.Mathlib.Nat.{mul-suc}
use lib.ListN.{length, get_or, take, drop, length-append}
use lib.Seq.{get_or-drop}
use lib.Dec.{ltb, lit<}
use borrow.Author.Tests.{ltb-true, ltb-false, le-ltb}
use Rattle.sets.specs.Set.{signatures, holds}
use Rattle.sets.proofs.Members.{members-most, members-at, members-all, members-rise}
use Rattle.feed.specs.Engine.{Engine, due, run, costs, pairs_at, told, amount, consumed}
use Rattle.feed.specs.Calls.{Bytes}

-- ---- lists of bytes

pub bytes_take : (n : ℕ) (xs : List ℕ) → Bytes xs → Bytes (take n xs)
bytes_take zero xs h i = lit< tt
bytes_take (suc n) [] h i = h i
bytes_take (suc n) (x ∷ xs) h zero = h 0
bytes_take (suc n) (x ∷ xs) h (suc i) = bytes_take n xs (λ j. h (suc j)) i

pub bytes_drop : (n : ℕ) (xs : List ℕ) → Bytes xs → Bytes (drop n xs)
bytes_drop n xs h i = rw (get_or-drop n xs i 0) (h (n + i))

pub bytes-append : (xs ys : List ℕ) → Bytes xs → Bytes ys → Bytes (xs ++ ys)
bytes-append [] ys h g i = g i
bytes-append (x ∷ xs) ys h g zero = h 0
bytes-append (x ∷ xs) ys h g (suc i) = bytes-append xs ys (λ j. h (suc j)) g i

-- a front is a front by its length, which is no more than the list's
pub take-front : (n : ℕ) (xs : List ℕ) → take (length (take n xs)) xs ≡ take n xs
take-front zero xs = refl
take-front (suc n) [] = refl
take-front (suc n) (x ∷ xs) = ap {B = List ℕ} (λ (ys : List ℕ). x ∷ ys) (take-front n xs)

pub length-take-most : (n : ℕ) (xs : List ℕ) → length (take n xs) ≤ length xs
length-take-most zero xs = omega arith
length-take-most (suc n) [] = omega arith
length-take-most (suc n) (x ∷ xs) = omega (arith, length-take-most n xs)

-- two words for each signature
pub pairs_at-length : (k : ℕ) (gs : List ℕ) → length (pairs_at k gs) ≡ 2 * length gs
unfolding pairs_at
pairs_at-length k [] = refl
pairs_at-length k (g ∷ gs) = let e = pairs_at-length k gs in omega arith

module _ {C : Type 0} (E : Engine C) where
  -- ---- the signatures due at one byte

  -- at most as many as there are signatures
  pub due-most : (x : C) (c : ℕ) → length (due E x c) ≤ signatures
  unfolding due
  due-most x c = members-most signatures (E.alerts x c)

  -- they rise strictly, so each is there once
  pub due-rises : (x : C) (c i j : ℕ) → i < j → j < length (due E x c) → get_or (due E x c) i 0 < get_or (due E x c) j 0
  unfolding due
  due-rises x c = members-rise signatures (E.alerts x c)

  -- g is among them exactly when it is a signature that the byte's alerts hold
  pub due-exactly : (x : C) (c g : ℕ)
      → ((i : ℕ) × (i < length (due E x c)) × (get_or (due E x c) i 0 ≡ g)) ↔ ((g < signatures) × (holds (E.alerts x c) g ≡ true))
  unfolding due
  due-exactly x c g =
      (λ m. rw m.2 at (members-at signatures (E.alerts x c) m.0 m.1), λ q. members-all signatures (E.alerts x c) g q.0 q.1)

  -- ---- two pieces, one after the other

  -- the second is run from where the first ends
  pub run-append : (x : C) (xs ys : List ℕ) → run E x (xs ++ ys) ≡ run E (run E x xs) ys
  unfolding run
  run-append x [] ys = refl
  run-append x (c ∷ xs) ys = run-append (E.next x c) xs ys

  -- one byte more
  pub run_more : (x : C) (cs : List ℕ) (n : ℕ) → n < length cs → run E x (take (suc n) cs) ≡ E.next (run E x (take n cs)) (get_or cs n 0)
  unfolding run
  run_more x [] n h = absurd (omega arith)
  run_more x (c ∷ cs) zero h = refl
  run_more x (c ∷ cs) (suc n) h = run_more (E.next x c) cs n (omega arith)

  -- the rows add up
  pub costs-append : (x : C) (xs ys : List ℕ) → costs E x (xs ++ ys) ≡ costs E x xs + costs E (run E x xs) ys
  unfolding run costs
  costs-append x [] ys = omega arith
  costs-append x (c ∷ xs) ys = let ih = costs-append (E.next x c) xs ys in omega arith

  -- the pairs of the second stand after those of the first, at the offsets that follow
  pub told-append : (x : C) (k : ℕ) (xs ys : List ℕ)
      → told E x k (xs ++ ys) ≡ told E x k xs ++ told E (run E x xs) (k + length xs) ys
  unfolding run told
  told-append x k [] ys = let e : k + 0 ≡ k = omega arith in rw e
  told-append x k (c ∷ xs) ys =
      let e : k + suc (length xs) ≡ k + 1 + length xs = omega arith in
      rw (told-append (E.next x c) (k + 1) xs ys, e, append_assoc)

  -- the numbers of pairs add up
  pub amount-append : (x : C) (xs ys : List ℕ) → amount E x (xs ++ ys) ≡ amount E x xs + amount E (run E x xs) ys
  unfolding run amount
  amount-append x [] ys = omega arith
  amount-append x (c ∷ xs) ys = let ih = amount-append (E.next x c) xs ys in omega arith

  -- two words for each pair
  pub told-length : (x : C) (k : ℕ) (cs : List ℕ) → length (told E x k cs) ≡ 2 * amount E x cs
  unfolding told amount
  told-length x k [] = refl
  told-length x k (c ∷ cs) =
      let ih = told-length (E.next x c) (k + 1) cs in
      rw (length-append, pairs_at-length) (omega arith)

  -- ---- what is consumed

  -- no more bytes than there are
  pub consumed-most : (x : C) (room : ℕ) (xs : List ℕ) → consumed E x room xs ≤ length xs
  unfolding consumed
  consumed-most x room [] = omega arith
  consumed-most x room (c ∷ xs) =
      go (E.halts x || ltb room (length (due E x c))) (consumed-most (E.next x c) (room - length (due E x c)) xs)
    where
      go : (b : Bool) → consumed E (E.next x c) (room - length (due E x c)) xs ≤ length xs
          → cond b 0 (suc (consumed E (E.next x c) (room - length (due E x c)) xs)) ≤ suc (length xs)
      go true ih = omega arith
      go false ih = omega arith

  -- its pairs fit the room
  pub consumed-fits : (x : C) (room : ℕ) (xs : List ℕ) → amount E x (take (consumed E x room xs) xs) ≤ room
  unfolding amount consumed
  consumed-fits x room [] = omega arith
  consumed-fits x room (c ∷ xs) =
      go (E.halts x) (ltb room (length (due E x c))) refl (consumed-fits (E.next x c) (room - length (due E x c)) xs)
    where
      go : (h b : Bool) → ltb room (length (due E x c)) ≡ b
          → amount E (E.next x c) (take (consumed E (E.next x c) (room - length (due E x c)) xs) xs) ≤ room - length (due E x c)
          → amount E x (take (cond (h || b) 0 (suc (consumed E (E.next x c) (room - length (due E x c)) xs))) (c ∷ xs)) ≤ room
      go true b e ih = omega arith
      go false true e ih = omega arith
      go false false e ih = omega (arith, ltb-false room (length (due E x c)) e)

  -- where bytes are left, the engine halts there, or one byte more exceeds the room
  pub consumed-longest : (x : C) (room : ℕ) (xs : List ℕ) → consumed E x room xs < length xs
      → (E.halts (run E x (take (consumed E x room xs) xs)) ≡ true) ⊎ (room < amount E x (take (suc (consumed E x room xs)) xs))
  unfolding amount consumed run
  consumed-longest x room [] h = absurd (omega arith)
  consumed-longest x room (c ∷ xs) h =
      go (E.halts x) refl (ltb room (length (due E x c))) refl h (consumed-longest (E.next x c) (room - length (due E x c)) xs)
    where
      x' : C
      x' = E.next x c

      d : ℕ
      d = length (due E x c)

      n : ℕ
      n = consumed E (E.next x c) (room - length (due E x c)) xs

      go : (h : Bool) → E.halts x ≡ h → (b : Bool) → ltb room d ≡ b
          → cond (h || b) 0 (suc n) < suc (length xs)
          → (n < length xs → (E.halts (run E x' (take n xs)) ≡ true) ⊎ (room - d < amount E x' (take (suc n) xs)))
          → (E.halts (run E x (take (cond (h || b) 0 (suc n)) (c ∷ xs))) ≡ true) ⊎ (room < amount E x (take (suc (cond (h || b) 0 (suc n))) (c ∷ xs)))
      go true e b q l ih = inl e
      go false e true q l ih = inr (omega (arith, ltb-true room d q))
      go false e false q l ih = elim (ih (omega arith)) [ inl z ↦ inl z | inr z ↦ inr (omega (arith, z)) ]

  -- before no byte that is consumed does the engine halt
  pub consumed-free : (x : C) (room : ℕ) (xs : List ℕ) (j : ℕ) → j < consumed E x room xs → E.halts (run E x (take j xs)) ≡ false
  unfolding consumed run
  consumed-free x room [] j h = absurd (omega arith)
  consumed-free x room (c ∷ xs) zero h = go (E.halts x) refl (ltb room (length (due E x c))) h
    where
      go : (t : Bool) → E.halts x ≡ t → (b : Bool) → zero < cond (t || b) 0 (suc (consumed E (E.next x c) (room - length (due E x c)) xs)) → E.halts x ≡ false
      go true e b l = absurd (omega arith)
      go false e b l = e
  consumed-free x room (c ∷ xs) (suc j) h = consumed-free (E.next x c) (room - length (due E x c)) xs j (back (E.halts x || ltb room (length (due E x c))) h)
    where
      back : (b : Bool) → suc j < cond b 0 (suc (consumed E (E.next x c) (room - length (due E x c)) xs)) → j < consumed E (E.next x c) (room - length (due E x c)) xs
      back true l = absurd (omega arith)
      back false l = omega arith

  -- what each move keeps before which the engine does not halt holds after the bytes consumed
  pub consumed-kept : (P : C → Type 0) → ((x : C) (c : ℕ) → c < 256 → E.halts x ≡ false → P x → P (E.next x c))
      → (x : C) (room : ℕ) (xs : List ℕ) → P x → Bytes xs → P (run E x (take (consumed E x room xs) xs))
  unfolding consumed run
  consumed-kept P k x room [] p h = p
  consumed-kept P k x room (c ∷ xs) p h =
      go (E.halts x) refl (ltb room (length (due E x c)))
      (λ e. consumed-kept P k (E.next x c) (room - length (due E x c)) xs (k x c (h 0) e p) (λ i. h (suc i)))
    where
      go : (t : Bool) → E.halts x ≡ t → (b : Bool) → (E.halts x ≡ false → P (run E (E.next x c) (take (consumed E (E.next x c) (room - length (due E x c)) xs) xs)))
          → P (run E x (take (cond (t || b) 0 (suc (consumed E (E.next x c) (room - length (due E x c)) xs))) (c ∷ xs)))
      go true e b ih = p
      go false e true ih = p
      go false e false ih = ih e

  -- of what is consumed all is consumed
  pub consumed-again : (x : C) (room : ℕ) (xs : List ℕ) → consumed E x room (take (consumed E x room xs) xs) ≡ consumed E x room xs
  unfolding consumed
  consumed-again x room [] = refl
  consumed-again x room (c ∷ xs) = go (E.halts x || ltb room (length (due E x c))) refl (consumed-again (E.next x c) (room - length (due E x c)) xs)
    where
      n : ℕ
      n = consumed E (E.next x c) (room - length (due E x c)) xs

      go : (b : Bool) → (E.halts x || ltb room (length (due E x c))) ≡ b → consumed E (E.next x c) (room - length (due E x c)) (take n xs) ≡ n
          → consumed E x room (take (cond b 0 (suc n)) (c ∷ xs)) ≡ cond b 0 (suc n)
      go true e ih = refl
      go false e ih = rw (e, ih)

  -- where a first piece is consumed whole, a second goes on with the room that is left
  pub consumed-append : (x : C) (room : ℕ) (xs ys : List ℕ) → consumed E x room xs ≡ length xs
      → consumed E x room (xs ++ ys) ≡ length xs + consumed E (run E x xs) (room - amount E x xs) ys
  unfolding amount consumed run
  consumed-append x room [] ys h = let e : room - 0 ≡ room = omega arith in rw e (omega arith)
  consumed-append x room (c ∷ xs) ys h =
      go (E.halts x || ltb room (length (due E x c))) h (consumed-append (E.next x c) (room - length (due E x c)) xs ys)
    where
      d : ℕ
      d = length (due E x c)

      x' : C
      x' = E.next x c

      go : (b : Bool) → cond b 0 (suc (consumed E x' (room - d) xs)) ≡ suc (length xs)
          → (consumed E x' (room - d) xs ≡ length xs → consumed E x' (room - d) (xs ++ ys) ≡ length xs + consumed E (run E x' xs) (room - d - amount E x' xs) ys)
          → cond b 0 (suc (consumed E x' (room - d) (xs ++ ys))) ≡ suc (length xs) + consumed E (run E x' xs) (room - (d + amount E x' xs)) ys
      go true e ih = absurd (omega arith)
      go false e ih =
          let s : room - (d + amount E x' xs) ≡ room - d - amount E x' xs = omega arith in
          rw (s, ih (omega arith)) (omega arith)

  -- with room for a pair of each signature, and no halt, at least one byte is consumed
  pub moves : (x : C) (room c : ℕ) (cs : List ℕ) → signatures ≤ room → E.halts x ≡ false → zero < consumed E x room (c ∷ cs)
  unfolding consumed
  moves x room c cs h e = rw (e, le-ltb room (length (due E x c)) (omega (arith, due-most x c))) (omega arith)

  -- ---- a ceiling on the rows

  -- b rows for each byte, where each configuration that is met keeps to b
  pub costs-most : (P : C → Type 0) → ((x : C) (c : ℕ) → c < 256 → P x → P (E.next x c)) → (b : ℕ) → ((x : C) → P x → E.cost x ≤ b)
      → (x : C) (cs : List ℕ) → P x → Bytes cs → costs E x cs ≤ b * length cs
  unfolding costs
  costs-most P k b g x [] p h = omega arith
  costs-most P k b g x (c ∷ cs) p h =
      let ih = costs-most P k b g (E.next x c) cs (k x c (h 0) p) (λ i. h (suc i)) in
      let q = g x p in
      rw (mul-suc b (length cs)) (omega arith)
