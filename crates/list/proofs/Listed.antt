-- The list check in a reader's words: each refusal is given exactly when its row says and no earlier row does, and what each row says. Assumes nothing.
use Prim.Native.Nat.{ℕ, zero, suc, ◌+◌, ◌*◌, ◌%◌, ◌≤◌, ◌<◌}
use mathlib.Core.Path.{◌≡◌, refl, sym, ap, ◌∙◌}
use mathlib.Core.Bool.{Bool, true, false, ◌||◌, not, true≢false, false≢true}
use mathlib.Core.List.{List}
use mathlib.Core.Logic.{◌⊎◌, inl, inr, ◌↔◌}
use native.Mathlib.Omega.{arith}
use native.Mathlib.Numerals.{add-one}
use lib.ListN.{length, get_or}
use lib.Dec.{eqb}
use borrow.Author.Tests.{eqb-true, eq-eqb, ltb-true, lt-ltb, leb-true, le-leb, not-true}
use Rattle.sets.specs.Set.{states, signatures}
use Rattle.sets.proofs.Sets.{or-false}
use Rattle.rules.specs.Rules.{Refuses}
use Rattle.list.specs.List.{record_size, most_records, records, byte_of, is_edge, is_start, is_accept, low, high, from, target, zeros, good_edge, good_start, good_accept, good_record, bad_length, bad_record, no_start, list_rules, list_refusal}
use Rattle.list.specs.Words.{Edge-bytes, Start-bytes, Accept-bytes}
use Rattle.rules.proofs.Scanning.{both, choose, either-words, equal_words, every-at, every-all, length-words, some-none, none-some, refuses-exactly}
use Rattle.rules.proofs.Rules.{refuses, passes}

-- ---- two Bools

-- each true where the other is
pub same_truth : (a b : Bool) → (a ≡ true → b ≡ true) → (b ≡ true → a ≡ true) → a ≡ b
same_truth true b f g = sym (f refl)
same_truth false true f g = g refl
same_truth false false f g = refl

-- what cannot be true is false
pub not_so : (b : Bool) → (b ≡ true → ⊥) → b ≡ false
not_so true f = absurd (f refl)
not_so false f = refl

-- ---- the rows

-- a row's number exactly when that row is the first that applies, 0 exactly when none applies
pub list-refuses : (L : List ℕ) → Refuses (list_rules L) (list_refusal L)
list-refuses L = refuses (list_rules L) refl

-- row 1: the length is 0, over that of the most records, or no multiple of a record's
pub bad-length : (L : List ℕ) → bad_length L ≡ true ↔ (((length L ≡ 0) ⊎ (record_size * most_records < length L)) ⊎ (length L % record_size ≡ 0 → ⊥))
unfolding bad_length
bad-length L = length-words record_size most_records (length L)

-- row 2: some record is not good
pub bad-record : (L : List ℕ) → bad_record L ≡ true ↔ ((i : ℕ) × (i < records L) × (good_record L i ≡ false))
unfolding bad_record
bad-record L = refuses-exactly (records L) (good_record L)

-- a record is good as its kind says: an edge, a start, an accept
pub good-edge : (L : List ℕ) (i : ℕ) → is_edge L i ≡ true → good_record L i ≡ good_edge L i
unfolding good_record
good-edge L i k = rw (eqb-true (byte_of L i 0) 1 k) (or-false _ ∙ or-false _)

pub good-start : (L : List ℕ) (i : ℕ) → is_start L i ≡ true → good_record L i ≡ good_start L i
unfolding good_record
good-start L i k = rw (eqb-true (byte_of L i 0) 2 k) (or-false _)

pub good-accept : (L : List ℕ) (i : ℕ) → is_accept L i ≡ true → good_record L i ≡ good_accept L i
unfolding good_record
good-accept L i k = rw (eqb-true (byte_of L i 0) 3 k)

-- and one that is no edge and no start is good as an accept
pub good-other : (L : List ℕ) (i : ℕ) → is_edge L i ≡ false → is_start L i ≡ false → good_record L i ≡ good_accept L i
unfolding good_record
good-other L i e s = rw (e, s)

pub good-none : (L : List ℕ) (i : ℕ) → is_edge L i ≡ false → is_start L i ≡ false → is_accept L i ≡ false → good_record L i ≡ false
good-none L i e s a = good-other L i e s ∙ rw a

-- and each kind in words. Bytes 1 to n are zero
zeros-exactly : (L : List ℕ) (i n : ℕ) → zeros L i n ≡ true ↔ ((k : ℕ) → 1 ≤ k → k ≤ n → byte_of L i k ≡ 0)
zeros-exactly L i n = (there, back)
  where
    there : zeros L i n ≡ true → (k : ℕ) → 1 ≤ k → k ≤ n → byte_of L i k ≡ 0
    there e zero h l = absurd (omega arith)
    there e (suc k) h l = rw (add-one k) at (eqb-true (byte_of L i (k + 1)) 0 (every-at n (λ j. eqb (byte_of L i (j + 1)) 0) e k (omega arith)))

    back : ((k : ℕ) → 1 ≤ k → k ≤ n → byte_of L i k ≡ 0) → zeros L i n ≡ true
    back z = every-all n (λ j. eqb (byte_of L i (j + 1)) 0) (λ j h. eq-eqb (byte_of L i (j + 1)) 0 (z (j + 1) (omega arith) (omega arith)))

-- an edge: low is at most high, byte 3 is 0 or 1, both states are states
pub edge-good : (L : List ℕ) (i : ℕ) → good_edge L i ≡ true
    ↔ ((is_edge L i ≡ true) × (byte_of L i 1 ≤ byte_of L i 2) × (byte_of L i 3 ≤ 1) × (from L i < states) × (target L i < states))
edge-good L i = (there, λ g. rw (g.0, le-leb _ _ g.1, le-leb _ _ g.2, lt-ltb _ _ g.3, lt-ltb _ _ g.4))
  where
    there : good_edge L i ≡ true → (is_edge L i ≡ true) × (byte_of L i 1 ≤ byte_of L i 2) × (byte_of L i 3 ≤ 1) × (from L i < states) × (target L i < states)
    there e =
        let t = both _ _ e in
        let f = both _ _ t.0 in
        let z = both _ _ f.0 in
        let k = both _ _ z.0 in
        (k.0, leb-true _ _ k.1, leb-true _ _ z.1, ltb-true _ _ f.1, ltb-true _ _ t.1)

-- a start: bytes 1 to 5 are zero, its state is a state
pub start-good : (L : List ℕ) (i : ℕ) → good_start L i ≡ true
    ↔ ((is_start L i ≡ true) × ((k : ℕ) → 1 ≤ k → k ≤ 5 → byte_of L i k ≡ 0) × (target L i < states))
start-good L i = (there, λ g. rw (g.0, (zeros-exactly L i 5).1 g.1, lt-ltb _ _ g.2))
  where
    there : good_start L i ≡ true → (is_start L i ≡ true) × ((k : ℕ) → 1 ≤ k → k ≤ 5 → byte_of L i k ≡ 0) × (target L i < states)
    there e = let t = both _ _ e in let k = both _ _ t.0 in (k.0, (zeros-exactly L i 5).0 k.1, ltb-true _ _ t.1)

-- an accept: bytes 1 to 3 are zero, its state is a state and its signature a signature
pub accept-good : (L : List ℕ) (i : ℕ) → good_accept L i ≡ true
    ↔ ((is_accept L i ≡ true) × ((k : ℕ) → 1 ≤ k → k ≤ 3 → byte_of L i k ≡ 0) × (from L i < states) × (target L i < signatures))
accept-good L i = (there, λ g. rw (g.0, (zeros-exactly L i 3).1 g.1, lt-ltb _ _ g.2, lt-ltb _ _ g.3))
  where
    there : good_accept L i ≡ true → (is_accept L i ≡ true) × ((k : ℕ) → 1 ≤ k → k ≤ 3 → byte_of L i k ≡ 0) × (from L i < states) × (target L i < signatures)
    there e =
        let t = both _ _ e in
        let f = both _ _ t.0 in
        let k = both _ _ f.0 in
        (k.0, (zeros-exactly L i 3).0 k.1, ltb-true _ _ f.1, ltb-true _ _ t.1)

-- ---- a record byte by byte

-- as many records as there are whole groups of 8 bytes
pub records-exactly : (L : List ℕ) (n : ℕ) → records L ≡ n ↔ ((8 * n ≤ length L) × (length L < 8 * suc n))
records-exactly L n = (λ e. (omega arith, omega arith), λ w. omega (arith, w.0, w.1))

module _ (L : List ℕ) (i : ℕ) where
  -- byte 0 is the kind: 1 an edge, 2 a start, 3 an accept
  first_byte : 8 * i + 0 ≡ 8 * i
  first_byte = omega arith

  pub kind-edge : is_edge L i ≡ true ↔ (get_or L (8 * i) 0 ≡ 1)
  kind-edge = rw first_byte (equal_words (get_or L (8 * i) 0) 1)

  pub kind-start : is_start L i ≡ true ↔ (get_or L (8 * i) 0 ≡ 2)
  kind-start = rw first_byte (equal_words (get_or L (8 * i) 0) 2)

  pub kind-accept : is_accept L i ≡ true ↔ (get_or L (8 * i) 0 ≡ 3)
  kind-accept = rw first_byte (equal_words (get_or L (8 * i) 0) 3)

  -- 1 low, 2 high, 4-5 from, 6-7 to, low byte first
  pub low_byte : low L i ≡ get_or L (8 * i + 1) 0
  low_byte = refl

  pub high_byte : high L i ≡ get_or L (8 * i + 2) 0
  high_byte = refl

  pub from_bytes : from L i ≡ get_or L (8 * i + 4) 0 + 256 * get_or L (8 * i + 5) 0
  from_bytes = let e : 8 * i + 4 + 1 ≡ 8 * i + 5 = omega arith in rw e

  pub target-bytes : target L i ≡ get_or L (8 * i + 6) 0 + 256 * get_or L (8 * i + 7) 0
  target-bytes = let e : 8 * i + 6 + 1 ≡ 8 * i + 7 = omega arith in rw e

zero-or-one : (x : ℕ) → (x ≤ 1) ↔ ((x ≡ 0) ⊎ (x ≡ 1))
zero-or-one x = (there x, λ s. choose s (λ e. omega (arith, e)) (λ e. omega (arith, e)))
  where
    there : (x : ℕ) → x ≤ 1 → (x ≡ 0) ⊎ (x ≡ 1)
    there zero h = inl refl
    there (suc x) h = inr (omega (arith, h))

module _ (L : List ℕ) (i : ℕ) where
  edge-bytes : good_edge L i ≡ true ↔ Edge-bytes L i
  edge-bytes = (there, back)
    where
      there : good_edge L i ≡ true → Edge-bytes L i
      there e =
          let g = (edge-good L i).0 e in
          record { kind = (kind-edge L i).0 g.0; order = g.1; flag = (zero-or-one _).0 g.2; state = rw (← from_bytes L i) g.3; next = rw (← target-bytes L i) g.4 }

      back : Edge-bytes L i → good_edge L i ≡ true
      back g =
          (edge-good L i).1 ((kind-edge L i).1 g.kind, g.order, (zero-or-one _).1 g.flag, rw (from_bytes L i) g.state, rw (target-bytes L i) g.next)

  start-bytes : good_start L i ≡ true ↔ Start-bytes L i
  start-bytes = (there, back)
    where
      there : good_start L i ≡ true → Start-bytes L i
      there e =
          let g = (start-good L i).0 e in
          record { kind = (kind-start L i).0 g.0; reserved = g.1; state = rw (← target-bytes L i) g.2 }

      back : Start-bytes L i → good_start L i ≡ true
      back g = (start-good L i).1 ((kind-start L i).1 g.kind, g.reserved, rw (target-bytes L i) g.state)

  accept-bytes : good_accept L i ≡ true ↔ Accept-bytes L i
  accept-bytes = (there, back)
    where
      there : good_accept L i ≡ true → Accept-bytes L i
      there e =
          let g = (accept-good L i).0 e in
          record { kind = (kind-accept L i).0 g.0; reserved = g.1; state = rw (← from_bytes L i) g.2; signature = rw (← target-bytes L i) g.3 }

      back : Accept-bytes L i → good_accept L i ≡ true
      back g =
          (accept-good L i).1 ((kind-accept L i).1 g.kind, g.reserved, rw (from_bytes L i) g.state, rw (target-bytes L i) g.signature)

  -- a record is good exactly when its bytes are those of an edge, of a start or of an accept
  pub record-exactly : good_record L i ≡ true ↔ ((Edge-bytes L i ⊎ Start-bytes L i) ⊎ Accept-bytes L i)
  unfolding good_record
  record-exactly =
      either-words (Edge-bytes L i ⊎ Start-bytes L i) (Accept-bytes L i) (good_edge L i || good_start L i) (good_accept L i)
      (either-words (Edge-bytes L i) (Start-bytes L i) (good_edge L i) (good_start L i) edge-bytes start-bytes)
      accept-bytes

  -- so one of another kind is not
  pub other-kind : (get_or L (8 * i) 0 ≡ 1 → ⊥) → (get_or L (8 * i) 0 ≡ 2 → ⊥) → (get_or L (8 * i) 0 ≡ 3 → ⊥) → good_record L i ≡ false
  other-kind n1 n2 n3 = go (good_record L i) refl
    where
      go : (b : Bool) → good_record L i ≡ b → b ≡ false
      go false e = refl
      go true e = absurd (choose (record-exactly.0 e) (λ s. choose s (λ g. n1 g.kind) (λ g. n2 g.kind)) (λ g. n3 g.kind))

-- row 3: no record is a start
pub no-start : (L : List ℕ) → no_start L ≡ true ↔ ((i : ℕ) → i < records L → is_start L i ≡ false)
unfolding no_start
no-start L =
    (λ e. none-some (records L) (is_start L) (not-true _ e), λ h. ap not (some-none (records L) (is_start L) h))

-- a good record is of one of the three kinds
pub kinds : (L : List ℕ) (i : ℕ) → good_record L i ≡ true → (is_edge L i ≡ true) ⊎ ((is_start L i ≡ true) ⊎ (is_accept L i ≡ true))
kinds L i e =
    choose ((record-exactly L i).0 e)
    (λ s. choose s (λ g. inl ((kind-edge L i).1 g.kind)) (λ g. inr (inl ((kind-start L i).1 g.kind))))
    (λ g. inr (inr ((kind-accept L i).1 g.kind)))

-- ---- of a list that the check passes

module _ (L : List ℕ) (e : list_refusal L ≡ 0) where
  -- it is at most as long as the most records
  pub short-list : length L ≤ 65536
  short-list = omega (arith, no)
    where
      no : 8 * most_records < length L → ⊥
      no l = true≢false (sym ((bad-length L).1 (inl (inr l))) ∙ (passes 0 (bad_length L) _ e).0)

  -- its records are whole
  pub whole-records : length L % 8 ≡ 0
  whole-records = go (eqb (length L % 8) 0) refl
    where
      go : (b : Bool) → eqb (length L % 8) 0 ≡ b → length L % 8 ≡ 0
      go true q = eqb-true _ _ q
      go false q = absurd (true≢false (sym ((bad-length L).1 (inr (λ z. false≢true (sym q ∙ rw z)))) ∙ (passes 0 (bad_length L) _ e).0))
