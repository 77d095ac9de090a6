-- The flow record: what is written is read again, what is read is written again, and what rule 4 asks. Assumes nothing.
use Prim.Native.Nat.{ℕ, ◌+◌, ◌*◌, ◌^◌, ◌≤◌, ◌<◌}
use mathlib.Core.Path.{◌≡◌, sym, ap, ap₂, ◌∙◌}
use mathlib.Core.Bool.{false, ◌||◌, not}
use mathlib.Core.List.{List, ◌++◌, append_assoc}
use native.Mathlib.Omega.{arith}
use lib.ListN.{length, take, drop, length-append, length-drop, take-append-drop}
use lib.Seq.{take_at, drop_at, drop-drop, take_all, length-take-le}
use lib.Dec.{eqb, ltb}
use lib.Pow.{pow_pos}
use borrow.Author.Tests.{eqb-true, eq-eqb, ltb-false, le-ltb, not-false}
use Rattle.numbers.specs.Number.{num, digits, placed}
use Rattle.sets.specs.Set.{states, set_size, set_bytes, read_at}
use Rattle.numbers.proofs.Placing.{placed-after, placed-all}
use Rattle.numbers.proofs.Laws.{num-digits, length_digits, digits-num, num-take-lt}
use Rattle.sets.proofs.Sets.{set-at-lt}
use Rattle.rules.proofs.Scanning.{neither}
use Rattle.feed.specs.Engine.{most_offset}
use Rattle.list_flow.specs.Flow.{flow_size, frontier_of, offset_of, reserved_of, rows_of, flow_bytes, wrong_size, bad_flow}
use Rattle.feed.specs.Calls.{Bytes}
use Rattle.feed.proofs.Runs.{bytes_take, bytes_drop}

-- ---- written, then read

module _ (F k n : ℕ) where
  offset_at : drop set_size (flow_bytes F k n) ≡ digits 8 4 k ++ (digits 8 4 0 ++ digits 8 8 n)
  unfolding flow_bytes
  offset_at = drop_at (set_bytes F) (digits 8 4 k ++ (digits 8 4 0 ++ digits 8 8 n)) set_size (length_digits 8 set_size F)

  reserved-at : drop (set_size + 4) (flow_bytes F k n) ≡ digits 8 4 0 ++ digits 8 8 n
  reserved-at =
      sym (drop-drop 4 set_size (flow_bytes F k n)) ∙ ap (drop 4) offset_at ∙ drop_at (digits 8 4 k) (digits 8 4 0 ++ digits 8 8 n) 4 (length_digits 8 4 k)

  rows_at : drop (set_size + 8) (flow_bytes F k n) ≡ digits 8 8 n
  rows_at =
      sym (drop-drop 4 (set_size + 4) (flow_bytes F k n)) ∙ ap (drop 4) reserved-at ∙ drop_at (digits 8 4 0) (digits 8 8 n) 4 (length_digits 8 4 0)

  -- each of its fields is read again
  pub frontier-flow : F < 2 ^ states → frontier_of (flow_bytes F k n) ≡ F
  unfolding read_at flow_bytes
  frontier-flow h =
      rw (take_at (set_bytes F) (digits 8 4 k ++ (digits 8 4 0 ++ digits 8 8 n)) set_size (length_digits 8 set_size F)) (num-digits 8 set_size F h)

  pub offset-flow : k ≤ most_offset → offset_of (flow_bytes F k n) ≡ k
  offset-flow h = rw (offset_at, take_at (digits 8 4 k) (digits 8 4 0 ++ digits 8 8 n) 4 (length_digits 8 4 k)) (num-digits 8 4 k (omega arith))

  pub reserved-flow : reserved_of (flow_bytes F k n) ≡ 0
  reserved-flow = rw (reserved-at, take_at (digits 8 4 0) (digits 8 8 n) 4 (length_digits 8 4 0)) (num-digits 8 4 0 (pow_pos (8 * 4)))

  pub rows-flow : n < 2 ^ 64 → rows_of (flow_bytes F k n) ≡ n
  rows-flow h =
      let l : length (digits 8 8 n) ≤ 8 = omega (arith, length_digits 8 8 n) in
      rw (rows_at, take_all 8 (digits 8 8 n) l) (num-digits 8 8 n h)

  -- it has the size of a record
  pub length-flow : length (flow_bytes F k n) ≡ flow_size
  unfolding flow_bytes
  length-flow = simp (length-append, length_digits)

  -- rule 4 takes a record of at most all states as rows for each byte
  pub flow-good : k ≤ most_offset → n ≤ states * k → bad_flow (flow_bytes F k n) ≡ false
  unfolding bad_flow
  flow-good hk hn =
      rw (eq-eqb (length (flow_bytes F k n)) flow_size length-flow, reserved-flow, offset-flow hk, rows-flow (omega arith), le-ltb (states * k) n hn)

-- ---- read, then written

-- what rule 4 asks of a record
pub good-flow : (R : List ℕ) → bad_flow R ≡ false → (length R ≡ flow_size) × (reserved_of R ≡ 0) × (rows_of R ≤ states * offset_of R)
unfolding bad_flow
good-flow R e =
    let r = neither (wrong_size R || not (eqb (reserved_of R) 0)) (ltb (states * offset_of R) (rows_of R)) e in
    let q = neither (wrong_size R) (not (eqb (reserved_of R) 0)) r.0 in (
      eqb-true (length R) flow_size (not-false (eqb (length R) flow_size) q.0),
      eqb-true (reserved_of R) 0 (not-false (eqb (reserved_of R) 0) q.1),
      ltb-false (states * offset_of R) (rows_of R) r.1,
    )

module _ (R : List ℕ) (h : Bytes R) where
  -- the frontier is a set of states, and the offset at most the largest
  pub frontier-lt : frontier_of R < 2 ^ states
  frontier-lt = set-at-lt R 0 h

  pub offset-lt : offset_of R ≤ most_offset
  offset-lt = let l = num-take-lt 8 (drop set_size R) (bytes_drop set_size R h) 4 in omega arith

  -- n bytes, read as a number and written again
  bytes-again : (n at : ℕ) → at + n ≤ length R → digits 8 n (num 8 (take n (drop at R))) ≡ take n (drop at R)
  bytes-again n at l =
      let m : n ≤ length (drop at R) = simp length-drop (omega arith) in
      let e : length (take n (drop at R)) ≡ n = length-take-le n (drop at R) m in
      ap (λ (k : ℕ). digits 8 k (num 8 (take n (drop at R)))) (sym e) ∙ digits-num 8 (take n (drop at R)) (bytes_take n (drop at R) (bytes_drop at R h))

  -- a record that rule 4 takes is what is written of its frontier, offset and rows
  pub flow-again : bad_flow R ≡ false → flow_bytes (frontier_of R) (offset_of R) (rows_of R) ≡ R
  unfolding read_at flow_bytes
  flow-again e =
      let q = good-flow R e in
      let l : length R ≡ flow_size = q.0 in
      let a : set_bytes (frontier_of R) ≡ take set_size R = bytes-again set_size 0 (omega arith) in
      let b : digits 8 4 (offset_of R) ≡ take 4 (drop set_size R) = bytes-again 4 set_size (omega arith) in
      let c : digits 8 4 0 ≡ take 4 (drop (set_size + 4) R) = ap (digits 8 4) (sym q.1) ∙ bytes-again 4 (set_size + 4) (omega arith) in
      let d : digits 8 8 (rows_of R) ≡ drop (set_size + 8) R = bytes-again 8 (set_size + 8) (omega arith) ∙ take_all 8 (drop (set_size + 8) R) (simp length-drop (omega arith)) in
      ap₂ (λ (x y : List ℕ). x ++ y) a (ap₂ (λ (x y : List ℕ). x ++ y) b (ap₂ (λ (x y : List ℕ). x ++ y) c d ∙ join 4 (set_size + 4)) ∙ join 4 set_size) ∙ take-append-drop set_size R
    where
      join : (n at : ℕ) → take n (drop at R) ++ drop (at + n) R ≡ drop at R
      join n at = ap (λ (x : List ℕ). take n (drop at R) ++ x) (sym (drop-drop n at R)) ∙ take-append-drop n (drop at R)

-- ---- written over an old one, its four fields one after the other

pub placed-flow : (R : List ℕ) (F k n : ℕ) → length R ≡ flow_size
    → placed (placed (placed (placed R 0 (set_bytes F)) set_size (digits 8 4 k)) (set_size + 4) (digits 8 4 0)) (set_size + 8) (digits 8 8 n) ≡ flow_bytes F k n
unfolding flow_bytes
placed-flow R F k n e =
    let a : length (set_bytes F) ≡ set_size = length_digits 8 set_size F in
    let b : length (digits 8 4 k) ≡ 4 = length_digits 8 4 k in
    let c : length (digits 8 4 0) ≡ 4 = length_digits 8 4 0 in
    let d : length (digits 8 8 n) ≡ 8 = length_digits 8 8 n in
    let ab : length (set_bytes F ++ digits 8 4 k) ≡ set_size + 4 = simp length-append (omega arith) in
    let abc : length (set_bytes F ++ digits 8 4 k ++ digits 8 4 0) ≡ set_size + 8 = simp length-append (omega arith) in
    let abcd : length (set_bytes F ++ digits 8 4 k ++ digits 8 4 0 ++ digits 8 8 n) ≡ length R = simp length-append (omega arith) in
    rw (
      placed-after R 0 (set_bytes F) (digits 8 4 k) set_size (omega arith) (omega arith),
      placed-after R 0 (set_bytes F ++ digits 8 4 k) (digits 8 4 0) (set_size + 4) (omega arith) (omega arith),
      placed-after R 0 (set_bytes F ++ digits 8 4 k ++ digits 8 4 0) (digits 8 8 n) (set_size + 8) (omega arith) (omega arith),
      placed-all R (set_bytes F ++ digits 8 4 k ++ digits 8 4 0 ++ digits 8 8 n) abcd,
    ) (simp append_assoc)
