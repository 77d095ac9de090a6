-- The flow record of 80 bytes: what is written is read again, what is read is written again, and what rule 4 asks. Assumes nothing.
use Prim.Native.Nat.{ℕ, zero, suc, ◌+◌, ◌*◌, ◌^◌, ◌≤◌, ◌<◌}
use mathlib.Core.Path.{◌≡◌, refl, sym, ap, ap₂, ◌∙◌}
use mathlib.Core.Bool.{false, ◌||◌, not}
use mathlib.Core.List.{List, [], ◌∷◌, ◌++◌, append_assoc, append-nil}
use native.Mathlib.Omega.{arith}
use native.Mathlib.Numerals.{add-one}
use lib.ListN.{length, get_or, take, drop, length-append, length-drop, take-append-drop}
use lib.Seq.{take_at, drop_at, drop-drop, length-take-le, take-suc, ext_get_or}
use lib.Dec.{eqb, ltb, leb, lit<}
use lib.Pow.{pow_pos}
use borrow.Author.Tests.{eqb-true, ltb-true, leb-true, not-false}
use Rattle.numbers.specs.Number.{num, digits, placed}
use Rattle.numbers.proofs.Laws.{num-digits, length_digits, digits-num, num-take-lt}
use Rattle.numbers.proofs.Placing.{placed-after, placed-all}
use Rattle.rules.proofs.Scanning.{neither, every-at}
use Rattle.feed.specs.Engine.{most_offset}
use Rattle.feed.specs.Calls.{Bytes}
use Rattle.feed.proofs.Runs.{bytes_take, bytes_drop}
use Rattle.feed.proofs.Whole.{Sound}
use Rattle.machine.specs.declared.Config.{Config}
use Rattle.machine.specs.Program.{bit_count, counter_count, off}
use Rattle.machine.specs.Record.{flow_size, state_of, reserved_of, offset_of, fours, four_bytes, config_at, config_of, flow_bytes, flow_layout, wrong_size, good_counters, bad_flow}
use Rattle.machine.proofs.Programs.{config-one}

-- ---- numbers of four bytes each, over their index

pub fours-length : (m : ℕ) (b : List ℕ) → length (fours m b) ≡ m
unfolding fours
fours-length zero b = refl
fours-length (suc m) b = ap suc (fours-length m (drop 4 b))

-- number i is that of bytes 4 i to 4 i + 3
pub fours-at : (m : ℕ) (b : List ℕ) (i : ℕ) → i < m → get_or (fours m b) i 0 ≡ num 8 (take 4 (drop (4 * i) b))
unfolding fours
fours-at zero b i h = absurd (omega arith)
fours-at (suc m) b zero h = refl
fours-at (suc m) b (suc i) h =
    let e : 4 + 4 * i ≡ 4 * suc i = omega arith in
    fours-at m (drop 4 b) i (omega arith) ∙ ap (λ (c : List ℕ). num 8 (take 4 c)) (drop-drop (4 * i) 4 b ∙ ap (λ (j : ℕ). drop j b) e)

fours-small : (m : ℕ) (b : List ℕ) → Bytes b → (i : ℕ) → get_or (fours m b) i 0 < 4294967296
unfolding fours
fours-small zero b h i = lit< tt
fours-small (suc m) b h zero = num-take-lt 8 b h 4
fours-small (suc m) b h (suc i) = fours-small m (drop 4 b) (bytes_drop 4 b h) i

pub bytes-length : (ns : List ℕ) → length (four_bytes ns) ≡ 4 * length ns
unfolding four_bytes
bytes-length [] = refl
bytes-length (n ∷ ns) = let ih = bytes-length ns in let l = length_digits 8 4 n in simp length-append (omega arith)

pub bytes-append : (ns ms : List ℕ) → four_bytes (ns ++ ms) ≡ four_bytes ns ++ four_bytes ms
unfolding four_bytes
bytes-append [] ms = refl
bytes-append (n ∷ ns) ms = rw (bytes-append ns ms) (sym (append_assoc (digits 8 4 n) (four_bytes ns) (four_bytes ms)))

pub bytes-none : four_bytes [] ≡ []
unfolding four_bytes
bytes-none = refl

-- the bytes of one number more
pub bytes-more : (ns : List ℕ) (i : ℕ) → i < length ns → four_bytes (take i ns) ++ digits 8 4 (get_or ns i 0) ≡ four_bytes (take (i + 1) ns)
unfolding four_bytes
bytes-more ns i l =
    sym (ap four_bytes (ap (λ (j : ℕ). take j ns) (add-one i) ∙ take-suc ns i 0 l) ∙ bytes-append (take i ns) (get_or ns i 0 ∷ [])
    ∙ ap (λ (b : List ℕ). four_bytes (take i ns) ++ b) (append-nil (digits 8 4 (get_or ns i 0))))

-- numbers that are written are read again, and bytes that are read are written again
fours-back : (ns : List ℕ) → ((i : ℕ) → get_or ns i 0 < 4294967296) → fours (length ns) (four_bytes ns) ≡ ns
unfolding fours four_bytes
fours-back [] h = refl
fours-back (n ∷ ns) h =
    rw (
      take_at (digits 8 4 n) (four_bytes ns) 4 (length_digits 8 4 n),
      drop_at (digits 8 4 n) (four_bytes ns) 4 (length_digits 8 4 n),
      num-digits 8 4 n (h 0),
      fours-back ns (λ i. h (suc i)),
    )

-- n bytes, read as a number and written again
bytes-again : (b : List ℕ) → Bytes b → (n : ℕ) → n ≤ length b → digits 8 n (num 8 (take n b)) ≡ take n b
bytes-again b h n l =
    ap (λ (k : ℕ). digits 8 k (num 8 (take n b))) (sym (length-take-le n b l)) ∙ digits-num 8 (take n b) (bytes_take n b h)

fours-again : (m : ℕ) (b : List ℕ) → Bytes b → length b ≡ 4 * m → four_bytes (fours m b) ≡ b
unfolding fours four_bytes
fours-again zero [] h e = refl
fours-again zero (x ∷ b) h e = absurd (omega arith)
fours-again (suc m) b h e =
    ap₂ (λ (x y : List ℕ). x ++ y) (bytes-again b h 4 (omega arith)) (fours-again m (drop 4 b) (bytes_drop 4 b h) (simp length-drop (omega arith)))
    ∙ take-append-drop 4 b

-- ---- written, then read

-- a configuration that has a record
pub record Fine (x : Config) : Type 0 where
  pub state-small : x.state < 65536
  pub bits_small : x.bits < 2 ^ bit_count
  pub sixteen : length x.counters ≡ counter_count
  pub counters-small : (i : ℕ) → get_or x.counters i 0 < 4294967296

module _ (x : Config) (k : ℕ) where
  reserved-at : drop 2 (flow_bytes x k) ≡ digits 8 2 0 ++ (digits 8 4 k ++ (digits 8 8 x.bits ++ four_bytes x.counters))
  unfolding flow_bytes
  reserved-at = drop_at (digits 8 2 x.state) (digits 8 2 0 ++ (digits 8 4 k ++ (digits 8 8 x.bits ++ four_bytes x.counters))) 2 (length_digits 8 2 x.state)

  offset_at : drop 4 (flow_bytes x k) ≡ digits 8 4 k ++ (digits 8 8 x.bits ++ four_bytes x.counters)
  offset_at =
      sym (drop-drop 2 2 (flow_bytes x k)) ∙ ap (drop 2) reserved-at
      ∙ drop_at (digits 8 2 0) (digits 8 4 k ++ (digits 8 8 x.bits ++ four_bytes x.counters)) 2 (length_digits 8 2 0)

  bits_at : drop 8 (flow_bytes x k) ≡ digits 8 8 x.bits ++ four_bytes x.counters
  bits_at =
      sym (drop-drop 4 4 (flow_bytes x k)) ∙ ap (drop 4) offset_at ∙ drop_at (digits 8 4 k) (digits 8 8 x.bits ++ four_bytes x.counters) 4 (length_digits 8 4 k)

  counters-at : drop 16 (flow_bytes x k) ≡ four_bytes x.counters
  counters-at =
      sym (drop-drop 8 8 (flow_bytes x k)) ∙ ap (drop 8) bits_at ∙ drop_at (digits 8 8 x.bits) (four_bytes x.counters) 8 (length_digits 8 8 x.bits)

  -- each of its fields is read again
  state-flow : x.state < 65536 → state_of (flow_bytes x k) ≡ x.state
  unfolding flow_bytes
  state-flow h =
      rw (take_at (digits 8 2 x.state) (digits 8 2 0 ++ (digits 8 4 k ++ (digits 8 8 x.bits ++ four_bytes x.counters))) 2 (length_digits 8 2 x.state))
      (num-digits 8 2 x.state h)

  pub reserved-flow : reserved_of (flow_bytes x k) ≡ 0
  reserved-flow =
      rw (reserved-at, take_at (digits 8 2 0) (digits 8 4 k ++ (digits 8 8 x.bits ++ four_bytes x.counters)) 2 (length_digits 8 2 0))
      (num-digits 8 2 0 (pow_pos (8 * 2)))

  pub offset-flow : k ≤ most_offset → offset_of (flow_bytes x k) ≡ k
  offset-flow h =
      rw (offset_at, take_at (digits 8 4 k) (digits 8 8 x.bits ++ four_bytes x.counters) 4 (length_digits 8 4 k)) (num-digits 8 4 k (omega arith))

  pub config-flow : Fine x → config_of (flow_bytes x k) ≡ x
  unfolding config_at
  config-flow f =
      config-one (config_of (flow_bytes x k)) x (state-flow f.state-small)
      (rw (bits_at, take_at (digits 8 8 x.bits) (four_bytes x.counters) 8 (length_digits 8 8 x.bits)) (num-digits 8 8 x.bits f.bits_small))
      (rw counters-at (ap (λ (m : ℕ). fours m (four_bytes x.counters)) (sym f.sixteen) ∙ fours-back x.counters f.counters-small))

  -- it has the size of a record
  pub length-flow : length x.counters ≡ counter_count → length (flow_bytes x k) ≡ flow_size
  unfolding flow_bytes
  length-flow e =
      let a = length_digits 8 2 x.state in
      let b = length_digits 8 2 0 in
      let c = length_digits 8 4 k in
      let d = length_digits 8 8 x.bits in
      let f = bytes-length x.counters in
      simp length-append (omega arith)

-- so a feed's layout is sound for configurations that have a record, and it reads no rows
pub flow-sound : (Good : Config → Type 0) → ((x : Config) → Good x → Fine x) → Sound flow_layout Good 0
flow-sound Good fine = record { reads = λ x k n g hk hn. (config-flow x k (fine x g), offset-flow x k hk, omega arith) }

-- ---- read, then written

-- what rule 4 asks of a record
pub record GoodFlow (n : ℕ) (R : List ℕ) : Type 0 where
  pub whole : length R ≡ flow_size
  pub in_table : state_of R < n
  pub reserved : reserved_of R ≡ 0
  pub counters : (i : ℕ) → i < counter_count → get_or (config_of R).counters i 0 ≤ off

pub good-flow : (n : ℕ) (R : List ℕ) → bad_flow n R ≡ false → GoodFlow n R
unfolding bad_flow
good-flow n R e =
    let r = neither (wrong_size R || not (ltb (state_of R) n) || not (eqb (reserved_of R) 0)) (not (good_counters (config_of R).counters)) e in
    let s = neither (wrong_size R || not (ltb (state_of R) n)) (not (eqb (reserved_of R) 0)) r.0 in
    let t = neither (wrong_size R) (not (ltb (state_of R) n)) s.0 in
    record {
      whole = eqb-true (length R) flow_size (not-false _ t.0);
      in_table = ltb-true (state_of R) n (not-false _ t.1);
      reserved = eqb-true (reserved_of R) 0 (not-false _ s.1);
      counters = λ i l. leb-true (get_or (config_of R).counters i 0) off (every-at counter_count (λ j. leb (get_or (config_of R).counters j 0) off) (not-false _ r.1) i l);
    }

-- counters read one by one
pub counters-read : (b : List ℕ) (at : ℕ) (c : List ℕ) → length c ≡ counter_count
    → ((j : ℕ) → j < counter_count → get_or c j 0 ≡ num 8 (take 4 (drop (at + 4 * j) b))) → c ≡ fours counter_count (drop at b)
counters-read b at c l h =
    ext_get_or 0 c (fours counter_count (drop at b)) (l ∙ sym (fours-length counter_count (drop at b)))
    (λ j m. h j (omega arith) ∙ sym (fours-at counter_count (drop at b) j (omega arith) ∙ ap (λ (b : List ℕ). num 8 (take 4 b)) (drop-drop (4 * j) at b)))

module _ (R : List ℕ) (h : Bytes R) where
  -- what is read of bytes has a record
  pub read-fine : Fine (config_of R)
  unfolding config_at
  read-fine =
      record {
        state-small = num-take-lt 8 R h 2;
        bits_small = num-take-lt 8 (drop 8 R) (bytes_drop 8 R h) 8;
        sixteen = fours-length counter_count (drop 16 R);
        counters-small = fours-small counter_count (drop 16 R) (bytes_drop 16 R h);
      }

  pub offset-lt : offset_of R ≤ most_offset
  offset-lt = let l = num-take-lt 8 (drop 4 R) (bytes_drop 4 R h) 4 in omega arith

  -- a record of the right size without reserved bytes is what is written of its configuration and offset
  pub flow-again : length R ≡ flow_size → reserved_of R ≡ 0 → flow_bytes (config_of R) (offset_of R) ≡ R
  unfolding flow_bytes config_at
  flow-again l z =
      let at : (i n : ℕ) → i + n ≤ flow_size → digits 8 n (num 8 (take n (drop i R))) ≡ take n (drop i R) = λ i n m. bytes-again (drop i R) (bytes_drop i R h) n (simp length-drop (omega arith)) in
      let a : digits 8 2 (state_of R) ≡ take 2 R = bytes-again R h 2 (omega arith) in
      let b : digits 8 2 0 ≡ take 2 (drop 2 R) = ap (digits 8 2) (sym z) ∙ at 2 2 (omega arith) in
      let c : digits 8 4 (offset_of R) ≡ take 4 (drop 4 R) = at 4 4 (omega arith) in
      let d : digits 8 8 (num 8 (take 8 (drop 8 R))) ≡ take 8 (drop 8 R) = at 8 8 (omega arith) in
      let e : four_bytes (fours counter_count (drop 16 R)) ≡ drop 16 R = fours-again counter_count (drop 16 R) (bytes_drop 16 R h) (simp length-drop (omega arith)) in
      ap₂ (λ (x y : List ℕ). x ++ y) a (ap₂ (λ (x y : List ℕ). x ++ y) b (ap₂ (λ (x y : List ℕ). x ++ y) c (ap₂ (λ (x y : List ℕ). x ++ y) d e ∙ join 8 8) ∙ join 4 4) ∙ join 2 2) ∙ take-append-drop 2 R
    where
      join : (n at : ℕ) → take n (drop at R) ++ drop (at + n) R ≡ drop at R
      join n at = ap (λ (x : List ℕ). take n (drop at R) ++ x) (sym (drop-drop n at R)) ∙ take-append-drop n (drop at R)

-- ---- written over an old one, its five fields one after the other

pub placed-flow : (R : List ℕ) (x : Config) (k : ℕ) → length R ≡ flow_size → length x.counters ≡ counter_count
    → placed (placed (placed (placed (placed R 0 (digits 8 2 x.state)) 2 (digits 8 2 0)) 4 (digits 8 4 k)) 8 (digits 8 8 x.bits)) 16 (four_bytes x.counters) ≡ flow_bytes x k
unfolding flow_bytes
placed-flow R x k e s =
    let a : length (digits 8 2 x.state) ≡ 2 = length_digits 8 2 x.state in
    let b : length (digits 8 2 0) ≡ 2 = length_digits 8 2 0 in
    let c : length (digits 8 4 k) ≡ 4 = length_digits 8 4 k in
    let d : length (digits 8 8 x.bits) ≡ 8 = length_digits 8 8 x.bits in
    let f : length (four_bytes x.counters) ≡ 64 = bytes-length x.counters ∙ omega arith in
    let ab : length (digits 8 2 x.state ++ digits 8 2 0) ≡ 4 = simp length-append (omega arith) in
    let abc : length (digits 8 2 x.state ++ digits 8 2 0 ++ digits 8 4 k) ≡ 8 = simp length-append (omega arith) in
    let abcd : length (digits 8 2 x.state ++ digits 8 2 0 ++ digits 8 4 k ++ digits 8 8 x.bits) ≡ 16 = simp length-append (omega arith) in
    let all : length (digits 8 2 x.state ++ digits 8 2 0 ++ digits 8 4 k ++ digits 8 8 x.bits ++ four_bytes x.counters) ≡ length R = simp length-append (omega arith) in
    rw (
      placed-after R 0 (digits 8 2 x.state) (digits 8 2 0) 2 (omega arith) (omega arith),
      placed-after R 0 (digits 8 2 x.state ++ digits 8 2 0) (digits 8 4 k) 4 (omega arith) (omega arith),
      placed-after R 0 (digits 8 2 x.state ++ digits 8 2 0 ++ digits 8 4 k) (digits 8 8 x.bits) 8 (omega arith) (omega arith),
      placed-after R 0 (digits 8 2 x.state ++ digits 8 2 0 ++ digits 8 4 k ++ digits 8 8 x.bits) (four_bytes x.counters) 16 (omega arith) (omega arith),
      placed-all R (digits 8 2 x.state ++ digits 8 2 0 ++ digits 8 4 k ++ digits 8 8 x.bits ++ four_bytes x.counters) all,
    ) (simp append_assoc)
