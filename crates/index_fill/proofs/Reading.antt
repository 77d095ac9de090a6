-- What is read of an index that is written so: each entry's numbers are those of its split. Assumes nothing.
use Prim.Native.Nat.{ℕ, ◌+◌, ◌*◌, ◌/◌, ◌%◌, ◌^◌, ◌≤◌, ◌<◌}
use mathlib.Core.Path.{◌≡◌, refl, sym, ap, ◌∙◌}
use mathlib.Core.Bool.{Bool, true, false, not, cond}
use mathlib.Core.List.{List, ◌++◌}
use native.Mathlib.Omega.{arith}
use lib.ListN.{length, get_or, take, drop, length-append, get_or-append}
use lib.Seq.{get_or-append-add, drop_at, drop-drop, take_at}
use lib.Dec.{eqb}
use lib.Bits.{or_lt}
use borrow.Author.Tests.{le-ltb}
use Rattle.numbers.specs.Number.{num, digits}
use Rattle.sets.specs.Set.{states, signatures, join, set_size, sig_size, set_bytes, sig_bytes, sigs_at, within, read_at}
use Rattle.numbers.proofs.Laws.{length_digits, digits-at, num-digits}
use Rattle.rules.specs.Scan.{some, first, stack}
use Rattle.rules.proofs.Scanning.{gather-lt, first_found, first-none}
use Rattle.rules.proofs.Stacks.{stack-length, stack_at, stack-part}
use Rattle.list.specs.Automaton.{step, accepted, named_by, named}
use Rattle.table_feed.proofs.Taking.{taken-most}
use Rattle.table.specs.Table.{byte_values, most_splits, split_count, split_set, split_of}
use Rattle.index_blocks.specs.Block.{word_at}
use Rattle.index.specs.Entry.{sigs_place, cost_place, flag_place, entry_size, entry_place, telling, known_in, cost_at, flag_at}
use Rattle.index_fill.specs.Filled.{word_of, words_of, cost_of, note_of, entry_of, index_of}

-- ---- the numbers fit their bytes

pub split-most : (S : List ℕ) (F : ℕ) → split_of S F ≤ split_count S
unfolding split_of
split-most S F = go (some (split_count S) (λ i. eqb (split_set S i) F)) refl
  where
    go : (b : Bool) → some (split_count S) (λ i. eqb (split_set S i) F) ≡ b → first (split_count S) (λ i. eqb (split_set S i) F) ≤ split_count S
    go true e = omega (arith, (first_found (split_count S) (λ i. eqb (split_set S i) F) e).0)
    go false e = omega (arith, first-none (split_count S) (λ i. eqb (split_set S i) F) e)

pub word-most : (L S : List ℕ) (T : ℕ) → split_count S ≤ most_splits → word_of L S T < 4294967296
unfolding word_of
word-most L S T m = go (eqb (accepted L T) 0)
  where
    go : (b : Bool) → entry_place (split_of S T) + cond b 0 telling < 4294967296
    go true = omega (arith, split-most S T)
    go false = omega (arith, split-most S T)

pub cost-most : (m : ℕ) (S : List ℕ) (i : ℕ) → cost_of m S i ≤ m + 4
unfolding cost_of
cost-most m S i = omega (arith, taken-most S i)

named-lt : (L : List ℕ) → named L < 2 ^ states
unfolding named_by join
named-lt L = or_lt states _ _ (gather-lt states _ _ _) (gather-lt states _ _ _)

accepted-lt : (L : List ℕ) (F : ℕ) → accepted L F < 2 ^ signatures
unfolding accepted
accepted-lt L F = gather-lt signatures _ _ _

-- a number of four bytes is the sum of its digits
four : (w : ℕ) → w < 4294967296 → get_or (digits 8 4 w) 0 0 + 256 * get_or (digits 8 4 w) 1 0 + 65536 * get_or (digits 8 4 w) 2 0 + 16777216 * get_or (digits 8 4 w) 3 0 ≡ w
unfolding digits
four w l = omega arith

-- ---- the parts of an entry

pub words-length : (L S : List ℕ) (t : ℕ → ℕ) (n : ℕ) → length (words_of L S t n) ≡ 4 * n
unfolding words_of
words-length L S t n = stack-length (λ c. digits 8 4 (word_of L S (t c))) 4 (λ c. length_digits 8 4 (word_of L S (t c))) n

module _ (L : List ℕ) (m : ℕ) (S : List ℕ) where
  pub entry_length : (i : ℕ) → length (entry_of L m S i) ≡ entry_size
  unfolding entry_of
  entry_length i =
      simp length-append
      (omega (arith, words-length L S (step L (split_set S i)) byte_values, length_digits 8 sig_size (accepted L (split_set S i)), length_digits 8 sig_size (note_of (cost_of m S i) (within (split_set S i) (named L)))))

  pub index-length : (n : ℕ) → length (index_of L m S n) ≡ entry_place n
  unfolding index_of
  index-length n =
      simp length-append (omega (arith, length_digits 8 set_size (named L), stack-length (entry_of L m S) entry_size entry_length n))

  -- the states that the list names
  pub known_read : (n F : ℕ) → known_in (index_of L m S n) F ≡ within F (named L)
  unfolding known_in read_at index_of
  known_read n F =
      let e : num 8 (take set_size (index_of L m S n)) ≡ named L =
      ap (num 8) (take_at (set_bytes (named L)) (stack (entry_of L m S) n) set_size (length_digits 8 set_size (named L))) ∙ num-digits 8 set_size (named L) (named-lt L) in
      rw (le-ltb (length (index_of L m S n)) set_size (omega (arith, index-length n)), e)

  -- byte j of the word of byte c
  word_byte : (i c j : ℕ) → c < byte_values → j < 4 → get_or (entry_of L m S i) (4 * c + j) 0 ≡ get_or (digits 8 4 (word_of L S (step L (split_set S i) c))) j 0
  unfolding entry_of words_of
  word_byte i c j h l =
      get_or-append (words_of L S (step L (split_set S i)) byte_values) _ 0 (4 * c + j) (omega (arith, words-length L S (step L (split_set S i)) byte_values))
      ∙ stack_at (λ d. digits 8 4 (word_of L S (step L (split_set S i) d))) 4 (λ d. length_digits 8 4 (word_of L S (step L (split_set S i) d))) byte_values c h j l

  sigs-part : (i : ℕ) → take sig_size (drop sigs_place (entry_of L m S i)) ≡ sig_bytes (accepted L (split_set S i))
  unfolding entry_of
  sigs-part i =
      ap (take sig_size) (drop_at (words_of L S (step L (split_set S i)) byte_values) _ sigs_place (words-length L S (step L (split_set S i)) byte_values))
      ∙ take_at (sig_bytes (accepted L (split_set S i))) _ sig_size (length_digits 8 sig_size (accepted L (split_set S i)))

  -- byte j of the note
  note-byte : (i j : ℕ) → j < sig_size → get_or (entry_of L m S i) (cost_place + j) 0 ≡ note_of (cost_of m S i) (within (split_set S i) (named L)) / 2 ^ (8 * j) % 2 ^ 8
  unfolding entry_of
  note-byte i j l =
      let ws = words_of L S (step L (split_set S i)) byte_values in
      let gs = sig_bytes (accepted L (split_set S i)) in
      let ns = sig_bytes (note_of (cost_of m S i) (within (split_set S i) (named L))) in
      let e : cost_place + j ≡ length ws + (length gs + j) = omega (arith, words-length L S (step L (split_set S i)) byte_values, length_digits 8 sig_size (accepted L (split_set S i))) in
      ap (λ (n : ℕ). get_or (ws ++ (gs ++ ns)) n 0) e
      ∙ get_or-append-add ws (gs ++ ns) (length gs + j) 0
      ∙ get_or-append-add gs ns j 0
      ∙ digits-at 8 sig_size (note_of (cost_of m S i) (within (split_set S i) (named L))) j l

  -- ---- what is read of the index at a split

  module _ (n i : ℕ) (h : i < n) where
    byte-of : (j : ℕ) → j < entry_size → get_or (index_of L m S n) (entry_place i + j) 0 ≡ get_or (entry_of L m S i) j 0
    unfolding index_of
    byte-of j l =
        let h₀ = set_bytes (named L) in
        let e : entry_place i + j ≡ length (set_bytes (named L)) + (entry_size * i + j) = omega (arith, length_digits 8 set_size (named L)) in
        ap (λ (x : ℕ). get_or (h₀ ++ stack (entry_of L m S) n) x 0) e
        ∙ get_or-append-add h₀ (stack (entry_of L m S) n) (entry_size * i + j) 0
        ∙ stack_at (entry_of L m S) entry_size entry_length n i h j l

    word-part : (c j : ℕ) → c < byte_values → j < 4 → (a : ℕ) → a ≡ entry_place i + (4 * c + j) → get_or (index_of L m S n) a 0 ≡ get_or (digits 8 4 (word_of L S (step L (split_set S i) c))) j 0
    word-part c j l k a e = ap (λ (x : ℕ). get_or (index_of L m S n) x 0) e ∙ byte-of (4 * c + j) (omega arith) ∙ word_byte i c j l k

    pub word_read : (c : ℕ) → c < byte_values → split_count S ≤ most_splits → word_at (index_of L m S n) (entry_place i) c ≡ word_of L S (step L (split_set S i) c)
    word_read c l few =
        let a = word-part c 0 l (omega arith) (entry_place i + 4 * c) (omega arith) in
        let b = word-part c 1 l (omega arith) (entry_place i + 4 * c + 1) (omega arith) in
        let d = word-part c 2 l (omega arith) (entry_place i + 4 * c + 2) (omega arith) in
        let e = word-part c 3 l (omega arith) (entry_place i + 4 * c + 3) (omega arith) in
        rw (a, b, d, e) (four (word_of L S (step L (split_set S i) c)) (word-most L S (step L (split_set S i) c) few))

    pub cost-read : m ≤ 251 → cost_at (index_of L m S n) (entry_place i) ≡ cost_of m S i
    cost-read q = byte-of cost_place (omega arith) ∙ note-byte i 0 (omega arith) ∙ go (within (split_set S i) (named L))
      where
        go : (b : Bool) → note_of (cost_of m S i) b / 2 ^ (8 * 0) % 2 ^ 8 ≡ cost_of m S i
        go true = omega (arith, cost-most m S i)
        go false = omega (arith, cost-most m S i)

    pub flag-read : m ≤ 251 → not (eqb (flag_at (index_of L m S n) (entry_place i)) 0) ≡ within (split_set S i) (named L)
    flag-read q = ap (λ (x : ℕ). not (eqb x 0)) (byte-of flag_place (omega arith) ∙ note-byte i 1 (omega arith)) ∙ go (within (split_set S i) (named L))
      where
        go : (b : Bool) → not (eqb (note_of (cost_of m S i) b / 2 ^ (8 * 1) % 2 ^ 8) 0) ≡ b
        go true =
            let e : note_of (cost_of m S i) true / 2 ^ (8 * 1) % 2 ^ 8 ≡ 1 = omega (arith, cost-most m S i) in
            rw e
        go false =
            let e : note_of (cost_of m S i) false / 2 ^ (8 * 1) % 2 ^ 8 ≡ 0 = omega (arith, cost-most m S i) in
            rw e

    pub sigs-read : sigs_at (index_of L m S n) (entry_place i + sigs_place) ≡ accepted L (split_set S i)
    unfolding read_at index_of
    sigs-read =
        let e : entry_place i + sigs_place ≡ set_size + (entry_size * i + sigs_place) = omega arith in
        ap (λ (x : ℕ). num 8 (take sig_size (drop x (index_of L m S n)))) e
        ∙ ap (λ (xs : List ℕ). num 8 (take sig_size xs)) (sym (drop-drop (entry_size * i + sigs_place) set_size (index_of L m S n)))
        ∙ ap (λ (xs : List ℕ). num 8 (take sig_size (drop (entry_size * i + sigs_place) xs))) (drop_at (set_bytes (named L)) (stack (entry_of L m S) n) set_size (length_digits 8 set_size (named L)))
        ∙ ap (num 8) (stack-part (entry_of L m S) entry_size entry_length n i h sigs_place sig_size (omega arith) ∙ sigs-part i)
        ∙ num-digits 8 sig_size (accepted L (split_set S i)) (accepted-lt L (split_set S i))
