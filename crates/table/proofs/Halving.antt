-- The search by halving among the splits of a table: their sets rise, and what is found is the first with the set. Assumes nothing.
use Prim.Native.Nat.{ℕ, zero, suc, ◌*◌, ◌^◌, ◌≤◌, ◌<◌}
use mathlib.Core.Path.{◌≡◌, sym, ap, ◌∙◌}
use mathlib.Core.Bool.{true}
use mathlib.Core.List.{List}
use native.Mathlib.Omega.{arith}
use lib.ListN.{length}
use lib.Dec.{eqb}
use borrow.Author.Tests.{eq-eqb, ne_eqb}
use Rattle.std.specs.declared.cmp.Ordering.TheVariants.{Less, Equal}
use Rattle.numbers.specs.Number.{num, before, compare}
use Rattle.sets.specs.Set.{set_size, set_bytes, set_at, bytes_at}
use Rattle.numbers.proofs.Laws.{Small, num-digits, length_digits}
use Rattle.sets.proofs.Sets.{set-at-lt}
use Rattle.numbers.proofs.Order.{before-trans, compare-exactly}
use Rattle.numbers.proofs.Halving.{Between, before-other, between-other}
use Rattle.rules.specs.Scan.{every}
use Rattle.rules.proofs.Scanning.{below_suc, choose, some-none, every-at, first-at, first-none}
use Rattle.table.specs.Table.{split_size, split_count, split_set, split_of, in_order}
use Rattle.table.proofs.Entries.{split-bytes}

-- the sets of splits that are in order rise, also those that do not stand side by side
rise : (S : List ℕ) → every (split_count S) (in_order S) ≡ true → (i j : ℕ) → i < j → j < split_count S
    → before (bytes_at S (split_size * i)) (bytes_at S (split_size * j)) ≡ true
unfolding in_order
rise S o i zero l h = absurd (omega arith)
rise S o i (suc j) l h =
    let n = every-at (split_count S) (in_order S) o (suc j) h in
    choose (below_suc i j l)
    (λ k. before-trans (bytes_at S (split_size * i)) (bytes_at S (split_size * j)) (bytes_at S (split_size * suc j)) (rise S o i j k (omega arith)) n)
    (λ e. rw e n)

pub splits-rise : (S : List ℕ) → Small 8 S → every (split_count S) (in_order S) ≡ true → (i j : ℕ) → i < j → j < split_count S
    → before (set_bytes (split_set S i)) (set_bytes (split_set S j)) ≡ true
splits-rise S s o i j l h = rw (split-bytes S i s (omega arith), split-bytes S j s h) (rise S o i j l h)

-- ---- sets at the front of entries, as strings

abbrev pub set_strings : List ℕ → ℕ → ℕ → List ℕ
set_strings b size i = set_bytes (set_at b (size * i))

-- ---- among the splits, by halving

-- their sets as strings
abbrev pub split_strings : List ℕ → ℕ → List ℕ
split_strings S i = set_bytes (split_set S i)

-- a split that has the set is the first that has it: those below come before it
pub between-found : (S : List ℕ) → Small 8 S → every (split_count S) (in_order S) ≡ true → (F m : ℕ) → m < split_count S → split_set S m ≡ F → m ≡ split_of S F
unfolding split_of
between-found S s o F m h e =
    sym (first-at (split_count S) (λ i. eqb (split_set S i) F) m h
    (some-none m (λ i. eqb (split_set S i) F) (λ i l. ne_eqb (split_set S i) F (λ q. before-other (set_bytes (split_set S i)) (set_bytes F) (rw e at (splits-rise S s o i m l h)) (ap (λ (x : ℕ). set_bytes x) q)))) (eq-eqb (split_set S m) F e))

pub between_none : (S : List ℕ) (F lo hi : ℕ) → Between (split_strings S) (split_count S) (set_bytes F) lo hi → hi ≤ lo → split_count S ≡ split_of S F
unfolding split_of
between_none S F lo hi b e =
    sym (first-none (split_count S) (λ i. eqb (split_set S i) F)
    (some-none (split_count S) (λ i. eqb (split_set S i) F) (λ i h. ne_eqb (split_set S i) F (λ q. between-other (split_strings S) (split_count S) (set_bytes F) lo hi b e i h (ap (λ (x : ℕ). set_bytes x) q)))))

-- what the search among their sets says: a place that is found, or none
pub found-there : (S : List ℕ) → Small 8 S → every (split_count S) (in_order S) ≡ true → (F i : ℕ) → i < split_count S → set_at S (split_size * i) ≡ F → i ≡ split_of S F
unfolding split_set
found-there S s o F i h e = between-found S s o F i h e

pub found_none : (S : List ℕ) (F i : ℕ) → i ≤ split_count S → ((j : ℕ) → j < i → before (set_strings S split_size j) (set_bytes F) ≡ true)
    → ((j : ℕ) → i ≤ j → j < split_count S → before (set_bytes F) (set_strings S split_size j) ≡ true) → split_of S F ≡ split_count S
unfolding split_set
found_none S F i l b a = sym (between_none S F i i (record { order = omega arith; most = l; below = b; above = a }) (omega arith))

pub split-lt : (S : List ℕ) → Small 8 S → (m : ℕ) → split_set S m < 2 ^ (8 * set_size)
unfolding split_set
split-lt S s m = set-at-lt S (split_size * m) s

-- ---- how one set stands to another

pub same_length : (x F : ℕ) → length (set_bytes x) ≡ length (set_bytes F)
same_length x F = length_digits 8 set_size x ∙ sym (length_digits 8 set_size F)

module _ (x F : ℕ) (g : x < 2 ^ (8 * set_size)) (f : F < 2 ^ (8 * set_size)) where
  pub compared_same : compare (set_bytes x) (set_bytes F) ≡ Equal → x ≡ F
  compared_same e =
      sym (num-digits 8 set_size x g) ∙ ap (num 8) ((compare-exactly (set_bytes x) (set_bytes F) (same_length x F)).0.0 e) ∙ num-digits 8 set_size F f

  pub compared-before : compare (set_bytes x) (set_bytes F) ≡ Less → before (set_bytes x) (set_bytes F) ≡ true
  compared-before e = (compare-exactly (set_bytes x) (set_bytes F) (same_length x F)).1.0 e
