-- An index that is written so is right, where the splits are in order, hold the start set and are closed under the list's steps; and that of an accepted table is. Assumes nothing.
use Prim.Native.Nat.{ℕ, ◌+◌, ◌≤◌, ◌<◌}
use mathlib.Core.Path.{◌≡◌, refl, sym, ap, ◌∙◌}
use mathlib.Core.Bool.{true, false}
use mathlib.Core.List.{List}
use native.Mathlib.Omega.{arith}
use lib.ListN.{length}
use lib.Dec.{eqb}
use borrow.Author.Tests.{eq-eqb}
use Rattle.rules.proofs.Scanning.{every-all, some-intro}
use Rattle.list.specs.List.{list_refusal}
use Rattle.list.specs.Automaton.{start, step}
use Rattle.feed.specs.Calls.{Bytes}
use Rattle.table.specs.Table.{Table, byte_values, most_splits, split_size, split_count, split_set, slots, taken_slots, is_split, split_of, in_order, bad_count, table_refusal}
use Rattle.table.proofs.Accepted as said
use Rattle.table.proofs.Halving.{between-found}
use Rattle.table_feed.specs.Split.{taken}
use Rattle.table_feed.proofs.Exact.{few}
use Rattle.table_feed.proofs.Stepping.{found-split}
use Rattle.index.specs.Entry.{entry_place, bad_index}
use Rattle.index.specs.Right.{Right, Costs}
use Rattle.index.specs.Means.{stand_means}
use Rattle.index.proofs.Sizes.{few-splits}
use Rattle.index_fill.specs.Filled.{word_of, cost_of, index_of, filled_index}
use Rattle.index_fill.proofs.Refusing.{count-good}
use Rattle.index_fill.proofs.Reading.{index-length, known_read, word_read, cost-read, flag-read, sigs-read}

-- what is asked of the splits
pub record Closed (L S : List ℕ) : Type 0 where
  pub list : list_refusal L ≡ 0
  pub bytes : Bytes S
  pub count : bad_count split_size most_splits S ≡ false
  pub ordered : (i : ℕ) → i < split_count S → in_order S i ≡ true
  pub begins : is_split S (start L) ≡ true
  pub closed : (i c : ℕ) → i < split_count S → c < byte_values → is_split S (step L (split_set S i) c) ≡ true

module _ (L : List ℕ) (m : ℕ) (S : List ℕ) (k : Closed L S) (low : m ≤ 251) where
  abbrev made : List ℕ
  made = index_of L m S (split_count S)

  good : bad_index S made ≡ false
  unfolding bad_index
  good = rw (k.count, eq-eqb (length made) (entry_place (split_count S)) (index-length L m S (split_count S)))

  pub made-right : Right L S (index_of L m S (split_count S))
  unfolding word_of
  made-right =
      record {
        list = k.list;
        bytes = k.bytes;
        good = good;
        ordered = k.ordered;
        begins = let f = found-split S (start L) k.begins in (split_of S (start L), (f.0, f.1));
        leads = λ i c h l.
            let f = found-split S (step L (split_set S i) c) (k.closed i c h l) in
            (split_of S (step L (split_set S i) c), (f.0, f.1), word_read L m S (split_count S) i h c l (few-splits S k.count));
        tells = λ i h. sigs-read L m S (split_count S) i h;
        names = record { known = known_read L m S (split_count S); flags = λ i h. flag-read L m S (split_count S) i h low };
      }

  -- where f says of a split's set what a byte at it costs
  pub made-costs : (b : ℕ) (f : ℕ → ℕ) → ((i : ℕ) → i < split_count S → (cost_of m S i ≡ f (split_set S i)) × (f (split_set S i) ≤ b)) → Costs b f S (index_of L m S (split_count S))
  made-costs b f q i h = (cost-read L m S (split_count S) i h low ∙ (q i h).0, (q i h).1)

-- ---- of an accepted table

module _ (L : List ℕ) (b : ℕ) (T : Table) (ok : table_refusal L b T ≡ 0) (s : Bytes T.splits) where
  table-closed : Closed L T.splits
  table-closed =
      let a = said.accepted L b T ok in
      record { list = a.list; bytes = s; count = count-good T a.lengths; ordered = a.ordered; begins = a.begins; closed = a.closed }

  none_more : (n : ℕ) → 0 + n ≡ n
  none_more n = omega arith

  -- a split is the first with its set
  its_own : (i : ℕ) → i < split_count T.splits → split_of T.splits (split_set T.splits i) ≡ i
  its_own i h =
      sym (between-found T.splits s (every-all (split_count T.splits) (in_order T.splits) (said.accepted L b T ok).ordered) (split_set T.splits i) i h refl)

  pub filled-right : Right L T.splits (filled_index L T)
  filled-right = made-right L 0 T.splits table-closed (omega arith)

  pub filled-costs : Costs b (λ F. length (taken T F)) T.splits (filled_index L T)
  unfolding cost_of taken
  filled-costs =
      made-costs L 0 T.splits table-closed (omega arith) b (λ F. length (taken T F))
      (λ i h. (
        none_more (length (taken_slots (slots T.splits i))) ∙ ap (λ (j : ℕ). length (taken_slots (slots T.splits j))) (sym (its_own i h)),
        few L b T (said.accepted L b T ok) (split_set T.splits i) (some-intro (split_count T.splits) (λ j. eqb (split_set T.splits j) (split_set T.splits i)) i h (eq-eqb (split_set T.splits i) (split_set T.splits i) refl)),
      ))

  -- so by it the feed is lawful for the list, at what the split feed counts
  pub filled-checked : (h : ℕ) → (stand_means b (λ F. length (taken T F)) T.splits (filled_index L T) h).Checked L
  filled-checked h = (filled-right, filled-costs)
