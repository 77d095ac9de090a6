-- What the search and the end of the preparation cite: a byte whose set is there already, and the splits and the index at the front of the lent lists. Assumes nothing.
use Prim.Native.Nat.{ℕ, ◌+◌, ◌-◌, ◌*◌, ◌≤◌, ◌<◌}
use mathlib.Core.Path.{◌≡◌, sym, ap, ap₂, ◌∙◌, subst}
use mathlib.Core.Bool.{Bool, true}
use mathlib.Core.List.{List, ◌++◌}
use native.Mathlib.Omega.{arith}
use lib.ListN.{length, get_or, take, drop, replicate, length-append, length-replicate}
use lib.Seq.{take_at}
use lib.Dec.{lit<}
use Rattle.numbers.specs.Number.{placed}
use Rattle.numbers.proofs.Placing.{placed-fits, length-placed}
use Rattle.rules.specs.Scan.{every}
use Rattle.rules.proofs.Scanning.{every-all}
use Rattle.list.specs.Automaton.{start, step}
use Rattle.list_alike.specs.inner.Alike.{Alikes}
use Rattle.table.specs.Table.{byte_values, most_splits, split_size, split_count, split_set, in_order, part}
use Rattle.table_classes.proofs.Fronts.{put}
use Rattle.table_build.specs.Build.{Reached, over}
use Rattle.table_build.specs.inner.Loops.{Among, Room, Added, Searched, Laid, sets_of}
use Rattle.table_build.proofs.Exploring.{Growing, Going, go-start, reached, sets-length, sets-at}
use Rattle.table_build.proofs.Finishing.{laid-over}
use Rattle.index.specs.Entry.{entry_place}
use Rattle.index_fill.specs.inner.Lows.{Led}
use Rattle.index_fill.specs.Filled.{index_of}
use Rattle.index_fill.proofs.Reading.{index-length}
use Rattle.index_prepare.specs.Prepare.{bare_split, splits_of, made_index}
use Rattle.index_prepare.specs.inner.Loops.{Leads, Seeks}
use Rattle.index_prepare.proofs.Right.{bare-size, split-length, split-count, in-order}

-- ---- bytes on which the list steps alike: a lower one leads where a byte does, from every set

pub alikes-lead : (L D : List ℕ) → Alikes L D → Leads L D
alikes-lead L D a F c l = λ low. a c l F

-- ---- one byte: Y has the sets that the bytes lead to from set i

module _ (L W P W₁ P₁ Y : List ℕ) (n m i c : ℕ) (v : (d : ℕ) → d < byte_values → part Y d ≡ step L (part W i) d) (l : c < byte_values) where
  -- where a lower byte leads to the same set, that is there
  pub there : (D : List ℕ) → Growing most_splits (step L) L W P W₁ P₁ n m i c → Led (step L (part W i)) D c → get_or D c 0 < c → Among P₁ m (part Y c)
  there D g led low = subst (λ (x : ℕ). Among P₁ m x) (led low ∙ sym (v c l)) (g.stepped (get_or D c 0) low)

  pub added : (W₂ P₂ : List ℕ) (r : ℕ) (full : Bool) → Added most_splits L W₁ P₁ W₂ P₂ m r (part Y c) full → Added most_splits L W₁ P₁ W₂ P₂ m r (step L (part W i) c) full
  added W₂ P₂ r full a = subst (λ (x : ℕ). Added most_splits L W₁ P₁ W₂ P₂ m r x full) (v c l) a

-- ---- the search: two lists that begin with the start set, and its end

pub begun : (L W P W₁ P₁ : List ℕ) → Room most_splits W → Room most_splits P → W₁ ≡ put W 0 (start L) → P₁ ≡ put P 0 (start L) → Going most_splits (step L) L W₁ P₁ W₁ P₁ 1 byte_values 0
begun L W P W₁ P₁ w p e d = rw (e, d) (go-start most_splits (step L) L W P byte_values (lit< tt) w p)

pub seeks : (L S X D' S' X' : List ℕ) (n : ℕ) (full : Bool) → Leads L D' → Searched most_splits (step L) L S X S' X' n byte_values full → Seeks L S X D' S' X' n full
seeks L S X D' S' X' n full a s =
    record {
      splits = s.long;
      index = s.long';
      leads = a;
      many = s.many;
      few = λ z. (s.known z).few;
      reached = λ z. reached most_splits L S' X' n (s.known z) (λ i c l h. s.closed z i l c h);
    }

-- ---- the lists at the end

pub over-long : (front lent : List ℕ) → length front ≤ length lent → length (over front lent) ≡ length lent
over-long front lent h = length-append front (replicate (length lent - length front) 0) ∙ omega (arith, length-replicate {A = ℕ} (length lent - length front) 0)

-- a list that is as long ends like it
pub over-same : (front b c : List ℕ) → length b ≡ length c → over front b ≡ over front c
over-same front b c e = rw e

module _ (P : List ℕ) (n : ℕ) where
  pub bare-over : (b lent : List ℕ) → length b ≡ length lent → Laid (λ i. bare_split (part P i)) split_size n b
      → take (split_size * n) b ++ replicate (length b - split_size * n) 0 ≡ over (splits_of (sets_of P n)) lent
  unfolding splits_of
  bare-over b lent e h =
      laid-over (λ i. bare_split (part P i)) (λ i. bare_split (get_or (sets_of P n) i 0)) split_size n (length (sets_of P n)) b lent e
      (λ i. bare-size (get_or (sets_of P n) i 0)) (sym (sets-length P n)) h (λ i l. ap bare_split (sym (sets-at P n i l)))

  pub bare-length : length (splits_of (sets_of P n)) ≡ split_size * n
  bare-length = split-length (sets_of P n) ∙ ap (λ (m : ℕ). split_size * m) (sets-length P n)

  -- the splits at the front
  pub bare-front : (b lent : List ℕ) → b ≡ over (splits_of (sets_of P n)) lent → take (split_size * n) b ≡ splits_of (sets_of P n)
  bare-front b lent e =
      ap (take (split_size * n)) e ∙ take_at (splits_of (sets_of P n)) (replicate (length lent - length (splits_of (sets_of P n))) 0) (split_size * n) bare-length

  module _ (L : List ℕ) where
    pub made-length : length (made_index L (sets_of P n)) ≡ entry_place n
    made-length = index-length L 1 (splits_of (sets_of P n)) (length (sets_of P n)) ∙ ap entry_place (sets-length P n)

    -- the index written at the front, and zeros behind it
    pub made-over : (b lent S : List ℕ) (k : ℕ) → S ≡ splits_of (sets_of P n) → k ≡ n → entry_place n ≤ length lent → b ≡ placed lent 0 (index_of L 1 S k)
        → take (entry_place n) b ++ replicate (length b - entry_place n) 0 ≡ over (made_index L (sets_of P n)) lent
    made-over b lent S k s q room e =
        let x = made_index L (sets_of P n) in
        let z : k ≡ length (sets_of P n) = q ∙ sym (sets-length P n) in
        let f : b ≡ x ++ drop (0 + length x) lent = e ∙ ap₂ (λ (T : List ℕ) (m : ℕ). placed lent 0 (index_of L 1 T m)) s z ∙ placed-fits lent 0 x (omega (arith, made-length)) in
        let t : take (entry_place n) b ≡ x = ap (take (entry_place n)) f ∙ take_at x (drop (0 + length x) lent) (entry_place n) made-length in
        let g : length b ≡ length lent = ap (λ (ys : List ℕ). length ys) e ∙ length-placed lent 0 (index_of L 1 S k) in
        rw (t, g, made-length)

    -- what the filler asks of the splits at the front
    pub fillable : (D S : List ℕ) → S ≡ splits_of (sets_of P n) → Reached L (sets_of P n) → n ≤ most_splits → Leads L D
        → (split_count S ≡ n) × (every (split_count S) (in_order S) ≡ true) × ((i c : ℕ) → i < split_count S → c < byte_values → Led (step L (split_set S i)) D c)
    fillable D S e a few leads =
        let q : split_count S ≡ length (sets_of P n) = ap split_count e ∙ split-count (sets_of P n) in (
          q ∙ sets-length P n,
          rw (q, e) (every-all (length (sets_of P n)) (in_order (splits_of (sets_of P n))) (in-order (sets_of P n) a.rises)),
          λ i c l h. leads (split_set S i) c h,
        )
