-- Every rule of every entry point in words, and so each refusal: exactly when its words hold and those of no earlier row do. Assumes nothing.
use Prim.Native.Nat.{ℕ, zero, suc, ◌+◌, ◌*◌, ◌/◌, ◌≤◌, ◌<◌}
use mathlib.Core.Path.{◌≡◌, refl, sym, ap, ◌∙◌}
use mathlib.Core.Bool.{Bool, true, false, ◌||◌, cond, not, true≢false}
use mathlib.Core.List.{List, [], ◌∷◌, ◌++◌}
use mathlib.Core.Logic.{◌⊎◌, inl, inr, ◌↔◌}
use native.Mathlib.Omega.{arith}
use native.Mathlib.Decide.{ℕ_discrete}
use lib.ListN.{length, get_or}
use lib.Dec.{eqb, ltb}
use borrow.Author.Tests.{eq-eqb, ne_eqb, ltb-false, lt-ltb, le-ltb, not-true}
use Rattle.sets.specs.Set.{signatures, set_size, members, within, set_at}
use Rattle.sets.proofs.Members.{members-size}
use Rattle.rules.specs.Words.{InWords}
use Rattle.rules.specs.Rules.{Rule, verdict}
use Rattle.rules.proofs.Scanning.{choose, neither, either-words, over-words, differ-words, below_suc, rising-exactly}
use Rattle.rules.proofs.Saying.{Says, says-append, tells}
use Rattle.list.specs.List.{records, is_start, good_record, list_rules}
use Rattle.list.specs.Words.{Edge-bytes, Start-bytes, Accept-bytes}
use Rattle.list.proofs.Listed.{bad-length, bad-record, record-exactly, no-start, kind-start}
use Rattle.list_flow.specs.Flow.{frontier_of, offset_of, bad_flow, wrong_size, flow_rules, feed_rules}
use Rattle.list_flow.proofs.Refused.{wrong-size, bad-flow}
use Rattle.list_flow.specs.Opening.{open_pairs, open_rules}
use Rattle.list_flow.proofs.Opening.{open_pairs-long}
use Rattle.list.specs.Automaton.{start, accepted, named, highest}
use Rattle.list.proofs.Named.{names-bytes, named-bytes, outside-exactly}
use Rattle.feed.specs.Engine.{room}
use Rattle.feed.specs.Opening.{no_room}
use Rattle.feed.proofs.Piece.{other-start, too-long, piece-says}
use Rattle.table.specs.Table.{Table, most_splits, most_bound, split_size, part_count, split_count, split_set, slots, used_slots, good_slots, in_order, unordered, bad_bound, bad_count, bad_lengths, bad_splits, bad_rows, bad_union, no_start_split, not_closed, size_rules, rising_rules, table_rules}
use Rattle.table.proofs.Accepted.{Slots-good}
use Rattle.table.proofs.Joined.{below-exactly}
use Rattle.table.proofs.Checked.{bad-bound, bad-classes, bad-count, bad-rows-length, bad-lengths, bad-splits, bad-rows, bad-union, no-start-split, not-closed, slots-exactly, in-order-first, in-order-exactly, unordered-exactly}
use Rattle.table_feed.specs.Split.{split_rules}
use Rattle.matrix.specs.Matrix.{matrix_length, wrong_matrix, fill_rules, matrix_rules}
use Rattle.list.proofs.Highest.{names-low, highest-is}
use Rattle.index.specs.Entry.{entry_place, flag_at, known_in, wrong_index, bad_index}
use Rattle.index.specs.Stand.{holds_at, named_by, stand_rules}
use Rattle.index.proofs.Hints.{holds-said}
use Rattle.index_fill.specs.Filled.{index_rules}
use Rattle.laws.specs.Words.{list_words, Foreign, flow_words, feed_words, Highest, length_words, Miscounted, Mislisted, SlotsGood, Rises, size_words, entry_words, Unordered, Misindexed, Misfit, Hinted, Outside, Unnamed}
use Rattle.laws.proofs.Words.{opening_rows, open_words, fill_words, matrix_words, table_words, split_words, index_words, prepared_words}

-- ---- the rows

-- a test fails exactly when its words do
fails : (A : Type 0) (b : Bool) → b ≡ true ↔ A → b ≡ false ↔ (A → ⊥)
fails A true f = (λ e. absurd (true≢false e), λ n. absurd (n (f.0 refl)))
fails A false f = (λ e x. true≢false (sym (f.1 x)), λ n. refl)

via : {A B C : Type 0} → A ↔ B → B ↔ C → A ↔ C
via f g = (λ a. g.0 (f.0 a), λ c. f.1 (g.1 c))

same : {A : Type 0} → A ↔ A
same = (λ x. x, λ x. x)

sides : {A B C D : Type 0} → A ↔ B → C ↔ D → (A ⊎ C) ↔ (B ⊎ D)
sides f g = (λ s. choose s (λ x. inl (f.0 x)) (λ y. inr (g.0 y)), λ s. choose s (λ x. inl (f.1 x)) (λ y. inr (g.1 y)))

-- of each i below n
some_of : (n : ℕ) (A B : ℕ → Type 0) → ((i : ℕ) → i < n → A i ↔ B i) → ((i : ℕ) × (i < n) × A i) ↔ ((i : ℕ) × (i < n) × B i)
some_of n A B f = (λ w. (w.0, w.1, (f w.0 w.1).0 w.2), λ w. (w.0, w.1, (f w.0 w.1).1 w.2))

module _ (L : List ℕ) where
  Good : ℕ → Type 0
  Good i = (Edge-bytes L i ⊎ Start-bytes L i) ⊎ Accept-bytes L i

  pub list-says : Says (list_rules L) (list_words L)
  unfolding Good
  list-says = (
    refl,
    bad-length L,
    (
      refl,
      via (bad-record L) (some_of (records L) (λ i. good_record L i ≡ false) (λ i. Good i → ⊥) (λ i h. fails (Good i) (good_record L i) (record-exactly L i))),
      (refl, via (no-start L) no-starts, tt),
    ),
  )
    where
      no-starts : ((i : ℕ) → i < records L → is_start L i ≡ false) ↔ ((i : ℕ) → i < records L → get_or L (8 * i) 0 ≡ 2 → ⊥)
      no-starts = (λ f i h e. true≢false (sym ((kind-start L i).1 e) ∙ f i h), λ f i h. (fails (get_or L (8 * i) 0 ≡ 2) (is_start L i) (kind-start L i)).1 (f i h))

  -- 15: the pairs are more than the room exactly where the words are fewer than two for each
  no-room : (out : List ℕ) → no_room (open_pairs L) out ≡ true ↔ (length out < 2 * length (members signatures (accepted L (start L))))
  no-room out =
      let G = accepted L (start L) in
      let e = over-words (room out) (length (open_pairs L) / 2) in (
        λ t. omega (arith, e.0 t, open_pairs-long L, members-size signatures G),
        λ l. e.1 (omega (arith, l, open_pairs-long L, members-size signatures G)),
      )

  open-says : (R out : List ℕ) → Says (open_rules L R out) (open_words L R out)
  open-says R out =
      says-append (list_rules L) ((4, wrong_size R) ∷ (15, no_room (open_pairs L) out) ∷ []) (list_words L) (opening_rows L R out) list-says
      (refl, wrong-size R, (refl, no-room out, tt))

  -- 4: some state of the frontier is one that no record names
  foreign : (R : List ℕ) → not (within (frontier_of R) (named L)) ≡ true ↔ Foreign L R
  foreign R =
      let e = outside-exactly (frontier_of R) (named L) in (
        λ t. let w = e.0 t in (w.0, w.1, λ n. w.2 ((named-bytes L w.0).1 n)),
        λ w. e.1 (w.0, w.1, λ h. w.2 ((named-bytes L w.0).0 h)),
      )

  pub feed-says : (R : List ℕ) (at : ℕ) (piece : List ℕ) → Says (feed_rules L R at piece) (feed_words L R at piece)
  feed-says R at piece =
      says-append (list_rules L) (flow_rules (within (frontier_of R) (named L)) R at piece) (list_words L) (flow_words (Foreign L R) R at piece) list-says
      (refl, either-words _ (Foreign L R) (bad_flow R) (not (within (frontier_of R) (named L))) (bad-flow R) (foreign R), piece-says (offset_of R) at piece)

  -- the highest state is one number, and it is the definition's
  highest-words : Highest L (highest L)
  highest-words =
      record {
        most = λ i s h n. names-low L i s h ((names-bytes L i s).1 n);
        named = choose (highest-is L (records L)) (λ z. inl z) (λ w. inr (w.0, w.1, (names-bytes L w.0 (highest L)).0 w.2));
      }

  highest-most : (m n : ℕ) → Highest L m → Highest L n → m ≤ n
  highest-most m n p q = choose p.named (λ z. omega arith) (λ w. q.most w.0 m w.1 w.2)

  -- 8: the length is not that of the highest state
  length-says : (X : List ℕ) → Says ((8, wrong_matrix L X) ∷ []) (length_words L X)
  length-says X = (refl, via (differ-words (length X) (matrix_length L)) (λ f n h e. f (rw (one n h) e), λ g e. g (highest L) highest-words e), tt)
    where
      one : (n : ℕ) → Highest L n → highest L ≡ n
      one n h = omega (arith, highest-most (highest L) n highest-words h, highest-most n (highest L) h highest-words)

  fill-says : (X : List ℕ) → Says (fill_rules L X) (fill_words L X)
  fill-says X = says-append (list_rules L) ((8, wrong_matrix L X) ∷ []) (list_words L) (length_words L X) list-says (length-says X)

  matrix-says : (X R : List ℕ) (at : ℕ) (piece : List ℕ) → Says (matrix_rules L X R at piece) (matrix_words L X R at piece)
  matrix-says X R at piece =
      says-append (feed_rules L R at piece) ((8, wrong_matrix L X) ∷ []) (feed_words L R at piece) (length_words L X) (feed-says R at piece) (length-says X)

-- the slots of a split in words
slots-words : (n b : ℕ) (ss : List ℕ) → Slots-good n b ss ↔ SlotsGood n b ss
slots-words n b ss = (there, back)
  where
    there : Slots-good n b ss → SlotsGood n b ss
    there g = record { named = (below-exactly n (used_slots ss)).0 g.named; taken = sym g.taken; rise = λ i h. (rising-exactly (used_slots ss)).0 g.rise i (suc i) (omega arith) h; few = g.few }

    up : (xs : List ℕ) → ((i : ℕ) → suc i < length xs → get_or xs i 0 < get_or xs (suc i) 0) → (i j : ℕ) → i < j → j < length xs → get_or xs i 0 < get_or xs j 0
    up xs f i zero l h = absurd (omega arith)
    up xs f i (suc j) l h = elim (ℕ_discrete i j) [ yes e ↦ rw e (f j h) | no n ↦ omega (arith, f j h, up xs f i j (below i j l n) (omega arith)) ]
      where
        below : (i j : ℕ) → i < suc j → (i ≡ j → ⊥) → i < j
        below i j l n = choose (below_suc i j l) (λ m. m) (λ e. absurd (n e))

    back : SlotsGood n b ss → Slots-good n b ss
    back g = record { named = (below-exactly n (used_slots ss)).1 g.named; taken = sym g.taken; rise = (rising-exactly (used_slots ss)).1 (up (used_slots ss) g.rise); few = g.few }

-- a set that does not rise
order-fails : (S : List ℕ) (i : ℕ) → suc i < split_count S → in_order S (suc i) ≡ false ↔ (Rises S i → ⊥)
order-fails S i h = fails (Rises S i) (in_order S (suc i)) (in-order-exactly S i h)

-- some set does not come after the one before
order-words : (S : List ℕ) → unordered S ≡ true ↔ ((i : ℕ) × (suc i < split_count S) × (Rises S i → ⊥))
order-words S =
    via (unordered-exactly S)
    (λ w. (w.0, w.1, (order-fails S w.0 w.1).0 w.2), λ w. (w.0, w.1, (order-fails S w.0 w.1).1 w.2))

-- 8 of an index
index-words : (S X : List ℕ) → wrong_index S X ≡ true ↔ Misindexed S X
index-words S X = differ-words (length X) (entry_place (split_count S))

module _ (b : ℕ) (T : Table) where
  -- 8 of the table's lists
  lists-words : bad_lengths T ≡ true ↔ Mislisted T
  lists-words = via (bad-lengths T) (sides (sides (sides (bad-classes T.classes) same) same) (bad-rows-length T))

  size-says : Says (size_rules b T) (size_words b T)
  size-says = (refl, bad-bound b, (refl, lists-words, tt))

  -- some split's slots are not good, or it does not come after the one before
  splits-words : bad_splits b T ≡ true
      ↔ (((i : ℕ) × (i < split_count T.splits) × (SlotsGood (part_count T.parts) b (slots T.splits i) → ⊥))
      ⊎ ((i : ℕ) × (suc i < split_count T.splits) × (Rises T.splits i → ⊥)))
  splits-words = via (bad-splits b T) (there, back)
    where
      S : List ℕ
      S = T.splits

      n : ℕ
      n = part_count T.parts

      slots-fail : (i : ℕ) → good_slots (part_count T.parts) b (slots T.splits i) ≡ false ↔ (SlotsGood (part_count T.parts) b (slots T.splits i) → ⊥)
      slots-fail i = fails (SlotsGood (part_count T.parts) b (slots T.splits i)) (good_slots (part_count T.parts) b (slots T.splits i)) (via (slots-exactly (part_count T.parts) b (slots T.splits i)) (slots-words (part_count T.parts) b (slots T.splits i)))

      Bad : Type 0
      Bad =
          ((i : ℕ) × (i < split_count T.splits) × (SlotsGood (part_count T.parts) b (slots T.splits i) → ⊥))
          ⊎ ((i : ℕ) × (suc i < split_count T.splits) × (Rises T.splits i → ⊥))

      later : (i : ℕ) → i < split_count T.splits → in_order T.splits i ≡ false → Bad
      later zero h e = absurd (true≢false (sym (in-order-first T.splits) ∙ e))
      later (suc i) h e = inr (i, h, (order-fails T.splits i h).0 e)

      there : (i : ℕ) × (i < split_count T.splits) × ((good_slots (part_count T.parts) b (slots T.splits i) ≡ false) ⊎ (in_order T.splits i ≡ false)) → Bad
      there w = choose w.2 (λ e. inl (w.0, w.1, (slots-fail w.0).0 e)) (λ e. later w.0 w.1 e)

      back : Bad → (i : ℕ) × (i < split_count T.splits) × ((good_slots (part_count T.parts) b (slots T.splits i) ≡ false) ⊎ (in_order T.splits i ≡ false))
      back s = choose s (λ w. (w.0, w.1, inl ((slots-fail w.0).1 w.2))) (λ w. (suc w.0, w.1, inr ((order-fails T.splits w.0 w.1).1 w.2)))

  -- 9 to 13
  abbrev entry_rules : List ℕ → List Rule
  entry_rules L = (9, bad_splits b T) ∷ (10, bad_rows L T) ∷ (11, bad_union T) ∷ (12, no_start_split L T) ∷ (13, not_closed L T) ∷ []

  entry-says : (L : List ℕ) → Says (entry_rules L) (entry_words L b T)
  entry-says L = (refl, splits-words, (refl, bad-rows L T, (refl, bad-union L T, (refl, no-start-split L T, (refl, not-closed L T, tt)))))

  table-says : (L : List ℕ) → Says (table_rules L b T) (table_words L b T)
  table-says L =
      says-append (list_rules L) (size_rules b T ++ entry_rules L) (list_words L) (size_words b T ++ entry_words L b T) (list-says L)
      (says-append (size_rules b T) (entry_rules L) (size_words b T) (entry_words L b T) size-says (entry-says L))

  rising-says : Says (rising_rules b T) (size_words b T ++ ((9, Unordered T.splits) ∷ []))
  rising-says = says-append (size_rules b T) ((9, unordered T.splits) ∷ []) (size_words b T) ((9, Unordered T.splits) ∷ []) size-says (refl, order-words T.splits, tt)

  split-says : (L R : List ℕ) (at : ℕ) (piece : List ℕ) → Says (split_rules L b T R at piece) (split_words L b T R at piece)
  split-says L R at piece = says-append (feed_rules L R at piece) (rising_rules b T) (feed_words L R at piece) (size_words b T ++ ((9, Unordered T.splits) ∷ [])) (feed-says L R at piece) rising-says

  index-says : (L X : List ℕ) → Says (index_rules L b T X) (index_words L b T X)
  index-says L X =
      says-append (list_rules L) ((7, bad_bound b) ∷ (8, bad_lengths T || wrong_index T.splits X) ∷ entry_rules L) (list_words L) ((7, (b ≡ 0) ⊎ (most_bound < b)) ∷ (8, Mislisted T ⊎ Misindexed T.splits X) ∷ entry_words L b T) (list-says L) (
        refl,
        bad-bound b,
        (refl, either-words (Mislisted T) (Misindexed T.splits X) (bad_lengths T) (wrong_index T.splits X) lists-words (index-words T.splits X), entry-says L),
      )

-- ---- the prepared feed

module _ (S X : List ℕ) (h : ℕ) where
  -- 8 of its lists
  index-lists : bad_index S X ≡ true ↔ Misfit S X
  unfolding bad_index
  index-lists = either-words (Miscounted split_size most_splits S) (Misindexed S X) (bad_count split_size most_splits S) (wrong_index S X) (bad-count split_size most_splits S) (index-words S X)

  -- the flow stands at the split that is handed in
  hinted : (R : List ℕ) → holds_at S X h (frontier_of R) ≡ true ↔ Hinted S X h R
  unfolding holds_at
  hinted R = (
    λ e. let p = holds-said S X h (frontier_of R) e in ((fails (Misfit S X) (bad_index S X) index-lists).0 p.0, p.1, p.2),
    λ w. rw ((fails (Misfit S X) (bad_index S X) index-lists).1 w.0, lt-ltb h (split_count S) w.1, eq-eqb (split_set S h) (frontier_of R) w.2),
  )

  -- some state of the frontier is not among those that the index begins with
  outside : (R : List ℕ) → not (known_in X (frontier_of R)) ≡ true ↔ Outside X R
  unfolding known_in
  outside R =
      let o = outside-exactly (frontier_of R) (set_at X 0) in (
        λ e.
            let n = neither (ltb (length X) set_size) (within (frontier_of R) (set_at X 0)) (not-true (ltb (length X) set_size || within (frontier_of R) (set_at X 0)) e) in
            (ltb-false (length X) set_size n.0, o.0 (ap not n.1)),
        λ w. rw (le-ltb (length X) set_size w.0) (o.1 w.1),
      )

  unnamed : (R : List ℕ) → not (named_by S X h (frontier_of R)) ≡ true ↔ Unnamed S X h R
  unfolding named_by
  unnamed R = go (holds_at S X h (frontier_of R)) refl
    where
      zero_flag : (n : ℕ) → not (not (eqb n 0)) ≡ true ↔ (n ≡ 0)
      zero_flag zero = (λ e. refl, λ e. refl)
      zero_flag (suc n) = (λ e. absurd (true≢false (sym e ∙ rw (ne_eqb (suc n) 0 (λ q. omega arith)))), λ e. absurd (omega arith))

      go : (t : Bool) → holds_at S X h (frontier_of R) ≡ t → not (cond t (not (eqb (flag_at X (entry_place h)) 0)) (known_in X (frontier_of R))) ≡ true ↔ Unnamed S X h R
      go true e =
          let w = (hinted R).0 e in
          let z = zero_flag (flag_at X (entry_place h)) in
          (λ f. inl (w, z.0 f), λ s. choose s (λ p. z.1 p.1) (λ p. absurd (p.0 w)))
      go false e =
          let n = (fails (Hinted S X h R) (holds_at S X h (frontier_of R)) (hinted R)).0 e in
          (λ f. inr (n, (outside R).0 f), λ s. choose s (λ p. absurd (n p.0)) (λ p. (outside R).1 p.1))

  prepared-says : (R : List ℕ) (at : ℕ) (piece : List ℕ) → Says (stand_rules S X h R at piece) (prepared_words S X h R at piece)
  prepared-says R at piece = (
    refl,
    either-words _ (Unnamed S X h R) (bad_flow R) (not (named_by S X h (frontier_of R))) (bad-flow R) (unnamed R),
    (refl, other-start (offset_of R) at, (refl, too-long (offset_of R) piece, (refl, index-lists, tt))),
  )

-- ---- each entry point

pub list_tells : (L : List ℕ) → InWords (list_words L) (verdict (list_rules L))
list_tells L = tells (list_rules L) (list_words L) refl (list-says L)

pub open-tells : (L R out : List ℕ) → InWords (open_words L R out) (verdict (open_rules L R out))
open-tells L R out = tells (open_rules L R out) (open_words L R out) refl (open-says L R out)

pub feed-tells : (L R : List ℕ) (at : ℕ) (piece : List ℕ) → InWords (feed_words L R at piece) (verdict (feed_rules L R at piece))
feed-tells L R at piece = tells (feed_rules L R at piece) (feed_words L R at piece) refl (feed-says L R at piece)

pub table-tells : (L : List ℕ) (b : ℕ) (T : Table) → InWords (table_words L b T) (verdict (table_rules L b T))
table-tells L b T = tells (table_rules L b T) (table_words L b T) refl (table-says b T L)

pub split-tells : (L : List ℕ) (b : ℕ) (T : Table) (R : List ℕ) (at : ℕ) (piece : List ℕ) → InWords (split_words L b T R at piece) (verdict (split_rules L b T R at piece))
split-tells L b T R at piece = tells (split_rules L b T R at piece) (split_words L b T R at piece) refl (split-says b T L R at piece)

pub fill-tells : (L X : List ℕ) → InWords (fill_words L X) (verdict (fill_rules L X))
fill-tells L X = tells (fill_rules L X) (fill_words L X) refl (fill-says L X)

pub matrix-tells : (L X R : List ℕ) (at : ℕ) (piece : List ℕ) → InWords (matrix_words L X R at piece) (verdict (matrix_rules L X R at piece))
matrix-tells L X R at piece = tells (matrix_rules L X R at piece) (matrix_words L X R at piece) refl (matrix-says L X R at piece)

pub index-tells : (L : List ℕ) (b : ℕ) (T : Table) (X : List ℕ) → InWords (index_words L b T X) (verdict (index_rules L b T X))
index-tells L b T X = tells (index_rules L b T X) (index_words L b T X) refl (index-says b T L X)

pub prepared-tells : (S X : List ℕ) (h : ℕ) (R : List ℕ) (at : ℕ) (piece : List ℕ) → InWords (prepared_words S X h R at piece) (verdict (stand_rules S X h R at piece))
prepared-tells S X h R at piece = tells (stand_rules S X h R at piece) (prepared_words S X h R at piece) refl (prepared-says S X h R at piece)
