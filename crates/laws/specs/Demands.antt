-- The order's three demands as statements about the definitions. Each entry point of the code promises to be its definition, so they are statements about the code.
use Rattle.std.specs.Prelude.{ℕ, suc, ◌+◌, ◌*◌, ◌≤◌, ◌<◌, true, false, List, [], ◌∷◌, ◌++◌, ◌⊎◌, ◌↔◌, ◌≡◌, length, take, get_or}
use Rattle.sets.specs.Set.{signatures, holds, members}
use Rattle.rules.specs.Rules.{verdict, Rises, Refuses}
use Rattle.list.specs.List.{list_rules, list_refusal}
use Rattle.list.specs.Automaton.{start, accepted}
use Rattle.feed.specs.Pairs.{Pair}
use Rattle.feed.specs.Engine.{Engine, run, costs, room, feed}
use Rattle.list_flow.specs.Flow.{flow_size, flow_layout, frontier_of, offset_of, rows_of, bad_flow, feed_rules}
use Rattle.list_flow.specs.Opening.{opened, open_pairs, first_rules, open_rules, open_flow}
use Rattle.feed.specs.Calls.{Bytes, costing, outcome, ruled, asked, all_bytes, all_told, record_after, Pieces, Along}
use Rattle.feed.specs.Demands.{Unchanged, Answered, OneOpening, OneFeed, Tells, Counts, Flowed, Onward, Cuts}
use Rattle.feed.specs.Opening.{Opening}
use Rattle.feed.specs.Piece.{other_start}
use Rattle.feed.specs.Demands as calls
use Rattle.feed.specs.Lawful as lawful
use Rattle.list_feed.specs.Means.{list_automata}
use Rattle.list_feed.specs.Plain.{plain, plain_feed}
use Rattle.table.specs.Table.{Table, most_bound, part_count, split_count, size_rules, table_rules, table_refusal}
use Rattle.table_feed.specs.Split.{taken, stuck, split, split_feed}
use Rattle.matrix.specs.Matrix.{filled, fill_rules, Fills, matrix_feed}
use Rattle.index.specs.Stand.{Stand, indexed, stand_rules, stand_feed, stood_at}
use Rattle.index.specs.Right.{IsAt, Right}
use Rattle.index_fill.specs.Filled.{filled_index, index_rules, FillsIndex}
use Rattle.index_prepare.specs.Prepare.{Preparing, Prepares, splits_of, made_index}
use Rattle.table_build.specs.Words.{Tabled, fronts, unbuilt, Ends, ZerosBehind}
use Rattle.table_build.specs.Build.{Building, Builds, Reached}
use Rattle.rules.specs.Words.{InWords}
use Rattle.laws.specs.Words.{list_words, size_words, entry_words, length_words, Mislisted, Misindexed, NoSplit, build_words, prepare_words}
use Rattle.laws.specs.Words as words
use Rattle.laws.specs.Calls.{Via, by_list, by_table, by_index, by_slots, by_one, means_of, words_by, Checked, Names, Call, way_of, OnList}

-- ==== Demand 1: each refusal has a number, is given exactly when the rules say, and changes nothing in the buffers;
-- ==== only 14, met by the split feed and the prepared feed at some byte, keeps the bytes before it, and 16, met by the builder and by what is made straight from a list, fills the lists with zeros.

pub record Demand1 : Type 0 where
  -- in the rules of each entry point the numbers rise: of those that apply, the lowest is given
  pub lowest : (L : List ℕ) (b : ℕ) (T : Table) (X R out : List ℕ) (c : Call)
      → Rises (list_rules L) × Rises (open_rules L R out) × Rises (table_rules L b T) × Rises (fill_rules L X) × Rises (index_rules L b T X) × Rises (ruled way_of R c)
  -- the list check: 1 to 3; and in words: each number exactly when its words hold and those of no row before it do
  pub lists : (L : List ℕ) → Refuses (list_rules L) (list_refusal L)
  pub lists-said : (L : List ℕ) → InWords (list_words L) (list_refusal L)
  -- opening: 1 to 4, then 15 exactly when the pairs of offset 0 are more than the room, so that there are fewer words than two for each signature that the start set accepts; of the record
  -- and the words only their lengths are looked at.
  -- It leaves the start states at offset 0 with no rows read
  pub opens : (L R out : List ℕ) → OneOpening (first_rules L R) (open_pairs L) (opened L) R out (open_flow L R out)
  pub opens-said : (L R out : List ℕ) → InWords (list_words L ++ ((4, length R ≡ flow_size → ⊥) ∷ (15, length out < 2 * length (members signatures (accepted L (start L)))) ∷ [])) (open_flow L R out).refusal
  pub opens-length : (L R Q out ws : List ℕ) → length R ≡ length Q → length out ≡ length ws → (open_flow L R out).refusal ≡ (open_flow L Q ws).refusal
  -- a feed, by any way: its rules are those of its words, which no 14 is of and which take a front of each piece that they take; so what `OneFeed` says of 14 holds.
  -- The plain feed: 1 to 6; the matrix feed: 1 to 6, then 8; the split feed: 1 to 9; the prepared feed: 4 to 6 and 8
  pub feeds : (R : List ℕ) (c : Call) → OneFeed (way_of c.by) R c.at c.piece c.out (outcome way_of R c)
  pub feeds-refuse : (R : List ℕ) (c : Call) → Refuses (ruled way_of R c) (verdict (ruled way_of R c))
  pub feeds-said : (R : List ℕ) (c : Call) → InWords (words_by c.by.via c.by.list R c.at c.piece) (verdict (ruled way_of R c))
  pub feeds-low : (R : List ℕ) (c : Call) → verdict (ruled way_of R c) < 14
  pub feeds-cut : (R : List ℕ) (c : Call) (n : ℕ) → verdict (ruled way_of R c) ≡ 0 → verdict ((way_of c.by).rules R c.at (take n c.piece)) ≡ 0
  -- 14 in words: the split feed halts at a frontier F where no split has that set, a slot taken names no part, or more than b are taken; the prepared feed at a place behind which no whole entry stands
  pub stuck-said : (b : ℕ) (T : Table) (F : ℕ) → stuck b T F ≡ true
      ↔ ((NoSplit T.splits F ⊎ ((i : ℕ) × (i < length (taken T F)) × (part_count T.parts ≤ get_or (taken T F) i 0))) ⊎ (b < length (taken T F)))
  pub lost-said : (S X : List ℕ) (x : Stand) → (indexed S X).halts x ≡ true ↔ (length X < x.place + 1088)
  -- the split feed, where the splits' sets rise: the outcome is that of the rules 1 to 8, without 9
  pub splits-rising : (L : List ℕ) (b : ℕ) (T : Table) (R : List ℕ) (at : ℕ) (piece out : List ℕ) → ((i : ℕ) → suc i < split_count T.splits → words.Rises T.splits i)
      → split_feed L b T R at piece out ≡ feed (feed_rules L R at piece ++ size_rules b T) (split L b T) flow_layout R piece out
  -- by the list's matrix the matrix feed answers and leaves what the plain feed does, and by the index of a table that the check accepts the prepared feed
  -- what the split feed does, on every record, start, piece and buffer
  pub matrices-plain : (L R : List ℕ) (at : ℕ) (piece out : List ℕ) → Bytes piece → matrix_feed L (filled L) R at piece out ≡ plain_feed L R at piece out
  pub prepares-split : (L : List ℕ) (b : ℕ) (T : Table) (h : ℕ) (R : List ℕ) (at : ℕ) (piece out : List ℕ) → table_refusal L b T ≡ 0 → Bytes T.splits → Bytes piece
      → stand_feed T.splits (filled_index L T) h R at piece out ≡ split_feed L b T R at piece out
  -- the table check: 1 to 3 and 7 to 13
  pub tables : (L : List ℕ) (b : ℕ) (T : Table) → Refuses (table_rules L b T) (table_refusal L b T)
  pub tables-said : (L : List ℕ) (b : ℕ) (T : Table) → InWords (list_words L ++ (size_words b T ++ entry_words L b T)) (table_refusal L b T)
  -- filling a matrix: 1 to 3, then 8; filling an index: 1 to 3 and 7 to 13, where 8 covers the index's length; a refusal leaves the bytes as they were, else they are the list's
  -- matrix, and the index of the table, which is accepted
  pub fills-said : (L X : List ℕ) (refusal : ℕ) (left : List ℕ) → Fills L X refusal left → InWords (list_words L ++ length_words L X) refusal
  pub fills-not : (L X : List ℕ) (refusal : ℕ) (left : List ℕ) → Fills L X refusal left → (refusal ≡ 0 → ⊥) → left ≡ X
  pub fills-passes : (L X : List ℕ) (refusal : ℕ) (left : List ℕ) → Fills L X refusal left → refusal ≡ 0 → left ≡ filled L
  pub indexes-said : (L : List ℕ) (b : ℕ) (T : Table) (X : List ℕ) (refusal : ℕ) (left : List ℕ) → FillsIndex L b T X refusal left
      → InWords (list_words L ++ ((7, (b ≡ 0) ⊎ (most_bound < b)) ∷ (8, Mislisted T ⊎ Misindexed T.splits X) ∷ entry_words L b T)) refusal
  pub indexes-not : (L : List ℕ) (b : ℕ) (T : Table) (X : List ℕ) (refusal : ℕ) (left : List ℕ) → FillsIndex L b T X refusal left → (refusal ≡ 0 → ⊥) → left ≡ X
  pub indexes-passes : (L : List ℕ) (b : ℕ) (T : Table) (X : List ℕ) (refusal : ℕ) (left : List ℕ) → FillsIndex L b T X refusal left → refusal ≡ 0
      → (table_refusal L b T ≡ 0) × (left ≡ filled_index L T)
  -- the builder, in lists lent as T: 1 to 3, then 17, then 16; there is one outcome, and a refusal but 16 changes nothing
  pub builds-one : (L : List ℕ) (T : Table) (o p : Building) → Builds L T o → Builds L T p → o ≡ p
  pub builds-said : (L : List ℕ) (T : Table) (o : Building) → Builds L T o → InWords (build_words L T) o.refusal
  pub builds-not : (L : List ℕ) (T : Table) (o : Building) → Builds L T o → (o.refusal ≡ 0 → ⊥) → (o.refusal ≡ 16 → ⊥) → o ≡ unbuilt o.refusal T
  -- the exception: 16 answers no lengths, and leaves each list as long as it was, and zeros alone in it
  pub builds-16 : (L : List ℕ) (T : Table) (o : Building) → Builds L T o → o.refusal ≡ 16 → (o ≡ unbuilt 16 o.lists) × ZerosBehind T o
  -- without a refusal the fronts of the lists are the table of what can be reached, which the check accepts at 1, and zeros follow them
  pub builds-passes : (L : List ℕ) (T : Table) (o : Building) → Builds L T o → o.refusal ≡ 0 → Tabled L (fronts o) × (table_refusal L 1 (fronts o) ≡ 0) × ZerosBehind T o

-- ==== Demand 1 of the calls that came later: the hint of the prepared feed, and splits and an index straight from a list.

-- what is left in the lists lent as S and X where nothing is refused: the sets that can be reached, rising, each as a split without slots, and their index; and zeros behind both
pub record Prepared (L S X : List ℕ) (o : Preparing) : Type 0 where
  pub sets : List ℕ
  pub reached : Reached L sets
  pub splits : take o.splits o.made ≡ splits_of sets
  pub index : take o.index o.indexed ≡ made_index L sets
  pub behind : Ends S o.made o.splits
  pub after : Ends X o.indexed o.index

pub record DemandPrepared : Type 0 where
  -- the split that the prepared feed answers: where a rule refuses, the hint; else, by a right index, the split whose set is the frontier that is left, or the number of splits where none is.
  -- By a right index all else is the same for every hint
  pub hints-kept : (S X : List ℕ) (h : ℕ) (R : List ℕ) (at : ℕ) (piece out : List ℕ) → (verdict (stand_rules S X h R at piece) ≡ 0 → ⊥) → stood_at S X h R at piece out ≡ h
  pub stands-said : (L S X : List ℕ) → Right L S X → (h : ℕ) (R : List ℕ) (at : ℕ) (piece out : List ℕ) → Bytes R → Bytes piece → verdict (stand_rules S X h R at piece) ≡ 0
      → let F = frontier_of (stand_feed S X h R at piece out).saved in
      IsAt S F (stood_at S X h R at piece out) ⊎ ((stood_at S X h R at piece out ≡ split_count S) × ((j : ℕ) → IsAt S F j → ⊥))
  pub hints-alike : (L S X : List ℕ) → Right L S X → (h k : ℕ) (R : List ℕ) (at : ℕ) (piece out : List ℕ)
      → (stand_feed S X h R at piece out ≡ stand_feed S X k R at piece out) × (verdict (stand_rules S X k R at piece) ≡ 0 → stood_at S X h R at piece out ≡ stood_at S X k R at piece out)
  -- splits and an index straight from a list, in lists lent as S and X: 1 to 3, then 17, then 16; there is one outcome, a refusal but 16 changes nothing, and 16 leaves zeros
  pub prepares-one : (L S X : List ℕ) (o p : Preparing) → Prepares L S X o → Prepares L S X p → o ≡ p
  pub prepares-said : (L S X : List ℕ) (o : Preparing) → Prepares L S X o → InWords (prepare_words L S X) o.refusal
  pub prepares-not : (L S X : List ℕ) (o : Preparing) → Prepares L S X o → (o.refusal ≡ 0 → ⊥) → (o.refusal ≡ 16 → ⊥)
      → (o.splits ≡ 0) × (o.index ≡ 0) × (o.made ≡ S) × (o.indexed ≡ X)
  pub prepares-16 : (L S X : List ℕ) (o : Preparing) → Prepares L S X o → o.refusal ≡ 16 → (o.splits ≡ 0) × (o.index ≡ 0) × Ends S o.made 0 × Ends X o.indexed 0
  pub prepares-passes : (L S X : List ℕ) (o : Preparing) → Prepares L S X o → o.refusal ≡ 0 → Prepared L S X o

-- ==== Demand 2: the plain feed reports exactly the pairs that the automaton's definition gives for the bytes consumed, going on from
-- ==== the flow's saved frontier, each once, by offset and then signature. It consumes as many bytes as have room for their pairs.
-- ==== A piece that doesn't begin at the flow's offset is refused. From opening on the pairs of offset 0 count as well.

-- a call that no rule refuses is a plain feed on L; one that is refused may hold anything
abbrev pub Plainly : List ℕ → List ℕ → Call → Type 0
Plainly L R c = verdict (ruled way_of R c) ≡ 0 → (c.by.list ≡ L) × (c.by.via ≡ by_list)

pub record Demand2 (L R : List ℕ) (cs : List Call) : Type 0 where
  -- exactly the pairs of the definition on the bytes consumed, going on from the saved frontier, by offset and then signature; and the record goes on from there
  pub tells : Tells way_of flow_layout (plain L) R cs
  -- in the automaton's words: (g, k) is told exactly when k is the offset after one of those bytes and a state of the frontier there accepts g
  pub due : (g k : ℕ) → Pair (all_told (asked way_of) R cs) g k
      ↔ ((n : ℕ) × (n < length (all_bytes (asked way_of) R cs)) × (k ≡ offset_of R + suc n) × (holds (accepted L (run (plain L) (frontier_of R) (take (suc n) (all_bytes (asked way_of) R cs)))) g ≡ true))
  pub rows : Counts (asked way_of) flow_layout (plain L) R cs

-- ws are exactly the pairs of a flow of L, from its opening on, that has consumed bs
abbrev pub Due : List ℕ → List ℕ → List ℕ → Type 0
Due L = calls.Due (plain L) (start L) (accepted L (start L))

-- in the automaton's words: (g, k) is told exactly when the flow has come to offset k, from 0 on, and a state of the frontier there accepts g
abbrev pub DueSaid : Type 0
DueSaid =
    (L bs ws : List ℕ) → Due L bs ws → (g k : ℕ) → Pair ws g k ↔ ((k ≤ length bs) × (holds (accepted L (run (plain L) (start L) (take k bs))) g ≡ true))

-- the calls cs after the opening o tell, from offset 0 on, what the automaton of L tells of the bytes that they consume; and the record goes on from there
abbrev pub Flows : List ℕ → Opening → List Call → Type 0
Flows L = Flowed (asked way_of) flow_layout (plain L) (start L) (accepted L (start L))

-- from any record
abbrev pub PlainTells : Type 0
PlainTells = (L R : List ℕ) (cs : List Call) → Bytes R → Pieces (asked way_of) cs → Along (asked way_of) (Plainly L) R cs → Demand2 L R cs

-- from an opening: opening's words, then the feeds'
abbrev pub PlainFlows : Type 0
PlainFlows = (L : List ℕ) → Onward (asked way_of) (open_flow L) (Plainly L) (λ o cs. Flows L o cs × Demand2 L o.saved cs)

-- cut anywhere
abbrev pub PlainCuts : Type 0
PlainCuts = (L R : List ℕ) → Bytes R → bad_flow R ≡ false → Cuts (asked way_of) (Plainly L) R

-- rule 4 takes the record R under the list L
abbrev pub Fit : List ℕ → List ℕ → Type 0
Fit = lawful.Fit list_automata

-- of one call, by any of the four feeds
pub record OneCall : Type 0 where
  -- the room is all that fits: two words more would be more than there are
  pub room_whole : (out : List ℕ) → (2 * room out ≤ length out) × (length out < 2 * room out + 2)
  -- a piece that does not begin at the flow's offset is refused and changes nothing
  pub elsewhere : (R : List ℕ) (c : Call) → other_start (offset_of R) c.at ≡ true → ((outcome way_of R c).refusal ≡ 0 → ⊥) × Unchanged R c.out (outcome way_of R c)
  -- a feed leaves no record that a later feed on its list refuses with 4, if what it goes by is checked: then it names no foreign state
  pub never-4 : (R : List ℕ) (c : Call) → Bytes c.piece → Checked c.by.list c.by.via → Fit c.by.list R → Fit c.by.list (outcome way_of R c).saved
  -- and such a record no call on the list refuses with 4, whatever table or matrix it goes by, checked or not, and by every index that names what the list does
  pub never-foreign : (R : List ℕ) (c : Call) → Names c.by.list c.by.via → Fit c.by.list R → (outcome way_of R c).refusal ≡ 4 → ⊥
  -- and whatever it goes by, the record keeps the size, the reserved bytes and the rows that 4 asks
  pub kept_whole : (R : List ℕ) (c : Call) → Bytes c.piece → (means_of c.by.via).Lent → bad_flow R ≡ false → bad_flow (outcome way_of R c).saved ≡ false

-- ==== Demand 3: if the check accepts a split table for a list at bound b, then from a flow opened on that list and fed only through it,
-- ==== that table and bound, or by its index, cut anywhere and with refused calls between, no call ends in 14, the pairs told are those of demand 2,
-- ==== and the rows read are the sum of the active parts before each byte, at most b times the bytes consumed.

-- a call that no rule refuses is on L, a split feed through T at b or, from any hint, the prepared feed by the index that the filler writes for T; one that is refused may hold anything
abbrev pub Through : List ℕ → ℕ → Table → List ℕ → Call → Type 0
Through L b T R c =
    verdict (ruled way_of R c) ≡ 0 → (c.by.list ≡ L) × ((c.by.via ≡ by_table b T) ⊎ ((h : ℕ) × (c.by.via ≡ by_index b (by_slots T) T.splits (filled_index L T) h) × Bytes T.splits))

-- the automaton of L, where a byte costs what a call counts at the frontier before it: plain and by a matrix its states, through a table or by its index the slots taken, by an index made
-- straight from the list one row
abbrev pub counted : Via → List ℕ → Engine ℕ
counted v L = costing (plain L) (means_of v).spends

-- of the opening o and the calls that follow
pub record Demand3 (L : List ℕ) (b : ℕ) (T : Table) (o : Opening) (cs : List Call) : Type 0 where
  -- a call through this table is never refused with 9: its splits' sets rise
  pub never-9 : (Q : List ℕ) (c : Call) → c.by.via ≡ by_table b T → (outcome way_of Q c).refusal ≡ 9 → ⊥
  -- no call ends in 14
  pub never-14 : Along (asked way_of) (λ Q c. (outcome way_of Q c).refusal ≡ 14 → ⊥) o.saved cs
  -- the pairs told are those of demand 2's definition, from offset 0 on
  pub flows : Flows L o cs
  -- the rows read are the active parts before each byte, summed, and at most b for each byte
  pub rows : rows_of (record_after (asked way_of) o.saved cs) ≡ costs (counted (by_table b T) L) (start L) (all_bytes (asked way_of) o.saved cs)
  pub ceiling : rows_of (record_after (asked way_of) o.saved cs) ≤ b * length (all_bytes (asked way_of) o.saved cs)

abbrev pub SplitFollows : Type 0
SplitFollows = (L : List ℕ) (b : ℕ) (T : Table) → table_refusal L b T ≡ 0 → Onward (asked way_of) (open_flow L) (Through L b T) (Demand3 L b T)

-- cut anywhere, and whether by the table or by its index
abbrev pub SplitCuts : Type 0
SplitCuts = (L : List ℕ) (b : ℕ) (T : Table) → table_refusal L b T ≡ 0 → Cuts (asked way_of) (Through L b T) (opened L)

-- so of a table that the builder made: no table has to be brought, nor checked
abbrev pub BuiltFollows : Type 0
BuiltFollows = (L : List ℕ) (T : Table) (o : Building) → Builds L T o → o.refusal ≡ 0 → Onward (asked way_of) (open_flow L) (Through L 1 (fronts o)) (Demand3 L 1 (fronts o))

-- and by its index the prepared feed answers and leaves what the split feed through it does
abbrev pub BuiltPrepares : Type 0
BuiltPrepares =
    (L : List ℕ) (T : Table) (o : Building) → Builds L T o → o.refusal ≡ 0 → (h : ℕ) (R : List ℕ) (at : ℕ) (piece out : List ℕ) → Bytes piece
    → stand_feed (fronts o).splits (filled_index L (fronts o)) h R at piece out ≡ split_feed L 1 (fronts o) R at piece out

-- ==== Changing tables in mid-flow: for one list a flow from opening may change at any piece between any tables that the check accepts, each
-- ==== at its own bound, any index that is right for the list, from any hint, the plain feed, and the matrix that the filler writes: pairs and frontier are as if nothing was swapped, and each
-- ==== call adds at most its own bound times the bytes that it consumed. Such a flow holds no state that the list does not name, so no call on the list is refused with 4.

-- a call that no rule refuses is on L, and what it goes by is checked; one that is refused may hold anything
abbrev pub Swaps : List ℕ → List ℕ → Call → Type 0
Swaps L R c = verdict (ruled way_of R c) ≡ 0 → OnList L c.by

pub record Swapped (L : List ℕ) (o : Opening) (cs : List Call) : Type 0 where
  -- no call ends in 14, and none on L is refused as foreign, whatever table or matrix it goes by, and by every index that names what L does
  pub never-14 : Along (asked way_of) (λ Q c. (outcome way_of Q c).refusal ≡ 14 → ⊥) o.saved cs
  pub never-4 : Along (asked way_of) (λ Q c. c.by.list ≡ L → Names L c.by.via → (outcome way_of Q c).refusal ≡ 4 → ⊥) o.saved cs
  -- a call on L by what is checked answers what the plain feed would, and leaves the same words: it is refused where that is, and consumes the same bytes
  pub as_plain : Along (asked way_of) (λ Q c. c.by.list ≡ L → Checked L c.by.via → Answered (outcome way_of Q c) (plain_feed L Q c.at c.piece c.out)) o.saved cs
  -- pairs, frontier and offset as if nothing was swapped
  pub flows : Flows L o cs
  -- the rows that each call adds: what it counts before each byte that it consumed, at most its bound times these bytes
  pub rows : Along (asked way_of) (λ Q c. rows_of (outcome way_of Q c).saved ≡ rows_of Q + costs (counted c.by.via L) (frontier_of Q) ((asked way_of c).eaten Q)) o.saved cs
  pub ceiling : Along (asked way_of) (λ Q c. costs (counted c.by.via L) (frontier_of Q) ((asked way_of c).eaten Q) ≤ (means_of c.by.via).bound * (outcome way_of Q c).bytes) o.saved cs

abbrev pub ListSwaps : Type 0
ListSwaps = (L : List ℕ) → Onward (asked way_of) (open_flow L) (Swaps L) (Swapped L)

-- what is written into an index for any table, accepted or not, names what the list does
abbrev pub FilledNames : Type 0
FilledNames = (L : List ℕ) (b : ℕ) (T : Table) (h : ℕ) → Names L (by_index b (by_slots T) T.splits (filled_index L T) h)

-- the index that the filler writes for an accepted table is right, at the table's own count and bound
abbrev pub FilledSwaps : Type 0
FilledSwaps = (L : List ℕ) (b : ℕ) (T : Table) → table_refusal L b T ≡ 0 → Bytes T.splits → (h : ℕ) → Checked L (by_index b (by_slots T) T.splits (filled_index L T) h)

-- a table that the builder made is one of those that such a flow may change to, at bound 1, and so is its index
abbrev pub BuiltSwaps : Type 0
BuiltSwaps =
    (L : List ℕ) (T : Table) (o : Building) → Builds L T o → o.refusal ≡ 0 → (h : ℕ)
    → Checked L (by_table 1 (fronts o)) × Checked L (by_index 1 (by_slots (fronts o)) (fronts o).splits (filled_index L (fronts o)) h)

-- and so are splits and an index made straight from the list, at one row a byte
abbrev pub PreparedSwaps : Type 0
PreparedSwaps =
    (L S X : List ℕ) (o : Preparing) → Prepares L S X o → o.refusal ≡ 0 → (h : ℕ) → Checked L (by_index 1 by_one (take o.splits o.made) (take o.index o.indexed) h)
