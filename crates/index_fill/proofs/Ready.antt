-- What the promises give together: once the filler has answered 0, every feed by its index answers and leaves what the split feed does, whatever the hint. Assumes nothing.
use Prim.Native.Nat.{ℕ}
use mathlib.Core.Path.{◌≡◌, refl, sym, ap, ◌∙◌}
use mathlib.Core.Bool.{Bool, true, false, true≢false, cond}
use mathlib.Core.List.{List}
use lib.ListN.{length}
use lib.Dec.{eqb}
use Rattle.rules.specs.Rules.{verdict}
use Rattle.feed.specs.Calls.{Bytes, costing}
use Rattle.feed.proofs.Alike.{feed-stuck}
use Rattle.feed.proofs.Whole.{feed-ruled}
use Rattle.list_flow.specs.Flow.{frontier_of, flow_layout}
use Rattle.list_feed.specs.Plain.{plain}
use Rattle.table.specs.Table.{Table, is_split, table_refusal}
use Rattle.table_feed.specs.Split.{taken, stuck, split, split_rules, split_feed}
use Rattle.table_feed.proofs.Halting.{free-split}
use Rattle.table_feed.proofs.Lawful as table
use Rattle.index.specs.Stand.{indexed, stand_layout, stand_rules, stand_feed}
use Rattle.index.specs.Right.{Right}
use Rattle.index.proofs.Following.{starts-behind}
use Rattle.index.proofs.Lawful as index
use Rattle.index_fill.specs.Filled.{filled_index, index_refusal, FillsIndex}
use Rattle.index_fill.proofs.Refusing.{fill-passes}
use Rattle.index_fill.proofs.Made.{filled-right, filled-costs}

module _ (L : List ℕ) (b : ℕ) (T : Table) (ok : table_refusal L b T ≡ 0) (s : Bytes T.splits) (h : ℕ) (R : List ℕ) (at : ℕ) (piece out : List ℕ) (hb : Bytes piece) where
  right : Right L T.splits (filled_index L T)
  right = filled-right L b T ok s

  same-verdict : verdict (stand_rules T.splits (filled_index L T) h R at piece) ≡ verdict (split_rules L b T R at piece)
  same-verdict = index.same-verdict L T.splits (filled_index L T) right h R at piece ∙ sym (table.same-verdict L b T ok R at piece)

  -- a frontier that is no split halts the split feed
  no-split : (t : Bool) → stuck b T (frontier_of R) ≡ t → is_split T.splits (frontier_of R) ≡ false → stuck b T (frontier_of R) ≡ true
  no-split true e p = e
  no-split false e p = absurd (true≢false (sym (free-split b T (frontier_of R) e) ∙ p))

  -- on every record, stated start, piece of bytes and buffer
  pub stand-exact : stand_feed T.splits (filled_index L T) h R at piece out ≡ split_feed L b T R at piece out
  stand-exact = go (is_split T.splits (frontier_of R)) refl
    where
      go : (t : Bool) → is_split T.splits (frontier_of R) ≡ t → stand_feed T.splits (filled_index L T) h R at piece out ≡ split_feed L b T R at piece out
      go true p =
          index.as_plain L T.splits (filled_index L T) right h b (λ F. length (taken T F)) (filled-costs L b T ok s) R at piece out hb p
          ∙ feed-ruled (stand_rules T.splits (filled_index L T) h R at piece) (split_rules L b T R at piece) (costing (plain L) (λ F. length (taken T F))) flow_layout R piece out same-verdict
          ∙ sym (table.goes_at L b T ok R at piece out hb p)
      go false p =
          feed-stuck (indexed T.splits (filled_index L T)) (split L b T) (stand_layout T.splits (filled_index L T) h) flow_layout R refl refl
          (starts-behind L T.splits (filled_index L T) right h (frontier_of R) p) (no-split (stuck b T (frontier_of R)) refl p) (λ k n. refl)
          (stand_rules T.splits (filled_index L T) h R at piece) (split_rules L b T R at piece) same-verdict piece out

-- ---- what the filler has left

module _ (L : List ℕ) (b : ℕ) (T : Table) (X₀ : List ℕ) (refusal : ℕ) (X : List ℕ) (f : FillsIndex L b T X₀ refusal X) (z : refusal ≡ 0) where
  refusal-0 : index_refusal L b T X₀ ≡ 0
  refusal-0 = sym f.refused ∙ z

  -- the check accepts the table, and what is left is its index
  pub filled-left : (table_refusal L b T ≡ 0) × (X ≡ filled_index L T)
  filled-left = ((fill-passes L b T X₀ refusal-0).0, f.wrote ∙ ap (λ (n : ℕ). cond (eqb n 0) (filled_index L T) X₀) refusal-0)

  -- so the feed by it is the split feed
  pub feed-ready : Bytes T.splits → (h : ℕ) (R : List ℕ) (at : ℕ) (piece out : List ℕ) → Bytes piece → stand_feed T.splits X h R at piece out ≡ split_feed L b T R at piece out
  feed-ready s h R at piece out hb =
      ap (λ (Y : List ℕ). stand_feed T.splits Y h R at piece out) filled-left.1 ∙ stand-exact L b T filled-left.0 s h R at piece out hb
