-- Where the splits rise, rule 9 changes nothing; and those of a table that the check accepts rise. Assumes nothing.
use Prim.Native.Nat.{ℕ}
use mathlib.Core.Path.{◌≡◌, ap}
use mathlib.Core.Bool.{true, false, not}
use mathlib.Core.List.{List, ◌++◌}
use Rattle.rules.specs.Scan.{every}
use Rattle.rules.specs.Rules.{verdict}
use Rattle.rules.proofs.Scanning.{every-all}
use Rattle.rules.proofs.Rules.{verdict-end}
use Rattle.feed.specs.Engine.{feed}
use Rattle.list_flow.specs.Flow.{flow_layout, feed_rules}
use Rattle.table.specs.Table.{Table, split_count, in_order, unordered, size_rules, table_refusal}
use Rattle.table.proofs.Accepted.{accepted}
use Rattle.table_feed.specs.Split.{split, split_rules, split_feed}

module _ (L : List ℕ) (b : ℕ) (T : Table) (o : every (split_count T.splits) (in_order T.splits) ≡ true) (R : List ℕ) (at : ℕ) (piece : List ℕ) where
  in-order : unordered T.splits ≡ false
  unfolding unordered
  in-order = ap not o

  -- the rules 1 to 9 give what the rules 1 to 8 give
  pub rising-verdict : verdict (split_rules L b T R at piece) ≡ verdict (feed_rules L R at piece ++ size_rules b T)
  rising-verdict = verdict-end (feed_rules L R at piece ++ size_rules b T) 9 in-order

  -- and the feed is the feed by the rules 1 to 8
  pub rising-as-before : (out : List ℕ) → split_feed L b T R at piece out ≡ feed (feed_rules L R at piece ++ size_rules b T) (split L b T) flow_layout R piece out
  unfolding feed
  rising-as-before out = rw rising-verdict

-- the splits of a table that the check accepts
pub accepted-rises : (L : List ℕ) (b : ℕ) (T : Table) → table_refusal L b T ≡ 0 → every (split_count T.splits) (in_order T.splits) ≡ true
accepted-rises L b T e = every-all (split_count T.splits) (in_order T.splits) (accepted L b T e).ordered
