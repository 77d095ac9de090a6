-- What a caller of the plain feed counts on: the bytes are a front of the piece, the offset stays in range, and with room for all signatures the flow moves. Assumes nothing.
use Prim.Native.Nat.{ℕ, zero, ◌+◌, ◌≤◌, ◌<◌}
use mathlib.Core.Path.{◌≡◌}
use mathlib.Core.List.{List}
use native.Mathlib.Omega.{arith}
use lib.ListN.{length}
use Rattle.sets.specs.Set.{signatures}
use Rattle.feed.specs.Engine.{room, most_offset}
use Rattle.list_flow.specs.Flow.{offset_of, feed_rules}
use Rattle.feed.proofs.Runs.{consumed-most}
use Rattle.list_flow.proofs.Passing.{feed-passes}
use Rattle.feed.proofs.Moves.{feed-bytes, no-refusal, feed-moves}
use Rattle.list_feed.specs.Plain.{plain, plain_feed}

pub record Progress (L R : List ℕ) (at : ℕ) (piece out : List ℕ) : Type 0 where
  pub begins : at ≡ offset_of R
  pub front : (plain_feed L R at piece out).bytes ≤ length piece
  pub short : at + length piece ≤ most_offset
  pub moves : zero < length piece → signatures ≤ room out → zero < (plain_feed L R at piece out).bytes

pub progress : (L R : List ℕ) (at : ℕ) (piece out : List ℕ) → (plain_feed L R at piece out).refusal ≡ 0 → Progress L R at piece out
progress L R at piece out z =
    let v = no-refusal (plain L) _ R (feed_rules L R at piece) piece out z in
    let p = feed-passes L R at piece v in
    record {
      begins = p.1;
      front = rw (feed-bytes (plain L) _ R (feed_rules L R at piece) piece out v) (consumed-most (plain L) _ (room out) piece);
      short = omega (arith, p.1, p.2);
      moves = λ l r. feed-moves (plain L) _ R (feed_rules L R at piece) piece out z l r;
    }
