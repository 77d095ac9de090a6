-- The plain engine: it keeps to sets of states, costs at most all of them for a byte, and its feed refuses by its rules alone. Assumes nothing.
use Prim.Native.Nat.{ℕ, ◌^◌, ◌≤◌, ◌<◌}
use mathlib.Core.Path.{◌≡◌, refl, sym}
use mathlib.Core.List.{List}
use lib.ListN.{length}
use Rattle.sets.specs.Set.{states, members}
use Rattle.sets.proofs.Members.{members-size, members-most}
use Rattle.rules.specs.Rules.{verdict}
use Rattle.list.proofs.Steps.{step-lt}
use Rattle.list_flow.specs.Flow.{flow_layout, feed_rules}
use Rattle.feed.proofs.Moves.{rules-alone}
use Rattle.list_feed.specs.Plain.{plain, plain_feed}

-- a byte costs as many rows as there are states in the frontier before it
pub plain_rows : (L : List ℕ) (F : ℕ) → (plain L).cost F ≡ length (members states F)
plain_rows L F = sym (members-size states F)

-- at most all states
pub plain-cheap : (L : List ℕ) (F : ℕ) → (plain L).cost F ≤ states
plain-cheap L F = rw (plain_rows L F) (members-most states F)

-- a step makes a set of states, whatever the list
pub plain-kept : (L : List ℕ) (F c : ℕ) → c < 256 → F < 2 ^ states → (plain L).next F c < 2 ^ states
plain-kept L F c l h = step-lt L F c

-- nothing halts, so the plain feed's refusal is its rules' verdict
pub plain-refusal : (L R : List ℕ) (at : ℕ) (piece out : List ℕ) → (plain_feed L R at piece out).refusal ≡ verdict (feed_rules L R at piece)
plain-refusal L R at piece out = rules-alone (plain L) flow_layout R (feed_rules L R at piece) piece out (λ F. refl)
