-- What a feed of a list's flow leaves of what rule 4 asks: by any engine that is cheap enough, and that names no foreign state. Assumes nothing.
use Prim.Native.Nat.{ℕ, ◌+◌, ◌*◌, ◌≤◌, ◌<◌}
use mathlib.Core.Path.{◌≡◌}
use mathlib.Core.Bool.{true, false}
use mathlib.Core.List.{List}
use native.Mathlib.Omega.{arith}
use native.Mathlib.Nat.{mul-add}
use native.Mathlib.Decide.{ℕ_discrete}
use lib.ListN.{length, take}
use Rattle.sets.specs.Set.{states, within}
use Rattle.rules.specs.Rules.{Rule, verdict}
use Rattle.list.specs.Automaton.{named}
use Rattle.list.proofs.Named.{named-lt}
use Rattle.feed.specs.Engine.{Engine, most_offset, room, run, costs, ended, feed}
use Rattle.feed.specs.Calls.{Bytes}
use Rattle.feed.proofs.Runs.{consumed-kept, costs-most, bytes_take, length-take-most}
use Rattle.feed.proofs.Going.{unfed}
use Rattle.feed.proofs.Moves.{feed-ends}
use Rattle.feed.proofs.Whole.{by-feed}
use Rattle.list_flow.specs.Flow.{flow_bytes, flow_layout, frontier_of, offset_of, rows_of, bad_flow}
use Rattle.list_flow.proofs.Records.{good-flow, flow-good, frontier-flow}

-- a good record has at most a row for each state and byte
pub rows_few : (R : List ℕ) → bad_flow R ≡ false → rows_of R ≤ states * offset_of R
rows_few R e = (good-flow R e).2

-- the record keeps the size, the reserved bytes and the rows that 4 asks, by an engine that costs at most a row for each state
pub good-feed : {C : Type 0} (E : Engine C) (config : List ℕ → C) (set : C → ℕ) (rules : List Rule) (R piece out : List ℕ) → ((x : C) → E.cost x ≤ states)
    → (verdict rules ≡ 0 → offset_of R + length piece ≤ most_offset) → Bytes piece → bad_flow R ≡ false
    → bad_flow (feed rules E (record { config = config; offset = offset_of; rows = rows_of; save = λ x k n. flow_bytes (set x) k n }) R piece out).saved ≡ false
unfolding ended
good-feed E config set rules R piece out cheap short h g =
    by-feed rules E _ R piece out (λ o. bad_flow o.saved ≡ false)
    (λ v n. let front = take n piece in
    flow-good (set (run E (config R) front)) (offset_of R + length front) (rows_of R + costs E (config R) front) (omega (arith, length-take-most n piece, short v))
    (rw mul-add (omega (arith, costs-most E (λ x. Unit {0}) (λ x d l p. tt) states (λ x p. cheap x) (config R) front tt (bytes_take n piece h), rows_few R g))))
    (λ v. g)

-- and where each byte leads to states that the list names, it names no foreign state
pub fit-feed : (L : List ℕ) (E : Engine ℕ) → ((F c : ℕ) → c < 256 → E.halts F ≡ false → within (E.next F c) (named L) ≡ true)
    → (rules : List Rule) (R piece out : List ℕ) → Bytes piece → within (frontier_of R) (named L) ≡ true → within (frontier_of (feed rules E flow_layout R piece out).saved) (named L) ≡ true
unfolding ended
fit-feed L E next rules R piece out h f =
    elim (ℕ_discrete (verdict rules) 0) [
      | yes v ↦ let w = consumed-kept E (λ F. within F (named L) ≡ true) (λ F d l free p. next F d l free) (frontier_of R) (room out) piece f h in
          rw (feed-ends E flow_layout R rules piece out v, frontier-flow _ _ _ (named-lt L _ w)) w
      | no n ↦ rw (unfed E flow_layout R piece out rules n) f
    ]
