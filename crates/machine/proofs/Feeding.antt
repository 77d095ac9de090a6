-- A turn of the feed's loop: a state without a program, a program whose alerts fit, and one whose alerts do not; and the rules of a feed. Assumes nothing.
use Prim.Native.Nat.{ℕ, ◌+◌, ◌*◌, ◌≤◌, ◌<◌}
use mathlib.Core.Path.{◌≡◌, refl, sym, ap, ◌∙◌}
use mathlib.Core.Bool.{true, false}
use mathlib.Core.List.{List}
use native.Mathlib.Omega.{arith}
use native.Mathlib.Decide.{ℕ_discrete}
use lib.ListN.{length, get_or, take}
use lib.Dec.{ltb}
use Rattle.sets.specs.Set.{signatures, size}
use Rattle.rules.specs.Rules.{verdict}
use Rattle.rules.proofs.Rules.{passes}
use Rattle.rules.proofs.Scanning.{and-false}
use Rattle.feed.specs.Engine.{room, consumed, ended, most_offset}
use Rattle.feed.specs.Piece.{piece_rules}
use Rattle.feed.proofs.Piece.{piece-passes}
use Rattle.feed.specs.inner.Going.{Going}
use Rattle.feed.specs.inner.Told.{TellsAll}
use Rattle.std.specs.Prelude.{Option, Some, None}
use Rattle.feed.proofs.Fitting as fitting
use Rattle.feed.proofs.Looping.{more_by}
use Rattle.feed.proofs.Moves.{feed-ends, feed-refused}
use Rattle.feed.proofs.Telling.{tells_none}
use Rattle.machine.specs.declared.Config.{Config}
use Rattle.machine.specs.Program.{program_length, moved, programmed, alerts_of}
use Rattle.machine.specs.Machine.{state_count, move, bad_machine, idle, machine}
use Rattle.machine.specs.Record.{flow_layout, offset_of, bad_flow, flow_rules}
use Rattle.machine.specs.Extended.{feed_rules, extended_feed}
use Rattle.machine.proofs.Programs.{idle-after, idle-alerted}

module _ (M P : List ℕ) {x₀ : Config} {k₀ : ℕ} {piece out₀ : List ℕ} {x : Config} {out : List ℕ} {i w : ℕ} (g : Going (machine M P) x₀ k₀ piece out₀ x out i w 0)
    (l : i < length piece) (q : ℕ) (target : q ≡ move M x.state (get_or piece i 0)) where
  -- the new state's program does nothing
  pub goes-idle : idle P q ≡ true → Going (machine M P) x₀ k₀ piece out₀ (moved q x) out (i + 1) w 0
  goes-idle h =
      let n = tells_none out w (k₀ + i + 1) 0 refl in
      let s : size signatures 0 ≡ 0 = omega (arith, n.next) in
      let z : w + 2 * 0 ≡ w = omega arith in
      rw z
      at (more_by g 0 0 l (sym (ap (λ (p : ℕ). alerts_of P p (moved p x)) (sym target) ∙ idle-alerted P q h (moved q x) program_length (omega arith))) (sym s) refl (omega arith) (moved q x)
      (sym (idle-after P q h (moved q x) program_length (omega arith)) ∙ ap (λ (p : ℕ). programmed P p (moved p x)) target) out n.wrote 0 refl)

  module _ {G : ℕ} {t : Option ℕ} {left : List ℕ} (alerts : G ≡ alerts_of P q (moved q x)) (told : TellsAll G out w (k₀ + i + 1) t left) where
    same : G ≡ (machine M P).alerts x (get_or piece i 0)
    same = alerts ∙ ap (λ (p : ℕ). alerts_of P p (moved p x)) target

    -- they fit: the byte is consumed
    pub goes_on : (m : ℕ) → t ≡ Some m → (y : Config) → y ≡ programmed P q (moved q x) → Going (machine M P) x₀ k₀ piece out₀ y left (i + 1) m 0
    goes_on m f y e = fitting.goes_on g l told same m f refl y (e ∙ ap (λ (p : ℕ). programmed P p (moved p x)) target) 0 refl

    -- they do not: the loop ends where it stands
    pub stops : t ≡ None → (consumed (machine M P) x₀ (room out₀) piece ≡ i) × Going (machine M P) x₀ k₀ piece out₀ x left i w 0
    stops f = fitting.stops g l told same f

-- ---- the rules

module _ (M P R : List ℕ) (at : ℕ) (piece : List ℕ) where
  -- a feed that no rule refuses has a good machine and record, and a piece that begins at the offset and ends at one
  pub feed-passes : verdict (feed_rules M P R at piece) ≡ 0
      → (bad_machine M P ≡ false) × (bad_flow (state_count M) R ≡ false) × (at ≡ offset_of R) × (offset_of R + length piece ≤ most_offset)
  feed-passes v =
      let m = passes 23 (bad_machine M P) (flow_rules (state_count M) R at piece) v in
      let a = passes 3 (bad_flow (state_count M) R) (piece_rules (offset_of R) at piece) m.1 in
      let p = piece-passes (offset_of R) at piece a.1 in
      (m.0, a.0, p.0, p.1)

  -- nothing halts, so a feed refuses by its rules alone
  pub extended-refusal : (out : List ℕ) → (extended_feed M P R at piece out).refusal ≡ verdict (feed_rules M P R at piece)
  unfolding ended
  extended-refusal out =
      elim (ℕ_discrete (verdict (feed_rules M P R at piece)) 0) [
        | yes v ↦ free v
        | no n ↦ feed-refused (machine M P) flow_layout R (feed_rules M P R at piece) piece out n
      ]
    where
      front : List ℕ
      front = take (consumed (machine M P) (flow_layout.config R) (room out) piece) piece

      free : verdict (feed_rules M P R at piece) ≡ 0 → (extended_feed M P R at piece out).refusal ≡ verdict (feed_rules M P R at piece)
      free v = rw (feed-ends (machine M P) flow_layout R (feed_rules M P R at piece) piece out v, and-false (ltb (length front) (length piece)), v)
