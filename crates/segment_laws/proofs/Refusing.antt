-- Demand 1 of segments: each refusal at the door in words, what it leaves, and what is answered behind it. Assumes nothing.
use Prim.Native.Nat.{ℕ, ◌<◌}
use mathlib.Core.Path.{◌≡◌, refl, sym}
use mathlib.Core.Bool.{Bool, true, false, cond, true≢false}
use mathlib.Core.List.{List, [], ◌∷◌}
use mathlib.Core.Logic.{◌⊎◌, inl, inr, ◌↔◌, ⊎_elim}
use native.Mathlib.Omega.{arith}
use lib.ListN.{length}
use Rattle.rules.specs.Rules.{verdict}
use Rattle.rules.specs.Words.{Row, InWords}
use Rattle.feed.specs.Calls.{Way}
use Rattle.list_flow.specs.Flow.{offset_of}
use Rattle.machine.specs.Record as x
use Rattle.laws.specs.Calls.{way_of}
use Rattle.laws.proofs.Demand1.{demand-1}
use Rattle.machine_laws.specs.Calls as machines
use Rattle.machine_laws.proofs.Demand1.{feed-tells}
use Rattle.segment.specs.Resend.{most_segment, held_size, bad_sizes}
use Rattle.segment.proofs.Words.{bad-sizes}
use Rattle.segment_feed.specs.Segment.{Sent, Kept, door_rules}
use Rattle.segment_feed.proofs.Said.{refused-not-all, door-refused, taking-answers}
use Rattle.segment_index.proofs.Standing.{door-stood}
use Rattle.segment_laws.specs.Streams.{SegmentRefuses, SegmentsRefuse, MachineSegmentsRefuse, HintsKept}

-- a row before the others: its number where its words hold, else theirs
first-row : (k : ℕ) (b : Bool) (P : Type 0) (ws : List Row) (n : ℕ) → (k ≡ 0 → ⊥) → (b ≡ true ↔ P) → InWords ws n → InWords ((k, P) ∷ ws) (cond b k n)
first-row k true P ws n z h w =
    record {
      passes = (λ e. absurd (z e), λ e. absurd (e.0 (h.0 refl)));
      gives = λ m y. (λ e. inl (e, h.0 refl), λ e. ⊎_elim (λ f. f.0) (λ f. absurd (f.0 (h.0 refl))) e);
    }
first-row k false P ws n z h w =
    let not : P → ⊥ = λ p. true≢false (sym (h.1 p)) in
    record {
      passes = (λ e. (not, w.passes.0 e), λ e. w.passes.1 e.1);
      gives = λ m y. (λ e. inr (not, (w.gives m y).0 e), λ e. ⊎_elim (λ f. absurd (not f.1)) (λ f. (w.gives m y).1 f.1) e);
    }

-- the refusals in words
abbrev segment_words : List Row → Sent → Kept → List Row
segment_words ws g S = (18, ((most_segment < length g.bytes) ⊎ (length S.held ≡ held_size → ⊥)) ⊎ (held_size < S.length)) ∷ ws

-- number by number: 18 first, then the feed's
door-said : (W : Way) (ws : List Row) (g : Sent) (S : Kept) → InWords ws (verdict (W.rules S.flow (W.layout.offset S.flow) [])) → InWords (segment_words ws g S) (verdict (door_rules W g S))
unfolding verdict
door-said W ws g S h =
    first-row 18 (bad_sizes (length S.held) S.length (length g.bytes)) _ ws (verdict (W.rules S.flow (W.layout.offset S.flow) []))
    (λ e. omega (arith, e)) (bad-sizes (length S.held) S.length (length g.bytes)) h

segment-refuses : (W : Way) (ws : List Row) (g : Sent) (S : Kept) (out : List ℕ) → InWords ws (verdict (W.rules S.flow (W.layout.offset S.flow) [])) → SegmentRefuses W ws g S out
segment-refuses W ws g S out h =
    record {
      said = door-said W ws g S h;
      refused = door-refused W g S out;
      taken = taking-answers W g S out;
      not-all = refused-not-all W g S out;
    }

pub segments-refuse : SegmentsRefuse
segments-refuse v L g S out =
    segment-refuses (way_of (record { list = L; via = v })) _ g S out (demand-1.feeds-said S.flow (record { by = record { list = L; via = v }; at = offset_of S.flow; piece = []; out = [] }))

pub machine-segments-refuse : MachineSegmentsRefuse
machine-segments-refuse M P g S out = segment-refuses (machines.way_of (record { moves = M; programs = P })) _ g S out (feed-tells M P S.flow (x.offset_of S.flow) [])

pub hints-kept : HintsKept
hints-kept = door-stood
