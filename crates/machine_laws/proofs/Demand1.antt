-- Demand 1: every refusal exactly when its row says, and nothing changes. Assumes nothing.
use Prim.Native.Nat.{ℕ, ◌/◌}
use mathlib.Core.Path.{◌≡◌, refl, sym, ap₂, ◌∙◌}
use mathlib.Core.Bool.{Bool, true, false, not}
use mathlib.Core.List.{List, [], ◌∷◌}
use native.Mathlib.Omega.{arith}
use lib.ListN.{length}
use lib.Dec.{eqb, ltb}
use Rattle.sets.specs.Set.{signatures, size}
use Rattle.sets.proofs.Members.{members-size, members-most}
use Rattle.rules.specs.Rules.{verdict}
use Rattle.rules.proofs.Rules.{refuses}
use Rattle.rules.specs.Words.{InWords}
use Rattle.rules.proofs.Saying.{tells}
use Rattle.feed.specs.Demands.{OneOpening}
use Rattle.feed.proofs.Feeds.{each-feed}
use Rattle.feed.proofs.Opening.{opening-refusal, one-opening}
use Rattle.feed.proofs.Piece.{piece-says}
use Rattle.machine.specs.Machine.{state_count, bad_machine, machine_rules, first_alerts}
use Rattle.machine.specs.Record.{flow_size, offset_of, wrong_size}
use Rattle.machine.specs.Words.{machine_words, open_words, feed_words}
use Rattle.machine.specs.Extended.{open_pairs, first_rules, open_rules, opened, extended_open, feed_rules}
use Rattle.machine.proofs.Feeding.{extended-refusal}
use Rattle.machine.proofs.Opening.{open_pairs-long}
use Rattle.machine.proofs.Said.{machine-said, size-said, flow-said, room-said}
use Rattle.feed.specs.Calls.{ruled}
use Rattle.machine_laws.specs.Calls.{way_of}
use Rattle.machine_laws.specs.Demands.{Demand1}

not-15 : (a b : Bool) → verdict ((24, a) ∷ ((4, b) ∷ [])) ≡ 15 → ⊥
unfolding verdict
not-15 true b e = omega arith
not-15 false true e = omega arith
not-15 false false e = omega arith

module _ (M P R out : List ℕ) where
  pub open-verdict : (extended_open M P R out).refusal ≡ verdict (open_rules M P R out)
  open-verdict = opening-refusal (open_rules M P R out) (open_pairs P) (opened P) R out

  pub open-once : OneOpening (first_rules M P R) (open_pairs P) (opened P) R out (extended_open M P R out)
  open-once =
      one-opening (first_rules M P R) (open_pairs P) (opened P) R out (size signatures (first_alerts P)) (open_pairs-long P)
      (omega (arith, members-size signatures (first_alerts P), members-most signatures (first_alerts P))) refl refl (not-15 (bad_machine M P) (wrong_size R))

  pub open-tells : InWords (open_words M P R out) (verdict (open_rules M P R out))
  open-tells = tells (open_rules M P R out) (open_words M P R out) refl (refl, machine-said M P, (refl, size-said R, (refl, room-said P out, tt)))

pub feed-tells : (M P R : List ℕ) (at : ℕ) (piece : List ℕ) → InWords (feed_words M P R at piece) (verdict (feed_rules M P R at piece))
feed-tells M P R at piece =
    tells (feed_rules M P R at piece) (feed_words M P R at piece) refl (refl, machine-said M P, (refl, flow-said R (state_count M), piece-says (offset_of R) at piece))

pub demand-1 : Demand1
demand-1 =
    record {
      checks = λ M P. refuses (machine_rules M P) refl;
      checks-said = λ M P. tells (machine_rules M P) (machine_words M P) refl (refl, machine-said M P, tt);
      opens = open-once;
      opens-said = λ M P R out. rw (open-verdict M P R out) (open-tells M P R out);
      opens-length = λ M P R Q out ws a b. open-verdict M P R out ∙ ap₂ (λ (m n : ℕ). verdict ((24, bad_machine M P) ∷ ((4, not (eqb m flow_size)) ∷ ((15, ltb (n / 2) (length (open_pairs P) / 2)) ∷ [])))) a b ∙ sym (open-verdict M P Q ws);
      feeds = λ R c. each-feed (way_of c.by) R c.at c.piece c.out;
      feeds-refuse = λ R c. rw (extended-refusal c.by.moves c.by.programs R c.at c.piece c.out) (refuses (ruled way_of R c) refl);
      feeds-said = λ R c. rw (extended-refusal c.by.moves c.by.programs R c.at c.piece c.out) (feed-tells c.by.moves c.by.programs R c.at c.piece);
    }
