-- Demand 2 over any list of plain calls from any record, however they are cut; and what holds of each call, by any of the four feeds. Assumes nothing.
use Prim.Native.Nat.{ℕ, ◌^◌, ◌<◌}
use mathlib.Core.Path.{◌≡◌, refl, sym, ap, ◌∙◌}
use mathlib.Core.Bool.{true, not, true≢false}
use mathlib.Core.List.{List}
use native.Mathlib.Omega.{arith}
use borrow.Author.Tests.{eq-eqb}
use Rattle.sets.specs.Set.{states, size}
use Rattle.rules.specs.Rules.{verdict}
use Rattle.feed.specs.Demands.{Unchanged}
use Rattle.feed.proofs.Moves.{no-refusal}
use Rattle.feed.proofs.Feeds.{each-feed}
use Rattle.feed.proofs.Calls.{along-map}
use Rattle.feed.proofs.Whole.{Kind, Met, met, runs, counts, cuts, call-refusal}
use Rattle.feed.specs.Piece.{other_start}
use Rattle.list_flow.specs.Flow.{frontier_of, offset_of}
use Rattle.list_flow.proofs.Records.{frontier-lt, flow-again}
use Rattle.list_feed.proofs.Plain.{plain-kept}
use Rattle.feed.specs.Calls.{outcome, ruled, asked, all_bytes, Pieces, Along}
use Rattle.laws.specs.Calls.{Via, means_of, Call, way_of}
use Rattle.laws.specs.Demands.{Plainly, Demand2, PlainTells, PlainCuts, OneCall}
use Rattle.laws.proofs.Engines.{lawful-of, call-good, list_kind, acts-so}
use Rattle.laws.proofs.Due.{told-due}

-- sets of states
abbrev pub IsSet : ℕ → Type 0
IsSet F = F < 2 ^ states

abbrev plain_kind : List ℕ → Kind Call ℕ
plain_kind L = list_kind L IsSet (λ F g. g) (plain-kept L)

module _ (L : List ℕ) where
  -- a plain feed on L that no rule refuses is fed by the automaton of L
  plainly-met : (R : List ℕ) (cs : List Call) → Pieces (asked way_of) cs → Along (asked way_of) (Plainly L) R cs → IsSet (frontier_of R) → Along (asked way_of) (Met (plain_kind L)) R cs
  plainly-met R cs hb h s =
      met (plain_kind L) R cs (along-map (asked way_of) (Plainly L) _ (λ Q c f b g. acts-so L IsSet (λ F g. g) (plain-kept L) Q c (λ v. rw ((f v).1, (f v).0))) R cs h) hb s

  -- and counts its states
  plainly-counts : (R : List ℕ) (cs : List Call) → Along (asked way_of) (Plainly L) R cs → Along (asked way_of) (λ Q c. verdict (ruled way_of Q c) ≡ 0 → (means_of c.by.via).spends ≡ size states) R cs
  plainly-counts = along-map (asked way_of) (Plainly L) (λ Q c. verdict (ruled way_of Q c) ≡ 0 → (means_of c.by.via).spends ≡ size states) (λ Q c f v. ap (λ (v : Via). (means_of v).spends) (f v).1)

  pub demand-2-from : (R : List ℕ) (cs : List Call) → IsSet (frontier_of R) → Pieces (asked way_of) cs → Along (asked way_of) (Plainly L) R cs → Demand2 L R cs
  demand-2-from R cs s hb h =
      let m = plainly-met R cs hb h s in
      let r = runs (plain_kind L) R cs m in
      record {
        tells =
            record {
              runs = r;
              refused = along-map (asked way_of) (Met (plain_kind L)) (λ Q c. (outcome way_of Q c).refusal ≡ verdict (ruled way_of Q c)) (call-refusal (plain_kind L) (λ F. refl)) R cs m;
            };
        due = λ g k. rw r.tells (told-due L (frontier_of R) (offset_of R) (all_bytes (asked way_of) R cs) g k);
        rows = counts (plain_kind L) (size states) R cs m (plainly-counts R cs h);
      }

pub demand-2 : PlainTells
demand-2 L R cs h_r hb h = demand-2-from L R cs (frontier-lt R h_r) hb h

pub plain-cuts : PlainCuts
plain-cuts L R h_r good cs ds hc hd fc fd e =
    cuts (plain_kind L) (size states) R cs ds (flow-again R h_r good) (plainly-met L R cs hc fc (frontier-lt R h_r)) (plainly-counts L R cs fc)
    (plainly-met L R ds hd fd (frontier-lt R h_r)) (plainly-counts L R ds fd) e

-- ---- of one call

-- a rule refuses it: nothing changes
call-elsewhere : (R : List ℕ) (c : Call) → other_start (offset_of R) c.at ≡ true → ((outcome way_of R c).refusal ≡ 0 → ⊥) × Unchanged R c.out (outcome way_of R c)
call-elsewhere R c e = (
  λ z. refuses (no-refusal (way_of c.by).engine (way_of c.by).layout R (ruled way_of R c) c.piece c.out z),
  ((each-feed (way_of c.by) R c.at c.piece c.out).refused refuses).1,
)
  where
    refuses : verdict (ruled way_of R c) ≡ 0 → ⊥
    refuses v = true≢false (sym e ∙ ap not (eq-eqb c.at (offset_of R) ((lawful-of c.by.via).passes c.by.list R c.at c.piece v).1))

pub one-call : OneCall
one-call =
    record {
      room_whole = λ out. (omega arith, omega arith);
      elsewhere = call-elsewhere;
      never-4 = λ R c h k f. (lawful-of c.by.via).fits c.by.list k R c.at c.piece c.out h f;
      never-foreign = λ R c n f e. (lawful-of c.by.via).not-4 c.by.list R c.at c.piece n f (((each-feed (way_of c.by) R c.at c.piece c.out).ruled 4 (λ z. omega (arith, z)) (λ z. omega (arith, z))).0 e);
      kept_whole = λ R c h l g. call-good c.by.via c.by.list R c.at c.piece c.out h l g;
    }
