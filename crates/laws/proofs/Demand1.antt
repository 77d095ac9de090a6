-- Demand 1: every refusal exactly when its row says, and nothing changes; 14 keeps the bytes before it. Assumes nothing.
use Prim.Native.Nat.{ℕ, zero, suc, ◌<◌}
use mathlib.Core.Path.{◌≡◌, refl, sym, ◌∙◌}
use mathlib.Core.Bool.{true}
use mathlib.Core.List.{List, ◌++◌}
use native.Mathlib.Omega.{arith}
use lib.Dec.{lit<}
use borrow.Author.Tests.{ne_eqb}
use Rattle.sets.specs.Set.{signatures, size}
use Rattle.sets.proofs.Members.{members-size, members-most}
use Rattle.rules.specs.Scan.{every, rising}
use Rattle.rules.specs.Rules.{verdict}
use Rattle.rules.proofs.Scanning.{every-all}
use Rattle.rules.proofs.Rules.{rises, verdict-lt}
use Rattle.list.specs.List.{list_rules}
use Rattle.list.specs.Automaton.{start, accepted}
use Rattle.list.proofs.Listed.{list-refuses}
use Rattle.list_flow.specs.Flow.{flow_layout, feed_rules}
use Rattle.list_flow.specs.Opening.{open_pairs, first_rules, open_rules, opened, open_flow}
use Rattle.list_flow.proofs.Opening.{open_pairs-long}
use Rattle.feed.specs.Demands.{OneOpening}
use Rattle.feed.proofs.Halts.{by-rule}
use Rattle.feed.proofs.Feeds.{each-feed}
use Rattle.feed.proofs.Opening.{opening-refusal, one-opening}
use Rattle.table.specs.Table.{Table, split_count, in_order, size_rules, table_rules, table_refusal}
use Rattle.table.proofs.Checked.{table-exactly, in-order-first, in-order-exactly}
use Rattle.table_feed.specs.Split.{split, split_rules, split_feed}
use Rattle.table_feed.proofs.Halting.{stuck-exactly}
use Rattle.table_feed.proofs.Rising.{rising-verdict, rising-as-before}
use Rattle.matrix.specs.Matrix.{fill_rules}
use Rattle.matrix.proofs.Exact.{matrix-is-plain, filled-left}
use Rattle.index.proofs.Hints.{feed-hints, stood-hints}
use Rattle.index.proofs.Words.{index-moves}
use Rattle.index.proofs.Standing.{hint-kept, stands}
use Rattle.index_fill.specs.Filled.{index_rules, index_refusal}
use Rattle.index_fill.proofs.Ready as index
use Rattle.table_build.proofs.Reached.{unique-build}
use Rattle.table_build.proofs.Outcomes.{build-accepted}
use Rattle.table_build.proofs.Words.{keeps, empties, fills}
use Rattle.rules.specs.Words.{InWords}
use Rattle.laws.proofs.Words.{table_words, AllRise}
use Rattle.laws.specs.Calls.{way_of}
use Rattle.laws.specs.Demands.{Demand1, DemandPrepared}
use Rattle.index_prepare.proofs.Ends.{unique-prepare}
use Rattle.laws.proofs.Engines.{lawful-of, said_of, ruled-of}
use Rattle.laws.proofs.Saying.{list_tells, open-tells, table-tells, fill-tells, index-tells}
use Rattle.laws.proofs.Building.{build-tells}
use Rattle.laws.proofs.Preparing.{prepare-tells, prepare-keeps, prepare-empties, prepare-makes}

-- ---- opening

module _ (L R out : List ℕ) where
  open-verdict : (open_flow L R out).refusal ≡ verdict (open_rules L R out)
  open-verdict = opening-refusal (open_rules L R out) (open_pairs L) (opened L) R out

  pub open-once : OneOpening (first_rules L R) (open_pairs L) (opened L) R out (open_flow L R out)
  open-once =
      let A = accepted L (start L) in
      one-opening (first_rules L R) (open_pairs L) (opened L) R out (size signatures A) (open_pairs-long L) (omega (arith, members-size signatures A, members-most signatures A)) refl refl
      (λ e. omega (arith, verdict-lt 15 (first_rules L R) (lit< tt) refl, e))

-- ---- the split feed

-- where the splits are in order, not 9
pub not-9 : (L : List ℕ) (b : ℕ) (T : Table) (R : List ℕ) (at : ℕ) (piece out : List ℕ) → every (split_count T.splits) (in_order T.splits) ≡ true
    → (split_feed L b T R at piece out).refusal ≡ 9 → ⊥
not-9 L b T R at piece out o e =
    let v = (by-rule (split L b T) flow_layout R (split_rules L b T R at piece) piece out 9 (λ q. omega arith) (λ q. omega arith)).0 e in
    omega (arith, verdict-lt 9 (feed_rules L R at piece ++ size_rules b T) (lit< tt) refl, sym (rising-verdict L b T o R at piece) ∙ v)

-- splits whose sets rise are in order
all-rise : (S : List ℕ) → AllRise S → every (split_count S) (in_order S) ≡ true
all-rise S r = every-all (split_count S) (in_order S) at_each
  where
    at_each : (i : ℕ) → i < split_count S → in_order S i ≡ true
    at_each zero h = in-order-first S
    at_each (suc i) h = (in-order-exactly S i h).1 (r i h)

-- the table check in words
table-said : (L : List ℕ) (b : ℕ) (T : Table) → InWords (table_words L b T) (table_refusal L b T)
unfolding table_refusal
table-said = table-tells

pub demand-1 : Demand1
unfolding rising
demand-1 =
    record {
      lowest =
          λ L b T X R out c. (
            rises 0 (list_rules L) refl,
            rises 0 (open_rules L R out) refl,
            rises 0 (table_rules L b T) refl,
            rises 0 (fill_rules L X) refl,
            rises 0 (index_rules L b T X) refl,
            (ruled-of c.by.via c.by.list R c.at c.piece).0,
          );
      lists = list-refuses;
      lists-said = list_tells;
      opens = open-once;
      opens-said = λ L R out. rw (open-verdict L R out) (open-tells L R out);
      opens-length = λ L R Q out ws e f. rw (open-verdict L R out, open-verdict L Q ws, e, f);
      feeds = λ R c. each-feed (way_of c.by) R c.at c.piece c.out;
      feeds-refuse = λ R c. (ruled-of c.by.via c.by.list R c.at c.piece).1;
      feeds-said = λ R c. said_of c.by.via c.by.list R c.at c.piece;
      feeds-low = λ R c. (lawful-of c.by.via).below-14 c.by.list R c.at c.piece;
      feeds-cut = λ R c. (lawful-of c.by.via).shorter c.by.list R c.at c.piece;
      stuck-said = stuck-exactly;
      lost-said = λ S X x. (index-moves S X x 0).halts;
      splits-rising = λ L b T R at piece out r. rising-as-before L b T (all-rise T.splits r) R at piece out;
      matrices-plain = matrix-is-plain;
      prepares-split = λ L b T h R at piece out e s hb. index.stand-exact L b T e s h R at piece out hb;
      tables = table-exactly;
      tables-said = table-said;
      fills-said = λ L X n left w. rw w.refuses (fill-tells L X);
      fills-not = λ L X n left w v. w.wrote ∙ rw (ne_eqb (verdict (fill_rules L X)) 0 (λ z. v (w.refuses ∙ z)));
      fills-passes = filled-left;
      indexes-said = λ L b T X n left w. rw w.refused (index-tells L b T X);
      indexes-not = λ L b T X n left w v. w.wrote ∙ rw (ne_eqb (index_refusal L b T X) 0 (λ z. v (w.refused ∙ z)));
      indexes-passes = λ L b T X n left w z. index.filled-left L b T X n left w z;
      builds-one = unique-build;
      builds-said = build-tells;
      builds-not = keeps;
      builds-16 = empties;
      builds-passes = λ L T o b z. let f = fills L T o b z in (f.0, build-accepted L T o b z, f.1);
    }

-- of the calls that came later
pub demand-prepared : DemandPrepared
demand-prepared =
    record {
      hints-kept = hint-kept;
      stands-said = λ L S X r h R at piece out hr hb v. stands L S X r h R hr at piece out hb v;
      hints-alike = λ L S X r h k R at piece out. (feed-hints L S X r h k R at piece out, stood-hints L S X r h k R at piece out);
      prepares-one = unique-prepare;
      prepares-said = prepare-tells;
      prepares-not = prepare-keeps;
      prepares-16 = prepare-empties;
      prepares-passes = prepare-makes;
    }
