-- The list of engines again: the law of each, from its own room. And what follows, by the law alone, of a call by any of them. Assumes nothing.
use Prim.Native.Nat.{ℕ, ◌^◌, ◌≤◌, ◌<◌}
use mathlib.Core.Path.{◌≡◌, refl, sym, ◌∙◌}
use mathlib.Core.Bool.{false}
use mathlib.Core.List.{List}
use native.Mathlib.Omega.{arith}
use native.Mathlib.Decide.{ℕ_discrete}
use Rattle.sets.specs.Set.{states}
use Rattle.rules.specs.Scan.{rising}
use Rattle.rules.specs.Rules.{verdict, Rises, Refuses}
use Rattle.rules.proofs.Rules.{rises, refuses}
use Rattle.list.specs.Automaton.{step}
use Rattle.feed.specs.Engine.{feed}
use Rattle.feed.specs.Calls.{Bytes, fed_by, all_bytes, outcome, ruled, asked, Pieces}
use Rattle.feed.specs.Lawful.{Lawful}
use Rattle.feed.proofs.Going.{unfed}
use Rattle.feed.proofs.Whole.{Kind, Acts, all-fed}
use Rattle.list_flow.specs.Flow.{flow_layout, frontier_of, bad_flow}
use Rattle.list_flow.proofs.Saved.{flow-sound}
use Rattle.list_flow.proofs.Kept.{rows_few, good-feed}
use Rattle.list_feed.specs.Plain.{plain}
use Rattle.list_feed.specs.Means.{list_automata}
use Rattle.list_feed.proofs.Lawful as list
use Rattle.table_feed.proofs.Lawful as table
use Rattle.matrix.proofs.Lawful as matrix
use Rattle.table_feed.proofs.Stepping.{split-cheap}
use Rattle.index.proofs.Lawful as index
use Rattle.rules.specs.Words.{InWords}
use Rattle.laws.specs.Calls.{Via, by_list, by_table, by_matrix, by_index, Counting, by_slots, by_one, count_by, means_of, words_by, Call, way_of}
use Rattle.laws.specs.Demands.{counted}
use Rattle.laws.proofs.Saying.{feed-tells, split-tells, matrix-tells, prepared-tells}

-- a byte counts at most a row for each state
count-few : (n : Counting) (F : ℕ) → count_by n F ≤ states
count-few (by_slots T) F = omega (arith, split-cheap T F)
count-few by_one F = omega arith

pub lawful-of : (v : Via) → Lawful list_automata (means_of v)
lawful-of by_list = list.lawful
lawful-of (by_table b T) = table.lawful b T
lawful-of (by_matrix X) = matrix.lawful X
lawful-of (by_index b n S X h) = index.lawful b (count_by n) (count-few n) S X h

pub said_of : (v : Via) (L R : List ℕ) (at : ℕ) (piece : List ℕ) → InWords (words_by v L R at piece) (verdict ((means_of v).rules L R at piece))
said_of by_list L = feed-tells L
said_of (by_table b T) L = split-tells L b T
said_of (by_matrix X) L = matrix-tells L X
said_of (by_index b n S X h) L = prepared-tells S X h

pub ruled-of : (v : Via) (L R : List ℕ) (at : ℕ) (piece : List ℕ) → Rises ((means_of v).rules L R at piece) × Refuses ((means_of v).rules L R at piece) (verdict ((means_of v).rules L R at piece))
unfolding rising
ruled-of by_list L R at piece = let rs = (means_of by_list).rules L R at piece in (rises 0 rs refl, refuses rs refl)
ruled-of (by_table b T) L R at piece = let rs = (means_of (by_table b T)).rules L R at piece in (rises 0 rs refl, refuses rs refl)
ruled-of (by_matrix X) L R at piece = let rs = (means_of (by_matrix X)).rules L R at piece in (rises 0 rs refl, refuses rs refl)
ruled-of (by_index b n S X h) L R at piece = let rs = (means_of (by_index b n S X h)).rules L R at piece in (rises 0 rs refl, refuses rs refl)

-- ---- of any of them

-- the record keeps what 4 asks but for foreign states
pub call-good : (v : Via) (L R : List ℕ) (at : ℕ) (piece out : List ℕ) → Bytes piece → (means_of v).Lent → bad_flow R ≡ false → bad_flow (fed_by (way_of (record { list = L; via = v })) R at piece out).saved ≡ false
call-good v L R at piece out h l g =
    let M = means_of v in
    good-feed (M.engine L) (λ Q. M.stands (frontier_of Q)) M.frontier (M.rules L R at piece) R piece out ((lawful-of v).cheap l L) (λ z. ((lawful-of v).passes L R at piece z).2) h g

-- calls whose pieces are bytes consume bytes
pub calls-bytes : (R : List ℕ) (cs : List Call) → Pieces (asked way_of) cs → Bytes (all_bytes (asked way_of) R cs)
calls-bytes R cs h = all-fed (λ (c : Call). c.piece) (λ (c : Call) (Q : List ℕ). outcome way_of Q c) R cs h

-- ---- as calls in a row, on frontiers of a kind that the automaton of L keeps: one that no rule refuses has to be a feed by that, at costs of its own

abbrev pub list_kind : (L : List ℕ) (Good : ℕ → Type 0) → ((F : ℕ) → Good F → F < 2 ^ states) → ((F c : ℕ) → c < 256 → Good F → Good (step L F c)) → Kind Call ℕ
list_kind L Good small kept =
    record {
      piece = λ c. c.piece;
      out = λ c. c.out;
      does = λ c R. outcome way_of R c;
      layout = flow_layout;
      engine = plain L;
      Good = Good;
      most = states;
      rules = ruled way_of;
      cost = λ c. (means_of c.by.via).spends;
      sound = flow-sound Good small;
      stays = kept;
    }

module _ (L : List ℕ) (Good : ℕ → Type 0) (small : (F : ℕ) → Good F → F < 2 ^ states) (kept : (F c : ℕ) → c < 256 → Good F → Good (step L F c)) where
  pub acts-so : (R : List ℕ) (c : Call) → (verdict (ruled way_of R c) ≡ 0 → outcome way_of R c ≡ feed (ruled way_of R c) (counted c.by.via L) flow_layout R c.piece c.out)
      → Acts (list_kind L Good small kept) R c
  acts-so R c f =
      record {
        is =
            elim (ℕ_discrete (verdict (ruled way_of R c)) 0) [
              | yes v ↦ f v
              | no n ↦ unfed (way_of c.by).engine (way_of c.by).layout R c.piece c.out (ruled way_of R c) n
                  ∙ sym (unfed (counted c.by.via L) flow_layout R c.piece c.out (ruled way_of R c) n)
            ];
        cheap = λ v F g. (lawful-of c.by.via).counts F;
        rows_few = λ v. rows_few R ((lawful-of c.by.via).passes c.by.list R c.at c.piece v).0;
        short = λ v. ((lawful-of c.by.via).passes c.by.list R c.at c.piece v).2;
      }
