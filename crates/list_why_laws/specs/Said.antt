-- Demand 1 of the questions, and what their answers say: of the number, and of what is left in the lent buffers.
use Rattle.std.specs.Prelude.{ℕ, suc, ◌-◌, ◌*◌, ◌≤◌, ◌<◌, ◌≡◌, true, false, List, ◌↔◌, length, get_or, take}
use Rattle.rules.specs.Rules.{verdict, Rises}
use Rattle.rules.specs.Words.{InWords}
use Rattle.sets.specs.Set.{set_at}
use Rattle.list.specs.List.{records, from, target}
use Rattle.list.specs.Automaton.{edge}
use Rattle.feed.specs.Calls.{Bytes}
use Rattle.list_flow.specs.Flow.{frontier_of, offset_of}
use Rattle.list_why.specs.Run.{Question, Run, Runs, NotOver}
use Rattle.list_why.specs.Reason.{front, place_rules, why_rules, Explains, links, edge_rules, Finds}
use Rattle.list_why.specs.declared.Found.{Found}
use Rattle.list_why_laws.specs.Words.{why_words, edge_words}

-- of a question that answers `refusal` and leaves the states `left` and the work place `held`; n bytes lie between the flow's offset and k
pub record Said (L R : List ℕ) (at : ℕ) (piece : List ℕ) (q : Question) (k : ℕ) (out work : List ℕ) (refusal : ℕ) (left held : List ℕ) : Type 0 where
  -- each number exactly when its words hold and those of no earlier row do; and then nothing changes
  pub said : InWords (why_words L R at piece q k out work) refusal
  pub stays : (refusal ≡ 0 → ⊥) → (left ≡ out) × (held ≡ work)
  -- where none of 1 to 6 and 25 applies, the answer is 0 exactly when there is a run
  pub some : verdict (place_rules L R at piece k out work) ≡ 0 → (refusal ≡ 0) ↔ Runs L (frontier_of R) piece (k - offset_of R) q
  -- the states at the front are then a run, and no run is lower
  pub told : refusal ≡ 0 → Run L (frontier_of R) piece (k - offset_of R) q (take (suc (k - offset_of R)) left)
  pub lowest : refusal ≡ 0 → (ys : List ℕ) → Run L (frontier_of R) piece (k - offset_of R) q ys → NotOver (k - offset_of R) (take (suc (k - offset_of R)) left) ys
  -- the work place then holds the frontiers after 0 to n bytes, 128 bytes each
  pub fronts : refusal ≡ 0 → (i : ℕ) → i ≤ k - offset_of R → set_at held (128 * i) ≡ front L (frontier_of R) piece i
  -- whether refused or not: what is behind them stays, and there is as much
  pub states-stay : (i : ℕ) → suc (k - offset_of R) ≤ i → get_or left i 0 ≡ get_or out i 0
  pub work-stays : (i : ℕ) → 128 * suc (k - offset_of R) ≤ i → get_or held i 0 ≡ get_or work i 0
  pub states-many : length left ≡ length out
  pub work-many : length held ≡ length work

-- of the question which edge record leads from s to t on c
pub record EdgeSaid (L : List ℕ) (s c t : ℕ) (f : Found) : Type 0 where
  pub said : InWords (edge_words L s c t) f.refusal
  pub none : (f.refusal ≡ 0 → ⊥) → f.place ≡ 0
  -- the record answered is one of L, an edge that the byte takes from s to t, and no record before it is
  pub found : f.refusal ≡ 0 → (f.place < records L) × (edge L c f.place ≡ true) × (from L f.place ≡ s) × (target L f.place ≡ t)
  pub earliest : f.refusal ≡ 0 → (i : ℕ) → i < f.place → links L s c t i ≡ false

-- ==== Demand 1: the numbers of each table rise; each is given exactly when its words hold and those of no earlier row do, and changes nothing; there is one outcome

pub record Demand1 : Type 0 where
  pub lowest : (L R : List ℕ) (at : ℕ) (piece : List ℕ) (q : Question) (k : ℕ) (out work : List ℕ) (s c t : ℕ) → Rises (why_rules L R at piece q k out work) × Rises (edge_rules L s c t)
  pub whys : (L R : List ℕ) (at : ℕ) (piece : List ℕ) (q : Question) (k : ℕ) (out work : List ℕ) (refusal : ℕ) (left held : List ℕ) → Bytes R
      → Explains L R at piece q k out work refusal left held → Said L R at piece q k out work refusal left held
  pub edges : (L : List ℕ) (s c t : ℕ) (f : Found) → Finds L s c t f → EdgeSaid L s c t f
  pub whys-one : (L R : List ℕ) (at : ℕ) (piece : List ℕ) (q : Question) (k : ℕ) (out work : List ℕ) (r p : ℕ) (xs ys ws vs : List ℕ)
      → Explains L R at piece q k out work r xs ws → Explains L R at piece q k out work p ys vs → (r ≡ p) × (xs ≡ ys) × (ws ≡ vs)
  pub edges-one : (L : List ℕ) (s c t : ℕ) (f g : Found) → Finds L s c t f → Finds L s c t g → (f.refusal ≡ g.refusal) × (f.place ≡ g.place)
