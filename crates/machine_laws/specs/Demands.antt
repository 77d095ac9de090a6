-- Demands 1 and 2 for the automaton with bits and counters, as statements about the definitions. Each entry point of the code promises to be its definition.
use Rattle.std.specs.Prelude.{ℕ, true, false, List, ◌≡◌, length}
use Rattle.rules.specs.Rules.{verdict, Refuses}
use Rattle.rules.specs.Words.{InWords}
use Rattle.feed.specs.Calls.{Bytes, outcome, ruled, asked, Pieces, Along}
use Rattle.feed.specs.Demands.{Unchanged, OneOpening, OneFeed, Tells, Flowed, Onward, Cuts}
use Rattle.feed.specs.Demands as calls
use Rattle.feed.specs.Opening.{Opening}
use Rattle.feed.specs.Piece.{other_start}
use Rattle.machine.specs.Machine.{state_count, machine_rules, machine_refusal, machine, first, first_alerts}
use Rattle.machine.specs.Record.{flow_layout, offset_of, bad_flow}
use Rattle.machine.specs.Extended.{open_pairs, first_rules, opened, extended_open}
use Rattle.machine.specs.Words.{machine_words, open_words, feed_words}
use Rattle.machine_laws.specs.Calls.{Call, way_of, OnMachine}

-- ==== Demand 1: each refusal has a number, is given exactly when the rules say, and changes nothing in the buffers.

pub record Demand1 : Type 0 where
  -- the check: 24; opening: 24, 4, 15; the feed: 24, 4, 5, 6. Of the rules that apply the first in this order is given, and 0 where none does; and in words:
  -- each number exactly when its words hold and those of no row before it do. A refusal changes nothing
  pub checks : (M P : List ℕ) → Refuses (machine_rules M P) (machine_refusal M P)
  pub checks-said : (M P : List ℕ) → InWords (machine_words M P) (machine_refusal M P)
  -- opening looks at the lengths of the record and of the words alone, and leaves the start state after its program at offset 0
  pub opens : (M P R out : List ℕ) → OneOpening (first_rules M P R) (open_pairs P) (opened P) R out (extended_open M P R out)
  pub opens-said : (M P R out : List ℕ) → InWords (open_words M P R out) (extended_open M P R out).refusal
  pub opens-length : (M P R Q out ws : List ℕ) → length R ≡ length Q → length out ≡ length ws → (extended_open M P R out).refusal ≡ (extended_open M P Q ws).refusal
  pub feeds : (R : List ℕ) (c : Call) → OneFeed (way_of c.by) R c.at c.piece c.out (outcome way_of R c)
  pub feeds-refuse : (R : List ℕ) (c : Call) → Refuses (ruled way_of R c) (outcome way_of R c).refusal
  pub feeds-said : (R : List ℕ) (c : Call) → InWords (feed_words c.by.moves c.by.programs R c.at c.piece) (outcome way_of R c).refusal

-- ==== Demand 2: the feed reports exactly the pairs that the automaton's definition gives for the bytes consumed, going on from the saved
-- ==== configuration, each once, by offset and then signature. It consumes as many bytes as have room for their pairs. A piece that doesn't
-- ==== begin at the flow's offset is refused. From opening on the pairs of offset 0 count as well.

-- a call that no rule refuses is by the lists M and P; one that is refused may hold anything
abbrev pub By : List ℕ → List ℕ → List ℕ → Call → Type 0
By M P R c = verdict (ruled way_of R c) ≡ 0 → OnMachine M P c.by

-- from any record: exactly the pairs of the definition on the bytes consumed, going on from the saved configuration, by offset and then signature; and the record goes on from there
abbrev pub MachineTells : Type 0
MachineTells = (M P : List ℕ) → Bytes M → Bytes P → (R : List ℕ) (cs : List Call) → Bytes R → Pieces (asked way_of) cs → Along (asked way_of) (By M P) R cs → Tells way_of flow_layout (machine M P) R cs

-- ws are exactly the pairs of a flow of M and P, from its opening on, that has consumed bs
abbrev pub Due : List ℕ → List ℕ → List ℕ → List ℕ → Type 0
Due M P = calls.Due (machine M P) (first P) (first_alerts P)

-- the whole flow, by its opening o and the calls that follow: opening's words, then the feeds'
pub record Demand2Opened (M P : List ℕ) (o : Opening) (cs : List Call) : Type 0 where
  pub flows : Flowed (asked way_of) flow_layout (machine M P) (first P) (first_alerts P) o cs
  pub feeds : Tells way_of flow_layout (machine M P) o.saved cs
  -- no call by M and P is refused with 4
  pub never-4 : Along (asked way_of) (λ Q c. c.by.moves ≡ M → c.by.programs ≡ P → (outcome way_of Q c).refusal ≡ 4 → ⊥) o.saved cs

abbrev pub MachineFlows : Type 0
MachineFlows = (M P : List ℕ) → Bytes M → Bytes P → Onward (asked way_of) (extended_open M P) (By M P) (Demand2Opened M P)

-- cut anywhere
abbrev pub MachineCuts : Type 0
MachineCuts = (M P : List ℕ) → Bytes M → Bytes P → (R : List ℕ) → Bytes R → bad_flow (state_count M) R ≡ false → Cuts (asked way_of) (By M P) R

-- of one call
pub record OneCall : Type 0 where
  -- a piece that does not begin at the flow's offset is refused and changes nothing
  pub elsewhere : (R : List ℕ) (c : Call) → other_start (offset_of R) c.at ≡ true → ((outcome way_of R c).refusal ≡ 0 → ⊥) × Unchanged R c.out (outcome way_of R c)
  -- a feed leaves no record that a later feed by its lists refuses with 4
  pub never-4 : (R : List ℕ) (c : Call) → Bytes R → Bytes c.piece → Bytes c.by.programs → bad_flow (state_count c.by.moves) R ≡ false
      → bad_flow (state_count c.by.moves) (outcome way_of R c).saved ≡ false
