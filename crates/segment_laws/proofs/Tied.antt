-- The segments that a caller hands in are those of the entry points; and by a filled index one hears what it hears through the table. Assumes nothing.
use Prim.Native.Nat.{ℕ}
use mathlib.Core.Path.{◌≡◌, refl, sym, ◌∙◌}
use mathlib.Core.List.{List, []}
use Rattle.feed.specs.Calls.{Bytes}
use Rattle.list_flow.specs.Flow.{offset_of}
use Rattle.table.specs.Table.{Table, table_refusal}
use Rattle.index.proofs.Lawful.{same-verdict}
use Rattle.index_fill.specs.Filled.{filled_index}
use Rattle.index_fill.proofs.Ready.{stand-exact}
use Rattle.laws.specs.Calls.{Call, by_list, by_table, by_index, Counting, by_slots, way_of}
use Rattle.laws.proofs.Demand1.{demand-prepared}
use Rattle.laws.proofs.Engines.{lawful-of}
use Rattle.laws.proofs.Built.{filled-swaps}
use Rattle.machine_laws.specs.Calls as machines
use Rattle.segment_feed.specs.Segment.{Sent, Kept}
use Rattle.segment_feed.specs.Ways.{plain_segment, split_segment}
use Rattle.segment_feed.specs.Calls.{sent_of, hears}
use Rattle.segment_feed.proofs.Same as same
use Rattle.segment_index.specs.Standing.{stand_way, stand_segment}
use Rattle.segment_machine.specs.Ways.{machine_segment}
use Rattle.segment_laws.specs.Streams.{HintsAlike}

pub handed-plain : (s : ℕ) (S : Kept) (L : List ℕ) (start : ℕ) (bytes out : List ℕ)
    → let c : Call = record { by = record { list = L; via = by_list }; at = start; piece = bytes; out = out } in hears way_of s S c ≡ plain_segment L (sent_of s c) S out
handed-plain s S L start bytes out = refl

pub handed-split : (s : ℕ) (S : Kept) (L : List ℕ) (b : ℕ) (T : Table) (start : ℕ) (bytes out : List ℕ)
    → let c : Call = record { by = record { list = L; via = by_table b T }; at = start; piece = bytes; out = out } in hears way_of s S c ≡ split_segment L b T (sent_of s c) S out
handed-split s S L b T start bytes out = refl

pub handed-index : (s : ℕ) (K : Kept) (L : List ℕ) (b : ℕ) (n : Counting) (S X : List ℕ) (h : ℕ) (start : ℕ) (bytes out : List ℕ)
    → let c : Call = record { by = record { list = L; via = by_index b n S X h }; at = start; piece = bytes; out = out } in hears way_of s K c ≡ stand_segment S X h (sent_of s c) K out
handed-index s K L b n S X h start bytes out = refl

pub handed-machine : (s : ℕ) (K : Kept) (M P : List ℕ) (start : ℕ) (bytes out : List ℕ)
    → let c : machines.Call = record { by = record { moves = M; programs = P }; at = start; piece = bytes; out = out } in hears machines.way_of s K c ≡ machine_segment M P (sent_of s c) K out
handed-machine s K M P start bytes out = refl

-- by the index that the filler writes for a table that the check accepts, from any hint, a segment hears and leaves what it does through that table
pub same-segment : (L : List ℕ) (b : ℕ) (T : Table) → table_refusal L b T ≡ 0 → Bytes T.splits → (h : ℕ) (g : Sent) → Bytes g.bytes → (S : Kept) (out : List ℕ) → Bytes S.held
    → stand_segment T.splits (filled_index L T) h g S out ≡ split_segment L b T g S out
same-segment L b T e s h g sb =
    let v = by_index b (by_slots T) T.splits (filled_index L T) h in
    same.same-segment (way_of (record { list = L; via = v })) (way_of (record { list = L; via = by_table b T })) (λ R. refl)
    (λ R. (lawful-of v).same L (filled-swaps L b T e s h) R (offset_of R) [] ∙ sym ((lawful-of (by_table b T)).same L e R (offset_of R) []))
    (λ R piece out. stand-exact L b T e s h R (offset_of R) piece out) g sb

-- by a right index it hears and leaves the same from every hint
pub hints-alike : HintsAlike
hints-alike L S X r h k g sb =
    same.same-segment (stand_way S X h) (stand_way S X k) (λ R. refl) (λ R. same-verdict L S X r h R (offset_of R) [] ∙ sym (same-verdict L S X r k R (offset_of R) []))
    (λ R piece out hb. (demand-prepared.hints-alike L S X r h k R (offset_of R) piece out).0) g sb
