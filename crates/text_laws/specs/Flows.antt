-- What a list that compiling wrote is good for: it passes 1 to 3 in every entry point, and a flow under it tells exactly the pairs of the text's language.
use Rattle.std.specs.Prelude.{ℕ, ◌+◌, ◌*◌, ◌≤◌, ◌<◌, ◌≡◌, List, ◌++◌, ◌⊎◌, ◌↔◌, length, take}
use Rattle.list.specs.List.{list_refusal}
use Rattle.feed.specs.Calls.{Bytes, outcome, asked, all_bytes, all_told}
use Rattle.feed.specs.Pairs.{Pair, Before}
use Rattle.list_flow.specs.Opening.{open_flow}
use Rattle.table.specs.Table.{Table, table_refusal}
use Rattle.matrix.specs.Matrix.{Fills}
use Rattle.index_fill.specs.Filled.{FillsIndex}
use Rattle.table_build.specs.Build.{Building, Builds}
use Rattle.machine_certificate.specs.Certificate.{certificate_refusal}
use Rattle.segment_feed.specs.Segment.{Sent, Kept, feed_segment}
use Rattle.feed.specs.Demands.{open_told, Onward}
use Rattle.laws.specs.Calls.{Via, way_of}
use Rattle.laws.specs.Demands.{Swaps}
use Rattle.text.specs.Grammar.{Text}
use Rattle.text_compile.specs.declared.Compiled.{Compiled}
use Rattle.text_compile.specs.Compile.{Compiles}
use Rattle.text_compile.specs.Words.{Reading}
use Rattle.text_laws.specs.Language.{EndsIn, RecordsRise}

-- the list that compiling answered: so many bytes of the lent one
abbrev pub front : Compiled → List ℕ → List ℕ
front r B = take r.length B

-- no refusal, or one that comes after 1 to 3
abbrev pub Past : ℕ → Type 0
Past n = (n ≡ 0) ⊎ (3 < n)

-- in no entry point that takes a list is L refused with 1 to 3
pub record PassesAll (L : List ℕ) : Type 0 where
  pub lists : list_refusal L ≡ 0
  pub opens : (R out : List ℕ) → Past (open_flow L R out).refusal
  -- by the list alone, through a table, by a matrix or by an index
  pub feeds : (v : Via) (R : List ℕ) (at : ℕ) (piece out : List ℕ) → Past (outcome way_of R (record { by = record { list = L; via = v }; at = at; piece = piece; out = out })).refusal
  pub fills : (X : List ℕ) (refusal : ℕ) (left : List ℕ) → Fills L X refusal left → Past refusal
  pub tables : (b : ℕ) (T : Table) → Past (table_refusal L b T)
  pub indexes : (b : ℕ) (T : Table) (X : List ℕ) (refusal : ℕ) (left : List ℕ) → FillsIndex L b T X refusal left → Past refusal
  pub builds : (T : Table) (o : Building) → Builds L T o → Past o.refusal
  pub certificates : (M P Z : List ℕ) → Past (certificate_refusal L M P Z)
  pub segments : (v : Via) (g : Sent) (S : Kept) (out : List ℕ) → Past (feed_segment (way_of (record { list = L; via = v })) g S out).refusal

-- ws are the pairs of the language of x on the bytes bs: (g, k) exactly where the first k bytes end in a word of it, k = 0 too; by offset, each once
pub record Tells (x : Text) (g : ℕ) (bs ws : List ℕ) : Type 0 where
  pub told : (h k : ℕ) → Pair ws h k ↔ ((k ≤ length bs) × (h ≡ g) × EndsIn x (take k bs))
  pub ordered : (i j : ℕ) → i < j → 2 * j + 1 < length ws → Before ws i j

-- L is a list for the language of x under the signature g
pub record Serves (x : Text) (g : ℕ) (L : List ℕ) : Type 0 where
  pub rises : RecordsRise L
  pub passes : PassesAll L
  -- a flow opened on L and fed by any calls, cut anywhere: plain, through tables that the check accepts, by the filler's matrix, with refused calls between
  pub tells : Onward (asked way_of) (open_flow L) (Swaps L) (λ o cs. Tells x g (all_bytes (asked way_of) o.saved cs) (open_told o ++ all_told (asked way_of) o.saved cs))

-- where compiling T under the signature g, into the lent list A, answered r without a refusal and left B: its front is a list for the language of the text's reading
abbrev pub CompiledServes : Type 0
CompiledServes =
    (T : List ℕ) (g : ℕ) (A : List ℕ) (r : Compiled) (B : List ℕ) → Bytes T → g < 256 → Compiles T g A r B → r.refusal ≡ 0
    → (x : Text) × Reading T x × Serves x g (front r B)
