-- What the driver promises: every pair that a feed of any kind told has its reason, said of the numbers that the code answered and the buffers that it left.
use Rattle.std.specs.Prelude.{ℕ, suc, ◌+◌, ◌*◌, ◌≤◌, ◌<◌, List, ◌↔◌, ◌≡◌, length, get_or, take}
use Rattle.rules.specs.Rules.{verdict}
use Rattle.feed.specs.Fed.{Answers}
use Rattle.feed.specs.declared.Fed.{Fed}
use Rattle.feed.specs.declared.Opened.{Opened}
use Rattle.list_flow.specs.Opening.{open_flow}
use Rattle.table.specs.Table.{Table, table_refusal}
use Rattle.matrix.specs.Matrix.{Fills}
use Rattle.index_fill.specs.Filled.{FillsIndex}
use Rattle.feed.specs.Calls.{outcome}
use Rattle.laws.specs.Calls.{way_of}
use Rattle.laws.specs.declared.Kind.{Kind}
use Rattle.laws.specs.Drivers.{via_by, call_of}
use Rattle.list_why.specs.Run.{of_signature}
use Rattle.list_why.specs.Reason.{why_rules}

-- questions on the record R, with the bytes bs from offset 0 on as the piece, of the first n pairs among the words ws: each is answered 0
abbrev pub AllAnswered : List ℕ → List ℕ → List ℕ → List ℕ → ℕ → List ℕ → List ℕ → Type 0
AllAnswered L R bs ws n out work = (i : ℕ) → i < n → verdict (why_rules L R 0 bs (of_signature (get_or ws (2 * i) 0)) (get_or ws (2 * i + 1) 0) out work) ≡ 0

-- the check of T at b, filling the matrix and the index, opening on the records R and S, and a feed of the second, by what is said, answered so; then why was asked, on the
-- first, of each pair that the feed told, until one question was refused
pub record WhyDriven (L : List ℕ) (b : ℕ) (T : Table) (R S out X₀ X Y₀ Y : List ℕ) (kind : Kind) (piece run work : List ℕ) (checked filled indexed : ℕ) (first again : Opened) (fed : Fed)
    (words Q : List ℕ) (refusal : ℕ) : Type 0 where
  pub tables : checked ≡ table_refusal L b T
  pub matrices : Fills L X₀ filled X
  pub indexes : FillsIndex L b T Y₀ indexed Y
  pub opens : first.refusal ≡ (open_flow L R out).refusal
  pub opens-again : again.refusal ≡ (open_flow L S (open_flow L R out).words).refusal
  pub feeds : Answers (outcome way_of (open_flow L S (open_flow L R out).words).saved (call_of L (via_by b T X Y kind) 0 piece (open_flow L S (open_flow L R out).words).words)) fed words Q
  pub asks : (refusal ≡ 0) ↔ AllAnswered L (open_flow L R out).saved (take fed.bytes piece) words fed.pairs run work
  -- where all before them answered 0, and the buffers are long enough for the piece, no question was refused
  pub never-26 : checked ≡ 0 → filled ≡ 0 → indexed ≡ 0 → first.refusal ≡ 0 → again.refusal ≡ 0 → length piece < length run → 128 * suc (length piece) ≤ length work → refusal ≡ 0
