-- The end of a feed: what it answers and saves of what its loop leaves.
use Rattle.std.specs.Prelude.{ℕ, ◌+◌, ◌≡◌, cond, List, length, eqb}
use Rattle.sets.specs.Set.{set_of}
use Rattle.feed.specs.declared.Fed.{Fed}
use Rattle.feed.specs.inner.Tells.{Ends}
use Rattle.list_flow.specs.Flow.{flow_size, flow_bytes, offset_of, rows_of}
use Rattle.list_flow.specs.declared.Ran.{Ran}

-- of a piece of `len` bytes, on the record R: the code answers f, and leaves the record `sv`
pub record Finishes (ran : Ran) (len : ℕ) (R : List ℕ) (f : Fed) (sv : List ℕ) : Type 0 where
  pub fed : Ends ran.refusal ran.bytes ran.words len f
  pub saved : sv ≡ cond (eqb (length R) flow_size) (flow_bytes (set_of ran.frontier) (offset_of R + ran.bytes) (rows_of R + ran.rows)) R
