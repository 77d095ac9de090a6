-- Each promise of the public functions determines the outcome: two outcomes that meet it are equal. Assumes nothing.
use mathlib.Core.Path.{◌≡◌, sym, ◌∙◌}
use mathlib.Core.List.{List}
use mathlib.Core.Bool.{Bool, cond}
use Prim.Native.Nat.{ℕ}
use lib.ListN.{length}
use lib.Dec.{eqb}
use Rattle.rules.specs.Rules.{verdict}
use Rattle.feed.specs.declared.Fed.{Fed}
use Rattle.feed.specs.declared.Opened.{Opened}
use Rattle.feed.specs.Opening.{Opens}
use Rattle.feed.proofs.Unique.{unique-ended, unique-opens}
use Rattle.list_flow.specs.declared.Ran.{Ran}
use Rattle.list_flow.specs.inner.Ran.{Finishes}
use Rattle.list_flow.specs.Opening.{open_flow}
use Rattle.list_flow.specs.Flow.{flow_size, flow_bytes, flow_rules, feed_rules}

module _ (r q : ℕ) (R : List ℕ) (at : ℕ) (piece : List ℕ) where
  pub unique-flow-refusal : (known : Bool) → r ≡ verdict (flow_rules known R at piece) → q ≡ verdict (flow_rules known R at piece) → r ≡ q
  unique-flow-refusal known e f = e ∙ sym f

  pub unique-feed-refusal : (L : List ℕ) → r ≡ verdict (feed_rules L R at piece) → q ≡ verdict (feed_rules L R at piece) → r ≡ q
  unique-feed-refusal L e f = e ∙ sym f

pub unique-save : (r q R : List ℕ) (F k n : ℕ) → r ≡ cond (eqb (length R) flow_size) (flow_bytes F k n) R → q ≡ cond (eqb (length R) flow_size) (flow_bytes F k n) R → r ≡ q
unique-save r q R F k n e f = e ∙ sym f

-- the end of a feed gives one answer and leaves one record
pub unique-finish : (ran : Ran) (len : ℕ) (R : List ℕ) (f g : Fed) (sv tv : List ℕ) → Finishes ran len R f sv → Finishes ran len R g tv → (f ≡ g) × (sv ≡ tv)
unique-finish ran len R f g sv tv a b = (
  unique-ended ran.refusal ran.bytes ran.words len f g a.fed b.fed,
  a.saved ∙ sym b.saved,
)

-- opening gives one answer and leaves the same words and the same record
pub unique-open : (L R out : List ℕ) (f g : Opened) (ws vs sv tv : List ℕ)
    → Opens (open_flow L R out) f ws sv → Opens (open_flow L R out) g vs tv → (f ≡ g) × (ws ≡ vs) × (sv ≡ tv)
unique-open L R out f g ws vs sv tv a b = unique-opens (open_flow L R out) f g ws vs sv tv a b
