-- Each promise of the public functions determines the outcome: two outcomes that meet it are equal. Assumes nothing.
use mathlib.Core.Path.{◌≡◌, refl, sym, ap, ◌∙◌}
use mathlib.Core.List.{List}
use mathlib.Core.Bool.{Bool, false≢true}
use Prim.Native.Nat.{ℕ}
use Rattle.numbers.specs.Number.{placed}
use Rattle.sets.specs.Set.{signatures, members}
use Rattle.rules.specs.Rules.{verdict}
use Rattle.feed.specs.declared.Fed.{Fed}
use Rattle.feed.specs.Engine.{Outcome, pairs_at}
use Rattle.feed.specs.Piece.{piece_rules}
use Rattle.feed.specs.inner.Tells.{Unfed, Ends}
use Rattle.feed.specs.inner.Told.{TellsAll}
use Rattle.std.specs.Prelude.{Option, Some, None}
use Rattle.feed.specs.Fed.{Answers}
use Rattle.feed.specs.Opening.{Opening, Opens}
use Rattle.feed.specs.declared.Opened.{Opened}

-- the check of a piece gives one number
pub unique-piece-refusal : (r q k at : ℕ) (piece : List ℕ) → r ≡ verdict (piece_rules k at piece) → q ≡ verdict (piece_rules k at piece) → r ≡ q
unique-piece-refusal r q k at piece e f = e ∙ sym f

-- a test of a piece has one answer
pub unique-test : (r q b : Bool) → r ≡ b → q ≡ b → r ≡ q
unique-test r q b e f = e ∙ sym f

-- telling leaves one list of words
pub unique-tell : (r q out : List ℕ) (at k G : ℕ)
    → r ≡ placed out at (pairs_at k (members signatures G)) → q ≡ placed out at (pairs_at k (members signatures G)) → r ≡ q
unique-tell r q out at k G e f = e ∙ sym f

-- answers with the same fields are the same
pub fed-one : (f g : Fed) → f.refusal ≡ g.refusal → f.bytes ≡ g.bytes → f.pairs ≡ g.pairs → f.all ≡ g.all → f ≡ g
fed-one f g a b c d =
    ap {B = Fed} (λ (x : ℕ). record { refusal = x; bytes = f.bytes; pairs = f.pairs; all = f.all }) a
    ∙ ap {B = Fed} (λ (x : ℕ). record { refusal = g.refusal; bytes = x; pairs = f.pairs; all = f.all }) b
    ∙ ap {B = Fed} (λ (x : ℕ). record { refusal = g.refusal; bytes = g.bytes; pairs = x; all = f.all }) c
    ∙ ap {B = Fed} (λ (x : Bool). record { refusal = g.refusal; bytes = g.bytes; pairs = g.pairs; all = x }) d

-- a refusal has one answer
pub unique-refused : (n : ℕ) (f g : Fed) → Unfed n f → Unfed n g → f ≡ g
unique-refused n f g a b =
    fed-one f g (a.refusal ∙ sym b.refusal) (a.bytes ∙ sym b.bytes) (a.pairs ∙ sym b.pairs) (a.all ∙ sym b.all)

-- what answers one opening is one answer, and leaves the same words and the same record
pub unique-opens : (o : Opening) (f g : Opened) (ws vs sv tv : List ℕ) → Opens o f ws sv → Opens o g vs tv → (f ≡ g) × (ws ≡ vs) × (sv ≡ tv)
unique-opens o f g ws vs sv tv a b = (
  ap {B = Opened} (λ (x : ℕ). record { refusal = x; pairs = f.pairs }) (a.refusal ∙ sym b.refusal)
      ∙ ap {B = Opened} (λ (x : ℕ). record { refusal = g.refusal; pairs = x }) (a.pairs ∙ sym b.pairs),
  a.words ∙ sym b.words,
  a.saved ∙ sym b.saved,
)

-- what answers one outcome is one answer, and leaves the same words and the same record
pub unique-answers : (o : Outcome) (f g : Fed) (ws vs sv tv : List ℕ) → Answers o f ws sv → Answers o g vs tv → (f ≡ g) × (ws ≡ vs) × (sv ≡ tv)
unique-answers o f g ws vs sv tv a b = (
  fed-one f g (a.refusal ∙ sym b.refusal) (a.bytes ∙ sym b.bytes) (a.pairs ∙ sym b.pairs) (a.all ∙ sym b.all),
  a.words ∙ sym b.words,
  a.saved ∙ sym b.saved,
)

-- the end of a loop gives one answer
pub unique-ended : (n i w len : ℕ) (f g : Fed) → Ends n i w len f → Ends n i w len g → f ≡ g
unique-ended n i w len f g a b = fed-one f g (a.refusal ∙ sym b.refusal) (a.bytes ∙ sym b.bytes) (a.pairs ∙ sym b.pairs) (a.all ∙ sym b.all)

-- telling all or nothing leaves one answer and one list of words
pub unique-tell-all : (G : ℕ) (out : List ℕ) (w k : ℕ) (t s : Option ℕ) (left end : List ℕ) → TellsAll G out w k t left → TellsAll G out w k s end → (t ≡ s) × (left ≡ end)
unique-tell-all G out w k None None left end a b = (refl, a.wrote ∙ sym b.wrote)
unique-tell-all G out w k (Some n) (Some m) left end a b = (ap {B = Option ℕ} (λ (x : ℕ). Some x) (a.words ∙ sym b.words), a.wrote ∙ sym b.wrote)
unique-tell-all G out w k None (Some m) left end a b = absurd (false≢true (a.fits ∙ sym b.fits))
unique-tell-all G out w k (Some n) None left end a b = absurd (false≢true (b.fits ∙ sym a.fits))
