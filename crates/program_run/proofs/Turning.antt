-- What a turn by any engine says is what a turn of 01's program says. Assumes nothing.
use Prim.Native.Nat.{ℕ, ◌*◌, ◌≤◌}
use mathlib.Core.Path.{◌≡◌, refl, sym, ◌∙◌}
use Rattle.std.specs.Prelude.{Some, None}
use mathlib.Core.Bool.{true≢false}
use mathlib.Core.List.{List}
use native.Mathlib.Omega.{arith}
use lib.ListN.{length, take}
use Rattle.io.specs.Counts.{IsPrefixLen}
use Rattle.rules.specs.Rules.{verdict}
use Rattle.feed.specs.Engine.{Outcome}
use Rattle.feed.specs.Calls.{Bytes}
use Rattle.feed.specs.Fed.{Answers}
use Rattle.feed.specs.declared.Fed.{Fed}
use Rattle.feed.specs.Demands.{Answered}
use Rattle.feed.specs.Lawful.{way_by}
use Rattle.feed.proofs.Moves.{feed-fits}
use Rattle.list_flow.specs.Flow.{feed_rules}
use Rattle.list_feed.specs.Plain.{plain_feed}
use Rattle.list_feed.specs.Means.{list_automata}
use Rattle.list_feed.proofs.Plain.{plain-refusal}
use Rattle.program_text.specs.Text.{lines, last_line}
use Rattle.program.specs.declared.Said.{Said}
use Rattle.program.specs.App.{Turn, turn_of, no_words, Says}
use Rattle.program.proofs.Feeding.{says-end, says-refused, says-lines}
use Rattle.program_run.specs.declared.By.{By}
use Rattle.program_run.specs.Run.{means_by, fed_of, Readied, Alike, Spoken}
use Rattle.program_run.proofs.Alike.{lawful-of, answers-so, leaves-so}

-- a turn that says t and leaves what t leaves
says-own : (t : Turn) (s : Said) (buffer sv : List ℕ) → Says t s buffer sv → Says t s buffer t.saved
says-own t s buffer sv x = record { last = x.last; bytes = x.bytes; counts = x.counts; text = x.text; saved = refl }

-- the pairs of a feed fit the words, whatever it goes by
pub spoken-fit : (L S X : List ℕ) (by : By) (h : ℕ) (Q : List ℕ) (at : ℕ) (rest : List ℕ) (f : Fed) (ws sv : List ℕ) → Answers (fed_of L by S X h Q at rest no_words) f ws sv → 2 * f.pairs ≤ length no_words
spoken-fit L S X by h Q at rest f ws sv w =
    let W = way_by list_automata (means_by by S X h) L in
    omega (arith, w.pairs, feed-fits W.engine W.layout Q (W.rules Q at rest) rest no_words)

module _ (L S X : List ℕ) (by : By) (h : ℕ) (k : Readied L S X by) (R Q : List ℕ) (a : Alike L R Q) (at : ℕ) (rest : List ℕ) where
  -- nothing is left: the last line
  pub spoken-end : (n : ℕ) (buffer : List ℕ) → length rest ≡ 0 → IsPrefixLen n buffer → take n buffer ≡ last_line 0 at
      → Spoken L (turn_of L R at rest) (record { next = None; length = n }) buffer Q
  spoken-end n buffer z c e =
      let x = says-end L R at rest n buffer z c e in
      record { says = says-own _ _ _ _ x; alike = λ l. absurd (true≢false (x.last ∙ l)) }

  module _ (hb : Bytes rest) (f : Fed) (ws sv : List ℕ) (w : Answers (fed_of L by S X h Q at rest no_words) f ws sv) where
    abbrev o : Outcome
    o = plain_feed L R at rest no_words

    same : Answered (fed_of L by S X h Q at rest no_words) o
    same = answers-so L R Q a (means_by by S X h) (lawful-of by S X h) (k.checked h) at rest no_words hb

    -- so the code answers what the plain feed does
    plainly : Answers o f ws o.saved
    plainly =
        record {
          refusal = w.refusal ∙ same.refusal;
          bytes = w.bytes ∙ same.bytes;
          pairs = w.pairs ∙ same.pairs;
          all = w.all ∙ same.all;
          words = w.words ∙ same.words;
          saved = refl;
        }

    module _ (some : length rest ≡ 0 → ⊥) (n : ℕ) (buffer : List ℕ) (c : IsPrefixLen n buffer) where
      -- the feed is refused: the last line
      pub spoken-refused : (f.refusal ≡ 0 → ⊥) → take n buffer ≡ last_line f.refusal at
          → Spoken L (turn_of L R at rest) (record { next = None; length = n }) buffer sv
      spoken-refused z e =
          let x = says-refused L R at rest f ws o.saved plainly some n buffer c z e in
          record { says = says-own _ _ _ _ x; alike = λ l. absurd (true≢false (x.last ∙ l)) }

      -- else its pairs' lines
      pub spoken-lines : f.refusal ≡ 0 → take n buffer ≡ lines ws f.pairs
          → Spoken L (turn_of L R at rest) (record { next = Some f.bytes; length = n }) buffer sv
      spoken-lines z e =
          let x = says-lines L R at rest f ws o.saved plainly some n buffer c z e in
          let v : verdict (feed_rules L R at rest) ≡ 0 = sym (plain-refusal L R at rest no_words) ∙ sym plainly.refusal ∙ z in
          let m = leaves-so L R Q a (means_by by S X h) (lawful-of by S X h) (k.checked h) at rest no_words hb v in
          record { says = says-own _ _ _ _ x; alike = λ l. rw (sym x.saved, w.saved) m }
