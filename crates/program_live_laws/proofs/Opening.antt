-- The opening of a line, of either kind: its text is the lines of offset 0, and the state holds the opened record. Assumes nothing.
use Prim.Native.Nat.{ℕ, ◌/◌}
use mathlib.Core.Path.{◌≡◌, refl, sym, ap, ◌∙◌}
use mathlib.Core.Bool.{true, false}
use mathlib.Core.List.{List, [], ◌∷◌, ◌++◌, append-nil}
use native.Mathlib.Omega.{arith}
use lib.ListN.{length, drop, replicate}
use Rattle.numbers.specs.Number.{num, placed}
use Rattle.rules.specs.Rules.{verdict}
use Rattle.list.specs.Automaton.{start}
use Rattle.feed.specs.Engine.{told}
use Rattle.feed.proofs.Opening.{opens, opening-refusal}
use Rattle.list_flow.specs.Flow.{flow_size}
use Rattle.list_flow.proofs.Records.{length-flow}
use Rattle.list_flow.specs.Opening.{open_pairs, open_rules, opened, open_flow}
use Rattle.program_turn.specs.State.{state_size, long_at, before_at, flow_at, fresh_state}
use Rattle.program_turn.specs.Turn.{no_words, no_record, lines_from, again_text, is_told, lines_turn, open_turn}
use Rattle.program_live_laws.specs.Killed.{opening, lines_to}
use Rattle.program_live_laws.proofs.Parts.{put_other, fresh-size, fresh-number}
use Rattle.program_live_laws.proofs.Lines.{lines-front}

module _ (L B : List ℕ) (kind : ℕ) (z : (open_flow L no_record no_words).refusal ≡ 0) where
  -- the words of offset 0, and how many pairs they are
  abbrev pub first_words : List ℕ
  first_words = open_pairs L ++ drop (length (open_pairs L)) no_words

  abbrev pub first_pairs : ℕ
  first_pairs = length (open_pairs L) / 2

  -- the fresh state with the opened record
  abbrev pub begun_state : List ℕ
  begun_state = placed (fresh_state L kind (replicate state_size 0)) flow_at (opened L)

  pub opened-long : length (opened L) ≡ flow_size
  opened-long = length-flow (start L) 0 0

  pub opening-is : opening L kind ≡ lines_turn true first_pairs 0 0 false first_words begun_state 0
  unfolding open_turn
  opening-is =
      let rules = open_rules L no_record no_words in
      let v : verdict rules ≡ 0 = sym (opening-refusal rules (open_pairs L) (opened L) no_record no_words) ∙ z in
      let e : open_flow L no_record no_words ≡ record { refusal = 0; pairs = first_pairs; words = first_words; saved = opened L } = opens rules (open_pairs L) (opened L) no_record no_words v in
      rw e

  pub begun-before : long_at begun_state before_at ≡ 0
  begun-before =
      ap (num 8) (put_other (record { at = flow_at; size = flow_size; bytes = opened L } ∷ []) (fresh_state L kind (replicate state_size 0)) (fresh-size L kind) (opened-long, refl, tt) before_at 8 refl)
      ∙ fresh-number L kind before_at 8 refl

  pub opening-text : (lines_turn true first_pairs 0 0 false first_words begun_state 0).text ≡ lines_to L B 0
  unfolding is_told again_text told
  opening-text =
      append-nil (lines_from (long_at begun_state before_at) first_words first_pairs)
      ∙ ap (λ (j : ℕ). lines_from j first_words first_pairs) begun-before
      ∙ lines-front 0 (open_pairs L) (drop (length (open_pairs L)) no_words) first_pairs (omega arith)
      ∙ ap (λ (xs : List ℕ). lines_from 0 xs (length xs / 2)) (sym (append-nil (open_pairs L)))
