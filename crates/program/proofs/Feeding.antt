-- What one turn gives the program's loop: its pairs fit the words, and a turn that is not the last moves the flow; so of the opening. Assumes nothing.
use Prim.Native.Nat.{ℕ, ◌+◌, ◌*◌, ◌≤◌, ◌<◌}
use mathlib.Core.Path.{◌≡◌, refl, sym, ap, ◌∙◌}
use Rattle.std.specs.Prelude.{Some, None}
use mathlib.Core.Bool.{Bool, true, false, cond, true≢false}
use mathlib.Core.List.{List}
use native.Mathlib.Omega.{arith}
use lib.ListN.{length, take}
use lib.Dec.{eqb}
use borrow.Author.Tests.{eqb-true, eqb-false, eq-eqb, ne_eqb}
use Rattle.io.specs.Counts.{IsPrefixLen}
use Rattle.feed.specs.Engine.{most_offset, Outcome}
use Rattle.list_flow.specs.Flow.{flow_layout, feed_rules}
use Rattle.list_flow.specs.Opening.{open_flow}
use Rattle.list_flow.proofs.Opening.{opened-fits}
use Rattle.feed.specs.Fed.{Answers}
use Rattle.feed.specs.declared.Fed.{Fed}
use Rattle.feed.proofs.Moves.{feed-fits}
use Rattle.feed.specs.Opening.{Opening, Opens}
use Rattle.feed.specs.declared.Opened.{Opened}
use Rattle.list_feed.specs.Plain.{plain, plain_feed}
use Rattle.list_feed.proofs.Progress.{progress}
use Rattle.program_text.specs.Text.{lines, last_line}
use Rattle.program.specs.App.{Turn, last_turn, open_turn, turn_of, no_words, Says}

pub pairs-fit : (L R : List ℕ) (at : ℕ) (piece out : List ℕ) (f : Fed) (ws sv : List ℕ) → Answers (plain_feed L R at piece out) f ws sv → 2 * f.pairs ≤ length out
pairs-fit L R at piece out f ws sv a = omega (arith, a.pairs, feed-fits (plain L) flow_layout R (feed_rules L R at piece) piece out)

module _ (L R : List ℕ) (at : ℕ) (rest : List ℕ) where
  abbrev o : Outcome
  o = plain_feed L R at rest no_words

  -- a turn whose piece has bytes left or not, and whose feed is refused or not
  abbrev pub turn_by : Bool → Bool → Turn
  turn_by e z =
      cond e (last_turn 0 at R)
      (cond z (record { last = false; bytes = o.bytes; text = lines o.words o.pairs; saved = o.saved }) (last_turn o.refusal at o.saved))

  pub turn-by : (e z : Bool) → eqb (length rest) 0 ≡ e → eqb o.refusal 0 ≡ z → turn_of L R at rest ≡ turn_by e z
  unfolding turn_of
  turn-by e z p q = ap (λ (b : Bool). turn_by b (eqb o.refusal 0)) p ∙ ap (turn_by e) q

  pub record Moving : Type 0 where
    pub goes : 0 < (turn_of L R at rest).bytes
    pub front : (turn_of L R at rest).bytes ≤ length rest
    pub short : at + (turn_of L R at rest).bytes ≤ most_offset

  pub turn-moves : (turn_of L R at rest).last ≡ false → Moving
  turn-moves = go (eqb (length rest) 0) (eqb o.refusal 0) refl refl
    where
      go : (e z : Bool) → eqb (length rest) 0 ≡ e → eqb o.refusal 0 ≡ z → (turn_of L R at rest).last ≡ false → Moving
      go true z p q l = absurd (true≢false (sym (ap (λ (t : Turn). t.last) (turn-by true z p q)) ∙ l))
      go false false p q l = absurd (true≢false (sym (ap (λ (t : Turn). t.last) (turn-by false false p q)) ∙ l))
      go false true p q l =
          let m = progress L R at rest no_words (eqb-true o.refusal 0 q) in
          let n : length rest ≡ 0 → ⊥ = eqb-false (length rest) 0 p in
          let b : (turn_of L R at rest).bytes ≡ o.bytes = ap (λ (t : Turn). t.bytes) (turn-by false true p q) in
          record {
            goes = rw b (m.moves (omega (arith, n)) (omega arith));
            front = rw b m.front;
            short = rw b (omega (arith, m.front, m.short));
          }

  -- ---- the code's three ways to say it

  pub says-end : (n : ℕ) (buffer : List ℕ) → length rest ≡ 0 → IsPrefixLen n buffer → take n buffer ≡ last_line 0 at
      → Says (turn_of L R at rest) (record { next = None; length = n }) buffer R
  says-end n buffer z c e = rw (turn-by true (eqb o.refusal 0) (eq-eqb (length rest) 0 z) refl) (record { last = refl; bytes = refl; counts = c; text = e; saved = refl })

  module _ (f : Fed) (ws sv : List ℕ) (a : Answers o f ws sv) (some : length rest ≡ 0 → ⊥) (n : ℕ) (buffer : List ℕ) (c : IsPrefixLen n buffer) where
    pub says-refused : (f.refusal ≡ 0 → ⊥) → take n buffer ≡ last_line f.refusal at
        → Says (turn_of L R at rest) (record { next = None; length = n }) buffer sv
    says-refused z e =
        rw (turn-by false false (ne_eqb (length rest) 0 some) (ne_eqb o.refusal 0 (λ y. z (a.refusal ∙ y))))
        (record { last = refl; bytes = refl; counts = c; text = rw a.refusal at e; saved = a.saved })

    pub says-lines : f.refusal ≡ 0 → take n buffer ≡ lines ws f.pairs
        → Says (turn_of L R at rest) (record { next = Some f.bytes; length = n }) buffer sv
    says-lines z e =
        rw (turn-by false true (ne_eqb (length rest) 0 some) (eq-eqb o.refusal 0 (sym a.refusal ∙ z)))
        (record { last = refl; bytes = a.bytes; counts = c; text = rw (a.words, a.pairs) at e; saved = a.saved })

-- ---- the opening

module _ (L R : List ℕ) where
  abbrev p : Opening
  p = open_flow L R no_words

  abbrev pub open_by : Bool → Turn
  open_by z = cond z (record { last = false; bytes = 0; text = lines p.words p.pairs; saved = p.saved }) (last_turn p.refusal 0 p.saved)

  pub open-by : (z : Bool) → eqb p.refusal 0 ≡ z → open_turn L R ≡ open_by z
  unfolding open_turn
  open-by z q = ap open_by q

  module _ (f : Opened) (ws sv : List ℕ) (a : Opens p f ws sv) where
    pub open-pairs-fit : 2 * f.pairs ≤ length no_words
    open-pairs-fit = omega (arith, a.pairs, opened-fits L R no_words)

    module _ (n : ℕ) (buffer : List ℕ) (c : IsPrefixLen n buffer) where
      pub says-unopened : (f.refusal ≡ 0 → ⊥) → take n buffer ≡ last_line f.refusal 0 → Says (open_turn L R) (record { next = None; length = n }) buffer sv
      says-unopened z e =
          rw (open-by false (ne_eqb p.refusal 0 (λ y. z (a.refusal ∙ y))))
          (record { last = refl; bytes = refl; counts = c; text = rw a.refusal at e; saved = a.saved })

      pub says-opened : f.refusal ≡ 0 → take n buffer ≡ lines ws f.pairs → Says (open_turn L R) (record { next = Some 0; length = n }) buffer sv
      says-opened z e =
          rw (open-by true (eq-eqb p.refusal 0 (sym a.refusal ∙ z)))
          (record { last = refl; bytes = refl; counts = c; text = rw (a.words, a.pairs) at e; saved = a.saved })
