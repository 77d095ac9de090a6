-- An undisturbed run: the lines of the pairs due in the bytes consumed, then the last line, however pieces and rooms cut it; and when it is refused. Assumes nothing.
use Prim.Native.Nat.{ℕ, zero, suc, ◌+◌, ◌*◌, ◌-◌, ◌/◌, ◌%◌, ◌≤◌, ◌<◌}
use mathlib.Core.Path.{◌≡◌, refl, sym, ap, ◌∙◌}
use mathlib.Core.Bool.{Bool, true, false, cond}
use mathlib.Core.List.{List, [], ◌∷◌, ◌++◌, append-nil, append_assoc}
use mathlib.Core.Logic.{◌⊎◌, inl, inr}
use native.Mathlib.Omega.{arith}
use native.Mathlib.Nat.{lt_of_not-le}
use native.Mathlib.Decide.{ℕ_discrete, dec_lt}
use lib.ListN.{length, take, drop, get_or, length-append, length-take, length-drop, get_or-append}
use lib.Seq.{take-take, take-add, drop-drop, get_or-append-add}
use lib.Dec.{eqb}
use borrow.Author.Tests.{eqb-true, eqb-false, eq-eqb, ne_eqb, ltb-true}
use Rattle.sets.specs.Set.{states, within}
use Rattle.rules.specs.Rules.{verdict}
use Rattle.rules.proofs.Rules.{skip, stop, last, verdict-then, verdict-refused}
use Rattle.list.specs.List.{list_rules, list_refusal}
use Rattle.list.specs.Automaton.{start, named}
use Rattle.list.proofs.Steps.{start-lt}
use Rattle.list.proofs.Named.{named-lt, start-named, step-named}
use Rattle.feed.specs.Engine.{Outcome, most_offset, run, costs, told, consumed, room, ended}
use Rattle.feed.proofs.Runs.{take-front, length-take-most, run-append, told-append, told-length}
use Rattle.feed.proofs.Moves.{feed-ends, no-refusal}
use Rattle.feed.specs.Opening.{Opening}
use Rattle.feed.proofs.Opening.{opens, opening-refusal}
use Rattle.feed.specs.Piece.{too_long}
use Rattle.list_flow.specs.Flow.{flow_layout, frontier_of, offset_of, wrong_size, bad_flow, flow_rules, feed_rules}
use Rattle.list_flow.proofs.Records.{frontier-flow, offset-flow, flow-good}
use Rattle.list_flow.proofs.Passing.{feed-passes}
use Rattle.list_flow.proofs.Kept.{rows_few}
use Rattle.list_flow.specs.Opening.{open_pairs, open_rules, opened, open_flow}
use Rattle.list_flow.proofs.Opening.{open_pairs-long, room-suffices}
use Rattle.list_feed.specs.Plain.{plain, plain_feed}
use Rattle.list_feed.proofs.Plain.{plain-refusal, plain-cheap}
use Rattle.list_feed.proofs.Progress.{progress}
use Rattle.program_text.specs.Text.{line, lines, last_line}
use Rattle.program_text.specs.Hand.{handed, joined}
use Rattle.program_text.proofs.Handed.{joined-append, handed-all}
use Rattle.program.specs.App.{piece_size, no_words, no_record, turn_of, rest_at, texts_from, texts}
use Rattle.program.specs.Words.{PiecesFilled, lines_of, lines_due, longest_input, refused_piece, Undisturbed, EveryRun}
use Rattle.program.proofs.Feeding.{turn-by, open-by}

-- ---- lines

-- words behind the pairs have no say
lines-front : (xs ys : List ℕ) (m : ℕ) → 2 * m ≤ length xs → lines (xs ++ ys) m ≡ lines xs m
unfolding lines
lines-front xs ys zero l = refl
lines-front xs ys (suc m) l =
    rw (lines-front xs ys m (omega arith), get_or-append xs ys 0 (2 * m) (omega arith), get_or-append xs ys 0 (2 * m + 1) (omega arith))

-- the lines of pairs behind others
lines-append : (xs ys : List ℕ) (m n : ℕ) → length xs ≡ 2 * m → lines (xs ++ ys) (m + n) ≡ lines xs m ++ lines ys n
unfolding lines
lines-append xs ys m zero e =
    let z : m + 0 ≡ m = omega arith in
    rw (z, append-nil (lines xs m)) (lines-front xs ys m (omega arith))
lines-append xs ys m (suc n) e =
    let z : m + suc n ≡ suc (m + n) = omega arith in
    let g : 2 * (m + n) ≡ length xs + 2 * n = omega arith in
    let h : 2 * (m + n) + 1 ≡ length xs + (2 * n + 1) = omega arith in
    rw (z, h, g, get_or-append-add xs ys (2 * n) 0, get_or-append-add xs ys (2 * n + 1) 0, lines-append xs ys m n e)
    (append_assoc (lines xs m) (lines ys n) (line (get_or ys (2 * n) 0) (get_or ys (2 * n + 1) 0)))

lines-of-append : (xs ys : List ℕ) (m : ℕ) → length xs ≡ 2 * m → lines_of (xs ++ ys) ≡ lines_of xs ++ lines_of ys
lines-of-append xs ys m e =
    let a : length (xs ++ ys) / 2 ≡ m + length ys / 2 = simp length-append (omega arith) in
    let b : length xs / 2 ≡ m = omega arith in
    rw (a, b) (lines-append xs ys m (length ys / 2) e)

-- ---- one feed of a run on the input B

-- nothing is left exactly at the input's end
rest-none : (B : List ℕ) (at : ℕ) → length (rest_at B at) ≡ 0 → length B ≤ at
unfolding rest_at
rest-none B at e = omega (arith, e, length-take (piece_size - at % piece_size) (drop at B), length-drop at B)

rest_end : (B : List ℕ) (at : ℕ) → length B ≤ 0 + at → length (rest_at B at) ≡ 0
unfolding rest_at
rest_end B at l = omega (arith, l, length-take-most (piece_size - at % piece_size) (drop at B), length-drop at B)

-- what is left ends where a piece of 4,096 bytes or the input does
pub pieces-filled : PiecesFilled
unfolding rest_at
pieces-filled B at l =
    let n = 4096 - at % 4096 in
    let a = length-take n (drop at B) in
    let b = length-drop at B in
    record {
      front = sym (take-front n (drop at B));
      filled =
          elim (dec_lt (length B) (at + n)) [
            | yes h ↦ inr (omega (arith, h, l, a, b), omega (arith, h, l, a, b))
            | no h ↦ inl (omega (arith, lt_of_not-le (λ (k : suc (length B) ≤ at + n). h k), a, b))
          ];
    }

-- the frontiers of a run hold states that the list names
run-named : (L : List ℕ) (F : ℕ) (cs : List ℕ) → within F (named L) ≡ true → within (run (plain L) F cs) (named L) ≡ true
unfolding run
run-named L F [] h = h
run-named L F (c ∷ cs) h = run-named L ((plain L).next F c) cs (step-named L F c)

-- a byte costs at most a row for each state
costs-few : (L : List ℕ) (F : ℕ) (cs : List ℕ) → costs (plain L) F cs ≤ states * length cs
unfolding costs
costs-few L F [] = omega arith
costs-few L F (c ∷ cs) = omega (arith, plain-cheap L F, costs-few L ((plain L).next F c) cs)

module _ (L B : List ℕ) where
  -- the frontier after the first bytes of the input
  abbrev frontier_at : ℕ → ℕ
  frontier_at at = run (plain L) (start L) (take at B)

  at_named : (at : ℕ) → within (frontier_at at) (named L) ≡ true
  at_named at = run-named L (start L) (take at B) (start-named L)

  -- the bytes of the input from an offset up to another, and the words of their pairs
  abbrev told_from : ℕ → ℕ → List ℕ
  told_from at n = told (plain L) (frontier_at at) at (take n (drop at B))

  -- one part after the other
  frontier-more : (at n : ℕ) → frontier_at (at + n) ≡ run (plain L) (frontier_at at) (take n (drop at B))
  frontier-more at n = ap (run (plain L) (start L)) (take-add at n B) ∙ run-append (plain L) (start L) (take at B) (take n (drop at B))

  told_more : (at n m : ℕ) → n ≤ length B - at → lines_of (told_from at (n + m)) ≡ lines_of (told_from at n) ++ lines_of (told_from (at + n) m)
  told_more at n m l =
      let front = take n (drop at B) in
      let e : length front ≡ n = length-take n (drop at B) ∙ omega (arith, l, length-drop at B) in
      let s : told_from at (n + m) ≡ told_from at n ++ told_from (at + n) m =
      ap (told (plain L) (frontier_at at) at) (take-add n m (drop at B))
      ∙ told-append (plain L) (frontier_at at) at front (take m (drop n (drop at B)))
      ∙ rw (e, frontier-more at n, drop-drop n at B) in
      ap lines_of s ∙ lines-of-append (told_from at n) (told_from (at + n) m) _ (told-length (plain L) (frontier_at at) at front)

  module _ (R : List ℕ) (at : ℕ) (f : frontier_of R ≡ frontier_at at) (k : offset_of R ≡ at) where
    abbrev o : Outcome
    o = plain_feed L R at (rest_at B at) no_words

    -- a feed that is not refused tells the lines of the bytes that it consumes, and moves the flow there
    pub record Feeds : Type 0 where
      pub some : o.bytes ≤ length B - at
      pub tells : lines o.words o.pairs ≡ lines_of (told_from at o.bytes)
      pub frontier : frontier_of o.saved ≡ frontier_at (at + o.bytes)
      pub offset : offset_of o.saved ≡ at + o.bytes
      pub good : bad_flow o.saved ≡ false

    feeds : o.refusal ≡ 0 → Feeds
    unfolding ended rest_at
    feeds z =
        let v = no-refusal (plain L) flow_layout R (feed_rules L R at (rest_at B at)) (rest_at B at) no_words z in
        let c = consumed (plain L) (frontier_of R) (room no_words) (rest_at B at) in
        let front = take c (rest_at B at) in
        let p = progress L R at (rest_at B at) no_words z in
        let g : o ≡ ended (plain L) flow_layout R front (length (rest_at B at)) no_words = feed-ends (plain L) flow_layout R (feed_rules L R at (rest_at B at)) (rest_at B at) no_words v in
        let b : o.bytes ≡ length front = ap (λ (x : Outcome). x.bytes) g in
        let most = length-take (piece_size - at % piece_size) (drop at B) in
        let e : front ≡ take o.bytes (drop at B) =
        sym (take-front c (rest_at B at)) ∙ ap (λ (n : ℕ). take n (rest_at B at)) (sym b) ∙ take-take o.bytes (piece_size - at % piece_size) (drop at B) (omega (arith, p.front, most)) in
        let ws = told (plain L) (frontier_of R) (offset_of R) front in
        let w : ws ≡ told_from at o.bytes =
        ap (λ (x : ℕ). told (plain L) x (offset_of R) front) f ∙ ap (λ (n : ℕ). told (plain L) (frontier_at at) n front) k ∙ ap (told (plain L) (frontier_at at) at) e in
        let x : run (plain L) (frontier_of R) front ≡ frontier_at (at + o.bytes) =
        ap (λ (y : ℕ). run (plain L) y front) f ∙ ap (run (plain L) (frontier_at at)) e ∙ sym (frontier-more at o.bytes) in
        let y : offset_of o.saved ≡ offset_of R + length front = rw g (offset-flow _ _ _ (omega (arith, p.front, p.short, b, k))) in
        record {
          some = omega (arith, p.front, most, length-drop at B);
          tells = rw g (lines-front ws (drop (length ws) no_words) (length ws / 2) (omega arith)) ∙ ap lines_of w;
          frontier = rw g (frontier-flow _ _ _ (rw x (named-lt L _ (at_named (at + o.bytes))))) ∙ x;
          offset = y ∙ omega (arith, k, b);
          good =
              rw g (flow-good _ _ _ (omega (arith, p.front, p.short, b, k))
              (omega (arith, costs-few L (frontier_of R) front, rows_few R (feed-passes L R at (rest_at B at) v).0)));
        }

  -- ---- the texts from an offset on

  -- an offset that a run comes to: an input that is too long is not consumed past its last piece
  abbrev Comes : ℕ → Type 0
  Comes at = (at ≤ length B) × (longest_input < length B → at ≤ refused_piece)

  -- how a run ends at an offset, with a refusal or 0
  pub record Ending (at refusal : ℕ) : Type 0 where
    pub fine : length B ≤ longest_input → (refusal ≡ 0) × (at ≡ length B)
    pub too-long : longest_input < length B → (refusal ≡ 6) × (at ≡ refused_piece)

  pub record Ends (at : ℕ) (ts : List (List ℕ)) : Type 0 where
    -- the texts before the last line, its refusal or 0, and how far the input is consumed
    pub before : List (List ℕ)
    pub refusal : ℕ
    pub bytes : ℕ
    pub last : ts ≡ before ++ (last_line refusal (at + bytes) ∷ [])
    pub told-before : joined before ≡ lines_of (told_from at bytes)
    pub ending : Ending (at + bytes) refusal

  -- nothing is fed: the last line alone
  ends_now : (at refusal : ℕ) → Ending at refusal → Ends at (last_line refusal at ∷ [])
  unfolding told joined lines
  ends_now at refusal e =
      let z : at + 0 ≡ at = omega arith in
      record { before = []; refusal = refusal; bytes = 0; last = rw z; told-before = refl; ending = rw z e }

  -- one feed, and the texts behind it
  ends-then : (at n : ℕ) (t : List ℕ) (ts : List (List ℕ)) → n ≤ length B - at → t ≡ lines_of (told_from at n) → Ends (at + n) ts → Ends at (t ∷ ts)
  unfolding joined
  ends-then at n t ts l e r =
      let a : at + (n + r.bytes) ≡ at + n + r.bytes = omega arith in
      record {
        before = t ∷ r.before;
        refusal = r.refusal;
        bytes = n + r.bytes;
        last = rw a (ap (λ (us : List (List ℕ)). t ∷ us) r.last);
        told-before = rw (e, r.told-before) (sym (told_more at n r.bytes l));
        ending = rw a r.ending;
      }

  -- how long what is left is: to the next multiple of 4,096, or to the input's end
  rest-length : (at : ℕ) → at ≤ length B
      → (at % 4096 + length (rest_at B at) ≡ 4096) ⊎ ((at % 4096 + length (rest_at B at) < 4096) × (at + length (rest_at B at) ≡ length B))
  rest-length at l = (pieces-filled B at l).filled

  rest-fits : (at : ℕ) → at ≤ length B → at + length (rest_at B at) ≤ length B
  unfolding rest_at
  rest-fits at l = omega (arith, l, length-take (piece_size - at % piece_size) (drop at B), length-drop at B)

  -- where nothing is left the input is consumed, and it was not too long
  all_read : (at : ℕ) → Comes at → length (rest_at B at) ≡ 0 → Ending at 0
  all_read at c e =
      let m = rest-none B at e in
      record { fine = λ s. (refl, omega (arith, c.0, m)); too-long = λ t. absurd (omega (arith, t, m, c.1 t)) }

  -- a piece that would end behind the largest offset is the one that is refused
  last-piece : (at : ℕ) → Comes at → longest_input < at + length (rest_at B at) → Ending at 6
  last-piece at c t =
      let m : longest_input < length B = omega (arith, t, rest-fits at c.0) in
      elim (rest-length at c.0) [
        | inl e ↦ record { fine = λ s. absurd (omega (arith, s, m)); too-long = λ u. (refl, omega (arith, t, e, c.1 u)) }
        | inr e ↦ absurd (omega (arith, t, e.0, c.1 m))
      ]

  -- and what is consumed of one that does not ends before it
  comes-on : (at n : ℕ) → Comes at → n ≤ length (rest_at B at) → n ≤ length B - at → at + length (rest_at B at) ≤ most_offset → Comes (at + n)
  comes-on at n c h s m = (
    omega (arith, c.0, s),
    λ t. elim (rest-length at c.0) [
      | inl e ↦ omega (arith, e, h, m, c.1 t)
      | inr e ↦ absurd (omega (arith, e.1, m, t))
    ],
  )

  module _ (z : list_refusal L ≡ 0) where
    -- on a good record of the run the feed is refused with 6 alone
    feed-refuses : (R : List ℕ) (at : ℕ) → frontier_of R ≡ frontier_at at → offset_of R ≡ at → bad_flow R ≡ false
        → (plain_feed L R at (rest_at B at) no_words).refusal ≡ verdict ((6, too_long (offset_of R) (rest_at B at)) ∷ [])
    feed-refuses R at f k g =
        plain-refusal L R at (rest_at B at) no_words ∙ verdict-then (list_rules L) (flow_rules (within (frontier_of R) (named L)) R at (rest_at B at)) refl z
        ∙ skip 4 _ (rw (g, f, at_named at)) ∙ skip 5 _ (rw (eq-eqb at (offset_of R) (sym k)))

    refused-6 : (R : List ℕ) (at : ℕ) → offset_of R ≡ at → (n : ℕ) → n ≡ verdict ((6, too_long (offset_of R) (rest_at B at)) ∷ []) → (n ≡ 0 → ⊥)
        → (n ≡ 6) × (longest_input < at + length (rest_at B at))
    refused-6 R at k n e h = go (too_long (offset_of R) (rest_at B at)) refl
      where
        go : (b : Bool) → too_long (offset_of R) (rest_at B at) ≡ b → (n ≡ 6) × (longest_input < at + length (rest_at B at))
        go true p = (e ∙ stop 6 [] p, rw k at (ltb-true most_offset (offset_of R + length (rest_at B at)) p))
        go false p = absurd (h (e ∙ last 6 p))

    -- a turn, where the texts behind it end so
    ends-turn : (ts : List ℕ → ℕ → List (List ℕ)) (R : List ℕ) (at : ℕ) (f : frontier_of R ≡ frontier_at at) (k : offset_of R ≡ at) → bad_flow R ≡ false → Comes at
        → ((Q : List ℕ) (n : ℕ) → frontier_of Q ≡ frontier_at n → offset_of Q ≡ n → bad_flow Q ≡ false → Comes n → at < n → Ends n (ts Q n))
        → let t = turn_of L R at (rest_at B at) in Ends at (t.text ∷ cond t.last [] (ts t.saved (at + t.bytes)))
    ends-turn ts R at f k g c ih = go (eqb (length (rest_at B at)) 0) (eqb (o R at f k).refusal 0) refl refl
      where
        go : (e y : Bool) → eqb (length (rest_at B at)) 0 ≡ e → eqb (o R at f k).refusal 0 ≡ y
            → let t = turn_of L R at (rest_at B at) in Ends at (t.text ∷ cond t.last [] (ts t.saved (at + t.bytes)))
        go true y p q = rw (turn-by L R at (rest_at B at) true y p q) (ends_now at 0 (all_read at c (eqb-true _ 0 p)))
        go false false p q =
            let r = refused-6 R at k (o R at f k).refusal (feed-refuses R at f k g) (eqb-false _ 0 q) in
            rw (turn-by L R at (rest_at B at) false false p q, r.0) (ends_now at 6 (last-piece at c r.1))
        go false true p q =
            let d = feeds R at f k (eqb-true _ 0 q) in
            let m = progress L R at (rest_at B at) no_words (eqb-true _ 0 q) in
            let s : length (rest_at B at) ≡ 0 → ⊥ = eqb-false (length (rest_at B at)) 0 p in
            rw (turn-by L R at (rest_at B at) false true p q)
            (ends-then at _ _ _ d.some d.tells
            (ih (o R at f k).saved (at + (o R at f k).bytes) d.frontier d.offset d.good (comes-on at _ c m.front d.some m.short)
            (omega (arith, m.moves (omega (arith, s)) (omega arith)))))

    ends-from : (n : ℕ) (R : List ℕ) (at : ℕ) → frontier_of R ≡ frontier_at at → offset_of R ≡ at → bad_flow R ≡ false → Comes at → length B ≤ n + at
        → Ends at (texts_from (suc n) L B R at)
    unfolding texts_from
    ends-from zero R at f k g c m = ends-turn (λ Q i. []) R at f k g c (λ Q i f' k' g' c' h. absurd (omega (arith, m, c'.0, h)))
    ends-from (suc n) R at f k g c m = ends-turn (λ Q i. texts_from (suc n) L B Q i) R at f k g c (λ Q i f' k' g' c' h. ends-from n Q i f' k' g' c' (omega (arith, m, h)))

    -- from an opened flow on
    ends : Ends 0 (texts_from (suc (length B)) L B (opened L) 0)
    unfolding run
    ends =
        ends-from (length B) (opened L) 0 (frontier-flow (start L) 0 0 (start-lt L)) (offset-flow (start L) 0 0 (omega arith)) (flow-good (start L) 0 0 (omega arith) (omega arith))
        (omega arith, λ t. omega arith) (omega arith)

-- ---- the opening

module _ (L : List ℕ) where
  abbrev p : Opening
  p = open_flow L no_record no_words

  -- the record has the size of one, and there is room for every signature: so the list's check alone refuses, and 15 is never met
  pub opens-listed : p.refusal ≡ list_refusal L
  opens-listed =
      room-suffices L no_record no_words (omega arith)
      ∙ elim (ℕ_discrete (list_refusal L) 0) [
        | yes v ↦ verdict-then (list_rules L) ((4, wrong_size no_record) ∷ []) refl v ∙ last 4 refl ∙ sym v
        | no v ↦ verdict-refused (list_rules L) ((4, wrong_size no_record) ∷ []) v
      ]

  -- it tells the lines of the pairs of offset 0, and leaves the opened record
  module _ (z : list_refusal L ≡ 0) where
    opens-so : p ≡ record { refusal = 0; pairs = length (open_pairs L) / 2; words = open_pairs L ++ drop (length (open_pairs L)) no_words; saved = opened L }
    opens-so =
        opens (open_rules L no_record no_words) (open_pairs L) (opened L) no_record no_words
        (sym (opening-refusal (open_rules L no_record no_words) (open_pairs L) (opened L) no_record no_words) ∙ opens-listed ∙ z)

    opens-lines : lines p.words p.pairs ≡ lines_of (open_pairs L)
    opens-lines = rw opens-so (lines-front (open_pairs L) (drop (length (open_pairs L)) no_words) (length (open_pairs L) / 2) (omega arith))

    texts-opened : (B : List ℕ) → texts L B ≡ lines_of (open_pairs L) ∷ texts_from (suc (length B)) L B (opened L) 0
    unfolding texts
    texts-opened B =
        rw (open-by L no_record true (eq-eqb p.refusal 0 (opens-listed ∙ z)), opens-lines)
        (ap (λ (o : Opening). lines_of (open_pairs L) ∷ texts_from (suc (length B)) L B o.saved 0) opens-so)

  texts-refused : (list_refusal L ≡ 0 → ⊥) → (B : List ℕ) → texts L B ≡ last_line (list_refusal L) 0 ∷ []
  unfolding texts
  texts-refused v B = rw (open-by L no_record false (ne_eqb p.refusal 0 (λ z. v (sym opens-listed ∙ z))), opens-listed)

-- ---- the whole run

pub undisturbed : EveryRun
unfolding run joined
undisturbed L B = elim (ℕ_discrete (list_refusal L) 0) [ yes z ↦ passed z | no v ↦ refused v ]
  where
    passed : list_refusal L ≡ 0 → Undisturbed L B
    passed z =
        let e = ends L B z in
        let q : 0 + e.bytes ≡ e.bytes = omega arith in
        let g = rw q at e.ending in
        record {
          before = lines_of (open_pairs L) ∷ e.before;
          refusal = e.refusal;
          bytes = e.bytes;
          texts-are = texts-opened L z B ∙ ap (λ (ts : List (List ℕ)). lines_of (open_pairs L) ∷ ts) (rw q at e.last);
          lines_are =
              rw (eq-eqb (list_refusal L) 0 z)
              (ap (λ (xs : List ℕ). lines_of (open_pairs L) ++ xs) e.told-before
              ∙ sym (lines-of-append (open_pairs L) (told (plain L) (start L) 0 (take e.bytes B)) _ (open_pairs-long L)));
          bad-list = λ v. absurd (v z);
          ends = λ y s. g.fine s;
          too-long = λ y t. g.too-long t;
        }

    refused : (list_refusal L ≡ 0 → ⊥) → Undisturbed L B
    refused v =
        record {
          before = [];
          refusal = list_refusal L;
          bytes = 0;
          texts-are = texts-refused L v B;
          lines_are = rw (ne_eqb (list_refusal L) 0 v);
          bad-list = λ w. (refl, refl);
          ends = λ z s. absurd (v z);
          too-long = λ z t. absurd (v z);
        }

-- all texts one after the other
pub output : (L B : List ℕ) → let u = undisturbed L B in joined (texts L B) ≡ lines_due L (take u.bytes B) ++ last_line u.refusal u.bytes
unfolding joined
output L B =
    let u = undisturbed L B in
    ap joined u.texts-are ∙ joined-append u.before (last_line u.refusal u.bytes ∷ [])
    ∙ rw (u.lines_are, append-nil (last_line u.refusal u.bytes))

-- where the last text is handed over, nothing is missing
pub last-line : (L B answers : List ℕ) → length (texts L B) ≤ length (handed (texts L B) answers)
    → let u = undisturbed L B in joined (handed (texts L B) answers) ≡ lines_due L (take u.bytes B) ++ last_line u.refusal u.bytes
last-line L B answers l = ap joined (handed-all (texts L B) answers l) ∙ output L B
