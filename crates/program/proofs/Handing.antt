-- What the program's loop hands over, turn by turn, is what the definition hands over of an undisturbed run's texts. Assumes nothing.
use Prim.Native.Nat.{ℕ, suc, ◌+◌, ◌-◌, ◌%◌, ◌≤◌, ◌<◌, min}
use mathlib.Core.Path.{◌≡◌, refl, sym, ap, ◌∙◌}
use Rattle.std.specs.Prelude.{Some}
use mathlib.Core.Bool.{Bool, true, false, cond}
use mathlib.Core.List.{List, [], ◌++◌, append-nil, append_assoc}
use native.Mathlib.Omega.{arith}
use native.Mathlib.Nat.{lt_of_not-le}
use native.Mathlib.Decide.{dec_lt}
use native.Mathlib.Numerals.{add-one}
use lib.ListN.{length, take, drop, get_or, length-append, length-take, length-drop}
use lib.Seq.{take_all, take-length, drop-drop}
use Rattle.numbers.proofs.Laws.{drop-take}
use Rattle.feed.proofs.Runs.{length-take-most}
use Rattle.program.specs.declared.Said.{Said}
use Rattle.program_text.specs.declared.Taken.{Taken}
use Rattle.program_text.specs.Text.{Puts}
use Rattle.program_text.specs.Hand.{is_cut, handed, joined, Takes, Logs}
use Rattle.program_text.proofs.Texts.{puts_none, puts-after, puts_whole, puts-front}
use Rattle.program_text.proofs.Handed.{handed-at}
use Rattle.program.specs.App.{piece_size, no_record, Turn, open_turn, turn_of, rest_at, texts_from, texts, is_last, bytes_of, Says, Held}
use Rattle.program.proofs.Feeding.{turn-moves}

-- ---- pieces

-- a piece that is read at its start
pub held-read : (B : List ℕ) (at : ℕ) (piece : List ℕ) (n : ℕ) → at % piece_size ≡ 0 → take n piece ≡ take piece_size (drop at B) → Held B at piece n
unfolding rest_at
held-read B at piece n z e = let d : n - 0 ≡ n = omega arith in rw (z, d) e

-- as much of some bytes as a piece holds
take-least : (xs : List ℕ) (k n : ℕ) → n ≡ min (length xs) k → take n xs ≡ take k xs
take-least xs k n e =
    elim (dec_lt k (length xs)) [
      | yes l ↦ let m : n ≡ k = omega (arith, e) in rw m
      | no h ↦ let m : n ≡ length xs = omega (arith, e, lt_of_not-le (λ (l : suc k ≤ length xs). h l)) in rw m (take-length xs ∙ sym (take_all k xs (omega (arith, lt_of_not-le (λ (l : suc k ≤ length xs). h l)))))
    ]

pub read-front : (xs piece : List ℕ) (n r : ℕ) (left : List ℕ) → length piece ≡ piece_size → n ≡ min (length xs) piece_size
    → Puts (length (take n xs)) (take n xs) piece 0 r left → (r ≤ piece_size) × (take r left ≡ take piece_size xs)
read-front xs piece n r left l e p =
    let m : length (take n xs) ≤ piece_size = rw (length-take n xs) (omega (arith, e)) in
    (omega (arith, p.0, m), puts-front _ _ piece r left (omega (arith, m, l)) p ∙ take-least xs piece_size n e)

-- no more is left than the input has from there on
rest-most : (B : List ℕ) (at : ℕ) → length (rest_at B at) ≤ length B - at
unfolding rest_at
rest-most B at = omega (arith, length-take-most (piece_size - at % piece_size) (drop at B), length-drop at B)

-- a part from f up to n has no more than the bytes between
pub front-most : (n f b d : ℕ) (xs : List ℕ) → f ≤ n → b ≡ d → d ≤ length (take (n - f) (drop f xs)) → f + b ≤ n
front-most n f b d xs l e m = omega (arith, l, e, m, length-take (n - f) (drop f xs))

-- what is held of a piece after some bytes of it, up to its end
pub held_next : (B : List ℕ) (at : ℕ) (piece : List ℕ) (n b : ℕ) → n ≤ piece_size → at % piece_size + b ≤ n → Held B at piece n → 0 < (at + b) % piece_size → Held B (at + b) piece n
unfolding rest_at
held_next B at piece n b l h e p =
    let f : (at + b) % piece_size ≡ at % piece_size + b = omega (arith, l, h, p) in
    let u : n - (at % piece_size + b) + b ≡ n - at % piece_size = omega (arith, h) in
    let v : piece_size - (at % piece_size + b) + b ≡ piece_size - at % piece_size = omega (arith, l, h) in
    rw (f, ← drop-drop b (at % piece_size) piece, ← drop-drop b at B, ← drop-take b (n - (at % piece_size + b)) (drop (at % piece_size) piece), ← drop-take b (piece_size - (at % piece_size + b)) (drop at B), u, v)
    (ap (drop b) e)

-- ---- the loop of a run from the record R₀ on, where one text was handed over and the log log₀ ends at `begun`

module _ (L B answers R₀ log₀ : List ℕ) (begun : ℕ) where
  -- all that is handed over
  abbrev pub all_handed : List ℕ
  all_handed = joined (handed (texts_from (suc (length B)) L B R₀ 0) (drop 1 answers))

  -- at an offset with the record R, and i texts taken: `sofar` is handed over and logged, and ahead are the texts from there on
  pub record Running (R log : List ℕ) (at i end : ℕ) : Type 0 where
    pub sofar : List ℕ
    pub turns : ℕ
    pub within : at ≤ length B
    pub enough : length B ≤ turns + at
    pub logged : Puts (length sofar) sofar log₀ begun end log
    pub ahead : all_handed ≡ sofar ++ joined (handed (texts_from (suc turns) L B R at) (drop i answers))

  -- before the first turn
  pub running : begun ≤ length log₀ → Running R₀ log₀ 0 1 begun
  running l =
      let q = puts_none log₀ begun l in
      record { sofar = []; turns = length B; within = omega arith; enough = omega arith; logged = (omega arith, q.1, q.2, q.3); ahead = refl }

  -- a turn
  module _ (fits : begun + length all_handed ≤ length log₀) (R log : List ℕ) (at i end : ℕ) (r : Running R log at i end)
      (rest : List ℕ) (held : rest ≡ rest_at B at) (s : Said) (buffer sv : List ℕ) (says : Says (turn_of L R at rest) s buffer sv) where
    abbrev t : Turn
    t = turn_of L R at (rest_at B at)

    abbrev text : List ℕ
    text = take s.length buffer

    said : Says t s buffer sv
    said = rw held at says

    -- the texts behind this one that are handed over
    abbrev behind : Bool → Bool → List (List ℕ)
    behind cut last = cond cut [] (handed (cond last [] (texts_from r.turns L B t.saved (at + t.bytes))) (drop (suc i) answers))

    split : all_handed ≡ (r.sofar ++ text) ++ joined (behind (is_cut (get_or answers i 0)) t.last)
    unfolding texts_from joined
    split =
        r.ahead
        ∙ ap (λ (ts : List (List ℕ)). r.sofar ++ joined ts) (handed-at t.text (cond t.last [] (texts_from r.turns L B t.saved (at + t.bytes))) answers i)
        ∙ ap (λ (u : List ℕ). r.sofar ++ (u ++ joined (behind (is_cut (get_or answers i 0)) t.last))) (sym said.text)
        ∙ sym (append_assoc r.sofar text (joined (behind (is_cut (get_or answers i 0)) t.last)))

    long : length all_handed ≡ length (r.sofar ++ text) + length (joined (behind (is_cut (get_or answers i 0)) t.last))
    long = ap length split ∙ length-append (r.sofar ++ text) (joined (behind (is_cut (get_or answers i 0)) t.last))

    -- there is room for it
    pub text-fits : end + length text ≤ length log
    text-fits = omega (arith, fits, long, length-append r.sofar text, r.logged.0, r.logged.3)

    module _ (k : Taken) (left : List ℕ) (takes : Takes text answers i log end k left) where
      more : Puts (length (r.sofar ++ text)) (r.sofar ++ text) log₀ begun k.end left
      more =
          puts_whole _ _ _ _ _ _
          (puts-after (length r.sofar) (length text) r.sofar text log₀ begun end log k.end left (omega (arith, text-fits, r.logged.0, r.logged.3)) r.logged takes.puts)

      over : joined (behind (is_cut (get_or answers i 0)) t.last) ≡ [] → Puts (length all_handed) all_handed log₀ begun k.end left
      over e = let w : all_handed ≡ r.sofar ++ text = split ∙ rw e (append-nil (r.sofar ++ text)) in rw w more

      -- the last text: that was all
      pub over_last : is_last s.next ≡ true → Puts (length all_handed) all_handed log₀ begun k.end left
      unfolding joined handed
      over_last z = over (rw (sym said.last ∙ z) (go (is_cut (get_or answers i 0))))
        where
          go : (b : Bool) → joined (behind b true) ≡ []
          go true = refl
          go false = refl

      -- cut: that was all
      pub over-cut : k.cut ≡ true → Puts (length all_handed) all_handed log₀ begun k.end left
      unfolding joined
      over-cut z = over (rw (sym takes.cut ∙ z))

      -- else the loop goes on
      pub goes_on : (come : ℕ) → s.next ≡ Some come → k.cut ≡ false → Running sv left (at + come) (i + 1) k.end
      goes_on come x z =
          let y : is_last s.next ≡ false = ap is_last x in
          let m = turn-moves L R at (rest_at B at) (sym said.last ∙ y) in
          let b : come ≡ t.bytes = sym (ap bytes_of x) ∙ said.bytes in
          let e : suc (r.turns - 1) ≡ r.turns = omega (arith, r.enough, r.within, m.goes, m.front, rest-most B at) in
          record {
            sofar = r.sofar ++ text;
            turns = r.turns - 1;
            within = omega (arith, r.within, m.front, b, rest-most B at);
            enough = omega (arith, r.enough, m.goes, b);
            logged = more;
            ahead = split ∙ rw (sym said.last ∙ y, sym takes.cut ∙ z, e, said.saved, b, add-one i);
          }

-- ---- the opening, whose text is the first

module _ (L B answers log : List ℕ) (s : Said) (buffer Q : List ℕ) (says : Says (open_turn L no_record) s buffer Q)
    (k : Taken) (left : List ℕ) (takes : 0 + length (take s.length buffer) ≤ length log → Takes (take s.length buffer) answers 0 log 0 k left) where
  abbrev first : List ℕ
  first = take s.length buffer

  -- the texts behind it that are handed over
  abbrev later : Bool → Bool → List (List ℕ)
  later cut last = cond cut [] (handed (cond last [] (texts_from (suc (length B)) L B Q 0)) (drop 1 answers))

  begun-split : joined (handed (texts L B) answers) ≡ first ++ joined (later (is_cut (get_or answers 0 0)) (is_last s.next))
  unfolding texts joined
  begun-split =
      ap joined (handed-at t.text (cond t.last [] (texts_from (suc (length B)) L B t.saved 0)) answers 0)
      ∙ rw (says.text, says.last, says.saved)
    where
      t : Turn
      t = open_turn L no_record

  begun-long : length (joined (handed (texts L B) answers)) ≡ length first + length (joined (later (is_cut (get_or answers 0 0)) (is_last s.next)))
  begun-long = ap length begun-split ∙ length-append first (joined (later (is_cut (get_or answers 0 0)) (is_last s.next)))

  begun-takes : 0 + length (joined (handed (texts L B) answers)) ≤ length log → Takes first answers 0 log 0 k left
  begun-takes l = takes (omega (arith, l, begun-long))

  begun-over : 0 + length (joined (handed (texts L B) answers)) ≤ length log → joined (later (is_cut (get_or answers 0 0)) (is_last s.next)) ≡ []
      → Puts (length (joined (handed (texts L B) answers))) (joined (handed (texts L B) answers)) log 0 k.end left
  begun-over l e =
      let w : joined (handed (texts L B) answers) ≡ first = begun-split ∙ rw e (append-nil first) in
      rw w (begun-takes l).puts

  -- the list is refused, or the text is cut: that was all
  pub begun-last : is_last s.next ≡ true → Logs 0 (handed (texts L B) answers) log k.end left
  unfolding joined handed
  begun-last z l = begun-over l (rw z (go (is_cut (get_or answers 0 0))))
    where
      go : (b : Bool) → joined (later b true) ≡ []
      go true = refl
      go false = refl

  pub begun-cut : k.cut ≡ true → Logs 0 (handed (texts L B) answers) log k.end left
  unfolding joined
  begun-cut z l = begun-over l (rw (sym (begun-takes l).cut ∙ z))

  -- else the loop's texts follow
  pub begun-then : is_last s.next ≡ false → k.cut ≡ false → (end : ℕ) (after : List ℕ)
      → Logs k.end (handed (texts_from (suc (length B)) L B Q 0) (drop 1 answers)) left end after → Logs 0 (handed (texts L B) answers) log end after
  begun-then y z end after h l =
      let t = begun-takes l in
      let rest = joined (handed (texts_from (suc (length B)) L B Q 0) (drop 1 answers)) in
      let w : joined (handed (texts L B) answers) ≡ first ++ rest = begun-split ∙ rw (y, sym t.cut ∙ z) in
      let n : length (joined (handed (texts L B) answers)) ≡ length first + length rest = ap length w ∙ length-append first rest in
      let q = h (omega (arith, l, n, t.puts.0, t.puts.3)) in
      rw w (puts_whole _ _ _ _ _ _ (puts-after (length first) (length rest) first rest log 0 k.end left end after (omega (arith, l, n)) t.puts q))
