-- Each text of lines is followed by the state behind them, and then by the texts of a run from that state. Assumes nothing.
use Prim.Native.Nat.{ℕ, suc, ◌+◌, ◌%◌, ◌<◌}
use mathlib.Core.Path.{◌≡◌, refl, sym, ap, ◌∙◌}
use mathlib.Core.Bool.{Bool, true, false, cond, true≢false}
use mathlib.Core.List.{List, [], ◌∷◌, ◌++◌, append_assoc}
use native.Mathlib.Omega.{arith}
use lib.ListN.{length, take, drop, length-append, take-append-drop}
use lib.Seq.{take-append_seam, drop-append_seam, drop-append-add}
use lib.Dec.{eqb}
use borrow.Author.Tests.{eq-eqb, ne_eqb, le-leb}
use Rattle.numbers.specs.Number.{num, digits}
use Rattle.numbers.proofs.Laws.{num-digits, length_digits}
use Rattle.segment.specs.Resend.{circle}
use Rattle.program_turn.specs.State.{short_at, numbered, renew_on}
use Rattle.program_turn.specs.Turn.{Turn, Given, head_size, no_words, is_end, given_of, last_turn, lines_turn, feed_turn, turn_of}
use Rattle.program_live.specs.Live.{Unit, size_at, unit_at, next_of, less_by, texts_from}
use Rattle.program_live_laws.specs.Following.{turn_from, StateFollows, written, UnitsFollow}

-- a turn that is not the last has the state come next
turn-keeps : (L S : List ℕ) (more : Bool) (start : ℕ) (rest : List ℕ) → (turn_of true false L S more start rest).last ≡ false → (turn_of true false L S more start rest).saving ≡ true
unfolding turn_of feed_turn
turn-keeps L S more start rest = go (is_end S more (length rest)) (eqb G.refusal 0)
  where
    G : Given
    G = given_of L (renew_on (numbered start S)) start rest no_words

    by : Bool → Bool → Turn
    by e z = cond e (last_turn 0 S) (cond z (lines_turn true G.pairs G.done G.moved G.again G.words G.saved start) (last_turn G.refusal G.saved))

    go : (e z : Bool) → (by e z).last ≡ false → (by e z).saving ≡ true
    go true z h = absurd (true≢false h)
    go false false h = absurd (true≢false h)
    go false true h = refl

pub state-follows : StateFollows
unfolding texts_from next_of turn_of
state-follows n L B S u = ap (λ (ts : List (List ℕ)). t.text ∷ ts) (go t.last refl)
  where
    v : Unit
    v = next_of B false u

    t : Turn
    t = turn_from L B S u

    w : Unit
    w = less_by t.done v

    go : (b : Bool) → t.last ≡ b → cond b [] (texts_from (suc n) true L B t.saving t.saved w) ≡ cond b [] (t.saved ∷ texts_from n true L B false t.saved w)
    go true e = refl
    go false e = rw (turn-keeps L S v.more v.start v.bytes e)

-- ---- units

module _ (xs : List ℕ) (start : ℕ) (bytes ys : List ℕ) (low : start < circle) (short : length bytes < 65536) where
  abbrev recorded : List ℕ
  recorded = xs ++ (written start bytes ++ ys)

  abbrev size : List ℕ
  size = digits 8 2 (length bytes)

  head_of : written start bytes ++ ys ≡ digits 8 4 start ++ (size ++ (bytes ++ ys))
  head_of = append_assoc (digits 8 4 start) (size ++ bytes) ys ∙ ap (λ (zs : List ℕ). digits 8 4 start ++ zs) (append_assoc size bytes ys)

  from_start : drop (length xs) recorded ≡ digits 8 4 start ++ (size ++ (bytes ++ ys))
  from_start = drop-append_seam xs (written start bytes ++ ys) ∙ head_of

  -- n bytes of what begins with them
  front : (n : ℕ) (cs bs : List ℕ) → length cs ≡ n → take n (cs ++ bs) ≡ cs
  front n cs bs e = ap (λ (k : ℕ). take k (cs ++ bs)) (sym e) ∙ take-append_seam cs bs

  past : (n : ℕ) (cs bs : List ℕ) → length cs ≡ n → drop n (cs ++ bs) ≡ bs
  past n cs bs e = ap (λ (k : ℕ). drop k (cs ++ bs)) (sym e) ∙ drop-append_seam cs bs

  from-size : drop (length xs + 4) recorded ≡ size ++ (bytes ++ ys)
  from-size =
      drop-append-add xs (written start bytes ++ ys) 4 ∙ ap (drop 4) head_of ∙ past 4 (digits 8 4 start) (size ++ (bytes ++ ys)) (length_digits 8 4 start)

  from_bytes : drop (length xs + head_size) recorded ≡ bytes ++ ys
  from_bytes =
      drop-append-add xs (written start bytes ++ ys) 6
      ∙ ap (drop 6) (head_of ∙ sym (append_assoc (digits 8 4 start) size (bytes ++ ys)))
      ∙ past 6 (digits 8 4 start ++ size) (bytes ++ ys) (length-append (digits 8 4 start) size ∙ omega (arith, length_digits 8 4 start, length_digits 8 2 (length bytes)))

  start_is : short_at recorded (length xs) ≡ start
  start_is =
      ap (λ (zs : List ℕ). num 8 (take 4 zs) % circle) from_start
      ∙ ap (λ (zs : List ℕ). num 8 zs % circle) (front 4 (digits 8 4 start) (size ++ (bytes ++ ys)) (length_digits 8 4 start))
      ∙ ap (λ (n : ℕ). n % circle) (num-digits 8 4 start low)
      ∙ omega (arith, low)

  size_is : size_at recorded (length xs) ≡ length bytes
  size_is =
      ap (λ (zs : List ℕ). num 8 (take 2 zs) % 65536) from-size
      ∙ ap (λ (zs : List ℕ). num 8 zs % 65536) (front 2 size (bytes ++ ys) (length_digits 8 2 (length bytes)))
      ∙ ap (λ (n : ℕ). n % 65536) (num-digits 8 2 (length bytes) short)
      ∙ omega (arith, short)

  written-long : length (written start bytes) ≡ head_size + length bytes
  written-long =
      length-append (digits 8 4 start) (size ++ bytes) ∙ omega (arith, length-append size bytes, length_digits 8 4 start, length_digits 8 2 (length bytes))

  recorded-long : length recorded ≡ length xs + head_size + length bytes + length ys
  recorded-long = length-append xs (written start bytes ++ ys) ∙ omega (arith, length-append (written start bytes) ys, written-long)

  read-so : unit_at recorded (length xs) ≡ record { more = true; start = start; bytes = bytes; at = length (xs ++ written start bytes) }
  unfolding unit_at
  read-so =
      let e : length xs + head_size + length bytes ≡ length (xs ++ written start bytes) = sym (length-append xs (written start bytes) ∙ omega (arith, written-long)) in
      rw (size_is, le-leb (length xs + head_size + length bytes) (length recorded) (omega (arith, recorded-long)), start_is, from_bytes, front (length bytes) bytes ys refl, e)

pub units-follow : UnitsFollow
unfolding next_of
units-follow =
    record {
      read = read-so;
      left = λ n u. take-append-drop n u.bytes;
      on = λ B u h. rw (ne_eqb (length u.bytes) 0 h);
      next = λ B u h. rw (eq-eqb (length u.bytes) 0 h);
    }
