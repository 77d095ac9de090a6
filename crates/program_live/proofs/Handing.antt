-- What a run hands over, turn by turn, is what the definition hands over of an undisturbed run's texts. Assumes nothing.
use Rattle.std.proofs.Common.{◌≡◌, ℕ, suc, ◌+◌, ◌-◌, ◌≤◌, Bool, true, false, cond, List, [], ◌++◌, length, get_or, take, drop, replicate, sym, refl, ap, ◌∙◌, append_assoc, append-nil, add-one, arith, length-append}
use Rattle.program_text.specs.Text.{Puts}
use Rattle.program_text.specs.Hand.{is_cut, handed, joined, Takes, Logs}
use Rattle.program_text.specs.declared.Taken.{Taken}
use Rattle.program_text.proofs.Texts.{puts_none, puts-after, puts_whole}
use Rattle.program_text.proofs.Handed.{handed-at}
use Rattle.program_turn.specs.State.{state_size, fresh_state}
use Rattle.program_turn.specs.Turn.{Turn, turn_of, open_turn, comes, number_in, is_last, saves_next, Says}
use Rattle.program_live.specs.Live.{Unit, no_unit_yet, next_of, less_by, less_of, most_turns, texts_from, texts, Stands}
use Rattle.program_turn.specs.declared.Said as said
use Rattle.program_live.specs.declared.Unit as unit
use Rattle.program_live.proofs.Units.{less-stands}

-- ---- the loop of a run, where some texts were handed over and the log log₀ ends at `begun`

module _ (keeping : Bool) (L B answers : List ℕ) (saving₀ : Bool) (S₀ log₀ : List ℕ) (most texts₀ begun : ℕ) where
  -- all that is handed over
  abbrev pub all_handed : List ℕ
  all_handed = joined (handed (texts_from most keeping L B saving₀ S₀ no_unit_yet) (drop texts₀ answers))

  -- with n turns left and i texts taken, from the state S and the unit u on: `sofar` is handed over and logged, and ahead are the texts from there on
  pub record Running (saving : Bool) (S log : List ℕ) (u : Unit) (n i end : ℕ) : Type 0 where
    pub sofar : List ℕ
    pub logged : Puts (length sofar) sofar log₀ begun end log
    pub ahead : all_handed ≡ sofar ++ joined (handed (texts_from n keeping L B saving S u) (drop i answers))

  -- and the code's unit is that
  pub record Standing (saving : Bool) (S log : List ℕ) (r : unit.Unit) (array : List ℕ) (n i end : ℕ) : Type 0 where
    pub here : Unit
    pub stands : Stands here r array
    pub running : Running saving S log here n i end

  -- before the first turn
  pub standing : (r : unit.Unit) (array : List ℕ) → Stands no_unit_yet r array → begun ≤ length log₀ → Standing saving₀ S₀ log₀ r array most texts₀ begun
  standing r array s l =
      let q = puts_none log₀ begun l in
      record { here = no_unit_yet; stands = s; running = record { sofar = []; logged = (omega arith, q.1, q.2, q.3); ahead = refl } }

  pub begins : (r : unit.Unit) (array : List ℕ) (n i : ℕ) → n ≡ most → i ≡ texts₀ → Stands no_unit_yet r array → begun ≤ length log₀ → Standing saving₀ S₀ log₀ r array n i begun
  begins r array n i e f s l = rw (e, f) (standing r array s l)

  -- no turn is left: that was all
  pub finished : (saving : Bool) (S log : List ℕ) (r : unit.Unit) (array : List ℕ) (n i end : ℕ) → n ≡ 0 → Standing saving S log r array n i end
      → Puts (length all_handed) all_handed log₀ begun end log
  unfolding texts_from handed joined
  finished saving S log r array n i end z s =
      let g = s.running in
      let w : all_handed ≡ g.sofar = (rw z at g.ahead) ∙ append-nil g.sofar in
      rw w g.logged

  -- a turn
  module _ (fits : begun + length all_handed ≤ length log₀) (saving : Bool) (S log : List ℕ) (u : Unit) (n m i end : ℕ) (count : n ≡ suc m) (r : Running saving S log u n i end)
      (v : unit.Unit) (array : List ℕ) (stands : Stands (next_of B saving u) v array) (s : said.Said) (buffer sv : List ℕ)
      (says : Says (turn_of keeping saving L S (comes v.start) (number_in v.start) (take (v.to - v.from) (drop v.from array))) s buffer sv) where
    abbrev g : Unit
    g = next_of B saving u

    abbrev t : Turn
    t = turn_of keeping saving L S g.more g.start g.bytes

    abbrev text : List ℕ
    text = take s.length buffer

    says_so : Says t s buffer sv
    says_so = rw (stands.more, stands.start, stands.bytes) at says

    -- the texts behind this one that are handed over
    abbrev behind : Bool → Bool → List (List ℕ)
    behind cut last = cond cut [] (handed (cond last [] (texts_from m keeping L B t.saving t.saved (less_by t.done g))) (drop (suc i) answers))

    split : all_handed ≡ (r.sofar ++ text) ++ joined (behind (is_cut (get_or answers i 0)) t.last)
    unfolding texts_from joined
    split =
        (rw count at r.ahead)
        ∙ ap (λ (ts : List (List ℕ)). r.sofar ++ joined ts) (handed-at t.text (cond t.last [] (texts_from m keeping L B t.saving t.saved (less_by t.done g))) answers i)
        ∙ ap (λ (x : List ℕ). r.sofar ++ (x ++ joined (behind (is_cut (get_or answers i 0)) t.last))) (sym says_so.text)
        ∙ sym (append_assoc r.sofar text (joined (behind (is_cut (get_or answers i 0)) t.last)))

    long : length all_handed ≡ length (r.sofar ++ text) + length (joined (behind (is_cut (get_or answers i 0)) t.last))
    long = ap length split ∙ length-append (r.sofar ++ text) (joined (behind (is_cut (get_or answers i 0)) t.last))

    -- there is room for it
    pub text-fits : end + length text ≤ length log
    text-fits = omega (arith, fits, long, length-append r.sofar text, r.logged.0, r.logged.3)

    module _ (k : Taken) (left : List ℕ) (takes : Takes text answers i log end k left) where
      more : Puts (length (r.sofar ++ text)) (r.sofar ++ text) log₀ begun k.end left
      more =
          puts_whole _ _ _ _ _ _
          (puts-after (length r.sofar) (length text) r.sofar text log₀ begun end log k.end left (omega (arith, text-fits, r.logged.0, r.logged.3)) r.logged takes.puts)

      over : joined (behind (is_cut (get_or answers i 0)) t.last) ≡ [] → Puts (length all_handed) all_handed log₀ begun k.end left
      over e = let w : all_handed ≡ r.sofar ++ text = split ∙ rw e (append-nil (r.sofar ++ text)) in rw w more

      -- the last text: that was all
      pub over_last : is_last s.next ≡ true → Puts (length all_handed) all_handed log₀ begun k.end left
      unfolding joined handed
      over_last z = over (rw (sym says_so.last ∙ z) (go (is_cut (get_or answers i 0))))
        where
          go : (b : Bool) → joined (behind b true) ≡ []
          go true = refl
          go false = refl

      -- cut: that was all
      pub over-cut : k.cut ≡ true → Puts (length all_handed) all_handed log₀ begun k.end left
      unfolding joined
      over-cut z = over (rw (sym takes.cut ∙ z))

      -- else the run goes on
      pub goes_on : is_last s.next ≡ false → k.cut ≡ false → (w : unit.Unit) → w ≡ less_of v s.done
          → Standing (saves_next s.next) sv left w array m (i + 1) k.end
      goes_on y z w e =
          record {
            here = less_by s.done g;
            stands = rw e (less-stands B saving g v array stands s.done);
            running =
                record {
                  sofar = r.sofar ++ text;
                  logged = more;
                  ahead = split ∙ rw (sym says_so.last ∙ y, sym takes.cut ∙ z, says_so.saving, says_so.saved, says_so.done, add-one i);
                };
          }

      pub goes : is_last s.next ≡ false → k.cut ≡ false → (w : unit.Unit) → w ≡ less_of v s.done → (b : Bool) → b ≡ saves_next s.next → (j : ℕ) → j ≡ i + 1
          → Standing b sv left w array m j k.end
      goes y z w e b f j h = rw (f, h) (goes_on y z w e)

-- ---- the opening, whose text is the first

module _ (keeping : Bool) (kind : ℕ) (L B answers log S : List ℕ) (fresh : S ≡ fresh_state L kind (replicate state_size 0)) (s : said.Said) (buffer Q : List ℕ)
    (says : Says (open_turn keeping L S) s buffer Q)
    (k : Taken) (left : List ℕ) (takes : 0 + length (take s.length buffer) ≤ length log → Takes (take s.length buffer) answers 0 log 0 k left) where
  abbrev first : List ℕ
  first = take s.length buffer

  -- the texts behind it that are handed over
  abbrev later : Bool → Bool → List (List ℕ)
  later cut last = cond cut [] (handed (cond last [] (texts_from most_turns keeping L B (saves_next s.next) Q no_unit_yet)) (drop 1 answers))

  abbrev all : List ℕ
  all = joined (handed (texts keeping kind L B) answers)

  begun-split : all ≡ first ++ joined (later (is_cut (get_or answers 0 0)) (is_last s.next))
  unfolding texts joined
  begun-split =
      ap joined (handed-at t.text (cond t.last [] (texts_from most_turns keeping L B t.saving t.saved no_unit_yet)) answers 0)
      ∙ rw (q.text, q.last, q.saved, q.saving)
    where
      t : Turn
      t = open_turn keeping L (fresh_state L kind (replicate state_size 0))

      q : Says t s buffer Q
      q = rw fresh at says

  begun-long : length all ≡ length first + length (joined (later (is_cut (get_or answers 0 0)) (is_last s.next)))
  begun-long = ap length begun-split ∙ length-append first (joined (later (is_cut (get_or answers 0 0)) (is_last s.next)))

  begun-takes : 0 + length all ≤ length log → Takes first answers 0 log 0 k left
  begun-takes l = takes (omega (arith, l, begun-long))

  begun-over : 0 + length all ≤ length log → joined (later (is_cut (get_or answers 0 0)) (is_last s.next)) ≡ [] → Puts (length all) all log 0 k.end left
  begun-over l e =
      let w : all ≡ first = begun-split ∙ rw e (append-nil first) in
      rw w (begun-takes l).puts

  -- the list is refused, or the text is cut: that was all
  pub begun-last : is_last s.next ≡ true → Logs 0 (handed (texts keeping kind L B) answers) log k.end left
  unfolding joined handed
  begun-last z l = begun-over l (rw z (go (is_cut (get_or answers 0 0))))
    where
      go : (b : Bool) → joined (later b true) ≡ []
      go true = refl
      go false = refl

  pub begun-cut : k.cut ≡ true → Logs 0 (handed (texts keeping kind L B) answers) log k.end left
  unfolding joined
  begun-cut z l = begun-over l (rw (sym (begun-takes l).cut ∙ z))

  -- else the run's texts follow
  pub begun-then : is_last s.next ≡ false → k.cut ≡ false → (end : ℕ) (after : List ℕ)
      → Logs k.end (handed (texts_from most_turns keeping L B (saves_next s.next) Q no_unit_yet) (drop 1 answers)) left end after → Logs 0 (handed (texts keeping kind L B) answers) log end after
  begun-then y z end after h l =
      let t = begun-takes l in
      let rest = joined (handed (texts_from most_turns keeping L B (saves_next s.next) Q no_unit_yet) (drop 1 answers)) in
      let w : all ≡ first ++ rest = begun-split ∙ rw (y, sym t.cut ∙ z) in
      let n : length all ≡ length first + length rest = ap length w ∙ length-append first rest in
      let q = h (omega (arith, l, n, t.puts.0, t.puts.3)) in
      rw w (puts_whole _ _ _ _ _ _ (puts-after (length first) (length rest) first rest log 0 k.end left end after (omega (arith, l, n)) t.puts q))
