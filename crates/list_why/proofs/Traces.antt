-- The run that is told: it is one, where what is asked is so, and no run is lower; and there is a run exactly when it is so. Assumes nothing.
use Prim.Native.Nat.{ℕ, zero, suc, ◌+◌, ◌≤◌, ◌<◌, ◌^◌}
use mathlib.Core.Path.{◌≡◌, refl, sym, ap, ◌∙◌}
use mathlib.Core.Bool.{true}
use mathlib.Core.List.{List, [], ◌∷◌, ◌++◌}
use mathlib.Core.Logic.{◌⊎◌, inl, inr}
use native.Mathlib.Omega.{arith}
use native.Mathlib.Decide.{dec_lt}
use lib.ListN.{length, get_or, length-append, get_or-append}
use lib.Seq.{get_or-append-add, ext_get_or}
use Rattle.sets.specs.Set.{states, holds}
use Rattle.rules.proofs.Scanning.{choose, below_suc}
use Rattle.list.specs.List.{list_refusal, from}
use Rattle.list.specs.Automaton.{edge, step}
use Rattle.list.proofs.Steps.{edge-exactly, step-exactly, step-checked, step-lt}
use Rattle.feed.specs.Engine.{run}
use Rattle.feed.proofs.Runs.{run_more}
use Rattle.list_feed.specs.Plain.{plain}
use Rattle.list_why.specs.Run.{Edge, Question, Run, NotOver}
use Rattle.list_why.specs.Reason.{front, end_of, source_of, trace, reason, due, Reasoned}
use Rattle.list_why.proofs.Sources.{state-of, lowest-of, end-of, due-end, end-due}

module _ (L : List ℕ) (F : ℕ) (bs : List ℕ) where
  -- ---- frontiers

  pub front-none : front L F bs 0 ≡ F
  unfolding run
  front-none = refl

  pub front-more : (n : ℕ) → n < length bs → front L F bs (suc n) ≡ step L (front L F bs n) (get_or bs n 0)
  front-more n k = run_more (plain L) F bs n k

  pub front-lt : F < 2 ^ states → (n : ℕ) → n ≤ length bs → front L F bs n < 2 ^ states
  front-lt h zero k = rw front-none h
  front-lt h (suc n) k = rw (front-more n (omega arith)) (step-lt L (front L F bs n) (get_or bs n 0))

  -- ---- ways: runs without an end

  -- ys begins in F, and an edge leads from each of its first n states to the next
  record Way (n : ℕ) (ys : List ℕ) : Type 0 where
    pub starts : holds F (get_or ys 0 0) ≡ true
    pub moves : (i : ℕ) → i < n → Edge L (get_or bs i 0) (get_or ys i 0) (get_or ys (suc i) 0)

  -- each of its states is in the frontier there
  way_in : list_refusal L ≡ 0 → (n : ℕ) → n ≤ length bs → (ys : List ℕ) → Way n ys → (i : ℕ) → i ≤ n → holds (front L F bs i) (get_or ys i 0) ≡ true
  way_in ok n k ys w zero l = rw front-none w.starts
  way_in ok n k ys w (suc i) l =
      let m = w.moves i (omega arith) in
      rw (front-more i (omega arith))
      ((step-checked L ok (front L F bs i) (get_or bs i 0) (get_or ys (suc i) 0)).1
      (m.0, m.1, (edge-exactly L (get_or bs i 0) m.0).0 m.2, rw m.3 (way_in ok n k ys w i (omega arith)), m.4))

  -- ---- the places of a trace

  pub trace-length : (n t : ℕ) → length (trace L F bs n t) ≡ suc n
  unfolding trace
  trace-length zero t = refl
  trace-length (suc n) t =
      let s = source_of L (front L F bs n) (get_or bs n 0) t in
      length-append (trace L F bs n s) (t ∷ []) ∙ omega (arith, trace-length n s)

  trace-last : (n t : ℕ) → get_or (trace L F bs n t) n 0 ≡ t
  unfolding trace
  trace-last zero t = refl
  trace-last (suc n) t =
      let s = source_of L (front L F bs n) (get_or bs n 0) t in
      let e : suc n ≡ length (trace L F bs n s) + 0 = omega (arith, trace-length n s) in
      ap (λ (m : ℕ). get_or (trace L F bs n s ++ (t ∷ [])) m 0) e ∙ get_or-append-add (trace L F bs n s) (t ∷ []) 0 0

  trace-front : (n t i : ℕ) → i ≤ n → get_or (trace L F bs (suc n) t) i 0 ≡ get_or (trace L F bs n (source_of L (front L F bs n) (get_or bs n 0) t)) i 0
  unfolding trace
  trace-front n t i l =
      let s = source_of L (front L F bs n) (get_or bs n 0) t in
      get_or-append (trace L F bs n s) (t ∷ []) 0 i (omega (arith, trace-length n s))

  module _ (small : F < 2 ^ states) where
    -- ---- one step back

    -- to each state of a frontier an edge leads from the one before: the lowest such state is there
    pub source_in : (n : ℕ) → n < length bs → (t : ℕ) → holds (front L F bs (suc n)) t ≡ true
        → (holds (front L F bs n) (source_of L (front L F bs n) (get_or bs n 0) t) ≡ true) × Edge L (get_or bs n 0) (source_of L (front L F bs n) (get_or bs n 0) t) t
    source_in n k t h =
        let G = front L F bs n in
        let c = get_or bs n 0 in
        let w = ((step-exactly L G c t).0 (rw (front-more n k) at h)).1 in
        let l = state-of G (from L w.0) (front-lt small n (omega arith)) w.3 in
        let o = lowest-of L G (edge L c) t (from L w.0) l w.3 (w.0, w.1, (edge-exactly L c w.0).1 w.2, refl, w.4) in
        (o.1, o.2)

    -- and no other state from which one leads is lower
    source-least : (n : ℕ) → n < length bs → (t y : ℕ) → holds (front L F bs n) y ≡ true → Edge L (get_or bs n 0) y t → source_of L (front L F bs n) (get_or bs n 0) t ≤ y
    source-least n k t y h e =
        let G = front L F bs n in
        (lowest-of L G (edge L (get_or bs n 0)) t y (state-of G y (front-lt small n (omega arith)) h) h e).3

    -- ---- a trace is a way

    way-more : (n t : ℕ) → Edge L (get_or bs n 0) (source_of L (front L F bs n) (get_or bs n 0) t) t
        → Way n (trace L F bs n (source_of L (front L F bs n) (get_or bs n 0) t)) → Way (suc n) (trace L F bs (suc n) t)
    way-more n t b w =
        let s = source_of L (front L F bs n) (get_or bs n 0) t in
        record {
          starts = rw (trace-front n t 0 (omega arith)) w.starts;
          moves = λ i l.
              choose (below_suc i n l)
              (λ k. rw (trace-front n t i (omega arith), trace-front n t (suc i) k) (w.moves i k))
              (λ e. rw (e, trace-front n t n (omega arith), trace-last n s, trace-last (suc n) t) b);
        }

    trace-way : (n : ℕ) → n ≤ length bs → (t : ℕ) → holds (front L F bs n) t ≡ true → Way n (trace L F bs n t)
    trace-way zero k t h = record { starts = rw (trace-last 0 t) (rw front-none at h); moves = λ i l. absurd (omega arith) }
    trace-way (suc n) k t h =
        let b = source_in n (omega arith) t h in
        way-more n t b.1 (trace-way n (omega arith) (source_of L (front L F bs n) (get_or bs n 0) t) b.0)

    -- ---- no way is lower

    -- the states at the places 0 to n are the same, or at the last place where they differ xs has the lower
    abbrev Most : ℕ → List ℕ → List ℕ → Type 0
    Most n xs ys =
        ((j : ℕ) → j ≤ n → get_or xs j 0 ≡ get_or ys j 0)
        ⊎ ((i : ℕ) × (i ≤ n) × (get_or xs i 0 < get_or ys i 0) × ((j : ℕ) → i < j → j ≤ n → get_or xs j 0 ≡ get_or ys j 0))

    -- one place more, at which both have t
    most-more : (n t : ℕ) (ys : List ℕ) → t ≡ get_or ys (suc n) 0 → Most n (trace L F bs n (source_of L (front L F bs n) (get_or bs n 0) t)) ys → Most (suc n) (trace L F bs (suc n) t) ys
    most-more n t ys e m =
        choose m
        (λ h. inl (λ j l. place j l (h j)))
        (λ w. inr (w.0, omega (arith, w.1), rw (trace-front n t w.0 w.1) w.2, λ j k l. place j l (w.3 j k)))
      where
        place : (j : ℕ) → j ≤ suc n → (j ≤ n → get_or (trace L F bs n (source_of L (front L F bs n) (get_or bs n 0) t)) j 0 ≡ get_or ys j 0)
            → get_or (trace L F bs (suc n) t) j 0 ≡ get_or ys j 0
        place j l h =
            elim (dec_lt j (suc n)) [
              | yes k ↦ trace-front n t j (omega arith) ∙ h (omega arith)
              | no k ↦ let q : j ≡ suc n = omega arith in rw (q, trace-last (suc n) t) e
            ]

    trace-most : list_refusal L ≡ 0 → (n : ℕ) → n ≤ length bs → (ys : List ℕ) → Way n ys → (t : ℕ) → t ≡ get_or ys n 0 → Most n (trace L F bs n t) ys
    trace-most ok zero k ys w t e = inl (λ j l. let q : j ≡ 0 = omega arith in rw (q, trace-last 0 t) e)
    trace-most ok (suc n) k ys w t e =
        let s = source_of L (front L F bs n) (get_or bs n 0) t in
        let m = w.moves n (omega arith) in
        let h = way_in ok (suc n) k ys w n (omega arith) in
        let l : s ≤ get_or ys n 0 = source-least n (omega arith) t (get_or ys n 0) h (rw (sym e) at m) in
        elim (dec_lt s (get_or ys n 0)) [
          | yes lower ↦ inr (
            n,
            omega arith,
            rw (trace-front n t n (omega arith), trace-last n s) lower,
            λ j a b. let q : j ≡ suc n = omega arith in rw (q, trace-last (suc n) t) e,
          )
          | no same ↦ most-more n t ys e (trace-most ok n (omega arith) ys (record { starts = w.starts; moves = λ i a. w.moves i (omega arith) }) s (omega arith))
        ]

    -- ---- the theorem

    as-way : (n : ℕ) (q : Question) (xs : List ℕ) → Run L F bs n q xs → Way n xs
    as-way n q xs r = record { starts = r.starts; moves = r.moves }

    reason-run : (n : ℕ) → n ≤ length bs → (q : Question) → due L (front L F bs n) q ≡ true → Run L F bs n q (reason L F bs n q)
    reason-run n k q h =
        let s = due-end L (front L F bs n) (front-lt small n k) q h in
        let e = end-of L (front L F bs n) (front-lt small n k) q s.0 s.1 s.2 in
        let t = end_of L (front L F bs n) q in
        let w = trace-way n k t e.1 in
        record { long = trace-length n t; starts = w.starts; moves = w.moves; ends = rw (trace-last n t) e.2 }

    run-due : list_refusal L ≡ 0 → (n : ℕ) → n ≤ length bs → (q : Question) (xs : List ℕ) → Run L F bs n q xs → due L (front L F bs n) q ≡ true
    run-due ok n k q xs r =
        end-due L (front L F bs n) (front-lt small n k) ok q (get_or xs n 0) (way_in ok n k xs (as-way n q xs r) n (omega arith)) r.ends

    reason-least : list_refusal L ≡ 0 → (n : ℕ) → n ≤ length bs → (q : Question) (ys : List ℕ) → Run L F bs n q ys → NotOver n (reason L F bs n q) ys
    reason-least ok n k q ys r =
        let t = end_of L (front L F bs n) q in
        let w = as-way n q ys r in
        let l : t ≤ get_or ys n 0 = (end-of L (front L F bs n) (front-lt small n k) q (get_or ys n 0) (way_in ok n k ys w n (omega arith)) r.ends).3 in
        elim (dec_lt t (get_or ys n 0)) [
          | yes lower ↦ inr (n, omega arith, rw (trace-last n t) lower, λ j a b. absurd (omega arith))
          | no same ↦
              choose (trace-most ok n k ys w t (omega arith))
              (λ h. inl (ext_get_or 0 (trace L F bs n t) ys (trace-length n t ∙ sym r.long) (λ i a. h i (omega (arith, trace-length n t)))))
              (λ m. inr m)
        ]

    pub reasoned : list_refusal L ≡ 0 → (n : ℕ) → n ≤ length bs → (q : Question) → Reasoned L F bs n q
    reasoned ok n k q =
        record {
          exactly = (λ w. run-due ok n k q w.0 w.1, λ h. (reason L F bs n q, reason-run n k q h));
          told = reason-run n k q;
          lowest-told = reason-least ok n k q;
        }
