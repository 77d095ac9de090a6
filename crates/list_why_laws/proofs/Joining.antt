-- The run over bytes in two parts: the later part's run, and before it the earlier part's run to the state where that begins. Assumes nothing.
use Prim.Native.Nat.{ℕ, zero, suc, ◌+◌, ◌≤◌}
use mathlib.Core.Path.{◌≡◌, refl, sym, ap, ◌∙◌}
use mathlib.Core.List.{List, [], ◌∷◌, ◌++◌, append-nil, append_assoc}
use native.Mathlib.Omega.{arith}
use native.Mathlib.Nat.{add-zero, add-suc}
use lib.ListN.{length, get_or, take, drop, get_or-append}
use lib.Seq.{take-length, take-append-le, take-append-add, drop-append-le, get_or-append-add}
use Rattle.feed.specs.Engine.{run}
use Rattle.feed.proofs.Runs.{run-append}
use Rattle.list_feed.specs.Plain.{plain}
use Rattle.list_why.specs.Reason.{front, source_of, end_of, trace}
use Rattle.list_why.proofs.Traces.{trace-length, front-lt, reasoned}
use Rattle.list_why_laws.specs.Told.{ReasonsExact, ReasonsJoin}

pub reasons-exact : ReasonsExact
reasons-exact L ok F small bs n l q = reasoned L F bs small ok n l q

module _ (L : List ℕ) (F : ℕ) (bs cs : List ℕ) where
  -- the frontier between
  abbrev G : ℕ
  G = front L F bs (length bs)

  front-early : (i : ℕ) → i ≤ length bs → front L F (bs ++ cs) i ≡ front L F bs i
  front-early i l = ap (run (plain L) F) (take-append-le i bs cs l)

  front-late : (n : ℕ) → front L F (bs ++ cs) (length bs + n) ≡ front L G cs n
  front-late n =
      ap (run (plain L) F) (take-append-add bs cs n) ∙ run-append (plain L) F bs (take n cs)
      ∙ ap (λ (xs : List ℕ). run (plain L) (run (plain L) F xs) (take n cs)) (sym (take-length bs))

  trace-early : (m t : ℕ) → m ≤ length bs → trace L F (bs ++ cs) m t ≡ trace L F bs m t
  unfolding trace
  trace-early zero t l = refl
  trace-early (suc m) t l =
      rw (front-early m (omega arith), get_or-append bs cs 0 m (omega arith))
      (ap (λ (xs : List ℕ). xs ++ (t ∷ [])) (trace-early m (source_of L (front L F bs m) (get_or bs m 0) t) (omega arith)))

  trace-late : (n t : ℕ) → trace L F (bs ++ cs) (length bs + n) t ≡ trace L F bs (length bs) (get_or (trace L G cs n t) 0 0) ++ drop 1 (trace L G cs n t)
  unfolding trace
  trace-late zero t = rw (add-zero (length bs)) (trace-early (length bs) t (omega arith) ∙ sym (append-nil (trace L F bs (length bs) t)))
  trace-late (suc n) t =
      let s = source_of L (front L G cs n) (get_or cs n 0) t in
      let xs = trace L G cs n s in
      let long : 1 ≤ length xs = omega (arith, trace-length L G cs n s) in
      rw (add-suc (length bs) n, front-late n, get_or-append-add bs cs n 0, get_or-append xs (t ∷ []) 0 0 long, drop-append-le 1 xs (t ∷ []) long)
      (ap (λ (ys : List ℕ). ys ++ (t ∷ [])) (trace-late n s) ∙ append_assoc (trace L F bs (length bs) (get_or xs 0 0)) (drop 1 xs) (t ∷ []))

pub reasons-join : ReasonsJoin
reasons-join L ok F small bs cs n l q h =
    let G = front L F bs (length bs) in
    let t = end_of L (front L G cs n) q in
    let r = (reasoned L G cs (front-lt L F bs small (length bs) (omega arith)) ok n l q).told h in
    rw (front-late L F bs cs n, r.starts) (trace-late L F bs cs n t)
