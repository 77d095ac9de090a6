-- The pairs of a flow in the automaton's words: of the bytes fed, and from opening on; and what an opening that is not refused leaves. Assumes nothing.
use Prim.Native.Nat.{ℕ, zero, suc, ◌+◌, ◌≤◌, ◌<◌}
use mathlib.Core.Path.{◌≡◌, refl, sym, ap, ◌∙◌}
use mathlib.Core.Bool.{true}
use mathlib.Core.List.{List, ◌++◌}
use mathlib.Core.Logic.{◌⊎◌, inl, inr, ◌↔◌}
use native.Mathlib.Omega.{arith}
use lib.ListN.{length, get_or, take}
use lib.Pow.{pow_pos}
use Rattle.sets.specs.Set.{signatures, size, holds}
use Rattle.rules.specs.Rules.{verdict}
use Rattle.rules.proofs.Scanning.{choose}
use Rattle.list.specs.Automaton.{start, step, accepted}
use Rattle.list.proofs.Steps.{start-lt, accepted-exactly}
use Rattle.feed.specs.Pairs.{Pair}
use Rattle.feed.specs.Engine.{run, told}
use Rattle.feed.specs.Opening.{Opening}
use Rattle.feed.proofs.Runs.{run_more}
use Rattle.feed.proofs.Due.{told-exactly}
use Rattle.feed.proofs.Opening.{opens, opening-refusal, opening-tells}
use Rattle.feed.proofs.Opening as flow
use Rattle.list_flow.specs.Flow.{frontier_of, offset_of, rows_of}
use Rattle.list_flow.proofs.Records.{frontier-flow, offset-flow, rows-flow}
use Rattle.list_flow.specs.Opening.{opened, open_pairs, open_rules, open_flow}
use Rattle.list_flow.proofs.Opening.{open_pairs-long}
use Rattle.list_feed.specs.Plain.{plain}
use Rattle.feed.specs.Demands.{open_told}
use Rattle.laws.specs.Demands.{Due, DueSaid}

-- ---- the bytes fed

-- a signature that the next frontier accepts is one of all signatures
accepted-below : (L : List ℕ) (F g : ℕ) → holds (accepted L F) g ≡ true → g < signatures
accepted-below L F g e = ((accepted-exactly L F g).0 e).0

-- the pairs that the automaton tells of some bytes, by the frontiers after them
pub told-due : (L : List ℕ) (F k : ℕ) (bs : List ℕ) (g o : ℕ) → Pair (told (plain L) F k bs) g o
    ↔ ((n : ℕ) × (n < length bs) × (o ≡ k + suc n) × (holds (accepted L (run (plain L) F (take (suc n) bs))) g ≡ true))
told-due L F k bs g o =
    let e = told-exactly (plain L) F k bs g o in (
      λ p. let w = e.0 p in (w.0, w.1, w.2, rw (run_more (plain L) F bs w.0 w.1) w.4),
      λ w. let q = rw (run_more (plain L) F bs w.0 w.1) at w.3 in e.1 (w.0, w.1, w.2, accepted-below L _ g q, q),
    )

-- ---- from opening on

pub due-said : DueSaid
unfolding run
due-said L bs ws d g k = (λ p. choose ((d.due g k).0 p) at_once later, λ q. (d.due g k).1 (back k q.0 q.1))
  where
    at_once : (k ≡ 0) × (g < signatures) × (holds (accepted L (start L)) g ≡ true) → (k ≤ length bs) × (holds (accepted L (run (plain L) (start L) (take k bs))) g ≡ true)
    at_once q = rw q.0 (omega arith, q.2)

    -- after byte n the automaton stands where its move on that byte leads
    after : (n : ℕ) → n < length bs → run (plain L) (start L) (take (suc n) bs) ≡ step L (run (plain L) (start L) (take n bs)) (get_or bs n 0)
    after n l = run_more (plain L) (start L) bs n l

    later : (n : ℕ) × (n < length bs) × (k ≡ suc n) × (g < signatures) × (holds (accepted L (step L (run (plain L) (start L) (take n bs)) (get_or bs n 0))) g ≡ true)
        → (k ≤ length bs) × (holds (accepted L (run (plain L) (start L) (take k bs))) g ≡ true)
    later w = rw w.2 (omega (arith, w.1), rw (after w.0 w.1) w.4)

    back : (m : ℕ) → m ≤ length bs → holds (accepted L (run (plain L) (start L) (take m bs))) g ≡ true
        → ((m ≡ 0) × (g < signatures) × (holds (accepted L (start L)) g ≡ true))
        ⊎ ((n : ℕ) × (n < length bs) × (m ≡ suc n) × (g < signatures) × (holds (accepted L (step L (run (plain L) (start L) (take n bs)) (get_or bs n 0))) g ≡ true))
    back zero l h = inl (refl, accepted-below L (start L) g h, h)
    back (suc n) l h = let q = rw (after n (omega arith)) at h in inr (n, omega arith, refl, accepted-below L _ g q, q)

pub due_all : (L bs ws : List ℕ) → ws ≡ told (plain L) (start L) 0 bs → Due L bs (open_pairs L ++ ws)
unfolding open_pairs
due_all L bs ws e = flow.due_all (plain L) (start L) (accepted L (start L)) bs ws e

-- ---- the record that opening leaves, and what it tells

module _ (L : List ℕ) where
  pub opened-frontier : frontier_of (opened L) ≡ start L
  opened-frontier = frontier-flow (start L) 0 0 (start-lt L)

  pub opened-offset : offset_of (opened L) ≡ 0
  opened-offset = offset-flow (start L) 0 0 (omega arith)

  pub opened_rows : rows_of (opened L) ≡ 0
  opened_rows = rows-flow (start L) 0 0 (pow_pos 64)

pub begins : (L R out : List ℕ) → (open_flow L R out).refusal ≡ 0 → (open_told (open_flow L R out) ≡ open_pairs L) × ((open_flow L R out).saved ≡ opened L)
begins L R out z =
    let v : verdict (open_rules L R out) ≡ 0 = sym (opening-refusal (open_rules L R out) (open_pairs L) (opened L) R out) ∙ z in (
      opening-tells (open_rules L R out) (open_pairs L) (opened L) R out (size signatures (accepted L (start L))) (open_pairs-long L) v,
      ap (λ (o : Opening). o.saved) (opens (open_rules L R out) (open_pairs L) (opened L) R out v),
    )
