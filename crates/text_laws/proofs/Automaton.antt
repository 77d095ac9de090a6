-- The automaton that the list of an expression writes down is its position automaton.
use Prim.Native.Nat.{ℕ, suc, ◌+◌, ◌*◌, ◌/◌, ◌%◌, ◌≤◌, ◌<◌}
use mathlib.Core.Path.{◌≡◌, sym, ap, subst, ◌∙◌}
use mathlib.Core.Bool.{Bool, true}
use mathlib.Core.List.{List, [], ◌∷◌}
use mathlib.Core.Logic.{◌⊎◌, inl, inr}
use native.Mathlib.Omega.{arith}
use lib.ListN.{get_or}
use borrow.Author.Tests.{eqb-true, eq-eqb}
use Rattle.sets.specs.Set.{states, holds}
use Rattle.list.specs.List.{records, byte_of, is_start, is_accept, low, high, from, target}
use Rattle.list.specs.Automaton.{exchanged, start, step, accepted}
use Rattle.list.proofs.Listed.{from_bytes, target-bytes}
use Rattle.list.specs.Words.{Takes}
use Rattle.list.proofs.Steps.{start-exactly, step-exactly, accepted-exactly}
use Rattle.feed.specs.Engine.{run}
use Rattle.feed.specs.Calls.{Bytes}
use Rattle.list_feed.specs.Plain.{plain}
use Rattle.text.specs.Exp.{Exp, size, edge, accepts, Leads}
use Rattle.text.specs.Records.{edge_record, start_record, accept_record, all_records, sort_into, flat}
use Rattle.text_records.proofs.Rising.{Mem, Long, sort-mem, mem-sort}
use Rattle.text_laws.proofs.Found.{mem-at, at_mem, long-all, flat-records, flat-at}
use Rattle.text_laws.specs.Records.{Longest}
use Rattle.text_laws.proofs.Ran.{all-longest, runs-cover}
use Rattle.text_laws.proofs.Bounds.{edge-within, accepts-within}
use Rattle.text_laws.proofs.Members.{One, mem-one, edge-mem, start-mem, accept-mem, one-long}

-- the records, sorted, and the list
abbrev pub sorted : Bool → Exp → ℕ → List (List ℕ)
sorted free e g = sort_into [] (all_records free e g)

abbrev pub the_list : Bool → Exp → ℕ → List ℕ
the_list free e g = flat (sorted free e g)

-- two bytes write a number
pub two_bytes : (s : ℕ) → s < states → s % 256 + 256 * (s / 256) ≡ s
two_bytes s h = omega arith

module _ (free : Bool) (e : Exp) (g : ℕ) where
  pub sorted-one : (q : List ℕ) → Mem q (sorted free e g) → One free e g q
  sorted-one q m = go (mem-sort q (all_records free e g) [] m)
    where
      go : Mem q (all_records free e g) ⊎ ⊥ → One free e g q
      go (inr x') = elim x' [ ]
      go (inl z) = mem-one free e g q z

  pub one-sorted : (q : List ℕ) → Mem q (all_records free e g) → Mem q (sorted free e g)
  one-sorted q m = sort-mem q (all_records free e g) [] (inl m)

  pub sorted-long : Long 8 (sorted free e g)
  sorted-long = long-all 8 (sorted free e g) (λ q m. one-long free e g q (sorted-one q m))

  -- record i: what it is, and its bytes
  pub at_one : (i : ℕ) → i < records (the_list free e g) → One free e g (get_or (sorted free e g) i [])
  at_one i h = sorted-one (get_or (sorted free e g) i []) (at_mem (sorted free e g) i (subst (λ z. i < z) (flat-records (sorted free e g) sorted-long) h))

  pub byte-of : (i k : ℕ) (r : List ℕ) → i < records (the_list free e g) → k < 8 → get_or (sorted free e g) i [] ≡ r → get_or (the_list free e g) (8 * i + k) 0 ≡ get_or r k 0
  byte-of i k r h l q = flat-at (sorted free e g) i k sorted-long (subst (λ z. i < z) (flat-records (sorted free e g) sorted-long) h) l ∙ ap (λ z. get_or z k 0) q

  pub from-of : (i : ℕ) (r : List ℕ) → i < records (the_list free e g) → get_or (sorted free e g) i [] ≡ r → from (the_list free e g) i ≡ get_or r 4 0 + 256 * get_or r 5 0
  from-of i r h q = from_bytes (the_list free e g) i ∙ rw (byte-of i 4 r h (omega arith) q, byte-of i 5 r h (omega arith) q)

  pub target-of : (i : ℕ) (r : List ℕ) → i < records (the_list free e g) → get_or (sorted free e g) i [] ≡ r → target (the_list free e g) i ≡ get_or r 6 0 + 256 * get_or r 7 0
  target-of i r h q = target-bytes (the_list free e g) i ∙ rw (byte-of i 6 r h (omega arith) q, byte-of i 7 r h (omega arith) q)

  -- a record of R stands somewhere
  pub stands : (r : List ℕ) → Mem r (all_records free e g) → (i : ℕ) × (i < records (the_list free e g)) × (get_or (sorted free e g) i [] ≡ r)
  stands r m =
      let w = mem-at r (sorted free e g) (one-sorted r m) in
      (w.0, subst (λ z. w.0 < z) (sym (flat-records (sorted free e g) sorted-long)) w.1, w.2)

  module _ (few : size e < states) (small : g < 256) where
    -- ---- a step

    step_from : (F c t : ℕ) → holds (step (the_list free e g) F c) t ≡ true → (s : ℕ) × (holds F s ≡ true) × (edge free e s t c ≡ true)
    step_from F c t h =
        let w = (step-exactly (the_list free e g) F c t).0 h in
        let i = w.1.0 in
        go i w.1.1 w.1.2 w.1.3 w.1.4 (at_one i w.1.1)
      where
        go : (i : ℕ) → i < records (the_list free e g) → Takes (the_list free e g) c i → holds F (from (the_list free e g) i) ≡ true → target (the_list free e g) i ≡ t
            → One free e g (get_or (sorted free e g) i []) → (s : ℕ) × (holds F s ≡ true) × (edge free e s t c ≡ true)
        go i l k f q (inl a) =
            let r = edge_record a.range.0 a.range.1 a.source a.target in
            let fs : from (the_list free e g) i ≡ a.source = from-of i r l a.is ∙ two_bytes a.source (omega (arith, a.source_in)) in
            let ts : target (the_list free e g) i ≡ a.target = target-of i r l a.is ∙ two_bytes a.target (omega (arith, a.target-in)) in
            let lo : low (the_list free e g) i ≡ a.range.0 = byte-of i 1 r l (omega arith) a.is in
            let hi : high (the_list free e g) i ≡ a.range.1 = byte-of i 2 r l (omega arith) a.is in
            let fl : byte_of (the_list free e g) i 3 ≡ 0 = byte-of i 3 r l (omega arith) a.is in
            let u = all-longest (edge free e a.source a.target) a.range a.run in
            (a.source, subst (λ z. holds F z ≡ true) fs f, subst (λ z. edge free e a.source z c ≡ true) (sym ts ∙ q) (inside u lo hi fl k.range))
          where
            inside : Longest (edge free e a.source a.target) 256 a.range.0 a.range.1 → low (the_list free e g) i ≡ a.range.0 → high (the_list free e g) i ≡ a.range.1 → byte_of (the_list free e g) i 3 ≡ 0
                → ((low (the_list free e g) i ≤ c) × (c ≤ high (the_list free e g) i)) ⊎ ((byte_of (the_list free e g) i 3 ≡ 1) × (low (the_list free e g) i ≤ exchanged c) × (exchanged c ≤ high (the_list free e g) i))
                → edge free e a.source a.target c ≡ true
            inside u lo hi fl (inl (x, y)) = u.inside c (omega arith) (omega arith)
            inside u lo hi fl (inr (x, y, z)) = absurd (omega (arith, x, fl))
        go i l k f q (inr (inl z)) =
            let b : byte_of (the_list free e g) i 0 ≡ 2 = byte-of i 0 start_record l (omega arith) z in
            let o : byte_of (the_list free e g) i 0 ≡ 1 = eqb-true (byte_of (the_list free e g) i 0) 1 k.kind in absurd (omega (arith, b, o))
        go i l k f q (inr (inr a)) =
            let b : byte_of (the_list free e g) i 0 ≡ 3 = byte-of i 0 (accept_record a.state g) l (omega arith) a.is in
            let o : byte_of (the_list free e g) i 0 ≡ 1 = eqb-true (byte_of (the_list free e g) i 0) 1 k.kind in absurd (omega (arith, b, o))

    step-to : (F c s t : ℕ) → c < 256 → edge free e s t c ≡ true → holds F s ≡ true → holds (step (the_list free e g) F c) t ≡ true
    step-to F c s t h q f =
        let n = edge-within free e s t c q in
        let (p, m, u, v) = runs-cover (edge free e s t) 256 0 0 c (omega arith) q (omega arith) (λ y. omega arith, omega arith) in
        let r = edge_record p.0 p.1 s t in
        let (i, l, w) = stands r (edge-mem free e g s t p n.0 n.1 m) in
        let lo : low (the_list free e g) i ≡ p.0 = byte-of i 1 r l (omega arith) w in
        let hi : high (the_list free e g) i ≡ p.1 = byte-of i 2 r l (omega arith) w in
        let k0 : byte_of (the_list free e g) i 0 ≡ 1 = byte-of i 0 r l (omega arith) w in
        let k : Takes (the_list free e g) c i = record { kind = eq-eqb (byte_of (the_list free e g) i 0) 1 k0; range = inl (omega (arith, lo, u), omega (arith, hi, v)) } in
        let fs : from (the_list free e g) i ≡ s = from-of i r l w ∙ two_bytes s (omega (arith, n.0)) in
        let ts : target (the_list free e g) i ≡ t = target-of i r l w ∙ two_bytes t (omega (arith, n.1)) in
        (step-exactly (the_list free e g) F c t).1 (omega (arith, n.1), (i, l, k, subst (λ z. holds F z ≡ true) (sym fs) f, ts))

    -- ---- the signatures accepted

    accept-from : (F h : ℕ) → holds (accepted (the_list free e g) F) h ≡ true → (h ≡ g) × ((s : ℕ) × (holds F s ≡ true) × (accepts e s ≡ true))
    accept-from F h y =
        let w = (accepted-exactly (the_list free e g) F h).0 y in
        let i = w.1.0 in
        go i w.1.1 w.1.2 w.1.3 w.1.4 (at_one i w.1.1)
      where
        go : (i : ℕ) → i < records (the_list free e g) → is_accept (the_list free e g) i ≡ true → holds F (from (the_list free e g) i) ≡ true → target (the_list free e g) i ≡ h
            → One free e g (get_or (sorted free e g) i []) → (h ≡ g) × ((s : ℕ) × (holds F s ≡ true) × (accepts e s ≡ true))
        go i l k f q (inl a) =
            let b : byte_of (the_list free e g) i 0 ≡ 1 = byte-of i 0 (edge_record a.range.0 a.range.1 a.source a.target) l (omega arith) a.is in
            let o : byte_of (the_list free e g) i 0 ≡ 3 = eqb-true (byte_of (the_list free e g) i 0) 3 k in absurd (omega (arith, b, o))
        go i l k f q (inr (inl z)) =
            let b : byte_of (the_list free e g) i 0 ≡ 2 = byte-of i 0 start_record l (omega arith) z in
            let o : byte_of (the_list free e g) i 0 ≡ 3 = eqb-true (byte_of (the_list free e g) i 0) 3 k in absurd (omega (arith, b, o))
        go i l k f q (inr (inr a)) =
            let fs : from (the_list free e g) i ≡ a.state = from-of i (accept_record a.state g) l a.is ∙ two_bytes a.state (omega (arith, a.state-in)) in
            let ts : target (the_list free e g) i ≡ g + 256 * 0 = target-of i (accept_record a.state g) l a.is in
            (omega (arith, q, ts), (a.state, subst (λ z. holds F z ≡ true) fs f, a.accepting))

    accept-to : (F s : ℕ) → holds F s ≡ true → accepts e s ≡ true → holds (accepted (the_list free e g) F) g ≡ true
    accept-to F s f q =
        let n = accepts-within e s q in
        let (i, l, w) = stands (accept_record s g) (accept-mem free e g s n q) in
        let k0 : byte_of (the_list free e g) i 0 ≡ 3 = byte-of i 0 (accept_record s g) l (omega arith) w in
        let fs : from (the_list free e g) i ≡ s = from-of i (accept_record s g) l w ∙ two_bytes s (omega arith) in
        let ts : target (the_list free e g) i ≡ g + 256 * 0 = target-of i (accept_record s g) l w in
        (accepted-exactly (the_list free e g) F g).1 (omega arith, (i, l, eq-eqb (byte_of (the_list free e g) i 0) 3 k0, subst (λ z. holds F z ≡ true) (sym fs) f, omega (arith, ts)))

    -- ---- the start

    start-from : (s : ℕ) → holds (start (the_list free e g)) s ≡ true → s ≡ 0
    start-from s h =
        let w = (start-exactly (the_list free e g) s).0 h in
        let i = w.1.0 in
        go i w.1.1 w.1.2 w.1.3 (at_one i w.1.1)
      where
        go : (i : ℕ) → i < records (the_list free e g) → is_start (the_list free e g) i ≡ true → target (the_list free e g) i ≡ s → One free e g (get_or (sorted free e g) i []) → s ≡ 0
        go i l k q (inl a) =
            let b : byte_of (the_list free e g) i 0 ≡ 1 = byte-of i 0 (edge_record a.range.0 a.range.1 a.source a.target) l (omega arith) a.is in
            let o : byte_of (the_list free e g) i 0 ≡ 2 = eqb-true (byte_of (the_list free e g) i 0) 2 k in absurd (omega (arith, b, o))
        go i l k q (inr (inl z)) = let ts : target (the_list free e g) i ≡ 0 + 256 * 0 = target-of i start_record l z in omega (arith, q, ts)
        go i l k q (inr (inr a)) =
            let b : byte_of (the_list free e g) i 0 ≡ 3 = byte-of i 0 (accept_record a.state g) l (omega arith) a.is in
            let o : byte_of (the_list free e g) i 0 ≡ 2 = eqb-true (byte_of (the_list free e g) i 0) 2 k in absurd (omega (arith, b, o))

    start-to : holds (start (the_list free e g)) 0 ≡ true
    start-to =
        let (i, l, w) = stands start_record (start-mem free e g) in
        let k0 : byte_of (the_list free e g) i 0 ≡ 2 = byte-of i 0 start_record l (omega arith) w in
        let ts : target (the_list free e g) i ≡ 0 + 256 * 0 = target-of i start_record l w in
        (start-exactly (the_list free e g) 0).1 (omega arith, (i, l, eq-eqb (byte_of (the_list free e g) i 0) 2 k0, omega (arith, ts)))

    -- ---- a run

    run-from : (w : List ℕ) (F h : ℕ) → holds (accepted (the_list free e g) (run (plain (the_list free e g)) F w)) h ≡ true → (h ≡ g) × ((s : ℕ) × (holds F s ≡ true) × Leads free e w s)
    unfolding run
    run-from [] F h y = accept-from F h y
    run-from (c ∷ w) F h y =
        let (q, (t, f, l)) = run-from w (step (the_list free e g) F c) h y in
        let (s, i, j) = step_from F c t f in
        (q, (s, i, (t, j, l)))

    run-to : (w : List ℕ) (F s : ℕ) → Bytes w → holds F s ≡ true → Leads free e w s → holds (accepted (the_list free e g) (run (plain (the_list free e g)) F w)) g ≡ true
    unfolding run
    run-to [] F s b f l = accept-to F s f l
    run-to (c ∷ w) F s b f (t, q, l) = run-to w (step (the_list free e g) F c) t (λ i. b (suc i)) (step-to F c s t (b 0) q f) l

    pub leads-from : (w : List ℕ) (h : ℕ) → holds (accepted (the_list free e g) (run (plain (the_list free e g)) (start (the_list free e g)) w)) h ≡ true → (h ≡ g) × Leads free e w 0
    leads-from w h y = let (q, (s, f, l)) = run-from w (start (the_list free e g)) h y in (q, subst (Leads free e w) (start-from s f) l)

    pub leads-to : (w : List ℕ) → Bytes w → Leads free e w 0 → holds (accepted (the_list free e g) (run (plain (the_list free e g)) (start (the_list free e g)) w)) g ≡ true
    leads-to w b l = run-to w (start (the_list free e g)) 0 b start-to l
