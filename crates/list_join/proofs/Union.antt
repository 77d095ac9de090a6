-- The automaton of the joined list: its frontier is the first list's and the second's renamed, and it accepts what either accepts. Assumes nothing.
use Prim.Native.Nat.{ℕ, suc, ◌+◌, ◌%◌, ◌≤◌, ◌<◌}
use mathlib.Core.Path.{◌≡◌, refl, sym, ap, ◌∙◌}
use mathlib.Core.Bool.{Bool, true, false, ◌||◌, false≢true}
use mathlib.Core.List.{List, [], ◌∷◌}
use mathlib.Core.Logic.{◌⊎◌, inl, inr, ◌↔◌}
use native.Mathlib.Omega.{arith}
use lib.ListN.{length}
use lib.Dec.{eqb}
use borrow.Author.Tests.{eqb-true}
use Rattle.sets.specs.Set.{states, signatures, holds, join}
use Rattle.sets.proofs.Sets.{holds-join, set-ext}
use Rattle.rules.proofs.Scanning.{choose, or_cases, or-true}
use Rattle.list.specs.List.{records, byte_of, is_edge, is_start, is_accept, from, target, list_refusal}
use Rattle.list.specs.Automaton.{edge, start, step, accepted, highest}
use Rattle.list.proofs.Listed.{same_truth, not_so, whole-records, good-edge, good-start, edge-good, start-good}
use Rattle.list.proofs.Steps.{edge-exactly, start-exactly, step-exactly, accepted-exactly, good-at, edge-states, start-states, accept-states}
use Rattle.list.specs.Words.{Takes}
use Rattle.list.proofs.Highest.{names-low, highest-state}
use Rattle.feed.specs.Engine.{run}
use Rattle.feed.specs.Calls.{Bytes}
use Rattle.list_feed.specs.Plain.{plain}
use Rattle.list_join.specs.inner.Found.{loop_both}
use Rattle.list_join.specs.Join.{is_shared, own_state, same_state, naming, renamed, new_from, new_target, spare, kept, joined}
use Rattle.list_join.proofs.Renames.{apart, one_name, renamed-most, renamed-own, spare-is}
use Rattle.list_join.proofs.Fields.{SameRecord, same_word, new-start, new-accept, new-taken, new-from, new-target, joined-records, joined-old, joined-new, joined-from}
use Rattle.list_join.proofs.Staying.{Shares, shares}

-- a record that is the same
module _ (J : List ℕ) (j : ℕ) (L : List ℕ) (i : ℕ) (r : SameRecord J j L i) where
  pub old-edge : is_edge J j ≡ is_edge L i
  old-edge = ap (λ (x : ℕ). eqb x 1) (r 0 (omega arith))

  pub old-start : is_start J j ≡ is_start L i
  old-start = ap (λ (x : ℕ). eqb x 2) (r 0 (omega arith))

  pub old-accept : is_accept J j ≡ is_accept L i
  old-accept = ap (λ (x : ℕ). eqb x 3) (r 0 (omega arith))

  old-taken : (c : ℕ) → edge J c j ≡ edge L c i
  old-taken c = rw (r 0 (omega arith), r 1 (omega arith), r 2 (omega arith), r 3 (omega arith))

  pub old-from : from J j ≡ from L i
  old-from = same_word J j L i 4 r (omega arith)

  pub old-target : target J j ≡ target L i
  old-target = same_word J j L i 6 r (omega arith)

module _ (A B : List ℕ) (a : list_refusal A ≡ 0) (b : list_refusal B ≡ 0) where
  pub edge-B : (i : ℕ) → i < records B → is_edge B i ≡ true → (from B i < states) × (target B i < states)
  edge-B = edge-states B b

  pub start-B : (i : ℕ) → i < records B → is_start B i ≡ true → target B i < states
  start-B = start-states B b

  -- what a shared state is
  pub sharing : is_shared (naming A B) ≡ true → Shares A B (same_state (naming A B)) (own_state (naming A B))
  sharing e = shares A B e

  pub same_low : is_shared (naming A B) ≡ true → same_state (naming A B) < (naming A B).next
  same_low e = omega (arith, (sharing e).lowish)

  shared-loop : loop_both A B ≡ true → is_shared (naming A B) ≡ true
  shared-loop l = rw l

  pub small : (t : ℕ) → t < states → renamed (naming A B) t < 65536
  small t h = omega (arith, renamed-most (naming A B) t same_low, highest-state A a, h)

  pub accept-B : (i : ℕ) → i < records B → is_accept B i ≡ true → (from B i < states) × (target B i < signatures)
  accept-B = accept-states B b

  pub edge-names : (i : ℕ) → is_edge B i ≡ true → (new_from (naming A B) B i ≡ renamed (naming A B) (from B i)) × (new_target (naming A B) B i ≡ renamed (naming A B) (target B i))
  edge-names i k = rw k (refl, refl)

  pub start-names : (i : ℕ) → is_start B i ≡ true → new_target (naming A B) B i ≡ renamed (naming A B) (target B i)
  start-names i k = rw (k, or-true (is_edge B i))

  pub accept-names : (i : ℕ) → is_accept B i ≡ true → (new_from (naming A B) B i ≡ renamed (naming A B) (from B i)) × (new_target (naming A B) B i ≡ target B i)
  accept-names i k = rw (eqb-true (byte_of B i 0) 3 k) (refl, refl)

  -- ---- frontiers that belong together

  -- FJ holds the states of FA, and those of FB renamed; FA holds states of A alone; a shared state is in both or in neither, and in both where both loop
  pub record Meets (FA FB FJ : ℕ) : Type 0 where
    pub own : (s : ℕ) → holds FA s ≡ true → s ≤ highest A
    pub ever : is_shared (naming A B) ≡ true → holds FA (same_state (naming A B)) ≡ holds FB (own_state (naming A B))
    pub on : loop_both A B ≡ true → holds FA (same_state (naming A B)) ≡ true
    pub is : (s : ℕ) → holds FJ s ≡ true ↔ ((holds FA s ≡ true) ⊎ ((t : ℕ) × (holds FB t ≡ true) × (s ≡ renamed (naming A B) t)))

  module _ (FA FB FJ : ℕ) (m : Meets FA FB FJ) where
    -- a state of A is in FJ only if it is in FA
    old-state : (s : ℕ) → s ≤ highest A → holds FJ s ≡ true → holds FA s ≡ true
    old-state s l h = choose ((m.is s).0 h) (λ x. x) back
      where
        back : (t : ℕ) × (holds FB t ≡ true) × (s ≡ renamed (naming A B) t) → holds FA s ≡ true
        back w = let p = apart (naming A B) same_low w.0 (omega (arith, w.2, l)) in rw (w.2 ∙ p.2) (m.ever p.0 ∙ rw p.1 at w.1)

    -- a renamed state of B is in FJ only if the state is in FB
    new-state : (t : ℕ) → holds FJ (renamed (naming A B) t) ≡ true → holds FB t ≡ true
    new-state t h = choose ((m.is (renamed (naming A B) t)).0 h) there back
      where
        there : holds FA (renamed (naming A B) t) ≡ true → holds FB t ≡ true
        there q = let p = apart (naming A B) same_low t (omega (arith, m.own (renamed (naming A B) t) q)) in rw p.1 (sym (m.ever p.0) ∙ rw p.2 at q)

        back : (u : ℕ) × (holds FB u ≡ true) × (renamed (naming A B) t ≡ renamed (naming A B) u) → holds FB t ≡ true
        back w = rw (one_name (naming A B) same_low t w.0 w.2) w.1

  -- ---- where the joined list passes the check

  module _ (j : list_refusal (joined A B) ≡ 0) where
    abbrev J : List ℕ
    J = joined A B

    w8 : length A % 8 ≡ 0
    w8 = whole-records A a

    old : (i : ℕ) → i < records A → SameRecord J i A i
    old i h = joined-old A B w8 i h

    old-in : (i : ℕ) → i < records A → i < records J
    old-in i h = rw (joined-records A B w8) (omega arith)

    -- the start sets
    starts-meet : Meets (start A) (start B) (start J)
    starts-meet = record { own = low; ever = λ e. let t = sharing e in t.start-A ∙ sym t.start-B; on = λ l. (sharing (shared-loop l)).start-A; is = λ s. (there s, back s) }
      where
        low : (s : ℕ) → holds (start A) s ≡ true → s ≤ highest A
        low s h = let w = (start-exactly A s).0 h in names-low A w.1.0 s w.1.1 (inr (inl (w.1.2, w.1.3)))

        Now : ℕ → Type 0
        Now s = (holds (start A) s ≡ true) ⊎ ((t : ℕ) × (holds (start B) t ≡ true) × (s ≡ renamed (naming A B) t))

        there : (s : ℕ) → holds (start J) s ≡ true → Now s
        there s h =
            let w = (start-exactly J s).0 h in
            choose (joined-from A B w8 w.1.0 w.1.1)
            (λ l. inl ((start-exactly A s).1 (w.0, (w.1.0, l, sym (old-start J _ A _ (old _ l)) ∙ w.1.2, sym (old-target J _ A _ (old _ l)) ∙ w.1.3))))
            (λ v.
            let q = joined-new A B w8 v.0 v.1 v.2 in
            let k : is_start B v.0 ≡ true = sym (new-start J _ (naming A B) B v.0 q.1) ∙ ap (is_start J) (sym v.3) ∙ w.1.2 in
            let l = start-B v.0 v.1 k in
            let e = start-names v.0 k in
            let x = new-target J _ (naming A B) B v.0 q.1 (rw e (small (target B v.0) l)) in
            inr (target B v.0, (start-exactly B (target B v.0)).1 (l, (v.0, v.1, k, refl)), sym w.1.3 ∙ ap (target J) v.3 ∙ x ∙ e))

        of-old : (s : ℕ) → holds (start A) s ≡ true → holds (start J) s ≡ true
        of-old s h =
            let w = (start-exactly A s).0 h in
            let r = old w.1.0 w.1.1 in
            (start-exactly J s).1 (w.0, (w.1.0, old-in w.1.0 w.1.1, old-start J _ A _ r ∙ w.1.2, old-target J _ A _ r ∙ w.1.3))

        of-new : (t i : ℕ) → i < records B → is_start B i ≡ true → target B i ≡ t → (d : Bool) → spare (naming A B) B i ≡ d → holds (start J) (renamed (naming A B) t) ≡ true
        of-new t i h k q true e =
            let z = spare-is (naming A B) B i e in
            let o : t ≡ (own_state (naming A B)) = sym q ∙ z.1 in
            rw (ap (renamed (naming A B)) o ∙ renamed-own (naming A B) z.0) (of-old (same_state (naming A B)) (sharing z.0).start-A)
        of-new t i h k q false e =
            let p = joined-new A B w8 i h e in
            let f = start-names i k in
            let x = new-target J _ (naming A B) B i p.1 (rw f (small (target B i) (start-B i h k))) in
            let y : is_start J (records A + kept (naming A B) B i) ≡ true = new-start J _ (naming A B) B i p.1 ∙ k in
            let z : target J (records A + kept (naming A B) B i) ≡ renamed (naming A B) t = x ∙ f ∙ ap (renamed (naming A B)) q in
            let lim = ((start-good J _).0 (sym (good-start J _ y) ∙ good-at J j _ p.0)).2 in
            (start-exactly J (renamed (naming A B) t)).1 (rw z at lim, (records A + kept (naming A B) B i, p.0, y, z))

        back : (s : ℕ) → Now s → holds (start J) s ≡ true
        back s n =
            choose n (of-old s)
            (λ v. let w = (start-exactly B v.0).0 v.1 in rw v.2 (of-new v.0 w.1.0 w.1.1 w.1.2 w.1.3 (spare (naming A B) B w.1.0) refl))

    -- a byte
    step-meets : (FA FB FJ c : ℕ) → c < 256 → Meets FA FB FJ → Meets (step A FA c) (step B FB c) (step J FJ c)
    step-meets FA FB FJ c c8 m = record { own = low; ever = λ e. ((sharing e).steps FA FB c c8 (m.ever e) m.on).0; on = λ l. let e = shared-loop l in ((sharing e).steps FA FB c c8 (m.ever e) m.on).1 l; is = λ s. (there s, back s) }
      where
        low : (s : ℕ) → holds (step A FA c) s ≡ true → s ≤ highest A
        low s h = let w = (step-exactly A FA c s).0 h in names-low A w.1.0 s w.1.1 (inl (w.1.2.kind, inr w.1.4))

        Now : ℕ → Type 0
        Now s = (holds (step A FA c) s ≡ true) ⊎ ((t : ℕ) × (holds (step B FB c) t ≡ true) × (s ≡ renamed (naming A B) t))

        there : (s : ℕ) → holds (step J FJ c) s ≡ true → Now s
        there s h =
            let w = (step-exactly J FJ c s).0 h in
            let i = w.1.0 in
            let g : edge J c i ≡ true = (edge-exactly J c i).1 w.1.2 in
            choose (joined-from A B w8 i w.1.1)
            (λ l.
            let r = old i l in
            let k = (edge-exactly A c i).0 (sym (old-taken J i A i r c) ∙ g) in
            inl ((step-exactly A FA c s).1 (w.0, (i, l, k, old-state FA FB FJ m (from A i) (names-low A i (from A i) l (inl (k.kind, inl refl))) (rw (← old-from J i A i r) w.1.3), sym (old-target J i A i r) ∙ w.1.4))))
            (λ v.
            let q = joined-new A B w8 v.0 v.1 v.2 in
            let k = (edge-exactly B c v.0).0 (sym (new-taken J _ (naming A B) B v.0 q.1 c) ∙ ap (edge J c) (sym v.3) ∙ g) in
            let l = edge-B v.0 v.1 k.kind in
            let e = edge-names v.0 k.kind in
            let x = new-target J _ (naming A B) B v.0 q.1 (rw e.1 (small (target B v.0) l.1)) in
            let y = new-from J _ (naming A B) B v.0 q.1 (rw e.0 (small (from B v.0) l.0)) in
            let z : from J i ≡ renamed (naming A B) (from B v.0) = ap (from J) v.3 ∙ y ∙ e.0 in
            inr (target B v.0, (step-exactly B FB c (target B v.0)).1 (l.1, (v.0, v.1, k, new-state FA FB FJ m (from B v.0) (rw z at w.1.3), refl)), sym w.1.4 ∙ ap (target J) v.3 ∙ x ∙ e.1))

        of-old : (s : ℕ) → holds (step A FA c) s ≡ true → holds (step J FJ c) s ≡ true
        of-old s h =
            let w = (step-exactly A FA c s).0 h in
            let i = w.1.0 in
            let r = old i w.1.1 in
            let k = (edge-exactly J c i).0 (old-taken J i A i r c ∙ (edge-exactly A c i).1 w.1.2) in
            (step-exactly J FJ c s).1 (w.0, (i, old-in i w.1.1, k, rw (old-from J i A i r) ((m.is (from A i)).1 (inl w.1.3)), old-target J i A i r ∙ w.1.4))

        of-new : (t i : ℕ) → i < records B → Takes B c i → holds FB (from B i) ≡ true → target B i ≡ t → holds (step B FB c) t ≡ true → (d : Bool) → spare (naming A B) B i ≡ d → holds (step J FJ c) (renamed (naming A B) t) ≡ true
        of-new t i h k f q hb true e =
            let z = spare-is (naming A B) B i e in
            let o : t ≡ (own_state (naming A B)) = sym q ∙ z.1 in
            rw (ap (renamed (naming A B)) o ∙ renamed-own (naming A B) z.0) (of-old (same_state (naming A B)) (((sharing z.0).steps FA FB c c8 (m.ever z.0) m.on).0 ∙ rw o at hb))
        of-new t i h k f q hb false e =
            let p = joined-new A B w8 i h e in
            let l = edge-B i h k.kind in
            let u = edge-names i k.kind in
            let x = new-target J _ (naming A B) B i p.1 (rw u.1 (small (target B i) l.1)) in
            let y = new-from J _ (naming A B) B i p.1 (rw u.0 (small (from B i) l.0)) in
            let g = (edge-exactly J c (records A + kept (naming A B) B i)).0 (new-taken J _ (naming A B) B i p.1 c ∙ (edge-exactly B c i).1 k) in
            let z : target J (records A + kept (naming A B) B i) ≡ renamed (naming A B) t = x ∙ u.1 ∙ ap (renamed (naming A B)) q in
            let lim = ((edge-good J _).0 (sym (good-edge J _ g.kind) ∙ good-at J j _ p.0)).4 in
            (step-exactly J FJ c (renamed (naming A B) t)).1 (rw z at lim, (records A + kept (naming A B) B i, p.0, g, rw (y ∙ u.0) ((m.is (renamed (naming A B) (from B i))).1 (inr (from B i, f, refl))), z))

        back : (s : ℕ) → Now s → holds (step J FJ c) s ≡ true
        back s n =
            choose n (of-old s)
            (λ v. let w = (step-exactly B FB c v.0).0 v.1 in rw v.2 (of-new v.0 w.1.0 w.1.1 w.1.2 w.1.3 w.1.4 v.1 (spare (naming A B) B w.1.0) refl))

    -- all bytes
    run-meets : (bs : List ℕ) (FA FB FJ : ℕ) → Bytes bs → Meets FA FB FJ → Meets (run (plain A) FA bs) (run (plain B) FB bs) (run (plain J) FJ bs)
    unfolding run
    run-meets [] FA FB FJ h m = m
    run-meets (c ∷ bs) FA FB FJ h m = run-meets bs (step A FA c) (step B FB c) (step J FJ c) (λ i. h (suc i)) (step-meets FA FB FJ c (h 0) m)

    -- the frontier of the joined list, at every offset
    pub frontiers-meet : (bs : List ℕ) → Bytes bs → Meets (run (plain A) (start A) bs) (run (plain B) (start B) bs) (run (plain J) (start J) bs)
    frontiers-meet bs h = run-meets bs (start A) (start B) (start J) h starts-meet

    -- what it accepts
    accepts-meet : (FA FB FJ g : ℕ) → Meets FA FB FJ → holds (accepted J FJ) g ≡ (holds (accepted A FA) g || holds (accepted B FB) g)
    accepts-meet FA FB FJ g m = same_truth (holds (accepted J FJ) g) (holds (accepted A FA) g || holds (accepted B FB) g) there back
      where
        there : holds (accepted J FJ) g ≡ true → (holds (accepted A FA) g || holds (accepted B FB) g) ≡ true
        there h =
            let w = (accepted-exactly J FJ g).0 h in
            let i = w.1.0 in
            choose (joined-from A B w8 i w.1.1)
            (λ l.
            let r = old i l in
            let k : is_accept A i ≡ true = sym (old-accept J i A i r) ∙ w.1.2 in
            rw ((accepted-exactly A FA g).1 (w.0, (i, l, k, old-state FA FB FJ m (from A i) (names-low A i (from A i) l (inr (inr (k, refl)))) (rw (← old-from J i A i r) w.1.3), sym (old-target J i A i r) ∙ w.1.4))))
            (λ v.
            let q = joined-new A B w8 v.0 v.1 v.2 in
            let k : is_accept B v.0 ≡ true = sym (new-accept J _ (naming A B) B v.0 q.1) ∙ ap (is_accept J) (sym v.3) ∙ w.1.2 in
            let l = accept-B v.0 v.1 k in
            let e = accept-names v.0 k in
            let x = new-target J _ (naming A B) B v.0 q.1 (rw e.1 (omega (arith, l.1))) in
            let y = new-from J _ (naming A B) B v.0 q.1 (rw e.0 (small (from B v.0) l.0)) in
            let z : from J i ≡ renamed (naming A B) (from B v.0) = ap (from J) v.3 ∙ y ∙ e.0 in
            rw ((accepted-exactly B FB g).1 (w.0, (v.0, v.1, k, new-state FA FB FJ m (from B v.0) (rw z at w.1.3), sym (x ∙ e.1) ∙ ap (target J) (sym v.3) ∙ w.1.4))) (or-true (holds (accepted A FA) g)))

        kept-accept : (i : ℕ) → is_accept B i ≡ true → spare (naming A B) B i ≡ false
        kept-accept i k = not_so (spare (naming A B) B i) (λ e. choose (spare-is (naming A B) B i e).2 (λ s. false≢true (sym (rw (eqb-true (byte_of B i 0) 3 k)) ∙ s)) (λ s. false≢true (sym (rw (eqb-true (byte_of B i 0) 3 k)) ∙ s.0)))

        back : (holds (accepted A FA) g || holds (accepted B FB) g) ≡ true → holds (accepted J FJ) g ≡ true
        back h =
            choose (or_cases (holds (accepted A FA) g) (holds (accepted B FB) g) h)
            (λ q.
            let w = (accepted-exactly A FA g).0 q in
            let i = w.1.0 in
            let r = old i w.1.1 in
            (accepted-exactly J FJ g).1 (w.0, (i, old-in i w.1.1, old-accept J i A i r ∙ w.1.2, rw (old-from J i A i r) ((m.is (from A i)).1 (inl w.1.3)), old-target J i A i r ∙ w.1.4)))
            (λ q.
            let w = (accepted-exactly B FB g).0 q in
            let i = w.1.0 in
            let k : is_accept B i ≡ true = w.1.2 in
            let p = joined-new A B w8 i w.1.1 (kept-accept i k) in
            let l = accept-B i w.1.1 k in
            let e = accept-names i k in
            let x = new-target J _ (naming A B) B i p.1 (rw e.1 (omega (arith, l.1))) in
            let y = new-from J _ (naming A B) B i p.1 (rw e.0 (small (from B i) l.0)) in
            (accepted-exactly J FJ g).1 (w.0, (records A + kept (naming A B) B i, p.0, new-accept J _ (naming A B) B i p.1 ∙ k, rw (y ∙ e.0) ((m.is (renamed (naming A B) (from B i))).1 (inr (from B i, w.1.3, refl))), x ∙ e.1 ∙ w.1.4)))

    -- at every offset the joined list accepts what either accepts
    pub accepted-union : (bs : List ℕ) → Bytes bs → accepted J (run (plain J) (start J) bs) ≡ join (accepted A (run (plain A) (start A) bs)) (accepted B (run (plain B) (start B) bs))
    accepted-union bs h =
        set-ext (accepted J (run (plain J) (start J) bs)) (join (accepted A (run (plain A) (start A) bs)) (accepted B (run (plain B) (start B) bs)))
        (λ g. accepts-meet (run (plain A) (start A) bs) (run (plain B) (start B) bs) (run (plain J) (start J) bs) g (frontiers-meet bs h) ∙ sym (holds-join (accepted A (run (plain A) (start A) bs)) (accepted B (run (plain B) (start B) bs)) g))
