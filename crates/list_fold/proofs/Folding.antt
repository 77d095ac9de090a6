-- For any good choice of chiefs: a state is in a frontier exactly when its chief is; the frontier of the folded list is that of the list, renumbered, and it
-- accepts the same signatures. Assumes nothing.
use Prim.Native.Nat.{ℕ, ◌*◌, ◌≤◌, ◌<◌}
use mathlib.Core.Path.{◌≡◌, refl, sym, ap, ◌∙◌}
use mathlib.Core.Bool.{true}
use mathlib.Core.List.{List, [], ◌∷◌}
use mathlib.Core.Logic.{◌↔◌}
use native.Mathlib.Omega.{arith}
use lib.ListN.{length, get_or}
use borrow.Author.Tests.{eqb-true, eq-eqb}
use Rattle.sets.specs.Set.{holds}
use Rattle.sets.proofs.Sets.{set-ext}
use Rattle.rules.proofs.Scanning.{or-true}
use Rattle.list.specs.List.{records, byte_of, is_edge, is_start, is_accept, from, target, list_refusal}
use Rattle.list.specs.Automaton.{edge, start, step, accepted}
use Rattle.list.proofs.Listed.{same_truth}
use Rattle.list.proofs.Copied.{Copies, copied-long, copy-byte, copy-edge, copy_start, copy-accept, copy-taken, copy-from, copy-target}
use Rattle.list.proofs.Steps.{edge-exactly, start-exactly, step-exactly, accepted-exactly, edge-states, start-states, accept-states}
use Rattle.list.specs.Words.{Takes}
use Rattle.feed.specs.Engine.{run}
use Rattle.list_feed.specs.Plain.{plain}
use Rattle.list_fold.specs.Fold.{counted, leading, renumbered, new_from, new_target, new_record, stays, folded_by, Carries, Folds}
use Rattle.list_fold.proofs.Picks.{counted-most, counted-one, picked-length, picked-at, picked-from}

-- ---- record j of J is record i of L, renumbered

abbrev pub NewRecord : (ℕ → ℕ) → List ℕ → ℕ → List ℕ → ℕ → Type 0
NewRecord c J j L i = (k : ℕ) → k < 8 → byte_of J j k ≡ get_or (new_record c L i) k 0

module _ (c : ℕ → ℕ) (J : List ℕ) (j : ℕ) (L : List ℕ) (i : ℕ) (r : NewRecord c J j L i) where
  copied : Copies J j L i (new_from c L i) (new_target c L i)
  unfolding new_record
  copied k h = r k h

  pub new-byte : (k : ℕ) → k < 4 → byte_of J j k ≡ byte_of L i k
  new-byte = copy-byte J j L i (new_from c L i) (new_target c L i) copied

  pub new-edge : is_edge J j ≡ is_edge L i
  new-edge = copy-edge J j L i (new_from c L i) (new_target c L i) copied

  pub new-start : is_start J j ≡ is_start L i
  new-start = copy_start J j L i (new_from c L i) (new_target c L i) copied

  pub new-accept : is_accept J j ≡ is_accept L i
  new-accept = copy-accept J j L i (new_from c L i) (new_target c L i) copied

  pub new-taken : (b : ℕ) → edge J b j ≡ edge L b i
  new-taken = copy-taken J j L i (new_from c L i) (new_target c L i) copied

  pub new-from : new_from c L i < 65536 → from J j ≡ new_from c L i
  new-from = copy-from J j L i (new_from c L i) (new_target c L i) copied

  pub new-target : new_target c L i < 65536 → target J j ≡ new_target c L i
  new-target = copy-target J j L i (new_from c L i) (new_target c L i) copied

-- ---- where the records of the folded list come from

module _ (c : ℕ → ℕ) (L : List ℕ) where
  pub record-long : (i : ℕ) → length (new_record c L i) ≡ 8
  unfolding new_record
  record-long i = copied-long L i (new_from c L i) (new_target c L i)

  pub folded-length : length (folded_by c L) ≡ 8 * counted (stays c L) (records L)
  unfolding folded_by
  folded-length = picked-length (stays c L) (new_record c L) 8 record-long (records L)

  pub folded-records : records (folded_by c L) ≡ counted (stays c L) (records L)
  folded-records = rw folded-length (omega arith)

  -- it is no longer
  pub folded-most : records (folded_by c L) ≤ records L
  folded-most = rw folded-records (counted-most (stays c L) (records L))

  pub folded-new : (i : ℕ) → i < records L → stays c L i ≡ true → (counted (stays c L) i < records (folded_by c L)) × NewRecord c (folded_by c L) (counted (stays c L) i) L i
  unfolding folded_by
  folded-new i h e =
      let w = picked-at (stays c L) (new_record c L) 8 record-long (records L) i h e in
      (rw folded-records w.0, w.1)

  pub folded_from : (j : ℕ) → j < records (folded_by c L) → (i : ℕ) × (i < records L) × (stays c L i ≡ true) × NewRecord c (folded_by c L) j L i
  folded_from j h =
      let w = picked-from (stays c L) (new_record c L) 8 record-long (records L) j (rw folded-records at h) in
      (w.0, w.1, w.2, rw w.3 at (folded-new w.0 w.1 w.2).1)

module _ (c : ℕ → ℕ) (L : List ℕ) (a : list_refusal L ≡ 0) (g : Folds c L) where
  abbrev J : List ℕ
  J = folded_by c L

  -- ---- numbers

  pub chief-leads : (s : ℕ) → leading c (c s) ≡ true
  chief-leads s = eq-eqb (c (c s)) (c s) (g.own s)

  pub new-low : (s : ℕ) → renumbered c s ≤ s
  unfolding renumbered
  new-low s = omega (arith, counted-most (leading c) (c s), g.low s)

  -- states of one chief get one number, and no others
  pub one_number : (s t : ℕ) → renumbered c s ≡ renumbered c t → c s ≡ c t
  unfolding renumbered
  one_number s t e = counted-one (leading c) (c s) (c t) (chief-leads s) (chief-leads t) e

  pub chief-number : (s : ℕ) → renumbered c (c s) ≡ renumbered c s
  unfolding renumbered
  chief-number s = ap (counted (leading c)) (g.own s)

  pub edge-names : (i : ℕ) → is_edge L i ≡ true → (new_from c L i ≡ renumbered c (from L i)) × (new_target c L i ≡ renumbered c (target L i))
  edge-names i k = rw k (refl, refl)

  pub start-names : (i : ℕ) → is_start L i ≡ true → new_target c L i ≡ renumbered c (target L i)
  start-names i k = rw (k, or-true (is_edge L i))

  pub accept-names : (i : ℕ) → is_accept L i ≡ true → (new_from c L i ≡ renumbered c (from L i)) × (new_target c L i ≡ target L i)
  accept-names i k = rw (eqb-true (byte_of L i 0) 3 k) (refl, refl)

  pub chief-stays : (i s : ℕ) → target L i ≡ c s → stays c L i ≡ true
  unfolding stays
  chief-stays i s e = rw (e, g.own s, eq-eqb (c s) (c s) refl) (or-true (is_accept L i))

  accept-stays : (i : ℕ) → is_accept L i ≡ true → stays c L i ≡ true
  unfolding stays
  accept-stays i k = rw k

  -- ---- frontiers in which a state stands exactly when its chief does

  abbrev pub Even : ℕ → Type 0
  Even F = (s : ℕ) → holds F s ≡ holds F (c s)

  even-by : (F s t : ℕ) → Even F → c s ≡ c t → holds F s ≡ holds F t
  even-by F s t e q = e s ∙ ap (holds F) q ∙ sym (e t)

  carries-takes : (b i j : ℕ) → Carries c L i j → Takes L b i → Takes L b j
  carries-takes b i j w t =
      (edge-exactly L b j).0 (rw (w.kind, w.bytes 1 (omega arith) (omega arith), w.bytes 2 (omega arith) (omega arith), w.bytes 3 (omega arith) (omega arith)) (rw t.kind at ((edge-exactly L b i).1 t)))

  pub step-even : (F b : ℕ) → Even F → Even (step L F b)
  step-even F b e s = same_truth (holds (step L F b) s) (holds (step L F b) (c s)) there back
    where
      there : holds (step L F b) s ≡ true → holds (step L F b) (c s) ≡ true
      there h =
          let w = (step-exactly L F b s).0 h in
          let u = g.up w.1.0 w.1.1 w.1.2.kind in
          (step-exactly L F b (c s)).1 (omega (arith, w.0, g.low s), (u.0, u.1.within, carries-takes b w.1.0 u.0 u.1 w.1.2, even-by F (from L u.0) (from L w.1.0) e u.1.source ∙ w.1.3, u.2 ∙ ap c w.1.4))

      back : holds (step L F b) (c s) ≡ true → holds (step L F b) s ≡ true
      back h =
          let w = (step-exactly L F b (c s)).0 h in
          let u = g.down s w.1.0 w.1.1 w.1.2.kind w.1.4 in
          (step-exactly L F b s).1 (rw u.2 at (edge-states L a u.0 u.1.within u.1.kind).1, (u.0, u.1.within, carries-takes b w.1.0 u.0 u.1 w.1.2, even-by F (from L u.0) (from L w.1.0) e u.1.source ∙ w.1.3, u.2))

  -- ---- the frontier of the folded list: that of the list, renumbered

  pub record Image (F G : ℕ) : Type 0 where
    pub even : Even F
    pub is : (u : ℕ) → holds G u ≡ true ↔ ((s : ℕ) × (holds F s ≡ true) × (u ≡ renumbered c s))

  -- a state of the folded frontier comes from every state with that number
  image-back : (F G s : ℕ) → Image F G → holds G (renumbered c s) ≡ true → holds F s ≡ true
  image-back F G s m h = let w = (m.is (renumbered c s)).0 h in even-by F s w.0 m.even (one_number s w.0 w.2) ∙ w.1

  pub starts-image : Image (start L) (start J)
  starts-image = record { even = g.starts; is = λ u. (there u, back u) }
    where
      there : (u : ℕ) → holds (start J) u ≡ true → (s : ℕ) × (holds (start L) s ≡ true) × (u ≡ renumbered c s)
      there u h =
          let w = (start-exactly J u).0 h in
          let v = folded_from c L w.1.0 w.1.1 in
          let k : is_start L v.0 ≡ true = sym (new-start c J w.1.0 L v.0 v.3) ∙ w.1.2 in
          let l = start-states L a v.0 v.1 k in
          let e = start-names v.0 k in
          let x = new-target c J w.1.0 L v.0 v.3 (rw e (omega (arith, l, new-low (target L v.0)))) in
          (target L v.0, (start-exactly L (target L v.0)).1 (l, (v.0, v.1, k, refl)), sym w.1.3 ∙ x ∙ e)

      chief-in : (s : ℕ) → holds (start L) (c s) ≡ true → holds (start J) (renumbered c s) ≡ true
      chief-in s h =
          let w = (start-exactly L (c s)).0 h in
          let i = w.1.0 in
          let k : is_start L i ≡ true = w.1.2 in
          let v = folded-new c L i w.1.1 (chief-stays i s w.1.3) in
          let e = start-names i k in
          let l = start-states L a i w.1.1 k in
          let x = new-target c J (counted (stays c L) i) L i v.1 (rw e (omega (arith, l, new-low (target L i)))) in
          let q : renumbered c (target L i) ≡ renumbered c s = ap (renumbered c) w.1.3 ∙ chief-number s in
          (start-exactly J (renumbered c s)).1 (omega (arith, q, l, new-low (target L i)), (counted (stays c L) i, v.0, new-start c J (counted (stays c L) i) L i v.1 ∙ k, x ∙ e ∙ q))

      back : (u : ℕ) → (s : ℕ) × (holds (start L) s ≡ true) × (u ≡ renumbered c s) → holds (start J) u ≡ true
      back u w = rw w.2 (chief-in w.0 (sym (g.starts w.0) ∙ w.1))

  pub step-image : (F G b : ℕ) → Image F G → Image (step L F b) (step J G b)
  step-image F G b m = record { even = step-even F b m.even; is = λ u. (there u, back u) }
    where
      there : (u : ℕ) → holds (step J G b) u ≡ true → (s : ℕ) × (holds (step L F b) s ≡ true) × (u ≡ renumbered c s)
      there u h =
          let w = (step-exactly J G b u).0 h in
          let j = w.1.0 in
          let v = folded_from c L j w.1.1 in
          let i = v.0 in
          let t = (edge-exactly L b i).0 (sym (new-taken c J j L i v.3 b) ∙ (edge-exactly J b j).1 w.1.2) in
          let l = edge-states L a i v.1 t.kind in
          let e = edge-names i t.kind in
          let x = new-target c J j L i v.3 (rw e.1 (omega (arith, l.1, new-low (target L i)))) in
          let y = new-from c J j L i v.3 (rw e.0 (omega (arith, l.0, new-low (from L i)))) in
          (target L i, (step-exactly L F b (target L i)).1 (l.1, (i, v.1, t, image-back F G (from L i) m (rw (y ∙ e.0) at w.1.3), refl)), sym w.1.4 ∙ x ∙ e.1)

      chief-in : (s : ℕ) → holds (step L F b) (c s) ≡ true → holds (step J G b) (renumbered c s) ≡ true
      chief-in s h =
          let w = (step-exactly L F b (c s)).0 h in
          let i = w.1.0 in
          let t = w.1.2 in
          let v = folded-new c L i w.1.1 (chief-stays i s w.1.4) in
          let j = counted (stays c L) i in
          let l = edge-states L a i w.1.1 t.kind in
          let e = edge-names i t.kind in
          let x = new-target c J j L i v.1 (rw e.1 (omega (arith, l.1, new-low (target L i)))) in
          let y = new-from c J j L i v.1 (rw e.0 (omega (arith, l.0, new-low (from L i)))) in
          let q : renumbered c (target L i) ≡ renumbered c s = ap (renumbered c) w.1.4 ∙ chief-number s in
          let f = (m.is (renumbered c (from L i))).1 (from L i, w.1.3, refl) in
          (step-exactly J G b (renumbered c s)).1 (omega (arith, q, l.1, new-low (target L i)), (j, v.0, (edge-exactly J b j).0 (new-taken c J j L i v.1 b ∙ (edge-exactly L b i).1 t), rw (y ∙ e.0) f, x ∙ e.1 ∙ q))

      back : (u : ℕ) → (s : ℕ) × (holds (step L F b) s ≡ true) × (u ≡ renumbered c s) → holds (step J G b) u ≡ true
      back u w = rw w.2 (chief-in w.0 (sym (step-even F b m.even w.0) ∙ w.1))

  run-image : (bs : List ℕ) (F G : ℕ) → Image F G → Image (run (plain L) F bs) (run (plain J) G bs)
  unfolding run
  run-image [] F G m = m
  run-image (b ∷ bs) F G m = run-image bs (step L F b) (step J G b) (step-image F G b m)

  -- at every offset
  pub frontiers : (bs : List ℕ) → Image (run (plain L) (start L) bs) (run (plain J) (start J) bs)
  frontiers bs = run-image bs (start L) (start J) starts-image

  -- what it accepts
  pub accepts-same : (F G h : ℕ) → Image F G → holds (accepted J G) h ≡ holds (accepted L F) h
  accepts-same F G h m = same_truth (holds (accepted J G) h) (holds (accepted L F) h) there back
    where
      there : holds (accepted J G) h ≡ true → holds (accepted L F) h ≡ true
      there p =
          let w = (accepted-exactly J G h).0 p in
          let j = w.1.0 in
          let v = folded_from c L j w.1.1 in
          let i = v.0 in
          let k : is_accept L i ≡ true = sym (new-accept c J j L i v.3) ∙ w.1.2 in
          let l = accept-states L a i v.1 k in
          let e = accept-names i k in
          let x = new-target c J j L i v.3 (rw e.1 (omega (arith, l.1))) in
          let y = new-from c J j L i v.3 (rw e.0 (omega (arith, l.0, new-low (from L i)))) in
          (accepted-exactly L F h).1 (w.0, (i, v.1, k, image-back F G (from L i) m (rw (y ∙ e.0) at w.1.3), sym (x ∙ e.1) ∙ w.1.4))

      back : holds (accepted L F) h ≡ true → holds (accepted J G) h ≡ true
      back p =
          let w = (accepted-exactly L F h).0 p in
          let i = w.1.0 in
          let k : is_accept L i ≡ true = w.1.2 in
          let v = folded-new c L i w.1.1 (accept-stays i k) in
          let j = counted (stays c L) i in
          let l = accept-states L a i w.1.1 k in
          let e = accept-names i k in
          let x = new-target c J j L i v.1 (rw e.1 (omega (arith, l.1))) in
          let y = new-from c J j L i v.1 (rw e.0 (omega (arith, l.0, new-low (from L i)))) in
          (accepted-exactly J G h).1 (w.0, (j, v.0, new-accept c J j L i v.1 ∙ k, rw (y ∙ e.0) ((m.is (renumbered c (from L i))).1 (from L i, w.1.3, refl)), x ∙ e.1 ∙ w.1.4))

  -- at every offset the same signatures
  pub accepted-same : (bs : List ℕ) → accepted J (run (plain J) (start J) bs) ≡ accepted L (run (plain L) (start L) bs)
  accepted-same bs = set-ext (accepted J (run (plain J) (start J) bs)) (accepted L (run (plain L) (start L) bs)) (λ h. accepts-same (run (plain L) (start L) bs) (run (plain J) (start J) bs) h (frontiers bs))
