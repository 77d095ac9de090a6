-- The classes in a reader's words: which bytes share one, in which order they are numbered, and how many are needed. Assumes nothing.
use Prim.Native.Nat.{ℕ, ◌^◌, ◌≤◌, ◌<◌}
use mathlib.Core.Path.{◌≡◌, refl, sym, ap, ◌∙◌}
use mathlib.Core.Bool.{true, true≢false}
use mathlib.Core.List.{List}
use mathlib.Core.Logic.{◌↔◌}
use native.Mathlib.Omega.{arith}
use native.Mathlib.Decide.{dec_lt}
use lib.ListN.{length}
use lib.Dec.{eqb}
use borrow.Author.Tests.{eqb-true, eq-eqb}
use Rattle.sets.specs.Set.{holds}
use Rattle.sets.proofs.Sets.{holds-pow, set-ext}
use Rattle.rules.proofs.Scanning.{some-elim, none-some, first_found}
use Rattle.list.specs.List.{from, list_refusal}
use Rattle.list.specs.Automaton.{step}
use Rattle.list.proofs.Listed.{same_truth}
use Rattle.list.proofs.Steps.{step-checked}
use Rattle.table.specs.Table.{byte_values, largest}
use Rattle.table.proofs.Entries.{largest-exactly}
use Rattle.table_classes.specs.Classes.{alike, count, lowest_like, leads, class_of, classes_of, class_total, lowest_of}
use Rattle.table_classes.specs.Words.{Moves, Alike, Needs, LowestIn, Coarsest}
use Rattle.table_classes.proofs.Pigeons.{pigeons}
use Rattle.table_classes.proofs.Classes.{at-alike, alike-step, count-one, lowest-upto, class-alike, alike-class, class-lead, class_low, class-hit}
use Rattle.table_classes.proofs.Totals.{class-length, class-at, class-lt}

-- no byte below c shares its class
abbrev pub Lowest : List ℕ → ℕ → Type 0
Lowest L c = (b : ℕ) → b < c → class_of L b ≡ class_of L c → ⊥

-- ---- which bytes share a class

module _ (L : List ℕ) (good : list_refusal L ≡ 0) where
  move_step : (s c t : ℕ) → Moves L s c t → holds (step L (2 ^ s) c) t ≡ true
  move_step s c t m = (step-checked L good (2 ^ s) c t).1 (m.0, m.1, m.2, holds-pow s (from L m.0) ∙ eq-eqb (from L m.0) s m.3, m.4)

  step_move : (s c t : ℕ) → holds (step L (2 ^ s) c) t ≡ true → Moves L s c t
  step_move s c t h =
      let r = (step-checked L good (2 ^ s) c t).0 h in
      (r.0, r.1, r.2, eqb-true (from L r.0) s (sym (holds-pow s (from L r.0)) ∙ r.3), r.4)

  carried : (s c d t : ℕ) → alike L c d ≡ true → Moves L s c t → Moves L s d t
  carried s c d t a m = step_move s d t (ap (λ (x : ℕ). holds x t) (sym (alike-step L good c d (2 ^ s) a)) ∙ move_step s c t m)

  -- two bytes share a class exactly when every state steps alike on both
  pub shares-exactly : (c d : ℕ) → c < byte_values → d < byte_values → (class_of L c ≡ class_of L d) ↔ Alike L c d
  shares-exactly c d hc hd = (
    λ e s t. (carried s c d t (class-alike L c d hc hd e), carried s d c t (class-alike L d c hd hc (sym e))),
    λ a. alike-class L c d (at-alike L c d (λ s l. set-ext (step L (2 ^ s) c) (step L (2 ^ s) d)
        (λ t. same_truth (holds (step L (2 ^ s) c) t) (holds (step L (2 ^ s) d) t)
        (λ h. move_step s d t ((a s t).0 (step_move s c t h)))
        (λ h. move_step s c t ((a s t).1 (step_move s d t h)))))),
  )

-- ---- in which order they are numbered

module _ (L : List ℕ) where
  lowest-lead : (c : ℕ) → c < byte_values → Lowest L c → leads L c ≡ true
  lowest-lead c h l =
      eq-eqb (lowest_like L c) c
      (elim (dec_lt (lowest_like L c) c) [ yes k ↦ absurd (l (lowest_like L c) k (class_low L c h)) | no g ↦ (let u : lowest_like L c ≤ c = lowest-upto L c h in omega arith) ])

  -- by their lowest bytes
  pub numbers-rise : (c d : ℕ) → c < d → d < byte_values → Lowest L c → Lowest L d → class_of L c < class_of L d
  numbers-rise c d l h a b =
      let p : leads L c ≡ true = lowest-lead c (omega arith) a in
      let q : leads L d ≡ true = lowest-lead d h b in
      let r : count (leads L) c < count (leads L) d = count-one (leads L) c d l p in
      omega (arith, class-lead L c p, class-lead L d q)

  -- without a gap, from 0 on
  pub no_gaps : (c q : ℕ) → c < byte_values → q ≤ class_of L c → (d : ℕ) × (d < byte_values) × (class_of L d ≡ q)
  no_gaps c q h l =
      let r = some-elim byte_values (λ d. eqb (class_of L d) q) (class-hit L c q h l) in
      (r.0, r.1, eqb-true (class_of L r.0) q r.2)

  -- each number below the total is a class, and has its lowest byte
  pub class-there : (q : ℕ) → q < class_total L → (lowest_of L q < byte_values) × (class_of L (lowest_of L q) ≡ q) × Lowest L (lowest_of L q)
  unfolding lowest_of
  class-there q h =
      let z : 0 < length (classes_of L) = omega (arith, class-length L) in
      let r = ((largest-exactly (classes_of L) z (largest (classes_of L))).0 refl).0 in
      let l : r.0 < byte_values = omega (arith, r.1, class-length L) in
      let w = first_found byte_values (λ d. eqb (class_of L d) q) (class-hit L r.0 q l (omega (arith, class-at L r.0 l, r.2))) in
      let e : class_of L (lowest_of L q) ≡ q = eqb-true (class_of L (lowest_of L q)) q w.1 in
      (w.0, e, λ b k s. true≢false (sym (eq-eqb (class_of L b) q (s ∙ e)) ∙ none-some (lowest_of L q) (λ d. eqb (class_of L d) q) w.2 b k))

-- ---- how many are needed

module _ (L : List ℕ) (good : list_refusal L ≡ 0) where
  pub needs-exactly : (n : ℕ) → (n ≤ class_total L) ↔ Needs L n
  needs-exactly n = (there, back)
    where
      there : n ≤ class_total L → Needs L n
      there h = (
        lowest_of L,
        λ i l. (class-there L i (omega arith)).0,
        λ i j li lj a.
            let x = class-there L i (omega arith) in
            let y = class-there L j (omega arith) in
            sym x.1 ∙ (shares-exactly L good (lowest_of L i) (lowest_of L j) x.0 y.0).1 a ∙ y.1,
      )

      back : Needs L n → n ≤ class_total L
      back (f, b, d) =
          pigeons (class_total L) n (λ i. class_of L (f i)) (λ i l. class-lt L (f i) (b i l))
          (λ i j li lj e. d i j li lj ((shares-exactly L good (f i) (f j) (b i li) (b j lj)).0 e))

-- ---- the list of them

module _ (L : List ℕ) (good : list_refusal L ≡ 0) where
  lowest-in : (c : ℕ) → c < byte_values → LowestIn (classes_of L) c → Lowest L c
  lowest-in c h l b k e = l b k (class-at L b (omega (arith, h, k)) ∙ e ∙ sym (class-at L c h))

  pub coarsest : Coarsest L (classes_of L)
  coarsest =
      record {
        many = class-length L;
        shared = λ c d hc hd. rw (class-at L c hc, class-at L d hd) (shares-exactly L good c d hc hd);
        rise = λ c d l h a b.
            let k : c < byte_values = omega (arith, l, h) in
            rw (class-at L c k, class-at L d h) (numbers-rise L c d l h (lowest-in c k a) (lowest-in d h b));
        no_gaps = λ c q h l. let d = no_gaps L c q h (rw (class-at L c h) at l) in (d.0, d.1, class-at L d.0 d.1 ∙ d.2);
      }
