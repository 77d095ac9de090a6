-- Rule 22 in words: a certificate is not refused exactly when it shows what `Certified` says, field by field. Assumes nothing.
use Prim.Native.Nat.{ℕ, zero, suc, ◌+◌, ◌*◌, ◌%◌, ◌^◌, ◌≤◌, ◌<◌}
use mathlib.Core.Path.{◌≡◌, refl, sym, ap, ◌∙◌}
use mathlib.Core.Bool.{Bool, true, false, ◌&&◌, ◌||◌, cond, not, true≢false}
use mathlib.Core.List.{List}
use mathlib.Core.Logic.{◌↔◌}
use native.Mathlib.Omega.{arith}
use native.Mathlib.Decide.{dec_lt}
use lib.ListN.{length, get_or}
use lib.Dec.{leb, ltb, eqb}
use lib.Pow.{pow_pos}
use borrow.Author.Tests.{eqb-true, eq-eqb, ltb-false, le-ltb, leb-true, le-leb, not-true}
use Rattle.sets.specs.Set.{signatures, holds, insert}
use Rattle.sets.proofs.Sets.{insert-lt, holds-past, set-ext}
use Rattle.rules.specs.Scan.{every}
use Rattle.rules.proofs.Scanning.{every-at, every-all, equal_words, over-words, gather-lt}
use Rattle.list.specs.List.{records, is_accept, target}
use Rattle.list.specs.Automaton.{start, step, accepted, leaves}
use Rattle.machine.specs.declared.Config.{Config}
use Rattle.machine.specs.Program.{counter_count, off, program_length, alert_now, alerts_by, kind_of, which_of, number_of, after, alerted}
use Rattle.machine.specs.Machine.{byte_values, state_count, machine, first, first_alerts}
use Rattle.machine.specs.Record.{reserved_of, good_counters}
use Rattle.machine_certificate.specs.Certificate.{note_size, most_notes, notes, note_bytes, note_config, note_set, good_note, same_config, noted, all_once, good_opening, good_step, good_steps, bad_length, good_notes, bad_certificate}
use Rattle.machine_certificate.specs.Words.{Recorded, Exactly, Certified}
use Rattle.machine_certificate.proofs.Recorded.{both_words, neither-words, not-words, every-words, same-exactly, noted-exactly}

-- ---- sets of signatures are numbers below 2 to the 256, so equal members make equal numbers

pub alerted-lt : (P : List ℕ) (q : ℕ) (x : Config) (j : ℕ) → alerted P q x j < 2 ^ signatures
unfolding alerted alerts_by
alerted-lt P q x zero = pow_pos signatures
alerted-lt P q x (suc j) =
    let i = program_length * q + j in
    let y = after P q x j in
    go (alert_now (kind_of P i) (which_of P i) y.bits y.counters) (number_of P i) (alerted P q x j) (alerted-lt P q x j)
  where
    go : (b : Bool) (n A : ℕ) → A < 2 ^ signatures → cond b (insert signatures A n) A < 2 ^ signatures
    go true n A h = insert-lt signatures A n h
    go false n A h = h

pub accepted-lt : (L : List ℕ) (F : ℕ) → accepted L F < 2 ^ signatures
unfolding accepted
accepted-lt L F = gather-lt signatures (leaves L F (is_accept L)) (target L) (records L)

pub exactly-same : (A B : ℕ) → A < 2 ^ signatures → B < 2 ^ signatures → eqb A B ≡ true ↔ Exactly A B
exactly-same A B a b = (there, back)
  where
    there : eqb A B ≡ true → Exactly A B
    there e g l = ap (λ (n : ℕ). holds n g) (eqb-true A B e)

    back : Exactly A B → eqb A B ≡ true
    back h =
        eq-eqb A B (set-ext A B (λ g. elim (dec_lt g signatures) [
          | yes l ↦ h g l
          | no n ↦ holds-past signatures A g a (omega (arith, n)) ∙ sym (holds-past signatures B g b (omega (arith, n)))
        ]))

-- ---- the parts

length-said : (Z : List ℕ) → bad_length Z ≡ false ↔ ((length Z % note_size ≡ 0) × (notes Z ≤ most_notes))
unfolding bad_length
length-said Z =
    neither-words (length Z % note_size ≡ 0) (notes Z ≤ most_notes) (not (eqb (length Z % note_size) 0)) (ltb most_notes (notes Z))
    (not-words (length Z % note_size ≡ 0) (eqb (length Z % note_size) 0) (equal_words (length Z % note_size) 0))
    (ltb-false most_notes (notes Z), le-ltb most_notes (notes Z))

-- the fields of record i are good
abbrev Fields : List ℕ → List ℕ → ℕ → Type 0
Fields M Z i =
    (((note_config Z i).state < state_count M) × (reserved_of (note_bytes Z i) ≡ 0)) × ((k : ℕ) → k < counter_count → get_or (note_config Z i).counters k 0 ≤ off)

fields-said : (M Z : List ℕ) (i : ℕ) → good_note (state_count M) Z i ≡ true ↔ Fields M Z i
unfolding good_note
fields-said M Z i =
    both_words (((note_config Z i).state < state_count M) × (reserved_of (note_bytes Z i) ≡ 0)) ((k : ℕ) → k < counter_count → get_or (note_config Z i).counters k 0 ≤ off)
    (ltb (note_config Z i).state (state_count M) && eqb (reserved_of (note_bytes Z i)) 0) (good_counters (note_config Z i).counters)
    (both_words ((note_config Z i).state < state_count M) (reserved_of (note_bytes Z i) ≡ 0) (ltb (note_config Z i).state (state_count M)) (eqb (reserved_of (note_bytes Z i)) 0)
    (over-words (note_config Z i).state (state_count M)) (equal_words (reserved_of (note_bytes Z i)) 0))
    (every-words counter_count (λ k. leb (get_or (note_config Z i).counters k 0) off) (λ k. get_or (note_config Z i).counters k 0 ≤ off)
    (λ k. (leb-true (get_or (note_config Z i).counters k 0) off, le-leb (get_or (note_config Z i).counters k 0) off)))

notes-said : (M Z : List ℕ) → good_notes M Z ≡ true ↔ ((i : ℕ) → i < notes Z → Fields M Z i)
unfolding good_notes
notes-said M Z = every-words (notes Z) (good_note (state_count M) Z) (Fields M Z) (fields-said M Z)

once-said : (Z : List ℕ) → all_once Z ≡ true ↔ ((i j : ℕ) → i < notes Z → j < notes Z → note_config Z i ≡ note_config Z j → i ≡ j)
unfolding all_once
once-said Z = (there, back)
  where
    differ : every (notes Z) (λ i. every i (λ j. not (same_config (note_config Z j) (note_config Z i)))) ≡ true
        → (i j : ℕ) → i < notes Z → j < i → note_config Z j ≡ note_config Z i → ⊥
    differ e i j l m q =
        let p = every-at i (λ j. not (same_config (note_config Z j) (note_config Z i))) (every-at (notes Z) (λ i. every i (λ j. not (same_config (note_config Z j) (note_config Z i)))) e i l) j m in
        true≢false (sym ((same-exactly (note_config Z j) (note_config Z i)).1 q) ∙ not-true (same_config (note_config Z j) (note_config Z i)) p)

    there : every (notes Z) (λ i. every i (λ j. not (same_config (note_config Z j) (note_config Z i)))) ≡ true
        → (i j : ℕ) → i < notes Z → j < notes Z → note_config Z i ≡ note_config Z j → i ≡ j
    there e i j l m q = elim (dec_lt i j) [
      | yes h ↦ absurd (differ e j i m h q)
      | no n ↦ elim (dec_lt j i) [
        | yes h ↦ absurd (differ e i j l h (sym q))
        | no k ↦ omega (arith, n, k)
      ]
    ]

    one : (b : Bool) → (b ≡ true → ⊥) → not b ≡ true
    one true n = absurd (n refl)
    one false n = refl

    back : ((i j : ℕ) → i < notes Z → j < notes Z → note_config Z i ≡ note_config Z j → i ≡ j)
        → every (notes Z) (λ i. every i (λ j. not (same_config (note_config Z j) (note_config Z i)))) ≡ true
    back h =
        every-all (notes Z) (λ i. every i (λ j. not (same_config (note_config Z j) (note_config Z i)))) (λ i l.
        every-all i (λ j. not (same_config (note_config Z j) (note_config Z i))) (λ j m.
        one (same_config (note_config Z j) (note_config Z i)) (λ e.
        let q = h j i (omega arith) l ((same-exactly (note_config Z j) (note_config Z i)).0 e) in omega arith)))

opening-said : (L P Z : List ℕ) → good_opening L P Z ≡ true ↔ (Recorded Z (first P) (start L) × Exactly (first_alerts P) (accepted L (start L)))
unfolding good_opening
opening-said L P Z =
    both_words (Recorded Z (first P) (start L)) (Exactly (first_alerts P) (accepted L (start L))) (noted Z (first P) (start L)) (eqb (first_alerts P) (accepted L (start L)))
    (noted-exactly Z (first P) (start L)) (exactly-same (first_alerts P) (accepted L (start L)) (alerted-lt P 0 _ program_length) (accepted-lt L (start L)))

module _ (L M P Z : List ℕ) where
  -- what byte c shows at record i
  abbrev Stepped : ℕ → ℕ → Type 0
  Stepped i c =
      Recorded Z ((machine M P).next (note_config Z i) c) (step L (note_set Z i) c) × Exactly ((machine M P).alerts (note_config Z i) c) (accepted L (step L (note_set Z i) c))

  step-said : (i c : ℕ) → good_step L M P Z i c ≡ true ↔ Stepped i c
  unfolding good_step
  step-said i c =
      both_words (Recorded Z ((machine M P).next (note_config Z i) c) (step L (note_set Z i) c)) (Exactly ((machine M P).alerts (note_config Z i) c) (accepted L (step L (note_set Z i) c)))
      (noted Z ((machine M P).next (note_config Z i) c) (step L (note_set Z i) c)) (eqb ((machine M P).alerts (note_config Z i) c) (accepted L (step L (note_set Z i) c)))
      (noted-exactly Z ((machine M P).next (note_config Z i) c) (step L (note_set Z i) c))
      (exactly-same ((machine M P).alerts (note_config Z i) c) (accepted L (step L (note_set Z i) c)) (alerted-lt P _ _ program_length) (accepted-lt L (step L (note_set Z i) c)))

  steps-said : good_steps L M P Z ≡ true ↔ ((i : ℕ) → i < notes Z → (c : ℕ) → c < byte_values → Stepped i c)
  unfolding good_steps
  steps-said =
      every-words (notes Z) (λ i. every byte_values (good_step L M P Z i)) (λ i. (c : ℕ) → c < byte_values → Stepped i c)
      (λ i. every-words byte_values (good_step L M P Z i) (Stepped i) (step-said i))

  -- ---- all of it

  abbrev Whole : Type 0
  Whole = (length Z % note_size ≡ 0) × (notes Z ≤ most_notes)

  abbrev AllGood : Type 0
  AllGood = (i : ℕ) → i < notes Z → Fields M Z i

  abbrev Once : Type 0
  Once = (i j : ℕ) → i < notes Z → j < notes Z → note_config Z i ≡ note_config Z j → i ≡ j

  abbrev Begun : Type 0
  Begun = Recorded Z (first P) (start L) × Exactly (first_alerts P) (accepted L (start L))

  abbrev Closed : Type 0
  Closed = (i : ℕ) → i < notes Z → (c : ℕ) → c < byte_values → Stepped i c

  parts_said : bad_certificate L M P Z ≡ false ↔ ((((Whole × AllGood) × Once) × Begun) × Closed)
  unfolding bad_certificate
  parts_said =
      neither-words (((Whole × AllGood) × Once) × Begun) Closed (bad_length Z || not (good_notes M Z) || not (all_once Z) || not (good_opening L P Z)) (not (good_steps L M P Z))
      (neither-words ((Whole × AllGood) × Once) Begun (bad_length Z || not (good_notes M Z) || not (all_once Z)) (not (good_opening L P Z))
      (neither-words (Whole × AllGood) Once (bad_length Z || not (good_notes M Z)) (not (all_once Z))
      (neither-words Whole AllGood (bad_length Z) (not (good_notes M Z)) (length-said Z) (not-words AllGood (good_notes M Z) (notes-said M Z)))
      (not-words Once (all_once Z) (once-said Z)))
      (not-words Begun (good_opening L P Z) (opening-said L P Z)))
      (not-words Closed (good_steps L M P Z) steps-said)

  -- not refused exactly when it shows all
  pub certified-exactly : bad_certificate L M P Z ≡ false ↔ Certified L M P Z
  certified-exactly = (λ e. there (parts_said.0 e), λ c. parts_said.1 (back c))
    where
      there : (((Whole × AllGood) × Once) × Begun) × Closed → Certified L M P Z
      there w =
          record {
            whole = w.0.0.0.0.0;
            most = w.0.0.0.0.1;
            states-in = λ i l. (w.0.0.0.1 i l).0.0;
            reserved = λ i l. (w.0.0.0.1 i l).0.1;
            counters = λ i l. (w.0.0.0.1 i l).1;
            once = w.0.0.1;
            begins = w.0.1.0;
            opens = w.0.1.1;
            steps = λ i c l m. (w.1 i l c m).0;
            alerts = λ i c l m. (w.1 i l c m).1;
          }

      back : Certified L M P Z → (((Whole × AllGood) × Once) × Begun) × Closed
      back c = (
        ((((c.whole, c.most), λ i l. ((c.states-in i l, c.reserved i l), c.counters i l)), c.once), (c.begins, c.opens)),
        λ i l b m. (c.steps i b l m, c.alerts i b l m),
      )
