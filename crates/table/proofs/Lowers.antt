-- A byte of the class of a lower one passes rule 10, where the list steps alike on both, and rule 13, where that one does. Assumes nothing.
use Prim.Native.Nat.{ℕ, ◌<◌}
use mathlib.Core.Path.{◌≡◌, sym, ap, ap₂, ◌∙◌}
use mathlib.Core.Bool.{Bool, true, ◌&&◌}
use mathlib.Core.List.{List}
use lib.ListN.{get_or}
use lib.Dec.{ltb, eqb}
use borrow.Author.Tests.{ltb-true, eqb-true}
use Rattle.rules.specs.Scan.{every}
use Rattle.rules.proofs.Scanning.{both, every-at}
use Rattle.list.specs.Automaton.{step}
use Rattle.list_alike.specs.inner.Alike.{Alikes}
use Rattle.table.specs.Table.{byte_values, class_count, row_at, row, slots, used_slots, joined, is_split}

-- the byte that A has for c is lower, and of c's class in C
abbrev lower : List ℕ → List ℕ → ℕ → Bool
lower C A c = ltb (get_or A c 0) c && eqb (get_or C (get_or A c 0) 0) (get_or C c 0)

lower-passes : (C A : List ℕ) (p : ℕ → Bool) (c : ℕ) → every c p ≡ true → lower C A c ≡ true
    → (get_or C (get_or A c 0) 0 ≡ get_or C c 0 → p (get_or A c 0) ≡ p c) → p c ≡ true
lower-passes C A p c g h same =
    let d = get_or A c 0 in
    let b = both (ltb d c) (eqb (get_or C d 0) (get_or C c 0)) h in
    sym (same (eqb-true (get_or C d 0) (get_or C c 0) b.1)) ∙ every-at c p g d (ltb-true d c b.0)

pub lower-row : (L C W A : List ℕ) (p F c : ℕ) → Alikes L A → c < byte_values → every c (λ d. eqb (row C W p d) (step L F d)) ≡ true
    → lower C A c ≡ true → eqb (row C W p c) (step L F c) ≡ true
unfolding row
lower-row L C W A p F c a l g h =
    lower-passes C A (λ d. eqb (row C W p d) (step L F d)) c g h
    (λ e. ap₂ (λ (x y : ℕ). eqb x y) (ap (λ (q : ℕ). row_at W (class_count C) p q) e) (a c l F))

pub lower-led : (C W S A : List ℕ) (i c : ℕ) → every c (λ d. is_split S (joined (λ p. row C W p d) (used_slots (slots S i)))) ≡ true
    → lower C A c ≡ true → is_split S (joined (λ p. row C W p c) (used_slots (slots S i))) ≡ true
unfolding row
lower-led C W S A i c g h =
    lower-passes C A (λ d. is_split S (joined (λ p. row C W p d) (used_slots (slots S i)))) c g h
    (λ e. ap (λ (q : ℕ). is_split S (joined (λ p. row_at W (class_count C) p q) (used_slots (slots S i)))) e)
