-- What the check of a certificate answers: 1 to 3, then 24, then 22, and 0 exactly for a certificate that shows all. Assumes nothing.
use Prim.Native.Nat.{ℕ}
use mathlib.Core.Path.{◌≡◌, refl, sym, ◌∙◌}
use mathlib.Core.Bool.{Bool, true, false}
use mathlib.Core.List.{List, [], ◌∷◌, ◌++◌}
use mathlib.Core.Logic.{◌↔◌}
use native.Mathlib.Omega.{arith}
use native.Mathlib.Decide.{ℕ_discrete}
use lib.Dec.{lit<}
use Rattle.rules.specs.Rules.{verdict, Refuses}
use Rattle.rules.proofs.Rules.{refuses, passes-front, verdict-then, verdict-refused, verdict-lt, passes, stop, last}
use Rattle.list.specs.List.{list_rules, list_refusal}
use Rattle.machine.specs.Machine.{bad_machine, machine_rules, machine_refusal}
use Rattle.machine_certificate.specs.Certificate.{bad_certificate, certificate_rules, certificate_refusal}
use Rattle.machine_certificate.specs.Words.{Certified}
use Rattle.machine_certificate.proofs.Certified.{certified-exactly}

-- a number that is not other than 0
passed : (n : ℕ) → ((n ≡ 0 → ⊥) → ⊥) → n ≡ 0
passed n f = elim (ℕ_discrete n 0) [ yes e ↦ e | no d ↦ absurd (f d) ]

only-24 : (b : Bool) → verdict ((24, b) ∷ []) ≡ 22 → ⊥
unfolding verdict
only-24 true e = omega arith
only-24 false e = omega arith

module _ (L M P Z : List ℕ) where
  -- each number exactly when its rule applies and none before it does, and 0 exactly when none does
  pub certificate-refuses : Refuses (certificate_rules L M P Z) (certificate_refusal L M P Z)
  certificate-refuses = refuses (certificate_rules L M P Z) refl

  -- where the list and the machine pass, 22 alone is left
  pub then-22 : list_refusal L ≡ 0 → machine_refusal M P ≡ 0 → certificate_refusal L M P Z ≡ verdict ((22, bad_certificate L M P Z) ∷ [])
  then-22 l m =
      verdict-then (list_rules L) (machine_rules M P ++ ((22, bad_certificate L M P Z) ∷ [])) refl l
      ∙ verdict-then (machine_rules M P) ((22, bad_certificate L M P Z) ∷ []) refl m

  -- a list or a machine that is refused: so is every certificate for it, by the same number
  pub list-first : (list_refusal L ≡ 0 → ⊥) → certificate_refusal L M P Z ≡ list_refusal L
  list-first n = verdict-refused (list_rules L) (machine_rules M P ++ ((22, bad_certificate L M P Z) ∷ [])) n

  pub machine-second : list_refusal L ≡ 0 → (machine_refusal M P ≡ 0 → ⊥) → certificate_refusal L M P Z ≡ machine_refusal M P
  machine-second l n =
      verdict-then (list_rules L) (machine_rules M P ++ ((22, bad_certificate L M P Z) ∷ [])) refl l
      ∙ verdict-refused (machine_rules M P) ((22, bad_certificate L M P Z) ∷ []) n

  list-passes : certificate_refusal L M P Z ≡ 0 → list_refusal L ≡ 0
  list-passes e = passes-front (list_rules L) (machine_rules M P ++ ((22, bad_certificate L M P Z) ∷ [])) e

  machine-passes : certificate_refusal L M P Z ≡ 0 → machine_refusal M P ≡ 0
  machine-passes e =
      passes-front (machine_rules M P) ((22, bad_certificate L M P Z) ∷ [])
      (sym (verdict-then (list_rules L) (machine_rules M P ++ ((22, bad_certificate L M P Z) ∷ [])) refl (list-passes e)) ∙ e)

  pub accepts-exactly : certificate_refusal L M P Z ≡ 0 ↔ ((list_refusal L ≡ 0) × (machine_refusal M P ≡ 0) × Certified L M P Z)
  accepts-exactly = (there, back)
    where
      there : certificate_refusal L M P Z ≡ 0 → (list_refusal L ≡ 0) × (machine_refusal M P ≡ 0) × Certified L M P Z
      there e =
          let l = list-passes e in
          let m = machine-passes e in
          (l, m, (certified-exactly L M P Z).0 (passes 21 (bad_certificate L M P Z) [] (sym (then-22 l m) ∙ e)).0)

      back : (list_refusal L ≡ 0) × (machine_refusal M P ≡ 0) × Certified L M P Z → certificate_refusal L M P Z ≡ 0
      back w = then-22 w.0 w.1 ∙ last 22 ((certified-exactly L M P Z).1 w.2)

  pub gives-22 : certificate_refusal L M P Z ≡ 22 ↔ ((list_refusal L ≡ 0) × (machine_refusal M P ≡ 0) × (Certified L M P Z → ⊥))
  gives-22 = (there, back)
    where
      there : certificate_refusal L M P Z ≡ 22 → (list_refusal L ≡ 0) × (machine_refusal M P ≡ 0) × (Certified L M P Z → ⊥)
      there e =
          let l : list_refusal L ≡ 0 = passed (list_refusal L) (λ n. omega (arith, list-first n, verdict-lt 4 (list_rules L) (lit< tt) refl, e)) in
          let m : machine_refusal M P ≡ 0 = passed (machine_refusal M P) (λ n. only-24 (bad_machine M P) (sym (machine-second l n) ∙ e)) in
          (l, m, λ c. omega (arith, accepts-exactly.1 (l, m, c), e))

      back : (list_refusal L ≡ 0) × (machine_refusal M P ≡ 0) × (Certified L M P Z → ⊥) → certificate_refusal L M P Z ≡ 22
      back w = then-22 w.0 w.1 ∙ go (bad_certificate L M P Z) refl
        where
          go : (b : Bool) → bad_certificate L M P Z ≡ b → verdict ((22, bad_certificate L M P Z) ∷ []) ≡ 22
          go true q = stop 22 [] q
          go false q = absurd (w.2 ((certified-exactly L M P Z).0 q))
