-- Which edge record is answered: none, where the list is refused or no record leads so, else the first that does. Assumes nothing.
use Prim.Native.Nat.{ℕ, suc, ◌≤◌, ◌<◌}
use mathlib.Core.Path.{◌≡◌, refl, sym, ap, ◌∙◌}
use mathlib.Core.Bool.{Bool, true, false, not}
use mathlib.Core.List.{List, [], ◌∷◌}
use native.Mathlib.Omega.{arith}
use borrow.Author.Tests.{ne_eqb, eq-eqb, le-ltb}
use Rattle.std.specs.Prelude.{Some, None}
use Rattle.std.specs.Bool.{then_some}
use Rattle.rules.specs.Scan.{some, first}
use Rattle.rules.specs.Rules.{verdict}
use Rattle.rules.proofs.Rules.{stop, last, verdict-then, verdict-refused}
use Rattle.rules.proofs.Scanning.{some-none, some-intro, first-at}
use Rattle.list.specs.List.{list_refusal, list_rules, records}
use Rattle.list_why.specs.declared.Found.{Found}
use Rattle.list_why.specs.Reason.{links, edge_rules, Finds}

module _ (L : List ℕ) (s c t : ℕ) where
  -- a refusal answers the place 0
  refused : (f : Found) → f.refusal ≡ verdict (edge_rules L s c t) → (f.refusal ≡ 0 → ⊥) → f.place ≡ 0 → Finds L s c t f
  refused f e ne z = record { refuses = e; place = rw (ne_eqb (verdict (edge_rules L s c t)) 0 (λ v. ne (e ∙ v))) z }

  -- 1 to 3
  pub list-finds : (f : Found) → f.refusal ≡ list_refusal L → (f.refusal ≡ 0 → ⊥) → f.place ≡ 0 → Finds L s c t f
  list-finds f e ne z = refused f (e ∙ sym (verdict-refused (list_rules L) ((26, not (some (records L) (links L s c t))) ∷ []) (λ v. ne (e ∙ v)))) ne z

  past : list_refusal L ≡ 0 → verdict (edge_rules L s c t) ≡ verdict ((26, not (some (records L) (links L s c t))) ∷ [])
  past v = verdict-then (list_rules L) ((26, not (some (records L) (links L s c t))) ∷ []) refl v

  -- 26
  pub none-finds : (f : Found) → list_refusal L ≡ 0 → then_some (some (records L) (links L s c t)) (first (records L) (links L s c t)) ≡ None → f.refusal ≡ 26 → f.place ≡ 0 → Finds L s c t f
  none-finds f v n e z = refused f (e ∙ sym (past v ∙ stop 26 [] (ap not (none (some (records L) (links L s c t)) n)))) (λ w. omega (arith, e, w)) z
    where
      none : (b : Bool) → then_some b (first (records L) (links L s c t)) ≡ None → b ≡ false
      none true q = absurd cc
      none false q = refl

  -- the first
  pub first_finds : (f : Found) → list_refusal L ≡ 0 → then_some (some (records L) (links L s c t)) (first (records L) (links L s c t)) ≡ Some f.place → f.refusal ≡ 0 → Finds L s c t f
  first_finds f v p e = go (some (records L) (links L s c t)) refl p
    where
      go : (b : Bool) → some (records L) (links L s c t) ≡ b → then_some b (first (records L) (links L s c t)) ≡ Some f.place → Finds L s c t f
      go false n q = absurd cc
      go true h q =
          let w = past v ∙ last 26 (ap not h) in
          let z : f.place ≡ first (records L) (links L s c t) = cc in
          record { refuses = e ∙ sym w; place = rw (eq-eqb (verdict (edge_rules L s c t)) 0 w) z }

-- ---- for the loop that looks for it

pub none_more : (p : ℕ → Bool) (i : ℕ) → some i p ≡ false → p i ≡ false → some (suc i) p ≡ false
unfolding some
none_more p i a b = rw (a, b)

-- and what it has then
pub found_at : (n : ℕ) (p : ℕ → Bool) (i : ℕ) → i < n → some i p ≡ false → p i ≡ true → Some i ≡ then_some (some n p) (first n p)
found_at n p i l a b = rw (some-intro n p i l b, first-at n p i l a b) refl

pub found-none : (n : ℕ) (p : ℕ → Bool) → some n p ≡ false → None ≡ then_some (some n p) (first n p)
found-none n p e = rw e refl

-- a number over 255 is no byte
pub no-byte : (L : List ℕ) (s c t : ℕ) → 256 ≤ c → some (records L) (links L s c t) ≡ false
no-byte L s c t h = some-none (records L) (links L s c t) (λ i l. rw (le-ltb c 256 h))
