-- ASCII letter case exchanged, in words: capital and small letters by 32, every other byte kept, and its own inverse. Assumes nothing.
use Prim.Native.Nat.{ℕ, ◌+◌, ◌≤◌}
use mathlib.Core.Path.{◌≡◌, refl, ◌∙◌}
use mathlib.Core.Bool.{Bool, true, false, ◌&&◌}
use mathlib.Core.Logic.{◌↔◌}
use native.Mathlib.Omega.{arith}
use lib.Dec.{leb}
use borrow.Author.Tests.{leb-true, le-leb}
use Rattle.rules.proofs.Scanning.{both}
use Rattle.list.specs.Automaton.{capital, small, exchanged}

-- c lies between a and b
pub between-words : (a b c : ℕ) → (leb a c && leb c b) ≡ true ↔ ((a ≤ c) × (c ≤ b))
between-words a b c =
    (λ e. let r = both (leb a c) (leb c b) e in (leb-true a c r.0, leb-true c b r.1), λ w. rw (le-leb a c w.0, le-leb c b w.1))

pub outside : (a b c : ℕ) → ((a ≤ c) × (c ≤ b) → ⊥) → (leb a c && leb c b) ≡ false
outside a b c n = go (leb a c && leb c b) refl
  where
    go : (t : Bool) → (leb a c && leb c b) ≡ t → t ≡ false
    go false e = refl
    go true e = absurd (n ((between-words a b c).0 e))

-- a capital letter, 41 to 5A in hex, gives the small one
pub exchanged-capital : (c : ℕ) → 65 ≤ c → c ≤ 90 → exchanged c ≡ c + 32
exchanged-capital c l h = rw ((between-words 65 90 c).1 (l, h))

-- a small letter, 61 to 7A, gives the capital one
pub exchanged-small : (c : ℕ) → 97 ≤ c → c ≤ 122 → exchanged c + 32 ≡ c
exchanged-small c l h = rw (outside 65 90 c (λ w. omega (arith, l, w.1)), (between-words 97 122 c).1 (l, h)) (omega arith)

-- and every other byte stays
pub exchanged-other : (c : ℕ) → ((65 ≤ c) × (c ≤ 90) → ⊥) → ((97 ≤ c) × (c ≤ 122) → ⊥) → exchanged c ≡ c
exchanged-other c m n = rw (outside 65 90 c m, outside 97 122 c n)

-- exchanged twice, a byte is what it was
pub exchanged-twice : (c : ℕ) → exchanged (exchanged c) ≡ c
exchanged-twice c = by-letter (capital c) refl (small c) refl
  where
    by-letter : (a : Bool) → capital c ≡ a → (b : Bool) → small c ≡ b → exchanged (exchanged c) ≡ c
    by-letter true e b f =
        let w = (between-words 65 90 c).0 e in
        let s = exchanged-small (c + 32) (omega (arith, w.0)) (omega (arith, w.1)) in
        rw (exchanged-capital c w.0 w.1) (omega (arith, s))
    by-letter false e true f =
        let w = (between-words 97 122 c).0 f in
        let s = exchanged-small c w.0 w.1 in
        exchanged-capital (exchanged c) (omega (arith, s, w.0)) (omega (arith, s, w.1)) ∙ s
    by-letter false e false f = rw (e, f) (rw (e, f))
