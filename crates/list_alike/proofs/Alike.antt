-- Where every edge goes alike on two bytes, every set of states steps alike on both; and what the loop over the bytes keeps. Assumes nothing.
use Rattle.std.proofs.Common.{◌≡◌, ℕ, zero, suc, ◌+◌, ◌<◌, Bool, true, false, not, ◌&&◌, ◌||◌, List, length, get_or, set, sym, refl, ap, ◌∙◌, arith, get_or-set_other, get_or-set_same}
use native.Mathlib.Decide.{ℕ_discrete}
use Rattle.sets.specs.Set.{states, holds}
use Rattle.rules.specs.Scan.{gather}
use Rattle.rules.proofs.Scanning.{every-at}
use Rattle.list.specs.List.{records, from, target}
use Rattle.list.specs.Automaton.{edge, leaves, step}
use Rattle.list_alike.specs.inner.Alike.{alike_at, edges_alike, Alike}

both-or-neither : (a b : Bool) → (a && b || not a && not b) ≡ true → a ≡ b
both-or-neither true true h = refl
both-or-neither true false h = sym h
both-or-neither false true h = h
both-or-neither false false h = refl

-- what is gathered of numbers that pass alike is the same
gather-alike : (m : ℕ) (p q : ℕ → Bool) (to : ℕ → ℕ) (n : ℕ) → ((i : ℕ) → i < n → p i ≡ q i) → gather m p to n ≡ gather m q to n
unfolding gather
gather-alike m p q to zero h = refl
gather-alike m p q to (suc n) h = rw (h n (omega arith), gather-alike m p q to n (λ i l. h i (omega arith)))

pub alike-steps : (L : List ℕ) (c d : ℕ) → edges_alike L c d ≡ true → Alike L c d
unfolding edges_alike step
alike-steps L c d h F =
    gather-alike states (leaves L F (edge L c)) (leaves L F (edge L d)) (target L) (records L)
    (λ i l. ap (λ (b : Bool). b && holds F (from L i)) (both-or-neither (edge L c i) (edge L d i) (every-at (records L) (alike_at L c d) h i l)))

-- one byte more has its byte
pub alikes-more : (L A : List ℕ) (c r : ℕ) → c < length A → ((d : ℕ) → d < c → Alike L (get_or A d 0) d) → Alike L r c → (d : ℕ) → d < c + 1 → Alike L (get_or (set A c r) d 0) d
alikes-more L A c r room h a d l F =
    elim (ℕ_discrete d c) [
      | yes q ↦ rw (q, get_or-set_same A c r 0 room) (a F)
      | no q ↦ ap (λ (x : ℕ). step L F x) (get_or-set_other A c d r 0 q) ∙ h d (omega (arith, q)) F
    ]
