-- What the loops over rows leave: a leaf's row, a state that may come after more, a row written again. Assumes nothing.
use Prim.Native.Nat.{ℕ, suc, ◌+◌, ◌*◌, ◌^◌, ◌≤◌, ◌<◌}
use mathlib.Core.Path.{◌≡◌, refl, sym, ap, subst, ◌∙◌}
use mathlib.Core.Bool.{Bool, true, false, ◌&&◌, ◌||◌}
use mathlib.Core.List.{List}
use mathlib.Core.Logic.{◌⊎◌, inl, inr}
use native.Mathlib.Omega.{arith}
use native.Mathlib.Decide.{dec_lt}
use native.Mathlib.Nat.{lt_of_not-le}
use lib.ListN.{length}
use lib.Pow.{pow_pos}
use lib.Bits.{or_lt}
use Rattle.numbers.specs.Number.{placed}
use Rattle.sets.specs.Set.{states, byte_count, set_size, set_bytes, byte_set_bytes, holds, join}
use Rattle.sets.proofs.Sets.{holds-join, or-false}
use Rattle.text_walk.specs.inner.Rows.{row_size, rows_size, prior_at, bytes_of, Leafed, Entered, Seamed, Copied}
use Rattle.text_walk.proofs.Buffer.{prior-there, prior-other, prior-bytes, prior-long, bytes-there, bytes-other, bytes-prior, bytes-long}
use Rattle.text_walk.proofs.Sum.{keeps-refl, same_refl, same_then}
use Rattle.sets_words.specs.inner.Further.{further}
use Rattle.sets_words.proofs.Further.{further-lt}

pub join-lt : (m a b : ℕ) → a < 2 ^ m → b < 2 ^ m → join a b < 2 ^ m
unfolding join
join-lt m a b = or_lt m a b

-- ---- a leaf

pub leafed : (A B C : List ℕ) (t S : ℕ) → length A ≡ rows_size → t < states → S < 2 ^ byte_count
    → B ≡ placed A (row_size * t) (set_bytes 0) → C ≡ placed B (row_size * t + set_size) (byte_set_bytes S) → Leafed t S A C
leafed A B C t S l h s e f =
    let l_b : length B ≡ length A = ap length e ∙ prior-long A t h l 0 in
    let l_b2 : length B ≡ rows_size = l_b ∙ l in
    record {
      kept = record {
        long = ap length f ∙ bytes-long B t h l_b2 S ∙ l_b;
        below = λ u g.
            let n : u ≡ t → ⊥ = λ z. omega arith in
            record {
              prior = ap (λ z. prior_at z u) f ∙ bytes-prior B t h l_b2 S u ∙ ap (λ z. prior_at z u) e ∙ prior-other A t h l 0 u n;
              bytes = ap (λ z. bytes_of z u) f ∙ bytes-other B t h l_b2 S u n ∙ ap (λ z. bytes_of z u) e ∙ prior-bytes A t h l 0 u;
            };
      };
      prior = λ _. ap (λ z. prior_at z t) f ∙ bytes-prior B t h l_b2 S t ∙ ap (λ z. prior_at z t) e ∙ prior-there A t h l 0 (pow_pos states);
      bytes = λ _. ap (λ z. bytes_of z t) f ∙ bytes-there B t h l_b2 S s;
    }

pub leafed-none : (A : List ℕ) (t S : ℕ) → states ≤ t → Leafed t S A A
leafed-none A t S h = record { kept = keeps-refl t A; prior = λ g. absurd (omega arith); bytes = λ g. absurd (omega arith) }

-- ---- a state entered

pub entered : (A B : List ℕ) (t F S : ℕ) → length A ≡ rows_size → t < states → S < 2 ^ states → S ≡ join (prior_at A t) F → B ≡ placed A (row_size * t) (set_bytes S) → Entered F t A B
entered A B t F S l h s q e = record {
  long = ap length e ∙ prior-long A t h l S;
  bytes = λ u. ap (λ z. bytes_of z u) e ∙ prior-bytes A t h l S u;
  others = λ u n. ap (λ z. prior_at z u) e ∙ prior-other A t h l S u n;
  there = ap (λ z. prior_at z t) e ∙ prior-there A t h l S s ∙ q;
}

module _ (F G low : ℕ) (A : List ℕ) where
  pub seam-none : Seamed F G low low A A
  seam-none = record { long = refl; bytes = λ t. refl; outside = λ t h. refl; inside = λ t a b q. absurd (omega arith) }

  seam-top : (t u : ℕ) → low ≤ u → u < t + 1 → (u < t) ⊎ (u ≡ t)
  seam-top t u a b = elim (dec_lt u t) [ yes l ↦ inl l | no g ↦ inr (omega (arith, lt_of_not-le (λ (l : suc u ≤ t). g l))) ]

  pub seam-in : (R B : List ℕ) (t : ℕ) → low ≤ t → holds G t ≡ true → Entered F t R B → Seamed F G low t A R → Seamed F G low (t + 1) A B
  seam-in R B t lo g w s = record {
    long = w.long ∙ s.long;
    bytes = λ u. w.bytes u ∙ s.bytes u;
    outside = λ u h. w.others u (λ z. out u z h) ∙ s.outside u (wide u h);
    inside = λ u a b q. within u a q (seam-top t u a b);
  }
    where
      out : (u : ℕ) → u ≡ t → (u < low) ⊎ (t + 1 ≤ u) → ⊥
      out u z (inl h) = omega arith
      out u z (inr h) = omega arith

      wide : (u : ℕ) → (u < low) ⊎ (t + 1 ≤ u) → (u < low) ⊎ (t ≤ u)
      wide u (inl h) = inl h
      wide u (inr h) = inr (omega arith)

      within : (u : ℕ) → low ≤ u → (q : ℕ) → (u < t) ⊎ (u ≡ t) → holds (prior_at B u) q ≡ (holds (prior_at A u) q || (holds F q && holds G u))
      within u a q (inl h) = ap (λ z. holds z q) (w.others u (λ z. omega arith)) ∙ s.inside u a h q
      within u a q (inr e) =
          ap (λ z. holds (prior_at B z) q) e ∙ ap (λ z. holds z q) w.there ∙ holds-join (prior_at R t) F q ∙ ap (λ z. holds z q || holds F q) (s.outside t (inr (omega arith)))
          ∙ ap (λ z. holds (prior_at A t) q || z) (sym (ap (λ z. holds F q && z) g ∙ and-true (holds F q))) ∙ ap (λ z. holds (prior_at A z) q || (holds F q && holds G z)) (sym e)
        where
          and-true : (a : Bool) → (a && true) ≡ a
          and-true true = refl
          and-true false = refl

  -- no state from t to v
  pub seam-skip : (R : List ℕ) (t v : ℕ) → low ≤ t → t ≤ v → ((u : ℕ) → t ≤ u → u < v → holds G u ≡ false) → Seamed F G low t A R → Seamed F G low v A R
  seam-skip R t v lo le g s = record {
    long = s.long;
    bytes = s.bytes;
    outside = λ u h. s.outside u (wide u h);
    inside = λ u a b q. elim (dec_lt u t) [ yes l ↦ s.inside u a l q | no n ↦ late u q b (omega (arith, lt_of_not-le (λ (l : suc u ≤ t). n l))) ];
  }
    where
      wide : (u : ℕ) → (u < low) ⊎ (v ≤ u) → (u < low) ⊎ (t ≤ u)
      wide u (inl h) = inl h
      wide u (inr h) = inr (omega arith)

      and_none : (a : Bool) → (a && false) ≡ false
      and_none true = refl
      and_none false = refl

      late : (u q : ℕ) → u < v → t ≤ u → holds (prior_at R u) q ≡ (holds (prior_at A u) q || (holds F q && holds G u))
      late u q b h =
          ap (λ z. holds z q) (s.outside u (inr h))
          ∙ sym (ap (λ z. holds (prior_at A u) q || (holds F q && z)) (g u h b) ∙ ap (λ z. holds (prior_at A u) q || z) (and_none (holds F q)) ∙ or-false (holds (prior_at A u) q))

-- ---- rows written again

pub copied-one : (A B C : List ℕ) (t d S L : ℕ) → length A ≡ rows_size → t + d < states → S ≡ further d (prior_at A t) → L ≡ bytes_of A t → L < 2 ^ byte_count
    → B ≡ placed A (row_size * (t + d)) (set_bytes S) → C ≡ placed B (row_size * (t + d) + set_size) (byte_set_bytes L) → Copied t 1 d A C
copied-one A B C t d S L l h p q s e f =
    let l_b : length B ≡ length A = ap length e ∙ prior-long A (t + d) h l S in
    let l_b2 : length B ≡ rows_size = l_b ∙ l in
    record {
      long = ap length f ∙ bytes-long B (t + d) h l_b2 L ∙ l_b;
      outside = λ u g.
          let n : u ≡ t + d → ⊥ = λ z. out u z g in
          record {
            prior = ap (λ z. prior_at z u) f ∙ bytes-prior B (t + d) h l_b2 L u ∙ ap (λ z. prior_at z u) e ∙ prior-other A (t + d) h l S u n;
            bytes = ap (λ z. bytes_of z u) f ∙ bytes-other B (t + d) h l_b2 L u n ∙ ap (λ z. bytes_of z u) e ∙ prior-bytes A (t + d) h l S u;
          };
      prior = λ u a b.
          let i : u ≡ t = omega arith in
          ap (λ z. prior_at C (z + d)) i ∙ ap (λ z. prior_at z (t + d)) f ∙ bytes-prior B (t + d) h l_b2 L (t + d) ∙ ap (λ z. prior_at z (t + d)) e
          ∙ prior-there A (t + d) h l S (subst (λ z. z < 2 ^ states) (sym p) (further-lt (prior_at A t) d)) ∙ p ∙ ap (λ z. further d (prior_at A z)) (sym i);
      bytes = λ u a b.
          let i : u ≡ t = omega arith in
          ap (λ z. bytes_of C (z + d)) i ∙ ap (λ z. bytes_of z (t + d)) f ∙ bytes-there B (t + d) h l_b2 L s ∙ q ∙ ap (λ z. bytes_of A z) (sym i);
    }
  where
    out : (u : ℕ) → u ≡ t + d → (u < t + d) ⊎ (t + d + 1 ≤ u) → ⊥
    out u z (inl h) = omega arith
    out u z (inr h) = omega arith

pub copied_none : (A : List ℕ) (k d : ℕ) → Copied k 0 d A A
copied_none A k d = record { long = refl; outside = λ t _. same_refl A t; prior = λ t a b. absurd (omega arith); bytes = λ t a b. absurd (omega arith) }

pub copied_more : (A R B : List ℕ) (k n d : ℕ) → n < d → Copied k n d A R → Copied (k + n) 1 d R B → Copied k (n + 1) d A B
copied_more A R B k n d h s w = record {
  long = w.long ∙ s.long;
  outside = λ u g. same_then A R B u (s.outside u (early u g)) (w.outside u (late u g));
  prior = λ u a b. elim (dec_lt u (k + n)) [ yes l ↦ (w.outside (u + d) (inl (omega arith))).prior ∙ s.prior u a l | no g ↦ last u (omega (arith, lt_of_not-le (λ (l : suc u ≤ k + n). g l))) ];
  bytes = λ u a b. elim (dec_lt u (k + n)) [ yes l ↦ (w.outside (u + d) (inl (omega arith))).bytes ∙ s.bytes u a l | no g ↦ lastb u (omega (arith, lt_of_not-le (λ (l : suc u ≤ k + n). g l))) ];
}
  where
    early : (u : ℕ) → (u < k + d) ⊎ (k + d + (n + 1) ≤ u) → (u < k + d) ⊎ (k + d + n ≤ u)
    early u (inl g) = inl g
    early u (inr g) = inr (omega arith)

    late : (u : ℕ) → (u < k + d) ⊎ (k + d + (n + 1) ≤ u) → (u < k + n + d) ⊎ (k + n + d + 1 ≤ u)
    late u (inl g) = inl (omega arith)
    late u (inr g) = inr (omega arith)

    last : (u : ℕ) → u ≡ k + n → prior_at B (u + d) ≡ further d (prior_at A u)
    last u e = w.prior u (omega arith) (omega arith) ∙ ap (further d) (s.outside u (inl (omega arith))).prior

    lastb : (u : ℕ) → u ≡ k + n → bytes_of B (u + d) ≡ bytes_of A u
    lastb u e = w.bytes u (omega arith) (omega arith) ∙ (s.outside u (inl (omega arith))).bytes
