-- A run as the loop writes it, from its end to its beginning. Assumes nothing.
use Prim.Native.Nat.{ℕ, suc, ◌+◌, ◌≤◌, ◌<◌, ◌^◌}
use mathlib.Core.Bool.{true}
use mathlib.Core.Path.{◌≡◌, refl, sym, ap, ap₂, ◌∙◌}
use mathlib.Core.List.{List, [], ◌∷◌, ◌++◌, append_assoc}
use native.Mathlib.Omega.{arith}
use lib.ListN.{length, get_or, drop, set, length-set}
use lib.Seq.{drop-cons, drop-set-lt, get_or-set_same}
use native.Mathlib.Numerals.{add-one}
use Rattle.std.specs.Prelude.{Option, Some}
use Rattle.sets.specs.Set.{states, holds}
use Rattle.list_why.specs.inner.Asked.{some_state}
use Rattle.list_why.proofs.Sources.{state-of, state-some, state-is}
use Rattle.list_why.proofs.Traces.{front-lt, source_in}
use Rattle.list_why.specs.Reason.{front, source_of, trace}

-- what is written stands from its place on
written : (out : List ℕ) (i t : ℕ) → i < length out → drop i (set out i t) ≡ t ∷ drop (suc i) out
written out i t h =
    drop-cons (set out i t) i 0 (rw length-set h)
    ∙ ap₂ (λ (x : ℕ) (xs : List ℕ). x ∷ xs) (get_or-set_same out i t 0 h) (drop-set-lt (suc i) out i t (omega arith))

-- before place i is written, where t belongs: t is in the frontier there, and with the trace to t before it, what stands behind i is what is to be left in
-- the end
pub record Back (L : List ℕ) (F : ℕ) (bs : List ℕ) (n e : ℕ) (out₀ out : List ℕ) (t i : ℕ) : Type 0 where
  pub within : i ≤ n
  pub state : holds (front L F bs i) t ≡ true
  pub kept : length out ≡ length out₀
  pub left : trace L F bs i t ++ drop (suc i) out ≡ trace L F bs n e ++ drop (suc n) out₀

module _ {L : List ℕ} {F : ℕ} {bs : List ℕ} {n e : ℕ} {out₀ : List ℕ} where
  -- nothing is written yet
  pub back_start : holds (front L F bs n) e ≡ true → Back L F bs n e out₀ out₀ e n
  back_start h = record { within = omega arith; state = h; kept = refl; left = refl }

  module _ (small : F < 2 ^ states) (long : n ≤ length bs) where
    -- t is a state
    pub back-state : {out : List ℕ} {t i : ℕ} → Back L F bs n e out₀ out t i → t < states
    back-state {out} {t} {i} b = state-of (front L F bs i) t (front-lt L F bs small i (omega (arith, b.within))) b.state

    -- there is a state before it
    pub back-source : {out : List ℕ} {t : ℕ} (m : ℕ) → Back L F bs n e out₀ out t (suc m)
        → some_state (source_of L (front L F bs m) (get_or bs m 0) t) ≡ Some (source_of L (front L F bs m) (get_or bs m 0) t)
    back-source {out} {t} m b =
        let k : m < length bs = omega (arith, b.within) in
        let h = (source_in L F bs small m k t b.state).0 in
        state-some (source_of L (front L F bs m) (get_or bs m 0) t) (state-of (front L F bs m) (source_of L (front L F bs m) (get_or bs m 0) t) (front-lt L F bs small m (omega arith)) h)

    -- t is written, and that state found
    pub back_more : {out : List ℕ} {t : ℕ} (m : ℕ) → Back L F bs n e out₀ out t (suc m) → n < length out₀
        → (s : ℕ) → some_state (source_of L (front L F bs m) (get_or bs m 0) t) ≡ Some s → Back L F bs n e out₀ (set out (suc m) t) s m
    unfolding trace
    back_more {out} {t} m b l s q =
        let w : suc m < length out = omega (arith, b.kept, b.within) in
        let h = (state-is (source_of L (front L F bs m) (get_or bs m 0) t) s q).0 in
        let k : m < length bs = omega (arith, b.within) in
        record {
          within = omega (arith, b.within);
          state = rw h at ((source_in L F bs small m k t b.state).0);
          kept = length-set out (suc m) t ∙ b.kept;
          left =
              ap₂ (λ (x : ℕ) (xs : List ℕ). trace L F bs m x ++ xs) (sym h) (written out (suc m) t w)
              ∙ sym (append_assoc (trace L F bs m (source_of L (front L F bs m) (get_or bs m 0) t)) (t ∷ []) (drop (suc (suc m)) out))
              ∙ b.left;
        }

    -- as the code finds it
    pub back_found : {out : List ℕ} {t i : ℕ} (m : ℕ) → i ≡ suc m → Back L F bs n e out₀ out t i → (r : Option ℕ) (G : ℕ) → r ≡ some_state (source_of L G (get_or bs m 0) t)
        → G ≡ front L F bs m → r ≡ Some (source_of L (front L F bs m) (get_or bs m 0) t)
    back_found {out} {t} {i} m q b r G f g =
        let w : Back L F bs n e out₀ out t (suc m) = rw q at b in
        f ∙ ap (λ (x : ℕ). some_state (source_of L x (get_or bs m 0) t)) g ∙ back-source m w

    pub back_step : {out : List ℕ} {t i : ℕ} (m : ℕ) → i ≡ suc m → Back L F bs n e out₀ out t i → n < length out₀ → (r : Option ℕ) (G s : ℕ)
        → r ≡ some_state (source_of L G (get_or bs m 0) t) → G ≡ front L F bs m → r ≡ Some s → Back L F bs n e out₀ (set out (m + 1) t) s m
    back_step {out} {t} {i} m q b l r G s f g h =
        let w : Back L F bs n e out₀ out t (suc m) = rw q at b in
        rw add-one (back_more m w l s (ap (λ (x : ℕ). some_state (source_of L x (get_or bs m 0) t)) (sym g) ∙ sym f ∙ h))

  -- the first is written last
  pub back_end : {out : List ℕ} {t : ℕ} → Back L F bs n e out₀ out t 0 → n < length out₀ → set out 0 t ≡ trace L F bs n e ++ drop (suc n) out₀
  unfolding trace
  back_end {out} {t} b l =
      let w : 0 < length out = omega (arith, b.kept) in
      written out 0 t w ∙ b.left
